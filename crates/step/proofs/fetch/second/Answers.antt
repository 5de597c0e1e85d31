-- The place behind an even PC is even; what lies there, or not, goes the definition's way.
use mathlib.Core.Path.{refl}
use Rattle.machine.specs.Marked.{both}
use Rattle.word.specs.Extend.{sum24}
use Rattle.step.specs.FetchLaws.{next_even, half-fits, fetch-nowhere, halfword-goes}
use Rattle.step.proofs.fetch.second.Goals as goal

pub returns-in_default-clause-value : goal.returns-in_default-clause-value
returns-in_default-clause-value c o cs k at_pc =
    rw c.sum24.ensures
    (fetch-nowhere c.args.map.now (sum24 c.args.pc 2) (next_even c.args.pc c.requires.1) c.second.ensures o cs (both c.args.mem.now c.args.marks.now) refl k c.in_default.is)

pub halfword-requires : goal.halfword-requires
halfword-requires c = half-fits c.args.map.now (sum24 c.args.pc 2) (next_even c.args.pc c.requires.1) c.second.ensures c.requires.0 c.in-Some.is

pub returns-clause-value : goal.returns-clause-value
returns-clause-value c o cs k at_pc =
    halfword-goes c.args.map.now (sum24 c.args.pc 2) (next_even c.args.pc c.requires.1) c.second.ensures o cs (both c.args.mem.now c.args.marks.now) k c.in-Some.is
    (rw at_pc c.halfword.ensures.value)
