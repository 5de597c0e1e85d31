use native.Mathlib.Omega.{arith}
use Rattle.std.proofs.Common.{rules}
use Rattle.word.specs.Extend.{sum24}
use Rattle.insn.specs.declared.Size.TheVariants.{Byte}
use Rattle.machine.specs.Step.{bitwise, reveal, place}
use Rattle.step.specs.StepLaws.{fits}
use Rattle.step.proofs.transfer.bitwise.Goals as goal

pub bit_at-t-requires : goal.bit_at-t-requires
bit_at-t-requires c =
    let whole = fits c.requires.0 Byte 1 (sum24 c.in_ok-b.b c.args.disp) c.address-a.ensures c.find.ensures c.in-Some.is in
    (c.requires.1, omega (arith, whole.0), whole.1)

pub change-requires : goal.change-requires
change-requires c =
    let whole = fits c.requires.0 Byte 1 (sum24 c.in_ok-b.b c.args.disp) c.address-a.ensures c.find.ensures c.in-Some.is in
    (c.requires.1, omega (arith, whole.0))

pub returns : goal.returns
unfolding bitwise reveal place
returns c =
    let written = c.change.ensures c.args.marks.now in
    search (rules, written)
