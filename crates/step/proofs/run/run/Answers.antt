-- What is left of the run from the state of each turn is the whole run.
use mathlib.Core.Path.{refl, ◌∙◌}
use native.Mathlib.Omega.{arith}
use Rattle.machine.specs.Marked.{both}
use Rattle.step.specs.RunLaws.{all_done, goes_on, stopped}
use Rattle.step.proofs.run.run.Goals as goal

pub loop-r-preserved-in-Ok : goal.loop-r-preserved-in-Ok
loop-r-preserved-in-Ok c =
    let loop' = c.loop-r in
    let going = loop'.invariant.1 in
    let stepped = rw c.in-Ok.is at (c.attend.ensures c.args.map.now (both loop'.mem loop'.marks)) in
    (loop'.invariant.0, goes_on loop'.r.core going (omega arith) c.in-Ok.next stepped refl refl c.after-r.result c.after-r.ensures)

pub returns-in-Err : goal.returns-in-Err
returns-in-Err c =
    let loop' = c.loop-r in
    let stepped = rw c.in-Err.is at (c.attend.ensures c.args.map.now (both loop'.mem loop'.marks)) in
    rw c.ended.ensures (stopped loop'.r.core loop'.invariant.1 (omega arith) c.in-Err.stop stepped ∙ rw c.pack.ensures)

pub returns : goal.returns
returns c =
    let loop' = c.loop-r in
    rw (c.ended-2.ensures, loop'.invariant.0) (all_done loop'.r.core loop'.invariant.1 (omega arith) ∙ rw c.pack.ensures)
