-- Nothing comes before the next instruction while the steps are calm, or as a test says, so that each instruction is a step of the run.
use mathlib.Core.Path.{sym, ◌∙◌}
use native.Mathlib.Omega.{arith}
use Rattle.step.specs.Tasks.{open_of}
use Rattle.step.specs.RequestLaws.{step-instruction}
use Rattle.step.specs.RunLaws.{goes_on, stopped, still_calm}
use Rattle.step.proofs.run.instructions.Goals.{then-not-is_calm+else-acts, else-not-is_calm}
use Rattle.step.proofs.run.instructions.Goals as goal

pub returns-then-acts : goal.returns-then-acts
returns-then-acts c =
    let loop' = c.loop-n in
    let stepped = step-instruction c.args.map.now (open_of loop'.o) _ _ loop'.invariant.0 (rw c.in-Ok.is at c.instruction.ensures) in
    let g = goes_on loop'.o loop'.invariant.2 (omega arith) c.in-Ok.next stepped c.instruction.auto.mem c.instruction.auto.marks c.after-o.result c.after-o.ensures in
    (g.ends, (omega arith, omega arith, g.formed, g.bytes))

pub returns-in-Err : goal.returns-in-Err
returns-in-Err c =
    let loop' = c.loop-n in
    let stepped = step-instruction c.args.map.now (open_of loop'.o) _ _ loop'.invariant.0 (rw c.in-Err.is at c.instruction.ensures) in
    (stopped loop'.o loop'.invariant.2 (omega arith) c.in-Err.stop stepped, tt)

pub loop-n-preserved : goal.loop-n-preserved
loop-n-preserved c =
    let loop' = c.loop-n in
    let stepped = step-instruction c.args.map.now (open_of loop'.o) _ _ loop'.invariant.0 (rw c.in-Ok.is at c.instruction.ensures) in (
      elim c.if-not-is_calm.branch [
        | then-not-is_calm+else-acts w ↦ sym w.acts.ensures ∙ w.if-acts.false
        | else-not-is_calm w ↦
            still_calm loop'.o c.after-o.result c.in-Ok.next loop'.invariant.0 c.after-o.ensures (sym c.is_calm.ensures ∙ w.if-not-is_calm.false)
      ],
      omega arith,
      goes_on loop'.o loop'.invariant.2 (omega arith) c.in-Ok.next stepped c.instruction.auto.mem c.instruction.auto.marks c.after-o.result c.after-o.ensures,
    )
