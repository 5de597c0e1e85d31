use Rattle.machine.specs.Marked.{both}
use Rattle.step.specs.Tasks.{do_task}
use Rattle.step.proofs.exec.perform.Goals as goal

pub returns-in-Setf : goal.returns-in-Setf
unfolding do_task
returns-in-Setf c = rw c.in-Setf.is (c.setf.ensures (both c.args.mem.now c.args.marks.now))

pub returns-in-Stsr : goal.returns-in-Stsr
unfolding do_task
returns-in-Stsr c = rw c.in-Stsr.is (c.stsr.ensures (both c.args.mem.now c.args.marks.now))
