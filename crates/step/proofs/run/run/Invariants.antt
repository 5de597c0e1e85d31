use Rattle.std.proofs.Common.{◌≡◌, ◌-◌}
use Rattle.std.specs.Prelude.{None}
use Rattle.machine.specs.Marked.{both}
use Rattle.machine.specs.Run.{run}
use Rattle.step.specs.Tasks.{open_of}
use Rattle.step.specs.RunLaws.{Going}
use Rattle.step.proofs.run.run.Given as goal

abbrev pub invariant-loop-r : goal.invariant-loop-r
invariant-loop-r l =
    (l.r.stop ≡ None)
    × Going l.budget l.map l.initial.mem l.initial.marks
    (run l.budget 0 l.map (open_of l.initial.r.core) l.initial.cells (both l.initial.mem l.initial.marks))
    l.r.steps (open_of l.r.core) l.cells l.mem l.marks

abbrev pub decreases-loop-r : goal.decreases-loop-r
decreases-loop-r l = l.budget - l.r.steps
