use Rattle.std.proofs.Common.{◌≡◌, ◌-◌, ◌≤◌, false}
use Rattle.machine.specs.Marked.{both}
use Rattle.machine.specs.Run.{run}
use Rattle.step.specs.Tasks.{open_of, acts}
use Rattle.step.specs.RunLaws.{Going}
use Rattle.step.proofs.run.instructions.Given as goal

abbrev pub invariant-loop-n : goal.invariant-loop-n
invariant-loop-n l =
    (acts (open_of l.o) ≡ false)
    × (l.from ≤ l.n)
    × Going l.budget l.map l.initial.mem l.initial.marks
    (run (l.budget - l.from) l.from l.map (open_of l.initial.o) l.initial.cells (both l.initial.mem l.initial.marks))
    l.n (open_of l.o) l.cells l.mem l.marks
