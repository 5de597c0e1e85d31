use mathlib.Core.Path.{refl}
use Rattle.machine.specs.Psw.{set_flags}
use Rattle.state.proofs.cells.Cells.set_flags.Goals as goal

pub returns-in-Quiet : goal.returns-in-Quiet
unfolding set_flags
returns-in-Quiet c = rw c.in-Quiet.is refl
