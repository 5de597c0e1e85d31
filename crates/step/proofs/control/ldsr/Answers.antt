use Rattle.std.proofs.Common.{rules}
use Rattle.machine.specs.Step.{ldsr}
use Rattle.step.proofs.control.ldsr.Goals as goal

pub returns-in_default : goal.returns-in_default
unfolding ldsr
returns-in_default c m =
    let loaded = c.load_psw.ensures m in
    search rules
