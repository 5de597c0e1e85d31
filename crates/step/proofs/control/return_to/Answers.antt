use Rattle.machine.specs.Step.{reveal, return}
use Rattle.std.proofs.Common.{rules}
use Rattle.step.proofs.control.return_to.Goals as goal

pub returns-in_err-a-clause-goes : goal.returns-in_err-a-clause-goes
unfolding return reveal
returns-in_err-a-clause-goes c = search rules

pub returns-in_err-b-clause-goes : goal.returns-in_err-b-clause-goes
unfolding return reveal
returns-in_err-b-clause-goes c = search rules

pub returns-clause-goes : goal.returns-clause-goes
unfolding return reveal
returns-clause-goes c = search rules
