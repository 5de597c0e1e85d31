use Rattle.word.specs.Extend.{sum24}
use Rattle.step.specs.StepLaws.{fits}
use Rattle.step.proofs.transfer.store_of.Goals as goal

pub store-requires : goal.store-requires
store-requires c = fits c.requires c.args.size 2 (sum24 c.in_ok-b.b c.args.disp) c.address-a.ensures c.find.ensures c.in-Some.is
