-- The part is the view, and where there is none an empty one is (`parted`).
use Rattle.v850.proofs.CallLaws.{parted}
use Rattle.v850.proofs.entry.region.Goals as goal

pub returns : goal.returns
returns c = parted c.args.block.now c.args.memory.now c.args.k c.args.memory.ref_ptr c.part.result _ c.part.ensures c.unwrap_or-from.ensures
