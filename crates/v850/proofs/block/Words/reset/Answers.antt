-- All but PSW and the map is 0: the words compute.
use Rattle.std.proofs.Common.{append-nil}
use Rattle.v850.specs.Block.{pack_bits}
use Rattle.v850.proofs.block.Words.reset.Goals as goal

pub returns : goal.returns
unfolding pack_bits
returns c = rw (append-nil, c.copy_from_slice.ensures.after)
