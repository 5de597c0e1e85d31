-- Every byte of the block before the reset is known, so its reset computes.
use mathlib.Core.Path.{ap}
use Rattle.v850.specs.Block.{words_from}
use Rattle.v850.specs.Entry.{Reset, reset}
use Rattle.bench_line.proofs.image.start_block.Goals as goal

pub returns : goal.returns
unfolding reset words_from
returns c = ap (λ (x : Reset). x.block) (rw (c.copy_from_slice.ensures.after, c.to_le_bytes.ensures) at c.v850_reset.ensures)
