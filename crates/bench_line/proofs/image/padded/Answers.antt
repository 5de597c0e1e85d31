-- Zeros but for the first ones are zeros.
use Rattle.std.proofs.lemmas.List.{drop-replicate}
use Rattle.bench_line.proofs.image.padded.Goals as goal

pub returns : goal.returns
returns c = rw (drop-replicate, c.copy_from_slice.ensures.after)
