-- The code's test is the definition's; the words are taken apart and put together by what the callees ensure.
use Rattle.std.specs.Prelude.{List, ℕ, length}
use Rattle.std.proofs.Common.{ap, ◌∙◌, eq-eqb, ne_eqb}
use Rattle.machine.specs.Run.{reset_open, reset_cells}
use Rattle.v850.specs.Block.{BYTES, bytes_of, words_of, map_in}
use Rattle.v850.specs.Entry.{reset}
use Rattle.v850.proofs.entry.v850_reset.Goals as goal

pub returns-then-block-ne-BYTES : goal.returns-then-block-ne-BYTES
unfolding reset
returns-then-block-ne-BYTES c = rw (ne_eqb (length c.args.block.now) BYTES c.if-block-ne-BYTES.true)

pub returns : goal.returns
unfolding reset
returns c =
    rw (eq-eqb (length c.args.block.now) BYTES c.if-block-ne-BYTES.false)
    (ap (λ (b : List ℕ). record { answer = 0; block = b })
    (c.write.ensures ∙ ap bytes_of (c.reset.ensures ∙ ap (words_of reset_open reset_cells) (c.map-map.ensures ∙ ap map_in c.read.ensures))))
