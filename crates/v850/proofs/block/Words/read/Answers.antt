-- Word by word.
use Rattle.std.proofs.Common.{◌∙◌, sym, ext_get_or, arith, rules}
use Rattle.v850.specs.Block.{WORDS, word_at, words_from}
use Rattle.v850.specs.PackLaws.{words-length}
use Rattle.v850.proofs.Fill.{words_at, made}
use Rattle.v850.proofs.block.Words.read.Goals as goal

pub returns : goal.returns
returns c =
    let b = c.args.block.now in
    let r = c.from_fn.ensures.items in
    ext_get_or 0 c.from_fn.result (words_from b 0 WORDS) (r.long ∙ sym (words-length b 0 WORDS)) λ i h.
    made _ _ (word_at b) c.from_fn.result WORDS (λ x r q called. search rules) r.each i (omega (arith, r.long)) ∙ sym (words_at b WORDS i (omega (arith, r.long)))
