-- The five numbers of the line are those of what the run left (`line_wrote`).
use Rattle.bench_line.specs.LineLaws.{line_wrote}
use Rattle.bench_line.proofs.line.Goals as goal

pub returns : goal.returns
returns c =
    line_wrote c.args.input.now
    c.run-end.ensures
    c.word_at-steps.ensures c.word_at-pc.ensures
    c.word_at-psw.ensures c.word_at-place.ensures (rw c.line_of.ensures at c.copy_to.ensures)
