-- Either way of the test is the definition's: an input that is not run (`not_run`), or what its call leaves (`run-left`).
use Rattle.std.specs.Prelude.{refl}
use Rattle.bench_line.specs.LineLaws.{not_run, run-left}
use Rattle.bench_line.proofs.image.run.Goals as goal

pub returns-then-input-gt-IMAGE : goal.returns-then-input-gt-IMAGE
returns-then-input-gt-IMAGE c = not_run c.args.input.now c.start_block-block.ensures refl c.if-input-gt-IMAGE.true

pub returns : goal.returns
returns c =
    run-left c.args.input.now c.start_block-block.ensures refl _ c.if-input-gt-IMAGE.false
    c.padded-memory.ensures c.v850_run-answer.ensures
