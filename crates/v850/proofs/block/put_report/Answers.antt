-- Two words over all eight bytes: nothing of the old report stays (`two-words`).
use Rattle.v850.proofs.Fill.{two-words}
use Rattle.v850.proofs.block.put_report.Goals as goal

pub returns : goal.returns
returns c = two-words c.args.report.now c.put_word.new.b _ _ _ c.requires c.put_word.ensures c.put_word-2.ensures
