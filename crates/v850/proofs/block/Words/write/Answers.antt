-- After i turns the bytes of the first i words are there, and behind them the old ones.
use Rattle.std.proofs.Common.{refl, arith}
use Rattle.v850.specs.Block.{bytes_of}
use Rattle.v850.proofs.Fill.{bytes_turn, bytes_done}
use Rattle.v850.proofs.block.Words.write.Goals as goal

pub loop-i-init : goal.loop-i-init
unfolding bytes_of
loop-i-init c = refl

pub loop-i-preserved : goal.loop-i-preserved
loop-i-preserved c = bytes_turn c.args.self.now.0 c.args.block.now c.loop-i.block _ c.loop-i.i (omega arith) c.loop-i.invariant c.put_word.ensures

pub returns : goal.returns
returns c = bytes_done c.args.self.now.0 c.args.block.now c.loop-i.block c.loop-i.i (omega arith) (omega arith) c.loop-i.invariant
