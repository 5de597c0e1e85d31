use Rattle.std.proofs.Common.{◌≡◌, ◌++◌, ◌*◌, take, drop}
use Rattle.v850.specs.Block.{bytes_of}
use Rattle.v850.proofs.block.Words.write.Given as goal

abbrev pub invariant-loop-i : goal.invariant-loop-i
invariant-loop-i l = l.block ≡ bytes_of (take l.i l.self.0) ++ drop (4 * l.i) l.initial.block
