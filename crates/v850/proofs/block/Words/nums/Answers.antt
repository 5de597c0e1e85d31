-- The registers, and the six cells behind them, stored one by one (`six_stored`).
use Rattle.v850.proofs.Fill.{six_stored}
use Rattle.std.proofs.Common.{◌∙◌, arith, length-append, take_at, ◌++◌}
use Rattle.machine.specs.Psw.{REGS}
use Rattle.v850.proofs.block.Words.nums.Goals as goal

pub returns : goal.returns
returns c =
    let l = c.copy_from_slice.ensures.len in
    six_stored (c.copy_from_slice.new.self ++ _) _ _ _ _ _ _ _ (length-append c.copy_from_slice.new.self _ ∙ omega arith)
    (take_at c.copy_from_slice.new.self _ REGS l ∙ c.copy_from_slice.ensures.after)
