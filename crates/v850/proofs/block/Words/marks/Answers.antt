-- The registers' marks are their bits; the six cells behind them are stored one by one (`six_stored`).
use Rattle.std.proofs.Common.{◌≡◌, ◌∙◌, ◌++◌, length, get_or, length-append, take_at, arith}
use Rattle.machine.specs.Psw.{REGS}
use Rattle.v850.specs.Block.{at_reg_marks, at_sys_marks}
use Rattle.v850.specs.PartLaws.{byte_0}
use Rattle.v850.proofs.Fill.{six_stored, bits_there}
use Rattle.v850.proofs.block.Words.marks.Goals as goal

pub returns : goal.returns
returns c =
    let w = get_or c.args.self.now.0 at_reg_marks 0 in
    let t = c.loop-n.tag-items in
    let l : length t ≡ REGS = omega arith in
    rw (c.to_le_bytes.ensures, byte_0 (get_or c.args.self.now.0 at_sys_marks 0))
    (six_stored (t ++ _) _ _ _ _ _ _ _ (length-append t _ ∙ omega arith)
    (take_at t _ REGS l ∙ bits_there w t l (λ k h. c.loop-n.invariant k (omega arith))))
