-- The registers, the eleven words behind them, and the map.
use Rattle.std.proofs.Common.{sym, ap, ◌∙◌, List, ℕ, ◌++◌, arith, length-append, take_at}
use Rattle.machine.specs.Marked.{both}
use Rattle.machine.specs.Psw.{REGS, psw}
use Rattle.v850.proofs.Fill.{eleven_stored}
use Rattle.v850.proofs.block.Words.of.Goals as goal

pub returns : goal.returns
returns c =
    let regs = c.copy_from_slice.new.self in
    let flags = c.psw.ensures ∙ ap (λ (l : List ℕ). (psw c.args.o (both l c.marks-tags.result.now)).on) (sym c.nums-nums.ensures) in
    eleven_stored (regs ++ _) _ _ _ _ _ _ _ _ _ _ _ _ _ _ _ _ _ (length-append regs _ ∙ omega arith)
    (take_at regs _ REGS c.copy_from_slice.ensures.len ∙ c.copy_from_slice.ensures.after) c.copy_from_slice-2.ensures.after flags
    c.reg_marks.ensures c.sys_marks.ensures
    ∙ rw (c.nums-nums.ensures, c.marks-tags.ensures, c.words.ensures)
