-- What is gathered from the last mark down are the marks as bits (`gathered-bits`).
use Rattle.std.proofs.Common.{◌≡◌, ◌∙◌, take, arith, length-take-le}
use Rattle.std.proofs.lemmas.Grind.{common_steps}
use Rattle.machine.specs.Psw.{REGS}
use Rattle.v850.specs.PackLaws.{below-take}
use Rattle.v850.proofs.Fill.{gathered, gathered-bits}
use Rattle.v850.proofs.block.reg_marks.Goals as goal

pub returns : goal.returns
returns c =
    let m = c.args.tags.now in
    let e : c.rfold.result ≡ gathered (take REGS m) = grind (arith, common_steps) in
    e ∙ gathered-bits (take REGS m) (below-take 2 m REGS (omega arith) c.requires.regs) (omega (arith, length-take-le REGS m (omega arith)))
