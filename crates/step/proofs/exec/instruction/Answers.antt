-- The halfwords go the definition's way, and what they decode to is in range.
use mathlib.Core.Path.{◌≡◌, sym, ◌∙◌}
use Prim.Native.Nat.{◌^◌, ◌<◌}
use native.Mathlib.Omega.{arith}
use Rattle.std.proofs.Common.{rules}
use Rattle.std.specs.Prelude.{Err}
use Rattle.insn.specs.declared.Decoded.{Decoded}
use Rattle.insn.specs.Coding.{decode_fields, decode}
use Rattle.machine.specs.Marked.{both}
use Rattle.machine.specs.Step.{completed, execute, instruction}
use Rattle.step.specs.Tasks.{open_of, went_of}
use Rattle.step.specs.TaskLaws.{fields-decoded}
use Rattle.step.specs.FetchLaws.{completed-long, completed-short}
use Rattle.step.proofs.exec.instruction.Goals.{in-0-to-23, in-24-to-47, in_default+in_ok-second-in_default}
use Rattle.step.proofs.exec.instruction.Goals as goal

pub returns-in_err-first : goal.returns-in_err-first
unfolding instruction
returns-in_err-first c =
    let m = both c.args.mem.now c.args.marks.now in
    let o = open_of c.args.o in
    let begun = rw c.pc-pc.ensures at (c.first.ensures.value o c.args.cells.now (λ h. completed h c.args.map.now o c.args.cells.now m) (sym c.pc-pc.ensures)) in
    let refused : went_of c.args.o c.from_residual.result ≡ Err c.in_err-first.field-0.0 = search rules in
    rw refused (rw c.in_err-first.was at begun)

pub returns-in_err-second-in_default : goal.returns-in_err-second-in_default
unfolding instruction
returns-in_err-second-in_default c =
    let m = both c.args.mem.now c.args.marks.now in
    let o = open_of c.args.o in
    let h = c.in_ok-first.first in
    let begun = rw c.pc-pc.ensures at (c.first.ensures.value o c.args.cells.now (λ h. completed h c.args.map.now o c.args.cells.now m) (sym c.pc-pc.ensures)) in
    let goes = rw c.in_ok-first.was at begun in
    let asks = completed-long h c.reg2_of-reg2.ensures c.opcode_of-opcode.ensures c.reg1_of-reg1.ensures c.args.map.now o c.args.cells.now m (omega arith) in
    let second = rw c.pc-pc.ensures at (c.second.ensures.value o c.args.cells.now (λ w. execute (decode_fields c.reg2_of-reg2.result c.opcode_of-opcode.result c.reg1_of-reg1.result w) c.args.map.now o c.args.cells.now m) (sym c.pc-pc.ensures)) in
    let refused : went_of c.args.o c.from_residual-in_err-second-in_default.result ≡ Err c.in_err-second-in_default.field-0.0 = search rules in
    rw refused ((rw c.in_err-second-in_default.was at second) ∙ asks ∙ goes)

pub execute-requires : goal.execute-requires
unfolding decode
execute-requires c =
    let h = c.in_ok-first.first in
    let small : h < 2 ^ 16 = search rules in
    let short = λ (d : Decoded). completed-short h c.reg2_of-reg2.ensures c.opcode_of-opcode.ensures c.reg1_of-reg1.ensures c.args.map.now (open_of c.args.o) c.args.cells.now (both c.args.mem.now c.args.marks.now) {d = d} in (
      c.requires.0,
      elim c.if-opcode-lt24.branch [
        | in-0-to-23 w ↦
            let alike : w.operation-d.result ≡ decode h 0 = rw (w.operation-d.ensures 0, c.reg2_of-reg2.ensures, c.opcode_of-opcode.ensures, c.reg1_of-reg1.ensures) in
            rw w.d-is (short w.operation-d.result small (omega arith) alike).0
        | in-24-to-47 w ↦ rw w.d-is (short w.four_bits-d.result small (omega arith) (w.four_bits-d.ensures 0)).0
        | in_default+in_ok-second-in_default w ↦
            let more : w.in_ok-second-in_default.second < 2 ^ 16 = search rules in
            rw (w.d-is, w.long-d.ensures) (fields-decoded _ _ _ _ (omega arith) (omega arith) (omega arith) more)
      ],
    )

pub returns : goal.returns
unfolding instruction decode
returns c =
    let m = both c.args.mem.now c.args.marks.now in
    let o = open_of c.args.o in
    let h = c.in_ok-first.first in
    let small : h < 2 ^ 16 = search rules in
    let begun = rw c.pc-pc.ensures at (c.first.ensures.value o c.args.cells.now (λ h. completed h c.args.map.now o c.args.cells.now m) (sym c.pc-pc.ensures)) in
    let goes = rw c.in_ok-first.was at begun in
    let short = λ (d : Decoded). completed-short h c.reg2_of-reg2.ensures c.opcode_of-opcode.ensures c.reg1_of-reg1.ensures c.args.map.now o c.args.cells.now m {d = d} in
    c.execute.ensures
    ∙ elim c.if-opcode-lt24.branch [
      | in-0-to-23 w ↦
          let alike : w.operation-d.result ≡ decode h 0 = rw (w.operation-d.ensures 0, c.reg2_of-reg2.ensures, c.opcode_of-opcode.ensures, c.reg1_of-reg1.ensures) in
          rw w.d-is (short w.operation-d.result small (omega arith) alike).1 ∙ goes
      | in-24-to-47 w ↦ rw w.d-is (short w.four_bits-d.result small (omega arith) (w.four_bits-d.ensures 0)).1 ∙ goes
      | in_default+in_ok-second-in_default w ↦
          let asks = completed-long h c.reg2_of-reg2.ensures c.opcode_of-opcode.ensures c.reg1_of-reg1.ensures c.args.map.now o c.args.cells.now m (omega arith) in
          let second = rw c.pc-pc.ensures at (w.second.ensures.value o c.args.cells.now (λ w. execute (decode_fields c.reg2_of-reg2.result c.opcode_of-opcode.result c.reg1_of-reg1.result w) c.args.map.now o c.args.cells.now m) (sym c.pc-pc.ensures)) in
          rw (w.d-is, w.long-d.ensures) ((rw w.in_ok-second-in_default.was at second) ∙ asks ∙ goes)
    ]
