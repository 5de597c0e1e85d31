-- The registers that an instruction in range names are below 32, and so are a trap's vector and a bit's number below their bounds.
use Rattle.std.specs.Prelude.{◌≡◌, ℕ, ◌^◌, ◌<◌, Bool, true, cond, ◌&&◌}
use Rattle.std.specs.Prelude.{refl}
use Rattle.std.proofs.Common.{subst, ltb-true}
use Rattle.word.specs.Tests.{both_true}
use Rattle.insn.specs.declared.Insn.{Insn}
use Rattle.insn.specs.declared.Insn.TheVariants.{Reg, Jmp, Imm5, Sld, Sst, Bcond, Imm16, Ld, St, Jarl, Bit, Setf, Ldsr, Stsr, Shift, Trap, Halt, Reti, Di, Ei}
use Rattle.insn.specs.declared.Decoded.{Decoded}
use Rattle.insn.specs.declared.Decoded.TheVariants as decoded
use Rattle.insn.specs.Coding.{imm5_shifts, imm16_plain, loads, stores, is_reg, is_condition, is_signed, is_unsigned, multiple, is_short_disp, is_long_disp, in_range, half, decode_fields, decode}
use Rattle.insn.specs.FieldLaws.{fields}
use Rattle.insn.specs.RoundTrip.{decode_in_range}
use Rattle.step.specs.Tasks.{DecodedFields}

abbrev pub Operands : Insn → Type 0
Operands (Jmp reg1) = reg1 < 32
Operands (Reg op reg1 reg2) = (reg1 < 32) × (reg2 < 32)
Operands (Imm5 op imm reg2) = reg2 < 32
Operands (Sld size disp reg2) = reg2 < 32
Operands (Sst size disp reg2) = reg2 < 32
Operands (Bcond cc disp) = Unit
Operands (Imm16 op imm reg1 reg2) = (reg1 < 32) × (reg2 < 32)
Operands (Ld size disp reg1 reg2) = (reg1 < 32) × (reg2 < 32)
Operands (St size disp reg1 reg2) = (reg1 < 32) × (reg2 < 32)
Operands (Jarl disp reg2) = reg2 < 32
Operands (Bit op n disp reg1) = (n < 8) × (reg1 < 32)
Operands (Setf cc reg2) = reg2 < 32
Operands (Ldsr reg2 regid) = reg2 < 32
Operands (Stsr regid reg2) = reg2 < 32
Operands (Shift op reg1 reg2) = (reg1 < 32) × (reg2 < 32)
Operands (Trap vector) = vector < 32
Operands Halt = Unit
Operands Reti = Unit
Operands Di = Unit
Operands Ei = Unit

last : (a : Bool) {r : ℕ} → (a && is_reg r) ≡ true → r < 32
last a {r} h = ltb-true r 32 (both_true a (is_reg r) h).1

two : {q r : ℕ} → (is_reg q && is_reg r) ≡ true → (q < 32) × (r < 32)
two {q} {r} h = let g = both_true (is_reg q) (is_reg r) h in (ltb-true q 32 g.0, ltb-true r 32 g.1)

operands : (i : Insn) → in_range i ≡ true → Operands i
unfolding in_range
operands (Jmp reg1) h = ltb-true _ _ h
operands (Reg op reg1 reg2) h = two h
operands (Imm5 op imm reg2) h = last (cond (imm5_shifts op) (is_unsigned 5 imm) (is_signed 5 imm)) h
operands (Sld size disp reg2) h = last (is_short_disp size disp) h
operands (Sst size disp reg2) h = last (is_short_disp size disp) h
operands (Bcond cc disp) h = tt
operands (Imm16 op imm reg1 reg2) h = two (both_true (cond (imm16_plain op) (is_unsigned 16 imm) (is_signed 16 imm)) _ h).1
operands (Ld size disp reg1 reg2) h = two (both_true (is_long_disp size disp) _ h).1
operands (St size disp reg1 reg2) h = two (both_true (is_long_disp size disp) _ h).1
operands (Jarl disp reg2) h = last (multiple 2 disp) (both_true (is_signed 22 disp) _ h).1
operands (Bit op n disp reg1) h =
    let g = both_true (is_unsigned 3 n) (is_signed 16 disp && is_reg reg1) h in (ltb-true _ _ g.0, last (is_signed 16 disp) g.1)
operands (Setf cc reg2) h = last (is_condition cc) h
operands (Ldsr reg2 regid) h = ltb-true _ _ (both_true (is_reg reg2) (loads regid) h).0
operands (Stsr regid reg2) h = last (stores regid) h
operands (Shift op reg1 reg2) h = two h
operands (Trap vector) h = ltb-true _ _ h
operands Halt h = tt
operands Reti h = tt
operands Di h = tt
operands Ei h = tt

-- the same of an instruction j that code found i to be
pub operands_of : {i j : Insn} → in_range i ≡ true → i ≡ j → Operands j
operands_of {i} h e = subst Operands e (operands i h)

-- What decodes from two halfwords has its operands in range
pub decoded-fields : (h w : ℕ) → h < 2 ^ 16 → w < 2 ^ 16 → DecodedFields (decode h w)
decoded-fields h w a b = go (decode h w) (decode_in_range h w a b)
  where
    go : (d : Decoded) → ((i : Insn) → d ≡ decoded.Valid i → in_range i ≡ true) → DecodedFields d
    go (decoded.Valid i) f = f i refl
    go decoded.Illegal f = tt
    go decoded.Undefined f = tt

-- and so has what decodes from a halfword's fields and a second one
pub fields-decoded : (reg2 opcode reg1 w : ℕ) → reg2 < 32 → opcode < 64 → reg1 < 32 → w < 2 ^ 16 → DecodedFields (decode_fields reg2 opcode reg1 w)
unfolding decode
fields-decoded reg2 opcode reg1 w a b c d =
    let f = fields reg2 opcode reg1 a b c in rw (f.1, f.2, f.3) at (decoded-fields (half reg2 opcode reg1) w f.0 d)
