-- The arms of decoding: what a number of the opcode, or one of a range, stands for; then what the second halfword of opcode 111111 does.
-- Each is found by computing at the number. An operand n is given by an equation, so that whoever computed it can say how.
use Rattle.std.specs.Prelude.{◌≡◌, cond, List, [], ◌∷◌, ℕ, ◌+◌, ◌*◌, ◌/◌, ◌%◌, ◌^◌, ◌≤◌, ◌<◌, eqb}
use Rattle.std.proofs.Math.Path.{refl}
use borrow.Author.Tests.{le-leb, lt-leb, eq-eqb, ne_eqb}
use Rattle.insn.specs.Coding.{reg_op, reg_code, imm5_op, imm5_code, imm5, imm16_op, imm16_code, imm16, disp7, disp9, decode_extended, decode_fields}
use Rattle.insn.specs.Within.{within}
use Rattle.insn.specs.declared.RegOp.{RegOp}
use Rattle.insn.specs.declared.RegOp.TheVariants.{Mov, Not, Divh, Satsubr, Satsub, Satadd, Mulh, Or, Xor, And, Tst, Subr, Sub, Add, Cmp}
use Rattle.insn.specs.declared.Imm5Op.{Imm5Op}
use Rattle.insn.specs.declared.Imm5Op.TheVariants.{Mov5, Satadd5, Add5, Cmp5, Shr5, Sar5, Shl5, Mulh5}
use Rattle.insn.specs.declared.Imm16Op.{Imm16Op}
use Rattle.insn.specs.declared.Imm16Op.TheVariants.{Addi, Movea, Movhi, Satsubi, Ori, Xori, Andi, Mulhi}
use Rattle.insn.specs.declared.Size.TheVariants.{Byte, Half, Word}
use Rattle.insn.specs.declared.Insn.TheVariants.{Reg, Imm5, Sld, Sst, Bcond, Imm16}
use Rattle.insn.specs.declared.Decoded.{Decoded}
use Rattle.insn.specs.declared.Decoded.TheVariants.{Valid, Illegal, Undefined}

module _ (reg2 reg1 w : ℕ) where
  abbrev At : ℕ → Decoded
  At opcode = decode_fields reg2 opcode reg1 w

  pub at_reg : (op : RegOp) {opcode : ℕ} → opcode ≡ reg_code op → Valid (Reg op reg1 reg2) ≡ At opcode
  unfolding decode_fields reg_op reg_code
  at_reg Mov k = rw k
  at_reg Not k = rw k
  at_reg Divh k = rw k
  at_reg Satsubr k = rw k
  at_reg Satsub k = rw k
  at_reg Satadd k = rw k
  at_reg Mulh k = rw k
  at_reg Or k = rw k
  at_reg Xor k = rw k
  at_reg And k = rw k
  at_reg Tst k = rw k
  at_reg Subr k = rw k
  at_reg Sub k = rw k
  at_reg Add k = rw k
  at_reg Cmp k = rw k

  pub at-imm5 : (op : Imm5Op) {opcode n : ℕ} → opcode ≡ imm5_code op → n ≡ imm5 op reg1 → Valid (Imm5 op n reg2) ≡ At opcode
  unfolding decode_fields imm5_op imm5_code
  at-imm5 Mov5 k e = rw (k, e)
  at-imm5 Satadd5 k e = rw (k, e)
  at-imm5 Add5 k e = rw (k, e)
  at-imm5 Cmp5 k e = rw (k, e)
  at-imm5 Shr5 k e = rw (k, e)
  at-imm5 Sar5 k e = rw (k, e)
  at-imm5 Shl5 k e = rw (k, e)
  at-imm5 Mulh5 k e = rw (k, e)

  pub at-imm16 : (op : Imm16Op) {opcode n : ℕ} → opcode ≡ imm16_code op → n ≡ imm16 op w → Valid (Imm16 op n reg1 reg2) ≡ At opcode
  unfolding decode_fields imm16_op imm16_code
  at-imm16 Addi k e = rw (k, e)
  at-imm16 Movea k e = rw (k, e)
  at-imm16 Movhi k e = rw (k, e)
  at-imm16 Satsubi k e = rw (k, e)
  at-imm16 Ori k e = rw (k, e)
  at-imm16 Xori k e = rw (k, e)
  at-imm16 Andi k e = rw (k, e)
  at-imm16 Mulhi k e = rw (k, e)

  -- ranges of four opcodes, from lo
  four :
      (f : ℕ → Decoded) (lo : ℕ) →
      f (lo + 0) ≡ At (lo + 0) → f (lo + 1) ≡ At (lo + 1) → f (lo + 2) ≡ At (lo + 2) → f (lo + 3) ≡ At (lo + 3) →
      {opcode : ℕ} → lo ≤ opcode → opcode < lo + 4 → f opcode ≡ At opcode
  four f lo p q r s = within Unit (λ k. f k ≡ At k) lo 4 ((((tt, p), q), r), s)

  pub at-sld-byte : {opcode n : ℕ} → 24 ≤ opcode → opcode < 28 → n ≡ disp7 opcode reg1 → Valid (Sld Byte n reg2) ≡ At opcode
  unfolding decode_fields
  at-sld-byte a b e = rw e (four (λ k. Valid (Sld Byte (disp7 k reg1) reg2)) 24 refl refl refl refl a b)

  pub at-sst-byte : {opcode n : ℕ} → 28 ≤ opcode → opcode < 32 → n ≡ disp7 opcode reg1 → Valid (Sst Byte n reg2) ≡ At opcode
  unfolding decode_fields
  at-sst-byte a b e = rw e (four (λ k. Valid (Sst Byte (disp7 k reg1) reg2)) 28 refl refl refl refl a b)

  pub at-sld-half : {opcode n : ℕ} → 32 ≤ opcode → opcode < 36 → n ≡ disp7 opcode reg1 → Valid (Sld Half (n * 2) reg2) ≡ At opcode
  unfolding decode_fields
  at-sld-half a b e = rw e (four (λ k. Valid (Sld Half (disp7 k reg1 * 2) reg2)) 32 refl refl refl refl a b)

  pub at-sst-half : {opcode n : ℕ} → 36 ≤ opcode → opcode < 40 → n ≡ disp7 opcode reg1 → Valid (Sst Half (n * 2) reg2) ≡ At opcode
  unfolding decode_fields
  at-sst-half a b e = rw e (four (λ k. Valid (Sst Half (disp7 k reg1 * 2) reg2)) 36 refl refl refl refl a b)

  abbrev word_form : ℕ → Decoded
  word_form n = Valid (cond (eqb (reg1 % 2) 0) (Sld Word (n / 2 * 4) reg2) (Sst Word (n / 2 * 4) reg2))

  at-word : {opcode n : ℕ} → 40 ≤ opcode → opcode < 44 → n ≡ disp7 opcode reg1 → word_form n ≡ At opcode
  unfolding decode_fields
  at-word a b e = rw e (four (λ k. word_form (disp7 k reg1)) 40 refl refl refl refl a b)

  pub at-sld-word :
      {opcode n : ℕ} → 40 ≤ opcode → opcode < 44 → n ≡ disp7 opcode reg1 → reg1 % 2 ≡ 0 →
      Valid (Sld Word (n / 2 * 4) reg2) ≡ At opcode
  at-sld-word a b e even = rw (eq-eqb _ _ even) at (at-word a b e)

  pub at-sst-word :
      {opcode n : ℕ} → 40 ≤ opcode → opcode < 44 → n ≡ disp7 opcode reg1 → (reg1 % 2 ≡ 0 → ⊥) →
      Valid (Sst Word (n / 2 * 4) reg2) ≡ At opcode
  at-sst-word a b e odd = rw (ne_eqb _ _ odd) at (at-word a b e)

  pub at-bcond : {opcode n : ℕ} → 44 ≤ opcode → opcode < 48 → n ≡ disp9 reg2 opcode reg1 → Valid (Bcond (reg1 % 16) n) ≡ At opcode
  unfolding decode_fields
  at-bcond a b e = rw e (four (λ k. Valid (Bcond (reg1 % 16) (disp9 reg2 k reg1))) 44 refl refl refl refl a b)

-- opcode 111111. w is none of the numbers, the last one first, in the form that a match leaves
abbrev pub None : List ℕ → ℕ → Type 0
None [] w = Unit
None (k ∷ ks) w = None ks w × (w ≡ k → ⊥)

module _ (reg2 reg1 w : ℕ) where
  pub at-illegal : 0b0011 ≤ w / 2 ^ 7 % 2 ^ 4 → Illegal ≡ decode_extended reg2 reg1 w
  unfolding decode_extended
  at-illegal h = rw (le-leb _ _ h)

  pub at_none :
      w / 2 ^ 7 % 2 ^ 4 < 0b0011 →
      None (0x0160 ∷ 0x0140 ∷ 0x0120 ∷ 0x0100 ∷ 0x00C0 ∷ 0x00A0 ∷ 0x0080 ∷ 0x0040 ∷ 0x0020 ∷ 0x0000 ∷ []) w →
      Undefined ≡ decode_extended reg2 reg1 w
  unfolding decode_extended
  at_none h n =
      rw (
        lt-leb _ _ h,
        ne_eqb _ _ n.0.0.0.0.0.0.0.0.0.1,
        ne_eqb _ _ n.0.0.0.0.0.0.0.0.1,
        ne_eqb _ _ n.0.0.0.0.0.0.0.1,
        ne_eqb _ _ n.0.0.0.0.0.0.1,
        ne_eqb _ _ n.0.0.0.0.0.1,
        ne_eqb _ _ n.0.0.0.0.1,
        ne_eqb _ _ n.0.0.0.1,
        ne_eqb _ _ n.0.0.1,
        ne_eqb _ _ n.0.1,
        ne_eqb _ _ n.1,
      )
