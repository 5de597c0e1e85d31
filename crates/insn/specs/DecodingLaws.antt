-- From halfwords to an instruction, behind RoundTrip: what decodes has operands in range, and is encoded as those halfwords.
use Rattle.std.specs.Prelude.{◌≡◌, Bool, true, cond, ◌&&◌, ◌≢◌, ℕ, ◌+◌, ◌-◌, ◌*◌, ◌/◌, ◌%◌, ◌^◌, ◌<◌, ◌≤◌, ltb, leb}
use Rattle.std.proofs.Math.Path.{refl, ap, ap₂}
use Rattle.std.proofs.Common.{◌∙◌, eqb-true, lt-ltb, le-leb, eq-eqb}
use Rattle.std.proofs.Math.Bool.{false}
use Rattle.std.proofs.Math.Dec.{eqb}
use Rattle.std.proofs.lemmas.Bool.{lt-leb}
use Rattle.word.specs.Tests.{both_true, true_both, splits}
use Rattle.insn.specs.declared.Insn.{Insn}
use Rattle.insn.specs.declared.Insn.TheVariants.{Reg, Imm5, Bcond, Imm16, Jarl}
use Rattle.insn.specs.declared.Decoded.{Decoded}
use Rattle.insn.specs.declared.Decoded.TheVariants.{Valid, Illegal, Undefined}
use Rattle.insn.specs.declared.Halfwords.{Halfwords}
use Rattle.insn.specs.declared.Halfwords.TheVariants.{One, Two}
use Rattle.insn.specs.Coding.{reg2_of, opcode_of, reg1_of, half, long, reg_op, imm5_op, imm5_shifts, imm5, imm16_op, imm16_plain, imm16, loads, stores}
use Rattle.insn.specs.Coding.{when, disp7, disp9, disp22, decode_extended, decode_fields, decode, halfwords, in_range}
use Rattle.insn.specs.FieldLaws.{facts, reg-code, imm5-code, imm16-code, bit-code, EvenWord, width5, width9, width16, width22, word, even_word}

pub record EncodesTo (e : Halfwords) (i : Insn) : Type 0 where
  pub valid : in_range i ≡ true
  pub words : halfwords i ≡ e

abbrev pub Encodes : Halfwords → Decoded → Type 0
Encodes e (Valid i) = EncodesTo e i
Encodes e Illegal = Unit
Encodes e Undefined = Unit

whens : {i : Insn} (P : Decoded → Type 0) (b : Bool) → P Undefined → (b ≡ true → P (Valid i)) → P (when b i)
whens P b u f = splits P b f (λ _. u)

ruleset ranges = (true_both, lt-ltb, eq-eqb)

shorts : (opcode reg1 : ℕ) → reg1 < 32 → let d : ℕ = disp7 opcode reg1 in
    (d < 128) × (d / 32 ≡ opcode % 4) × (d % 32 ≡ reg1) × (d * 2 < 256) × (d * 2 % 2 ≡ 0) × (d / 2 * 4 < 256) × (d / 2 * 4 % 4 ≡ 0)
shorts opcode reg1 h = omega facts

-- Bcond's bits of the displacement, without bit 0
branch_bits : (reg2 q b : ℕ) → reg2 < 32 → q < 4 → b < 2 → let n : ℕ = reg2 * 16 + (q * 2 + b) * 2 in
    (n < 2 ^ 9) × (n % 2 ≡ 0) × (n / 16 ≡ reg2) × (n / 4 % 4 ≡ q) × (n / 2 % 2 ≡ b)
branch_bits reg2 q b h k l = omega facts

-- JARL's
jump_bits : (q reg1 w : ℕ) → q < 2 → reg1 < 32 → w < 2 ^ 16 → w % 2 ≡ 0 → let n : ℕ = (q * 32 + reg1) * 2 ^ 16 + w in
    (n < 2 ^ 22) × (n % 2 ≡ 0) × (n / 2 ^ 21 ≡ q) × (n / 2 ^ 16 % 32 ≡ reg1) × (n % 2 ^ 16 ≡ w)
jump_bits q reg1 w h k l e = omega facts

module _ {reg2 opcode reg1 w : ℕ} (h : (reg2 < 32) × (opcode < 64) × (reg1 < 32) × (w < 2 ^ 16)) where
  abbrev Goal : Decoded → Type 0
  Goal = Encodes (cond (leb 48 opcode) (Two (half reg2 opcode reg1) w) (One (half reg2 opcode reg1)))

  one : {i : Insn} {x : ℕ} → in_range i ≡ true → halfwords i ≡ One x → (opcode < 48) × (x ≡ half reg2 opcode reg1) → Goal (Valid i)
  one r e f = record { valid = r; words = e ∙ rw (lt-leb 48 opcode f.0) (ap One f.1) }

  two : {i : Insn} {x y : ℕ} → in_range i ≡ true → halfwords i ≡ Two x y
      → (48 ≤ opcode) × (x ≡ half reg2 opcode reg1) × (y ≡ w) → Goal (Valid i)
  two r e f = record { valid = r; words = e ∙ rw (le-leb 48 opcode f.0) (ap₂ Two f.1 f.2) }

  reg : opcode < 16 → opcode ≢ 3 → Goal (Valid (Reg (reg_op opcode) reg1 reg2))
  unfolding halfwords in_range
  reg u n = one (search ranges) refl (omega facts, ap (λ x. half reg2 x reg1) (reg-code opcode u n))

  immediate5 : 16 ≤ opcode → opcode < 24 → Goal (Valid (Imm5 (imm5_op opcode) (imm5 (imm5_op opcode) reg1) reg2))
  unfolding halfwords in_range
  immediate5 l u =
      let k = word width5 (imm5_shifts (imm5_op opcode)) h.2 in
      one (search ranges) refl (omega facts, ap₂ (half reg2) (imm5-code opcode l u) k.1)

  branch : 44 ≤ opcode → opcode < 48 → Goal (Valid (Bcond (reg1 % 16) (disp9 reg2 opcode reg1)))
  unfolding halfwords in_range
  branch l u =
      let b = branch_bits reg2 (opcode % 4) (reg1 / 16) h.0 (omega facts) (omega facts) in
      let k = even_word width9 b.0 b.1 in
      let c : reg1 % 16 < 16 = omega facts in
      one (search ranges) refl (u, rw (k.1, b.2, b.3, b.4) (omega facts))

  immediate16 : 48 ≤ opcode → opcode < 56 → Goal (Valid (Imm16 (imm16_op opcode) (imm16 (imm16_op opcode) w) reg1 reg2))
  unfolding halfwords in_range
  immediate16 l u =
      let k = word width16 (imm16_plain (imm16_op opcode)) h.3 in
      two (search ranges) refl (l, ap (λ x. half reg2 x reg1) (imm16-code opcode l u), k.1)

  -- LD and ST of halfwords and words, by bit 0 of w
  parity : {x y : Insn} → (EvenWord (2 ^ 15) w → Goal (Valid x)) → (w % 2 ≡ 1 → EvenWord (2 ^ 15) (w - 1) → Goal (Valid y))
      → Goal (Valid (cond (eqb (w % 2) 0) x y))
  parity f g =
      splits (λ i. Goal (Valid i)) (eqb (w % 2) 0)
      (λ e. f (even_word width16 h.3 (eqb-true (w % 2) 0 e)))
      (λ e. g (omega facts) (even_word width16 (omega facts) (omega facts)))

  jump : 60 ≤ opcode → opcode < 62 → w % 2 ≡ 0 → Goal (Valid (Jarl (disp22 opcode reg1 w) reg2))
  unfolding halfwords in_range
  jump l u e =
      let b = jump_bits (opcode % 2) reg1 w (omega facts) h.2 h.3 e in
      let k = even_word width22 b.0 b.1 in
      two (search ranges) refl (omega facts, rw (k.1, b.2, b.3) (omega facts), omega facts)

  extended : opcode ≡ 63 → Goal (decode_extended reg2 reg1 w)
  unfolding decode_extended halfwords in_range
  extended o =
      splits Goal (leb 0b0011 (w / 2 ^ 7 % 2 ^ 4)) (λ _. tt) λ _.
      splits Goal (eqb w 0x0000) (λ e. whens Goal (ltb reg1 16) tt (λ g. two (search ranges) refl (omega facts))) λ _.
      splits Goal (eqb w 0x0020) (λ e. whens Goal (loads reg2) tt (λ g. two (search ranges) refl (omega facts))) λ _.
      splits Goal (eqb w 0x0040) (λ e. whens Goal (stores reg1) tt (λ g. two (search ranges) refl (omega facts))) λ _.
      splits Goal (eqb w 0x0080) (λ e. two (search ranges) refl (omega facts)) λ _.
      splits Goal (eqb w 0x00A0) (λ e. two (search ranges) refl (omega facts)) λ _.
      splits Goal (eqb w 0x00C0) (λ e. two (search ranges) refl (omega facts)) λ _.
      splits Goal (eqb w 0x0100) (λ e. whens Goal (eqb reg2 0) tt (λ g. two (search ranges) refl (omega facts))) λ _.
      splits Goal (eqb w 0x0120) (λ e. bare 0 (λ g. two refl refl (omega facts))) λ _.
      splits Goal (eqb w 0x0140) (λ e. bare 0 (λ g. two refl refl (omega facts))) λ _.
      splits Goal (eqb w 0x0160)
      (λ e. splits Goal (eqb reg2 0) (λ f. whens Goal (eqb reg1 0) tt (λ g. two refl refl (omega facts))) λ _.
      bare 16 (λ g. two refl refl (omega facts))) λ _.
      tt
    where
      bare : {i : Insn} (n : ℕ) → ((eqb reg2 n ≡ true) × (eqb reg1 0 ≡ true) → Goal (Valid i)) → Goal (when (eqb reg2 n && eqb reg1 0) i)
      bare n f = whens Goal (eqb reg2 n && eqb reg1 0) tt (λ g. f (both_true (eqb reg2 n) (eqb reg1 0) g))

  -- the decoder's tests in turn; n says that the opcode is past them
  encodes : Goal (decode_fields reg2 opcode reg1 w)
  unfolding decode_fields halfwords in_range
  encodes =
      splits Goal (eqb opcode 0b000011) (λ o. whens Goal (eqb reg2 0) tt (λ z. one (search ranges) refl (omega facts))) λ n.
      splits Goal (leb opcode 0b001111) (λ o. reg (omega facts) (omega facts)) λ n.
      splits Goal (leb opcode 0b010111) (λ o. immediate5 (omega facts) (omega facts)) λ n.
      let s = shorts opcode reg1 h.2 in
      splits Goal (leb opcode 0b011011) (λ o. one (search ranges) refl (omega facts)) λ n.
      splits Goal (leb opcode 0b011111) (λ o. one (search ranges) refl (omega facts)) λ n.
      splits Goal (leb opcode 0b100011) (λ o. one (search ranges) refl (omega facts)) λ n.
      splits Goal (leb opcode 0b100111) (λ o. one (search ranges) refl (omega facts)) λ n.
      splits Goal (leb opcode 0b101011) (λ o. splits (λ i. Goal (Valid i)) (eqb (reg1 % 2) 0)
      (λ e. one (search ranges) refl (omega facts)) (λ e. one (search ranges) refl (omega facts))) λ n.
      splits Goal (leb opcode 0b101111) (λ o. branch (omega facts) (omega facts)) λ n.
      splits Goal (leb opcode 0b110111) (λ o. immediate16 (omega facts) (omega facts)) λ n.
      let k = word width16 false h.3 in
      splits Goal (eqb opcode 0b111000) (λ o. two (search ranges) refl (omega facts)) λ n0.
      splits Goal (eqb opcode 0b111001) (λ o. parity (λ k. two (search ranges) refl (omega facts)) (λ e k. two (search ranges) refl (omega facts))) λ n1.
      splits Goal (eqb opcode 0b111010) (λ o. two (search ranges) refl (omega facts)) λ n2.
      splits Goal (eqb opcode 0b111011) (λ o. parity (λ k. two (search ranges) refl (omega facts)) (λ e k. two (search ranges) refl (omega facts))) λ n3.
      splits Goal (leb opcode 0b111101) (λ o. whens Goal (eqb (w % 2) 0) tt (λ e. jump (omega facts) (omega facts) (eqb-true (w % 2) 0 e))) λ n.
      let z : reg2 % 8 < 8 = omega facts in
      splits Goal (eqb opcode 0b111110) (λ o. two (search ranges) refl (omega facts, omega (facts, bit-code (reg2 / 8) (omega facts)), k.1)) λ n0.
      extended (omega facts)

pub decode_encodes : (h w : ℕ) → h < 2 ^ 16 → w < 2 ^ 16 → Encodes (cond (long h) (Two h w) (One h)) (decode h w)
unfolding decode
decode_encodes h w a b =
    let e : half (reg2_of h) (opcode_of h) (reg1_of h) ≡ h = omega facts in
    rw e at (encodes {reg2 = reg2_of h} {opcode = opcode_of h} {reg1 = reg1_of h} {w = w} (omega facts))
