-- From an instruction to its halfwords, behind RoundTrip: what they decode to, or why there are none.
use Rattle.std.specs.Prelude.{◌≡◌, refl, true, false, cond, ◌&&◌, ℕ, ◌+◌, ◌-◌, ◌*◌, ◌/◌, ◌%◌, ◌^◌, ◌<◌, ◌≤◌, eqb, Result, Ok, Err}
use Rattle.std.proofs.Common.{ap, ap₂, ◌∙◌, shr-shr, le-leb, eq-eqb, ne_eqb}
use Rattle.std.proofs.lemmas.Bool.{lt-leb}
use Rattle.word.specs.Tests.{both_true, splits}
use Rattle.insn.specs.declared.ShiftOp.TheVariants.{Shr, Sar, Shl}
use Rattle.insn.specs.declared.Size.{Size}
use Rattle.insn.specs.declared.Size.TheVariants.{Byte, Half, Word}
use Rattle.insn.specs.declared.Insn.{Insn}
use Rattle.insn.specs.declared.Insn.TheVariants.{Reg, Jmp, Imm5, Sld, Sst, Bcond, Imm16, Ld, St, Jarl, Bit, Setf, Ldsr, Stsr, Shift, Trap, Halt, Reti, Di, Ei}
use Rattle.insn.specs.declared.Decoded.TheVariants.{Valid}
use Rattle.insn.specs.declared.Halfwords.{Halfwords}
use Rattle.insn.specs.declared.Halfwords.TheVariants.{One, Two}
use Rattle.insn.specs.declared.EncodeError.{EncodeError}
use Rattle.insn.specs.declared.EncodeError.TheVariants.{Field}
use Rattle.insn.specs.Coding.{half, long, reg_code, imm5_code, imm5_shifts, imm16_code, imm16_plain, bit_code, loads, stores, when, disp9, disp16}
use Rattle.insn.specs.Coding.{disp22, decode_extended, decode_fields, decode, short, two_of, halfwords, is_reg, is_condition, is_signed, is_unsigned}
use Rattle.insn.specs.Coding.{multiple, is_short_disp, is_long_disp, in_range, encode}
use Rattle.insn.specs.Within.{Each}
use Rattle.insn.specs.FieldLaws.{facts, both_true3, each, reg_ops, imm5_ops, imm16_ops, bit_ops, loads-number, fields, is_word, width5, width9, width16, width22, word_of_lem, disp16_of}

abbrev pub Spells : Result Halfwords EncodeError → Insn → Type 0
Spells (Ok (One h)) i = (h < 2 ^ 16) × (long h ≡ false) × ((w : ℕ) → decode h w ≡ Valid i)
Spells (Ok (Two h w)) i = (h < 2 ^ 16) × (w < 2 ^ 16) × (long h ≡ true) × (decode h w ≡ Valid i)
Spells (Err Field) i = in_range i ≡ false

spells_one : {i : Insn} (reg2 opcode reg1 : ℕ) → (reg2 < 32) × (opcode < 48) × (reg1 < 32)
    → ((w : ℕ) → decode_fields reg2 opcode reg1 w ≡ Valid i) → Spells (Ok (One (half reg2 opcode reg1))) i
unfolding decode
spells_one reg2 opcode reg1 a e = let f = fields reg2 opcode reg1 a.0 (omega facts) a.2 in
    (f.0, rw f.2 (lt-leb 48 opcode a.1), λ w. rw (f.1, f.2, f.3) (e w))

spells-two : {i : Insn} (reg2 opcode reg1 w : ℕ) → (reg2 < 32) × (48 ≤ opcode) × (opcode < 64) × (reg1 < 32) × (w < 2 ^ 16)
    → decode_fields reg2 opcode reg1 w ≡ Valid i → Spells (Ok (Two (half reg2 opcode reg1) w)) i
unfolding decode
spells-two reg2 opcode reg1 w a e = let f = fields reg2 opcode reg1 a.0 a.2 a.3 in
    (f.0, a.4, rw f.2 (le-leb 48 opcode a.1), rw (f.1, f.2, f.3) e)

-- SLD and SST: four opcodes from `base` on, and `f` makes the instruction of reg1 and the field of seven bits
spells-short : {i : Insn} (base n b : ℕ) (f : ℕ → ℕ → Insn) → (base < 45) × (n < 128) × (b < 32)
    → Each Unit (λ q. (r w : ℕ) → decode_fields b (base + q) r w ≡ Valid (f r (q * 32 + r))) 0 4 → f (n % 32) n ≡ i → Spells (Ok (short base n b)) i
spells-short base n b f h t e = spells_one b (base + n / 32) (n % 32) (omega facts)
    (λ w. each (λ q. (r w : ℕ) → decode_fields b (base + q) r w ≡ Valid (f r (q * 32 + r))) 0 4 t (n / 32) (omega facts) (omega facts) (n % 32) w
    ∙ ap (λ x. Valid (f (n % 32) x)) (omega facts) ∙ ap Valid e)

-- SLD.W and SST.W share their opcodes
abbrev short_word : ℕ → ℕ → ℕ → Insn
short_word b r x = cond (eqb (r % 2) 0) (Sld Word (x / 2 * 4) b) (Sst Word (x / 2 * 4) b)

-- LD and ST, by their opcode for bytes
abbrev memory : ℕ → Size → ℕ → ℕ → ℕ → Halfwords
memory op Byte d a b = two_of b op a (d % 2 ^ 16)
memory op Half d a b = two_of b (op + 1) a (d % 2 ^ 16)
memory op Word d a b = two_of b (op + 1) a (d % 2 ^ 16 + 1)

module _ (mem : Size → ℕ → ℕ → ℕ → Insn) (op : ℕ) (h : (48 ≤ op) × (op < 63))
    (bytes : (b a w : ℕ) → decode_fields b op a w ≡ Valid (mem Byte (disp16 w) a b))
    (others : (b a w : ℕ)
    → decode_fields b (op + 1) a w ≡ Valid (cond (eqb (w % 2) 0) (mem Half (disp16 w) a b) (mem Word (disp16 (w - 1)) a b))) where
  spells-memory : (s : Size) (d a b : ℕ) → (is_long_disp s d && (is_reg a && is_reg b)) ≡ true → Spells (Ok (memory op s d a b)) (mem s d a b)
  spells-memory Byte d a b v = let r = both_true3 (is_signed 16 d) (is_reg a) (is_reg b) v in
      spells-two b op a (d % 2 ^ 16) (omega facts) (bytes b a (d % 2 ^ 16) ∙ ap (λ x. Valid (mem Byte x a b)) (disp16_of d r.0))
  spells-memory Half d a b v =
      let r = both_true3 (is_long_disp Half d) (is_reg a) (is_reg b) v in
      let q = both_true (is_signed 16 d) (multiple 2 d) r.0 in
      spells-two b (op + 1) a (d % 2 ^ 16) (omega facts)
      (others b a (d % 2 ^ 16) ∙ rw (eq-eqb (d % 2 ^ 16 % 2) 0 (omega facts)) (ap (λ x. Valid (mem Half x a b)) (disp16_of d q.0)))
  spells-memory Word d a b v =
      let r = both_true3 (is_long_disp Word d) (is_reg a) (is_reg b) v in
      let q = both_true (is_signed 16 d) (multiple 2 d) r.0 in
      spells-two b (op + 1) a (d % 2 ^ 16 + 1) (omega facts)
      (others b a (d % 2 ^ 16 + 1) ∙ rw (ne_eqb ((d % 2 ^ 16 + 1) % 2) 0 (omega facts))
      (ap (λ x. Valid (mem Word x a b)) (word_of_lem width16 false (d % 2 ^ 16 + 1 - 1) d q.0 (omega facts))))

spells : (i : Insn) → in_range i ≡ true → Spells (Ok (halfwords i)) i
unfolding halfwords in_range decode_fields decode_extended
spells (Reg op a b) v =
    let r = both_true (is_reg a) (is_reg b) v in
    spells_one b (reg_code op) a (omega (facts, (reg_ops op).0)) ((reg_ops op).1 b a)
spells (Jmp a) v = spells_one 0 0b000011 a (omega facts) (λ w. refl)
spells (Imm5 op n b) v =
    let r = both_true (is_word (2 ^ 4) (imm5_shifts op) n) (is_reg b) v in
    spells_one b (imm5_code op) (n % 32) (omega (facts, (imm5_ops op).0))
    (λ w. (imm5_ops op).1 b (n % 32) w ∙ ap (λ x. Valid (Imm5 op x b)) (word_of_lem width5 (imm5_shifts op) (n % 32) n r.0 refl))
spells (Sld Byte d b) v =
    let r = both_true (is_unsigned 7 d) (is_reg b) v in
    spells-short 0b011000 d b (λ r x. Sld Byte x b) (omega facts) (search) refl
spells (Sst Byte d b) v =
    let r = both_true (is_unsigned 7 d) (is_reg b) v in
    spells-short 0b011100 d b (λ r x. Sst Byte x b) (omega facts) (search) refl
spells (Sld Half d b) v =
    let r = both_true (is_short_disp Half d) (is_reg b) v in
    let q = both_true (is_unsigned 8 d) (multiple 2 d) r.0 in
    spells-short 0b100000 (d / 2) b (λ r x. Sld Half (x * 2) b) (omega facts) (search) (ap (λ x. Sld Half x b) (omega facts))
spells (Sst Half d b) v =
    let r = both_true (is_short_disp Half d) (is_reg b) v in
    let q = both_true (is_unsigned 8 d) (multiple 2 d) r.0 in
    spells-short 0b100100 (d / 2) b (λ r x. Sst Half (x * 2) b) (omega facts) (search) (ap (λ x. Sst Half x b) (omega facts))
spells (Sld Word d b) v =
    let r = both_true (is_short_disp Word d) (is_reg b) v in
    let q = both_true (is_unsigned 8 d) (multiple 4 d) r.0 in
    spells-short 0b101000 (d / 4 * 2) b (short_word b) (omega facts) (search)
    (rw (eq-eqb (d / 4 * 2 % 32 % 2) 0 (omega facts)) (ap (λ x. Sld Word x b) (omega facts)))
spells (Sst Word d b) v =
    let r = both_true (is_short_disp Word d) (is_reg b) v in
    let q = both_true (is_unsigned 8 d) (multiple 4 d) r.0 in
    spells-short 0b101000 (d / 4 * 2 + 1) b (short_word b) (omega facts) (search)
    (rw (ne_eqb ((d / 4 * 2 + 1) % 32 % 2) 0 (omega facts)) (ap (λ x. Sst Word x b) (omega facts)))
spells (Bcond c d) v =
    let r = both_true3 (is_condition c) (is_signed 9 d) (multiple 2 d) v in
    let m : ℕ = d % 2 ^ 9 in
    let x : ℕ = m / 2 % 2 * 16 + c in
    spells_one (m / 16) (0b101100 + m / 4 % 4) x (omega facts)
    (λ w. each (λ q. decode_fields (m / 16) (0b101100 + q) x w ≡ Valid (Bcond (x % 16) (disp9 (m / 16) q x))) 0 4 (search)
    (m / 4 % 4) (omega facts) (omega facts)
    ∙ ap₂ (λ x y. Valid (Bcond x y)) (omega facts)
    (word_of_lem width9 false (m / 16 * 16 + (m / 4 % 4 % 4 * 2 + x / 16) * 2) d r.1 (omega (facts, shr-shr m 1 1, shr-shr m 2 2))))
spells (Imm16 op n a b) v =
    let r = both_true3 (is_word (2 ^ 15) (imm16_plain op) n) (is_reg a) (is_reg b) v in
    spells-two b (imm16_code op) a (n % 2 ^ 16) (omega (facts, (imm16_ops op).0))
    ((imm16_ops op).1 b a (n % 2 ^ 16) ∙ ap (λ x. Valid (Imm16 op x a b)) (word_of_lem width16 (imm16_plain op) (n % 2 ^ 16) n r.0 refl))
spells (Ld Byte d a b) v = spells-memory Ld 0b111000 (omega facts) (λ _ _ _. refl) (λ _ _ _. refl) Byte d a b v
spells (Ld Half d a b) v = spells-memory Ld 0b111000 (omega facts) (λ _ _ _. refl) (λ _ _ _. refl) Half d a b v
spells (Ld Word d a b) v = spells-memory Ld 0b111000 (omega facts) (λ _ _ _. refl) (λ _ _ _. refl) Word d a b v
spells (St Byte d a b) v = spells-memory St 0b111010 (omega facts) (λ _ _ _. refl) (λ _ _ _. refl) Byte d a b v
spells (St Half d a b) v = spells-memory St 0b111010 (omega facts) (λ _ _ _. refl) (λ _ _ _. refl) Half d a b v
spells (St Word d a b) v = spells-memory St 0b111010 (omega facts) (λ _ _ _. refl) (λ _ _ _. refl) Word d a b v
spells (Jarl d b) v =
    let r = both_true3 (is_signed 22 d) (multiple 2 d) (is_reg b) v in
    let m : ℕ = d % 2 ^ 22 in
    let x : ℕ = m / 2 ^ 16 % 32 in
    let w : ℕ = d % 2 ^ 16 in
    spells-two b (0b111100 + m / 2 ^ 21) x w (omega facts)
    (each (λ q. decode_fields b (0b111100 + q) x w ≡ when (eqb (w % 2) 0) (Jarl (disp22 q x w) b)) 0 2 (search)
    (m / 2 ^ 21) (omega facts) (omega facts)
    ∙ rw (eq-eqb (w % 2) 0 (omega facts))
    (ap (λ x. Valid (Jarl x b)) (word_of_lem width22 false ((m / 2 ^ 21 % 2 * 32 + x) * 2 ^ 16 + w) d r.0 (omega facts))))
spells (Bit op n d a) v =
    let r = both_true3 (is_unsigned 3 n) (is_signed 16 d) (is_reg a) v in
    let e : ((bit_code op * 8 + n) / 8 ≡ bit_code op) × ((bit_code op * 8 + n) % 8 ≡ n) = omega facts in
    spells-two (bit_code op * 8 + n) 0b111110 a (d % 2 ^ 16) (omega (facts, (bit_ops op).0)) (cc (disp16_of d r.1, (bit_ops op).1))
spells (Setf c b) v = let r = both_true (is_condition c) (is_reg b) v in spells-two b 0b111111 c 0x0000 (omega facts) (rw r.0)
spells (Ldsr a n) v = let r = both_true (is_reg a) (loads n) v in spells-two n 0b111111 a 0x0020 (omega (facts, loads-number n r.1)) (rw r.1)
spells (Stsr n b) v = let r = both_true (stores n) (is_reg b) v in spells-two b 0b111111 n 0x0040 (omega facts) (rw r.0)
spells (Shift Shr a b) v = let r = both_true (is_reg a) (is_reg b) v in spells-two b 0b111111 a 0x0080 (omega facts) refl
spells (Shift Sar a b) v = let r = both_true (is_reg a) (is_reg b) v in spells-two b 0b111111 a 0x00A0 (omega facts) refl
spells (Shift Shl a b) v = let r = both_true (is_reg a) (is_reg b) v in spells-two b 0b111111 a 0x00C0 (omega facts) refl
spells (Trap n) v = spells-two 0 0b111111 n 0x0100 (omega facts) refl
spells Halt v = spells-two 0 0b111111 0 0x0120 (omega facts) refl
spells Reti v = spells-two 0 0b111111 0 0x0140 (omega facts) refl
spells Di v = spells-two 0 0b111111 0 0x0160 (omega facts) refl
spells Ei v = spells-two 16 0b111111 0 0x0160 (omega facts) refl

pub encode-spells : (i : Insn) → Spells (encode i) i
unfolding encode
encode-spells i = splits (λ e. Spells e i) (in_range i) (spells i) (λ n. n)
