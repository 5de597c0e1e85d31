-- Laws of an instruction's fields: the operations' codes and names, the fields of a halfword, and fields as words.
use Rattle.std.specs.Prelude.{◌≡◌, refl, Bool, cond, ◌&&◌, ◌||◌, ◌≢◌, eqb, leb}
use Rattle.std.proofs.Common.{sym, ◌∙◌, subst, ⊎_elim, arith}
use Rattle.std.proofs.Math.Path.{ap}
use Rattle.std.proofs.Math.Bool.{true, false}
use Prim.Native.Nat.{ℕ, suc, ◌+◌, ◌-◌, ◌*◌, ◌%◌, ◌^◌, ◌<◌, ◌≤◌}
use Rattle.std.proofs.Math.Nat.{mod-mod, mod-eq_of_lt, add-mul-mod_self_right}
use Rattle.std.proofs.Math.Dec.{ltb}
use borrow.Author.Tests.{ltb-true, ltb-false, leb-true, leb-false, eqb-true, eqb-false, lt-ltb, le-ltb, le-leb}
use Rattle.word.specs.Word.{W}
use Rattle.word.specs.Extend.{by_sign}
use Rattle.word.specs.Tests.{both_true, either_true, splits}
use Rattle.insn.specs.declared.RegOp.{RegOp}
use Rattle.insn.specs.declared.RegOp.TheVariants.{Mov, Not, Divh, Satsubr, Satsub, Satadd, Mulh, Or, Xor, And, Tst, Subr, Sub, Add, Cmp}
use Rattle.insn.specs.declared.Imm5Op.{Imm5Op}
use Rattle.insn.specs.declared.Imm5Op.TheVariants.{Mov5, Satadd5, Add5, Cmp5, Shr5, Sar5, Shl5, Mulh5}
use Rattle.insn.specs.declared.Imm16Op.{Imm16Op}
use Rattle.insn.specs.declared.Imm16Op.TheVariants.{Addi, Movea, Movhi, Satsubi, Ori, Xori, Andi, Mulhi}
use Rattle.insn.specs.declared.BitOp.{BitOp}
use Rattle.insn.specs.declared.BitOp.TheVariants.{Set1, Not1, Clr1, Tst1}
use Rattle.insn.specs.declared.Insn.TheVariants.{Reg, Imm5, Imm16}
use Rattle.insn.specs.declared.Decoded.TheVariants.{Valid}
use Rattle.insn.specs.Coding.{reg2_of, opcode_of, reg1_of, half, reg_op, reg_code, imm5_op, imm5_code, imm5, imm16_op, imm16_code, imm16, bit_op, bit_code}
use Rattle.insn.specs.Coding.{loads, disp16, decode_fields, is_signed}
use Rattle.insn.specs.Within.{Each, within}

pub ruleset facts = (arith, ltb-true, ltb-false, leb-true, leb-false, eqb-true, eqb-false)

pub both_true3 : (a b c : Bool) → (a && (b && c)) ≡ true → (a ≡ true) × (b ≡ true) × (c ≡ true)
both_true3 a b c e = let r = both_true a (b && c) e in let q = both_true b c r.1 in (r.0, q.0, q.1)

or_right : (a : Bool) → (a || true) ≡ true
or_right true = refl
or_right false = refl

-- what holds of each of the n numbers from k on, one by one
pub each : (P : ℕ → Type 0) (k n : ℕ) → Each Unit P k n → (x : ℕ) → k ≤ x → x < k + n → P x
each P k n t x = within Unit P k n t

-- the operations' codes, from code to name and back
pub reg-code : (n : ℕ) → n < 16 → n ≢ 3 → reg_code (reg_op n) ≡ n
unfolding reg_op reg_code
reg-code n = each (λ n. n ≢ 3 → reg_code (reg_op n) ≡ n) 0 16 (omega arith) n (omega arith)

pub imm5-code : (n : ℕ) → 16 ≤ n → n < 24 → imm5_code (imm5_op n) ≡ n
unfolding imm5_op imm5_code
imm5-code = each (λ n. imm5_code (imm5_op n) ≡ n) 16 8 (omega arith)

pub imm16-code : (n : ℕ) → 48 ≤ n → n < 56 → imm16_code (imm16_op n) ≡ n
unfolding imm16_op imm16_code
imm16-code = each (λ n. imm16_code (imm16_op n) ≡ n) 48 8 (omega arith)

pub bit-code : (n : ℕ) → n < 4 → bit_code (bit_op n) ≡ n
unfolding bit_op bit_code
bit-code n = each (λ n. bit_code (bit_op n) ≡ n) 0 4 (omega arith) n (omega arith)

-- and what the decoder says at the code of a name
pub reg_ops : (op : RegOp) → (reg_code op < 48) × ((reg2 reg1 w : ℕ) → decode_fields reg2 (reg_code op) reg1 w ≡ Valid (Reg op reg1 reg2))
unfolding reg_code reg_op decode_fields
reg_ops Mov = (omega arith, λ _ _ _. refl)
reg_ops Not = (omega arith, λ _ _ _. refl)
reg_ops Divh = (omega arith, λ _ _ _. refl)
reg_ops Satsubr = (omega arith, λ _ _ _. refl)
reg_ops Satsub = (omega arith, λ _ _ _. refl)
reg_ops Satadd = (omega arith, λ _ _ _. refl)
reg_ops Mulh = (omega arith, λ _ _ _. refl)
reg_ops Or = (omega arith, λ _ _ _. refl)
reg_ops Xor = (omega arith, λ _ _ _. refl)
reg_ops And = (omega arith, λ _ _ _. refl)
reg_ops Tst = (omega arith, λ _ _ _. refl)
reg_ops Subr = (omega arith, λ _ _ _. refl)
reg_ops Sub = (omega arith, λ _ _ _. refl)
reg_ops Add = (omega arith, λ _ _ _. refl)
reg_ops Cmp = (omega arith, λ _ _ _. refl)

pub imm5_ops : (op : Imm5Op) → (imm5_code op < 48) × ((reg2 n w : ℕ) → decode_fields reg2 (imm5_code op) n w ≡ Valid (Imm5 op (imm5 op n) reg2))
unfolding imm5_code imm5_op decode_fields
imm5_ops Mov5 = (omega arith, λ _ _ _. refl)
imm5_ops Satadd5 = (omega arith, λ _ _ _. refl)
imm5_ops Add5 = (omega arith, λ _ _ _. refl)
imm5_ops Cmp5 = (omega arith, λ _ _ _. refl)
imm5_ops Shr5 = (omega arith, λ _ _ _. refl)
imm5_ops Sar5 = (omega arith, λ _ _ _. refl)
imm5_ops Shl5 = (omega arith, λ _ _ _. refl)
imm5_ops Mulh5 = (omega arith, λ _ _ _. refl)

pub imm16_ops : (op : Imm16Op) → ((48 ≤ imm16_code op) × (imm16_code op < 64))
    × ((reg2 reg1 w : ℕ) → decode_fields reg2 (imm16_code op) reg1 w ≡ Valid (Imm16 op (imm16 op w) reg1 reg2))
unfolding imm16_code imm16_op decode_fields
imm16_ops Addi = (omega arith, λ _ _ _. refl)
imm16_ops Movea = (omega arith, λ _ _ _. refl)
imm16_ops Movhi = (omega arith, λ _ _ _. refl)
imm16_ops Satsubi = (omega arith, λ _ _ _. refl)
imm16_ops Ori = (omega arith, λ _ _ _. refl)
imm16_ops Xori = (omega arith, λ _ _ _. refl)
imm16_ops Andi = (omega arith, λ _ _ _. refl)
imm16_ops Mulhi = (omega arith, λ _ _ _. refl)

pub bit_ops : (op : BitOp) → (bit_code op < 4) × (bit_op (bit_code op) ≡ op)
unfolding bit_code bit_op
bit_ops Set1 = (omega arith, refl)
bit_ops Not1 = (omega arith, refl)
bit_ops Clr1 = (omega arith, refl)
bit_ops Tst1 = (omega arith, refl)

pub loads-number : (n : ℕ) → loads n ≡ true → n < 6
loads-number n h = ⊎_elim (λ (e : ltb n 4 ≡ true). omega facts) (λ (e : eqb n 5 ≡ true). omega facts) (either_true (ltb n 4) (eqb n 5) h)

-- The fields of a halfword that is put together
pub fields : (reg2 opcode reg1 : ℕ) → reg2 < 32 → opcode < 64 → reg1 < 32 → let h : ℕ = half reg2 opcode reg1 in
    (h < 2 ^ 16) × (reg2_of h ≡ reg2) × (opcode_of h ≡ opcode) × (reg1_of h ≡ reg1)
fields reg2 opcode reg1 a b c = omega facts

-- A field as a word: its bits (b true) or by its sign (b false); and the words that there are for it. From half on its numbers have the sign
abbrev pub word_of : ℕ → Bool → ℕ → ℕ
word_of half b n = cond b (n % (2 * half)) (by_sign half (n % (2 * half)))

abbrev pub is_word : ℕ → Bool → ℕ → Bool
is_word half b x = cond b (ltb x (2 * half)) (ltb x half || (leb (W - half) x && ltb x W))

abbrev pub EvenWord : ℕ → ℕ → Type 0
EvenWord half n = (is_word half false (word_of half false n) ≡ true) × (word_of half false n % (2 * half) ≡ n) × (word_of half false n % 2 ≡ 0)

-- the words are a multiple of the field's numbers
pub record Width (half : ℕ) : Type 0 where
  pub others : ℕ
  pub all : W ≡ suc others * (2 * half)

pub width5 : Width (2 ^ 4)
width5 = record { others = 2 ^ 27 - 1; all = refl }

pub width9 : Width (2 ^ 8)
width9 = record { others = 2 ^ 23 - 1; all = refl }

pub width16 : Width (2 ^ 15)
width16 = record { others = 2 ^ 16 - 1; all = refl }

pub width22 : Width (2 ^ 21)
width22 = record { others = 2 ^ 10 - 1; all = refl }

module _ {half : ℕ} (k : Width half) where
  -- a field's word has its bits, and is in range
  pub word-bits : (b : Bool) {n : ℕ} → n < 2 * half → word_of half b n % (2 * half) ≡ n
  unfolding by_sign
  word-bits b {n} h = rw (mod-eq_of_lt h)
      (splits (λ x. x % (2 * half) ≡ n) b (λ _. mod-eq_of_lt h)
      (λ _. splits (λ x. x % (2 * half) ≡ n) (ltb n half) (λ _. mod-eq_of_lt h)
      (λ _. let e : n + (W - 2 * half) ≡ n + k.others * (2 * half) = omega facts in
      rw (e, add-mul-mod_self_right) (mod-eq_of_lt h))))

  pub word_is : (b : Bool) {n : ℕ} → n < 2 * half → is_word half b (word_of half b n) ≡ true
  unfolding by_sign
  word_is true {n} h = rw (mod-eq_of_lt h) (lt-ltb n (2 * half) h)
  word_is false {n} h = rw (mod-eq_of_lt h)
      (splits (λ x. is_word half false x ≡ true) (ltb n half) (λ e. rw e)
      (λ e. let x : ℕ = n + (W - 2 * half) in
      rw (le-leb (W - half) x (omega facts), lt-ltb x W (omega facts)) (or_right (ltb x half))))

  pub word : (b : Bool) {n : ℕ} → n < 2 * half → (is_word half b (word_of half b n) ≡ true) × (word_of half b n % (2 * half) ≡ n)
  word b h = (word_is b h, word-bits b h)

  pub even_word : {n : ℕ} → n < 2 * half → n % 2 ≡ 0 → EvenWord half n
  unfolding by_sign
  even_word {n} h e =
      (word_is false h, word-bits false h, rw (mod-eq_of_lt h) (splits (λ x. x % 2 ≡ 0) (ltb n half) (λ _. e) (λ _. omega facts)))

  -- a word in range is what its bits stand for
  pub word_of_lem : (b : Bool) (n x : ℕ) → is_word half b x ≡ true → n ≡ x % (2 * half) → word_of half b n ≡ x
  unfolding by_sign
  word_of_lem true n x h e = let l : x < 2 * half = ltb-true x (2 * half) h in rw (e, mod-mod, mod-eq_of_lt l)
  word_of_lem false n x h e = rw (e, mod-mod)
      (⊎_elim
      (λ (p : ltb x half ≡ true). let l : x < 2 * half = omega facts in rw (mod-eq_of_lt l, p))
      (λ p.
      let r : (leb (W - half) x ≡ true) × (ltb x W ≡ true) = both_true _ _ p in
      let y : ℕ = x - k.others * (2 * half) in
      let l : (half ≤ y) × (y < 2 * half) × (x ≡ y + k.others * (2 * half)) = omega facts in
      let f : x % (2 * half) ≡ y = ap (λ n. n % (2 * half)) l.2 ∙ add-mul-mod_self_right y _ _ ∙ mod-eq_of_lt l.1 in
      rw (f, le-ltb y half l.0) (omega facts))
      (either_true (ltb x half) (leb (W - half) x && ltb x W) h))

pub disp16_of : (d : ℕ) → is_signed 16 d ≡ true → disp16 (d % 2 ^ 16) ≡ d
disp16_of d h = word_of_lem width16 false (d % 2 ^ 16) d h refl
