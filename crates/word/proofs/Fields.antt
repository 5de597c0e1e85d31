-- Fields of a word, and a field's sign.
use Rattle.std.proofs.Common.{◌≡◌, ℕ, suc, ◌+◌, ◌-◌, ◌*◌, ◌%◌, ◌^◌, ◌<◌, ◌≤◌, Bool, true, false, ltb, refl, ap, ◌∙◌, ap₂, mod-eq_of_lt, one-mul, arith, pow_pos, ltb-false, ltb-true, lt-ltb}
use Rattle.std.proofs.Math.Nat.{pow-le-pow_right}
use lib.Bits.{bit_xor, xor_block, xor_zero_r}
use Rattle.word.specs.Word.{W}
use Rattle.word.specs.Extend.{by_sign, sign_extend}

-- a power from 32 on is beyond every word
beyond : (k n : ℕ) → 32 ≤ k → n < W → n < 2 ^ k
beyond k n h l = let p : 2 ^ 32 ≤ 2 ^ k = pow-le-pow_right {n = 2} (omega arith) h in omega arith

-- so the word is its own low bits
pub whole : (k n : ℕ) → 32 ≤ k → n < W → n % 2 ^ k ≡ n
whole k n h l = mod-eq_of_lt (beyond k n h l)

-- a field that is below half stands for itself: one of no bits, or of more than a word has
kept : (half n : ℕ) → n < half → by_sign half n ≡ n
unfolding by_sign
kept half n h = rw (lt-ltb n half h)

pub none : (k n : ℕ) → k ≡ 0 → sign_extend k n ≡ n % 2 ^ k
none k n e = rw e (kept (2 ^ 0) (n % 2 ^ 0) (omega arith))

pub more : (k n : ℕ) → 32 < k → n < W → sign_extend k n ≡ n % 2 ^ k
more k n h l =
    let up : 32 ≤ k - 1 = omega arith in
    let below : n < 2 ^ (k - 1) = beyond (k - 1) n up l in
    let same : n % 2 ^ k ≡ n = whole k n (omega arith) l in
    kept (2 ^ (k - 1)) (n % 2 ^ k) (omega arith)

-- Bit k turned over, in a number with q above its k low bits. Below half the turned bit adds half, which is taken away again;
-- from half on half is taken away twice, and the difference wraps.
module _ (k n : ℕ) where
  turned : (q s : ℕ) → s < 2 ^ k → n ≡ q * 2 ^ k + s → bit_xor n (2 ^ k) ≡ bit_xor q 1 * 2 ^ k + s
  turned q s h e =
      let bit : 2 ^ k ≡ 1 * 2 ^ k + 0 = omega arith in
      ap₂ bit_xor e bit
      ∙ xor_block k q 1 s 0 h (pow_pos k)
      ∙ ap (λ (x : ℕ). bit_xor q 1 * 2 ^ k + x) (xor_zero_r s)

  extended : 2 ^ k ≤ 2 ^ 31 → n < 2 * 2 ^ k → (bit_xor n (2 ^ k) + (W - 2 ^ k)) % W ≡ by_sign (2 ^ k) n
  unfolding by_sign
  extended fits f = go (ltb n (2 ^ k)) refl
    where
      go : (t : Bool) → ltb n (2 ^ k) ≡ t → (bit_xor n (2 ^ k) + (W - 2 ^ k)) % W ≡ by_sign (2 ^ k) n
      go true t =
          let h = ltb-true n (2 ^ k) t in
          rw t (omega (arith, turned 0 n h (omega arith)))
      go false t =
          let h = ltb-false n (2 ^ k) t in
          rw t (omega (arith, turned 1 (n - 2 ^ k) (omega arith) (omega arith)))

field_lt : (k j n : ℕ) → k ≡ suc j → n % 2 ^ k < 2 * 2 ^ j
field_lt k j n e = rw e (omega (arith, pow_pos j))

-- by 1 shifted to the highest bit of the field
pub sign : (k n : ℕ) → (k ≡ 0 → ⊥) → k ≤ 32 → (bit_xor (n % 2 ^ k) (1 * 2 ^ (k - 1) % W) + (W - 1 * 2 ^ (k - 1) % W)) % W ≡ sign_extend k n
sign k n some h =
    let below : k - 1 ≤ 31 = omega arith in
    let fits : 2 ^ (k - 1) ≤ 2 ^ 31 = pow-le-pow_right {n = 2} (omega arith) below in
    let half : 1 * 2 ^ (k - 1) % W ≡ 2 ^ (k - 1) = rw (one-mul) (mod-eq_of_lt {m = W} (omega arith)) in
    rw half (extended (k - 1) (n % 2 ^ k) fits (field_lt k (k - 1) n (omega arith)))
