-- Signed words and their bits.
use Rattle.std.proofs.Common.{◌≡◌, ℕ, zero, suc, ◌-◌, ◌%◌, ◌^◌, ◌<◌, true, ℤ, pos, negsuc, neg_ℤ, nat_abs, refl, sym, ap, ◌∙◌, arith, to_z-of_z, w16, w32, SFits, to_z, of_z, ltb-true}
use lib.Signed.{lt_z, mag}
use mir.Facts.{of_z-to_z, sfits_to_z, sfits_widen, Fits-of_lt}
use Rattle.word.specs.Word.{W, signed_half, word_of}

-- sizes
pub neg_size : (z : ℤ) → nat_abs (neg_ℤ z) ≡ nat_abs z
neg_size (pos zero) = refl
neg_size (pos (suc n)) = refl
neg_size (negsuc n) = refl

-- a signed value that a call gave, as the next call reads it from its bits
pub read : {r z : ℤ} → mag r < 2 ^ 31 → r ≡ z → to_z w32 (of_z w32 r) ≡ z
read f e = to_z-of_z {w = w32} (record { sfits = f }) ∙ e

-- the word of a number that a call gave as the signed number of the word n
pub word-read : {r : ℤ} {n : ℕ} → n < W → r ≡ to_z w32 n → of_z w32 (to_z w32 (of_z w32 r)) ≡ n
word-read {n = n} h e = let k = of_z-to_z {w = w32} (Fits-of_lt {w = w32} {n = n} h) in rw (e, k) k

-- the low half of a word is a signed word, which is 0 where the half is
module _ (b : ℕ) where
  pub half-fits : SFits w32 (signed_half b)
  half-fits = sfits_widen {w = w16} {w' = w32} tt (sfits_to_z {w = w16} (Fits-of_lt {w = w16} {n = b % 2 ^ 16} (omega arith)))

  pub half-zero : word_of (signed_half b) ≡ 0 → b % 2 ^ 16 ≡ 0
  half-zero e =
      sym (of_z-to_z {w = w16} (Fits-of_lt {w = w16} {n = b % 2 ^ 16} (omega arith)))
      ∙ ap (of_z w16) (sym (to_z-of_z {w = w32} half-fits) ∙ ap (to_z w32) e)

-- below 0 the complement of the word is below half
pub below : (z : ℤ) → SFits w32 z → lt_z z (pos 0) ≡ true → 4294967295 - of_z w32 z < 2 ^ 31
below (pos n) f t = omega (arith, ltb-true n 0 t)
below (negsuc n) f t = omega (arith, f.sfits)
