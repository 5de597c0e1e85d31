-- OV and CY of sums and differences, by the signs and the size of what 32 bits hold.
use Rattle.std.proofs.Common.{◌≡◌, ℕ, ◌-◌, ◌*◌, ◌/◌, ◌^◌, ◌<◌, ◌≤◌, Bool, true, false, cond, ltb, ℤ, pos, negsuc, ◌+ℤ◌, ◌-ℤ◌, refl, ◌∙◌, arith, w32, SFits, ltb-true, ltb-false, le-leb}
use Rattle.std.proofs.lemmas.Int.{ints}
use Rattle.std.proofs.lemmas.Bool.Decides.{nat_tests}
use Rattle.std.specs.Bool.{beq, FalseIff}
use mathlib.Core.Bool.{not, ◌&&◌}
use Rattle.std.proofs.lemmas.Bool.Decides.{leb_tells}
use Rattle.std.proofs.Common.{inl, inr}
use borrow.Author.Tests.{lt-leb}
use lib.Signed.{◌≤ℤ◌, ◌<ℤ◌}
use mir.Facts.{of_z-to_z}
use Rattle.std.proofs.Common.{ap}
use Rattle.word.specs.Word.{W, signed, word_of, negative?, greatest, least, overflow, nearest}
use Rattle.word.proofs.Exact.{overflows}
use Rattle.word.specs.Sums.{sum, difference, carry}

-- what a word's sign says of it
abbrev Sign : ℕ → Bool → Type 0
Sign a true = 2 ^ 31 ≤ a
Sign a false = a < 2 ^ 31

sign : (a : ℕ) → Sign a (negative? a)
sign a = elim (leb_tells (2 ^ 31) a) [ inl t ↦ rw t.0 t.1 | inr t ↦ rw t.0 t.1 ]

-- the signed number is the word, less W where bit 31 is 1
value : (a : ℕ) → a < W → (signed a +ℤ pos (a / 2 ^ 31 * W)) ≡ pos a
value a h = go (ltb a (2 ^ 31)) refl
  where
    go : (t : Bool) → ltb a (2 ^ 31) ≡ t → (signed a +ℤ pos (a / 2 ^ 31 * W)) ≡ pos a
    go true e = let l = ltb-true a (2 ^ 31) e in rw e (omega (arith, ints))
    go false e = let l = ltb-false a (2 ^ 31) e in rw e (omega (arith, ints))

fits : (z : ℤ) → (z ≤ℤ greatest) → (least ≤ℤ z) → SFits w32 z
fits (pos n) h k = record { sfits = omega (arith, ints) }
fits (negsuc n) h k = record { sfits = omega (arith, ints) }

-- two words, and what their signed numbers are worth
module _ (a b : ℕ) (h : a < W) (k : b < W) (x : (signed a +ℤ pos (a / 2 ^ 31 * W)) ≡ pos a) (y : (signed b +ℤ pos (b / 2 ^ 31 * W)) ≡ pos b) where
  -- the sum does not fit where both differ from it in sign
  tells : (p q s : Bool) → Sign a p → Sign b q → Sign (sum a b) s → FalseIff (not (beq p s) && not (beq q s)) (SFits w32 (signed a +ℤ signed b))
  tells true true true i j l = fits _ (omega (arith, ints)) (omega (arith, ints))
  tells true true false i j l = λ f. absurd (omega (arith, ints, f))
  tells true false true i j l = fits _ (omega (arith, ints)) (omega (arith, ints))
  tells true false false i j l = fits _ (omega (arith, ints)) (omega (arith, ints))
  tells false true true i j l = fits _ (omega (arith, ints)) (omega (arith, ints))
  tells false true false i j l = fits _ (omega (arith, ints)) (omega (arith, ints))
  tells false false true i j l = λ f. absurd (omega (arith, ints, f))
  tells false false false i j l = fits _ (omega (arith, ints)) (omega (arith, ints))

pub sum_tells : (a b : ℕ) → a < W → b < W → FalseIff (not (beq (negative? a) (negative? (sum a b))) && not (beq (negative? b) (negative? (sum a b)))) (SFits w32 (signed a +ℤ signed b))
sum_tells a b h k =
    tells a b h k (value a h) (value b k) (negative? a) (negative? b) (negative? (sum a b)) (sign a) (sign b) (sign (sum a b))

-- a difference fits where what was taken away, put back, gives a sum that does
module _ (a b : ℕ) (h : a < W) (k : b < W) where
  back : SFits w32 (signed a -ℤ signed b) → SFits w32 (signed (difference a b) +ℤ signed b)
  back f =
      let r : difference a b < W = omega arith in
      fits _
      (omega (arith, ints, value a h, value b k, value (difference a b) r))
      (omega (arith, ints, value a h, value b k, value (difference a b) r))

  away : SFits w32 (signed (difference a b) +ℤ signed b) → SFits w32 (signed a -ℤ signed b)
  away f =
      let r : difference a b < W = omega arith in
      fits _
      (omega (arith, ints, value a h, value b k, value (difference a b) r))
      (omega (arith, ints, value a h, value b k, value (difference a b) r))

  put_back : (ov : Bool) → FalseIff ov (SFits w32 (signed (difference a b) +ℤ signed b)) → FalseIff ov (SFits w32 (signed a -ℤ signed b))
  put_back true n = λ f. n (back f)
  put_back false n = away n

  pub taken : (ov : Bool) (r : ℕ) → r ≡ difference a b → FalseIff ov (SFits w32 (signed r +ℤ signed b)) → ov ≡ overflow (signed a -ℤ signed b)
  taken ov r e n = overflows (signed a -ℤ signed b) ov (put_back ov (rw e at n))

-- what saturation stores of an exact result z that is r in 32 bits, of a sum or difference of a: r where z fits, else the end on a's side
abbrev pub Stored : ℕ → ℤ → ℕ → Type 0
Stored a z r = word_of (nearest z) ≡ cond (overflow z) (cond (negative? a) (2 ^ 31) (2 ^ 31 - 1)) r

stored : (a r : ℕ) (z : ℤ) → r < W → (SFits w32 z → z ≡ signed r) → ((greatest <ℤ z) → a < 2 ^ 31) → ((z <ℤ least) → 2 ^ 31 ≤ a) → Stored a z r
unfolding overflow nearest
stored a r (pos n) h same above below = go (ltb (2 ^ 31 - 1) n) refl
  where
    go : (t : Bool) → ltb (2 ^ 31 - 1) n ≡ t → Stored a (pos n) r
    go true e =
        let l = ltb-true (2 ^ 31 - 1) n e in
        simp (e, lt-leb (2 ^ 31) a (above (omega (arith, ints))))
    go false e =
        let l = ltb-false (2 ^ 31 - 1) n e in
        simp e (ap word_of (same (record { sfits = omega arith })) ∙ of_z-to_z {w = w32} (record { fits = h }))
stored a r (negsuc n) h same above below = go (ltb (2 ^ 31 - 1) n) refl
  where
    go : (t : Bool) → ltb (2 ^ 31 - 1) n ≡ t → Stored a (negsuc n) r
    go true e =
        let l = ltb-true (2 ^ 31 - 1) n e in
        simp (e, le-leb (2 ^ 31) a (below (omega (arith, ints))))
    go false e =
        let l = ltb-false (2 ^ 31 - 1) n e in
        simp e (ap word_of (same (record { sfits = omega arith })) ∙ of_z-to_z {w = w32} (record { fits = h }))

module _ (a b : ℕ) (h : a < W) (k : b < W) where
  pub stored_sum : Stored a (signed a +ℤ signed b) (sum a b)
  stored_sum =
      let r : sum a b < W = omega arith in
      stored a (sum a b) (signed a +ℤ signed b) r
      (λ f. omega (arith, ints, f, value a h, value b k, value (sum a b) r))
      (λ l. omega (arith, ints, value a h, value b k))
      (λ l. omega (arith, ints, value a h, value b k))

  pub stored_difference : Stored a (signed a -ℤ signed b) (difference a b)
  stored_difference =
      let r : difference a b < W = omega arith in
      stored a (difference a b) (signed a -ℤ signed b) r
      (λ f. omega (arith, ints, f, value a h, value b k, value (difference a b) r))
      (λ l. omega (arith, ints, value a h, value b k))
      (λ l. omega (arith, ints, value a h, value b k))

-- CY: a sum that wrapped is less than each of its parts
pub wrapped : (a b : ℕ) → a < W → b < W → ltb (sum a b) a ≡ carry a b
wrapped a b h k = grind (arith, nat_tests)
