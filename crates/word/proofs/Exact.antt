-- What the library says of overflow and saturation, in the words of the definitions.
use Rattle.std.proofs.Common.{to_z, to_z-of_z, zero, suc, ◌/◌, ◌*ℤ◌, neg_ℤ, div-lt_iff_lt-mul, div-le_self, ◌≡◌, ℕ, ◌-◌, ◌^◌, ◌<◌, ◌≤◌, Bool, true, false, ℤ, pos, negsuc, sym, refl, ap, ◌∙◌, arith, w32, SFits, le-ltb, lt-ltb}
use Rattle.std.specs.Bool.{FalseIff}
use Rattle.std.specs.Int.{NotMinOverMinusOne}
use lib.Signed.{mag, quot_z}
use Rattle.word.specs.Word.{signed_half, word_of, least, overflow}
use Rattle.word.specs.Bounds.{half-size, product_size}

-- OV: the exact result is no signed word
pub overflows : (z : ℤ) (ov : Bool) → FalseIff ov (SFits w32 z) → ov ≡ overflow z
unfolding overflow
overflows (pos n) true h =
    let past : 2 ^ 31 ≤ n = omega (arith, λ (l : n < 2 ^ 31). h (record { sfits = l })) in
    simp (lt-ltb (2 ^ 31 - 1) n (omega arith))
overflows (pos n) false h = simp (le-ltb (2 ^ 31 - 1) n (omega (arith, h.sfits)))
overflows (negsuc n) true h =
    let past : 2 ^ 31 ≤ n = omega (arith, λ (l : n < 2 ^ 31). h (record { sfits = l })) in
    simp (lt-ltb (2 ^ 31 - 1) n (omega arith))
overflows (negsuc n) false h = simp (le-ltb (2 ^ 31 - 1) n (omega (arith, h.sfits)))

-- the product of two signed halves is a signed word
pub product_fits : (a b : ℕ) → SFits w32 (signed_half a *ℤ signed_half b)
product_fits a b =
    record { sfits = omega (arith, product_size (signed_half a) (signed_half b) (2 ^ 15) (half-size a) (half-size b)) }

-- the quotient of a signed word is one, but that of the least by -1
neg_mag : (q n : ℕ) → q ≤ suc n → mag (neg_ℤ (pos q)) ≤ n
neg_mag zero n h = omega arith
neg_mag (suc q) n h = omega arith

quot_fits : (x y : ℤ) → SFits w32 x → (x ≡ least → y ≡ negsuc 0 → ⊥) → SFits w32 (quot_z x y)
quot_fits (pos a) (pos b) f m = record { sfits = omega (arith, f.sfits, div-le_self a b) }
quot_fits (pos a) (negsuc b) f m =
    record { sfits = omega (arith, f.sfits, neg_mag (a / suc b) a (omega (arith, div-le_self a (suc b)))) }
quot_fits (negsuc a) (pos b) f m =
    record { sfits = omega (arith, f.sfits, neg_mag (suc a / b) a (div-le_self (suc a) b)) }
quot_fits (negsuc a) (negsuc zero) f m =
    let k : a ≡ 2147483647 → ⊥ = λ e. m (ap negsuc e) refl in
    record { sfits = omega (arith, f.sfits, k, div-le_self (suc a) 1) }
quot_fits (negsuc a) (negsuc (suc b)) f m =
    record { sfits = (div-lt_iff_lt-mul {k = suc (suc b)} {x = suc a} {y = 2 ^ 31} (omega arith)).1 (omega (arith, f.sfits)) }

-- so the library's test of the two operands tells of the quotient
pub divides : (x y : ℤ) (ov : Bool) → SFits w32 x → SFits w32 y → FalseIff ov (NotMinOverMinusOne w32 x y) → FalseIff ov (SFits w32 (quot_z x y))
divides x y true f g h = λ s. h (λ p q.
    let least_x : x ≡ least = sym (to_z-of_z {w = w32} f) ∙ ap (to_z w32) q in
    let minus_one : y ≡ negsuc 0 = sym (to_z-of_z {w = w32} g) ∙ ap (to_z w32) p in
    absurd (omega (arith, (rw (least_x, minus_one) at s).sfits)))
divides x y false f g h = quot_fits x y f (λ p q. h (ap word_of q) (ap word_of p))
