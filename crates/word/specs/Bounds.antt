-- Every result is a word: of any operands where the operation cuts it to 32 bits or saturates it, else of words.
use Rattle.std.specs.Prelude.{◌≡◌, ℕ, zero, suc, ◌-◌, ◌*◌, ◌/◌, ◌%◌, ◌^◌, ◌<◌, ◌≤◌, Bool, true, false, cond, ℤ, pos, negsuc, ◌*ℤ◌, neg_ℤ, ◌==◌, int_div, nat_lt, refl}
use Rattle.std.proofs.Common.{arith, div-le_self, mul-le-mul, ltb-false}
use Rattle.std.specs.Int.Signed.{mag, shr_z, mag_shr}
use Rattle.std.proofs.lemmas.Nat.{shr_le}
use Rattle.std.specs.Int.{w16, w32}
use Rattle.std.proofs.Math.Facts.{sfits_to_z, Fits-of_lt}
use Rattle.word.specs.declared.Computed.{Computed}
use Rattle.word.specs.Word.{W, signed, signed_half, word_of, greatest, least, nearest}
use Rattle.word.specs.Sums.{add, sub, satadd, satsub}
use Rattle.word.specs.Shifts.{places, shr, sar, shl}
use Rattle.word.specs.Products.{mulh, divh}
use Rattle.word.specs.Extend.{by_sign}

-- what holds of both ways of a test
pub cond_holds : {A : Type 0} (P : A → Type 0) (t : Bool) {x y : A} → P x → P y → P (cond t x y)
cond_holds P true h k = h
cond_holds P false h k = k

-- words of signed numbers, and sizes of these
pub word_of_word : (z : ℤ) → mag z < W → word_of z < W
word_of_word (pos n) h = h
word_of_word (negsuc n) h = omega arith

pub signed-size : (a : ℕ) → a < W → mag (signed a) < 2 ^ 31
signed-size a h = (sfits_to_z {w = w32} (Fits-of_lt {w = w32} h)).sfits

pub half-size : (a : ℕ) → mag (signed_half a) < 2 ^ 15
half-size a = (sfits_to_z {w = w16} (Fits-of_lt {w = w16} {n = a % 2 ^ 16} (omega arith))).sfits

neg_size : (q n : ℕ) → q ≤ n → mag (neg_ℤ (pos q)) ≤ n
neg_size zero n h = omega arith
neg_size (suc q) n h = omega arith

kept_size : (end z : ℤ) → mag end < 2 ^ 31 → (t : Bool) → nat_lt (2 ^ 31 - 1) (mag z) ≡ t → mag (cond t end z) < 2 ^ 31
kept_size end z h true e = h
kept_size end z h false e = omega (arith, ltb-false (2 ^ 31 - 1) (mag z) e)

nearest-size : (z : ℤ) → mag (nearest z) < 2 ^ 31
unfolding nearest
nearest-size (pos n) = kept_size greatest (pos n) (omega arith) (nat_lt (2 ^ 31 - 1) n) refl
nearest-size (negsuc n) = kept_size least (negsuc n) (omega arith) (nat_lt (2 ^ 31 - 1) n) refl

pub product_size : (a b : ℤ) (n : ℕ) → mag a < n → mag b < n → mag (a *ℤ b) ≤ n * n
product_size (pos a) (pos b) n h k = mul-le-mul {n₁ = a} {m₁ = b} {n₂ = n} {m₂ = n} (omega arith) (omega arith)
product_size (pos a) (negsuc b) n h k =
    neg_size (a * suc b) (n * n) (mul-le-mul {n₁ = a} {m₁ = suc b} {n₂ = n} {m₂ = n} (omega arith) (omega arith))
product_size (negsuc a) (pos b) n h k =
    neg_size (suc a * b) (n * n) (mul-le-mul {n₁ = suc a} {m₁ = b} {n₂ = n} {m₂ = n} (omega arith) (omega arith))
product_size (negsuc a) (negsuc b) n h k =
    mul-le-mul {n₁ = suc a} {m₁ = suc b} {n₂ = n} {m₂ = n} (omega arith) (omega arith)

quotient_size : (a b : ℤ) → mag (int_div a b) ≤ suc (mag a)
quotient_size (pos a) (pos b) = omega (arith, div-le_self a b)
quotient_size (pos a) (negsuc b) = neg_size (a / suc b) (suc a) (omega (arith, div-le_self a (suc b)))
quotient_size (negsuc a) (pos b) = neg_size (suc a / b) (suc a) (div-le_self (suc a) b)
quotient_size (negsuc a) (negsuc b) = div-le_self (suc a) (suc b)

-- the operations
pub add-word : (a b : ℕ) → (add a b).result < W
unfolding add
add-word a b = omega arith

pub sub_word : (a b : ℕ) → (sub a b).result < W
unfolding sub
sub_word a b = omega arith

saturated-word : (z : ℤ) → word_of (nearest z) < W
saturated-word z = word_of_word (nearest z) (omega (arith, nearest-size z))

pub satadd-word : (a b : ℕ) → (satadd a b).result < W
unfolding satadd
satadd-word a b = saturated-word _

pub satsub-word : (a b : ℕ) → (satsub a b).result < W
unfolding satsub
satsub-word a b = saturated-word _

pub shr_word : (a n : ℕ) → a < W → (shr a n).result < W
unfolding shr
shr_word a n h = omega (arith, shr_le a (places n))

pub sar-word : (a n : ℕ) → a < W → (sar a n).result < W
unfolding sar
sar-word a n h =
    let z = shr_z (signed a) (2 ^ places n) in
    word_of_word z (omega (arith, mag_shr (signed a) (2 ^ places n), signed-size a h))

pub shl-word : (a n : ℕ) → (shl a n).result < W
unfolding shl
shl-word a n = omega arith

pub mulh-word : (a b : ℕ) → mulh a b < W
unfolding mulh
mulh-word a b =
    let z = signed_half a *ℤ signed_half b in
    word_of_word z (omega (arith, product_size (signed_half a) (signed_half b) (2 ^ 15) (half-size a) (half-size b)))

pub quotient-word : (a b : ℕ) → a < W → word_of (int_div (signed a) (signed_half b)) < W
quotient-word a b h =
    word_of_word (int_div (signed a) (signed_half b)) (omega (arith, quotient_size (signed a) (signed_half b), signed-size a h))

pub divh-word : (a b : ℕ) → a < W → (divh a b).result < W
unfolding divh
divh-word a b h = cond_holds (λ (r : Computed). r.result < W) (b % 2 ^ 16 == 0) h (quotient-word a b h)

-- a field counted by its sign
pub by_sign_word : (half n : ℕ) → n < 2 * half → 2 * half ≤ W → by_sign half n < W
unfolding by_sign
by_sign_word half n h k = cond_holds (λ (r : ℕ). r < W) (nat_lt n half) (omega arith) (omega arith)
