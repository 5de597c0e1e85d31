-- The last bit that a shift pushes out.
use Rattle.std.proofs.Common.{◌≡◌, ℕ, zero, suc, ◌+◌, ◌-◌, ◌*◌, ◌/◌, ◌%◌, ◌^◌, ◌<◌, eqb, sym, ap, ◌∙◌, arith, shl_exact, shr-shr, ne_eqb}
use lib.Pow.{shl-shr}
use Rattle.word.specs.Shifts.{out_right, out_left}

-- i places up and i + j down are j down
pub up_down : (a i j : ℕ) → a * 2 ^ i / 2 ^ (i + j) ≡ a / 2 ^ j
up_down a i j = sym (shr-shr (a * 2 ^ i) i j) ∙ ap (λ (n : ℕ). n / 2 ^ j) (shl-shr a i)

-- to the right: bit k of a with a zero below it
pub last_right : (a k : ℕ) → eqb (a * 2 / 2 ^ k % 2) 1 ≡ out_right a k
unfolding out_right
last_right a zero = let e : a * 2 / 1 % 2 ≡ 0 = omega arith in simp e
last_right a (suc j) =
    let e : a * 2 / 2 ^ suc j ≡ a / 2 ^ j = ap (λ (n : ℕ). a * 2 / 2 ^ n) (omega arith) ∙ up_down a 1 j in
    let p : suc j - 1 ≡ j = omega arith in
    rw (e, ne_eqb (suc j) 0 (λ q. omega arith), p)

-- to the left: bit 32 of a shifted in 64 bits
pub last_left : (a k : ℕ) → a < 2 ^ 32 → k < 32 → eqb (a * 2 ^ k % 2 ^ 64 / 2 ^ 32 % 2) 1 ≡ out_left a k
unfolding out_left
last_left a zero h l = let e : a * 2 ^ zero % 2 ^ 64 / 2 ^ 32 % 2 ≡ 0 = omega arith in simp e
last_left a (suc j) h l =
    let e : a * 2 ^ suc j % 2 ^ 64 ≡ a * 2 ^ suc j = shl_exact 32 (suc j) 64 h (omega arith) in
    let s : suc j + (32 - suc j) ≡ 32 = omega arith in
    let d : a * 2 ^ suc j / 2 ^ 32 ≡ a / 2 ^ (32 - suc j) = rw s at (up_down a (suc j) (32 - suc j)) in
    rw (e, d, ne_eqb (suc j) 0 (λ q. omega arith))
