-- A number in bytes is 0 exactly if each byte is 0, so the marks of bytes can be read as one number.
use mathlib.Core.Path.{◌≡◌, refl, ap, ◌∙◌}
use mathlib.Core.Bool.{Bool, true, false, cond, ◌||◌}
use mathlib.Core.List.{List, [], ◌∷◌}
use Prim.Native.Nat.{ℕ, zero, suc, ◌+◌, ◌*◌, ◌/◌, ◌%◌, ◌^◌}
use native.Mathlib.Omega.{arith}
use borrow.Author.Tests.{ne_eqb}
use Rattle.machine.specs.Marked.{marked, mark_of}
use Rattle.machine.specs.Memory.{little_endian}

first_or_rest : (b n : ℕ) → marked (b + 2 ^ 8 * n) ≡ (marked b || marked n)
first_or_rest zero zero = refl
first_or_rest zero (suc n) = simp (ne_eqb (0 + 2 ^ 8 * suc n) 0 (λ e. omega arith), ne_eqb (suc n) 0 (λ e. omega arith))
first_or_rest (suc b) n = simp (ne_eqb (suc b + 2 ^ 8 * n) 0 (λ e. omega arith), ne_eqb (suc b) 0 (λ e. omega arith))

abbrev pub any_marked : List ℕ → Bool
any_marked [] = false
any_marked (b ∷ bs) = marked b || any_marked bs

pub some_marked : (bs : List ℕ) → marked (little_endian bs) ≡ any_marked bs
unfolding little_endian
some_marked [] = refl
some_marked (b ∷ bs) = first_or_rest b (little_endian bs) ∙ ap (λ (t : Bool). marked b || t) (some_marked bs)

-- the bytes of a mark that is written to each
pub mark-bytes : (b : Bool) → (cond b 0x01010101 0 % 2 ^ 8 ≡ mark_of b) × (cond b 0x01010101 0 / 2 ^ 8 % 2 ^ 8 ≡ mark_of b)
    × (cond b 0x01010101 0 / 2 ^ 16 % 2 ^ 8 ≡ mark_of b) × (cond b 0x01010101 0 / 2 ^ 24 % 2 ^ 8 ≡ mark_of b)
mark-bytes true = (refl, refl, refl, refl)
mark-bytes false = (refl, refl, refl, refl)
