-- Numbers of a range, one by one: what holds of each number from lo to lo + n - 1 holds of any number between them.
use Rattle.std.specs.Prelude.{◌≡◌, refl, ℕ, zero, suc, ◌+◌, ◌≤◌, ◌<◌}
use Rattle.std.proofs.Common.{subst, sym, ⊎_elim, eq-or-lt_of_le, arith}

-- P at each of n numbers from lo, after A, in the form that a match leaves
abbrev pub Each : Type 0 → (ℕ → Type 0) → ℕ → ℕ → Type 0
Each A P lo zero = A
Each A P lo (suc n) = Each A P lo n × P (lo + n)

pub within : (A : Type 0) (P : ℕ → Type 0) (lo n : ℕ) → Each A P lo n → {k : ℕ} → lo ≤ k → k < lo + n → P k
within A P lo zero e a b = absurd (omega arith)
within A P lo (suc n) e {k} a b =
    ⊎_elim (λ h. subst P (sym h) e.1) (λ h. within A P lo n e.0 a h) (eq-or-lt_of_le {m = lo + n} (omega arith))

-- a number that is none of them, and not below lo, is past them
pub past : (A : Type 0) (lo n : ℕ) {k : ℕ} → Each A (λ m. (k ≡ m → ⊥)) lo n → lo ≤ k → lo + n ≤ k
past A lo n {k} e a =
    let out : k < lo + n → ⊥ = λ h. within A (λ m. (k ≡ m → ⊥)) lo n e a h refl in omega arith

-- and one that is not past them is below lo
pub under : (A : Type 0) (lo n : ℕ) {k : ℕ} → Each A (λ m. (k ≡ m → ⊥)) lo n → k < lo + n → k < lo
under A lo n {k} e b =
    let out : lo ≤ k → ⊥ = λ h. within A (λ m. (k ≡ m → ⊥)) lo n e h b refl in omega arith
