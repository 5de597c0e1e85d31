-- Tests joined, and what their answer says of each; tests that are computed case by case, and what a passed one says of each case.
use Rattle.std.specs.Prelude.{◌≡◌, ℕ, zero, suc, ◌<◌, Bool, true, false, cond, ◌&&◌, ◌||◌, T, ◌⊎◌, refl}
use Rattle.std.proofs.Common.{sym, subst, true≢false, inl, inr, not-suc-le-zero, arith}
use Rattle.std.specs.Bool.{beq}
use Rattle.std.proofs.lemmas.Bool.{false≢true}
use Rattle.std.proofs.Math.Decide.{ℕ_discrete}

pub both_true : (a b : Bool) → (a && b) ≡ true → (a ≡ true) × (b ≡ true)
both_true true b e = (refl, e)
both_true false b e = absurd (false≢true e)

pub true_both : {a b : Bool} → a ≡ true → b ≡ true → (a && b) ≡ true
true_both p q = rw (p, q)

pub either_true : (a b : Bool) → (a || b) ≡ true → (a ≡ true) ⊎ (b ≡ true)
either_true true b e = inl refl
either_true false b e = inr e

pub both_false : (a b : Bool) → (a || b) ≡ false → (a ≡ false) × (b ≡ false)
both_false true b e = absurd (true≢false e)
both_false false b e = (refl, e)

-- what holds of both ways of a test, each as far as its answer is known
pub splits : {A : Type 0} {x y : A} (P : A → Type 0) (b : Bool) → (b ≡ true → P x) → (b ≡ false → P y) → P (cond b x y)
splits P true f g = f refl
splits P false f g = g refl

pub and_left : (a b : Bool) → T (a && b) → T a
and_left true b t = tt
and_left false b t = t

pub and_right : (a b : Bool) → T (a && b) → T b
and_right true b t = t
and_right false b t = absurd t

pub beq→eq : (a b : Bool) → T (beq a b) → a ≡ b
beq→eq true true t = refl
beq→eq true false t = absurd t
beq→eq false true t = absurd t
beq→eq false false t = refl

-- at every number below n
abbrev pub below : ℕ → (ℕ → Bool) → Bool
below zero f = true
below (suc n) f = f n && below n f

pub below_at : (n : ℕ) (f : ℕ → Bool) → T (below n f) → (k : ℕ) → k < n → T (f k)
below_at zero f t k h = absurd (not-suc-le-zero h)
below_at (suc n) f t k h =
    elim (ℕ_discrete k n) as (λ _. T (f k)) [
      | yes e ↦ subst (λ (m : ℕ). T (f m)) (sym e) (and_left (f n) (below n f) t)
      | no ne ↦ below_at n f (and_right (f n) (below n f) t) k (omega (arith, ne))
    ]

-- at both truth values
unfoldable pub either_way : (Bool → Bool) → Bool
either_way f = f true && f false

pub either_way-at : (f : Bool → Bool) → T (either_way f) → (b : Bool) → T (f b)
unfolding either_way
either_way-at f t true = and_left (f true) (f false) t
either_way-at f t false = and_right (f true) (f false) t
