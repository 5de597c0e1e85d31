-- Demand 1 at the boundary: SIZE, MAP and STATE are answered exactly when their tests fail, in this order, and then nothing but the report changes.
use Rattle.std.specs.Prelude.{◌≡◌, Bool, true, false, cond, List, ◌⊎◌, ◌↔◌, ℕ, ◌≤◌, ◌<◌, length, replicate}
use Rattle.std.proofs.Math.Path.{refl}
use Rattle.std.proofs.Common.{sym, ◌∙◌, true≢false, inl, inr, arith}
use Rattle.machine.specs.declared.Answer.TheVariants.{Size, Map, State}
use Rattle.machine.specs.Marked.{both}
use Rattle.machine.specs.Regions.{good_map}
use Rattle.machine.specs.Run.{number}
use Rattle.machine.proofs.Invariants.{run_answers}
use Rattle.v850.specs.Block.{REPORT, map_in, core_in, cells_in, good_state}
use Rattle.v850.specs.Entry.{Left, left, good_sizes, words_in, called}
use Rattle.v850.proofs.CallLaws.{refused_size, refused_map, refused_state}

-- no number of a refused call
another : {n : ℕ} (k : ℕ) → 0 < k → k < 4 → ((n ≡ 0) ⊎ (4 ≤ n)) → n ≡ k → ⊥
another k l u (inl p) e = omega arith
another k l u (inr p) e = omega arith

-- three tests in order, each with its number, and a run that answers another number
record Ordered (a b d : Bool) (n : ℕ) : Type 0 where
  size : (n ≡ 1) ↔ (a ≡ false)
  map : (n ≡ 2) ↔ ((a ≡ true) × (b ≡ false))
  state : (n ≡ 3) ↔ ((a ≡ true) × (b ≡ true) × (d ≡ false))

ordered : (a b d : Bool) (x y z u : Left) → ((x.answer ≡ 0) ⊎ (4 ≤ x.answer)) → y.answer ≡ 3 → z.answer ≡ 2 → u.answer ≡ 1
    → Ordered a b d (cond a (cond b (cond d x y) z) u).answer
ordered false b d x y z u h hy hz hu =
    record {
      size = (λ e. refl, λ e. hu);
      map = (λ e. absurd (omega arith), λ p. absurd (true≢false (sym p.0)));
      state = (λ e. absurd (omega arith), λ p. absurd (true≢false (sym p.0)));
    }
ordered true false d x y z u h hy hz hu =
    record {
      size = (λ e. absurd (omega arith), λ e. absurd (true≢false e));
      map = (λ e. (refl, refl), λ p. hz);
      state = (λ e. absurd (omega arith), λ p. absurd (true≢false (sym p.1)));
    }
ordered true true false x y z u h hy hz hu =
    record {
      size = (λ e. absurd (omega arith), λ e. absurd (true≢false e));
      map = (λ e. absurd (omega arith), λ p. absurd (true≢false p.1));
      state = (λ e. (refl, refl, refl), λ p. hy);
    }
ordered true true true x y z u h hy hz hu =
    record {
      size = (λ e. absurd (another 1 (omega arith) (omega arith) h e), λ e. absurd (true≢false e));
      map = (λ e. absurd (another 2 (omega arith) (omega arith) h e), λ p. absurd (true≢false p.1));
      state = (λ e. absurd (another 3 (omega arith) (omega arith) h e), λ p. absurd (true≢false p.2));
    }

module _ (block memory marks report : List ℕ) (budget : ℕ) where
  abbrev sizes : Bool
  sizes = good_sizes block memory marks report

  abbrev regions : Bool
  regions = good_map (map_in (words_in block)) (length memory)

  abbrev states : Bool
  states = good_state (words_in block)

  tests : Ordered sizes regions states (called block memory marks report budget).answer
  unfolding called
  tests =
      ordered sizes regions states _ _ _ _
      (run_answers budget 0 (map_in (words_in block)) (core_in (words_in block)) (cells_in (words_in block)) (both memory marks)) refl refl refl

  -- THE THEOREMS

  pub size_exactly : ((called block memory marks report budget).answer ≡ number Size) ↔ (good_sizes block memory marks report ≡ false)
  size_exactly = tests.size

  pub map_exactly : ((called block memory marks report budget).answer ≡ number Map)
      ↔ ((good_sizes block memory marks report ≡ true) × (good_map (map_in (words_in block)) (length memory) ≡ false))
  map_exactly = tests.map

  pub state_exactly : ((called block memory marks report budget).answer ≡ number State)
      ↔ ((good_sizes block memory marks report ≡ true) × (good_map (map_in (words_in block)) (length memory) ≡ true) × (good_state (words_in block) ≡ false))
  state_exactly = tests.state

  -- SIZE leaves everything as it was.
  pub size_leaves : (called block memory marks report budget).answer ≡ number Size
      → called block memory marks report budget ≡ left Size block memory marks report
  size_leaves e = sym (refused_size block memory marks report budget (size_exactly.0 e))

  -- MAP and STATE leave everything but the report, which is zeros.
  pub map_leaves : (called block memory marks report budget).answer ≡ number Map
      → called block memory marks report budget ≡ left Map block memory marks (replicate REPORT 0)
  map_leaves e = let t = map_exactly.0 e in sym (refused_map block memory marks report budget t.0 t.1 refl)

  pub state_leaves : (called block memory marks report budget).answer ≡ number State
      → called block memory marks report budget ≡ left State block memory marks (replicate REPORT 0)
  state_leaves e = let t = state_exactly.0 e in sym (refused_state block memory marks report budget t.0 t.1 t.2 refl)

  -- What a call leaves is one: any two outcomes that the definition allows are equal.
  pub called_one : {x y : Left} → x ≡ called block memory marks report budget → y ≡ called block memory marks report budget → x ≡ y
  called_one p q = p ∙ sym q
