-- A good map: an operand that is found lies in memory whole, and in one place.
use Rattle.std.specs.Prelude.{◌≡◌, refl, Option, Some, Bool, true, false, cond, ◌||◌, List, ℕ, zero, suc, ◌+◌, ◌-◌, ◌/◌, ◌%◌, ◌^◌, ◌≤◌, ◌<◌, eqb, ltb}
use Rattle.std.proofs.Common.{sym, ap, ◌∙◌, arith, ltb-true, ltb-false, leb-true, eqb-true, ne_eqb}
use Rattle.std.proofs.lemmas.Bool.{lt-leb}
use Rattle.word.specs.Tests.{both_true}
use Rattle.insn.specs.declared.Size.{Size}
use Rattle.insn.specs.declared.Size.TheVariants.{Byte, Half, Word}
use Rattle.machine.specs.Regions.{base, size, offset, rights, covers, find_from, find, unused, bounded, good_region, separate, good_map}
use Rattle.machine.specs.Memory.{width, aligned}

or_rest : (a b : Bool) → (a || b) ≡ true → a ≡ false → b ≡ true
or_rest true b h e = let z : ◌≡◌ {A = ℕ} 0 1 = cc in absurd (omega arith)
or_rest false b h e = h

-- a region that covers an address
pub record Covers (map : List ℕ) (right a k : ℕ) : Type 0 where
  pub above : base map k ≤ a
  pub below : a - base map k < size map k
  pub allowed : rights map k / right % 2 ≡ 1

pub covered : (map : List ℕ) (right a k : ℕ) → covers map right a k ≡ true → Covers map right a k
unfolding covers
covered map right a k h =
    let h1 = both_true _ _ h in
    let h2 = both_true _ _ h1.1 in
    record { above = leb-true _ _ h1.0; below = ltb-true _ _ h2.0; allowed = eqb-true _ _ h2.1 }

-- a used region of a good map
pub record Bounded (map : List ℕ) (n k : ℕ) : Type 0 where
  pub base4 : base map k % 4 ≡ 0
  pub size4 : size map k % 4 ≡ 0
  pub addresses : base map k + size map k ≤ 2 ^ 24
  pub places : offset map k + size map k ≤ n

pub used : (map : List ℕ) (n k : ℕ) → good_region map n k ≡ true → 0 < size map k → Bounded map n k
unfolding good_region
used map n k h u = go (eqb (size map k) 0) refl h
  where
    go : (t : Bool) → eqb (size map k) 0 ≡ t → cond t (unused map k) (bounded map n k) ≡ true → Bounded map n k
    go true e h = absurd (omega (arith, eqb-true (size map k) 0 e))
    go false e h =
        let g1 = both_true _ _ h in
        let g2 = both_true _ _ g1.1 in
        let g3 = both_true _ _ g2.1 in
        let g4 = both_true _ _ g3.1 in
        record {
          base4 = eqb-true _ _ g1.0;
          size4 = eqb-true _ _ g2.0;
          addresses = leb-true _ _ g3.0;
          places = leb-true _ _ g4.0;
        }

-- an address that is found: the region that covers it, and its place there
pub record Found (map : List ℕ) (right a p : ℕ) : Type 0 where
  pub region : ℕ
  pub one_of : region < 4
  pub covers : Covers map right a region
  pub place : p ≡ offset map region + (a - base map region)

found_from : (map : List ℕ) (right a p m k : ℕ) → k + m ≤ 4 → find_from map right a m k ≡ Some p → Found map right a p
unfolding find_from
found_from map right a p zero k l e = let z : ◌≡◌ {A = ℕ} 0 1 = cc in absurd (omega arith)
found_from map right a p (suc m) k l e = go (covers map right a k) refl e (found_from map right a p m (suc k) (omega arith))
  where
    go : (t : Bool) → covers map right a k ≡ t
        → cond t (Some (offset map k + (a - base map k))) (find_from map right a m (suc k)) ≡ Some p
        → (find_from map right a m (suc k) ≡ Some p → Found map right a p)
        → Found map right a p
    go true h e rest = record { region = k; one_of = omega arith; covers = covered map right a k h; place = cc }
    go false h e rest = rest e

pub found : (map : List ℕ) (right a p : ℕ) → find map right a ≡ Some p → Found map right a p
found map right a p e = found_from map right a p 4 0 (omega arith) e

-- by cases on a region's number
pub four : (P : ℕ → Type 0) → P 0 → P 1 → P 2 → P 3 → (k : ℕ) → k < 4 → P k
four P a b c d zero l = a
four P a b c d (suc zero) l = b
four P a b c d (suc (suc zero)) l = c
four P a b c d (suc (suc (suc zero))) l = d
four P a b c d (suc (suc (suc (suc k)))) l = absurd (omega arith)

-- separate regions do not cover one address
pub disjoint : (map : List ℕ) (right other a j k : ℕ) → separate map j k ≡ true → Covers map right a j → Covers map other a k → ⊥
unfolding separate
disjoint map right other a j k h c d =
    let h1 = or_rest _ _ h (ne_eqb (size map j) 0 (λ e. omega (arith, c.below))) in
    let h2 = or_rest _ _ h1 (ne_eqb (size map k) 0 (λ e. omega (arith, d.below))) in
    let h3 = (both_true _ _ h2).0 in
    let h4 = or_rest _ _ h3 (lt-leb (base map j + size map j) (base map k) (omega arith)) in
    omega (arith, leb-true (base map k + size map k) (base map j) h4)

module _ (map : List ℕ) (n : ℕ) (good : good_map map n ≡ true) where
  parts : (good_region map n 0 ≡ true) × (good_region map n 1 ≡ true) × (good_region map n 2 ≡ true) × (good_region map n 3 ≡ true)
      × (separate map 0 1 ≡ true) × (separate map 0 2 ≡ true) × (separate map 0 3 ≡ true)
      × (separate map 1 2 ≡ true) × (separate map 1 3 ≡ true) × (separate map 2 3 ≡ true)
  unfolding good_map
  parts =
      let g0 = both_true _ _ good in
      let g1 = both_true _ _ g0.1 in
      let g2 = both_true _ _ g1.1 in
      let g3 = both_true _ _ g2.1 in
      let g4 = both_true _ _ g3.1 in
      let g5 = both_true _ _ g4.1 in
      let g6 = both_true _ _ g5.1 in
      let g7 = both_true _ _ g6.1 in
      let g8 = both_true _ _ g7.1 in
      (g0.0, g1.0, g2.0, g3.0, g4.0, g5.0, g6.0, g7.0, g8.0, g8.1)

  pub good-at : (k : ℕ) → k < 4 → good_region map n k ≡ true
  good-at = four (λ k. good_region map n k ≡ true) parts.0 parts.1 parts.2 parts.3

  -- bases and lengths are multiples of 4, so an operand ends where its region ends, or before
  pub found_inside : (s : Size) (right a p : ℕ) → find map right (aligned s a) ≡ Some p → p + width s ≤ n
  found_inside s right a p e =
      let f = found map right (aligned s a) p e in
      let b = used map n f.region (good-at f.region f.one_of) (omega (arith, f.covers.below)) in
      go s f.region f.covers f.place b
    where
      go : (s : Size) (k : ℕ) → Covers map right (aligned s a) k → p ≡ offset map k + (aligned s a - base map k)
          → Bounded map n k → p + width s ≤ n
      go Byte k c e b = omega arith
      go Half k c e b = omega arith
      go Word k c e b = omega arith

  -- the same, of an address x and an answer r as code has them
  pub found-fits : (s : Size) (right a p : ℕ) {x : ℕ} {r : Option ℕ} → x ≡ aligned s a → r ≡ find map right x → r ≡ Some p → p + width s ≤ n
  found-fits s right a p e f g = found_inside s right a p (ap (λ (y : ℕ). find map right y) (sym e) ∙ sym f ∙ g)

  pub separate-at : (j : ℕ) → j < 4 → (k : ℕ) → k < 4 → j < k → separate map j k ≡ true
  separate-at =
      four (λ j. (k : ℕ) → k < 4 → j < k → separate map j k ≡ true)
      (four (λ k. 0 < k → separate map 0 k ≡ true) (λ l. absurd (omega arith)) (λ l. parts.4) (λ l. parts.5) (λ l. parts.6))
      (four (λ k. 1 < k → separate map 1 k ≡ true) (λ l. absurd (omega arith)) (λ l. absurd (omega arith)) (λ l. parts.7) (λ l. parts.8))
      (four (λ k. 2 < k → separate map 2 k ≡ true) (λ l. absurd (omega arith)) (λ l. absurd (omega arith)) (λ l. absurd (omega arith))
      (λ l. parts.9))
      (λ k h l. absurd (omega arith))

  -- used regions do not overlap, so an address has one place, whatever the right
  pub found_one : (right other a p q : ℕ) → find map right a ≡ Some p → find map other a ≡ Some q → p ≡ q
  found_one right other a p q e d = go (found map right a p e) (found map other a q d)
    where
      go : Found map right a p → Found map other a q → p ≡ q
      go f g = cases (ltb f.region g.region) refl (ltb g.region f.region) refl
        where
          cases : (t : Bool) → ltb f.region g.region ≡ t → (u : Bool) → ltb g.region f.region ≡ u → p ≡ q
          cases true t u v =
              absurd (disjoint map right other a _ _ (separate-at _ f.one_of _ g.one_of (ltb-true _ _ t)) f.covers g.covers)
          cases false t true v =
              absurd (disjoint map other right a _ _ (separate-at _ g.one_of _ f.one_of (ltb-true _ _ v)) g.covers f.covers)
          cases false t false v =
              let e : f.region ≡ g.region = omega (arith, ltb-false f.region g.region t, ltb-false g.region f.region v) in
              f.place ∙ ap (λ (k : ℕ). offset map k + (a - base map k)) e ∙ sym g.place
