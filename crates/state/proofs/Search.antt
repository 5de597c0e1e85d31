-- The search through the regions: no two cover the same address, so the region that covers it is the one that is found.
use mathlib.Core.Path.{◌≡◌, refl, sym, ap, ◌∙◌}
use mathlib.Core.Bool.{Bool, true, false, cond}
use mathlib.Core.List.{List}
use Prim.Native.Nat.{ℕ, zero, suc, ◌+◌, ◌-◌, ◌*◌, ◌/◌, ◌%◌, ◌^◌, ◌≤◌, ◌<◌}
use native.Mathlib.Omega.{arith}
use lib.Dec.{eqb, ltb}
use lib.ListN.{get_or}
use borrow.Author.Tests.{ltb-true, ltb-false}
use Rattle.word.specs.Sums.{difference}
use Rattle.std.specs.Prelude.{Some, None}
use Rattle.machine.specs.Regions.{base, size, offset, rights, covers, find_from, find}
use Rattle.machine.specs.RegionLaws.{covered}
use Rattle.state.specs.declared.map.Place.{Place}
use Rattle.state.specs.Windows.{seen, Sizes, Laid, Onward}
use Rattle.state.specs.WindowLaws.{inside, outside}

seen-small : (map : List ℕ) (n k : ℕ) → seen map n k ≤ size map k
seen-small map n k = go (eqb (rights map k / 2 ^ n % 2) 1)
  where
    go : (t : Bool) → cond t (size map k) 0 ≤ size map k
    go true = omega arith
    go false = omega arith

-- what a right sees of region k lies within the largest memory
pub seen-places : {map sizes : List ℕ} {n : ℕ} → (n < 3) × Sizes map sizes × Laid map → (k : ℕ) → k < 4 → offset map k + get_or sizes (4 * n + k) 0 ≤ 2 ^ 16
seen-places {map} {sizes} {n} pre k h = omega (arith, pre.1.each n k pre.0 h, pre.2.places k h, seen-small map n k)

only : (map : List ℕ) → Laid map → (right a k : ℕ) → k < 4 → covers map right a k ≡ true → find map right a ≡ Some (offset map k + (a - base map k))
unfolding find_from
only map laid right a k l h = from 4 0 (omega arith) (omega arith)
  where
    from : (m j : ℕ) → j ≤ k → k < j + m → find_from map right a m j ≡ Some (offset map k + (a - base map k))
    from zero j i e = absurd (omega arith)
    from (suc m) j i e = go (covers map right a j) refl (from m (suc j))
      where
        differ : covers map right a j ≡ false → j ≡ k → ⊥
        differ t s = let z : ◌≡◌ {A = ℕ} 0 1 = cc in omega arith

        go : (t : Bool) → covers map right a j ≡ t
            → (suc j ≤ k → k < suc j + m → find_from map right a m (suc j) ≡ Some (offset map k + (a - base map k)))
            → cond t (Some (offset map j + (a - base map j))) (find_from map right a m (suc j)) ≡ Some (offset map k + (a - base map k))
        go true t rest = ap (λ (i : ℕ). Some (offset map i + (a - base map i))) (laid.apart right a j k (omega arith) l t h)
        go false t rest = let n = differ t in rest (omega arith) (omega arith)

-- the code's comparison for region k says whether it covers the address
module _ {map : List ℕ} (laid : Laid map) (n k a : ℕ) (one_of : k < 4) (word : a < 2 ^ 32) where
  pub near_covers : ltb (difference a (base map k)) (seen map n k) ≡ covers map (2 ^ n) a k
  near_covers = go (ltb (difference a (base map k)) (seen map n k)) refl
    where
      go : (t : Bool) → ltb (difference a (base map k)) (seen map n k) ≡ t → t ≡ covers map (2 ^ n) a k
      go true e = sym (inside map n a k (laid.below k one_of) word (ltb-true _ _ e)).0
      go false e = sym (outside map n a k (laid.below k one_of) word (ltb-false _ _ e))

  -- where it does: the distance, and what lies before the region's end
  pub covered_near : covers map (2 ^ n) a k ≡ true → difference a (base map k) < seen map n k
  covered_near h = ltb-true _ _ (near_covers ∙ h)

  pub covered_small : covers map (2 ^ n) a k ≡ true → offset map k + seen map n k ≤ 2 ^ 16
  covered_small h = omega (arith, laid.places k one_of, seen-small map n k)

  -- what is found there, and all that is left of the region
  pub placed : covers map (2 ^ n) a k ≡ true → (p : Place)
      → p.at ≡ offset map k + difference a (base map k) → p.left + difference a (base map k) ≡ seen map n k
      → (Some p.at ≡ find map (2 ^ n) a) × Onward map (2 ^ n) a p
  placed h p e f =
      let less = covered_near h in
      let within = laid.below k one_of in
      let here = inside map n a k within word less in
      let above = (covered map (2 ^ n) a k here.0).above in
      let small = seen-small map n k in
      let held = laid.places k one_of in (
        ap Some (omega arith) ∙ sym (only map laid (2 ^ n) a k one_of here.0),
        record {
          each = λ i j. only map laid (2 ^ n) (a + i) k one_of (inside map n (a + i) k within (omega arith) (omega arith)).0 ∙ ap Some (omega arith);
          below = λ i. omega arith;
          places = λ i. omega arith;
        },
      )

-- where no region covers the address, none is found
pub unplaced : (map : List ℕ) (right a : ℕ) → covers map right a 0 ≡ false → covers map right a 1 ≡ false
    → covers map right a 2 ≡ false → covers map right a 3 ≡ false → None ≡ find map right a
unfolding find_from
unplaced map right a c0 c1 c2 c3 = rw (c0, c1, c2, c3)
