-- Laws of windows: one comparison says whether a region covers an address.
use Rattle.std.specs.Prelude.{◌≡◌, Bool, ◌&&◌, List, ℕ, zero, suc, ◌+◌, ◌-◌, ◌*◌, ◌/◌, ◌%◌, ◌^◌, ◌≤◌, ◌<◌, ltb, get_or}
use Rattle.std.proofs.Math.Path.{refl}
use Rattle.std.proofs.Math.Bool.{true, false, cond, and-false}
use native.Mathlib.Omega.{arith}
use Rattle.std.proofs.Math.Dec.{eqb, leb}
use borrow.Author.Tests.{eqb-true, eq-eqb, leb-true, le-leb, lt-ltb, le-ltb, ltb-true, ltb-false}
use Rattle.word.specs.Sums.{difference}
use Rattle.word.specs.Tests.{both_true}
use Rattle.machine.specs.Regions.{base, size, offset, rights, covers, good_region, unused, good_map}
use Rattle.machine.specs.RegionLaws.{four, used, good-at, covered, disjoint, separate-at}
use Rattle.state.specs.Windows.{seen, Sizes, Laid}

module _ (map : List ℕ) (n a k : ℕ) (within : base map k + size map k ≤ 2 ^ 24) (word : a < 2 ^ 32) where
  -- where the comparison holds, the region covers a, and the distance is exact
  pub inside : difference a (base map k) < seen map n k → (covers map (2 ^ n) a k ≡ true) × (difference a (base map k) ≡ a - base map k)
  unfolding covers
  inside h = go (eqb (rights map k / 2 ^ n % 2) 1) refl h
    where
      go : (t : Bool) → eqb (rights map k / 2 ^ n % 2) 1 ≡ t → difference a (base map k) < cond t (size map k) 0
          → ((leb (base map k) a && (ltb (a - base map k) (size map k) && eqb (rights map k / 2 ^ n % 2) 1)) ≡ true) × (difference a (base map k) ≡ a - base map k)
      go true e l =
          let above : base map k ≤ a = omega arith in
          let same : difference a (base map k) ≡ a - base map k = omega arith in
          (rw (e, le-leb (base map k) a above, lt-ltb (a - base map k) (size map k) (omega arith)), same)
      go false e l = absurd (omega arith)

  -- where it does not, the region does not cover a
  pub outside : seen map n k ≤ difference a (base map k) → covers map (2 ^ n) a k ≡ false
  unfolding covers
  outside h = go (eqb (rights map k / 2 ^ n % 2) 1) refl (leb (base map k) a) refl h
    where
      go : (t : Bool) → eqb (rights map k / 2 ^ n % 2) 1 ≡ t → (u : Bool) → leb (base map k) a ≡ u → cond t (size map k) 0 ≤ difference a (base map k)
          → (leb (base map k) a && (ltb (a - base map k) (size map k) && eqb (rights map k / 2 ^ n % 2) 1)) ≡ false
      go true e true f l =
          let above = leb-true (base map k) a f in
          rw (f, le-ltb (a - base map k) (size map k) (omega arith))
      go true e false f l = rw f
      go false e true f l = rw (f, e, and-false)
      go false e false f l = rw f

-- an unused region has no base and no offset
unused_zero : (map : List ℕ) (n k : ℕ) → good_region map n k ≡ true → size map k ≡ 0 → (base map k ≡ 0) × (offset map k ≡ 0)
unfolding good_region
unused_zero map n k h e =
    let g : unused map k ≡ true = rw (eq-eqb (size map k) 0 e) at h in
    let g1 = both_true _ _ g in (eqb-true (base map k) 0 g1.0, eqb-true (offset map k) 0 (both_true _ _ g1.1).0)

-- a good map's regions stay below the end of the addresses and of memory, and do not overlap
pub good_laid : (map : List ℕ) (n : ℕ) → n ≤ 2 ^ 16 → good_map map n ≡ true → Laid map
good_laid map n small g = record { below = λ k l. (ends k l).0; places = λ k l. (ends k l).1; apart = apart }
  where
    ends : (k : ℕ) → k < 4 → (base map k + size map k ≤ 2 ^ 24) × (offset map k + size map k ≤ 2 ^ 16)
    ends k l = go (size map k) refl
      where
        go : (s : ℕ) → size map k ≡ s → (base map k + size map k ≤ 2 ^ 24) × (offset map k + size map k ≤ 2 ^ 16)
        go zero e = let z = unused_zero map n k (good-at map n g k l) e in (omega arith, omega arith)
        go (suc s) e = let b = used map n k (good-at map n g k l) (omega arith) in (omega (arith, b.addresses), omega (arith, b.places))

    apart : (right a j k : ℕ) → j < 4 → k < 4 → covers map right a j ≡ true → covers map right a k ≡ true → j ≡ k
    apart right a j k h l c d = go (ltb j k) refl (ltb k j) refl
      where
        go : (t : Bool) → ltb j k ≡ t → (u : Bool) → ltb k j ≡ u → j ≡ k
        go true t u v =
            absurd (disjoint map right right a j k (separate-at map n g j h k l (ltb-true j k t)) (covered map right a j c) (covered map right a k d))
        go false t true v =
            absurd (disjoint map right right a k j (separate-at map n g k l j h (ltb-true k j v)) (covered map right a k d) (covered map right a j c))
        go false t false v = omega (arith, ltb-false j k t, ltb-false k j v)

-- the twelve sizes, one by one
pub twelve : (map w : List ℕ)
    → get_or w 0 0 ≡ seen map 0 0 → get_or w 1 0 ≡ seen map 0 1 → get_or w 2 0 ≡ seen map 0 2 → get_or w 3 0 ≡ seen map 0 3
    → get_or w 4 0 ≡ seen map 1 0 → get_or w 5 0 ≡ seen map 1 1 → get_or w 6 0 ≡ seen map 1 2 → get_or w 7 0 ≡ seen map 1 3
    → get_or w 8 0 ≡ seen map 2 0 → get_or w 9 0 ≡ seen map 2 1 → get_or w 10 0 ≡ seen map 2 2 → get_or w 11 0 ≡ seen map 2 3
    → Sizes map w
twelve map w a0 a1 a2 a3 b0 b1 b2 b3 c0 c1 c2 c3 = record { each = all }
  where
    all : (n k : ℕ) → n < 3 → k < 4 → get_or w (4 * n + k) 0 ≡ seen map n k
    all n k h l =
        four (λ n. (k : ℕ) → k < 4 → n < 3 → get_or w (4 * n + k) 0 ≡ seen map n k)
        (four (λ k. 0 < 3 → get_or w (4 * 0 + k) 0 ≡ seen map 0 k) (λ h. a0) (λ h. a1) (λ h. a2) (λ h. a3))
        (four (λ k. 1 < 3 → get_or w (4 * 1 + k) 0 ≡ seen map 1 k) (λ h. b0) (λ h. b1) (λ h. b2) (λ h. b3))
        (four (λ k. 2 < 3 → get_or w (4 * 2 + k) 0 ≡ seen map 2 k) (λ h. c0) (λ h. c1) (λ h. c2) (λ h. c3))
        (λ k l h. absurd (omega arith)) n (omega arith) k l h
