-- The entries' contracts leave no choice: any two outcomes that one allows are equal. And what the region view hands out lies in memory.
use Rattle.std.specs.Prelude.{◌≡◌, refl, Bool, true, false, ◌&&◌, List, [], ℕ, ◌+◌, ◌-◌, ◌≤◌, ◌<◌, eqb, leb, length, take, drop}
use Rattle.std.proofs.Common.{sym, ◌∙◌, arith, eqb-true}
use Rattle.std.proofs.lemmas.Bool.{eqb-false}
use Rattle.machine.specs.Regions.{good_map, good_region, base, offset, size, unused}
use Rattle.word.specs.Tests.{both_true}
use Rattle.machine.specs.RegionLaws.{used, good-at}
use Rattle.v850.specs.Block.{BYTES, map_in}
use Rattle.v850.specs.Entry.{MEMORY, words_in, Reset, reset, handed, view}
use Rattle.v850.specs.Handed.{view_from, on_by}

-- A region of a good map lies in memory, used or not
pub region-fits : (map : List ℕ) (n k : ℕ) → good_map map n ≡ true → k < 4 → offset map k + size map k ≤ n
unfolding good_region
region-fits map n k good h = go (eqb (size map k) 0) refl (good-at map n good k h)
  where
    go : (t : Bool) → eqb (size map k) 0 ≡ t → good_region map n k ≡ true → offset map k + size map k ≤ n
    go true e g =
        let u : unused map k ≡ true = rw e at g in
        let v = both_true (eqb (base map k) 0) _ u in
        let o = eqb-true (offset map k) 0 (both_true (eqb (offset map k) 0) _ v.1).0 in
        omega (arith, eqb-true (size map k) 0 e)
    go false e g = (used map n k g (omega (arith, eqb-false (size map k) 0 e))).places

-- What the view asks, test by test
pub handed_by : (block memory : List ℕ) (k : ℕ) {a b c d : Bool}
    → leb k 3 ≡ a → eqb (length block) BYTES ≡ b → leb (length memory) MEMORY ≡ c → good_map (map_in (words_in block)) (length memory) ≡ d
    → handed block memory k ≡ (a && (b && (c && d)))
handed_by block memory k p q r s = rw (p, q, r, s)

-- The part of memory from a on, s bytes long, is the view where one is handed out; where none is, an empty part is
pub view_given : (block memory map : List ℕ) (k a s : ℕ) (at : ℕ × ℕ) → handed block memory k ≡ true
    → map ≡ map_in (words_in block) → a ≡ offset map k → s ≡ size map k
    → (take (a + s - a) (drop a memory) ≡ view block memory k) × (on_by a at ≡ on_by (view_from block memory k) at)
unfolding view view_from
view_given block memory map k a s at h e p q =
    let n : a + s - a ≡ s = omega arith in
    rw (h, n, p, q, e) (refl, refl)

pub view-none : (block memory : List ℕ) (k : ℕ) (at : ℕ × ℕ) → handed block memory k ≡ false
    → ([] ≡ view block memory k) × (on_by 0 at ≡ on_by (view_from block memory k) at)
unfolding view view_from
view-none block memory k at h = rw h (refl, refl)

-- THE THEOREMS

-- A block has one reset: the answer, and every byte.
pub reset_one : (block : List ℕ) (x y : Reset) → x ≡ reset block → y ≡ reset block → x ≡ y
reset_one block x y p q = p ∙ sym q

-- A block, a memory and a number have one view: its bytes, and where it lies.
pub region_one : (block memory : List ℕ) (k : ℕ) (at : ℕ × ℕ) (bytes bytes' : List ℕ) (place place' : ℕ × ℕ)
    → (bytes ≡ view block memory k) × (place ≡ on_by (view_from block memory k) at)
    → (bytes' ≡ view block memory k) × (place' ≡ on_by (view_from block memory k) at)
    → (bytes ≡ bytes') × (place ≡ place')
region_one block memory k at bytes bytes' place place' p q = (p.0 ∙ sym q.0, p.1 ∙ sym q.1)
