-- The region view: region k whole, and an empty part exactly where the order says.
use Rattle.std.specs.Prelude.{◌≡◌, refl, Bool, true, false, ◌&&◌, List, ◌≢◌, ◌↔◌, ℕ, ◌<◌, eqb, leb, length}
use Rattle.std.proofs.Common.{sym, ap, ◌∙◌, arith, length-take, length-drop}
use borrow.Author.Tests.{leb-true, leb-false, lt-leb, eqb-false, ne_eqb}
use Rattle.word.specs.Tests.{both_true}
use Rattle.machine.specs.Regions.{good_map, size}
use Rattle.v850.specs.Block.{BYTES, map_in}
use Rattle.v850.specs.Entry.{MEMORY, words_in, handed, view}
use Rattle.v850.specs.EntryLaws.{region-fits, handed_by, view-none}

-- the order's cases of an empty part
pub data NoPart (block memory : List ℕ) (k : ℕ) : Type 0 where
  no_region : 3 < k → NoPart block memory k
  block_size : length block ≢ BYTES → NoPart block memory k
  memory-size : MEMORY < length memory → NoPart block memory k
  bad_map : good_map (map_in (words_in block)) (length memory) ≡ false → NoPart block memory k
  unused : size (map_in (words_in block)) k ≡ 0 → NoPart block memory k

no_rest : (a : Bool) {b : Bool} → b ≡ false → (a && b) ≡ false
no_rest true e = e
no_rest false e = refl

module _ (block memory : List ℕ) (k : ℕ) where
  none : handed block memory k ≡ false → length (view block memory k) ≡ 0
  none h = sym (ap length (view-none block memory k (0, 0) h).0)

  -- THE THEOREMS

  -- A part that is handed out has the region's length: the region of a good map lies in memory.
  pub view-size : handed block memory k ≡ true → length (view block memory k) ≡ size (map_in (words_in block)) k
  unfolding view
  view-size h =
      let t = both_true (leb k 3) _ h in
      let u = both_true (eqb (length block) BYTES) _ t.1 in
      let good = (both_true (leb (length memory) MEMORY) _ u.1).1 in
      let fits = region-fits (map_in (words_in block)) (length memory) k good (omega (arith, leb-true k 3 t.0)) in
      rw h (simp (length-take, length-drop) (omega arith))

  -- The part is empty in the order's cases, and in no other.
  pub view_empty_exactly : (length (view block memory k) ≡ 0) ↔ NoPart block memory k
  view_empty_exactly = (there _ _ _ _ refl refl refl refl, back _ refl)
    where
      there : (a b c d : Bool) → leb k 3 ≡ a → eqb (length block) BYTES ≡ b → leb (length memory) MEMORY ≡ c
          → good_map (map_in (words_in block)) (length memory) ≡ d → length (view block memory k) ≡ 0 → NoPart block memory k
      there false b c d p q r s e = no_region (leb-false k 3 p)
      there true false c d p q r s e = block_size (eqb-false (length block) BYTES q)
      there true true false d p q r s e = memory-size (leb-false (length memory) MEMORY r)
      there true true true false p q r s e = bad_map s
      there true true true true p q r s e = unused (sym (view-size (handed_by block memory k p q r s)) ∙ e)

      back : (t : Bool) → handed block memory k ≡ t → NoPart block memory k → length (view block memory k) ≡ 0
      back false h n = none h
      back true h (unused e) = view-size h ∙ e
      back true h (no_region e) = none (rw (lt-leb k 3 e))
      back true h (block_size e) = none (no_rest (leb k 3) (rw (ne_eqb (length block) BYTES e)))
      back true h (memory-size e) = none (no_rest (leb k 3) (no_rest (eqb (length block) BYTES) (rw (lt-leb (length memory) MEMORY e))))
      back true h (bad_map e) = none (no_rest (leb k 3) (no_rest (eqb (length block) BYTES) (no_rest (leb (length memory) MEMORY) e)))
