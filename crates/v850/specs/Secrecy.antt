-- Demand 3 at the boundary: a call tells nothing of what is marked.
use Rattle.std.specs.Prelude.{◌≡◌, refl, Bool, true, cond, List, [], ◌∷◌, ℕ, ◌^◌, ◌≤◌, T, eqb, leb, length}
use Rattle.std.proofs.Common.{sym, ap, ◌∙◌, subst, true≢false, eqb→eq, leb→le}
use Rattle.std.proofs.Math.Facts.{and_yes}
use Rattle.machine.specs.declared.Open.{Open}
use Rattle.machine.specs.declared.Ran.{Ran}
use Rattle.machine.specs.Marked.{Cells, both}
use Rattle.machine.specs.Regions.{good_map}
use Rattle.machine.specs.Run.{number, Ended, run}
use Rattle.machine.specs.WellFormed.{WellFormed}
use Rattle.machine.proofs.Invariants.{run_well_formed}
use Rattle.machine.specs.Alike.{bit_cells, no_bit_cells, Alike, AlikeEnds}
use Rattle.machine.proofs.Secrecy.{secrecy}
use Rattle.v850.specs.Block.{bytes_of, words_from, BYTES, WORDS, MAP_WORDS, REPORT, map_in, core_in, cells_in, words_of, good_state}
use Rattle.v850.specs.PackLaws.{Below, words-length, words-bytes, words-below}
use Rattle.v850.specs.BlockLaws.{map-long, map-words, apart-together}
use Rattle.v850.specs.Entry.{MEMORY, good_sizes, words_in, finished, called}
use Rattle.v850.specs.AlikeStarts.{AlikeWords, AlikeMemories, Passes, AlikeLeft}
use Rattle.v850.specs.SecrecyLaws.{Good, formed, together-good, map_same, core-same, cells-alike, words-alike}

-- the end of the run of a call that passes, from the words of its block
abbrev pub run_of : ℕ → List ℕ → List ℕ → List ℕ → Ended
run_of budget ws memory marks = run budget 0 (map_in ws) (core_in ws) (cells_in ws) (both memory marks)

tests_pass : {A : Type 0} (a b d : Bool) (x y z u : A) → a ≡ true → b ≡ true → d ≡ true → cond a (cond b (cond d x y) z) u ≡ x
tests_pass a b d x y z u p q r = rw (p, q, r)

module _ {block memory marks report : List ℕ} (p : Passes block memory marks report) where
  pub called-passes : (budget : ℕ)
      → called block memory marks report budget ≡ finished (map_in (words_in block)) (run_of budget (words_in block) memory marks)
  unfolding called
  called-passes budget =
      tests_pass (good_sizes block memory marks report) (good_map (map_in (words_in block)) (length memory)) (good_state (words_in block)) _ _ _ _
      p.sizes p.map p.state

  pub good-words : Below (2 ^ 8) block → Good (words_in block)
  good-words h = record { long = words-length block 0 WORDS; words = words-below block 0 WORDS h; state = p.state }

  lengths : T (leb (length memory) MEMORY) × T (eqb (length marks) (length memory))
  lengths =
      let t = (and_yes (eqb (length block) BYTES) _ (subst T (sym p.sizes) tt)).1 in
      let u = (and_yes (eqb (length report) REPORT) _ t).1 in
      and_yes (leb (length memory) MEMORY) _ u

  pub memory-small : length memory ≤ MEMORY
  memory-small = leb→le (length memory) MEMORY lengths.0

  pub marks-long : length memory ≡ length marks
  marks-long = sym (eqb→eq (length marks) (length memory) lengths.1)

  memories : {memory' marks' : List ℕ} → AlikeMemories memory marks memory' marks' → Alike no_bit_cells (both memory marks) (both memory' marks')
  memories a =
      record { sizes = a.sizes; whole = marks-long; marks = a.same; values = λ i e. a.bytes i; bits = λ i k e. absurd (true≢false (sym e)) }

-- runs from one map and one core
same_start : (budget : ℕ) {map map' : List ℕ} {o o' : Open} {c d m n : Cells} → map ≡ map' → o ≡ o' → Alike bit_cells c d → Alike no_bit_cells m n
    → AlikeEnds (run budget 0 map o c m) (run budget 0 map' o' d n)
same_start budget {map} {map'} {o} {o'} {c} {d} {m} {n} p q h g =
    subst (λ (x : Open). AlikeEnds (run budget 0 map o c m) (run budget 0 map' x d n)) q
    (subst (λ (x : List ℕ). AlikeEnds (run budget 0 map o c m) (run budget 0 x o d n)) p (secrecy budget map o h g))

-- the words of a block that is put together
words_back : {ws : List ℕ} → Good ws → words_in (bytes_of ws) ≡ ws
words_back {ws} g = subst (λ (n : ℕ). words_from (bytes_of ws) 0 n ≡ ws) g.long (words-bytes ws g.words)

-- alike ends leave one answer and report, and alike blocks, memories and marks
module _ {map map' : List ℕ} (same : map ≡ map') (long : length map ≡ MAP_WORDS) (words : Below (2 ^ 32) map) {x y : Ended}
    (f : WellFormed x.ran.core x.cells) (g : WellFormed y.ran.core y.cells) (h : AlikeEnds x y) where
  blocks_alike : AlikeWords (words_of x.ran.core x.cells map) (words_of y.ran.core y.cells map)
  blocks_alike =
      let a = apart-together x.ran.core x.cells map f in
      let b = apart-together y.ran.core y.cells map g in
      words-alike (together-good _ _ map f long words) (together-good _ _ map g long words)
      (a.2 ∙ sym b.2) (a.0 ∙ ap (λ (r : Ran). r.core) h.ran ∙ sym b.0)
      (subst (λ (c : Cells). Alike bit_cells c (cells_in (words_of y.ran.core y.cells map))) (sym a.1)
      (subst (λ (d : Cells). Alike bit_cells x.cells d) (sym b.1) h.cells))

  bytes-alike : AlikeWords (words_in (bytes_of (words_of x.ran.core x.cells map))) (words_in (bytes_of (words_of y.ran.core y.cells map)))
  bytes-alike =
      subst (λ (v : List ℕ). AlikeWords v (words_in (bytes_of (words_of y.ran.core y.cells map)))) (sym (words_back (together-good _ _ map f long words)))
      (subst (λ (w : List ℕ). AlikeWords (words_of x.ran.core x.cells map) w) (sym (words_back (together-good _ _ map g long words))) blocks_alike)

  finished-alike : AlikeLeft (finished map x) (finished map' y)
  finished-alike =
      subst (λ (m : List ℕ). AlikeLeft (finished map x) (finished m y)) same
      (record {
        answer = ap (λ (r : Ran). number r.answer) h.ran;
        report = ap (λ (r : Ran). bytes_of (r.steps ∷ r.place ∷ [])) h.ran;
        block = bytes-alike;
        memory = record { sizes = h.mem.sizes; same = h.mem.marks; bytes = λ i. h.mem.values i refl };
      })

-- a run from a block of bytes that passes ends in a well-formed state
ends-formed : (budget : ℕ) {ws memory : List ℕ} (marks : List ℕ) → Good ws → Below (2 ^ 8) memory
    → WellFormed (run_of budget ws memory marks).ran.core (run_of budget ws memory marks).cells
ends-formed budget {ws} {memory} marks g h =
    (run_well_formed budget 0 (map_in ws) (core_in ws) (cells_in ws) (both memory marks) (formed g) (record { small = h.at })).0

-- THE THEOREM. Two calls that pass the checks and are alike leave the same answer, steps, place and marks, and the same unmarked values.
-- What is lent is bytes.
pub run-secrecy : (budget : ℕ) {block memory marks report block' memory' marks' report' : List ℕ}
    → Below (2 ^ 8) block → Below (2 ^ 8) memory → Below (2 ^ 8) block' → Below (2 ^ 8) memory'
    → Passes block memory marks report → Passes block' memory' marks' report'
    → AlikeWords (words_in block) (words_in block') → AlikeMemories memory marks memory' marks'
    → AlikeLeft (called block memory marks report budget) (called block' memory' marks' report' budget)
run-secrecy budget {block = block} {marks = marks} {marks' = marks'} hb hm hb' hm' p p' a m =
    let f = good-words p hb in
    let g = good-words p' hb' in
    let ends = same_start budget (map_same f g a) (core-same f g a) (cells-alike f g a) (memories p m) in
    let left = finished-alike (map_same f g a) (map-long (words_in block) f.long) (map-words f.words) (ends-formed budget marks f hm) (ends-formed budget marks' g hm') ends in
    rw (called-passes p budget, called-passes p' budget) left
