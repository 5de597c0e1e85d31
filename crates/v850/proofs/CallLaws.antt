-- How a call ends, test by test: what the code knows at each of its returns is what the definition says.
use Rattle.std.specs.Prelude.{◌≡◌, refl, Bool, true, false, cond, ◌⊎◌, List, [], ◌≢◌, ℕ, ◌-◌, ◌^◌, ◌≤◌, ◌<◌, Option, Some, None, MatchOption, Result, Ok, Err, eqb, length, take, drop, replicate}
use Rattle.std.specs.Option.{unwrap_or}
use Rattle.std.proofs.Common.{sym, ap, ◌∙◌, subst, inl, inr, eq-eqb, ne_eqb, le-leb, eqb-true}
use Rattle.std.proofs.lemmas.Bool.{lt-leb}
use Rattle.word.specs.Tests.{both_true}
use Rattle.machine.specs.declared.Answer.{Answer}
use Rattle.machine.specs.declared.Open.{Open}
use Rattle.machine.specs.declared.Ran.{Ran}
use Rattle.machine.specs.declared.Answer.TheVariants.{Size, Map, State}
use Rattle.machine.specs.Marked.{Cells, both}
use Rattle.machine.specs.Regions.{good_map, size}
use Rattle.machine.specs.Run.{number, Ended, run}
use Rattle.machine.specs.WellFormed.{WellFormed}
use Rattle.machine.proofs.Invariants.{run_well_formed}
use Rattle.step.specs.Tasks.{Ready}
use Rattle.v850.specs.Block.{bytes_of, BYTES, REPORT, report_of, map_in, core_in, nums_in, marks_in, words_of, good_state}
use Rattle.v850.specs.PackLaws.{Below}
use Rattle.v850.specs.Entry.{Left, left, MEMORY, good_sizes, words_in, finished, called, handed, view}
use Rattle.v850.specs.EntryLaws.{view_given, view-none}
use Rattle.v850.specs.Handed.{view_from, IsPart, on_by}
use Rattle.v850.specs.SecrecyLaws.{formed}
use Rattle.v850.specs.Secrecy.{called-passes, good-words, marks-long, memory-small}
use Rattle.v850.specs.AlikeStarts.{Passes}
use Rattle.v850.specs.CallLaws.{whole, checked, Starts}
use Rattle.v850.specs.declared.block.Words.{Words}

module _ (block memory marks report : List ℕ) where
  pub sizes-good : length block ≡ BYTES → length report ≡ REPORT → length memory ≤ MEMORY → length marks ≡ length memory
      → good_sizes block memory marks report ≡ true
  sizes-good b r m k = rw (eq-eqb (length block) BYTES b, eq-eqb (length report) REPORT r, le-leb (length memory) MEMORY m, eq-eqb (length marks) (length memory) k)

  pub refused_size : (budget : ℕ) → good_sizes block memory marks report ≡ false → left Size block memory marks report ≡ called block memory marks report budget
  unfolding called
  refused_size budget e = rw e

  -- the sizes one by one
  pub wrong_block : (budget : ℕ) → length block ≢ BYTES → left Size block memory marks report ≡ called block memory marks report budget
  wrong_block budget b = refused_size budget (rw (ne_eqb (length block) BYTES b))

  pub wrong_report : (budget : ℕ) → length block ≡ BYTES → length report ≢ REPORT
      → left Size block memory marks report ≡ called block memory marks report budget
  wrong_report budget b r = refused_size budget (rw (eq-eqb (length block) BYTES b, ne_eqb (length report) REPORT r))

  pub wrong_memory : (budget : ℕ) → length block ≡ BYTES → length report ≡ REPORT → MEMORY < length memory
      → left Size block memory marks report ≡ called block memory marks report budget
  wrong_memory budget b r m = refused_size budget (rw (eq-eqb (length block) BYTES b, eq-eqb (length report) REPORT r, lt-leb (length memory) MEMORY m))

  pub wrong_marks : (budget : ℕ) → length block ≡ BYTES → length report ≡ REPORT → length memory ≤ MEMORY → length marks ≢ length memory
      → left Size block memory marks report ≡ called block memory marks report budget
  wrong_marks budget b r m k =
      refused_size budget
      (rw (eq-eqb (length block) BYTES b, eq-eqb (length report) REPORT r, le-leb (length memory) MEMORY m, ne_eqb (length marks) (length memory) k))

  pub refused_map : (budget : ℕ) {zeros : List ℕ} → good_sizes block memory marks report ≡ true
      → good_map (map_in (words_in block)) (length memory) ≡ false → zeros ≡ replicate REPORT 0
      → left Map block memory marks zeros ≡ called block memory marks report budget
  unfolding called
  refused_map budget s e z = rw (s, e, z)

  pub refused_state : (budget : ℕ) {zeros : List ℕ} → good_sizes block memory marks report ≡ true
      → good_map (map_in (words_in block)) (length memory) ≡ true → good_state (words_in block) ≡ false → zeros ≡ replicate REPORT 0
      → left State block memory marks zeros ≡ called block memory marks report budget
  unfolding called
  refused_state budget s g e z = rw (s, g, e, z)

-- what right sizes are
pub sizes_of : (block memory marks report : List ℕ) → good_sizes block memory marks report ≡ true → (length block ≡ BYTES) × (length report ≡ REPORT)
sizes_of block memory marks report e =
    let t = both_true (eqb (length block) BYTES) _ e in
    (eqb-true (length block) BYTES t.0, eqb-true (length report) REPORT (both_true (eqb (length report) REPORT) _ t.1).0)

-- what the tests answer, one by one
module _ (block memory marks report : List ℕ) where
  pub checked_by : {a b d : Bool} → good_sizes block memory marks report ≡ a → good_map (map_in (words_in block)) (length memory) ≡ b
      → good_state (words_in block) ≡ d
      → checked block memory marks report ≡ cond a (cond b (cond d (Ok (whole (words_in block))) (Err State)) (Err Map)) (Err Size)
  unfolding checked
  checked_by p q r = rw (p, q, r)

-- how the checks end: at the first test that fails, or with the words
pub data Outcome (block memory marks report : List ℕ) (r : Result (Words × List ℕ) Answer) : Type 0 where
  bad_sizes : good_sizes block memory marks report ≡ false → r ≡ Err Size → Outcome block memory marks report r
  bad_map : good_sizes block memory marks report ≡ true → good_map (map_in (words_in block)) (length memory) ≡ false → r ≡ Err Map
      → Outcome block memory marks report r
  bad_state : good_sizes block memory marks report ≡ true → good_map (map_in (words_in block)) (length memory) ≡ true
      → good_state (words_in block) ≡ false → r ≡ Err State → Outcome block memory marks report r
  passing : Passes block memory marks report → r ≡ Ok (whole (words_in block)) → Outcome block memory marks report r

pub outcome : {block memory marks report : List ℕ} {r : Result (Words × List ℕ) Answer} → r ≡ checked block memory marks report → Outcome block memory marks report r
outcome {block} {memory} {marks} {report} {r} e = go _ _ _ refl refl refl
  where
    go : (a b d : Bool) → good_sizes block memory marks report ≡ a → good_map (map_in (words_in block)) (length memory) ≡ b → good_state (words_in block) ≡ d
        → Outcome block memory marks report r
    go false b d p q r = bad_sizes p (e ∙ checked_by block memory marks report p q r)
    go true false d p q r = bad_map p q (e ∙ checked_by block memory marks report p q r)
    go true true false p q r = bad_state p q r (e ∙ checked_by block memory marks report p q r)
    go true true true p q r = passing (record { sizes = p; map = q; state = r }) (e ∙ checked_by block memory marks report p q r)

abbrev words_of_ok : Result (Words × List ℕ) Answer → List ℕ
words_of_ok (Ok p) = p.0.0
words_of_ok (Err a) = []

abbrev map_of_ok : Result (Words × List ℕ) Answer → List ℕ
map_of_ok (Ok p) = p.1
map_of_ok (Err a) = []

pub passed : {block memory marks report map : List ℕ} {ws : Words} → Outcome block memory marks report (Ok (ws, map))
    → Passes block memory marks report × (ws.0 ≡ words_in block) × (map ≡ map_in (words_in block))
passed (bad_sizes p e) = cc
passed (bad_map p q e) = cc
passed (bad_state p q r e) = cc
passed (passing p e) = (p, ap words_of_ok e, ap map_of_ok e)

-- SIZE leaves the report, and each other refusal clears it
pub size_left : {block memory marks report : List ℕ} (budget : ℕ) → Outcome block memory marks report (Err Size)
    → left Size block memory marks report ≡ called block memory marks report budget
size_left budget (bad_sizes p e) = refused_size _ _ _ _ budget p
size_left budget (bad_map p q e) = cc
size_left budget (bad_state p q r e) = cc
size_left budget (passing p e) = cc

pub refusal_left : {block memory marks report zeros : List ℕ} {a : Answer} (budget : ℕ) → Outcome block memory marks report (Err a) → (a ≡ Size → ⊥)
    → zeros ≡ replicate (length report) 0 → left a block memory marks zeros ≡ called block memory marks report budget
refusal_left budget (bad_sizes p e) n z = absurd (n cc)
refusal_left {memory = memory} {marks = marks} {a = a} budget (bad_map p q e) n z =
    let s : a ≡ Map = cc in rw s (refused_map _ _ _ _ budget p q (z ∙ ap (λ (k : ℕ). replicate k 0) (sizes_of _ memory marks _ p).1))
refusal_left {memory = memory} {marks = marks} {a = a} budget (bad_state p q r e) n z =
    let s : a ≡ State = cc in rw s (refused_state _ _ _ _ budget p q r (z ∙ ap (λ (k : ℕ). replicate k 0) (sizes_of _ memory marks _ p).1))
refusal_left budget (passing p e) n z = cc

pub map_or_state : {block memory marks report : List ℕ} {a : Answer} → Outcome block memory marks report (Err a) → (a ≡ Size → ⊥) → (a ≡ Map) ⊎ (a ≡ State)
map_or_state (bad_sizes p e) n = absurd (n cc)
map_or_state (bad_map p q e) n = inl cc
map_or_state (bad_state p q r e) n = inr cc
map_or_state (passing p e) n = cc

-- past the checks the run begins, with the parts of the block
pub started : {block memory marks report map : List ℕ} {cells : Cells} {ws : Words} {core : Open} → Outcome block memory marks report (Ok (ws, map))
    → core ≡ core_in ws.0 → cells ≡ both (nums_in ws.0) (marks_in ws.0) → Starts block memory marks report ws.0 map cells core
started t o n =
    record { passes = (passed t).0; words = (passed t).1; map_in_lem = (passed t).2 ∙ ap map_in (sym (passed t).1); core_in_lem = o; cells_in_lem = n }

-- a map that was made is good, and is the words that it was made of
pub made : (t : Bool) {ws map : List ℕ} → ◌≡◌ {A = Option (List ℕ)} (cond t (Some ws) None) (Some map) → (t ≡ true) × (map ≡ ws)
made true h = (refl, cc)
made false h = cc

-- the view is the part that is handed out, and an empty one where none is
pub parted : (block memory : List ℕ) (k : ℕ) (at : ℕ × ℕ) (o : Option (ℕ × ℕ)) (p : ℕ × ℕ)
    → MatchOption o (handed block memory k ≡ false) (IsPart block memory k) → p ≡ unwrap_or o (0, 0)
    → (take (p.1 - p.0) (drop p.0 memory) ≡ view block memory k) × (on_by p.0 at ≡ on_by (view_from block memory k) at)
parted block memory k at None p h e = rw e (view-none block memory k at h)
parted block memory k at (Some q) p h e =
    rw (e, h.to) (view_given block memory (map_in (words_in block)) k q.0 (size (map_in (words_in block)) k) at h.given refl h.from refl)

-- its run, and the block put together
module _ {block memory marks report ws map : List ℕ} {cells : Cells} {core : Open} (s : Starts block memory marks report ws map cells core) where
  pub starts_ready : Ready map memory marks
  starts_ready = record { good = rw (s.map_in_lem, s.words) s.passes.map; same = marks-long s.passes; small = memory-small s.passes }

  pub starts_formed : Below (2 ^ 8) block → WellFormed core cells
  starts_formed h = rw (s.core_in_lem, s.cells_in_lem, s.words) (formed (good-words s.passes h))

  module _ (budget : ℕ) {ran : Ran} {cells' : Cells} {memory' marks' : List ℕ}
      (e : ◌≡◌ {A = Ended} (record { ran = ran; cells = cells'; mem = both memory' marks' }) (run budget 0 map core cells (both memory marks))) where
    pub ends-formed : Below (2 ^ 8) block → Below (2 ^ 8) memory → WellFormed ran.core cells'
    ends-formed h k =
        subst (λ (x : Ended). WellFormed x.ran.core x.cells) (sym e)
        (run_well_formed budget 0 map core cells (both memory marks) (starts_formed h) (record { small = k.at })).0

    pub ends-called : {last block' report' : List ℕ} {answer : ℕ} → last ≡ words_of ran.core cells' map → block' ≡ bytes_of last
        → report' ≡ report_of ran.steps ran.place → answer ≡ number ran.answer
        → ◌≡◌ {A = Left} (record { answer = answer; block = block'; memory = memory'; marks = marks'; report = report' }) (called block memory marks report budget)
    ends-called le be re ae =
        rw (ae, be, le, re) (ap (finished map) e ∙ rw (s.map_in_lem, s.core_in_lem, s.cells_in_lem, s.words) (sym (called-passes s.passes budget)))
