-- The entries, from bytes to bytes: the answer, and every byte of what was lent.
use Rattle.std.specs.Prelude.{Bool, cond, ◌&&◌, List, [], ℕ, eqb, leb, length, take, drop, replicate}
use Rattle.machine.specs.declared.Answer.{Answer}
use Rattle.machine.specs.declared.Answer.TheVariants.{Done, Size, Map, State}
use Rattle.machine.specs.Marked.{both}
use Rattle.machine.specs.Regions.{good_map, offset, size}
use Rattle.machine.specs.Run.{number, Ended, run, reset_open, reset_cells}
use Rattle.v850.specs.Block.{bytes_of, words_from, BYTES, WORDS, REPORT, report_of, map_in, core_in, cells_in, words_of, good_state}

-- What a call leaves
pub record Left : Type 0 where
  pub answer : ℕ
  pub block : List ℕ
  pub memory : List ℕ
  pub marks : List ℕ
  pub report : List ℕ

abbrev pub left : Answer → List ℕ → List ℕ → List ℕ → List ℕ → Left
left a b m k r = record { answer = number a; block = b; memory = m; marks = k; report = r }

-- SIZE: which sizes are right
abbrev pub MEMORY : ℕ
MEMORY = 65536

abbrev pub good_sizes : List ℕ → List ℕ → List ℕ → List ℕ → Bool
good_sizes block memory marks report =
    eqb (length block) BYTES && (eqb (length report) REPORT && (leb (length memory) MEMORY && eqb (length marks) (length memory)))

abbrev pub words_in : List ℕ → List ℕ
words_in block = words_from block 0 WORDS

-- The end of a run, in bytes
abbrev pub finished : List ℕ → Ended → Left
finished map e =
    left e.ran.answer (bytes_of (words_of e.ran.core e.cells map)) e.mem.nums e.mem.marks (report_of e.ran.steps e.ran.place)

-- The run: SIZE writes nothing, MAP and STATE write a report of zeros and nothing else
unfoldable pub called : List ℕ → List ℕ → List ℕ → List ℕ → ℕ → Left
called block memory marks report budget =
    cond (good_sizes block memory marks report)
    (cond (good_map (map_in (words_in block)) (length memory))
    (cond (good_state (words_in block))
    (finished (map_in (words_in block)) (run budget 0 (map_in (words_in block)) (core_in (words_in block)) (cells_in (words_in block)) (both memory marks)))
    (left State block memory marks (replicate REPORT 0)))
    (left Map block memory marks (replicate REPORT 0)))
    (left Size block memory marks report)

-- Reset: the map stays
pub record Reset : Type 0 where
  pub answer : ℕ
  pub block : List ℕ

unfoldable pub reset : List ℕ → Reset
reset block =
    cond (eqb (length block) BYTES)
    (record { answer = number Done; block = bytes_of (words_of reset_open reset_cells (map_in (words_in block))) })
    (record { answer = number Size; block = block })

-- The region view: what it asks, and that very part of the memory, or an empty one
abbrev pub handed : List ℕ → List ℕ → ℕ → Bool
handed block memory k =
    leb k 3 && (eqb (length block) BYTES && (leb (length memory) MEMORY && good_map (map_in (words_in block)) (length memory)))

unfoldable pub view : List ℕ → List ℕ → ℕ → List ℕ
view block memory k =
    cond (handed block memory k) (take (size (map_in (words_in block)) k) (drop (offset (map_in (words_in block)) k) memory)) []
