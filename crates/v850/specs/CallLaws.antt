-- A call's tests, and a call that passes them: the words of the laws in proofs/CallLaws.
use Rattle.std.specs.Prelude.{◌≡◌, cond, List, ℕ, length, Result, Ok, Err}
use Rattle.machine.specs.declared.Answer.{Answer}
use Rattle.machine.specs.declared.Answer.TheVariants.{Size, Map, State}
use Rattle.machine.specs.declared.Open.{Open}
use Rattle.machine.specs.Marked.{Cells, both}
use Rattle.machine.specs.Regions.{good_map}
use Rattle.v850.specs.declared.block.Words.{Words}
use Rattle.v850.specs.Block.{map_in, core_in, nums_in, marks_in, good_state}
use Rattle.v850.specs.Entry.{good_sizes, words_in}
use Rattle.v850.specs.AlikeStarts.{Passes}

-- a block's words, and the map in them
abbrev pub whole : List ℕ → Words × List ℕ
whole ws = (record { 0 = ws }, map_in ws)

-- SIZE, MAP and STATE, in this order: the words of the block and its map, or the refusal
unfoldable pub checked : (block memory marks report : List ℕ) → Result (Words × List ℕ) Answer
checked block memory marks report =
    cond (good_sizes block memory marks report)
    (cond (good_map (map_in (words_in block)) (length memory))
    (cond (good_state (words_in block)) (Ok (whole (words_in block))) (Err State))
    (Err Map))
    (Err Size)

-- a call that passes, and the parts of its block
pub record Starts (block memory marks report ws map : List ℕ) (cells : Cells) (core : Open) : Type 0 where
  pub passes : Passes block memory marks report
  pub words : ws ≡ words_in block
  pub map_in_lem : map ≡ map_in ws
  pub core_in_lem : core ≡ core_in ws
  pub cells_in_lem : cells ≡ both (nums_in ws) (marks_in ws)
