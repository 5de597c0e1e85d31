-- Demand 3, its words: two states that are alike in sizes, marks and every unmarked value.
use Rattle.std.specs.Prelude.{◌≡◌, Bool, false, true, ◌||◌, ℕ, ◌<◌, eqb, get_or, length}
use Rattle.word.specs.Shifts.{bit}
use Rattle.machine.specs.Marked.{Cells, marked}
use Rattle.machine.specs.Psw.{sys, EIPSW, FEPSW, PSW}
use Rattle.machine.specs.Run.{Ended}

-- Most cells have one mark. The saved PSWs and the flags have a mark for each bit
abbrev pub bit_cells : ℕ → Bool
bit_cells i = eqb i (sys EIPSW) || (eqb i (sys FEPSW) || eqb i (sys PSW))

-- a byte of memory has one mark
abbrev pub no_bit_cells : ℕ → Bool
no_bit_cells i = false

-- The same sizes, with a mark for each number, the same marks, and the same number wherever there is no mark: for the cells by bits, the same bit
pub record Alike (byBits : ℕ → Bool) (c d : Cells) : Type 0 where
  pub sizes : length c.nums ≡ length d.nums
  pub whole : length c.nums ≡ length c.marks
  pub marks : c.marks ≡ d.marks
  pub values : (i : ℕ) → byBits i ≡ false → marked (get_or c.marks i 0) ≡ false → get_or c.nums i 0 ≡ get_or d.nums i 0
  pub bits : (i k : ℕ) → byBits i ≡ true → k < 8 → bit k (get_or c.marks i 0) ≡ false → bit k (get_or c.nums i 0) ≡ bit k (get_or d.nums i 0)

-- Two ends of runs: the same answer, place, step count and all that is never marked, and alike in the rest
pub record AlikeEnds (x y : Ended) : Type 0 where
  pub ran : x.ran ≡ y.ran
  pub cells : Alike bit_cells x.cells y.cells
  pub mem : Alike no_bit_cells x.mem y.mem
