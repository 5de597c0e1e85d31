-- The bench: from the bytes of its input to the one line that it writes.
use Rattle.std.specs.Prelude.{◌≡◌, cond, List, [], ◌∷◌, ◌++◌, ℕ, ◌+◌, ◌-◌, ◌*◌, leb, length, replicate}
use Rattle.machine.specs.declared.Answer.TheVariants.{Size}
use Rattle.machine.specs.Regions.{READ, WRITE, FETCH}
use Rattle.machine.specs.Run.{reset_open, reset_cells}
use Rattle.v850.specs.Block.{bytes_of, word_at, at_pc, at_psw, REPORT, at_steps, at_place, words_of}
use Rattle.v850.specs.Entry.{Left, left, called}
use Rattle.bench_line.specs.Text.{ascii, hex, decimal}

-- How many bytes of memory there are, and how many steps are run
abbrev pub IMAGE : ℕ
IMAGE = 4096

abbrev pub BUDGET : ℕ
BUDGET = 1000

-- The memory: the input, and zeros behind it
abbrev pub padded : List ℕ → List ℕ
padded input = input ++ replicate (IMAGE - length input) 0

-- The map: a region of base 0, all of the memory, offset 0 and all rights; and three unused ones
abbrev pub whole_map : List ℕ
whole_map = 0 ∷ IMAGE ∷ 0 ∷ (READ + WRITE + FETCH) ∷ replicate (3 * 4) 0

-- The block of the reset state
abbrev pub start_block : List ℕ
start_block = bytes_of (words_of reset_open reset_cells whole_map)

-- The report before a run
abbrev pub no_report : List ℕ
no_report = replicate REPORT 0

-- What the run leaves. An input that is longer than the memory is not run: SIZE, with the reset state
unfoldable pub ran : List ℕ → Left
ran input =
    cond (leb (length input) IMAGE)
    (called start_block (padded input) (replicate IMAGE 0) no_report BUDGET)
    (left Size start_block [] [] no_report)

-- A call that leaves this answer, block and report
pub record Leaves (l : Left) (number : ℕ) (state told : List ℕ) : Type 0 where
  pub answer : number ≡ l.answer
  pub block : state ≡ l.block
  pub report : told ≡ l.report

-- The line: answer and steps in decimal; PC, PSW and place in hex of 6, 2 and 6 digits
abbrev pub line_of : (answer steps pc psw place : ℕ) → List ℕ
line_of answer steps pc psw place =
    (ascii "answer=" ++ decimal answer)
    ++ ((ascii " steps=" ++ decimal steps)
    ++ ((ascii " pc=" ++ hex 6 pc)
    ++ ((ascii " psw=" ++ hex 2 psw)
    ++ ((ascii " place=" ++ hex 6 place)
    ++ ascii "\n"))))

abbrev pub line_after : Left → List ℕ
line_after l =
    line_of l.answer (word_at l.report at_steps) (word_at l.block at_pc) (word_at l.block at_psw) (word_at l.report at_place)

-- THE LINE of an input
unfoldable pub line : List ℕ → List ℕ
line input = line_after (ran input)

-- Room for the longest line: five names, two numbers in decimal, 14 digits of hex, and the end of the line
abbrev pub LONGEST : ℕ
LONGEST = 65
