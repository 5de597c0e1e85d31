-- Demand 3 at the boundary, its words: two calls whose blocks, memories and marks differ only in marked values.
use Rattle.std.specs.Prelude.{◌≡◌, false, true, List, ℕ, ◌<◌, ◌≤◌, get_or, length}
use Rattle.word.specs.Shifts.{bit}
use Rattle.machine.specs.Marked.{marked}
use Rattle.machine.specs.Psw.{REGS}
use Rattle.machine.specs.Regions.{good_map}
use Rattle.v850.specs.Block.{at_pc, at_psw, at_eipc, at_eipsw, at_fepc, at_fepsw, at_ecr, at_code, at_waits, at_reg_marks, at_sys_marks, at_map, byte, map_in, good_state}
use Rattle.v850.specs.Entry.{Left, good_sizes, words_in}

-- word i of the one block and of the other are equal
abbrev pub SameWord : List ℕ → List ℕ → ℕ → Type 0
SameWord v w i = get_or v i 0 ≡ get_or w i 0

-- a word taken by bits: they are equal wherever the bit of the mark byte is 0
abbrev pub SameBits : List ℕ → List ℕ → ℕ → ℕ → Type 0
SameBits v w i marks = (k : ℕ) → k < 8 → bit k marks ≡ false → bit k (get_or v i 0) ≡ bit k (get_or w i 0)

-- The words v and w of two blocks: the same marks, map and requests, the same PC and ECR, and every unmarked value the same
pub record AlikeWords (v w : List ℕ) : Type 0 where
  pub reg-marks : SameWord v w at_reg_marks
  pub sys-marks : SameWord v w at_sys_marks
  pub map : (i : ℕ) → at_map ≤ i → SameWord v w i
  pub code : SameWord v w at_code
  pub waits : SameWord v w at_waits
  pub pc : SameWord v w at_pc
  pub ecr : SameWord v w at_ecr
  pub regs : (n : ℕ) → n < REGS → bit n (get_or v at_reg_marks 0) ≡ false → SameWord v w n
  pub psw : SameBits v w at_psw (byte 0 (get_or v at_sys_marks 0))
  pub eipsw : SameBits v w at_eipsw (byte 1 (get_or v at_sys_marks 0))
  pub fepsw : SameBits v w at_fepsw (byte 2 (get_or v at_sys_marks 0))
  pub eipc : bit 0 (byte 3 (get_or v at_sys_marks 0)) ≡ false → SameWord v w at_eipc
  pub fepc : bit 1 (byte 3 (get_or v at_sys_marks 0)) ≡ false → SameWord v w at_fepc

-- memories of the same size with the same mark bytes, and the same byte wherever there is no mark
pub record AlikeMemories (memory marks memory' marks' : List ℕ) : Type 0 where
  pub sizes : length memory ≡ length memory'
  pub same : marks ≡ marks'
  pub bytes : (i : ℕ) → marked (get_or marks i 0) ≡ false → get_or memory i 0 ≡ get_or memory' i 0

-- a call that passes SIZE, MAP and STATE
pub record Passes (block memory marks report : List ℕ) : Type 0 where
  pub sizes : good_sizes block memory marks report ≡ true
  pub map : good_map (map_in (words_in block)) (length memory) ≡ true
  pub state : good_state (words_in block) ≡ true

-- what two such calls leave: the same answer and report (steps taken and place), and alike in the rest
pub record AlikeLeft (x y : Left) : Type 0 where
  pub answer : x.answer ≡ y.answer
  pub report : x.report ≡ y.report
  pub block : AlikeWords (words_in x.block) (words_in y.block)
  pub memory : AlikeMemories x.memory x.marks y.memory y.marks
