-- States as the checks let them in, and as every step leaves them.
use Rattle.std.specs.Prelude.{◌≡◌, Bool, true, cond, ◌&&◌, ◌||◌, ℕ, ◌%◌, ◌^◌, ◌<◌, eqb, ltb, leb, get_or, length}
use Rattle.machine.specs.declared.Open.{Open}
use Rattle.machine.specs.Marked.{Cells}
use Rattle.machine.specs.Psw.{REGS, sys, EIPC, EIPSW, FEPC, FEPSW, PSW, CELLS}

-- registers, saved PCs, saved PSWs and flags have 32, 24, 8 and 5 bits; ECR's cell is not used
abbrev pub limit : ℕ → ℕ
limit i =
    cond (ltb i REGS) (2 ^ 32)
    (cond (eqb i (sys EIPC) || eqb i (sys FEPC)) (2 ^ 24)
    (cond (eqb i (sys EIPSW) || eqb i (sys FEPSW)) (2 ^ 8)
    (cond (eqb i (sys PSW)) (2 ^ 5) 1)))

-- a mark is 0 or 1, or bits where the cell is by bits
abbrev pub mark_limit : ℕ → ℕ
mark_limit i =
    cond (ltb i REGS || (eqb i (sys EIPC) || eqb i (sys FEPC))) 2
    (cond (eqb i (sys EIPSW) || eqb i (sys FEPSW)) (2 ^ 8)
    (cond (eqb i (sys PSW)) (2 ^ 5) 1))

-- a maskable code: 0 for none, or a multiple of 16 from 0080H to 0FF0H
abbrev pub good_code : ℕ → Bool
good_code k = eqb k 0 || (eqb (k % 16) 0 && (leb 0x0080 k && leb k 0x0FF0))

-- the cells: r0 is 0 and unmarked, and each number has a mark beside it
pub record GoodCells (c : Cells) : Type 0 where
  pub nums : length c.nums ≡ CELLS
  pub marks : length c.marks ≡ CELLS
  pub r0 : get_or c.nums 0 0 ≡ 0
  pub r0-mark : get_or c.marks 0 0 ≡ 0
  pub small : (i : ℕ) → get_or c.nums i 0 < limit i
  pub small-marks : (i : ℕ) → get_or c.marks i 0 < mark_limit i

-- what is never marked
pub record GoodOpen (o : Open) : Type 0 where
  pub pc_even : o.pc % 2 ≡ 0
  pub pc_24 : o.pc < 2 ^ 24
  pub np : o.np < 2
  pub ep : o.ep < 2
  pub id : o.id < 2
  pub ecr : o.ecr < 2 ^ 32
  pub code : good_code o.code ≡ true
  pub nmi : o.nmi < 2
  pub halted : o.halted < 2

pub record WellFormed (o : Open) (c : Cells) : Type 0 where
  pub core : GoodOpen o
  pub cells : GoodCells c

-- bytes of memory
pub record Bytes (m : Cells) : Type 0 where
  pub small : (i : ℕ) → get_or m.nums i 0 < 2 ^ 8
