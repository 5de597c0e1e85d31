-- Registers, flags and saved registers. One list of cells holds all that may be marked; what is never marked stands in `Open`.
use Rattle.std.specs.Prelude.{Bool, true, false, cond, ◌||◌, ℕ, ◌+◌, ◌-◌, ◌*◌, ◌/◌, ◌%◌, ◌^◌, eqb, get_or, set}
use Rattle.word.specs.declared.Computed.{Computed}
use Rattle.word.specs.Flags.{Flags, unpacked, packed, holds, reads}
use Rattle.machine.specs.declared.Tv.{Tv}
use Rattle.machine.specs.declared.Open.{Open}
use Rattle.machine.specs.declared.Kind.{Kind}
use Rattle.machine.specs.declared.Kind.TheVariants.{Quiet, Logic, Mask, Shift, Divide, Arith, Saturate}
use Rattle.machine.specs.Marked.{tv, marked, Cells, both, cell, put}

-- Cells 0 to 31 are r0 to r31. A register number has five bits, as in every halfword.
abbrev pub REGS : ℕ
REGS = 32

abbrev pub reg : ℕ → Cells → Tv
reg n c = cell c (n % REGS)

-- r30 is the element pointer
abbrev pub ELEMENT : ℕ
ELEMENT = 30

-- writing r0 drops the value
unfoldable pub put_reg : ℕ → Tv → Cells → Cells
put_reg n v c = cond (eqb (n % REGS) 0) c (put (n % REGS) v c)

-- System register n has the cell n behind them, where what may be marked of it stands: of PSW the flags, of ECR nothing
abbrev pub EIPC : ℕ
EIPC = 0

abbrev pub EIPSW : ℕ
EIPSW = 1

abbrev pub FEPC : ℕ
FEPC = 2

abbrev pub FEPSW : ℕ
FEPSW = 3

abbrev pub ECR : ℕ
ECR = 4

abbrev pub PSW : ℕ
PSW = 5

abbrev pub sys : ℕ → ℕ
sys n = REGS + n

-- all of them: PSW's is the last
abbrev pub CELLS : ℕ
CELLS = sys PSW + 1

-- Bits beside their marks, bit for bit
pub record Bits : Type 0 where
  pub on : ℕ
  pub marks : ℕ

abbrev pub bits : ℕ → ℕ → Bits
bits n m = record { on = n; marks = m }

abbrev pub bits_at : ℕ → Cells → Bits
bits_at i c = bits (get_or c.nums i 0) (get_or c.marks i 0)

abbrev pub put_bits : ℕ → Bits → Cells → Cells
put_bits i b c = both (set c.nums i b.on) (set c.marks i b.marks)

-- The flags, and which of them are marked
abbrev pub flags : Cells → Flags
flags c = unpacked (bits_at (sys PSW) c).on

abbrev pub flag_marks : Cells → Flags
flag_marks c = unpacked (bits_at (sys PSW) c).marks

abbrev pub put_flags : Flags → Flags → Cells → Cells
put_flags f m c = put_bits (sys PSW) (bits (packed f) (packed m)) c

-- What an operation does to a flag: leaves it, sets it to a constant 0, which is unmarked, computes it from the operands and gives it their mark, or raises it and adds their mark
pub data Rule : Type 0 where
  kept constant computed raised : Rule

abbrev pub follow : Rule → Bool → Bool → Bool
follow kept old new = old
follow constant old new = false
follow computed old new = new
follow raised old new = old || new

pub record Rules : Type 0 where
  pub z : Rule
  pub s : Rule
  pub ov : Rule
  pub cy : Rule
  pub sat : Rule

abbrev rules : Rule → Rule → Rule → Rule → Rule → Rules
rules z s ov cy sat = record { z = z; s = s; ov = ov; cy = cy; sat = sat }

unfoldable pub rules_of : Kind → Rules
-- in the order Z, S, OV, CY, SAT
rules_of Quiet = rules kept kept kept kept kept
rules_of Logic = rules computed computed constant kept kept
rules_of Mask = rules computed constant constant kept kept
rules_of Shift = rules computed computed constant computed kept
rules_of Divide = rules computed computed computed kept kept
rules_of Arith = rules computed computed computed computed kept
rules_of Saturate = rules computed computed computed computed raised

abbrev pub follow_all : Rules → Flags → Flags → Flags
follow_all r old new =
    record {
      z = follow r.z old.z new.z;
      s = follow r.s old.s new.s;
      ov = follow r.ov old.ov new.ov;
      cy = follow r.cy old.cy new.cy;
      sat = follow r.sat old.sat new.sat;
    }

-- what a result says of each flag: saturation, that it overflowed
abbrev pub told : Computed → Flags
told a = record { z = a.z; s = a.s; ov = a.ov; cy = a.cy; sat = a.ov }

abbrev pub every_flag : Bool → Flags
every_flag b = record { z = b; s = b; ov = b; cy = b; sat = b }

-- a quiet operation touches no flag
abbrev pub quiet : Kind → Bool
quiet Quiet = true
quiet Logic = false
quiet Mask = false
quiet Shift = false
quiet Divide = false
quiet Arith = false
quiet Saturate = false

-- the flags after an operation with this result, whose operands have this mark
unfoldable pub set_flags : Kind → Computed → Bool → Cells → Cells
set_flags k a mark c =
    cond (quiet k) c
    (put_flags (follow_all (rules_of k) (flags c) (told a)) (follow_all (rules_of k) (flag_marks c) (every_flag mark)) c)

-- a bit instruction computes Z alone
abbrev pub with_z : Bool → Flags → Flags
with_z z f = record { z = z; s = f.s; ov = f.ov; cy = f.cy; sat = f.sat }

unfoldable pub set_z : Bool → Bool → Cells → Cells
set_z z mark c = put_flags (with_z z (flags c)) (with_z mark (flag_marks c)) c

-- a condition as a value: 1 where it holds, marked if it reads a marked flag
unfoldable pub condition : ℕ → Cells → Tv
condition k c = tv (cond (holds k (flags c)) 1 0) (reads k (flag_marks c))

-- PSW: NP, EP and ID, which are never marked, above the flags
abbrev pub psw : Open → Cells → Bits
psw o c =
    bits ((bits_at (sys PSW) c).on % 2 ^ 5 + 2 ^ 5 * (o.id % 2) + 2 ^ 6 * (o.ep % 2) + 2 ^ 7 * (o.np % 2)) ((bits_at (sys PSW) c).marks % 2 ^ 5)

-- the flags out of the eight bits of a saved PSW
abbrev pub put_psw_flags : Bits → Cells → Cells
put_psw_flags b c = put_bits (sys PSW) (bits (b.on % 2 ^ 5) (b.marks % 2 ^ 5)) c

-- NP, EP and ID out of them, as one value that is marked if one of the three is
abbrev pub mode : Bits → Tv
mode b = tv (b.on / 2 ^ 5 % 2 ^ 3) (marked (b.marks / 2 ^ 5 % 2 ^ 3))

-- a value as eight bits, all marked or none; and eight bits as a value, marked if one of them is
abbrev pub spread : Tv → Bits
spread v = bits (v.val % 2 ^ 8) (cond v.mark (2 ^ 8 - 1) 0)

abbrev pub gathered : Bits → Tv
gathered b = tv (b.on % 2 ^ 8) (marked (b.marks % 2 ^ 8))
