-- The arithmetic's proved numbers: one table, one statement over all rows.
use Rattle.std.specs.Prelude.{ℕ, Bool, true, false, cond, ◌&&◌, T, List, [], ◌∷◌, ◌==◌}
use Rattle.word.specs.declared.Computed.{Computed}
use Rattle.word.specs.Word.{overflow, nearest, computed}
use Rattle.word.specs.Sums.{add, sub, satadd, satsub}
use Rattle.word.specs.Shifts.{out_right, out_left, shr, sar, shl}
use Rattle.word.specs.Products.{mulh, divh}

pub record Row : Type 0 where
  pub op : ℕ → ℕ → Computed
  pub a : ℕ
  pub b : ℕ
  pub result : ℕ
  pub z : ℕ
  pub s : ℕ
  pub ov : ℕ
  pub cy : ℕ

abbrev row : (ℕ → ℕ → Computed) → (a b result z s ov cy : ℕ) → Row
row op a b result z s ov cy = record { op = op; a = a; b = b; result = result; z = z; s = s; ov = ov; cy = cy }

-- MULH sets no flag
abbrev product : ℕ → ℕ → Computed
product a b = computed (mulh a b) false false

-- the operation, its operands, the result, and Z S OV CY
abbrev pub table : List Row
table =
    row add 0x7FFFFFFF 1 0x80000000 0 1 1 0
    ∷ row satadd 0x7FFFFFFF 1 0x7FFFFFFF 0 0 1 0
    ∷ row sub 0 1 0xFFFFFFFF 0 1 0 1
    ∷ row satsub 0x80000000 1 0x80000000 0 1 1 0
    ∷ row shl 3 31 0x80000000 0 1 0 1
    ∷ row sar 0x80000001 1 0xC0000000 0 1 0 1
    -- a shift by 0: CY 0
    ∷ row shr 0x80000001 0 0x80000001 0 1 0 0
    ∷ row sar 0x80000001 0 0x80000001 0 1 0 0
    ∷ row shl 0x80000001 0 0x80000001 0 1 0 0
    -- -7 by 2 is -3
    ∷ row divh 0xFFFFFFF9 2 0xFFFFFFFD 0 1 0 0
    -- the least word by -1
    ∷ row divh 0x80000000 0xFFFFFFFF 0x80000000 0 1 1 0
    -- a zero divisor, also one whose low half alone is 0
    ∷ row divh 7 0 7 0 0 1 0
    ∷ row divh 0xFFFFFFF9 0 0xFFFFFFF9 0 0 1 0
    ∷ row divh 0 0 0 0 0 1 0
    ∷ row divh 7 0x10000 7 0 0 1 0
    ∷ row product 0x8000 0x8000 0x40000000 0 0 0 0
    ∷ []

abbrev is : Bool → ℕ → Bool
is flag n = cond flag 1 0 == n

abbrev pub gives : Computed → Row → Bool
gives c r = c.result == r.result && is c.z r.z && is c.s r.s && is c.ov r.ov && is c.cy r.cy

abbrev pub all : List Row → Bool
all [] = true
all (r ∷ rs) = gives (r.op r.a r.b) r && all rs

pub numbers : T (all table)
unfolding overflow nearest add sub satadd satsub out_right out_left shr sar shl mulh divh
numbers = tt
