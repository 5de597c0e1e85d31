-- The operations on words, a line for each: which flags it sets, whether it reads its second operand, whether it writes, and its result and flags.
-- x is the first operand (reg1, or the immediate), y the second (reg2, or reg1 beside a 16-bit immediate).
use Rattle.std.specs.Prelude.{Bool, true, false, cond, ◌||◌, ℕ, ◌-◌}
use Rattle.std.specs.Int.Bits.{bit_and, bit_or, bit_xor}
use Rattle.word.specs.declared.Computed.{Computed}
use Rattle.word.specs.Word.{W, computed}
use Rattle.word.specs.Sums.{sum, add, sub, satadd, satsub}
use Rattle.word.specs.Shifts.{shr, sar, shl}
use Rattle.word.specs.Products.{mulh, divh}
use Rattle.word.specs.Extend.{high_half}
use Rattle.insn.specs.declared.RegOp.{RegOp}
use Rattle.insn.specs.declared.RegOp.TheVariants as reg
use Rattle.insn.specs.declared.Imm5Op.{Imm5Op}
use Rattle.insn.specs.declared.Imm5Op.TheVariants.{Mov5, Satadd5, Add5, Cmp5, Shr5, Sar5, Shl5, Mulh5}
use Rattle.insn.specs.declared.Imm16Op.{Imm16Op}
use Rattle.insn.specs.declared.Imm16Op.TheVariants as imm16
use Rattle.insn.specs.declared.ShiftOp.{ShiftOp}
use Rattle.insn.specs.declared.ShiftOp.TheVariants as shift
use Rattle.machine.specs.declared.Tv.{Tv}
use Rattle.machine.specs.declared.Kind.{Kind}
use Rattle.machine.specs.declared.Kind.TheVariants.{Quiet, Logic, Mask, Shift, Divide, Arith, Saturate}
use Rattle.machine.specs.declared.Op.{Op}
use Rattle.machine.specs.declared.Op.TheVariants.{Mov, Not, Divh, Satsubr, Satsub, Satadd, Mulh, Or, Xor, And, Andi, Tst, Subr, Sub, Add, Cmp, Shr, Sar, Shl, Movea, Movhi}
use Rattle.machine.specs.Marked.{plain, lift2, Cells}
use Rattle.machine.specs.Psw.{put_reg, set_flags}

-- a result whose OV and CY are not set
abbrev pub only : ℕ → Computed
only r = computed r false false

pub record Operation : Type 0 where
  pub kind : Kind
  pub two : Bool
  pub writes : Bool
  pub outcome : ℕ → ℕ → Computed

abbrev row : Kind → Bool → Bool → (ℕ → ℕ → Computed) → Operation
row k t w f = record { kind = k; two = t; writes = w; outcome = f }

unfoldable pub operation : Op → Operation
-- its flags' family, whether it has two operands, whether it writes, and what it computes
operation Mov = row Quiet false true (λ x y. only x)
operation Not = row Logic false true (λ x y. only (W - 1 - x))
operation Divh = row Divide true true (λ x y. divh y x)
operation Satsubr = row Saturate true true (λ x y. satsub x y)
operation Satsub = row Saturate true true (λ x y. satsub y x)
operation Satadd = row Saturate true true (λ x y. satadd y x)
operation Mulh = row Quiet true true (λ x y. only (mulh y x))
operation Or = row Logic true true (λ x y. only (bit_or y x))
operation Xor = row Logic true true (λ x y. only (bit_xor y x))
operation And = row Logic true true (λ x y. only (bit_and y x))
operation Tst = row Logic true false (λ x y. only (bit_and y x))
operation Subr = row Arith true true (λ x y. sub x y)
operation Sub = row Arith true true (λ x y. sub y x)
operation Add = row Arith true true (λ x y. add y x)
operation Cmp = row Arith true false (λ x y. sub y x)
operation Shr = row Shift true true (λ x y. shr y x)
operation Sar = row Shift true true (λ x y. sar y x)
operation Shl = row Shift true true (λ x y. shl y x)
operation Movea = row Quiet true true (λ x y. only (sum y x))
operation Movhi = row Quiet true true (λ x y. only (sum y (high_half x)))
operation Andi = row Mask true true (λ x y. only (bit_and y x))

-- Each instruction's operation. ANDI is AND, but for its S, which is the constant 0.
unfoldable pub of_reg : RegOp → Op
of_reg reg.Mov = Mov
of_reg reg.Not = Not
of_reg reg.Divh = Divh
of_reg reg.Satsubr = Satsubr
of_reg reg.Satsub = Satsub
of_reg reg.Satadd = Satadd
of_reg reg.Mulh = Mulh
of_reg reg.Or = Or
of_reg reg.Xor = Xor
of_reg reg.And = And
of_reg reg.Tst = Tst
of_reg reg.Subr = Subr
of_reg reg.Sub = Sub
of_reg reg.Add = Add
of_reg reg.Cmp = Cmp

unfoldable pub of_imm5 : Imm5Op → Op
of_imm5 Mov5 = Mov
of_imm5 Satadd5 = Satadd
of_imm5 Add5 = Add
of_imm5 Cmp5 = Cmp
of_imm5 Shr5 = Shr
of_imm5 Sar5 = Sar
of_imm5 Shl5 = Shl
of_imm5 Mulh5 = Mulh

unfoldable pub of_imm16 : Imm16Op → Op
of_imm16 imm16.Addi = Add
of_imm16 imm16.Movea = Movea
of_imm16 imm16.Movhi = Movhi
of_imm16 imm16.Satsubi = Satsub
of_imm16 imm16.Ori = Or
of_imm16 imm16.Xori = Xor
of_imm16 imm16.Andi = Andi
of_imm16 imm16.Mulhi = Mulh

unfoldable pub of_shift : ShiftOp → Op
of_shift shift.Shr = Shr
of_shift shift.Sar = Sar
of_shift shift.Shl = Shl

-- a result takes the marks of the operands that it reads
abbrev pub second : Operation → Tv → Tv
second f y = cond f.two y (plain 0)

abbrev pub perform : Operation → Tv → Tv → ℕ → Cells → Cells
perform f x y r c =
    set_flags f.kind (f.outcome x.val y.val) (x.mark || y.mark)
    (cond f.writes (put_reg r (lift2 (λ a b. (f.outcome a b).result) x y) c) c)

unfoldable pub operate : Op → Tv → Tv → ℕ → Cells → Cells
operate op x y r c = perform (operation op) x (second (operation op) y) r c
