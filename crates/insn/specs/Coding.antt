-- The instruction words, in the order of the order's table: decoding and encoding side by side.
use Rattle.std.specs.Prelude.{Bool, true, false, cond, ◌&&◌, ◌||◌, List, [], ◌∷◌, ℕ, ◌+◌, ◌-◌, ◌*◌, ◌/◌, ◌%◌, ◌^◌, eqb, ltb, leb, get_or, Result, Ok, Err}
use Rattle.word.specs.Word.{W}
use Rattle.word.specs.Extend.{zero_extend, sign_extend}
use Rattle.insn.specs.declared.RegOp.{RegOp}
use Rattle.insn.specs.declared.RegOp.TheVariants.{Mov, Not, Divh, Satsubr, Satsub, Satadd, Mulh, Or, Xor, And, Tst, Subr, Sub, Add, Cmp}
use Rattle.insn.specs.declared.Imm5Op.{Imm5Op}
use Rattle.insn.specs.declared.Imm5Op.TheVariants.{Mov5, Satadd5, Add5, Cmp5, Shr5, Sar5, Shl5, Mulh5}
use Rattle.insn.specs.declared.Imm16Op.{Imm16Op}
use Rattle.insn.specs.declared.Imm16Op.TheVariants.{Addi, Movea, Movhi, Satsubi, Ori, Xori, Andi, Mulhi}
use Rattle.insn.specs.declared.ShiftOp.{ShiftOp}
use Rattle.insn.specs.declared.ShiftOp.TheVariants.{Shr, Sar, Shl}
use Rattle.insn.specs.declared.BitOp.{BitOp}
use Rattle.insn.specs.declared.BitOp.TheVariants.{Set1, Not1, Clr1, Tst1}
use Rattle.insn.specs.declared.Size.{Size}
use Rattle.insn.specs.declared.Size.TheVariants.{Byte, Half, Word}
use Rattle.insn.specs.declared.Way.{Way}
use Rattle.insn.specs.declared.Way.TheVariants.{Load, Store}
use Rattle.insn.specs.declared.Insn.{Insn}
use Rattle.insn.specs.declared.Insn.TheVariants.{Reg, Jmp, Imm5, Sld, Sst, Bcond, Imm16, Ld, St, Jarl, Bit, Setf, Ldsr, Stsr, Shift, Trap, Halt, Reti, Di, Ei}
use Rattle.insn.specs.declared.Decoded.{Decoded}
use Rattle.insn.specs.declared.Decoded.TheVariants.{Valid, Illegal, Undefined}
use Rattle.insn.specs.declared.Halfwords.{Halfwords}
use Rattle.insn.specs.declared.Halfwords.TheVariants.{One, Two}
use Rattle.insn.specs.declared.EncodeError.{EncodeError}
use Rattle.insn.specs.declared.EncodeError.TheVariants.{Field}

-- A halfword's fields: reg2 in bits 15-11, opcode in bits 10-5, reg1 in bits 4-0
abbrev pub reg2_of : ℕ → ℕ
reg2_of h = h / 2 ^ 11

abbrev pub opcode_of : ℕ → ℕ
opcode_of h = h / 2 ^ 5 % 2 ^ 6

abbrev pub reg1_of : ℕ → ℕ
reg1_of h = h % 2 ^ 5

abbrev pub half : ℕ → ℕ → ℕ → ℕ
half reg2 opcode reg1 = reg2 * 2 ^ 11 + (opcode * 2 ^ 5 + reg1)

-- Opcodes from 110000 up have a second halfword
abbrev pub long : ℕ → Bool
long h = leb 0b110000 (opcode_of h)

-- 000000-001111, but 000011, which is JMP
unfoldable pub reg_op : ℕ → RegOp
reg_op opcode =
    get_or (Mov ∷ Not ∷ Divh ∷ Mov ∷ Satsubr ∷ Satsub ∷ Satadd ∷ Mulh ∷ Or ∷ Xor ∷ And ∷ Tst ∷ Subr ∷ Sub ∷ Add ∷ Cmp ∷ []) opcode Mov

unfoldable pub reg_code : RegOp → ℕ
reg_code Mov = 0b000000
reg_code Not = 0b000001
reg_code Divh = 0b000010
reg_code Satsubr = 0b000100
reg_code Satsub = 0b000101
reg_code Satadd = 0b000110
reg_code Mulh = 0b000111
reg_code Or = 0b001000
reg_code Xor = 0b001001
reg_code And = 0b001010
reg_code Tst = 0b001011
reg_code Subr = 0b001100
reg_code Sub = 0b001101
reg_code Add = 0b001110
reg_code Cmp = 0b001111

-- 010000-010111
unfoldable pub imm5_op : ℕ → Imm5Op
imm5_op opcode = get_or (Mov5 ∷ Satadd5 ∷ Add5 ∷ Cmp5 ∷ Shr5 ∷ Sar5 ∷ Shl5 ∷ Mulh5 ∷ []) (opcode - 0b010000) Mov5

unfoldable pub imm5_code : Imm5Op → ℕ
imm5_code Mov5 = 0b010000
imm5_code Satadd5 = 0b010001
imm5_code Add5 = 0b010010
imm5_code Cmp5 = 0b010011
imm5_code Shr5 = 0b010100
imm5_code Sar5 = 0b010101
imm5_code Shl5 = 0b010110
imm5_code Mulh5 = 0b010111

-- shift amounts are zero-extended, arithmetic immediates sign-extended
abbrev pub imm5_shifts : Imm5Op → Bool
imm5_shifts Mov5 = false
imm5_shifts Satadd5 = false
imm5_shifts Add5 = false
imm5_shifts Cmp5 = false
imm5_shifts Shr5 = true
imm5_shifts Sar5 = true
imm5_shifts Shl5 = true
imm5_shifts Mulh5 = false

abbrev pub imm5 : Imm5Op → ℕ → ℕ
imm5 op n = cond (imm5_shifts op) (zero_extend 5 n) (sign_extend 5 n)

-- 110000-110111
unfoldable pub imm16_op : ℕ → Imm16Op
imm16_op opcode = get_or (Addi ∷ Movea ∷ Movhi ∷ Satsubi ∷ Ori ∷ Xori ∷ Andi ∷ Mulhi ∷ []) (opcode - 0b110000) Addi

unfoldable pub imm16_code : Imm16Op → ℕ
imm16_code Addi = 0b110000
imm16_code Movea = 0b110001
imm16_code Movhi = 0b110010
imm16_code Satsubi = 0b110011
imm16_code Ori = 0b110100
imm16_code Xori = 0b110101
imm16_code Andi = 0b110110
imm16_code Mulhi = 0b110111

-- MOVHI's immediate, a high half, and logical ones are zero-extended, arithmetic ones sign-extended
abbrev pub imm16_plain : Imm16Op → Bool
imm16_plain Addi = false
imm16_plain Movea = false
imm16_plain Movhi = true
imm16_plain Satsubi = false
imm16_plain Ori = true
imm16_plain Xori = true
imm16_plain Andi = true
imm16_plain Mulhi = false

abbrev pub imm16 : Imm16Op → ℕ → ℕ
imm16 op n = cond (imm16_plain op) (zero_extend 16 n) (sign_extend 16 n)

-- 111110: bits 15-14 select, bits 13-11 are the bit number
unfoldable pub bit_op : ℕ → BitOp
bit_op n = get_or (Set1 ∷ Not1 ∷ Clr1 ∷ Tst1 ∷ []) n Set1

unfoldable pub bit_code : BitOp → ℕ
bit_code Set1 = 0b00
bit_code Not1 = 0b01
bit_code Clr1 = 0b10
bit_code Tst1 = 0b11

-- 111111, shifts by a register: the second halfword
abbrev pub shift_code : ShiftOp → ℕ
shift_code Shr = 0x0080
shift_code Sar = 0x00A0
shift_code Shl = 0x00C0

-- system numbers: LDSR takes EIPC 0, EIPSW 1, FEPC 2, FEPSW 3 and PSW 5, STSR takes ECR 4 too
abbrev pub loads : ℕ → Bool
loads regid = ltb regid 4 || eqb regid 5

abbrev pub stores : ℕ → Bool
stores regid = ltb regid 6

abbrev pub when : Bool → Insn → Decoded
when b i = cond b (Valid i) Undefined

-- A load or a store, in its short form and in its long one
abbrev pub short_transfer : Way → Size → ℕ → ℕ → Insn
short_transfer Load = Sld
short_transfer Store = Sst

abbrev pub long_transfer : Way → Size → ℕ → ℕ → ℕ → Insn
long_transfer Load = Ld
long_transfer Store = St

-- The displacements that short loads and stores, Bcond and JARL keep in two fields
abbrev pub disp7 : ℕ → ℕ → ℕ
disp7 opcode reg1 = opcode % 4 * 32 + reg1

abbrev pub disp9 : ℕ → ℕ → ℕ → ℕ
disp9 reg2 opcode reg1 = sign_extend 9 (reg2 * 16 + (opcode % 4 * 2 + reg1 / 16) * 2)

abbrev pub disp22 : ℕ → ℕ → ℕ → ℕ
disp22 opcode reg1 w = sign_extend 22 ((opcode % 2 * 32 + reg1) * 2 ^ 16 + w)

abbrev pub disp16 : ℕ → ℕ
disp16 w = sign_extend 16 w

-- 111111, by the second halfword w: bits 26-23 from 0011 up are the illegal code. HALT, RETI and DI have the first halfword 07E0H, EI 87E0H
unfoldable pub decode_extended : ℕ → ℕ → ℕ → Decoded
decode_extended reg2 reg1 w =
    cond (leb 0b0011 (w / 2 ^ 7 % 2 ^ 4)) Illegal
    (cond (eqb w 0x0000) (when (ltb reg1 16) (Setf reg1 reg2))
    (cond (eqb w 0x0020) (when (loads reg2) (Ldsr reg1 reg2))
    (cond (eqb w 0x0040) (when (stores reg1) (Stsr reg1 reg2))
    (cond (eqb w 0x0080) (Valid (Shift Shr reg1 reg2))
    (cond (eqb w 0x00A0) (Valid (Shift Sar reg1 reg2))
    (cond (eqb w 0x00C0) (Valid (Shift Shl reg1 reg2))
    (cond (eqb w 0x0100) (when (eqb reg2 0) (Trap reg1))
    (cond (eqb w 0x0120) (when (eqb reg2 0 && eqb reg1 0) Halt)
    (cond (eqb w 0x0140) (when (eqb reg2 0 && eqb reg1 0) Reti)
    (cond (eqb w 0x0160) (cond (eqb reg2 0) (when (eqb reg1 0) Di) (when (eqb reg2 16 && eqb reg1 0) Ei))
    Undefined))))))))))

unfoldable pub decode_fields : ℕ → ℕ → ℕ → ℕ → Decoded
decode_fields reg2 opcode reg1 w =
    cond (eqb opcode 0b000011) (when (eqb reg2 0) (Jmp reg1))
    (cond (leb opcode 0b001111) (Valid (Reg (reg_op opcode) reg1 reg2))
    (cond (leb opcode 0b010111) (Valid (Imm5 (imm5_op opcode) (imm5 (imm5_op opcode) reg1) reg2))
    (cond (leb opcode 0b011011) (Valid (Sld Byte (disp7 opcode reg1) reg2))
    (cond (leb opcode 0b011111) (Valid (Sst Byte (disp7 opcode reg1) reg2))
    (cond (leb opcode 0b100011) (Valid (Sld Half (disp7 opcode reg1 * 2) reg2))
    (cond (leb opcode 0b100111) (Valid (Sst Half (disp7 opcode reg1 * 2) reg2))
    (cond (leb opcode 0b101011) (Valid (cond (eqb (reg1 % 2) 0) (Sld Word (disp7 opcode reg1 / 2 * 4) reg2) (Sst Word (disp7 opcode reg1 / 2 * 4) reg2)))
    (cond (leb opcode 0b101111) (Valid (Bcond (reg1 % 16) (disp9 reg2 opcode reg1)))
    (cond (leb opcode 0b110111) (Valid (Imm16 (imm16_op opcode) (imm16 (imm16_op opcode) w) reg1 reg2))
    (cond (eqb opcode 0b111000) (Valid (Ld Byte (disp16 w) reg1 reg2))
    (cond (eqb opcode 0b111001) (Valid (cond (eqb (w % 2) 0) (Ld Half (disp16 w) reg1 reg2) (Ld Word (disp16 (w - 1)) reg1 reg2)))
    (cond (eqb opcode 0b111010) (Valid (St Byte (disp16 w) reg1 reg2))
    (cond (eqb opcode 0b111011) (Valid (cond (eqb (w % 2) 0) (St Half (disp16 w) reg1 reg2) (St Word (disp16 (w - 1)) reg1 reg2)))
    (cond (leb opcode 0b111101) (when (eqb (w % 2) 0) (Jarl (disp22 opcode reg1 w) reg2))
    (cond (eqb opcode 0b111110) (Valid (Bit (bit_op (reg2 / 8)) (reg2 % 8) (disp16 w) reg1))
    (decode_extended reg2 reg1 w))))))))))))))))

-- Decoding: what a first halfword h stands for, with the second one, w, if h is long
unfoldable pub decode : ℕ → ℕ → Decoded
decode h w = decode_fields (reg2_of h) (opcode_of h) (reg1_of h) w

-- Encoding: the halfwords of an instruction, operand by operand
abbrev pub short : ℕ → ℕ → ℕ → Halfwords
short opcode field reg2 = One (half reg2 (opcode + field / 32) (field % 32))

abbrev pub two_of : ℕ → ℕ → ℕ → ℕ → Halfwords
two_of reg2 opcode reg1 w = Two (half reg2 opcode reg1) w

abbrev pub branch_half : ℕ → ℕ → ℕ
branch_half cc bits = half (bits / 16) (0b101100 + bits / 4 % 4) (bits / 2 % 2 * 16 + cc)

abbrev pub jarl_half : ℕ → ℕ → ℕ
jarl_half reg2 bits = half reg2 (0b111100 + bits / 2 ^ 21) (bits / 2 ^ 16 % 32)

unfoldable pub halfwords : Insn → Halfwords
halfwords (Reg op reg1 reg2) = One (half reg2 (reg_code op) reg1)
halfwords (Jmp reg1) = One (half 0 0b000011 reg1)
halfwords (Imm5 op imm reg2) = One (half reg2 (imm5_code op) (imm % 32))
halfwords (Sld Byte disp reg2) = short 0b011000 disp reg2
halfwords (Sst Byte disp reg2) = short 0b011100 disp reg2
halfwords (Sld Half disp reg2) = short 0b100000 (disp / 2) reg2
halfwords (Sst Half disp reg2) = short 0b100100 (disp / 2) reg2
halfwords (Sld Word disp reg2) = short 0b101000 (disp / 4 * 2) reg2
halfwords (Sst Word disp reg2) = short 0b101000 (disp / 4 * 2 + 1) reg2
halfwords (Bcond cc disp) = One (branch_half cc (disp % 2 ^ 9))
halfwords (Imm16 op imm reg1 reg2) = two_of reg2 (imm16_code op) reg1 (imm % 2 ^ 16)
halfwords (Ld Byte disp reg1 reg2) = two_of reg2 0b111000 reg1 (disp % 2 ^ 16)
halfwords (Ld Half disp reg1 reg2) = two_of reg2 0b111001 reg1 (disp % 2 ^ 16)
halfwords (Ld Word disp reg1 reg2) = two_of reg2 0b111001 reg1 (disp % 2 ^ 16 + 1)
halfwords (St Byte disp reg1 reg2) = two_of reg2 0b111010 reg1 (disp % 2 ^ 16)
halfwords (St Half disp reg1 reg2) = two_of reg2 0b111011 reg1 (disp % 2 ^ 16)
halfwords (St Word disp reg1 reg2) = two_of reg2 0b111011 reg1 (disp % 2 ^ 16 + 1)
halfwords (Jarl disp reg2) = Two (jarl_half reg2 (disp % 2 ^ 22)) (disp % 2 ^ 16)
halfwords (Bit op n disp reg1) = two_of (bit_code op * 8 + n) 0b111110 reg1 (disp % 2 ^ 16)
halfwords (Setf cc reg2) = two_of reg2 0b111111 cc 0x0000
halfwords (Ldsr reg2 regid) = two_of regid 0b111111 reg2 0x0020
halfwords (Stsr regid reg2) = two_of reg2 0b111111 regid 0x0040
halfwords (Shift op reg1 reg2) = two_of reg2 0b111111 reg1 (shift_code op)
halfwords (Trap vector) = two_of 0 0b111111 vector 0x0100
halfwords Halt = Two 0x07E0 0x0120
halfwords Reti = Two 0x07E0 0x0140
halfwords Di = Two 0x07E0 0x0160
halfwords Ei = Two 0x87E0 0x0160

-- The ranges of operands
abbrev pub is_reg : ℕ → Bool
is_reg r = ltb r 32

abbrev pub is_condition : ℕ → Bool
is_condition cc = ltb cc 16

-- a word that k bits hold by its sign: from -2 ^ (k - 1) to 2 ^ (k - 1) - 1
abbrev pub is_signed : ℕ → ℕ → Bool
is_signed k n = ltb n (2 ^ (k - 1)) || (leb (W - 2 ^ (k - 1)) n && ltb n W)

abbrev pub is_unsigned : ℕ → ℕ → Bool
is_unsigned k n = ltb n (2 ^ k)

abbrev pub multiple : ℕ → ℕ → Bool
multiple k n = eqb (n % k) 0

-- displacements of SLD and SST, and of LD and ST: low bits that are not stored are 0
abbrev pub is_short_disp : Size → ℕ → Bool
is_short_disp Byte d = is_unsigned 7 d
is_short_disp Half d = is_unsigned 8 d && multiple 2 d
is_short_disp Word d = is_unsigned 8 d && multiple 4 d

abbrev pub is_long_disp : Size → ℕ → Bool
is_long_disp Byte d = is_signed 16 d
is_long_disp Half d = is_signed 16 d && multiple 2 d
is_long_disp Word d = is_signed 16 d && multiple 2 d

unfoldable pub in_range : Insn → Bool
in_range (Reg op reg1 reg2) = is_reg reg1 && is_reg reg2
in_range (Jmp reg1) = is_reg reg1
in_range (Imm5 op imm reg2) = cond (imm5_shifts op) (is_unsigned 5 imm) (is_signed 5 imm) && is_reg reg2
in_range (Sld size disp reg2) = is_short_disp size disp && is_reg reg2
in_range (Sst size disp reg2) = is_short_disp size disp && is_reg reg2
in_range (Bcond cc disp) = is_condition cc && (is_signed 9 disp && multiple 2 disp)
in_range (Imm16 op imm reg1 reg2) = cond (imm16_plain op) (is_unsigned 16 imm) (is_signed 16 imm) && (is_reg reg1 && is_reg reg2)
in_range (Ld size disp reg1 reg2) = is_long_disp size disp && (is_reg reg1 && is_reg reg2)
in_range (St size disp reg1 reg2) = is_long_disp size disp && (is_reg reg1 && is_reg reg2)
in_range (Jarl disp reg2) = is_signed 22 disp && (multiple 2 disp && is_reg reg2)
in_range (Bit op n disp reg1) = is_unsigned 3 n && (is_signed 16 disp && is_reg reg1)
in_range (Setf cc reg2) = is_condition cc && is_reg reg2
in_range (Ldsr reg2 regid) = is_reg reg2 && loads regid
in_range (Stsr regid reg2) = stores regid && is_reg reg2
in_range (Shift op reg1 reg2) = is_reg reg1 && is_reg reg2
in_range (Trap vector) = is_unsigned 5 vector
in_range Halt = true
in_range Reti = true
in_range Di = true
in_range Ei = true

-- a field's bits, if its operand is in range
abbrev pub checked : Bool → ℕ → Result ℕ EncodeError
checked ok bits = cond ok (Ok bits) (Err Field)

-- FIELD exactly if an operand is out of its range
unfoldable pub encode : Insn → Result Halfwords EncodeError
encode i = cond (in_range i) (Ok (halfwords i)) (Err Field)

-- the order's number of the encoder's answer, and the halfwords that come with it
abbrev pub DONE : ℕ
DONE = 0

abbrev pub FIELD : ℕ
FIELD = 10

abbrev pub number : Result Halfwords EncodeError → ℕ
number (Ok h) = DONE
number (Err Field) = FIELD

abbrev pub listed : Result Halfwords EncodeError → List ℕ
listed (Ok (One h)) = h ∷ []
listed (Ok (Two h w)) = h ∷ w ∷ []
listed (Err Field) = []
