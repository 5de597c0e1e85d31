-- Runs of the defined machine by computation: the order's sample, its numbers and slips, and cases of the manual. One table, one statement over all rows.
use Rattle.std.specs.Prelude.{Bool, true, false, ◌&&◌, List, [], ◌∷◌, ◌++◌, ℕ, ◌+◌, ◌-◌, ◌/◌, ◌%◌, ◌^◌, T, eqb, replicate, get_or, set, length}
use Rattle.word.specs.Word.{overflow, nearest}
use Rattle.word.specs.Sums.{add, sub, satadd, satsub}
use Rattle.word.specs.Shifts.{out_right, out_left, shr, sar, shl}
use Rattle.word.specs.Products.{mulh, divh}
use Rattle.word.specs.Extend.{by_sign}
use Rattle.word.specs.Flags.{conditions, holds, reads}
use Rattle.insn.specs.Coding.{listed, reg_op, reg_code, imm5_op, imm5_code, imm16_op, imm16_code, bit_op, bit_code, decode_extended, decode_fields, decode, halfwords, in_range, encode}
use Rattle.machine.specs.Psw.{psw, sys, EIPC, EIPSW, FEPC, FEPSW, PSW, put_reg, rules_of, set_flags, set_z, condition}
use Rattle.machine.specs.Regions.{READ, WRITE, FETCH, covers, find_from, good_region, separate, good_map}
use Rattle.machine.specs.Memory.{bytes_at, little_endian, extended, put_bytes, changed}
use Rattle.machine.specs.Operations.{operation, of_reg, of_imm5, of_imm16, of_shift, operate}
use Rattle.machine.specs.Step.{reveal, place, load, store, bitwise, jmp, jarl, bcond, ldsr, system, exception, trap, illegal, return, reti, exec, execute, fetch, instruction, nmi_accepted, code_accepted, take_nmi, take_code, step}
use Rattle.machine.specs.Run.{number, Ended, carry, run, reset_open, reset_cells}
use Rattle.insn.specs.declared.Insn.{Insn}
use Rattle.insn.specs.declared.Insn.TheVariants.{Reg, Imm5, Bcond, Imm16, Ld, St, Bit, Setf, Ldsr, Stsr, Shift, Trap, Reti}
use Rattle.insn.specs.declared.RegOp.TheVariants.{Xor, Satadd, Satsub, Divh, Mulh, Or, Add, Cmp, Sub}
use Rattle.insn.specs.declared.Imm5Op.TheVariants.{Mov5, Add5}
use Rattle.insn.specs.declared.Imm16Op.TheVariants.{Movea, Andi}
use Rattle.insn.specs.declared.ShiftOp.TheVariants.{Sar, Shl}
use Rattle.insn.specs.declared.BitOp.TheVariants.{Set1}
use Rattle.insn.specs.declared.Size.TheVariants.{Byte, Half, Word}
use Rattle.machine.specs.declared.Open.{Open}
use Rattle.machine.specs.declared.Answer.{Answer}
use Rattle.machine.specs.declared.Answer.TheVariants.{Done, Asleep, NoFetch, Undefined, Leak, NoRead, NoWrite}
use Rattle.machine.specs.Marked.{tv, Cells, both, put}
use Rattle.machine.specs.Step.{goto, modes, waits}

-- Programs: halfwords of instructions as bytes
abbrev in_bytes : List ℕ → List ℕ
in_bytes [] = []
in_bytes (h ∷ hs) = h % 256 ∷ h / 256 ∷ in_bytes hs

abbrev assembled : List Insn → List ℕ
assembled [] = []
assembled (i ∷ is) = in_bytes (listed (encode i)) ++ assembled is

-- A start: a map, what is never marked, cells and memory
pub record Start : Type 0 where
  pub map : List ℕ
  pub core : Open
  pub cells : Cells
  pub mem : Cells

-- bytes, padded with zeros to size, in one region at base with all rights
abbrev loaded : ℕ → ℕ → List ℕ → Start
loaded base size bytes =
    record {
      map = base ∷ size ∷ 0 ∷ (READ + WRITE + FETCH) ∷ replicate 12 0;
      core = goto base reset_open;
      cells = reset_cells;
      mem = both (bytes ++ replicate (size - length bytes) 0) (replicate size 0);
    }

abbrev program : List Insn → Start
program is = loaded 0 32 (assembled is)

-- a start with a register, a saved register's cell, the modes NP EP ID, PC, a mark of memory or requests changed
abbrev with_cell : ℕ → ℕ → Bool → Start → Start
with_cell i v m s = record { map = s.map; core = s.core; cells = put i (tv v m) s.cells; mem = s.mem }

-- two operands in r1 and r2
abbrev operands : ℕ → ℕ → Start → Start
operands x y s = with_cell 1 x false (with_cell 2 y false s)

abbrev with_pc : ℕ → Start → Start
with_pc p s = record { map = s.map; core = goto p s.core; cells = s.cells; mem = s.mem }

abbrev with_modes : ℕ → ℕ → ℕ → Start → Start
with_modes n e i s = record { map = s.map; core = modes n e i s.core; cells = s.cells; mem = s.mem }

abbrev with_requests : ℕ → ℕ → ℕ → Start → Start
with_requests k n h s = record { map = s.map; core = waits k n h s.core; cells = s.cells; mem = s.mem }

abbrev with_mark : ℕ → Start → Start
with_mark i s = record { map = s.map; core = s.core; cells = s.cells; mem = both s.mem.nums (set s.mem.marks i 1) }

abbrev with_map : List ℕ → Start → Start
with_map map s = record { map = map; core = s.core; cells = s.cells; mem = s.mem }

-- What is expected: answer, steps, place, PC and PSW; and of some cells their value and mark
pub record Seen : Type 0 where
  pub index : ℕ
  pub value : ℕ
  pub mark : ℕ

abbrev seen : ℕ → ℕ → ℕ → Seen
seen i v m = record { index = i; value = v; mark = m }

pub record Case : Type 0 where
  pub start : Start
  pub budget : ℕ
  pub answer : Answer
  pub steps : ℕ
  pub place : ℕ
  pub pc : ℕ
  pub flags : ℕ
  pub cells : List Seen

abbrev case : Start → ℕ → Answer → (steps place pc flags : ℕ) → List Seen → Case
case s b a n p pc f cs = record { start = s; budget = b; answer = a; steps = n; place = p; pc = pc; flags = f; cells = cs }

abbrev shows : List Seen → Cells → Bool
shows [] c = true
shows (s ∷ ss) c = eqb (get_or c.nums s.index 0) s.value && (eqb (get_or c.marks s.index 0) s.mark && shows ss c)

abbrev result : Case → Ended
result k = run k.budget 0 k.start.map k.start.core k.start.cells k.start.mem

abbrev comes_true : Case → Ended → Bool
comes_true k e =
    eqb (number e.ran.answer) (number k.answer) && (eqb e.ran.steps k.steps && (eqb e.ran.place k.place
    && (eqb e.ran.core.pc k.pc && (eqb (psw e.ran.core e.cells).on k.flags && shows k.cells e.cells))))

abbrev all_true : List Case → Bool
all_true [] = true
all_true (k ∷ ks) = comes_true k (result k) && all_true ks

-- words of negative numbers
abbrev minus : ℕ → ℕ
minus n = 2 ^ 32 - n

-- each with its start, its budget, and how it ends: answer, steps, place, PC, PSW and some cells
abbrev pub cases : List Case
cases =
    -- the order's sample
    case (loaded 0 12 (0x05 ∷ 0x52 ∷ 0x5F ∷ 0x52 ∷ 0xFA ∷ 0xFD ∷ 0xE0 ∷ 0x07 ∷ 0x20 ∷ 0x01 ∷ [])) 1000 Asleep 12 0 0x0A 0x29 (seen 10 0 0 ∷ [])
    -- the order's numbers. 5205H is MOV 5, r10; 007FH is JMP [r31]; 0860H undefined
    ∷ case (loaded 0 4 (0x05 ∷ 0x52 ∷ [])) 1 Done 1 0 2 0x20 (seen 10 5 0 ∷ [])
    ∷ case (with_cell 31 0x10 false (loaded 0 4 (0x7F ∷ 0x00 ∷ []))) 1 Done 1 0 0x10 0x20 []
    ∷ case (loaded 0 4 (0x60 ∷ 0x08 ∷ [])) 9 Undefined 0 0 0 0x20 []
    -- 87E0H 0160H is EI; 87E0H 0161H undefined; 07E0H 0180H the illegal code
    ∷ case (loaded 0 4 (0xE0 ∷ 0x87 ∷ 0x60 ∷ 0x01 ∷ [])) 1 Done 1 0 4 0x00 []
    ∷ case (loaded 0 4 (0xE0 ∷ 0x87 ∷ 0x61 ∷ 0x01 ∷ [])) 9 Undefined 0 0 0 0x20 []
    ∷ case (loaded 0x100 8 (0xE0 ∷ 0x07 ∷ 0x80 ∷ 0x01 ∷ [])) 1 Done 1 0 0x60 0x60 (seen (sys EIPC) 0x104 0 ∷ seen (sys EIPSW) 0x20 0 ∷ [])
    -- ADD 7FFFFFFFH + 1; SATADD of the same, where S speaks of the stored result, a slip to expect; SUB 0 - 1
    ∷ case (operands 1 0x7FFFFFFF (program (Reg Add 1 2 ∷ []))) 1 Done 1 0 2 0x26 (seen 2 0x80000000 0 ∷ [])
    ∷ case (operands 1 0x7FFFFFFF (program (Reg Satadd 1 2 ∷ []))) 1 Done 1 0 2 0x34 (seen 2 0x7FFFFFFF 0 ∷ [])
    ∷ case (operands 1 0 (program (Reg Sub 1 2 ∷ []))) 1 Done 1 0 2 0x2A (seen 2 0xFFFFFFFF 0 ∷ [])
    -- SHL of 3 by 31; SAR of 80000001H by 1; DIVH -7 by 2; MULH of 8000H by 8000H
    ∷ case (operands 31 3 (program (Shift Shl 1 2 ∷ []))) 1 Done 1 0 4 0x2A (seen 2 0x80000000 0 ∷ [])
    ∷ case (operands 1 0x80000001 (program (Shift Sar 1 2 ∷ []))) 1 Done 1 0 4 0x2A (seen 2 0xC0000000 0 ∷ [])
    ∷ case (operands 2 (minus 7) (program (Reg Divh 1 2 ∷ []))) 1 Done 1 0 2 0x22 (seen 2 (minus 3) 0 ∷ [])
    ∷ case (operands 0x8000 0x8000 (program (Reg Mulh 1 2 ∷ []))) 1 Done 1 0 2 0x20 (seen 2 0x40000000 0 ∷ [])
    -- TRAP 10H at 100H with PSW 0; then at 50H STSR ECR, r1 shows EICC 0050H
    ∷ case (with_modes 0 0 0 (loaded 0x100 8 (assembled (Trap 0x10 ∷ [])))) 1 Done 1 0 0x50 0x60 (seen (sys EIPC) 0x104 0 ∷ seen (sys EIPSW) 0 0 ∷ [])
    ∷ case (with_pc 0x100 (with_modes 0 0 0 (loaded 0x50 0xB4 (assembled (Stsr 4 1 ∷ []) ++ (replicate 0xAC 0 ++ assembled (Trap 0x10 ∷ [])))))) 2 Done 2 0 0x54 0x60 (seen 1 0x0050 0 ∷ [])
    -- XOR of a marked register with itself, a slip to expect
    ∷ case (with_cell 5 7 true (program (Reg Xor 5 5 ∷ []))) 1 Done 1 0 2 0x21 (seen 5 0 1 ∷ seen (sys PSW) 0x01 0x03 ∷ [])
    -- more slips. LDSR r5, EIPSW: system number in bits 15-11, source in 4-0
    ∷ case (with_cell 5 0xAB false (with_cell 1 0xCD false (program (Ldsr 5 1 ∷ [])))) 1 Done 1 0 4 0x20 (seen (sys EIPSW) 0xAB 0 ∷ [])
    -- a branch back by 4, from its own address 8
    ∷ case (with_cell 1 0 false (program (Reg Or 0 0 ∷ Reg Or 0 0 ∷ Reg Or 0 0 ∷ Reg Or 0 0 ∷ Bcond 5 (minus 4) ∷ []))) 5 Done 5 0 4 0x21 []
    -- an instruction whose halves lie in two regions
    ∷ case (with_map (0 ∷ 4 ∷ 0 ∷ 4 ∷ 4 ∷ 4 ∷ 8 ∷ 4 ∷ replicate 8 0) (loaded 0 12 (0x00 ∷ 0x00 ∷ 0x20 ∷ 0x0E ∷ 0 ∷ 0 ∷ 0 ∷ 0 ∷ 0x05 ∷ 0x00 ∷ []))) 2 Done 2 0 6 0x20 (seen 1 5 0 ∷ [])
    -- a two-byte instruction at a region's end is fetched alone; then nothing is there
    ∷ case (loaded 0 4 (assembled (Imm5 Mov5 1 2 ∷ Imm5 Mov5 5 1 ∷ []))) 2 Done 2 0 4 0x20 (seen 1 5 0 ∷ seen 2 1 0 ∷ [])
    ∷ case (loaded 0 4 (assembled (Imm5 Mov5 1 2 ∷ Imm5 Mov5 5 1 ∷ []))) 3 NoFetch 2 4 4 0x20 []
    -- the manual's table of saturation: below the least word
    ∷ case (operands 1 0x80000000 (program (Reg Satsub 1 2 ∷ []))) 1 Done 1 0 2 0x36 (seen 2 0x80000000 0 ∷ [])
    -- SAT is not reset by the next operation
    ∷ case (operands 1 0x7FFFFFFF (program (Reg Satadd 1 2 ∷ Reg Satadd 0 1 ∷ []))) 2 Done 2 0 4 0x30 []
    -- Table 6-1: NMI 0010H, maskable 0080H
    ∷ case (with_modes 0 0 0 (with_requests 0x80 1 1 (loaded 0x100 8 []))) 1 Done 1 0 0x10 0xA0 (seen (sys FEPC) 0x100 0 ∷ seen (sys FEPSW) 0 0 ∷ [])
    ∷ case (with_modes 0 0 0 (with_requests 0x80 0 1 (loaded 0x100 8 []))) 1 Done 1 0 0x80 0x20 (seen (sys EIPC) 0x100 0 ∷ [])
    -- a pending code with ID 1 does not end HALT
    ∷ case (with_requests 0x80 0 1 (program [])) 9 Asleep 0 0 0 0x20 []
    -- RETI from an NMI takes FEPC and FEPSW, and clears PC bit 0
    ∷ case (with_modes 1 0 1 (with_cell (sys FEPC) 0x105 false (with_cell (sys FEPSW) 0x1F false (program (Reti ∷ []))))) 1 Done 1 0 0x104 0x1F []
    -- a zero divisor leaves reg2, OV 1, S 0, Z 0; reg2 takes the divisor's mark
    ∷ case (with_cell 1 0 true (with_cell 2 7 false (program (Reg Divh 1 2 ∷ [])))) 1 Done 1 0 2 0x24 (seen 2 7 1 ∷ seen (sys PSW) 4 7 ∷ [])
    -- SETF stores a carry: add with carry of the manual's remark; MOVEA adds a negative number
    ∷ case (with_cell 1 0xFFFFFFFF false (program (Imm5 Add5 1 1 ∷ Setf 1 2 ∷ Imm16 Movea (minus 1) 2 3 ∷ []))) 3 Done 3 0 10 0x29 (seen 1 0 0 ∷ seen 2 1 0 ∷ seen 3 0 0 ∷ [])
    -- ANDI's S is a constant, so unmarked; Z takes the mark
    ∷ case (with_cell 1 0xFFFFFFFF true (program (Imm16 Andi 0x8000 1 2 ∷ []))) 1 Done 1 0 4 0x20 (seen 2 0x8000 1 ∷ seen (sys PSW) 0 1 ∷ [])
    -- a store marks each byte, and the halfword read back is marked and extended by its sign
    ∷ case (with_cell 1 0x8001 true (program (St Half 16 0 1 ∷ Ld Half 16 0 2 ∷ Ld Byte 17 0 3 ∷ []))) 3 Done 3 0 12 0x20 (seen 2 0xFFFF8001 1 ∷ seen 3 0xFFFFFF80 1 ∷ [])
    -- Z of a bit instruction has the byte's mark
    ∷ case (with_mark 16 (program (Bit Set1 3 16 0 ∷ Ld Byte 16 0 2 ∷ []))) 2 Done 2 0 8 0x21 (seen 2 8 1 ∷ seen (sys PSW) 1 1 ∷ [])
    -- LEAK: a branch on a marked flag, a marked base, a marked byte fetched; and no leak where the flag read is another
    ∷ case (with_cell 1 1 true (program (Reg Cmp 1 2 ∷ Bcond 2 4 ∷ []))) 9 Leak 1 2 2 0x2A []
    ∷ case (with_cell 1 16 true (program (Ld Byte 0 1 2 ∷ []))) 9 Leak 0 0 0 0x20 []
    ∷ case (with_mark 1 (program (Imm5 Mov5 1 1 ∷ []))) 9 Leak 0 0 0 0x20 []
    ∷ case (with_cell 1 1 true (program (Reg Cmp 1 2 ∷ Bcond 13 4 ∷ []))) 2 Done 2 0 4 0x2A []
    -- operands outside the region, by cleared addresses
    ∷ case (program (Ld Word 0x102 0 1 ∷ [])) 9 NoRead 0 0x100 0 0x20 []
    ∷ case (program (St Half 0x100 0 1 ∷ [])) 9 NoWrite 0 0x100 0 0x20 []
    ∷ []

pub runs : T (all_true cases)
unfolding overflow nearest add sub satadd satsub out_right out_left shr sar shl mulh divh by_sign conditions holds reads reg_op reg_code imm5_op imm5_code imm16_op imm16_code bit_op bit_code decode_extended decode_fields decode halfwords in_range encode put_reg rules_of set_flags set_z condition covers find_from good_region separate good_map bytes_at little_endian extended put_bytes changed operation of_reg of_imm5 of_imm16 of_shift operate reveal place load store bitwise jmp jarl bcond ldsr system exception trap illegal return reti exec execute fetch instruction nmi_accepted code_accepted take_nmi take_code step carry run
runs = tt
