-- One step of the machine.
use Rattle.std.specs.Prelude.{Bool, cond, Option, Some, None, Result, Ok, Err, ◌&&◌, not, List, ℕ, ◌+◌, ◌*◌, ◌/◌, ◌%◌, ◌^◌, eqb, ltb}
use Rattle.word.specs.Extend.{sum24}
use Rattle.insn.specs.declared.Size.{Size}
use Rattle.insn.specs.declared.Size.TheVariants.{Byte, Half}
use Rattle.insn.specs.declared.BitOp.{BitOp}
use Rattle.insn.specs.declared.Insn.{Insn}
use Rattle.insn.specs.declared.Insn.TheVariants.{Reg, Jmp, Imm5, Sld, Sst, Bcond, Imm16, Ld, St, Jarl, Bit, Setf, Ldsr, Stsr, Shift, Trap, Halt, Reti, Di, Ei}
use Rattle.insn.specs.declared.Decoded.{Decoded}
use Rattle.insn.specs.declared.Decoded.TheVariants as decoded
use Rattle.insn.specs.Coding.{long, decode}
use Rattle.machine.specs.declared.Tv.{Tv}
use Rattle.machine.specs.declared.Open.{Open}
use Rattle.machine.specs.declared.Answer.{Answer}
use Rattle.machine.specs.declared.Answer.TheVariants.{Asleep, NoFetch, Undefined, Leak, NoRead, NoWrite}
use Rattle.machine.specs.declared.Refusal.{Refusal}
use Rattle.machine.specs.Marked.{plain, lift1, lift_all, Cells, cell, put, edit}
use Rattle.machine.specs.Psw.{reg, ELEMENT, put_reg, bits, bits_at, put_bits, EIPC, EIPSW, FEPC, FEPSW, ECR, sys, set_z, condition, psw, put_psw_flags, mode, spread, gathered}
use Rattle.machine.specs.Regions.{find, READ, WRITE, FETCH}
use Rattle.machine.specs.Memory.{address, bytes_at, little_endian, extended, put_bytes, changed, tests}
use Rattle.machine.specs.Operations.{of_reg, of_imm5, of_imm16, of_shift, operate}

-- How a step ends: with the next state, or with a refusal
abbrev pub Went : Type 0
Went = Result Open Refusal

-- the same with the cells and the memory after it
pub record Outcome : Type 0 where
  pub went : Went
  pub cells : Cells
  pub mem : Cells

abbrev pub after : Went → Cells → Cells → Outcome
after w c m = record { went = w; cells = c; mem = m }

abbrev pub next : Open → Cells → Cells → Outcome
next o c m = after (Ok o) c m

-- a refused step changes nothing
abbrev pub refuse : Answer → ℕ → Cells → Cells → Outcome
refuse a place c m = after (Err (record { answer = a; place = place })) c m

-- What is never marked, with PC, the modes, the cause or the requests changed
abbrev pub goto : ℕ → Open → Open
goto p o = record { pc = p; np = o.np; ep = o.ep; id = o.id; ecr = o.ecr; code = o.code; nmi = o.nmi; halted = o.halted }

abbrev pub plus : ℕ → Open → Open
plus n o = goto (sum24 o.pc n) o

abbrev pub modes : ℕ → ℕ → ℕ → Open → Open
modes n e i o = record { pc = o.pc; np = n; ep = e; id = i; ecr = o.ecr; code = o.code; nmi = o.nmi; halted = o.halted }

abbrev pub cause : ℕ → Open → Open
cause x o = record { pc = o.pc; np = o.np; ep = o.ep; id = o.id; ecr = x; code = o.code; nmi = o.nmi; halted = o.halted }

abbrev pub waits : ℕ → ℕ → ℕ → Open → Open
waits k n h o = record { pc = o.pc; np = o.np; ep = o.ep; id = o.id; ecr = o.ecr; code = k; nmi = n; halted = h }

-- ECR: FECC is the high half, EICC the low one
abbrev pub fecc : ℕ → Open → Open
fecc x o = cause (x * 2 ^ 16 + o.ecr % 2 ^ 16) o

abbrev pub eicc : ℕ → Open → Open
eicc x o = cause (o.ecr / 2 ^ 16 * 2 ^ 16 + x) o

-- LEAK: the only way from a value to code, an address, a branch, a return or PSW is closed to marked values
unfoldable pub reveal : Open → Cells → Cells → Tv → (ℕ → Outcome) → Outcome
reveal o c m v k = cond v.mark (refuse Leak o.pc c m) (k v.val)

-- the only way from an address to memory: with the right, or the refusal with the address as its place
abbrev pub on_spot : Option ℕ → Outcome → (ℕ → Outcome) → Outcome
on_spot (Some p) refusal k = k p
on_spot None refusal k = refusal

unfoldable pub place : List ℕ → ℕ → Answer → ℕ → Cells → Cells → (ℕ → Outcome) → Outcome
place map right answer a c m k = on_spot (find map right a) (refuse answer a c m) k

-- Loads: LD, SLD. len is the instruction's length in bytes
unfoldable pub load : Size → ℕ → ℕ → ℕ → ℕ → List ℕ → Open → Cells → Cells → Outcome
load s disp reg1 reg2 len map o c m =
    reveal o c m (reg reg1 c) λ a. place map READ NoRead (address s a disp) c m λ p.
    next (plus len o) (put_reg reg2 (lift_all (extended s) (bytes_at m p s)) c) m

-- Stores: ST, SST
unfoldable pub store : Size → ℕ → ℕ → ℕ → ℕ → List ℕ → Open → Cells → Cells → Outcome
store s disp reg1 reg2 len map o c m =
    reveal o c m (reg reg1 c) λ a. place map WRITE NoWrite (address s a disp) c m λ p.
    next (plus len o) c (put_bytes s p (reg reg2 c) m)

-- SET1, NOT1, CLR1 read and write, TST1 only reads; used regions do not overlap, so a place to write is the place to read. Z is 1 if the old bit was 0, and has the byte's mark
abbrev pub tested : ℕ → ℕ → Cells → Cells → Cells
tested n p m c = set_z (eqb ((cell m p).val / 2 ^ n % 2) 0) (cell m p).mark c

unfoldable pub bitwise : BitOp → ℕ → ℕ → ℕ → List ℕ → Open → Cells → Cells → Outcome
bitwise op n disp reg1 map o c m =
    reveal o c m (reg reg1 c) λ a. place map READ NoRead (address Byte a disp) c m λ p.
    cond (tests op) (next (plus 4 o) (tested n p m c) m)
    (place map WRITE NoWrite (address Byte a disp) c m λ q. next (plus 4 o) (tested n p m c) (edit p (changed op n) m))

-- JMP
unfoldable pub jmp : ℕ → Open → Cells → Cells → Outcome
jmp reg1 o c m = reveal o c m (reg reg1 c) λ a. next (goto (a % 2 ^ 24 / 2 * 2) o) c m

-- Bcond: the displacement counts from the instruction's own address
unfoldable pub bcond : ℕ → ℕ → Open → Cells → Cells → Outcome
bcond cc disp o c m = reveal o c m (condition cc c) λ t. next (cond (eqb t 0) (plus 2 o) (plus disp o)) c m

-- JARL: the link is the next PC, and is unmarked
unfoldable pub jarl : ℕ → ℕ → Open → Cells → Cells → Outcome
jarl disp reg2 o c m = next (plus disp o) (put_reg reg2 (plain (sum24 o.pc 4)) c) m

-- LDSR: PSW is the last of those that decoding accepts. A saved PC keeps 24 bits, a saved PSW eight
unfoldable pub ldsr : ℕ → ℕ → Open → Cells → Cells → Outcome
ldsr reg2 regid o c m =
    cond (eqb regid EIPC) (next (plus 4 o) (put (sys EIPC) (lift1 (λ w. w % 2 ^ 24) (reg reg2 c)) c) m)
    (cond (eqb regid EIPSW) (next (plus 4 o) (put_bits (sys EIPSW) (spread (reg reg2 c)) c) m)
    (cond (eqb regid FEPC) (next (plus 4 o) (put (sys FEPC) (lift1 (λ w. w % 2 ^ 24) (reg reg2 c)) c) m)
    (cond (eqb regid FEPSW) (next (plus 4 o) (put_bits (sys FEPSW) (spread (reg reg2 c)) c) m)
    (reveal o c m (reg reg2 c) λ w. next (plus 4 (modes (w / 2 ^ 7 % 2) (w / 2 ^ 6 % 2) (w / 2 ^ 5 % 2) o)) (put_psw_flags (bits w 0) c) m))))

-- STSR
unfoldable pub system : ℕ → Open → Cells → Tv
system regid o c =
    cond (eqb regid EIPC) (cell c (sys EIPC))
    (cond (eqb regid EIPSW) (gathered (bits_at (sys EIPSW) c))
    (cond (eqb regid FEPC) (cell c (sys FEPC))
    (cond (eqb regid FEPSW) (gathered (bits_at (sys FEPSW) c))
    (cond (eqb regid ECR) (plain o.ecr)
    (gathered (psw o c))))))

-- Exceptions, TRAP and the illegal code: the next PC, which is unmarked, and PSW are saved; EP 1, ID 1
abbrev pub save_psw : ℕ → Open → Cells → Cells
save_psw n o c = put_bits (sys n) (psw o c) c

abbrev pub save_pc : ℕ → ℕ → Cells → Cells
save_pc n p c = put (sys n) (plain p) c

unfoldable pub exception : ℕ → ℕ → ℕ → Open → Cells → Cells → Outcome
exception code target np o c m =
    next (goto target (eicc code (modes np 1 1 o))) (save_pc EIPC (sum24 o.pc 4) (save_psw EIPSW o c)) m

-- TRAP keeps NP
unfoldable pub trap : ℕ → Open → Cells → Cells → Outcome
trap vector o c m = exception (0x40 + vector) (cond (ltb vector 0x10) 0x40 0x50) o.np o c m

-- NP behind the illegal code: 01 sets EP and ID alone, so it stays. 000, 6.2.2 (4), sets NP too: 1 would be that reading
abbrev pub illegal_np : Open → ℕ
illegal_np o = o.np

unfoldable pub illegal : Open → Cells → Cells → Outcome
illegal o c m = exception 0x60 0x60 (illegal_np o) o c m

-- RETI takes PC and PSW back from the bank that EP and NP choose, and clears PC bit 0
unfoldable pub return : ℕ → ℕ → Open → Cells → Cells → Outcome
return pc saved o c m =
    reveal o c m (cell c (sys pc)) λ a. reveal o c m (mode (bits_at (sys saved) c)) λ b.
    next (goto (a / 2 * 2) (modes (b / 2 ^ 2 % 2) (b / 2 % 2) (b % 2) o)) (put_psw_flags (bits_at (sys saved) c) c) m

unfoldable pub reti : Open → Cells → Cells → Outcome
reti o c m = cond (eqb o.ep 0 && eqb o.np 1) (return FEPC FEPSW o c m) (return EIPC EIPSW o c m)

-- What each instruction does. SLD and SST take their base from the element pointer. House rule: HALT moves PC on by 4, and ends only when a request is accepted
unfoldable pub exec : Insn → List ℕ → Open → Cells → Cells → Outcome
exec (Reg op reg1 reg2) map o c m = next (plus 2 o) (operate (of_reg op) (reg reg1 c) (reg reg2 c) reg2 c) m
exec (Jmp reg1) map o c m = jmp reg1 o c m
exec (Imm5 op imm reg2) map o c m = next (plus 2 o) (operate (of_imm5 op) (plain imm) (reg reg2 c) reg2 c) m
exec (Sld s disp reg2) map o c m = load s disp ELEMENT reg2 2 map o c m
exec (Sst s disp reg2) map o c m = store s disp ELEMENT reg2 2 map o c m
exec (Bcond cc disp) map o c m = bcond cc disp o c m
exec (Imm16 op imm reg1 reg2) map o c m = next (plus 4 o) (operate (of_imm16 op) (plain imm) (reg reg1 c) reg2 c) m
exec (Ld s disp reg1 reg2) map o c m = load s disp reg1 reg2 4 map o c m
exec (St s disp reg1 reg2) map o c m = store s disp reg1 reg2 4 map o c m
exec (Jarl disp reg2) map o c m = jarl disp reg2 o c m
exec (Bit op n disp reg1) map o c m = bitwise op n disp reg1 map o c m
exec (Setf cc reg2) map o c m = next (plus 4 o) (put_reg reg2 (condition cc c) c) m
exec (Ldsr reg2 regid) map o c m = ldsr reg2 regid o c m
exec (Stsr regid reg2) map o c m = next (plus 4 o) (put_reg reg2 (system regid o c) c) m
exec (Shift op reg1 reg2) map o c m = next (plus 4 o) (operate (of_shift op) (reg reg1 c) (reg reg2 c) reg2 c) m
exec (Trap vector) map o c m = trap vector o c m
exec Halt map o c m = next (plus 4 (waits o.code o.nmi 1 o)) c m
exec Reti map o c m = reti o c m
exec Di map o c m = next (plus 4 (modes o.np o.ep 1 o)) c m
exec Ei map o c m = next (plus 4 (modes o.np o.ep 0 o)) c m

unfoldable pub execute : Decoded → List ℕ → Open → Cells → Cells → Outcome
execute (decoded.Valid i) map o c m = exec i map o c m
execute decoded.Illegal map o c m = illegal o c m
execute decoded.Undefined map o c m = refuse Undefined o.pc c m

-- A halfword fetched at a. Its address is even wherever PC is, so clearing its low bit changes nothing there
unfoldable pub fetch : ℕ → List ℕ → Open → Cells → Cells → (ℕ → Outcome) → Outcome
fetch a map o c m k =
    place map FETCH NoFetch (a / 2 * 2) c m λ p. reveal o c m (lift_all little_endian (bytes_at m p Half)) k

-- The instruction at PC: a second halfword is fetched only if the first, h, asks for it
abbrev pub completed : ℕ → List ℕ → Open → Cells → Cells → Outcome
completed h map o c m =
    cond (long h) (fetch (sum24 o.pc 2) map o c m λ w. execute (decode h w) map o c m) (execute (decode h 0) map o c m)

unfoldable pub instruction : List ℕ → Open → Cells → Cells → Outcome
instruction map o c m = fetch o.pc map o c m λ h. completed h map o c m

-- Requests. Accepting one clears it and ends HALT
unfoldable pub nmi_accepted : Open → Bool
nmi_accepted o = eqb o.nmi 1 && eqb o.np 0

unfoldable pub code_accepted : Open → Bool
code_accepted o = not (eqb o.code 0) && (eqb o.np 0 && eqb o.id 0)

unfoldable pub take_nmi : Open → Cells → Cells → Outcome
take_nmi o c m = next (goto 0x10 (fecc 0x10 (modes 1 0 1 (waits o.code 0 0 o)))) (save_pc FEPC o.pc (save_psw FEPSW o c)) m

unfoldable pub take_code : Open → Cells → Cells → Outcome
take_code o c m = next (goto o.code (eicc o.code (modes o.np 0 1 (waits 0 o.nmi 0 o)))) (save_pc EIPC o.pc (save_psw EIPSW o c)) m

-- One step, in the order of its checks
unfoldable pub step : List ℕ → Open → Cells → Cells → Outcome
step map o c m =
    cond (nmi_accepted o) (take_nmi o c m)
    (cond (code_accepted o) (take_code o c m)
    (cond (eqb o.halted 1) (refuse Asleep 0 c m)
    (instruction map o c m)))
