-- Demand 3: a run tells nothing of what is marked. Two states that differ in marked values alone stay so in every step, and two runs from them end alike.
use Rattle.std.specs.Prelude.{◌≡◌, refl, Option, Some, None, Ok, Err, Bool, cond, List, ℕ, zero, suc, ◌/◌, ◌%◌, ◌^◌, eqb}
use Rattle.std.proofs.Math.Bool.{true, false}
use Rattle.insn.specs.declared.Size.{Size}
use Rattle.insn.specs.declared.BitOp.{BitOp}
use Rattle.insn.specs.declared.Insn.{Insn}
use Rattle.insn.specs.declared.Insn.TheVariants.{Reg, Jmp, Imm5, Sld, Sst, Bcond, Imm16, Ld, St, Jarl, Bit, Setf, Ldsr, Stsr, Shift, Trap, Halt, Reti, Di, Ei}
use Rattle.insn.specs.declared.Decoded.{Decoded}
use Rattle.insn.specs.declared.Decoded.TheVariants as decoded
use Rattle.machine.specs.declared.Tv.{Tv}
use Rattle.machine.specs.declared.Open.{Open}
use Rattle.machine.specs.declared.Answer.{Answer}
use Rattle.machine.specs.declared.Answer.TheVariants.{Leak}
use Rattle.machine.specs.declared.Op.{Op}
use Rattle.machine.specs.Marked.{Cells}
use Rattle.machine.specs.Psw.{sys}
use Rattle.machine.specs.Regions.{find}
use Rattle.machine.specs.Operations.{operation, operate}
use Rattle.machine.specs.Step.{Went, Outcome, after, refuse, reveal, place, on_spot, load, store, tested, bitwise, jmp, jarl, bcond, ldsr, system}
use Rattle.machine.specs.Step.{exception, trap, illegal, return, reti, exec, execute, fetch, instruction, take_nmi, take_code, step}
use Rattle.machine.specs.Run.{Ended, carry, run}
use Rattle.machine.specs.Alike.{bit_cells, no_bit_cells, Alike, AlikeEnds}
use Rattle.machine.specs.Secrecy.{AlikeOutcomes}
use Rattle.machine.specs.AlikeLaws.{either, AlikeTv, plain-alike, lift1-alike, lift2-alike, lift_all-alike, bits-alike, spread-alike}
use Rattle.machine.specs.AlikeLaws.{gathered-alike, mode-alike, twins, alike, cell-alike, put-alike, edit-alike, bits_at_alike, put_bits-alike}
use Rattle.machine.specs.AlikeLaws.{TwinCells, reg-alike, put_reg-alike, set_flags_alike, set_z-alike, condition-alike, psw-alike, put_psw_flags-alike}
use Rattle.machine.specs.AlikeLaws.{TwinMems, bytes_at_alike, put_bytes-alike}

-- one end of a step, with alike cells and memory
data TwinOutcomes : Outcome → Outcome → Type 0 where
  same : (w : Went) {c d m n : Cells} → TwinCells c d → TwinMems m n → TwinOutcomes (after w c m) (after w d n)

if_tv : (b : Bool) {x y v w : Tv} → AlikeTv x v → AlikeTv y w → AlikeTv (cond b x y) (cond b v w)
if_tv b p q = either AlikeTv b p q

if_outcome : (b : Bool) {x y v w : Outcome} → TwinOutcomes x v → TwinOutcomes y w → TwinOutcomes (cond b x y) (cond b v w)
if_outcome b p q = either TwinOutcomes b p q

-- The ways from values and addresses to what is never marked
module _ {c d m n : Cells} (h : TwinCells c d) (g : TwinMems m n) where
  reveal-alike : (o : Open) {a b : Tv} {k l : ℕ → Outcome} → AlikeTv a b → ((w : ℕ) → TwinOutcomes (k w) (l w))
      → TwinOutcomes (reveal o c m a k) (reveal o d n b l)
  unfolding reveal
  reveal-alike o (AlikeTv.same true p) f = same (Err (record { answer = Leak; place = o.pc })) h g
  reveal-alike o (AlikeTv.same false {w = w} p) f = rw (p refl) (f w)

  place-alike : (map : List ℕ) (right : ℕ) (answer : Answer) (a : ℕ) {k l : ℕ → Outcome} → ((p : ℕ) → TwinOutcomes (k p) (l p))
      → TwinOutcomes (place map right answer a c m k) (place map right answer a d n l)
  unfolding place
  place-alike map right answer a {k} {l} f = on (find map right a)
    where
      on : (s : Option ℕ) → TwinOutcomes (on_spot s (refuse answer a c m) k) (on_spot s (refuse answer a d n) l)
      on (Some p) = f p
      on None = same (Err (record { answer = answer; place = a })) h g

-- Operations, whatever their table says
operate-alike : (op : Op) (r : ℕ) {x y v w : Tv} {c d : Cells} → AlikeTv x v → AlikeTv y w → TwinCells c d
    → TwinCells (operate op x y r c) (operate op v w r d)
unfolding operate
operate-alike op r p q h =
    let f = operation op in
    let s = if_tv f.two q (plain-alike 0) in
    set_flags_alike (either TwinCells f.writes (put_reg-alike h r (lift2-alike (λ a b. (f.outcome a b).result) p s)) h) f.kind f.outcome p s

tested-alike : (k p : ℕ) {c d m n : Cells} → TwinCells c d → TwinMems m n → TwinCells (tested k p m c) (tested k p n d)
tested-alike k p h g = set_z-alike h (λ b. eqb (b / 2 ^ k % 2) 0) (cell-alike p refl g)

-- Each step from alike states, by the laws of its parts
ruleset values = (plain-alike, lift1-alike, lift_all-alike, reg-alike, cell-alike, bytes_at_alike, condition-alike, gathered-alike, mode-alike, if_tv)

ruleset writes = (put_reg-alike, put-alike, edit-alike, put_bytes-alike, put_bits-alike, bits_at_alike, bits-alike, spread-alike, psw-alike, put_psw_flags-alike)

ruleset parts = (values, writes, operate-alike, tested-alike, reveal-alike, place-alike, if_outcome, same)

module _ (map : List ℕ) (o : Open) {c d m n : Cells} (h : TwinCells c d) (g : TwinMems m n) where
  load-alike : (s : Size) (disp reg1 reg2 len : ℕ) → TwinOutcomes (load s disp reg1 reg2 len map o c m) (load s disp reg1 reg2 len map o d n)
  unfolding load
  load-alike s disp reg1 reg2 len = search parts depth 6

  store-alike : (s : Size) (disp reg1 reg2 len : ℕ) → TwinOutcomes (store s disp reg1 reg2 len map o c m) (store s disp reg1 reg2 len map o d n)
  unfolding store
  store-alike s disp reg1 reg2 len = search parts

  bitwise-alike : (op : BitOp) (k disp reg1 : ℕ) → TwinOutcomes (bitwise op k disp reg1 map o c m) (bitwise op k disp reg1 map o d n)
  unfolding bitwise
  bitwise-alike op k disp reg1 = search parts depth 7

  ldsr-alike : (reg2 regid : ℕ) → TwinOutcomes (ldsr reg2 regid o c m) (ldsr reg2 regid o d n)
  unfolding ldsr
  ldsr-alike reg2 regid = search parts depth 9

  system-alike : (regid : ℕ) → AlikeTv (system regid o c) (system regid o d)
  unfolding system
  system-alike regid = search parts depth 9

  exception-alike : (code target np : ℕ) → TwinOutcomes (exception code target np o c m) (exception code target np o d n)
  unfolding exception
  exception-alike code target np = search parts

  return-alike : (pc saved : ℕ) → bit_cells (sys pc) ≡ false → bit_cells (sys saved) ≡ true
      → TwinOutcomes (return pc saved o c m) (return pc saved o d n)
  unfolding return
  return-alike pc saved p s = search parts

  fetch-alike : (a : ℕ) {k l : ℕ → Outcome} → ((w : ℕ) → TwinOutcomes (k w) (l w)) → TwinOutcomes (fetch a map o c m k) (fetch a map o d n l)
  unfolding fetch
  fetch-alike a f = search parts

  ruleset moves = (parts, load-alike, store-alike, bitwise-alike, ldsr-alike, system-alike, exception-alike, return-alike)

  exec-alike : (i : Insn) → TwinOutcomes (exec i map o c m) (exec i map o d n)
  unfolding exec jmp jarl bcond trap reti
  exec-alike (Reg op reg1 reg2) = search moves
  exec-alike (Jmp reg1) = search moves
  exec-alike (Imm5 op imm reg2) = search moves
  exec-alike (Sld s disp reg2) = search moves
  exec-alike (Sst s disp reg2) = search moves
  exec-alike (Bcond cc disp) = search moves
  exec-alike (Imm16 op imm reg1 reg2) = search moves
  exec-alike (Ld s disp reg1 reg2) = search moves
  exec-alike (St s disp reg1 reg2) = search moves
  exec-alike (Jarl disp reg2) = search moves
  exec-alike (Bit op k disp reg1) = search moves
  exec-alike (Setf cc reg2) = search moves
  exec-alike (Ldsr reg2 regid) = search moves
  exec-alike (Stsr regid reg2) = search moves
  exec-alike (Shift op reg1 reg2) = search moves
  exec-alike (Trap vector) = search moves
  exec-alike Halt = search moves
  exec-alike Reti = search moves
  exec-alike Di = search moves
  exec-alike Ei = search moves

  execute-alike : (x : Decoded) → TwinOutcomes (execute x map o c m) (execute x map o d n)
  unfolding execute illegal
  execute-alike (decoded.Valid i) = exec-alike i
  execute-alike decoded.Illegal = search moves
  execute-alike decoded.Undefined = search moves

  step-alike : TwinOutcomes (step map o c m) (step map o d n)
  unfolding step instruction take_nmi take_code
  step-alike = search (parts, fetch-alike, execute-alike) depth 9

carry-alike : (go : Open → Cells → Cells → Ended) (k : ℕ) (o : Open)
    → ((o : Open) (c d m n : Cells) → TwinCells c d → TwinMems m n → AlikeEnds (go o c m) (go o d n))
    → {x y : Outcome} → TwinOutcomes x y → AlikeEnds (carry go k o x) (carry go k o y)
unfolding carry
carry-alike go k o f (same (Ok p) {c} {d} {m} {n} h g) = f p c d m n h g
carry-alike go k o f (same (Err r) h g) = record { ran = refl; cells = alike h; mem = alike g }

run-alike : (budget k : ℕ) (map : List ℕ) (o : Open) {c d m n : Cells} → TwinCells c d → TwinMems m n
    → AlikeEnds (run budget k map o c m) (run budget k map o d n)
unfolding run
run-alike zero k map o h g = record { ran = refl; cells = alike h; mem = alike g }
run-alike (suc budget) k map o h g =
    carry-alike (run budget (suc k) map) k o (λ o c d m n h g. run-alike budget (suc k) map o h g) (step-alike map o h g)

outcomes_alike : {x y : Outcome} → TwinOutcomes x y → AlikeOutcomes x y
outcomes_alike (same w h g) = record { went = refl; cells = alike h; mem = alike g }

pub step-secrecy : (map : List ℕ) (o : Open) {c d m n : Cells} → Alike bit_cells c d → Alike no_bit_cells m n
    → AlikeOutcomes (step map o c m) (step map o d n)
step-secrecy map o h g = outcomes_alike (step-alike map o (twins h) (twins g))

pub secrecy : (budget : ℕ) (map : List ℕ) (o : Open) {c d m n : Cells} → Alike bit_cells c d → Alike no_bit_cells m n
    → AlikeEnds (run budget 0 map o c m) (run budget 0 map o d n)
secrecy budget map o h g = run-alike budget 0 map o (twins h) (twins g)
