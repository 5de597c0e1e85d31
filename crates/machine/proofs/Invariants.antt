-- What every step keeps: a refused step changes nothing, a well-formed state leads to well-formed states, and memory keeps its size.
-- The theorems stand at the end.
use Rattle.std.specs.Prelude.{◌≡◌, Ok, Err, Bool, true, false, cond, ◌&&◌, ◌||◌, List, ◌⊎◌, ℕ, zero, suc, ◌+◌, ◌-◌, ◌*◌, ◌/◌, ◌%◌, ◌^◌, ◌≤◌, ◌<◌, ltb, leb, get_or, length, replicate}
use Rattle.std.proofs.Math.Path.{refl}
use Rattle.std.proofs.Common.{sym, subst, inl, inr, arith, eqb→eq, ltb→lt, pow_mono}
use Rattle.std.proofs.Math.Dec.{T, eqb}
use Rattle.std.proofs.Math.Facts.{or_yes, and_yes}
use Rattle.word.specs.Word.{W}
use Rattle.word.specs.Extend.{sum24}
use Rattle.word.specs.Bounds.{cond_holds}
use Rattle.insn.specs.declared.Size.{Size}
use Rattle.insn.specs.declared.BitOp.{BitOp}
use Rattle.insn.specs.declared.Imm5Op.{Imm5Op}
use Rattle.insn.specs.declared.Imm16Op.{Imm16Op}
use Rattle.insn.specs.declared.Insn.{Insn}
use Rattle.insn.specs.declared.Insn.TheVariants.{Reg, Jmp, Imm5, Sld, Sst, Bcond, Imm16, Ld, St, Jarl, Bit, Setf, Ldsr, Stsr, Shift, Trap, Halt, Reti, Di, Ei}
use Rattle.insn.specs.declared.Decoded.{Decoded}
use Rattle.insn.specs.declared.Decoded.TheVariants as decoded
use Rattle.insn.specs.Coding.{long, decode, is_condition, is_signed, is_unsigned, multiple, imm5_shifts, imm16_plain, in_range}
use Rattle.insn.specs.RoundTrip.{decode_in_range}
use Rattle.machine.specs.declared.Open.{Open}
use Rattle.machine.specs.declared.Refusal.{Refusal}
use Rattle.machine.specs.Marked.{Cells, cell}
use Rattle.machine.specs.Psw.{REGS, EIPC, EIPSW, FEPC, FEPSW, ECR, PSW, sys, CELLS, reg, ELEMENT, bits, bits_at, condition, psw, mode}
use Rattle.machine.specs.Memory.{changed, tests}
use Rattle.machine.specs.Step.{Outcome, next, plus, load, store, bitwise, jmp, jarl, bcond, ldsr, system, exception, trap, illegal, return, reti, exec, execute, fetch, instruction, nmi_accepted, code_accepted, take_nmi, take_code, step}
use Rattle.machine.specs.Run.{number, run, reset_open, reset_cells}
use Rattle.machine.specs.WellFormed.{limit, mark_limit, WellFormed, Bytes, GoodCells, GoodOpen}
use Rattle.machine.specs.InvariantLaws.{IsWord, reg-word, put_reg-good, set_z-good, condition-word, psw-marks, Bank, ei, fe, saved_pc, put_low_good, put_spread_good, put_psw_flags-good, saved_good, operate-good, goto-good, plus-good, modes-good, waits-good, fecc-good, eicc-good, code_target, edit-bytes, changed-byte, put_bytes-bytes, half_lt, loaded_word, Ends, next-ends, refuse-ends, reveal-ends, place-ends, cond_ends, Kept, same, edit_kept, put_bytes_kept, any_end, carry_answers, run_holds}

-- A step from the memory m that keeps the size and the marks of the memory n, with which a run began
abbrev Keeps : Cells → Cells → Cells → Outcome → Type 0
Keeps n c m x = Ends (λ o' c' m'. Kept n m') c m x

ruleset keeps = (next-ends, refuse-ends, reveal-ends, place-ends, cond_ends, edit_kept, put_bytes_kept, refl)

module _ (map : List ℕ) (o : Open) {n : Cells} (c : Cells) {m : Cells} (kept : Kept n m) where
  load_keeps : (s : Size) (disp reg1 reg2 len : ℕ) → Keeps n c m (load s disp reg1 reg2 len map o c m)
  unfolding load
  load_keeps s disp reg1 reg2 len = search keeps depth 7

  store_keeps : (s : Size) (disp reg1 reg2 len : ℕ) → Keeps n c m (store s disp reg1 reg2 len map o c m)
  unfolding store
  store_keeps s disp reg1 reg2 len = search keeps depth 7

  bitwise_keeps : (op : BitOp) (k disp reg1 : ℕ) → Keeps n c m (bitwise op k disp reg1 map o c m)
  unfolding bitwise
  bitwise_keeps op k disp reg1 = search keeps depth 9

  ldsr_keeps : (reg2 regid : ℕ) → Keeps n c m (ldsr reg2 regid o c m)
  unfolding ldsr
  ldsr_keeps reg2 regid = search keeps depth 9

  return_keeps : (pc saved : ℕ) → Keeps n c m (return pc saved o c m)
  unfolding return
  return_keeps pc saved = search keeps

  exec_keeps : (i : Insn) → Keeps n c m (exec i map o c m)
  unfolding exec jmp jarl bcond exception trap reti
  exec_keeps (Jmp reg1) = search keeps
  exec_keeps (Reg op reg1 reg2) = search keeps
  exec_keeps (Imm5 op imm reg2) = search keeps
  exec_keeps (Sld s disp reg2) = load_keeps s disp ELEMENT reg2 2
  exec_keeps (Sst s disp reg2) = store_keeps s disp ELEMENT reg2 2
  exec_keeps (Bcond cc disp) = search keeps
  exec_keeps (Imm16 op imm reg1 reg2) = search keeps
  exec_keeps (Ld s disp reg1 reg2) = load_keeps s disp reg1 reg2 4
  exec_keeps (St s disp reg1 reg2) = store_keeps s disp reg1 reg2 4
  exec_keeps (Jarl disp reg2) = search keeps
  exec_keeps (Bit op k disp reg1) = bitwise_keeps op k disp reg1
  exec_keeps (Setf cc reg2) = search keeps
  exec_keeps (Ldsr reg2 regid) = ldsr_keeps reg2 regid
  exec_keeps (Stsr regid reg2) = search keeps
  exec_keeps (Shift op reg1 reg2) = search keeps
  exec_keeps (Trap vector) = search keeps
  exec_keeps Halt = search keeps
  exec_keeps Reti = search (keeps, return_keeps)
  exec_keeps Di = search keeps
  exec_keeps Ei = search keeps

  execute_keeps : (d : Decoded) → Keeps n c m (execute d map o c m)
  unfolding execute illegal exception
  execute_keeps (decoded.Valid i) = exec_keeps i
  execute_keeps decoded.Illegal = search keeps
  execute_keeps decoded.Undefined = search keeps

  step_keeps : Keeps n c m (step map o c m)
  unfolding step take_nmi take_code instruction fetch
  step_keeps = search (keeps, execute_keeps) depth 9

run_keeps : (budget n : ℕ) (map : List ℕ) (o : Open) (c m : Cells) → Kept m (run budget n map o c m).mem
run_keeps budget n map o c m =
    run_holds (λ o' c' m'. Kept m m') map (λ o c m k. step_keeps map o c k) budget n o c m (same m)

-- A well-formed state and its memory
record State (o : Open) (c m : Cells) : Type 0 where
  formed : WellFormed o c
  bytes : Bytes m

-- Operands in range. An immediate of at most 32 bits is a word
immediate_word : (k : ℕ) → k ≤ 32 → (b : Bool) (n : ℕ) → T (cond b (is_unsigned k n) (is_signed k n)) → n < W
immediate_word k h true n t = omega (arith, ltb→lt n (2 ^ k) t, pow_mono {i = k} {j = 32} h)
immediate_word k h false n t = go (or_yes (ltb n (2 ^ (k - 1))) _ t)
  where
    go : T (ltb n (2 ^ (k - 1))) ⊎ T (leb (W - 2 ^ (k - 1)) n && ltb n W) → n < W
    go (inl l) = omega (arith, ltb→lt n (2 ^ (k - 1)) l, pow_mono {i = k - 1} {j = 32} (omega arith))
    go (inr r) = ltb→lt n W (and_yes (leb (W - 2 ^ (k - 1)) n) _ r).1

imm5-word : (op : Imm5Op) (imm reg2 : ℕ) → T (in_range (Imm5 op imm reg2)) → imm < W
unfolding in_range
imm5-word op imm reg2 r =
    immediate_word 5 (omega arith) (imm5_shifts op) imm (and_yes (cond (imm5_shifts op) (is_unsigned 5 imm) (is_signed 5 imm)) _ r).0

imm16-word : (op : Imm16Op) (imm reg1 reg2 : ℕ) → T (in_range (Imm16 op imm reg1 reg2)) → imm < W
unfolding in_range
imm16-word op imm reg1 reg2 r =
    immediate_word 16 (omega arith) (imm16_plain op) imm (and_yes (cond (imm16_plain op) (is_unsigned 16 imm) (is_signed 16 imm)) _ r).0

-- a jump goes by an even number, and a byte has eight bits
bcond_even : (cc disp : ℕ) → T (in_range (Bcond cc disp)) → disp % 2 ≡ 0
unfolding in_range
bcond_even cc disp r = eqb→eq (disp % 2) 0 (and_yes (is_signed 9 disp) _ (and_yes (is_condition cc) _ r).1).1

jarl_even : (disp reg2 : ℕ) → T (in_range (Jarl disp reg2)) → disp % 2 ≡ 0
unfolding in_range
jarl_even disp reg2 r = eqb→eq (disp % 2) 0 (and_yes (multiple 2 disp) _ (and_yes (is_signed 22 disp) _ r).1).0

bit-number : (op : BitOp) (n disp reg1 : ℕ) → T (in_range (Bit op n disp reg1)) → n < 8
unfolding in_range
bit-number op n disp reg1 r = ltb→lt n 8 (and_yes (is_unsigned 3 n) _ r).0

-- What leads from a well-formed state to well-formed states
module _ (map : List ℕ) {o : Open} {c m : Cells} (s : State o c m) where
  abbrev Formed : Outcome → Type 0
  Formed x = Ends State c m x

  on : {o' : Open} {c' : Cells} → GoodOpen o' → GoodCells c' → Formed (next o' c' m)
  on w g = next-ends (record { formed = record { core = w; cells = g }; bytes = s.bytes })

  ahead : (n : ℕ) → n % 2 ≡ 0 → GoodOpen (plus n o)
  ahead n e = plus-good s.formed.core n e

  load-formed : (z : Size) (disp reg1 reg2 len : ℕ) → len % 2 ≡ 0 → Formed (load z disp reg1 reg2 len map o c m)
  unfolding load
  load-formed z disp reg1 reg2 len e =
      reveal-ends o _ _ (place-ends map _ _ _ _ refl λ p.
      on (ahead len e) (put_reg-good s.formed.cells reg2 _ (loaded_word s.bytes p z)))

  store-formed : (z : Size) (disp reg1 reg2 len : ℕ) → len % 2 ≡ 0 → Formed (store z disp reg1 reg2 len map o c m)
  unfolding store
  store-formed z disp reg1 reg2 len e =
      reveal-ends o _ _ (place-ends map _ _ _ _ refl λ p.
      next-ends (record { formed = record { core = ahead len e; cells = s.formed.cells }; bytes = put_bytes-bytes s.bytes z p _ }))

  bitwise-formed : (op : BitOp) (n disp reg1 : ℕ) → n < 8 → Formed (bitwise op n disp reg1 map o c m)
  unfolding bitwise
  bitwise-formed op n disp reg1 h =
      reveal-ends o _ _ (place-ends map _ _ _ _ refl λ p.
      cond_ends (tests op) (on (ahead 4 refl) (set_z-good s.formed.cells _ _))
      (place-ends map _ _ _ _ refl λ q.
      next-ends (record {
        formed = record { core = ahead 4 refl; cells = set_z-good s.formed.cells _ _ };
        bytes = edit-bytes s.bytes p (changed op n) (λ x k. changed-byte op n x h k);
      })))

  ldsr-formed : (reg2 regid : ℕ) → Formed (ldsr reg2 regid o c m)
  unfolding ldsr
  ldsr-formed reg2 regid =
      let v = reg reg2 c in
      let w = v.val in
      cond_ends (eqb regid EIPC) (on (ahead 4 refl) (put_low_good ei s.formed.cells v))
      (cond_ends (eqb regid EIPSW) (on (ahead 4 refl) (put_spread_good ei s.formed.cells v))
      (cond_ends (eqb regid FEPC) (on (ahead 4 refl) (put_low_good fe s.formed.cells v))
      (cond_ends (eqb regid FEPSW) (on (ahead 4 refl) (put_spread_good fe s.formed.cells v))
      (reveal-ends o v _ (on
      (plus-good (modes-good s.formed.core (w / 2 ^ 7 % 2) (w / 2 ^ 6 % 2) (w / 2 ^ 5 % 2) (omega arith) (omega arith) (omega arith)) 4 refl)
      (put_psw_flags-good s.formed.cells (bits w 0)))))))

  system-word : (regid : ℕ) → IsWord (system regid o c)
  unfolding system
  system-word regid =
      cond_holds IsWord (eqb regid EIPC) (omega (arith, saved_pc ei s.formed.cells))
      (cond_holds IsWord (eqb regid EIPSW) (omega arith)
      (cond_holds IsWord (eqb regid FEPC) (omega (arith, saved_pc fe s.formed.cells))
      (cond_holds IsWord (eqb regid FEPSW) (omega arith)
      (cond_holds IsWord (eqb regid ECR) s.formed.core.ecr (omega arith)))))

  exception-formed : (code target np : ℕ) → code < 2 ^ 16 → target % 2 ≡ 0 → target < 2 ^ 24 → np < 2 → Formed (exception code target np o c m)
  unfolding exception
  exception-formed code target np h e l b =
      on (goto-good (eicc-good (modes-good s.formed.core np 1 1 b (omega arith) (omega arith)) code h) target e l)
      (saved_good ei s.formed.cells o (sum24 o.pc 4) (omega arith))

  trap-formed : (vector : ℕ) → vector < 32 → Formed (trap vector o c m)
  unfolding trap
  trap-formed vector h =
      exception-formed (0x40 + vector) _ o.np (omega arith)
      (cond_holds (λ (n : ℕ). n % 2 ≡ 0) (ltb vector 0x10) {x = 0x40} {y = 0x50} refl refl)
      (cond_holds (λ (n : ℕ). n < 2 ^ 24) (ltb vector 0x10) {x = 0x40} {y = 0x50} (omega arith) (omega arith))
      s.formed.core.np

  return-formed : {pc saved : ℕ} → Bank pc saved → Formed (return pc saved o c m)
  unfolding return
  return-formed {pc} {saved} k =
      let a = (cell c (sys pc)).val in
      let b = (mode (bits_at (sys saved) c)).val in
      reveal-ends o _ _ (reveal-ends o _ _ (on
      (goto-good (modes-good s.formed.core (b / 2 ^ 2 % 2) (b / 2 % 2) (b % 2) (omega arith) (omega arith) (omega arith)) (a / 2 * 2)
      (omega arith) (omega (arith, saved_pc k s.formed.cells)))
      (put_psw_flags-good s.formed.cells (bits_at (sys saved) c))))

  bcond-formed : (cc disp : ℕ) → disp % 2 ≡ 0 → Formed (bcond cc disp o c m)
  unfolding bcond
  bcond-formed cc disp e =
      reveal-ends o (condition cc c) _ (on (cond_holds GoodOpen (eqb (condition cc c).val 0) (ahead 2 refl) (ahead disp e)) s.formed.cells)

  jmp-formed : (reg1 : ℕ) → Formed (jmp reg1 o c m)
  unfolding jmp
  jmp-formed reg1 = reveal-ends o _ _ (on (goto-good s.formed.core _ (omega arith) (omega arith)) s.formed.cells)

  jarl-formed : (disp reg2 : ℕ) → disp % 2 ≡ 0 → Formed (jarl disp reg2 o c m)
  unfolding jarl
  jarl-formed disp reg2 e = on (ahead disp e) (put_reg-good s.formed.cells reg2 _ (omega arith))

  word : (n : ℕ) → IsWord (reg n c)
  word n = reg-word s.formed.cells n

  exec-formed : (i : Insn) → T (in_range i) → Formed (exec i map o c m)
  unfolding exec in_range reti
  exec-formed (Jmp reg1) r = jmp-formed reg1
  exec-formed (Reg op reg1 reg2) r = on (ahead 2 refl) (operate-good s.formed.cells _ _ _ reg2 (word reg1) (word reg2))
  exec-formed (Imm5 op imm reg2) r = on (ahead 2 refl) (operate-good s.formed.cells _ _ _ reg2 (imm5-word op imm reg2 r) (word reg2))
  exec-formed (Sld z disp reg2) r = load-formed z disp ELEMENT reg2 2 refl
  exec-formed (Sst z disp reg2) r = store-formed z disp ELEMENT reg2 2 refl
  exec-formed (Bcond cc disp) r = bcond-formed cc disp (bcond_even cc disp r)
  exec-formed (Imm16 op imm reg1 reg2) r = on (ahead 4 refl) (operate-good s.formed.cells _ _ _ reg2 (imm16-word op imm reg1 reg2 r) (word reg1))
  exec-formed (Ld z disp reg1 reg2) r = load-formed z disp reg1 reg2 4 refl
  exec-formed (St z disp reg1 reg2) r = store-formed z disp reg1 reg2 4 refl
  exec-formed (Jarl disp reg2) r = jarl-formed disp reg2 (jarl_even disp reg2 r)
  exec-formed (Bit op n disp reg1) r = bitwise-formed op n disp reg1 (bit-number op n disp reg1 r)
  exec-formed (Setf cc reg2) r = on (ahead 4 refl) (put_reg-good s.formed.cells reg2 _ (condition-word cc c))
  exec-formed (Ldsr reg2 regid) r = ldsr-formed reg2 regid
  exec-formed (Stsr regid reg2) r = on (ahead 4 refl) (put_reg-good s.formed.cells reg2 _ (system-word regid))
  exec-formed (Shift op reg1 reg2) r = on (ahead 4 refl) (operate-good s.formed.cells _ _ _ reg2 (word reg1) (word reg2))
  exec-formed (Trap vector) r = trap-formed vector (ltb→lt vector 32 r)
  exec-formed Halt r = on (plus-good (waits-good s.formed.core o.code o.nmi 1 s.formed.core.code s.formed.core.nmi (omega arith)) 4 refl) s.formed.cells
  exec-formed Reti r = cond_ends (eqb o.ep 0 && eqb o.np 1) (return-formed fe) (return-formed ei)
  exec-formed Di r = on (plus-good (modes-good s.formed.core o.np o.ep 1 s.formed.core.np s.formed.core.ep (omega arith)) 4 refl) s.formed.cells
  exec-formed Ei r = on (plus-good (modes-good s.formed.core o.np o.ep 0 s.formed.core.np s.formed.core.ep (omega arith)) 4 refl) s.formed.cells

  take_nmi-formed : Formed (take_nmi o c m)
  unfolding take_nmi
  take_nmi-formed =
      let w = waits-good s.formed.core o.code 0 0 s.formed.core.code (omega arith) (omega arith) in
      on (goto-good (fecc-good (modes-good w 1 0 1 (omega arith) (omega arith) (omega arith)) 0x10 (omega arith)) 0x10 refl (omega arith))
      (saved_good fe s.formed.cells o o.pc s.formed.core.pc_24)

  take_code-formed : Formed (take_code o c m)
  unfolding take_code
  take_code-formed =
      let t = code_target o.code s.formed.core.code in
      let w = waits-good s.formed.core 0 o.nmi 0 refl s.formed.core.nmi (omega arith) in
      on (goto-good (eicc-good (modes-good w o.np 0 1 s.formed.core.np (omega arith) (omega arith)) o.code t.1) o.code t.0 (omega (arith, t.1)))
      (saved_good ei s.formed.cells o o.pc s.formed.core.pc_24)

  fetch-formed : (a : ℕ) (k : ℕ → Outcome) → ((h : ℕ) → h < 2 ^ 16 → Formed (k h)) → Formed (fetch a map o c m k)
  unfolding fetch
  fetch-formed a k f = place-ends _ _ _ _ _ refl λ p. reveal-ends o _ k (f _ (half_lt s.bytes p))

  execute-formed : (h w : ℕ) → h < 2 ^ 16 → w < 2 ^ 16 → Formed (execute (decode h w) map o c m)
  unfolding execute illegal
  execute-formed h w l k = go (decode h w) refl
    where
      go : (d : Decoded) → decode h w ≡ d → Formed (execute d map o c m)
      go (decoded.Valid i) e = exec-formed i (subst T (sym (decode_in_range h w l k i e)) tt)
      go decoded.Illegal e = exception-formed 0x60 0x60 o.np (omega arith) refl (omega arith) s.formed.core.np
      go decoded.Undefined e = refuse-ends _ _ refl

  step-formed : Formed (step map o c m)
  unfolding step instruction
  step-formed =
      cond_ends (nmi_accepted o) take_nmi-formed
      (cond_ends (code_accepted o) take_code-formed
      (cond_ends (eqb o.halted 1) (refuse-ends _ _ refl)
      (fetch-formed o.pc _ λ h l.
      cond_ends (long h) (fetch-formed _ _ λ w k. execute-formed h w l k) (execute-formed h 0 l (omega arith)))))

-- Reset leaves zeros, which are within every limit
zero_small : (n i k : ℕ) → 0 < k → get_or (replicate n 0) i 0 < k
zero_small zero i k h = h
zero_small (suc n) zero k h = h
zero_small (suc n) (suc i) k h = zero_small n i k h

abbrev Positive : ℕ → Type 0
Positive k = 0 < k

limit_pos : (i : ℕ) → Positive (limit i)
limit_pos i =
    cond_holds Positive (ltb i REGS) (omega arith)
    (cond_holds Positive (eqb i (sys EIPC) || eqb i (sys FEPC)) (omega arith)
    (cond_holds Positive (eqb i (sys EIPSW) || eqb i (sys FEPSW)) (omega arith)
    (cond_holds Positive (eqb i (sys PSW)) (omega arith) (omega arith))))

mark_limit_pos : (i : ℕ) → Positive (mark_limit i)
mark_limit_pos i =
    cond_holds Positive (ltb i REGS || (eqb i (sys EIPC) || eqb i (sys FEPC))) (omega arith)
    (cond_holds Positive (eqb i (sys EIPSW) || eqb i (sys FEPSW)) (omega arith)
    (cond_holds Positive (eqb i (sys PSW)) (omega arith) (omega arith)))

-- THE THEOREMS

-- A refused step changes nothing: no number and no mark, of the cells and of memory.
pub refused_changes_nothing : (map : List ℕ) (o : Open) (c m : Cells) (r : Refusal)
    → (step map o c m).went ≡ Err r → ((step map o c m).cells ≡ c) × ((step map o c m).mem ≡ m)
refused_changes_nothing map o c m = (step_keeps map o c (same m)).stopped

-- A refused step is answered by a number from 4 on, and a run by one of these or by DONE: SIZE, MAP and STATE are none of them.
pub run_answers : (budget n : ℕ) (map : List ℕ) (o : Open) (c m : Cells)
    → (number (run budget n map o c m).ran.answer ≡ 0) ⊎ (4 ≤ number (run budget n map o c m).ran.answer)
unfolding run
run_answers zero n map o c m = inl refl
run_answers (suc budget) n map o c m =
    carry_answers (run budget (suc n) map) n o (run_answers budget (suc n) map) (step map o c m) (step_keeps map o c (same m))

-- A step from a well-formed state leads to one, and from bytes to bytes.
pub step_well_formed : (map : List ℕ) (o : Open) (c m : Cells) → WellFormed o c → Bytes m
    → (o' : Open) → (step map o c m).went ≡ Ok o' → WellFormed o' (step map o c m).cells × Bytes (step map o c m).mem
step_well_formed map o c m w b o' e =
    let s = (step-formed map (record { formed = w; bytes = b })).went o' e in (s.formed, s.bytes)

-- So does a run, however it ends.
pub run_well_formed : (budget n : ℕ) (map : List ℕ) (o : Open) (c m : Cells) → WellFormed o c → Bytes m
    → WellFormed (run budget n map o c m).ran.core (run budget n map o c m).cells × Bytes (run budget n map o c m).mem
run_well_formed budget n map o c m w b =
    let s = run_holds State map (λ o c m s. step-formed map s) budget n o c m (record { formed = w; bytes = b }) in (s.formed, s.bytes)

-- The state after reset is well-formed.
pub reset_well_formed : WellFormed reset_open reset_cells
reset_well_formed =
    record {
      core = record {
        pc_even = refl;
        pc_24 = omega arith;
        np = omega arith;
        ep = omega arith;
        id = omega arith;
        ecr = omega arith;
        code = refl;
        nmi = omega arith;
        halted = omega arith;
      };
      cells = record {
        nums = refl;
        marks = refl;
        r0 = refl;
        r0-mark = refl;
        small = λ i. zero_small CELLS i (limit i) (limit_pos i);
        small-marks = λ i. zero_small CELLS i (mark_limit i) (mark_limit_pos i);
      };
    }

-- NP, EP and ID are never marked.
pub psw-modes_unmarked : (o : Open) (c : Cells) → (psw o c).marks < 2 ^ 5
psw-modes_unmarked o c = psw-marks o c

-- A step leaves memory and its marks as long as they were.
pub step_lengths : (map : List ℕ) (o : Open) (c m : Cells)
    → (length (step map o c m).mem.nums ≡ length m.nums) × (length (step map o c m).mem.marks ≡ length m.marks)
step_lengths map o c m = let k = any_end (Kept m) (same m) (step_keeps map o c (same m)) in (k.nums, k.marks)

-- So does a run.
pub run_lengths : (budget n : ℕ) (map : List ℕ) (o : Open) (c m : Cells)
    → (length (run budget n map o c m).mem.nums ≡ length m.nums) × (length (run budget n map o c m).mem.marks ≡ length m.marks)
run_lengths budget n map o c m = let k = run_keeps budget n map o c m in (k.nums, k.marks)

-- A step leaves each mark of memory as it was, or writes 0 or 1.
pub mark-bytes : (map : List ℕ) (o : Open) (c m : Cells) (i : ℕ)
    → (get_or (step map o c m).mem.marks i 0 ≡ get_or m.marks i 0) ⊎ (get_or (step map o c m).mem.marks i 0 < 2)
mark-bytes map o c m = (any_end (Kept m) (same m) (step_keeps map o c (same m))).each

-- So does a run.
pub run-mark-bytes : (budget n : ℕ) (map : List ℕ) (o : Open) (c m : Cells) (i : ℕ)
    → (get_or (run budget n map o c m).mem.marks i 0 ≡ get_or m.marks i 0) ⊎ (get_or (run budget n map o c m).mem.marks i 0 < 2)
run-mark-bytes budget n map o c m = (run_keeps budget n map o c m).each
