-- The code's way through a step: what the types that only the code uses stand for.
use Rattle.std.specs.Prelude.{◌≡◌, Option, Some, None, Result, Ok, Err, ⊤, ℕ, ◌-◌, ◌/◌, ◌%◌, ◌^◌, ◌<◌, ◌≤◌, Bool, true, false, ◌||◌, List, length, ◌==◌}
use Rattle.insn.specs.declared.Decoded.{Decoded}
use Rattle.insn.specs.declared.Decoded.TheVariants as decoded
use Rattle.insn.specs.Coding.{in_range}
use Rattle.machine.specs.declared.Open.{Open}
use Rattle.machine.specs.declared.Answer.TheVariants.{Done}
use Rattle.machine.specs.declared.Refusal.{Refusal}
use Rattle.machine.specs.declared.Ran.{Ran}
use Rattle.step.specs.declared.unmarked.Packed.{Packed}
use Rattle.step.specs.declared.unmarked.Next.{Next}
use Rattle.step.specs.declared.unmarked.Next.TheVariants.{Calm, Changed}
use Rattle.step.specs.declared.control.Bank.{Bank}
use Rattle.step.specs.declared.control.Bank.TheVariants.{Ei as OfEi, Fe as OfFe}
use Rattle.step.specs.declared.run.Reached.{Reached}
use Rattle.step.specs.declared.tasks.System.{System}
use Rattle.step.specs.declared.tasks.System.TheVariants.{Trap, Halt, Reti, Di, Ei}
use Rattle.step.specs.declared.tasks.Task.{Task}
use Rattle.step.specs.declared.tasks.Task.TheVariants.{Compute, Load, Store, Bitwise, Jmp, Bcond, Jarl, Setf, Ldsr, Stsr, System as OfSystem}
use Rattle.state.specs.declared.map.Place.{Place}
use Rattle.machine.specs.Marked.{Cells}
use Rattle.machine.specs.Psw.{EIPC, EIPSW, FEPC, FEPSW, put_reg, condition}
use Rattle.machine.specs.Regions.{good_map}
use Rattle.machine.specs.Operations.{operate}
use Rattle.machine.specs.Run.{Ended, ended, run}
use Rattle.machine.specs.Step.{Went, Outcome, refuse, next, plus, modes, waits, load, store, bitwise, jmp, bcond, jarl, ldsr, system, trap, reti, nmi_accepted, code_accepted}

-- what is never marked, out of the two numbers that hold it
abbrev pub open_of : Packed → Open
open_of c =
    record {
      pc = c.pc % 2 ^ 32;
      np = c.rest / 2 ^ 20 % 2;
      ep = c.rest / 2 ^ 19 % 2;
      id = c.rest / 2 ^ 18 % 2;
      ecr = c.rest / 2 ^ 32;
      code = c.rest % 2 ^ 16;
      nmi = c.rest / 2 ^ 16 % 2;
      halted = c.rest / 2 ^ 17 % 2;
    }

-- what the two numbers can hold
pub record Fits (o : Open) : Type 0 where
  pub np : o.np < 2
  pub ep : o.ep < 2
  pub id : o.id < 2
  pub code : o.code < 2 ^ 16
  pub nmi : o.nmi < 2
  pub halted : o.halted < 2

-- something comes before the next instruction: a request is accepted, or HALT's state goes on
abbrev pub acts : Open → Bool
acts o = nmi_accepted o || (code_accepted o || o.halted == 1)

-- the state after a step from o that went on: a calm one changes PC alone
abbrev pub next_of : Packed → Next → Packed
next_of o (Calm pc) = record { pc = pc; rest = o.rest }
next_of o (Changed c) = c

abbrev pub is_calm : Next → Bool
is_calm (Calm pc) = true
is_calm (Changed c) = false

-- how a step from o went
abbrev pub went_of : Packed → Result Next Refusal → Went
went_of o (Ok n) = Ok (open_of (next_of o n))
went_of o (Err r) = Err r

-- the system registers of a bank
abbrev pub pc_of : Bank → ℕ
pc_of OfEi = EIPC
pc_of OfFe = FEPC

abbrev pub psw_of : Bank → ℕ
psw_of OfEi = EIPSW
psw_of OfFe = FEPSW

-- how a step went that leads to o, unless it is refused
abbrev pub went_on : Result ⊤ Refusal → Open → Went
went_on (Ok u) o = Ok o
went_on (Err r) o = Err r

unfoldable pub do_system : System → Open → Cells → Cells → Outcome
do_system (Trap vector) o c m = trap vector o c m
do_system Halt o c m = next (plus 4 (waits o.code o.nmi 1 o)) c m
do_system Reti o c m = reti o c m
do_system Di o c m = next (plus 4 (modes o.np o.ep 1 o)) c m
do_system Ei o c m = next (plus 4 (modes o.np o.ep 0 o)) c m

unfoldable pub do_task : Task → List ℕ → Open → Cells → Cells → Outcome
do_task (Compute op x y target len) map o c m = next (plus len o) (operate op x y target c) m
do_task (Load s disp base target len) map o c m = load s disp base target len map o c m
do_task (Store s disp base source len) map o c m = store s disp base source len map o c m
do_task (Bitwise op n disp base) map o c m = bitwise op n disp base map o c m
do_task (Jmp reg1) map o c m = jmp reg1 o c m
do_task (Bcond cc disp) map o c m = bcond cc disp o c m
do_task (Jarl disp reg2) map o c m = jarl disp reg2 o c m
do_task (Setf cc reg2) map o c m = next (plus 4 o) (put_reg reg2 (condition cc c) c) m
do_task (Ldsr reg2 regid) map o c m = ldsr reg2 regid o c m
do_task (Stsr regid reg2) map o c m = next (plus 4 o) (put_reg reg2 (system regid o c) c) m
do_task (OfSystem s) map o c m = do_system s o c m

-- the operands that a task of an instruction in range has
abbrev pub SystemFields : System → Type 0
SystemFields (Trap vector) = vector < 32
SystemFields Halt = Unit
SystemFields Reti = Unit
SystemFields Di = Unit
SystemFields Ei = Unit

abbrev pub TaskFields : Task → Type 0
TaskFields (Compute op x y target len) = target < 32
TaskFields (Load s disp base target len) = (base < 32) × (target < 32)
TaskFields (Store s disp base source len) = (base < 32) × (source < 32)
TaskFields (Bitwise op n disp base) = (n < 8) × (base < 32)
TaskFields (Jmp reg1) = reg1 < 32
TaskFields (Bcond cc disp) = Unit
TaskFields (Jarl disp reg2) = reg2 < 32
TaskFields (Setf cc reg2) = reg2 < 32
TaskFields (Ldsr reg2 regid) = reg2 < 32
TaskFields (Stsr regid reg2) = reg2 < 32
TaskFields (OfSystem s) = SystemFields s

-- a map and memory as the entry's checks let them in
pub record Ready (map mem marks : List ℕ) : Type 0 where
  pub good : good_map map (length mem) ≡ true
  pub same : length mem ≡ length marks
  pub small : length mem ≤ 2 ^ 16

-- a halfword that was fetched, carried on, or the refusal
abbrev pub fetched : Result ℕ Refusal → Cells → Cells → (ℕ → Outcome) → Outcome
fetched (Ok h) c m k = k h
fetched (Err r) c m k = refuse r.answer r.place c m

abbrev pub halfword_of : Result (ℕ × Place) Refusal → Result ℕ Refusal
halfword_of (Ok h) = Ok h.0
halfword_of (Err r) = Err r

-- a decoded instruction is in range
abbrev pub DecodedFields : Decoded → Type 0
DecodedFields (decoded.Valid i) = in_range i ≡ true
DecodedFields decoded.Illegal = Unit
DecodedFields decoded.Undefined = Unit

-- the end of a run that has come this far: there, by its refusal if there is one, or further on
abbrev pub ran_by : Option Refusal → ℕ → Open → Ran
ran_by (Some r) n o = record { answer = r.answer; place = r.place; steps = n; core = o }
ran_by None n o = record { answer = Done; place = 0; steps = n; core = o }

abbrev pub ran_to : Reached → Ran
ran_to r = ran_by r.stop r.steps (open_of r.core)

abbrev pub goes_by : Option Refusal → ℕ → ℕ → List ℕ → Open → Cells → Cells → Ended
goes_by (Some r) budget n map o c m = ended r.answer r.place n o c m
goes_by None budget n map o c m = run (budget - n) n map o c m

abbrev pub goes_from : ℕ → List ℕ → Reached → Cells → Cells → Ended
goes_from budget map r c m = goes_by r.stop budget r.steps map (open_of r.core) c m
