-- A run: steps until the budget is used up or a step is refused; and reset.
use Rattle.std.specs.Prelude.{Ok, Err, List, ℕ, zero, suc, replicate}
use Rattle.machine.specs.declared.Open.{Open}
use Rattle.machine.specs.declared.Answer.{Answer}
use Rattle.machine.specs.declared.Answer.TheVariants.{Done, Size, Map, State, Asleep, NoFetch, Undefined, Leak, NoRead, NoWrite}
use Rattle.machine.specs.declared.Refusal.{Refusal}
use Rattle.machine.specs.declared.Ran.{Ran}
use Rattle.machine.specs.Marked.{Cells, both}
use Rattle.machine.specs.Psw.{CELLS}
use Rattle.machine.specs.Step.{Went, Outcome, step}

-- The order's number of each answer
abbrev pub number : Answer → ℕ
number Done = 0
number Size = 1
number Map = 2
number State = 3
number Asleep = 4
number NoFetch = 5
number Undefined = 6
number Leak = 7
number NoRead = 8
number NoWrite = 9

-- How a run ended, with the cells and the memory after it
pub record Ended : Type 0 where
  pub ran : Ran
  pub cells : Cells
  pub mem : Cells

abbrev pub ended : Answer → ℕ → ℕ → Open → Cells → Cells → Ended
ended a p n o c m = record { ran = record { answer = a; place = p; steps = n; core = o }; cells = c; mem = m }

abbrev pub on_went : Went → (Open → Ended) → (Refusal → Ended) → Ended
on_went (Ok o) go end = go o
on_went (Err r) go end = end r

-- from a step's end on to the next step, or to the end of the run after n steps in the state that the refused step left
unfoldable pub carry : (Open → Cells → Cells → Ended) → ℕ → Open → Outcome → Ended
carry go n o x = on_went x.went (λ p. go p x.cells x.mem) (λ r. ended r.answer r.place n o x.cells x.mem)

-- a run with this budget left, after n steps
unfoldable pub run : ℕ → ℕ → List ℕ → Open → Cells → Cells → Ended
run zero n map o c m = ended Done 0 n o c m
run (suc budget) n map o c m = carry (run budget (suc n) map) n o (step map o c m)

-- Reset: PC 0, PSW 20H, ECR 0. House rule: all else 0 and unmarked, not halted, no request
abbrev pub reset_open : Open
reset_open = record { pc = 0; np = 0; ep = 0; id = 1; ecr = 0; code = 0; nmi = 0; halted = 0 }

abbrev pub reset_cells : Cells
reset_cells = both (replicate CELLS 0) (replicate CELLS 0)
