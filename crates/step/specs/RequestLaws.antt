-- The order of a step's checks, from the tests that code makes one by one.
use Rattle.std.specs.Prelude.{◌≡◌, ℕ, true, false, List, nat_eq}
use Rattle.word.specs.Tests.{both_false}
use Rattle.machine.specs.declared.Open.{Open}
use Rattle.machine.specs.declared.Answer.TheVariants.{Asleep}
use Rattle.machine.specs.Marked.{Cells}
use Rattle.machine.specs.Step.{Outcome, refuse, instruction, nmi_accepted, code_accepted, take_nmi, take_code, step}
use Rattle.step.specs.Tasks.{acts}

module _ (map : List ℕ) (o : Open) (c m : Cells) {x : Outcome} where
  pub step-nmi : nmi_accepted o ≡ true → x ≡ take_nmi o c m → x ≡ step map o c m
  unfolding step
  step-nmi h q = rw h q

  pub step-code : nmi_accepted o ≡ false → code_accepted o ≡ true → x ≡ take_code o c m → x ≡ step map o c m
  unfolding step
  step-code h k q = rw (h, k) q

  pub step_asleep : acts o ≡ true → nmi_accepted o ≡ false → code_accepted o ≡ false → x ≡ refuse Asleep 0 c m → x ≡ step map o c m
  unfolding step
  step_asleep a h k q =
      let l : nat_eq o.halted 1 ≡ true = rw (h, k) at a in
      rw (h, k, l) q

  pub step-instruction : acts o ≡ false → x ≡ instruction map o c m → x ≡ step map o c m
  unfolding step
  step-instruction a q =
      let h = both_false (nmi_accepted o) _ a in
      let k = both_false (code_accepted o) _ h.1 in
      rw (h.0, k.0, k.1) q
