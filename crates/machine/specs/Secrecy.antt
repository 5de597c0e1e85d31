-- When two ends of a step are alike: the words of the theorem `step-secrecy` (proofs/Secrecy).
use Rattle.std.specs.Prelude.{◌≡◌}
use Rattle.machine.specs.Step.{Outcome}
use Rattle.machine.specs.Alike.{bit_cells, no_bit_cells, Alike}

-- Two ends of a step: the same next state of what is never marked, or the same refusal, and alike in the rest
pub record AlikeOutcomes (x y : Outcome) : Type 0 where
  pub went : x.went ≡ y.went
  pub cells : Alike bit_cells x.cells y.cells
  pub mem : Alike no_bit_cells x.mem y.mem
