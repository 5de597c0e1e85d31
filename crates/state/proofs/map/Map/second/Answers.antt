-- What is left of the region is enough for both halfwords.
use mathlib.Core.Path.{◌≡◌, sym, ap, ◌∙◌}
use Prim.Native.Nat.{ℕ, ◌+◌}
use native.Mathlib.Omega.{arith}
use Rattle.word.specs.Extend.{sum24}
use Rattle.machine.specs.Regions.{FETCH, find}
use Rattle.state.proofs.map.Map.second.Goals as goal

pub returns-then-p-gt2 : goal.returns-then-p-gt2
returns-then-p-gt2 c =
    let args' = c.args in
    let onward' = c.requires in
    let more = c.if-p-gt2.true in
    let end = onward'.below (omega arith) in
    let flat : args'.a + 2 ≡ sum24 args'.a 2 = omega arith in
    sym (onward'.each 2 more) ∙ ap (λ (b : ℕ). find args'.self.now FETCH b) flat
