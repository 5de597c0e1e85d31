-- The sum does not wrap: what a right sees of a region ends within the largest memory.
use native.Mathlib.Omega.{arith}
use Rattle.state.proofs.Search.{covered_near, covered_small, placed}
use Rattle.state.specs.Windows.{bit_of, Laid}
use Rattle.state.proofs.map.Map.place.Goals as goal

pub returns : goal.returns
returns c =
    let args' = c.args in
    let bit = bit_of args'.right in
    let laid : Laid args'.self.now = rw (← c.self.view_is) c.self.invariant.1 in
    let near = covered_near laid bit args'.k args'.a (omega arith) (omega arith) c.requires.1 in
    let small = covered_small laid bit args'.k args'.a (omega arith) (omega arith) c.requires.1 in
    let begins = rw c.self.view_is at c.base.ensures in
    let lies = rw c.self.view_is at c.offset.ensures in
    placed laid bit args'.k args'.a (omega arith) (omega arith) c.requires.1 _ (omega arith) (omega arith)
