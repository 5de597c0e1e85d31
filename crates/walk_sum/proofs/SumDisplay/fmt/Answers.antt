-- Eight digits wide, with zeros in front, no sign and no prefix.
use Rattle.std.proofs.Common.{◌≡◌, ℕ, ◌-◌, [], arith, append-nil}
use Rattle.std.specs.Fmt.{padded_integral, char_count}
use Rattle.walk_sum.proofs.SumDisplay.fmt.Goals as goal

no_prefix : (n : ℕ) → 8 - n - 0 - char_count [] ≡ 8 - n
unfolding char_count
no_prefix n = omega arith

pub returns-clause-writes : goal.returns-clause-writes
unfolding padded_integral
returns-clause-writes g c p q =
    rw (← c.self.view_is) (simp (append-nil, no_prefix) at ((rw (c.laid_out.ensures, c.in_radix.ensures) at c.write.ensures.writes) p q))
