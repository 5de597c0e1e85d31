-- A number in decimal is its digits in base 10 (`digits-decimal`), ten at most.
use Rattle.std.proofs.Common.{ℕ, length, arith, ap, append_assoc, length-append}
use Rattle.bench_line.specs.TextLaws.{digits-decimal, digits_length}
use Rattle.bench_line.proofs.text.Text.decimal.Goals as goal

pub returns-clause-text : goal.returns-clause-text
returns-clause-text c = rw (c.digits.ensures, c.put.ensures, append_assoc, digits-decimal)

pub returns-clause-long : goal.returns-clause-long
returns-clause-long c = omega (arith, ap length c.digits.ensures, ap length c.put.ensures, length-append {A = ℕ}, digits_length)
