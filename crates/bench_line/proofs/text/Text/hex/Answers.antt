-- A number in hex is its digits in base 16 (`digits-hex`), as many as were asked for.
use Rattle.std.proofs.Common.{ℕ, length, arith, ap, append_assoc, length-append}
use Rattle.bench_line.specs.TextLaws.{digits-hex, hex-length}
use Rattle.bench_line.proofs.text.Text.hex.Goals as goal

pub returns-clause-text : goal.returns-clause-text
returns-clause-text c = rw (c.digits.ensures, c.put.ensures, append_assoc, digits-hex)

pub returns-clause-long : goal.returns-clause-long
returns-clause-long c =
    omega (arith, ap length c.digits.ensures, ap length c.put.ensures, ap length (digits-hex c.args.k c.args.n), length-append {A = ℕ}, hex-length)
