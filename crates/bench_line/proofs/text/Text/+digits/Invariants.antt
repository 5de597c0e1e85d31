-- The digits left fall with each call.
use Rattle.bench_line.proofs.text.Text.+digits.Given as goal

abbrev pub decreases-digits : goal.decreases-digits
decreases-digits l = l.most
