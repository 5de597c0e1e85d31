-- The line fits its room (`line-fits`), so what goes out is a part of the room.
use Rattle.std.proofs.Common.{◌≤◌, List, ℕ, length, sym, arith, length-take-le}
use Rattle.bench_line.specs.Text.{Wrote}
use Rattle.bench_line.specs.TextLaws.{wrote_long}
use Rattle.bench_line.specs.Line.{line, LONGEST}
use Rattle.bench_line.specs.LineLaws.{line-fits}
use Rattle.bench_io.proofs.answer.Goals as goal

within : (input : List ℕ) {before after : List ℕ} {n : ℕ} → Wrote before 0 (line input) after n → LONGEST ≤ length before → n ≤ length after
within input w h = omega (arith, line-fits input, wrote_long w)

pub slice_bounds-out-end : goal.slice_bounds-out-end
slice_bounds-out-end g c = within _ c.line-long.ensures (omega arith)

pub slice_bounds-write_all-end : goal.slice_bounds-write_all-end
slice_bounds-write_all-end g c = sym (length-take-le c.line-long.result c.line-long.new.out (within _ c.line-long.ensures (omega arith)))
