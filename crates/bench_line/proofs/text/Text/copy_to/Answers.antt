-- What is written are the first bytes of the room.
use Rattle.std.proofs.Common.{◌≤◌, length, ap, sym, ◌∙◌, arith, length-take-le}
use Rattle.bench_line.specs.TextLaws.{wrote_front}
use Rattle.bench_line.proofs.text.Text.copy_to.Goals as goal

pub returns : goal.returns
returns c =
    let h : c.self.inside.written ≤ length c.self.inside.room = omega arith in
    wrote_front (c.copy_from_slice.ensures.after ∙ c.self.view_is)
    (sym (length-take-le c.self.inside.written c.self.inside.room h) ∙ ap length c.self.view_is) (omega arith)
