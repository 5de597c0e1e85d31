-- Past the other tests that of the map decides, and a region of a good map lies in memory (`region-fits`).
use Rattle.std.specs.Prelude.{◌≡◌, true, List, ℕ, ◌+◌, length}
use Rattle.std.proofs.Common.{◌∙◌, sym, ap, arith, eq-eqb, le-leb}
use Rattle.machine.specs.Regions.{offset, size, good_map}
use Rattle.v850.specs.Block.{map_in}
use Rattle.v850.specs.Entry.{words_in}
use Rattle.v850.specs.EntryLaws.{region-fits, handed_by}
use Rattle.v850.proofs.CallLaws.{made}
use Rattle.v850.proofs.entry.part.Goals as goal

pub returns : goal.returns
returns c =
    let k = c.args.k in
    let n = length c.args.memory.now in
    let m = made (good_map c.map.result n) (sym c.new.ensures ∙ c.in_ok-map.was) in
    let l : c.in_ok-map.map ≡ map_in (words_in c.args.block.now) = m.1 ∙ c.map.ensures ∙ ap map_in c.read.ensures in
    let good : good_map c.in_ok-map.map n ≡ true = rw m.1 m.0 in
    record {
      given =
          handed_by c.args.block.now c.args.memory.now k (le-leb k 3 c.if-k-gt3.false) (eq-eqb _ _ c.if-block-ne-BYTES.false) (le-leb _ _ c.if-memory-gt-MEMORY.false)
          (rw l at good);
      from = c.offset-from.ensures ∙ ap (λ (x : List ℕ). offset x k) l;
      to = ap (λ (n : ℕ). c.offset-from.result + n) (c.size.ensures ∙ ap (λ (x : List ℕ). size x k) l);
      inside =
          omega (
            arith,
            region-fits c.in_ok-map.map n k good (omega arith),
            c.offset-from.ensures,
            c.size.ensures,
          );
    }
