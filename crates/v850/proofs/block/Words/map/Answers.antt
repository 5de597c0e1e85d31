-- The words from the map's first on are all that is left.
use Rattle.std.proofs.Common.{◌≡◌, ◌∙◌, length, drop, arith, length-drop}
use Rattle.std.proofs.Math.Seq.{take_all}
use Rattle.v850.specs.Block.{WORDS, at_map, MAP_WORDS}
use Rattle.v850.proofs.block.Words.map.Goals as goal

pub returns : goal.returns
returns c =
    let l : length c.args.self.now.0 ≡ WORDS = omega arith in
    c.copy_from_slice.ensures.after ∙ take_all MAP_WORDS (drop at_map c.args.self.now.0) (omega (arith, length-drop at_map c.args.self.now.0))
