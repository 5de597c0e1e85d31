-- A reset block passes STATE, and has the map that it had: MAP is answered for it as before.
use Rattle.std.specs.Prelude.{◌≡◌, true, ℕ, ◌^◌}
use Rattle.std.proofs.Math.Path.{subst}
use mathlib.Core.List.{List}
use Rattle.std.proofs.Math.ListN.{length}
use Rattle.std.proofs.Common.{eq-eqb}
use Rattle.machine.specs.Run.{reset_open, reset_cells}
use Rattle.v850.specs.Block.{bytes_of, words_from, pack_bits, BYTES, WORDS, MAP_WORDS, map_in, words_of, good_state}
use Rattle.v850.specs.PackLaws.{Below, words-length, words-bytes, words-below}
use Rattle.v850.specs.BlockLaws.{map-long, map-words}
use Rattle.v850.specs.Entry.{words_in, reset}

module _ (block : List ℕ) (long : length block ≡ BYTES) where
  reset-bytes : (reset block).block ≡ bytes_of (words_of reset_open reset_cells (map_in (words_in block)))
  unfolding reset
  reset-bytes = rw (eq-eqb (length block) BYTES long)

  -- THE THEOREMS

  -- The tests of STATE look at no word of the map, and the others are numbers: they are computed.
  pub reset-good-state : good_state (words_in (reset block).block) ≡ true
  unfolding bytes_of words_from pack_bits good_state
  reset-good-state = rw reset-bytes

  -- The map stays, of a block of bytes.
  pub reset-map : Below (2 ^ 8) block → map_in (words_in (reset block).block) ≡ map_in (words_in block)
  unfolding bytes_of words_from
  reset-map h = rw reset-bytes (back (map_in (words_in block)) (map-long (words_in block) (words-length block 0 WORDS)) (map-words (words-below block 0 WORDS h)))
    where
      back : (map : List ℕ) → length map ≡ MAP_WORDS → Below (2 ^ 32) map → map_in (words_in (bytes_of (words_of reset_open reset_cells map))) ≡ map
      back map l b = subst (λ (n : ℕ). words_from (bytes_of map) 0 n ≡ map) l (words-bytes map b)
