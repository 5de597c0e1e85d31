-- Where the region view lies: that very part of the lent memory, by its place and not only by its bytes.
use Rattle.std.specs.Prelude.{◌≡◌, true, cond, List, ℕ, ◌+◌, ◌≤◌, length}
use Rattle.machine.specs.Regions.{offset, size}
use Rattle.v850.specs.Block.{map_in}
use Rattle.v850.specs.Entry.{words_in, handed}

-- the byte of memory where the part begins; an empty one begins with the memory
unfoldable pub view_from : List ℕ → List ℕ → ℕ → ℕ
view_from block memory k = cond (handed block memory k) (offset (map_in (words_in block)) k) 0

-- p is where a part that is handed out begins and ends
pub record IsPart (block memory : List ℕ) (k : ℕ) (p : ℕ × ℕ) : Type 0 where
  pub given : handed block memory k ≡ true
  pub from : p.0 ≡ offset (map_in (words_in block)) k
  pub to : p.1 ≡ p.0 + size (map_in (words_in block)) k
  pub inside : p.1 ≤ length memory

-- n bytes further on than the pointer p: a pointer is a block of memory and a place in it
abbrev pub on_by : ℕ → ℕ × ℕ → ℕ × ℕ
on_by n p = (p.0, n + p.1)
