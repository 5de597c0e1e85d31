-- The sizes of the four regions as each right sees them, for the right of bit 0, 1 and 2: with them the code finds an address by one
-- comparison for each region.
use Rattle.std.specs.Prelude.{◌≡◌, true, cond, Option, Some, None, List, ℕ, ◌+◌, ◌*◌, ◌/◌, ◌%◌, ◌^◌, ◌≤◌, ◌<◌, eqb, get_or}
use Rattle.machine.specs.Regions.{base, size, offset, rights, covers, find}
use Rattle.state.specs.declared.map.Right.{Right}
use Rattle.state.specs.declared.map.Right.TheVariants.{Read, Write, Fetch}
use Rattle.state.specs.declared.map.Place.{Place}

-- the place of a right's bit among the rights
abbrev pub bit_of : Right → ℕ
bit_of Read = 0
bit_of Write = 1
bit_of Fetch = 2

-- the size of region k to the right of bit n: a region that lacks the right is as good as none
abbrev pub seen : List ℕ → ℕ → ℕ → ℕ
seen map n k = cond (eqb (rights map k / 2 ^ n % 2) 1) (size map k) 0

pub record Sizes (map sizes : List ℕ) : Type 0 where
  pub each : (n k : ℕ) → n < 3 → k < 4 → get_or sizes (4 * n + k) 0 ≡ seen map n k

-- a map with which the code finds addresses: its regions end within the addresses and the largest memory, and no two cover one address
pub record Laid (map : List ℕ) : Type 0 where
  pub below : (k : ℕ) → k < 4 → base map k + size map k ≤ 2 ^ 24
  pub places : (k : ℕ) → k < 4 → offset map k + size map k ≤ 2 ^ 16
  pub apart : (right a j k : ℕ) → j < 4 → k < 4 → covers map right a j ≡ true → covers map right a k ≡ true → j ≡ k

-- what was found
abbrev pub spot_of : Option Place → Option ℕ
spot_of (Some p) = Some p.at
spot_of None = None

-- the bytes from a on lie in memory one behind the other, as many as are left, and within the largest memory
pub record Onward (map : List ℕ) (right a : ℕ) (p : Place) : Type 0 where
  pub each : (i : ℕ) → i < p.left → find map right (a + i) ≡ Some (p.at + i)
  pub below : 0 < p.left → a + p.left ≤ 2 ^ 24
  pub places : 0 < p.left → p.at + p.left ≤ 2 ^ 16
