-- Sums and differences: ADD, SUB, and their saturated kin.
use Rattle.std.specs.Prelude.{ℕ, ◌+◌, ◌-◌, ◌%◌, Bool, ◌+ℤ◌, ◌-ℤ◌, nat_le, nat_lt}
use Rattle.word.specs.declared.Computed.{Computed}
use Rattle.word.specs.Word.{W, signed, word_of, overflow, nearest, computed}

-- a + b and a - b as 32 bits hold them
abbrev pub sum : ℕ → ℕ → ℕ
sum a b = (a + b) % W

abbrev pub difference : ℕ → ℕ → ℕ
difference a b = (a + (W - b)) % W

-- CY: a sum's carry out of bit 31, a difference's borrow
abbrev pub carry : ℕ → ℕ → Bool
carry a b = nat_le W (a + b)

abbrev pub borrowed : ℕ → ℕ → Bool
borrowed a b = nat_lt a b

-- ADD: a + b
unfoldable pub add : ℕ → ℕ → Computed
add a b = computed (sum a b) (overflow (signed a +ℤ signed b)) (carry a b)

-- SUB: a - b
unfoldable pub sub : ℕ → ℕ → Computed
sub a b = computed (difference a b) (overflow (signed a -ℤ signed b)) (borrowed a b)

-- SATADD, SATSUB: the nearest word is stored; Z and S speak of it, OV and CY of the exact result
unfoldable pub satadd : ℕ → ℕ → Computed
satadd a b = computed (word_of (nearest (signed a +ℤ signed b))) (overflow (signed a +ℤ signed b)) (carry a b)

unfoldable pub satsub : ℕ → ℕ → Computed
satsub a b = computed (word_of (nearest (signed a -ℤ signed b))) (overflow (signed a -ℤ signed b)) (borrowed a b)
