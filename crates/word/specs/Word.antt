-- Words of 32 bits: numbers below 2 ^ 32, how they are read as signed numbers, and the flags that speak of a result.
use Rattle.std.specs.Prelude.{ℕ, ◌-◌, ◌%◌, ◌^◌, Bool, cond, ◌||◌, ℤ, pos, negsuc, ◌==◌, int_lt, nat_le}
use Rattle.std.specs.Int.{w16, w32}
use Rattle.std.proofs.Common.{to_z, of_z}
use Rattle.word.specs.declared.Computed.{Computed}

-- how many words there are
abbrev pub W : ℕ
W = 2 ^ 32

-- a word, and its low half, read as a signed number in two's complement
abbrev pub signed : ℕ → ℤ
signed a = to_z w32 a

abbrev pub signed_half : ℕ → ℤ
signed_half a = to_z w16 (a % 2 ^ 16)

-- the word of a signed number
abbrev pub word_of : ℤ → ℕ
word_of z = of_z w32 z

-- the greatest signed word, 7FFFFFFFH, and the least, 80000000H
abbrev pub greatest : ℤ
greatest = pos (2 ^ 31 - 1)

abbrev pub least : ℤ
least = negsuc (2 ^ 31 - 1)

-- OV: an exact result is no signed word
unfoldable pub overflow : ℤ → Bool
overflow z = int_lt greatest z || int_lt z least

-- the signed word that is nearest to an exact result
unfoldable pub nearest : ℤ → ℤ
nearest z = cond (int_lt greatest z) greatest (cond (int_lt z least) least z)

-- Z and S of a result
abbrev pub zero? : ℕ → Bool
zero? r = r == 0

abbrev pub negative? : ℕ → Bool
negative? r = nat_le (2 ^ 31) r

-- a result, with Z and S of it and the given OV and CY
abbrev pub computed : ℕ → Bool → Bool → Computed
computed r ov cy = record { result = r; z = zero? r; s = negative? r; ov = ov; cy = cy }
