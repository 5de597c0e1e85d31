-- Shifts by the low five bits of n. CY is the last bit shifted out, and 0 for a shift by 0; OV is 0.
use Rattle.std.specs.Prelude.{ℕ, ◌-◌, ◌*◌, ◌/◌, ◌%◌, ◌^◌, Bool, false, cond, ◌==◌}
use Rattle.std.specs.Int.Signed.{shr_z}
use Rattle.word.specs.declared.Computed.{Computed}
use Rattle.word.specs.Word.{W, signed, word_of, computed}

abbrev pub places : ℕ → ℕ
places n = n % 32

-- bit k of a number
abbrev pub bit : ℕ → ℕ → Bool
bit k a = a / 2 ^ k % 2 == 1

unfoldable pub out_right : ℕ → ℕ → Bool
out_right a n = cond (n == 0) false (bit (n - 1) a)

unfoldable pub out_left : ℕ → ℕ → Bool
out_left a n = cond (n == 0) false (bit (32 - n) a)

-- SHR fills with zeros, SAR with the sign
unfoldable pub shr : ℕ → ℕ → Computed
shr a n = computed (a / 2 ^ places n) false (out_right a (places n))

unfoldable pub sar : ℕ → ℕ → Computed
sar a n = computed (word_of (shr_z (signed a) (2 ^ places n))) false (out_right a (places n))

unfoldable pub shl : ℕ → ℕ → Computed
shl a n = computed (a * 2 ^ places n % W) false (out_left a (places n))
