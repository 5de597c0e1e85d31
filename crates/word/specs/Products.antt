-- MULH and DIVH: signed, and by low halves.
use Rattle.std.specs.Prelude.{ℕ, ◌%◌, ◌^◌, true, false, cond, ◌*ℤ◌, ◌==◌, int_div}
use Rattle.word.specs.declared.Computed.{Computed}
use Rattle.word.specs.Word.{signed, signed_half, word_of, overflow, computed}

-- MULH: the product of the low halves
unfoldable pub mulh : ℕ → ℕ → ℕ
mulh a b = word_of (signed_half a *ℤ signed_half b)

-- DIVH: a by the low half of b, truncated toward zero. DIVH keeps CY, so the cy here is never stored.
-- House rule: a zero divisor leaves a, with OV 1, S 0, Z 0.
unfoldable pub divh : ℕ → ℕ → Computed
divh a b =
    cond (b % 2 ^ 16 == 0)
    (record { result = a; z = false; s = false; ov = true; cy = false })
    (computed (word_of (int_div (signed a) (signed_half b))) (overflow (int_div (signed a) (signed_half b))) false)
