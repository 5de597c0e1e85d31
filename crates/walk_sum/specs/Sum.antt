-- The sum of a walk.
use Rattle.std.specs.Prelude.{ℕ, ◌+◌, ◌-◌, ◌*◌, ◌%◌, ◌^◌, List, ◌++◌, length, replicate, false}
use Prim.Native.Char.{code}
use Rattle.std.specs.Fmt.{digits}

abbrev pub FACTOR : ℕ
FACTOR = 1664525

-- a sum with a number taken in
abbrev pub mixed : ℕ → ℕ → ℕ
mixed sum n = (sum * FACTOR + n) % 2 ^ 32

-- how many digits a sum is shown by
abbrev pub DIGITS : ℕ
DIGITS = 8

-- a sum in hex, with zeros in front
abbrev pub shown : ℕ → List ℕ
shown sum = replicate (DIGITS - length (digits 16 false sum)) (code "0") ++ digits 16 false sum
