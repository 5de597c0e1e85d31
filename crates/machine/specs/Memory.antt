-- Bytes, halfwords and words of memory, little-endian, and the bits of a byte.
use Rattle.std.specs.Prelude.{Bool, true, false, List, [], ◌∷◌, ℕ, ◌+◌, ◌-◌, ◌*◌, ◌/◌, ◌%◌, ◌^◌}
use Rattle.std.specs.Int.Bits.{bit_and, bit_or, bit_xor}
use Rattle.word.specs.Extend.{sign_extend, sum24}
use Rattle.insn.specs.declared.Size.{Size}
use Rattle.insn.specs.declared.Size.TheVariants.{Byte, Half, Word}
use Rattle.insn.specs.declared.BitOp.{BitOp}
use Rattle.insn.specs.declared.BitOp.TheVariants.{Set1, Not1, Clr1, Tst1}
use Rattle.machine.specs.declared.Tv.{Tv}
use Rattle.machine.specs.Marked.{lift1, Cells, cell, put}

abbrev pub width : Size → ℕ
width Byte = 1
width Half = 2
width Word = 4

-- an operand's address: base and displacement, by their low 24 bits, and its low bits cleared
abbrev pub aligned : Size → ℕ → ℕ
aligned s a = a / width s * width s

abbrev pub address : Size → ℕ → ℕ → ℕ
address s a d = aligned s (sum24 a d)

-- the bytes from place p on
unfoldable pub bytes_at : Cells → ℕ → Size → List Tv
bytes_at m p Byte = cell m p ∷ []
bytes_at m p Half = cell m p ∷ cell m (p + 1) ∷ []
bytes_at m p Word = cell m p ∷ cell m (p + 1) ∷ cell m (p + 2) ∷ cell m (p + 3) ∷ []

-- their number, and the word that a load makes of it
unfoldable pub little_endian : List ℕ → ℕ
little_endian [] = 0
little_endian (b ∷ bs) = b + 2 ^ 8 * little_endian bs

unfoldable pub extended : Size → List ℕ → ℕ
extended Byte bs = sign_extend 8 (little_endian bs)
extended Half bs = sign_extend 16 (little_endian bs)
extended Word bs = little_endian bs

-- byte k of a value, and a value's low bytes written from place p on, each with the value's mark
abbrev pub byte_of : ℕ → Tv → Tv
byte_of k v = lift1 (λ w. w / 2 ^ (8 * k) % 2 ^ 8) v

unfoldable pub put_bytes : Size → ℕ → Tv → Cells → Cells
put_bytes Byte p v m = put p (byte_of 0 v) m
put_bytes Half p v m = put (p + 1) (byte_of 1 v) (put p (byte_of 0 v) m)
put_bytes Word p v m = put (p + 3) (byte_of 3 v) (put (p + 2) (byte_of 2 v) (put (p + 1) (byte_of 1 v) (put p (byte_of 0 v) m)))

-- what a bit instruction makes of a byte, and whether it only tests
unfoldable pub changed : BitOp → ℕ → ℕ → ℕ
changed Set1 n b = bit_or b (2 ^ n)
changed Not1 n b = bit_xor b (2 ^ n)
changed Clr1 n b = bit_and b (2 ^ 8 - 1 - 2 ^ n)
changed Tst1 n b = b

abbrev pub tests : BitOp → Bool
tests Set1 = false
tests Not1 = false
tests Clr1 = false
tests Tst1 = true
