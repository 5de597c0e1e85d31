-- Text in ASCII: names, and numbers in decimal and in hex.
use Rattle.std.specs.Prelude.{◌≡◌, cond, List, [], ◌∷◌, ◌++◌, ℕ, zero, suc, ◌+◌, ◌-◌, ◌/◌, ◌%◌, ltb, leb, ◌||◌, length}
use Prim.Native.Char.{code}
use Prim.Native.String.{String}
use Prim.Native.String.{[] as empty, ◌∷◌ as ◌then◌}
use Rattle.std.proofs.lemmas.List.Edits.{sets}

-- a text as the codes of its characters
abbrev pub ascii : String → List ℕ
ascii empty = []
ascii (c then s) = code c ∷ ascii s

-- a digit below 16: 0 to 9, then A to F
unfoldable pub glyph : ℕ → ℕ
glyph d = cond (ltb d 10) (code "0" + d) (code "A" + (d - 10))

-- the last k digits of n in base 16, the highest first
unfoldable pub hex : ℕ → ℕ → List ℕ
hex zero n = []
hex (suc k) n = hex k (n / 16) ++ (glyph (n % 16) ∷ [])

-- n in decimal with no zeros in front, where k digits hold it
unfoldable pub decimal_in : ℕ → ℕ → List ℕ
decimal_in zero n = []
decimal_in (suc k) n = cond (ltb n 10) (glyph n ∷ []) (decimal_in k (n / 10) ++ (glyph (n % 10) ∷ []))

-- ten digits hold every word
abbrev pub DIGITS : ℕ
DIGITS = 10

abbrev pub decimal : ℕ → List ℕ
decimal n = decimal_in DIGITS n

-- The digits of n in a base, the highest first: at least `least`, with zeros in front, and the last `most` at most
unfoldable pub digits : (base least most n : ℕ) → List ℕ
digits base least zero n = []
digits base least (suc most) n =
    cond (leb base n || ltb 1 least) (digits base (least - 1) most (n / base)) [] ++ (glyph (n % base) ∷ [])

-- What a function that writes leaves: the text stands from `at` on, all else is as it was, and the next place follows the text
pub record Wrote (before : List ℕ) (at : ℕ) (text after : List ℕ) (next : ℕ) : Type 0 where
  pub bytes : after ≡ sets before at text
  pub place : next ≡ at + length text
