-- The flags and the conditions as words that list the 32 settings of PSW bits 0 to 4: bit n stands for setting n.
use Rattle.std.specs.Prelude.{ℕ, ◌-◌, ◌^◌, List, slice_index_or, bit_or, bit_xor}
use Rattle.word.specs.declared.flags.Sets.{Sets}
use Rattle.word.specs.Flags.{conditions}

-- a flag, by the settings in which it is 1
abbrev pub flag : ℕ → Sets
flag n = record { true_in = n; read_in = n }

-- what joins them: their truth as in `holds`, and what is looked at as in `reads`
abbrev pub either : Sets → Sets → Sets
either a b = record { true_in = bit_or a.true_in b.true_in; read_in = bit_or a.read_in b.read_in }

abbrev pub differ : Sets → Sets → Sets
differ a b = record { true_in = bit_xor a.true_in b.true_in; read_in = bit_or a.read_in b.read_in }

abbrev pub flip : Sets → Sets
flip a = record { true_in = 2 ^ 32 - 1 - a.true_in; read_in = a.read_in }

-- the conditions' list, of the flags Z, S, OV, CY and SAT
unfoldable pub table : List Sets
table =
    conditions either differ flip (flip (flag 0))
    (flag 0xAAAAAAAA)
    (flag 0xCCCCCCCC)
    (flag 0xF0F0F0F0)
    (flag 0xFF00FF00)
    (flag 0xFFFF0000)

-- condition k
abbrev pub sets_of : ℕ → Sets
sets_of k = slice_index_or table k (flag 0)
