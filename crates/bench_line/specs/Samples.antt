-- The order's two lines, and some numbers as text.
use Rattle.std.specs.Prelude.{◌≡◌, refl, List, [], ◌∷◌, ℕ, ◌<◌, length}
use Rattle.std.proofs.lemmas.Bool.{lt-leb}
use Rattle.word.specs.Word.{overflow, nearest}
use Rattle.word.specs.Sums.{add, sub}
use Rattle.word.specs.Extend.{by_sign}
use Rattle.word.specs.Flags.{conditions, holds, reads}
use Rattle.insn.specs.Coding.{reg_op, imm5_op, decode_extended, decode_fields, decode}
use Rattle.machine.specs.Psw.{put_reg, rules_of, set_flags, condition}
use Rattle.machine.specs.Regions.{covers, find_from, good_region, separate, good_map}
use Rattle.machine.specs.Memory.{bytes_at, little_endian, extended}
use Rattle.machine.specs.Operations.{operation, of_reg, of_imm5, operate}
use Rattle.machine.specs.Step.{reveal, place, bcond, exec, execute, fetch, instruction, nmi_accepted, code_accepted, take_nmi, take_code, step}
use Rattle.machine.specs.Run.{carry, run}
use Rattle.v850.specs.Block.{bytes_of, words_from, bits_from, pack_bits, good_state}
use Rattle.v850.specs.Entry.{called}
use Rattle.bench_line.specs.Text.{ascii, glyph, hex, decimal_in, decimal}
use Rattle.bench_line.specs.Line.{IMAGE, ran, line}

-- The order's sample
pub sample : line (0x05 ∷ 0x52 ∷ 0x5F ∷ 0x52 ∷ 0xFA ∷ 0xFD ∷ 0xE0 ∷ 0x07 ∷ 0x20 ∷ 0x01 ∷ []) ≡ ascii "answer=4 steps=12 pc=00000A psw=29 place=000000\n"
unfolding overflow nearest add sub by_sign conditions holds reads reg_op imm5_op decode_extended decode_fields decode put_reg rules_of set_flags condition covers find_from good_region separate good_map bytes_at little_endian extended operation of_reg of_imm5 operate reveal place bcond exec execute fetch instruction nmi_accepted code_accepted take_nmi take_code step carry run bytes_of words_from bits_from pack_bits good_state called glyph hex decimal_in ran line
sample = refl

-- A longer input, whatever it is
pub too_long : (input : List ℕ) → IMAGE < length input → line input ≡ ascii "answer=1 steps=0 pc=000000 psw=20 place=000000\n"
unfolding bytes_of pack_bits glyph hex decimal_in ran line
too_long input h = rw (lt-leb (length input) IMAGE h)

-- Numbers: no zero in front in decimal, and all digits of hex
pub numbers : decimal 0 ∷ decimal 9 ∷ decimal 10 ∷ decimal 1000 ∷ decimal 0xFFFFFFFF ∷ hex 2 0x29 ∷ hex 6 0xBCDEF ∷ []
    ≡ ascii "0" ∷ ascii "9" ∷ ascii "10" ∷ ascii "1000" ∷ ascii "4294967295" ∷ ascii "29" ∷ ascii "0BCDEF" ∷ []
unfolding glyph hex decimal_in
numbers = refl
