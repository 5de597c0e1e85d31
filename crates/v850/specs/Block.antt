-- The block of 236 bytes, 59 little-endian words, and the report. Their layout is said here, once: taken apart, and put together.
use Rattle.std.specs.Prelude.{Bool, ◌&&◌, List, [], ◌∷◌, ◌++◌, ℕ, zero, suc, ◌+◌, ◌*◌, ◌/◌, ◌%◌, ◌^◌, eqb, ltb, leb, get_or, take, drop}
use Rattle.machine.specs.declared.Open.{Open}
use Rattle.machine.specs.Marked.{Cells, both}
use Rattle.machine.specs.Psw.{REGS, sys, EIPC, EIPSW, FEPC, FEPSW, psw}
use Rattle.machine.specs.WellFormed.{good_code}

-- Words as bytes, and bytes as words
abbrev pub bytes_of_word : ℕ → List ℕ
bytes_of_word w = w % 2 ^ 8 ∷ w / 2 ^ 8 % 2 ^ 8 ∷ w / 2 ^ 16 % 2 ^ 8 ∷ w / 2 ^ 24 % 2 ^ 8 ∷ []

unfoldable pub bytes_of : List ℕ → List ℕ
bytes_of [] = []
bytes_of (w ∷ ws) = bytes_of_word w ++ bytes_of ws

abbrev pub word_at : List ℕ → ℕ → ℕ
word_at b i = get_or b (4 * i) 0 + 2 ^ 8 * (get_or b (4 * i + 1) 0 + 2 ^ 8 * (get_or b (4 * i + 2) 0 + 2 ^ 8 * get_or b (4 * i + 3) 0))

-- the n words from word i on
unfoldable pub words_from : List ℕ → ℕ → ℕ → List ℕ
words_from b i zero = []
words_from b i (suc n) = word_at b i ∷ words_from b (suc i) n

-- How many bytes and words there are, and which word is which. Words 0 to 31 are r0 to r31
abbrev pub BYTES : ℕ
BYTES = 236

abbrev pub WORDS : ℕ
WORDS = 59

abbrev pub at_pc : ℕ
at_pc = 32

abbrev pub at_psw : ℕ
at_psw = 33

abbrev pub at_eipc : ℕ
at_eipc = 34

abbrev pub at_eipsw : ℕ
at_eipsw = 35

abbrev pub at_fepc : ℕ
at_fepc = 36

abbrev pub at_fepsw : ℕ
at_fepsw = 37

abbrev pub at_ecr : ℕ
at_ecr = 38

abbrev pub at_code : ℕ
at_code = 39

-- bytes halted, NMI pending, 0, 0
abbrev pub at_waits : ℕ
at_waits = 40

-- bit n for rn
abbrev pub at_reg_marks : ℕ
at_reg_marks = 41

-- bytes of marks of PSW, EIPSW, FEPSW, and one with bit 0 for EIPC and bit 1 for FEPC
abbrev pub at_sys_marks : ℕ
at_sys_marks = 42

-- sixteen words, to the block's end
abbrev pub at_map : ℕ
at_map = 43

abbrev pub MAP_WORDS : ℕ
MAP_WORDS = 16

-- The report: how many bytes there are, and which word is which
abbrev pub REPORT : ℕ
REPORT = 8

abbrev pub at_steps : ℕ
at_steps = 0

abbrev pub at_place : ℕ
at_place = 1

abbrev pub report_of : (steps place : ℕ) → List ℕ
report_of steps place = bytes_of (steps ∷ place ∷ [])

-- byte k of a word
abbrev pub byte : ℕ → ℕ → ℕ
byte k w = w / 2 ^ (8 * k) % 2 ^ 8

-- Taken apart, from the list of words
abbrev pub map_in : List ℕ → List ℕ
map_in ws = drop at_map ws

abbrev pub core_in : List ℕ → Open
core_in ws =
    record {
      pc = get_or ws at_pc 0;
      np = get_or ws at_psw 0 / 2 ^ 7 % 2;
      ep = get_or ws at_psw 0 / 2 ^ 6 % 2;
      id = get_or ws at_psw 0 / 2 ^ 5 % 2;
      ecr = get_or ws at_ecr 0;
      code = get_or ws at_code 0;
      nmi = byte 1 (get_or ws at_waits 0);
      halted = byte 0 (get_or ws at_waits 0);
    }

-- n bits of a word from bit i on, each as a mark
unfoldable pub bits_from : ℕ → ℕ → ℕ → List ℕ
bits_from w i zero = []
bits_from w i (suc n) = w / 2 ^ i % 2 ∷ bits_from w (suc i) n

-- cells: r0 to r31, then by system number EIPC, EIPSW, FEPC, FEPSW, nothing for ECR, the flags of PSW
abbrev pub nums_in : List ℕ → List ℕ
nums_in ws =
    take REGS ws ++ (get_or ws at_eipc 0 ∷ get_or ws at_eipsw 0 ∷ get_or ws at_fepc 0 ∷ get_or ws at_fepsw 0 ∷ 0 ∷ get_or ws at_psw 0 % 2 ^ 5 ∷ [])

abbrev pub marks_in : List ℕ → List ℕ
marks_in ws =
    bits_from (get_or ws at_reg_marks 0) 0 REGS
    ++ (byte 3 (get_or ws at_sys_marks 0) % 2 ∷ byte 1 (get_or ws at_sys_marks 0) ∷ byte 3 (get_or ws at_sys_marks 0) / 2 % 2
    ∷ byte 2 (get_or ws at_sys_marks 0) ∷ 0 ∷ byte 0 (get_or ws at_sys_marks 0) % 2 ^ 5 ∷ [])

abbrev pub cells_in : List ℕ → Cells
cells_in ws = both (nums_in ws) (marks_in ws)

-- Put together
unfoldable pub pack_bits : List ℕ → ℕ
pack_bits [] = 0
pack_bits (b ∷ bs) = b + 2 * pack_bits bs

abbrev pub words_of : Open → Cells → List ℕ → List ℕ
words_of o c map =
    take REGS c.nums
    ++ (o.pc ∷ (psw o c).on
    ∷ get_or c.nums (sys EIPC) 0 ∷ get_or c.nums (sys EIPSW) 0 ∷ get_or c.nums (sys FEPC) 0 ∷ get_or c.nums (sys FEPSW) 0
    ∷ o.ecr ∷ o.code ∷ (o.halted + 2 ^ 8 * o.nmi)
    ∷ pack_bits (take REGS c.marks)
    ∷ ((psw o c).marks + 2 ^ 8 * get_or c.marks (sys EIPSW) 0 + 2 ^ 16 * get_or c.marks (sys FEPSW) 0
    + 2 ^ 24 * (get_or c.marks (sys EIPC) 0 + 2 * get_or c.marks (sys FEPC) 0))
    ∷ map)

-- STATE: the tests, in the order of the order
unfoldable pub good_state : List ℕ → Bool
good_state ws =
    eqb (get_or ws 0 0) 0 && (eqb (get_or ws at_reg_marks 0 % 2) 0
    && (eqb (get_or ws at_pc 0 % 2) 0 && (leb (get_or ws at_pc 0) 0xFFFFFE
    && (leb (get_or ws at_psw 0) 0xFF && (leb (get_or ws at_eipsw 0) 0xFF && (leb (get_or ws at_fepsw 0) 0xFF
    && (leb (get_or ws at_eipc 0) 0xFFFFFF && (leb (get_or ws at_fepc 0) 0xFFFFFF
    && (good_code (get_or ws at_code 0)
    && (leb (byte 0 (get_or ws at_waits 0)) 1 && (leb (byte 1 (get_or ws at_waits 0)) 1
    && (eqb (byte 2 (get_or ws at_waits 0)) 0 && (eqb (byte 3 (get_or ws at_waits 0)) 0
    && (ltb (byte 0 (get_or ws at_sys_marks 0)) (2 ^ 5) && leb (byte 3 (get_or ws at_sys_marks 0)) 3))))))))))))))
