-- The flags as the code writes them: the sum of what is computed and of the bits that stay, for values and for marks alike; and before the register.
use mathlib.Core.Path.{◌≡◌, refl, sym, ap, ap₂, ◌∙◌}
use mathlib.Core.Bool.{Bool, true, false, cond, ◌||◌}
use mathlib.Core.List.{List}
use Prim.Native.Nat.{ℕ, zero, suc, ◌+◌, ◌*◌, ◌/◌, ◌%◌, ◌^◌, ◌<◌}
use native.Mathlib.Omega.{arith}
use lib.Bits.{bit_or}
use lib.Dec.{eqb}
use lib.ListN.{get_or, set}
use lib.Pow.{shr-shr, mod-pow-add}
use lib.Seq.{set_comm, get_or-set_other}
use Rattle.word.specs.declared.Computed.{Computed}
use Rattle.word.specs.Shifts.{bit}
use Rattle.word.specs.Flags.{Flags, unpacked, packed}
use Rattle.word.specs.FlagLaws.{packed-unpacked, unpacked_low}
use Rattle.machine.specs.declared.Kind.{Kind}
use Rattle.machine.specs.declared.Kind.TheVariants.{Quiet, Logic, Mask, Shift, Divide, Arith, Saturate}
use Rattle.machine.specs.declared.Tv.{Tv}
use Rattle.machine.specs.Marked.{Cells, both, put, mark_of}
use Rattle.machine.specs.Psw.{REGS, PSW, sys, put_reg, rules_of, follow_all, told, every_flag, quiet, set_flags, with_z, set_z}

-- one bit where it stands, and the bits from j on as bit j and those above it
worth : (p r : ℕ) → r < 2 → cond (eqb r 1) p 0 ≡ r * p
worth p zero h = omega arith
worth p (suc zero) h = omega arith
worth p (suc (suc r)) h = omega arith

one : (j n : ℕ) → cond (bit j n) (2 ^ j) 0 ≡ n / 2 ^ j % 2 * 2 ^ j
one j n = worth (2 ^ j) (n / 2 ^ j % 2) (omega arith)

more : (m j n : ℕ) → n / 2 ^ j % 2 ^ (m + 1) ≡ n / 2 ^ (j + 1) % 2 ^ m * 2 + n / 2 ^ j % 2
more m j n = mod-pow-add (n / 2 ^ j) m 1 ∙ ap (λ (x : ℕ). x % 2 ^ m * 2 + n / 2 ^ j % 2) (shr-shr n j 1)

-- the bits that stay: SAT; CY and SAT; all but Z; all
from4 : (n : ℕ) → n / 16 % 2 * 16 ≡ cond (bit 4 n) 16 0
from4 n = sym (one 4 n)

from3 : (n : ℕ) → n / 8 % 4 * 8 ≡ cond (bit 3 n) 8 0 + cond (bit 4 n) 16 0
from3 n = omega (arith, more 1 3 n, one 3 n, one 4 n)

from1 : (n : ℕ) → n / 2 % 16 * 2 ≡ cond (bit 1 n) 2 0 + cond (bit 2 n) 4 0 + (cond (bit 3 n) 8 0 + cond (bit 4 n) 16 0)
from1 n = omega (arith, more 3 1 n, more 2 2 n, from3 n, one 1 n, one 2 n)

from0 : (n : ℕ) → n % 32 ≡ packed (unpacked n)
from0 n = sym (packed-unpacked (n % 32) (omega arith)) ∙ ap packed (unpacked_low n)

-- What an operation of each family writes: the flags that it computes, and those that stay. Quiet ones compute none, Saturate raises SAT.
abbrev pub new : Kind → Flags → ℕ
new Quiet f = 0
new Logic f = cond f.z 1 0 + cond f.s 2 0
new Mask f = cond f.z 1 0
new Shift f = cond f.z 1 0 + cond f.s 2 0 + cond f.cy 8 0
new Divide f = cond f.z 1 0 + cond f.s 2 0 + cond f.ov 4 0
new Arith f = cond f.z 1 0 + cond f.s 2 0 + cond f.ov 4 0 + cond f.cy 8 0
new Saturate f = cond f.z 1 0 + cond f.s 2 0 + cond f.ov 4 0 + cond f.cy 8 0

abbrev pub stay : Kind → Flags → ℕ → ℕ
stay Quiet f n = n % 32
stay Logic f n = n / 8 % 4 * 8
stay Mask f n = n / 8 % 4 * 8
stay Shift f n = n / 16 % 2 * 16
stay Divide f n = n / 8 % 4 * 8
stay Arith f n = n / 16 % 2 * 16
stay Saturate f n = cond (bit 4 n || f.sat) 16 0

follows : (k : Kind) (f : Flags) (n : ℕ) → new k f + stay k f n ≡ packed (follow_all (rules_of k) (unpacked n) f)
unfolding rules_of
follows Quiet f n = omega (arith, from0 n)
follows Logic f n = omega (arith, from3 n)
follows Mask f n = omega (arith, from3 n)
follows Shift f n = omega (arith, from4 n)
follows Divide f n = omega (arith, from3 n)
follows Arith f n = omega (arith, from4 n)
follows Saturate f n = refl

-- of marks: the computed flags all have the one mark
all : (k : Kind) (b : Bool) → cond b (new k (every_flag true)) 0 ≡ new k (every_flag b)
all k true = refl
all Quiet false = refl
all Logic false = refl
all Mask false = refl
all Shift false = refl
all Divide false = refl
all Arith false = refl
all Saturate false = refl

-- where nothing is marked, and nothing becomes so, the marks are 0 after as before
pub none : (k : Kind) {mark : Bool} {n : ℕ} → mark ≡ false → n ≡ 0 → cond mark (new k (every_flag true)) 0 + stay k (every_flag mark) n ≡ 0
none k e z = ap₂ (λ (b : Bool) (x : ℕ). cond b (new k (every_flag true)) 0 + stay k (every_flag b) x) e z ∙ at_rest k
  where
    at_rest : (l : Kind) → 0 + stay l (every_flag false) 0 ≡ 0
    at_rest Quiet = refl
    at_rest Logic = refl
    at_rest Mask = refl
    at_rest Shift = refl
    at_rest Divide = refl
    at_rest Arith = refl
    at_rest Saturate = refl

-- OV, and SAT as an operation raises it, written together
pub raised : (b : Bool) (x y n : ℕ) → x + y + bit_or (n / 16 % 2 * 16) (cond b 20 0) ≡ x + cond b 4 0 + y + cond (bit 4 n || b) 16 0
raised b x y n = omega (arith, at-bit b (n / 16 % 2) (omega arith))
  where
    at-bit : (t : Bool) (r : ℕ) → r < 2 → bit_or (r * 16) (cond t 20 0) ≡ cond t 4 0 + cond (eqb r 1 || t) 16 0
    at-bit true zero h = refl
    at-bit false zero h = refl
    at-bit true (suc zero) h = refl
    at-bit false (suc zero) h = refl
    at-bit t (suc (suc r)) h = omega arith

-- the flags' cells after an operation that sets flags
pub set_flags_lem : (k : Kind) → quiet k ≡ false → (a : Computed) (mark : Bool) (c : Cells) →
    both (set c.nums (sys PSW) (new k (told a) + stay k (told a) (get_or c.nums (sys PSW) 0)))
    (set c.marks (sys PSW) (cond mark (new k (every_flag true)) 0 + stay k (every_flag mark) (get_or c.marks (sys PSW) 0)))
    ≡ set_flags k a mark c
unfolding set_flags
set_flags_lem k q a mark c =
    rw q
    (ap₂ (λ (x y : ℕ). both (set c.nums (sys PSW) x) (set c.marks (sys PSW) y))
    (follows k (told a) _)
    (ap (λ (x : ℕ). x + stay k (every_flag mark) (get_or c.marks (sys PSW) 0)) (all k mark) ∙ follows k (every_flag mark) _))

pub no_z : {mark : Bool} {n : ℕ} → mark ≡ false → n ≡ 0 → cond mark 1 0 + n / 2 % 16 * 2 ≡ 0
no_z e z = ap₂ (λ (b : Bool) (x : ℕ). cond b 1 0 + x / 2 % 16 * 2) e z

pub set_z_lem : (z mark : Bool) (c : Cells) →
    both (set c.nums (sys PSW) (cond z 1 0 + get_or c.nums (sys PSW) 0 / 2 % 16 * 2))
    (set c.marks (sys PSW) (cond mark 1 0 + get_or c.marks (sys PSW) 0 / 2 % 16 * 2))
    ≡ set_z z mark c
unfolding set_z
set_z_lem z mark c = ap₂ (λ (x y : ℕ). both (set c.nums (sys PSW) x) (set c.marks (sys PSW) y)) (with_z_lem z _) (with_z_lem mark _)
  where
    with_z_lem : (b : Bool) (n : ℕ) → cond b 1 0 + n / 2 % 16 * 2 ≡ packed (with_z b (unpacked n))
    with_z_lem b n = omega (arith, from1 n)

-- The flags may be written before the register, as they lie in another cell
elsewhere : (l : List ℕ) (i x : ℕ) (f : ℕ → ℕ) → i < REGS → set (set l (sys PSW) (f (get_or l (sys PSW) 0))) i x ≡ set (set l i x) (sys PSW) (f (get_or (set l i x) (sys PSW) 0))
elsewhere l i x f h =
    set_comm l (sys PSW) i _ x (λ e. omega (arith, e)) ∙ ap (λ (n : ℕ). set (set l i x) (sys PSW) (f n)) (sym (get_or-set_other l i (sys PSW) x 0 (λ e. omega (arith, e))))

pub flags_first : (k : Kind) (a : Computed) (mark : Bool) (r : ℕ) (v : Tv) (c : Cells) → put_reg r v (set_flags k a mark c) ≡ set_flags k a mark (put_reg r v c)
unfolding put_reg set_flags
flags_first k a mark r v c = go (quiet k) (eqb (r % REGS) 0)
  where
    F : ℕ → ℕ
    F n = packed (follow_all (rules_of k) (unpacked n) (told a))

    G : ℕ → ℕ
    G n = packed (follow_all (rules_of k) (unpacked n) (every_flag mark))

    Flagged : Cells → Cells
    Flagged d = both (set d.nums (sys PSW) (F (get_or d.nums (sys PSW) 0))) (set d.marks (sys PSW) (G (get_or d.marks (sys PSW) 0)))

    go : (q z : Bool) → cond z (cond q c (Flagged c)) (put (r % REGS) v (cond q c (Flagged c))) ≡ cond q (cond z c (put (r % REGS) v c)) (Flagged (cond z c (put (r % REGS) v c)))
    go true true = refl
    go true false = refl
    go false true = refl
    go false false = ap₂ both (elsewhere c.nums (r % REGS) v.val F (omega arith)) (elsewhere c.marks (r % REGS) (mark_of v.mark) G (omega arith))
