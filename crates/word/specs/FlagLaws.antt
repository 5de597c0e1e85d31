-- Laws of the five flags as the low bits of PSW, and of the conditions over them.
use Rattle.std.specs.Prelude.{◌≡◌, ℕ, ◌+◌, ◌/◌, ◌%◌, ◌^◌, ◌<◌, ◌≤◌, Bool, true, false, not, ◌||◌, T, List, map, get_or, nat_eq, nat_lt, slice_index_or, refl}
use Rattle.std.proofs.Common.{sym, ap, ap₂, ◌∙◌, eqb→eq, ltb→lt}
use Rattle.std.specs.Bool.{beq}
use Rattle.std.proofs.Math.Pow.{field, mod-mod-pow}
use Rattle.std.proofs.Math.ListN.{get_or-map, get_or-eq_default}
use Rattle.word.specs.Shifts.{bit}
use Rattle.word.specs.Flags.{Flags, unpacked, packed, xor, conditions, holds, reads}
use Rattle.word.specs.Tests.{both_false, beq→eq, below_at, either_way, either_way-at}

-- a test at all 32 settings of the flags
abbrev every : (Flags → Bool) → Bool
every p =
    either_way (λ z. either_way (λ s. either_way (λ ov. either_way (λ cy. either_way (λ sat.
    p (record { z = z; s = s; ov = ov; cy = cy; sat = sat }))))))

every_at : (p : Flags → Bool) → T (every p) → (f : Flags) → T (p f)
every_at p t f =
    either_way-at _ (either_way-at _ (either_way-at _ (either_way-at _ (either_way-at _ t f.z) f.s) f.ov) f.cy) f.sat

agree : (p q : Flags → Bool) → T (every (λ f. beq (p f) (q f))) → (f : Flags) → p f ≡ q f
agree p q t f = beq→eq (p f) (q f) (every_at (λ g. beq (p g) (q g)) t f)

pub packed_lt : (f : Flags) → packed f < 32
unfolding either_way
packed_lt f = ltb→lt (packed f) 32 (every_at (λ g. nat_lt (packed g) 32) tt f)

pub unpacked-packed : (f : Flags) → unpacked (packed f) ≡ f
unfolding either_way
unpacked-packed f =
    λ i. record {
      z = agree (λ g. bit 0 (packed g)) (λ g. g.z) tt f i;
      s = agree (λ g. bit 1 (packed g)) (λ g. g.s) tt f i;
      ov = agree (λ g. bit 2 (packed g)) (λ g. g.ov) tt f i;
      cy = agree (λ g. bit 3 (packed g)) (λ g. g.cy) tt f i;
      sat = agree (λ g. bit 4 (packed g)) (λ g. g.sat) tt f i;
    }

pub packed-unpacked : (n : ℕ) → n < 32 → packed (unpacked n) ≡ n
packed-unpacked n h = eqb→eq (packed (unpacked n)) n (below_at 32 (λ k. nat_eq (packed (unpacked k)) k) tt n h)

-- bit j of a number's low bits, where these go beyond j
pub bit_low : (m j n : ℕ) → bit j (n % 2 ^ (m + 1 + j)) ≡ bit j n
bit_low m j n = ap (λ (x : ℕ). nat_eq x 1) (ap (λ (x : ℕ). x % 2) (field n (m + 1) j) ∙ mod-mod-pow (n / 2 ^ j) m 1)

-- the flags of PSW stand in its five low bits
pub unpacked_low : (n : ℕ) → unpacked (n % 32) ≡ unpacked n
unpacked_low n =
    λ i. record { z = bit_low 4 0 n i; s = bit_low 3 1 n i; ov = bit_low 2 2 n i; cy = bit_low 1 3 n i; sat = bit_low 0 4 n i }

-- there is no condition past 15
pub holds-past : (k : ℕ) → 16 ≤ k → (f : Flags) → holds k f ≡ false
unfolding holds conditions
holds-past k h f = get_or-eq_default (conditions ◌||◌ xor not true f.z f.s f.ov f.cy f.sat) false h

pub reads-past : (k : ℕ) → 16 ≤ k → (f : Flags) → reads k f ≡ false
unfolding reads conditions
reads-past k h f = get_or-eq_default (conditions ◌||◌ ◌||◌ (λ x. x) false f.z f.s f.ov f.cy f.sat) false h

-- the flags f and g agree wherever m is false
pub record AgreeOff (m f g : Flags) : Type 0 where
  pub z : m.z ≡ false → f.z ≡ g.z
  pub s : m.s ≡ false → f.s ≡ g.s
  pub ov : m.ov ≡ false → f.ov ≡ g.ov
  pub cy : m.cy ≡ false → f.cy ≡ g.cy
  pub sat : m.sat ≡ false → f.sat ≡ g.sat

-- what stands for a flag or a condition in three readings at once: whether it is looked at, and its truth in two settings,
-- which is one truth where it is not looked at
record Read : Type 0 where
  look : Bool
  one : Bool
  other : Bool
  same : look ≡ false → one ≡ other

abbrev join : (Bool → Bool → Bool) → Read → Read → Read
join op a b =
    record {
      look = a.look || b.look;
      one = op a.one b.one;
      other = op a.other b.other;
      same = λ e. let n = both_false a.look b.look e in ap₂ op (a.same n.0) (b.same n.1);
    }

abbrev flip : Read → Read
flip a = record { look = a.look; one = not a.one; other = not a.other; same = λ e. ap not (a.same e) }

abbrev flag : (look one other : Bool) → (look ≡ false → one ≡ other) → Read
flag l a b e = record { look = l; one = a; other = b; same = e }

abbrev constant : Bool → Read
constant b = flag false b b (λ e. refl)

-- a condition depends only on the flags that it reads: the table of the three readings, read thrice
pub reads_enough : (k : ℕ) (m f g : Flags) → AgreeOff m f g → reads k m ≡ false → holds k f ≡ holds k g
unfolding reads holds conditions
reads_enough k m f g h e =
    reading (λ r. r.one) ∙ (get_or three k (constant false)).same (sym (reading (λ r. r.look)) ∙ e) ∙ sym (reading (λ r. r.other))
  where
    three : List Read
    three =
        conditions (join ◌||◌) (join xor) flip (constant true)
        (flag m.z f.z g.z h.z)
        (flag m.s f.s g.s h.s)
        (flag m.ov f.ov g.ov h.ov)
        (flag m.cy f.cy g.cy h.cy)
        (flag m.sat f.sat g.sat h.sat)

    reading : (p : Read → Bool) → slice_index_or (map p three) k (p (constant false)) ≡ p (slice_index_or three k (constant false))
    reading p = get_or-map p three k (constant false)
