-- What keeps two states alike. Alike values, bits and cells share their marks, so each relation is made of one mark and two numbers, and a law goes by cases on it.
use Rattle.std.specs.Prelude.{◌≡◌, Bool, true, false, ◌||◌, List, [], ◌∷◌, ℕ, zero, suc, ◌+◌, ◌-◌, ◌*◌, ◌/◌, ◌%◌, ◌^◌, ◌≤◌, ◌<◌, T, eqb, ltb, get_or, set, length}
use Rattle.std.proofs.Math.Path.{refl, ap}
use Rattle.std.proofs.Common.{sym, ap₂, ◌∙◌, subst, true≢false, div-one, one-add, arith, eqb→eq, lit<, lit≤, shr-shr, length-set, get_or-set_same, get_or-set_other, eqb-true, ltb-true, ltb-false}
use Rattle.std.proofs.Math.Bool.{cond}
use Rattle.std.specs.Bool.{beq}
use Rattle.std.proofs.Math.Nat.{zero-div}
use Rattle.std.proofs.Math.Decide.{ℕ_discrete}
use Rattle.std.proofs.lemmas.Nat.{mod-pow-add}
use Rattle.std.proofs.Math.Seq.{set_out}
use Rattle.std.proofs.lemmas.List.{set-get_or}
use Rattle.std.proofs.lemmas.Bool.{not-false}
use Rattle.word.specs.Shifts.{bit}
use Rattle.word.specs.declared.Computed.{Computed}
use Rattle.word.specs.Flags.{Flags, unpacked, packed, holds, reads}
use Rattle.word.specs.FlagLaws.{AgreeOff, unpacked-packed, packed_lt, bit_low, unpacked_low, reads_enough}
use Rattle.word.specs.Tests.{beq→eq, below_at}
use Rattle.insn.specs.declared.Size.{Size}
use Rattle.insn.specs.declared.Size.TheVariants.{Byte, Half, Word}
use Rattle.machine.specs.declared.Tv.{Tv}
use Rattle.machine.specs.declared.Open.{Open}
use Rattle.machine.specs.declared.Kind.{Kind}
use Rattle.machine.specs.Marked.{tv, plain, lift1, lift2, lift_all, Cells, both, marked, cell, put, edit}
use Rattle.machine.specs.Psw.{REGS, reg, put_reg, PSW, sys, Bits, bits, bits_at, put_bits}
use Rattle.machine.specs.Psw.{Rule, kept, constant, computed, raised, Rules, follow, follow_all, rules_of, told, every_flag, quiet, set_flags, set_z}
use Rattle.machine.specs.Psw.{condition, psw, put_psw_flags, mode, spread, gathered}
use Rattle.machine.specs.Memory.{bytes_at, put_bytes}
use Rattle.machine.specs.Alike.{bit_cells, no_bit_cells, Alike}

-- a test that comes out the same on both sides
pub either : {A : Type 0} (R : A → A → Type 0) (b : Bool) {x y v w : A} → R x v → R y w → R (cond b x y) (cond b v w)
either R true p q = p
either R false p q = q

-- what is computed of two things, where neither is marked
of_two : {A B C : Type 0} (f : A → B → C) (m n : Bool) {a b : A} {c d : B} → (m ≡ false → a ≡ b) → (n ≡ false → c ≡ d)
    → (m || n) ≡ false → f a c ≡ f b d
of_two f true n p q e = absurd (true≢false e)
of_two f false n p q e = ap₂ f (p refl) (q e)

-- Values: one mark, and the same number if it is false
pub data AlikeTv : Tv → Tv → Type 0 where
  same : (m : Bool) {v w : ℕ} → (m ≡ false → v ≡ w) → AlikeTv (tv v m) (tv w m)

pub plain-alike : (n : ℕ) → AlikeTv (plain n) (plain n)
plain-alike n = same false (λ e. refl)

pub lift1-alike : (f : ℕ → ℕ) {a b : Tv} → AlikeTv a b → AlikeTv (lift1 f a) (lift1 f b)
lift1-alike f (same m p) = same m (λ e. ap f (p e))

pub lift2-alike : (f : ℕ → ℕ → ℕ) {a b c d : Tv} → AlikeTv a b → AlikeTv c d → AlikeTv (lift2 f a c) (lift2 f b d)
lift2-alike f (same m p) (same n q) = same (m || n) (of_two f m n p q)

pub data AlikeTvs : List Tv → List Tv → Type 0 where
  none : AlikeTvs [] []
  more : {a b : Tv} {us vs : List Tv} → AlikeTv a b → AlikeTvs us vs → AlikeTvs (a ∷ us) (b ∷ vs)

pub lift_all-alike : (f : List ℕ → ℕ) {us vs : List Tv} → AlikeTvs us vs → AlikeTv (lift_all f us) (lift_all f vs)
lift_all-alike f none = same false (λ e. refl)
lift_all-alike f (more (same true p) t) = same true (λ e. absurd (true≢false e))
lift_all-alike f (more (same false {w = w} p) t) = rw (p refl) (lift_all-alike (λ l. f (w ∷ l)) t)

-- Bits of numbers: those of n / 2 ^ s and of n % 2 ^ k, and numbers with the same low bits
bit-above : (s k n : ℕ) → bit k (n / 2 ^ s) ≡ bit (s + k) n
bit-above s k n = ap (λ (x : ℕ). eqb (x % 2) 1) (shr-shr n s k)

bit_below : (n k x : ℕ) → k < n → bit k (x % 2 ^ n) ≡ bit k x
bit_below n k x h = subst (λ (j : ℕ). bit k (x % 2 ^ j) ≡ bit k x) (omega arith) (bit_low (n - 1 - k) k x)

bit_zero : (k : ℕ) → bit k 0 ≡ false
bit_zero k = ap (λ (x : ℕ). eqb (x % 2) 1) (zero-div (2 ^ k))

below_two : (b : ℕ) → b < 2 → b ≡ cond (eqb b 1) 1 0
below_two b h = eqb→eq b (cond (eqb b 1) 1 0) (below_at 2 (λ k. eqb k (cond (eqb k 1) 1 0)) tt b h)

top_bit : (n x : ℕ) → x % 2 ^ suc n ≡ cond (bit n x) 1 0 * 2 ^ n + x % 2 ^ n
top_bit n x =
    ap (λ (j : ℕ). x % 2 ^ j) (sym (one-add n)) ∙ mod-pow-add x 1 n
    ∙ ap (λ (b : ℕ). b * 2 ^ n + x % 2 ^ n) (below_two (x / 2 ^ n % 2) (omega arith))

same_low : (n x y : ℕ) → ((k : ℕ) → k < n → bit k x ≡ bit k y) → x % 2 ^ n ≡ y % 2 ^ n
same_low zero x y p = omega arith
same_low (suc n) x y p =
    top_bit n x
    ∙ ap₂ (λ (b : Bool) (r : ℕ). cond b 1 0 * 2 ^ n + r) (p n (omega arith)) (same_low n x y (λ k h. p k (omega arith)))
    ∙ sym (top_bit n y)

-- Eight bits: one mark for each, and the same bit where it is false
abbrev AgreeBits : ℕ → ℕ → ℕ → Type 0
AgreeBits m x y = (k : ℕ) → k < 8 → bit k m ≡ false → bit k x ≡ bit k y

pub data AlikeBits : Bits → Bits → Type 0 where
  same : (m x y : ℕ) → AgreeBits m x y → AlikeBits (bits x m) (bits y m)

pub bits-alike : (x : ℕ) → AlikeBits (bits x 0) (bits x 0)
bits-alike x = same 0 x x (λ k l e. refl)

pub spread-alike : {v w : Tv} → AlikeTv v w → AlikeBits (spread v) (spread w)
spread-alike (same true {v} {w} p) = same (2 ^ 8 - 1) (v % 2 ^ 8) (w % 2 ^ 8) (λ k l e. absurd (subst T e (below_at 8 (λ j. bit j (2 ^ 8 - 1)) tt k l)))
spread-alike (same false {v} {w} p) = same 0 (v % 2 ^ 8) (w % 2 ^ 8) (λ k l e. ap (λ (x : ℕ). bit k (x % 2 ^ 8)) (p refl))

-- n bits from bit s on as one value, marked if one of them is
field_alike : (s n : ℕ) → s + n ≤ 8 → {a b : Bits} → AlikeBits a b
    → AlikeTv (tv (a.on / 2 ^ s % 2 ^ n) (marked (a.marks / 2 ^ s % 2 ^ n))) (tv (b.on / 2 ^ s % 2 ^ n) (marked (b.marks / 2 ^ s % 2 ^ n)))
field_alike s n h (same m x y p) =
    same (marked (m / 2 ^ s % 2 ^ n)) λ e. same_low n (x / 2 ^ s) (y / 2 ^ s) λ k l.
    bit-above s k x ∙ p (s + k) (omega arith) (clear e k l) ∙ sym (bit-above s k y)
  where
    clear : marked (m / 2 ^ s % 2 ^ n) ≡ false → (k : ℕ) → k < n → bit (s + k) m ≡ false
    clear e k l =
        sym (bit-above s k m) ∙ sym (bit_below n k (m / 2 ^ s) l) ∙ ap (bit k) (eqb-true (m / 2 ^ s % 2 ^ n) 0 (not-false _ e)) ∙ bit_zero k

pub gathered-alike : {a b : Bits} → AlikeBits a b → AlikeTv (gathered a) (gathered b)
gathered-alike h = simp div-one at (field_alike 0 8 (lit≤ tt) h)

pub mode-alike : {a b : Bits} → AlikeBits a b → AlikeTv (mode a) (mode b)
mode-alike h = field_alike 5 3 (lit≤ tt) h

-- The five low bits, as flags
flags_agree : {a b : Bits} → AlikeBits a b → AgreeOff (unpacked a.marks) (unpacked a.on) (unpacked b.on)
flags_agree (same m x y p) =
    record { z = p 0 (lit< tt); s = p 1 (lit< tt); ov = p 2 (lit< tt); cy = p 3 (lit< tt); sat = p 4 (lit< tt) }

agree_bits : (m x y : ℕ) → AgreeOff (unpacked m) (unpacked x) (unpacked y) → x / 2 ^ 5 ≡ y / 2 ^ 5 → AgreeBits m x y
agree_bits m x y h e zero l = h.z
agree_bits m x y h e (suc zero) l = h.s
agree_bits m x y h e (suc (suc zero)) l = h.ov
agree_bits m x y h e (suc (suc (suc zero))) l = h.cy
agree_bits m x y h e (suc (suc (suc (suc zero)))) l = h.sat
agree_bits m x y h e (suc (suc (suc (suc (suc k))))) l =
    λ u. subst (λ (j : ℕ). bit j x ≡ bit j y) (omega arith) (sym (bit-above 5 k x) ∙ ap (bit k) e ∙ bit-above 5 k y)

packed_alike : {m f g : Flags} → AgreeOff m f g → AlikeBits (bits (packed f) (packed m)) (bits (packed g) (packed m))
packed_alike {m} {f} {g} h =
    same (packed m) (packed f) (packed g)
    (agree_bits (packed m) (packed f) (packed g) (rw (unpacked-packed m, unpacked-packed f, unpacked-packed g) h)
    (omega (arith, packed_lt f, packed_lt g)))

-- the flags taken over, below bits that are the same
low_alike : (x y : ℕ) {a b : Bits} → x % 2 ^ 5 ≡ a.on % 2 ^ 5 → y % 2 ^ 5 ≡ b.on % 2 ^ 5 → x / 2 ^ 5 ≡ y / 2 ^ 5 → AlikeBits a b
    → AlikeBits (bits x (a.marks % 2 ^ 5)) (bits y (b.marks % 2 ^ 5))
low_alike x y e f g (same m v w p) =
    same (m % 2 ^ 5) x y (agree_bits (m % 2 ^ 5) x y (rw (unpacked_low m, flags_of x v e, flags_of y w f) (flags_agree (same m v w p))) g)
  where
    flags_of : (i j : ℕ) → i % 2 ^ 5 ≡ j % 2 ^ 5 → unpacked i ≡ unpacked j
    flags_of i j e = sym (unpacked_low i) ∙ ap unpacked e ∙ unpacked_low j

-- what each rule makes of a flag, and the rules of an operation of all five
follow_agree : (r : Rule) {m n f g t u : Bool} → (m ≡ false → f ≡ g) → (n ≡ false → t ≡ u) → follow r m n ≡ false → follow r f t ≡ follow r g u
follow_agree kept p q e = p e
follow_agree constant p q e = refl
follow_agree computed p q e = q e
follow_agree raised {m} {n} p q e = of_two ◌||◌ m n p q e

followed_alike : (r : Rules) (m : Bool) {f g : Flags} {a b : Bits} → (m ≡ false → f ≡ g) → AlikeBits a b
    → AlikeBits (bits (packed (follow_all r (unpacked a.on) f)) (packed (follow_all r (unpacked a.marks) (every_flag m))))
    (bits (packed (follow_all r (unpacked b.on) g)) (packed (follow_all r (unpacked b.marks) (every_flag m))))
followed_alike r m p (same n x y q) =
    let h = flags_agree (same n x y q) in
    packed_alike (record {
      z = follow_agree r.z h.z (λ e. ap (λ f. f.z) (p e));
      s = follow_agree r.s h.s (λ e. ap (λ f. f.s) (p e));
      ov = follow_agree r.ov h.ov (λ e. ap (λ f. f.ov) (p e));
      cy = follow_agree r.cy h.cy (λ e. ap (λ f. f.cy) (p e));
      sat = follow_agree r.sat h.sat (λ e. ap (λ f. f.sat) (p e));
    })

-- Cells, of which some are taken by bits: a mark for each number, and agreement in each place
abbrev Agree : Bool → ℕ → ℕ → ℕ → Type 0
Agree false m x y = marked m ≡ false → x ≡ y
Agree true m x y = AgreeBits m x y

pub data Twins (byBits : ℕ → Bool) : Cells → Cells → Type 0 where
  same : (xs ys ms : List ℕ) → length xs ≡ length ms → length ys ≡ length ms
      → ((i : ℕ) → Agree (byBits i) (get_or ms i 0) (get_or xs i 0) (get_or ys i 0)) → Twins byBits (both xs ms) (both ys ms)

-- what holds in each place of three lists still does after a set in all three
module _ (P : ℕ → ℕ → ℕ → ℕ → Type 0) (xs ys ms : List ℕ) (lx : length xs ≡ length ms) (ly : length ys ≡ length ms) (i m x y : ℕ) (p : P i m x y)
    (each : (j : ℕ) → P j (get_or ms j 0) (get_or xs j 0) (get_or ys j 0)) where
  set_there : (b : Bool) → ltb i (length ms) ≡ b → P i (get_or (set ms i m) i 0) (get_or (set xs i x) i 0) (get_or (set ys i y) i 0)
  set_there true e =
      let h = ltb-true i (length ms) e in
      rw (get_or-set_same ms i m 0 h, get_or-set_same xs i x 0 (omega arith), get_or-set_same ys i y 0 (omega arith)) p
  set_there false e =
      let h = ltb-false i (length ms) e in
      rw (set_out ms i m h, set_out xs i x (omega arith), set_out ys i y (omega arith)) (each i)

  set_each : (j : ℕ) → P j (get_or (set ms i m) j 0) (get_or (set xs i x) j 0) (get_or (set ys i y) j 0)
  set_each j =
      elim (ℕ_discrete j i) as (λ _. P j (get_or (set ms i m) j 0) (get_or (set xs i x) j 0) (get_or (set ys i y) j 0)) [
        | yes e ↦ rw e (set_there (ltb i (length ms)) refl)
        | no ne ↦ rw (get_or-set_other ms i j m 0 ne, get_or-set_other xs i j x 0 ne, get_or-set_other ys i j y 0 ne) (each j)
      ]

module _ {byBits : ℕ → Bool} where
  pub twins : {c d : Cells} → Alike byBits c d → Twins byBits c d
  twins {c} {d} h =
      subst (λ (ms : List ℕ). Twins byBits c (both d.nums ms)) h.marks
      (same c.nums d.nums c.marks h.whole (sym h.sizes ∙ h.whole) (λ i. each i (byBits i) refl))
    where
      each : (i : ℕ) (b : Bool) → byBits i ≡ b → Agree b (get_or c.marks i 0) (get_or c.nums i 0) (get_or d.nums i 0)
      each i false e = h.values i e
      each i true e = λ k. h.bits i k e

  pub alike : {c d : Cells} → Twins byBits c d → Alike byBits c d
  alike (same xs ys ms lx ly each) =
      record { sizes = lx ∙ sym ly; whole = lx; marks = refl; values = λ i e. rw e at (each i); bits = λ i k e. (rw e at (each i)) k }

  write-alike : {c d : Cells} (i m x y : ℕ) → Agree (byBits i) m x y → Twins byBits c d
      → Twins byBits (both (set c.nums i x) (set c.marks i m)) (both (set d.nums i y) (set d.marks i m))
  write-alike i m x y p (same xs ys ms lx ly each) =
      same (set xs i x) (set ys i y) (set ms i m)
      (length-set xs i x ∙ lx ∙ sym (length-set ms i m)) (length-set ys i y ∙ ly ∙ sym (length-set ms i m))
      (set_each (λ j m x y. Agree (byBits j) m x y) xs ys ms lx ly i m x y p each)

  pub cell-alike : {c d : Cells} (i : ℕ) → byBits i ≡ false → Twins byBits c d → AlikeTv (cell c i) (cell d i)
  cell-alike i e (same xs ys ms lx ly each) = same (marked (get_or ms i 0)) (rw e at (each i))

  pub put-alike : {c d : Cells} (i : ℕ) {a b : Tv} → byBits i ≡ false → AlikeTv a b → Twins byBits c d → Twins byBits (put i a c) (put i b d)
  put-alike i e (same true {v} {w} p) h = write-alike i 1 v w (rw e (λ u. absurd (true≢false u))) h
  put-alike i e (same false {v} {w} p) h = write-alike i 0 v w (rw e p) h

  pub edit-alike : {c d : Cells} (i : ℕ) (f : ℕ → ℕ) → byBits i ≡ false → Twins byBits c d → Twins byBits (edit i f c) (edit i f d)
  edit-alike i f e (same xs ys ms lx ly each) =
      rw (← set-get_or ms i 0)
      (write-alike i (get_or ms i 0) (f (get_or xs i 0)) (f (get_or ys i 0)) (rw e (λ u. ap f ((rw e at (each i)) u))) (same xs ys ms lx ly each))

  pub bits_at_alike : {c d : Cells} (i : ℕ) → byBits i ≡ true → Twins byBits c d → AlikeBits (bits_at i c) (bits_at i d)
  bits_at_alike i e (same xs ys ms lx ly each) = same (get_or ms i 0) (get_or xs i 0) (get_or ys i 0) (rw e at (each i))

  pub put_bits-alike : {c d : Cells} (i : ℕ) {a b : Bits} → byBits i ≡ true → AlikeBits a b → Twins byBits c d
      → Twins byBits (put_bits i a c) (put_bits i b d)
  put_bits-alike i e (same m x y p) h = write-alike i m x y (rw e p) h

-- Registers, which are not taken by bits, and the flags
abbrev pub TwinCells : Cells → Cells → Type 0
TwinCells c d = Twins bit_cells c d

pub register : (i : ℕ) → i < REGS → bit_cells i ≡ false
register i h = beq→eq (bit_cells i) false (below_at REGS (λ k. beq (bit_cells k) false) tt i h)

module _ {c d : Cells} (h : TwinCells c d) where
  pub reg-alike : (n : ℕ) → AlikeTv (reg n c) (reg n d)
  reg-alike n = cell-alike (n % REGS) (register (n % REGS) (omega arith)) h

  pub put_reg-alike : (n : ℕ) {v w : Tv} → AlikeTv v w → TwinCells (put_reg n v c) (put_reg n w d)
  unfolding put_reg
  put_reg-alike n p = either TwinCells (eqb (n % REGS) 0) h (put-alike (n % REGS) (register (n % REGS) (omega arith)) p h)

  flag_bits : AlikeBits (bits_at (sys PSW) c) (bits_at (sys PSW) d)
  flag_bits = bits_at_alike (sys PSW) refl h

  pub set_flags_alike : (k : Kind) (f : ℕ → ℕ → Computed) {x y v w : Tv} → AlikeTv x v → AlikeTv y w
      → TwinCells (set_flags k (f x.val y.val) (x.mark || y.mark) c) (set_flags k (f v.val w.val) (v.mark || w.mark) d)
  unfolding set_flags
  set_flags_alike k f (same m p) (same n q) =
      either TwinCells (quiet k) h
      (put_bits-alike (sys PSW) refl (followed_alike (rules_of k) (m || n) (of_two (λ a b. told (f a b)) m n p q) flag_bits) h)

  pub set_z-alike : (f : ℕ → Bool) {v w : Tv} → AlikeTv v w → TwinCells (set_z (f v.val) v.mark c) (set_z (f w.val) w.mark d)
  unfolding set_z
  set_z-alike f (same m p) =
      let r : Rules = record { z = computed; s = kept; ov = kept; cy = kept; sat = kept } in
      put_bits-alike (sys PSW) refl (followed_alike r m (λ e. ap (λ (n : ℕ). every_flag (f n)) (p e)) flag_bits) h

  pub condition-alike : (k : ℕ) → AlikeTv (condition k c) (condition k d)
  unfolding condition
  condition-alike k = of_bits flag_bits
    where
      of_bits : {a b : Bits} → AlikeBits a b
          → AlikeTv (tv (cond (holds k (unpacked a.on)) 1 0) (reads k (unpacked a.marks)))
          (tv (cond (holds k (unpacked b.on)) 1 0) (reads k (unpacked b.marks)))
      of_bits (same m x y p) =
          same (reads k (unpacked m)) λ e.
          ap (λ (t : Bool). cond t 1 0) (reads_enough k (unpacked m) (unpacked x) (unpacked y) (flags_agree (same m x y p)) e)

  pub psw-alike : (o : Open) → AlikeBits (psw o c) (psw o d)
  psw-alike o = low_alike (psw o c).on (psw o d).on (omega arith) (omega arith) (omega arith) flag_bits

  pub put_psw_flags-alike : {a b : Bits} → AlikeBits a b → TwinCells (put_psw_flags a c) (put_psw_flags b d)
  put_psw_flags-alike {a} {b} p =
      put_bits-alike (sys PSW) refl (low_alike (a.on % 2 ^ 5) (b.on % 2 ^ 5) (omega arith) (omega arith) (omega arith) p) h

-- Memory
abbrev pub TwinMems : Cells → Cells → Type 0
TwinMems m n = Twins no_bit_cells m n

module _ {m n : Cells} (h : TwinMems m n) (p : ℕ) where
  pub bytes_at_alike : (s : Size) → AlikeTvs (bytes_at m p s) (bytes_at n p s)
  unfolding bytes_at
  bytes_at_alike Byte = search (none, more, cell-alike)
  bytes_at_alike Half = search (none, more, cell-alike)
  bytes_at_alike Word = search (none, more, cell-alike) depth 9

  pub put_bytes-alike : (s : Size) {v w : Tv} → AlikeTv v w → TwinMems (put_bytes s p v m) (put_bytes s p w n)
  unfolding put_bytes
  put_bytes-alike Byte v = search (put-alike, lift1-alike)
  put_bytes-alike Half v = search (put-alike, lift1-alike)
  put_bytes-alike Word v = search (put-alike, lift1-alike) depth 9
