-- Laws behind the invariants: of lists and cells, of what is never marked, of bytes, and of steps that end or are refused.
use Rattle.std.specs.Prelude.{◌≡◌, refl, Option, Some, None, Ok, Err, Bool, true, false, cond, ◌&&◌, List, [], ◌∷◌, ◌⊎◌, ℕ, zero, suc, ◌+◌, ◌-◌, ◌*◌, ◌/◌, ◌%◌, ◌^◌, ◌≤◌, ◌<◌, T, eqb, leb, get_or, set, length}
use Rattle.std.proofs.Common.{sym, ◌∙◌, subst, inl, inr, arith, eqb→eq, leb→le, length-set, get_or-set_other, leb-true, lt-ltb}
use Rattle.std.proofs.lemmas.Nat.{and_le_l, or_lt, xor_lt}
use Rattle.std.specs.Int.Bits.{and_lt}
use Rattle.std.proofs.Math.Pow.{pow-lt}
use Rattle.std.proofs.lemmas.Bool.{eqb-false}
use Rattle.std.proofs.Math.Facts.{or_yes, and_yes}
use Rattle.word.specs.declared.Computed.{Computed}
use Rattle.word.specs.Word.{W}
use Rattle.word.specs.Flags.{Flags, packed, holds}
use Rattle.word.specs.FlagLaws.{packed_lt}
use Rattle.word.specs.Extend.{sum24}
use Rattle.word.specs.Bounds.{cond_holds, add-word, sub_word, satadd-word, satsub-word, shr_word, sar-word, shl-word, mulh-word, divh-word, by_sign_word}
use Rattle.insn.specs.declared.Size.{Size}
use Rattle.insn.specs.declared.Size.TheVariants.{Byte, Half, Word}
use Rattle.insn.specs.declared.BitOp.{BitOp}
use Rattle.insn.specs.declared.BitOp.TheVariants.{Set1, Not1, Clr1, Tst1}
use Rattle.machine.specs.declared.Tv.{Tv}
use Rattle.machine.specs.declared.Open.{Open}
use Rattle.machine.specs.declared.Kind.{Kind}
use Rattle.machine.specs.declared.Op.{Op}
use Rattle.machine.specs.declared.Op.TheVariants.{Mov, Not, Divh, Satsubr, Satsub, Satadd, Mulh, Or, Xor, And, Andi, Tst, Subr, Sub, Add, Cmp, Shr, Sar, Shl, Movea, Movhi}
use Rattle.machine.specs.declared.Answer.{Answer}
use Rattle.machine.specs.declared.Refusal.{Refusal}
use Rattle.machine.specs.Marked.{plain, lift1, vals, mark_of, Cells, both, cell, put, edit}
use Rattle.machine.specs.Psw.{REGS, reg, put_reg, Bits, EIPC, EIPSW, FEPC, FEPSW, PSW, sys, flags, flag_marks, put_flags, rules_of, follow_all, told, every_flag, quiet, set_flags, with_z, set_z, condition, psw, put_bits, put_psw_flags, spread}
use Rattle.machine.specs.Regions.{find}
use Rattle.machine.specs.Memory.{bytes_at, little_endian, extended, byte_of, put_bytes, changed}
use Rattle.machine.specs.Operations.{operation, second, operate}
use Rattle.machine.specs.Step.{Went, Outcome, next, refuse, goto, plus, modes, cause, waits, fecc, eicc, reveal, on_spot, place, save_pc, save_psw, step}
use Rattle.machine.specs.Run.{number, Ended, ended, on_went, carry, run}
use Rattle.machine.specs.WellFormed.{limit, mark_limit, good_code, Bytes, GoodCells, GoodOpen}

-- What holds of every number of a list holds of it with one number set, if it holds of that one
pub set_holds : (P : ℕ → ℕ → Type 0) (l : List ℕ) (j x : ℕ) → ((i : ℕ) → P i (get_or l i 0)) → P j x → (i : ℕ) → P i (get_or (set l j x) i 0)
set_holds P [] j x h k i = h i
set_holds P (a ∷ l) zero x h k zero = k
set_holds P (a ∷ l) zero x h k (suc i) = h (suc i)
set_holds P (a ∷ l) (suc j) x h k zero = h zero
set_holds P (a ∷ l) (suc j) x h k (suc i) = set_holds (λ i. P (suc i)) l j x (λ i. h (suc i)) k i

-- a value that a register can hold
abbrev pub IsWord : Tv → Type 0
IsWord v = v.val < W

pub mark_lt : (b : Bool) → mark_of b < 2
mark_lt true = omega arith
mark_lt false = omega arith

-- a number and a mark within the limits of a cell other than that of r0
pub set_good : {c : Cells} → GoodCells c → (i x y : ℕ) → (i ≡ 0 → ⊥) → x < limit i → y < mark_limit i
    → GoodCells (both (set c.nums i x) (set c.marks i y))
set_good {c} g i x y z h k =
    record {
      nums = length-set c.nums i x ∙ g.nums;
      marks = length-set c.marks i y ∙ g.marks;
      r0 = get_or-set_other c.nums i 0 x 0 (λ e. z (sym e)) ∙ g.r0;
      r0-mark = get_or-set_other c.marks i 0 y 0 (λ e. z (sym e)) ∙ g.r0-mark;
      small = set_holds (λ i n. n < limit i) c.nums i x g.small h;
      small-marks = set_holds (λ i n. n < mark_limit i) c.marks i y g.small-marks k;
    }

-- registers
pub reg-limit : (i : ℕ) → i < REGS → limit i ≡ 2 ^ 32
reg-limit i h = simp (lt-ltb i REGS h)

pub reg-mark-limit : (i : ℕ) → i < REGS → mark_limit i ≡ 2
reg-mark-limit i h = simp (lt-ltb i REGS h)

pub reg-word : {c : Cells} → GoodCells c → (n : ℕ) → IsWord (reg n c)
reg-word {c} g n = rw (reg-limit (n % REGS) (omega arith)) at (g.small (n % REGS))

pub put_reg-good : {c : Cells} → GoodCells c → (n : ℕ) (v : Tv) → IsWord v → GoodCells (put_reg n v c)
unfolding put_reg
put_reg-good {c} g n v h = go (eqb (n % REGS) 0) refl
  where
    go : (t : Bool) → eqb (n % REGS) 0 ≡ t → GoodCells (cond t c (put (n % REGS) v c))
    go true e = g
    go false e =
        set_good g (n % REGS) v.val (mark_of v.mark) (eqb-false (n % REGS) 0 e)
        (rw (reg-limit (n % REGS) (omega arith)) h)
        (rw (reg-mark-limit (n % REGS) (omega arith)) (mark_lt v.mark))

-- flags
pub put_flags-good : {c : Cells} → GoodCells c → (f m : Flags) → GoodCells (put_flags f m c)
put_flags-good g f m = set_good g (sys PSW) (packed f) (packed m) (λ e. omega arith) (packed_lt f) (packed_lt m)

pub set_flags_good : {c : Cells} → GoodCells c → (k : Kind) (a : Computed) (mark : Bool) → GoodCells (set_flags k a mark c)
unfolding set_flags
set_flags_good {c} g k a mark =
    cond_holds GoodCells (quiet k) g
    (put_flags-good g (follow_all (rules_of k) (flags c) (told a)) (follow_all (rules_of k) (flag_marks c) (every_flag mark)))

pub set_z-good : {c : Cells} → GoodCells c → (z mark : Bool) → GoodCells (set_z z mark c)
unfolding set_z
set_z-good {c} g z mark = put_flags-good g (with_z z (flags c)) (with_z mark (flag_marks c))

pub condition-word : (k : ℕ) (c : Cells) → IsWord (condition k c)
unfolding condition
condition-word k c = cond_holds (λ (n : ℕ). n < W) (holds k (flags c)) {x = 1} {y = 0} (omega arith) (omega arith)

-- PSW has eight bits, and none of NP, EP and ID is marked
pub psw-on : (o : Open) (c : Cells) → (psw o c).on < 2 ^ 8
psw-on o c = omega arith

pub psw-marks : (o : Open) (c : Cells) → (psw o c).marks < 2 ^ 5
psw-marks o c = omega arith

-- the two banks of a saved PC and a saved PSW
pub data Bank : ℕ → ℕ → Type 0 where
  ei : Bank EIPC EIPSW
  fe : Bank FEPC FEPSW

pub saved_pc : {c : Cells} {p w : ℕ} → Bank p w → GoodCells c → (cell c (sys p)).val < 2 ^ 24
saved_pc ei g = g.small (sys EIPC)
saved_pc fe g = g.small (sys FEPC)

pub put_pc_good : {c : Cells} {p w : ℕ} → Bank p w → GoodCells c → (v : Tv) → v.val < 2 ^ 24 → GoodCells (put (sys p) v c)
put_pc_good ei g v h = set_good g (sys EIPC) v.val (mark_of v.mark) (λ e. omega arith) h (mark_lt v.mark)
put_pc_good fe g v h = set_good g (sys FEPC) v.val (mark_of v.mark) (λ e. omega arith) h (mark_lt v.mark)

pub put_psw_good : {c : Cells} {p w : ℕ} → Bank p w → GoodCells c → (b : Bits) → b.on < 2 ^ 8 → b.marks < 2 ^ 8 → GoodCells (put_bits (sys w) b c)
put_psw_good ei g b h k = set_good g (sys EIPSW) b.on b.marks (λ e. omega arith) h k
put_psw_good fe g b h k = set_good g (sys FEPSW) b.on b.marks (λ e. omega arith) h k

pub put_psw_flags-good : {c : Cells} → GoodCells c → (b : Bits) → GoodCells (put_psw_flags b c)
put_psw_flags-good g b = set_good g (sys PSW) (b.on % 2 ^ 5) (b.marks % 2 ^ 5) (λ e. omega arith) (omega arith) (omega arith)

spread-marks : (v : Tv) → (spread v).marks < 2 ^ 8
spread-marks v = cond_holds (λ (n : ℕ). n < 2 ^ 8) v.mark {x = 2 ^ 8 - 1} {y = 0} (omega arith) (omega arith)

pub put_spread_good : {c : Cells} {p w : ℕ} → Bank p w → GoodCells c → (v : Tv) → GoodCells (put_bits (sys w) (spread v) c)
put_spread_good k g v = put_psw_good k g (spread v) (omega arith) (spread-marks v)

pub put_low_good : {c : Cells} {p w : ℕ} → Bank p w → GoodCells c → (v : Tv) → GoodCells (put (sys p) (lift1 (λ a. a % 2 ^ 24) v) c)
put_low_good k g v = put_pc_good k g (lift1 (λ a. a % 2 ^ 24) v) (omega arith)

-- a bank with the PC p and PSW
pub saved_good : {c : Cells} {p w : ℕ} → Bank p w → GoodCells c → (o : Open) (a : ℕ) → a < 2 ^ 24 → GoodCells (save_pc p a (save_psw w o c))
saved_good {c} k g o a h = put_pc_good k (put_psw_good k g (psw o c) (psw-on o c) (omega (arith, psw-marks o c))) (plain a) h

-- operations: the result of words is a word
pub outcome-word : (op : Op) (x y : ℕ) → x < W → y < W → ((operation op).outcome x y).result < W
unfolding operation
outcome-word Mov x y h k = h
outcome-word Not x y h k = omega arith
outcome-word Divh x y h k = divh-word y x k
outcome-word Satsubr x y h k = satsub-word x y
outcome-word Satsub x y h k = satsub-word y x
outcome-word Satadd x y h k = satadd-word y x
outcome-word Mulh x y h k = mulh-word y x
outcome-word Or x y h k = or_lt 32 y x k h
outcome-word Xor x y h k = xor_lt 32 y x k h
outcome-word And x y h k = and_lt 32 y x k h
outcome-word Andi x y h k = and_lt 32 y x k h
outcome-word Tst x y h k = and_lt 32 y x k h
outcome-word Subr x y h k = sub_word x y
outcome-word Sub x y h k = sub_word y x
outcome-word Add x y h k = add-word y x
outcome-word Cmp x y h k = sub_word y x
outcome-word Shr x y h k = shr_word y x k
outcome-word Sar x y h k = sar-word y x k
outcome-word Shl x y h k = shl-word y x
outcome-word Movea x y h k = omega arith
outcome-word Movhi x y h k = omega arith

pub operate-good : {c : Cells} → GoodCells c → (op : Op) (x y : Tv) (r : ℕ) → IsWord x → IsWord y → GoodCells (operate op x y r c)
unfolding operate
operate-good g op x y r h k =
    let z = second (operation op) y in
    let l : IsWord z = cond_holds IsWord (operation op).two k (omega arith) in
    set_flags_good (cond_holds GoodCells (operation op).writes (put_reg-good g r _ (outcome-word op x.val z.val h l)) g) _ _ _

-- What is never marked, in a well-formed state
module _ {o : Open} (g : GoodOpen o) where
  pub goto-good : (p : ℕ) → p % 2 ≡ 0 → p < 2 ^ 24 → GoodOpen (goto p o)
  goto-good p e h =
      record { pc_even = e; pc_24 = h; np = g.np; ep = g.ep; id = g.id; ecr = g.ecr; code = g.code; nmi = g.nmi; halted = g.halted }

  pub plus-good : (n : ℕ) → n % 2 ≡ 0 → GoodOpen (plus n o)
  plus-good n e = goto-good (sum24 o.pc n) (omega (arith, g.pc_even)) (omega arith)

  pub modes-good : (n e i : ℕ) → n < 2 → e < 2 → i < 2 → GoodOpen (modes n e i o)
  modes-good n e i h k l =
      record { pc_even = g.pc_even; pc_24 = g.pc_24; np = h; ep = k; id = l; ecr = g.ecr; code = g.code; nmi = g.nmi; halted = g.halted }

  pub cause-good : (x : ℕ) → x < 2 ^ 32 → GoodOpen (cause x o)
  cause-good x h =
      record { pc_even = g.pc_even; pc_24 = g.pc_24; np = g.np; ep = g.ep; id = g.id; ecr = h; code = g.code; nmi = g.nmi; halted = g.halted }

  pub waits-good : (k n h : ℕ) → good_code k ≡ true → n < 2 → h < 2 → GoodOpen (waits k n h o)
  waits-good k n h d e f =
      record { pc_even = g.pc_even; pc_24 = g.pc_24; np = g.np; ep = g.ep; id = g.id; ecr = g.ecr; code = d; nmi = e; halted = f }

  pub fecc-good : (x : ℕ) → x < 2 ^ 16 → GoodOpen (fecc x o)
  fecc-good x h = cause-good (x * 2 ^ 16 + o.ecr % 2 ^ 16) (omega arith)

  pub eicc-good : (x : ℕ) → x < 2 ^ 16 → GoodOpen (eicc x o)
  eicc-good x h = cause-good (o.ecr / 2 ^ 16 * 2 ^ 16 + x) (omega (arith, g.ecr))

-- a maskable code is an even number of 16 bits
pub code_target : (k : ℕ) → good_code k ≡ true → (k % 2 ≡ 0) × (k < 2 ^ 16)
code_target k e = go (or_yes (eqb k 0) _ (subst T (sym e) tt))
  where
    go : T (eqb k 0) ⊎ T (eqb (k % 16) 0 && (leb 0x0080 k && leb k 0x0FF0)) → (k % 2 ≡ 0) × (k < 2 ^ 16)
    go (inl t) = let z = eqb→eq k 0 t in (omega arith, omega arith)
    go (inr t) =
        let u = and_yes (eqb (k % 16) 0) _ t in
        let z = eqb→eq (k % 16) 0 u.0 in
        let l = leb→le k 0x0FF0 (and_yes (leb 0x0080 k) _ u.1).1 in
        (omega arith, omega arith)

-- Memory that holds bytes
pub put-bytes : {m : Cells} → Bytes m → (p : ℕ) (v : Tv) → v.val < 2 ^ 8 → Bytes (put p v m)
put-bytes {m} b p v h = record { small = set_holds (λ i n. n < 2 ^ 8) m.nums p v.val b.small h }

pub edit-bytes : {m : Cells} → Bytes m → (p : ℕ) (f : ℕ → ℕ) → ((x : ℕ) → x < 2 ^ 8 → f x < 2 ^ 8) → Bytes (edit p f m)
edit-bytes {m} b p f h = record { small = set_holds (λ i n. n < 2 ^ 8) m.nums p (f (get_or m.nums p 0)) b.small (h _ (b.small p)) }

pub changed-byte : (op : BitOp) (n x : ℕ) → n < 8 → x < 2 ^ 8 → changed op n x < 2 ^ 8
unfolding changed
changed-byte Set1 n x h k = or_lt 8 x (2 ^ n) k (pow-lt {i = n} {j = 8} h)
changed-byte Not1 n x h k = xor_lt 8 x (2 ^ n) k (pow-lt {i = n} {j = 8} h)
changed-byte Clr1 n x h k = omega (arith, and_le_l x (2 ^ 8 - 1 - 2 ^ n))
changed-byte Tst1 n x h k = k

put_byte_of : {m : Cells} → Bytes m → (p k : ℕ) (v : Tv) → Bytes (put p (byte_of k v) m)
put_byte_of b p k v = put-bytes b p (byte_of k v) (omega arith)

pub put_bytes-bytes : {m : Cells} → Bytes m → (s : Size) (p : ℕ) (v : Tv) → Bytes (put_bytes s p v m)
unfolding put_bytes
put_bytes-bytes b Byte p v = put_byte_of b p 0 v
put_bytes-bytes b Half p v = put_byte_of (put_byte_of b p 0 v) (p + 1) 1 v
put_bytes-bytes b Word p v = put_byte_of (put_byte_of (put_byte_of (put_byte_of b p 0 v) (p + 1) 1 v) (p + 2) 2 v) (p + 3) 3 v

-- what is fetched is a halfword, and what is loaded a word
pub half_lt : {m : Cells} → Bytes m → (p : ℕ) → little_endian (vals (bytes_at m p Half)) < 2 ^ 16
unfolding little_endian bytes_at
half_lt b p = omega (arith, b.small p, b.small (p + 1))

pub loaded_word : {m : Cells} → Bytes m → (p : ℕ) (s : Size) → extended s (vals (bytes_at m p s)) < W
unfolding extended little_endian bytes_at
loaded_word b p Byte = by_sign_word (2 ^ 7) _ (omega arith) (omega arith)
loaded_word b p Half = by_sign_word (2 ^ 15) _ (omega arith) (omega arith)
loaded_word b p Word = omega (arith, b.small p, b.small (p + 1), b.small (p + 2), b.small (p + 3))

-- Memory after a step: as long as before, and each mark as before or 0 or 1
pub record Kept (m m' : Cells) : Type 0 where
  pub nums : length m'.nums ≡ length m.nums
  pub marks : length m'.marks ≡ length m.marks
  pub each : (i : ℕ) → (get_or m'.marks i 0 ≡ get_or m.marks i 0) ⊎ (get_or m'.marks i 0 < 2)

pub same : (m : Cells) → Kept m m
same m = record { nums = refl; marks = refl; each = λ i. inl refl }

pub put_kept : {m m' : Cells} → Kept m m' → (p : ℕ) (v : Tv) → Kept m (put p v m')
put_kept {m} {m'} k p v =
    record {
      nums = length-set m'.nums p v.val ∙ k.nums;
      marks = length-set m'.marks p (mark_of v.mark) ∙ k.marks;
      each = set_holds (λ i n. (n ≡ get_or m.marks i 0) ⊎ (n < 2)) m'.marks p (mark_of v.mark) k.each (inr (mark_lt v.mark));
    }

pub edit_kept : {m m' : Cells} → Kept m m' → (p : ℕ) (f : ℕ → ℕ) → Kept m (edit p f m')
edit_kept {m} {m'} k p f = record { nums = length-set m'.nums p (f (get_or m'.nums p 0)) ∙ k.nums; marks = k.marks; each = k.each }

pub put_bytes_kept : {m m' : Cells} → Kept m m' → (s : Size) (p : ℕ) (v : Tv) → Kept m (put_bytes s p v m')
unfolding put_bytes
put_bytes_kept k Byte p v = put_kept k p (byte_of 0 v)
put_bytes_kept k Half p v = put_kept (put_kept k p (byte_of 0 v)) (p + 1) (byte_of 1 v)
put_bytes_kept k Word p v =
    put_kept (put_kept (put_kept (put_kept k p (byte_of 0 v)) (p + 1) (byte_of 1 v)) (p + 2) (byte_of 2 v)) (p + 3) (byte_of 3 v)

abbrev pub States : Type 1
States = Open → Cells → Cells → Type 0

-- A step that leads to a state of which P holds, or is refused and changes nothing
pub record Ends (P : States) (c m : Cells) (x : Outcome) : Type 0 where
  pub went : (o' : Open) → x.went ≡ Ok o' → P o' x.cells x.mem
  pub stopped : (r : Refusal) → x.went ≡ Err r → (x.cells ≡ c) × (x.mem ≡ m)
  pub answer : (r : Refusal) → x.went ≡ Err r → leb 4 (number r.answer) ≡ true

never : {A : Type 0} {o : Open} {r : Refusal} → ◌≡◌ {A = Went} (Ok o) (Err r) → A
never e = let z : ◌≡◌ {A = ℕ} 0 1 = cc in absurd (omega arith)

pub next-ends : {P : States} {c m c' m' : Cells} {o' : Open} → P o' c' m' → Ends P c m (next o' c' m')
next-ends {P} {c' = c'} {m' = m'} h = record { went = λ o e. subst (λ (q : Open). P q c' m') (cc) h; stopped = λ r e. never e; answer = λ r e. never e }

pub refuse-ends : {P : States} {c m : Cells} (a : Answer) (p : ℕ) → leb 4 (number a) ≡ true → Ends P c m (refuse a p c m)
refuse-ends a p h =
    record {
      went = λ o e. never (sym e);
      stopped = λ r e. (refl, refl);
      answer = λ r e. let s : a ≡ r.answer = cc in subst (λ (k : Answer). leb 4 (number k) ≡ true) s h;
    }

pub cond_ends : {P : States} {c m : Cells} (t : Bool) {x y : Outcome} → Ends P c m x → Ends P c m y → Ends P c m (cond t x y)
cond_ends {P} {c} {m} t h k = cond_holds (Ends P c m) t h k

pub reveal-ends : {P : States} {c m : Cells} (o : Open) (v : Tv) (k : ℕ → Outcome)
    → Ends P c m (k v.val) → Ends P c m (reveal o c m v k)
unfolding reveal
reveal-ends {P} {c} {m} o v k h = cond_ends v.mark (refuse-ends _ _ refl) h

pub place-ends : {P : States} {c m : Cells} (map : List ℕ) (right : ℕ) (answer : Answer) (a : ℕ) (k : ℕ → Outcome)
    → leb 4 (number answer) ≡ true → ((p : ℕ) → Ends P c m (k p)) → Ends P c m (place map right answer a c m k)
unfolding place
place-ends {P} {c} {m} map right answer a k l h = go (find map right a)
  where
    go : (s : Option ℕ) → Ends P c m (on_spot s (refuse answer a c m) k)
    go (Some p) = h p
    go None = refuse-ends answer a l

-- what holds of memory before a step and after one that ends well holds of it in any case
pub any_end : (Q : Cells → Type 0) {c m : Cells} {x : Outcome} → Q m → Ends (λ o' c' m'. Q m') c m x → Q x.mem
any_end Q {x = x} h e = go x.went refl
  where
    go : (w : Went) → x.went ≡ w → Q x.mem
    go (Ok p) q = e.went p q
    go (Err r) q = subst Q (sym (e.stopped r q).1) h

-- A run answers DONE, or what a refused step answers
abbrev pub Answered : Ended → Type 0
Answered x = (number x.ran.answer ≡ 0) ⊎ (4 ≤ number x.ran.answer)

pub carry_answers : (go : Open → Cells → Cells → Ended) (n : ℕ) (o : Open) → ((o : Open) (c m : Cells) → Answered (go o c m))
    → {P : States} {c m : Cells} (x : Outcome) → Ends P c m x → Answered (carry go n o x)
unfolding carry
carry_answers go n o f x e = by x.went refl
  where
    by : (w : Went) → x.went ≡ w → Answered (on_went w (λ p. go p x.cells x.mem) (λ r. ended r.answer r.place n o x.cells x.mem))
    by (Ok p) q = f p x.cells x.mem
    by (Err r) q = inr (leb-true 4 (number r.answer) (e.answer r q))

-- What every step keeps holds at the end of a run
abbrev pub AtEnd : States → Ended → Type 0
AtEnd P x = P x.ran.core x.cells x.mem

carry-holds : (P : States) (go : Open → Cells → Cells → Ended) (n : ℕ)
    → ((o : Open) (c m : Cells) → P o c m → AtEnd P (go o c m))
    → (o : Open) (c m : Cells) → P o c m → (x : Outcome) → Ends P c m x → AtEnd P (carry go n o x)
unfolding carry
carry-holds P go n f o c m h x e = by x.went refl
  where
    by : (w : Went) → x.went ≡ w → AtEnd P (on_went w (λ p. go p x.cells x.mem) (λ r. ended r.answer r.place n o x.cells x.mem))
    by (Ok p) q = f p x.cells x.mem (e.went p q)
    by (Err r) q =
        let z = e.stopped r q in
        subst (λ (k : Cells). P o x.cells k) (sym z.1) (subst (λ (k : Cells). P o k m) (sym z.0) h)

pub run_holds : (P : States) (map : List ℕ) → ((o : Open) (c m : Cells) → P o c m → Ends P c m (step map o c m))
    → (budget n : ℕ) (o : Open) (c m : Cells) → P o c m → AtEnd P (run budget n map o c m)
unfolding run
run_holds P map f zero n o c m h = h
run_holds P map f (suc budget) n o c m h =
    carry-holds P (run budget (suc n) map) n (run_holds P map f budget (suc n)) o c m h (step map o c m) (f o c m h)
