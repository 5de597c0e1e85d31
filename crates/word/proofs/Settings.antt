-- The words of a condition say at each of the 32 settings what the condition does: one test over the whole table.
use Rattle.std.proofs.Common.{◌≡◌, ℕ, ◌%◌, ◌<◌, ◌≤◌, Bool, true, false, ◌&&◌, T, ltb, refl, sym, ap, ◌∙◌, arith, ltb-true, ltb-false}
use Rattle.std.specs.Bool.{beq}
use Rattle.std.proofs.Math.ListN.{get_or-eq_default}
use Rattle.word.specs.declared.flags.Sets.{Sets}
use Rattle.word.specs.Shifts.{bit}
use Rattle.word.specs.Flags.{Flags, unpacked, conditions, holds, reads}
use Rattle.word.specs.Settings.{flag, table, sets_of}
use Rattle.word.specs.FlagLaws.{unpacked_low, holds-past, reads-past}
use Rattle.word.specs.Tests.{beq→eq, below, below_at, and_left, and_right}

-- bit n of r is the rule's answer at setting n
abbrev pub Lists : (Flags → Bool) → ℕ → Type 0
Lists rule r = (n : ℕ) → n < 32 → bit n r ≡ rule (unpacked n)

abbrev pub tested : (Flags → Bool) → ℕ → Bool
tested rule r = below 32 (λ n. beq (bit n r) (rule (unpacked n)))

pub lists : (rule : Flags → Bool) (r : ℕ) → T (tested rule r) → Lists rule r
lists rule r t n h = beq→eq (bit n r) (rule (unpacked n)) (below_at 32 (λ i. beq (bit i r) (rule (unpacked i))) t n h)

-- the words of condition k: its truth, and what it reads
abbrev pub Says : ℕ → Sets → Type 0
Says k s = Lists (holds k) s.true_in × Lists (reads k) s.read_in

abbrev row : ℕ → Bool
row k = tested (holds k) (sets_of k).true_in && tested (reads k) (sets_of k).read_in

in_table : (k : ℕ) → k < 16 → Says k (sets_of k)
unfolding table conditions holds reads
in_table k h =
    let t = below_at 16 row tt k h in (
      lists (holds k) (sets_of k).true_in (and_left _ _ t),
      lists (reads k) (sets_of k).read_in (and_right _ _ t),
    )

-- past 15 there is no condition, and both words are 0
none : (rule : ℕ → Flags → Bool) → ((k : ℕ) → 16 ≤ k → (f : Flags) → rule k f ≡ false) → {k : ℕ} → 16 ≤ k → Lists (rule k) 0
none rule e {k} h n l = lists (λ f. false) 0 tt n l ∙ sym (e k h (unpacked n))

pub beyond : {k t r : ℕ} → 16 ≤ k → (t ≡ 0) × (r ≡ 0) → Says k (record { true_in = t; read_in = r })
beyond {k} h w = rw (w.0, w.1) (none holds holds-past h, none reads reads-past h)

past_table : (k : ℕ) → 16 ≤ k → Says k (sets_of k)
unfolding table conditions
past_table k h = rw (get_or-eq_default table (flag 0) h) (beyond h (refl, refl))

says : (k : ℕ) → Says k (sets_of k)
says k = go (ltb k 16) refl
  where
    go : (t : Bool) → ltb k 16 ≡ t → Says k (sets_of k)
    go true e = in_table k (ltb-true k 16 e)
    go false e = past_table k (ltb-false k 16 e)

-- the words, looked up at the flags of PSW and at their marks
pub looked_up : (rule : Flags → Bool) (r psw : ℕ) → Lists rule r → bit (psw % 32) r ≡ rule (unpacked psw)
looked_up rule r psw l = l (psw % 32) (omega arith) ∙ ap rule (unpacked_low psw)

pub holds_told : (k flags : ℕ) → bit (flags % 32) (sets_of k).true_in ≡ holds k (unpacked flags)
holds_told k flags = looked_up (holds k) _ flags (says k).0

pub reads_told : (k marks : ℕ) → bit (marks % 32) (sets_of k).read_in ≡ reads k (unpacked marks)
reads_told k marks = looked_up (reads k) _ marks (says k).1
