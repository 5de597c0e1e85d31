-- A halfword fetched: an even address is as it is with its low bit cleared, and what is found there lies in memory.
use Rattle.std.specs.Prelude.{◌≡◌, Option, Some, None, Result, Ok, Err, cond, true, false, Bool, ℕ, ◌+◌, ◌*◌, ◌/◌, ◌%◌, ◌^◌, ◌<◌, ◌≤◌, List, length, slice_index}
use Rattle.std.specs.Prelude.{refl}
use Rattle.std.proofs.Common.{sym, subst, arith, le-leb}
use Rattle.std.proofs.lemmas.Bool.{lt-leb}
use Rattle.word.specs.Extend.{sum24}
use Rattle.insn.specs.declared.Size.TheVariants.{Half}
use Rattle.machine.specs.declared.Tv.{Tv}
use Rattle.machine.specs.declared.Open.{Open}
use Rattle.machine.specs.declared.Refusal.{Refusal}
use Rattle.machine.specs.declared.Answer.TheVariants.{NoFetch, Leak}
use Rattle.machine.specs.Marked.{lift_all, Cells, both}
use Rattle.machine.specs.Regions.{FETCH, find}
use Rattle.machine.specs.Memory.{bytes_at, little_endian}
use Rattle.machine.specs.InvariantLaws.{half_lt}
use Rattle.insn.specs.Coding.{reg2_of, opcode_of, reg1_of, long, decode_fields, decode}
use Rattle.insn.specs.declared.Decoded.{Decoded}
use Rattle.insn.specs.declared.Decoded.TheVariants.{Undefined}
use Rattle.machine.specs.Step.{Outcome, refuse, fetch, execute, completed, instruction}
use Rattle.step.specs.StepLaws.{opened, leaked, placed, nowhere, fits}
use Rattle.state.specs.declared.map.Place.{Place}
use Rattle.state.specs.Windows.{spot_of}
use Rattle.step.specs.Tasks.{Ready, DecodedFields, fetched}
use Rattle.step.specs.TaskLaws.{decoded-fields}

cleared : (a b : ℕ) → a % 2 ≡ 0 → b ≡ a → a ≡ b / 2 * 2
cleared a b h e = omega arith

pub next_even : (a : ℕ) → a % 2 ≡ 0 → sum24 a 2 % 2 ≡ 0
next_even a h = omega arith

-- a halfword of bytes has 16 bits
pub half-small : (m k : List ℕ) (p : ℕ) {h : Tv} → ((i : ℕ) → slice_index m i < 2 ^ 8)
    → h ≡ lift_all little_endian (bytes_at (both m k) p Half) → h.val < 2 ^ 16
half-small m k p b e = rw e (half_lt {m = both m k} (record { small = b }) p)

module _ (map : List ℕ) (a : ℕ) (even : a % 2 ≡ 0) {s : Option ℕ} (e : s ≡ find map FETCH a) where
  -- what is found lies in memory
  pub half-fits : {mem marks : List ℕ} → Ready map mem marks → {p : ℕ} → s ≡ Some p → (p + 2 ≤ length mem) × (length mem ≡ length marks)
  half-fits r h = fits r Half FETCH a (cleared a a even refl) e h

  module _ (o : Open) (c m : Cells) {b : ℕ} (same : b ≡ a) (k : ℕ → Outcome) where
    pub fetch-nowhere : s ≡ None → refuse NoFetch a c m ≡ fetch b map o c m k
    unfolding fetch
    fetch-nowhere h = nowhere map FETCH NoFetch c m _ (cleared a b even same) e h

    module _ {p : ℕ} (at_p : s ≡ Some p) {h : Tv} (read : h ≡ lift_all little_endian (bytes_at m p Half)) where
      pub fetch_secret : h.mark ≡ true → refuse Leak o.pc c m ≡ fetch b map o c m k
      unfolding fetch
      fetch_secret t = placed map FETCH NoFetch c m _ (cleared a b even same) e at_p (leaked o c m k read t refl)

      pub fetch-found : {x : Outcome} → h.mark ≡ false → x ≡ k h.val → x ≡ fetch b map o c m k
      unfolding fetch
      fetch-found t q = placed map FETCH NoFetch c m _ (cleared a b even same) e at_p (opened o c m k read t q)

  -- the instruction at PC a: its first halfword h is at place p
  pub instruction-found : (o : Open) (c m : Cells) → o.pc ≡ a → {p : ℕ} → s ≡ Some p → {h : Tv} → h ≡ lift_all little_endian (bytes_at m p Half)
      → h.mark ≡ false → {x : Outcome} → x ≡ completed h.val map o c m → x ≡ instruction map o c m
  unfolding instruction
  instruction-found o c m at_a at_p read open-half q = fetch-found o c m at_a _ at_p read open-half q

  -- the same, of code's answer about the halfword
  pub halfword-goes : (o : Open) (c m : Cells) (k : ℕ → Outcome) {p : ℕ} {r : Result ℕ Refusal} → s ≡ Some p
      → r ≡ cond (lift_all little_endian (bytes_at m p Half)).mark (Err (record { answer = Leak; place = o.pc })) (Ok (lift_all little_endian (bytes_at m p Half)).val)
      → fetched r c m k ≡ fetch a map o c m k
  halfword-goes o c m k {p} {r} h q = go (lift_all little_endian (bytes_at m p Half)).mark refl
    where
      go : (t : Bool) → (lift_all little_endian (bytes_at m p Half)).mark ≡ t → fetched r c m k ≡ fetch a map o c m k
      go true t = rw (q, t) (fetch_secret o c m refl k h refl t)
      go false t = rw (q, t) (fetch-found o c m refl k h refl t refl)

-- what a first halfword stands for: alone, or with a second one
module _ (h : ℕ) (map : List ℕ) (o : Open) (c m : Cells) where
  pub alone : long h ≡ false → execute (decode h 0) map o c m ≡ completed h map o c m
  alone e = rw e

  pub with_second : long h ≡ true → fetch (sum24 o.pc 2) map o c m (λ w. execute (decode h w) map o c m) ≡ completed h map o c m
  with_second e = rw e

-- the same of a halfword h with these fields, and of what decodes from it
module _ (h : ℕ) {reg2 opcode reg1 : ℕ} (r2 : reg2 ≡ reg2_of h) (code : opcode ≡ opcode_of h) (r1 : reg1 ≡ reg1_of h) (map : List ℕ) (o : Open) (c m : Cells) where
  pub completed-long : 0b110000 ≤ opcode → fetch (sum24 o.pc 2) map o c m (λ w. execute (decode_fields reg2 opcode reg1 w) map o c m) ≡ completed h map o c m
  unfolding decode
  completed-long l = rw (le-leb 0b110000 (opcode_of h) (omega arith), r2, code, r1)

  pub completed-short : {d : Decoded} → h < 2 ^ 16 → opcode < 0b110000 → d ≡ decode h 0 → DecodedFields d × (execute d map o c m ≡ completed h map o c m)
  completed-short b l e = (rw e (decoded-fields h 0 b (omega arith)), rw (lt-leb 0b110000 (opcode_of h) (omega arith), e))

-- a place that was found, or not
module _ {p : Option Place} {s : Option ℕ} (e : spot_of p ≡ s) where
  pub at_place : {q : Place} → p ≡ Some q → Some q.at ≡ s
  at_place h = rw h at e

  pub no_place : p ≡ None → None ≡ s
  no_place h = rw h at e

-- what is refused decodes to nothing
pub undecoded : {d : Decoded} → d ≡ Undefined → DecodedFields d
undecoded e = subst DecodedFields (sym e) tt

-- a fetch that is refused
pub not_fetched : (f : Result ℕ Refusal) {r : Refusal} {c m : Cells} (k : ℕ → Outcome) {x : Outcome} → f ≡ Err r → refuse r.answer r.place c m ≡ x → fetched f c m k ≡ x
not_fetched f k h q = rw h q
