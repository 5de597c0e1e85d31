-- A run from its steps: the state after each is ready and well-formed, and what is left of the run goes on from there.
use Rattle.std.specs.Prelude.{◌≡◌, Ok, Err, ℕ, suc, ◌+◌, ◌-◌, ◌<◌, ◌≤◌, true, false, List, length}
use Rattle.std.specs.Prelude.{refl}
use Rattle.std.proofs.Common.{true≢false, sym, ap, ◌∙◌, subst, arith}
use Rattle.std.proofs.Math.Numerals.{add-one}
use Rattle.machine.specs.declared.Open.{Open}
use Rattle.machine.specs.declared.Answer.{Answer}
use Rattle.machine.specs.declared.Answer.TheVariants.{Done}
use Rattle.machine.specs.Marked.{Cells, both}
use Rattle.machine.specs.Step.{Outcome, after, next, refuse, nmi_accepted, code_accepted, step}
use Rattle.machine.specs.Run.{Ended, ended, carry, run}
use Rattle.machine.specs.WellFormed.{WellFormed, Bytes}
use Rattle.machine.proofs.Invariants.{step_well_formed}
use Rattle.machine.specs.declared.Refusal.{Refusal}
use Rattle.step.specs.declared.unmarked.Packed.{Packed}
use Rattle.step.specs.declared.unmarked.Next.{Next}
use Rattle.step.specs.declared.unmarked.Next.TheVariants.{Calm, Changed}
use Rattle.step.specs.Tasks.{open_of, acts, next_of, is_calm, Ready}

left : (b n : ℕ) → n < b → b - n ≡ suc (b - (n + 1))
left b n h = omega arith

module _ (b n : ℕ) (map : List ℕ) (o : Open) (c m : Cells) (h : n < b) where
  run-next : {p : Open} {d q : Cells} → next p d q ≡ step map o c m → run (b - (n + 1)) (n + 1) map p d q ≡ run (b - n) n map o c m
  unfolding run
  run-next e = rw (left b n h, ← e, add-one n) (unfold carry in refl)

  run_refused : {a : Answer} {p : ℕ} {d q : Cells} → refuse a p d q ≡ step map o c m → ended a p n o d q ≡ run (b - n) n map o c m
  unfolding run
  run_refused e = rw (left b n h, ← e) (unfold carry in refl)

-- no budget is left
run_end : (b n : ℕ) (map : List ℕ) (o : Open) (c m : Cells) → b ≤ n → ended Done 0 n o c m ≡ run (b - n) n map o c m
unfolding run
run_end b n map o c m h = let e : b - n ≡ 0 = omega arith in rw e

-- a step that goes on leads to a well-formed state
formed-on : (map : List ℕ) (o : Open) (c m : Cells) {p : Open} {d q : Cells} → next p d q ≡ step map o c m → WellFormed o c → Bytes m → WellFormed p d × Bytes q
formed-on map o c m {p} e f b =
    let g = step_well_formed map o c m f b p (ap (λ (x : Outcome). x.went) (sym e)) in (
      subst (λ (x : Cells). WellFormed p x) (ap (λ (x : Outcome). x.cells) (sym e)) g.0,
      subst Bytes (ap (λ (x : Outcome). x.mem) (sym e)) g.1,
    )

-- On the way of a run of b steps that ends as x and began with the memory m₀ and the marks k₀: n steps are done
pub record Going (b : ℕ) (map m₀ k₀ : List ℕ) (x : Ended) (n : ℕ) (o : Open) (c : Cells) (m k : List ℕ) : Type 0 where
  pub within : n ≤ b
  pub ready : Ready map m k
  pub formed : WellFormed o c
  pub bytes : Bytes (both m k)
  pub mem : length m ≡ length m₀
  pub marks : length k ≡ length k₀
  pub ends : run (b - n) n map o c (both m k) ≡ x

-- memory and marks as long as they were are ready too
pub still_ready : {map m k m₀ k₀ : List ℕ} → Ready map m₀ k₀ → length m ≡ length m₀ → length k ≡ length k₀ → Ready map m k
still_ready r h j = record { good = rw h r.good; same = h ∙ r.same ∙ sym j; small = omega (arith, r.small) }

module _ {b n : ℕ} {map m₀ k₀ m k : List ℕ} {x : Ended} {c : Cells} (o : Packed) (g : Going b map m₀ k₀ x n (open_of o) c m k) where
  -- at the end of the budget
  pub all_done : b ≤ n → ended Done 0 n (open_of o) c (both m k) ≡ x
  all_done h = run_end b n map (open_of o) c (both m k) h ∙ g.ends

  module _ (h : n < b) {d : Cells} {m' k' : List ℕ} where
    -- the step went on
    pub goes_on : (w : Next) → after (Ok (open_of (next_of o w))) d (both m' k') ≡ step map (open_of o) c (both m k)
        → length m' ≡ length m → length k' ≡ length k → (p : Packed) → p ≡ next_of o w
        → Going b map m₀ k₀ x (n + 1) (open_of p) d m' k'
    goes_on w e lm lk p q =
        let f = formed-on map (open_of o) c (both m k) e g.formed g.bytes in
        record {
          within = omega arith;
          ready = still_ready g.ready lm lk;
          formed = rw q f.0;
          bytes = f.1;
          mem = lm ∙ g.mem;
          marks = lk ∙ g.marks;
          ends = rw q (run-next b n map (open_of o) c (both m k) h e) ∙ g.ends;
        }

    -- the step was refused
    pub stopped : (r : Refusal) → after (Err r) d (both m' k') ≡ step map (open_of o) c (both m k) → ended r.answer r.place n (open_of o) d (both m' k') ≡ x
    stopped r e = run_refused b n map (open_of o) c (both m k) h e ∙ g.ends

-- after a calm step nothing new comes before the next instruction
pub still_calm : (o p : Packed) (w : Next) → acts (open_of o) ≡ false → p ≡ next_of o w → is_calm w ≡ true → acts (open_of p) ≡ false
unfolding nmi_accepted code_accepted
still_calm o p (Calm pc) a q h = rw q a
still_calm o p (Changed c) a q h = absurd (true≢false (sym h))
