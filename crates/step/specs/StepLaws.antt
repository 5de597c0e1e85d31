-- An instruction from its parts: what revealing and placing come to, the code's values beside the definition's; an operand that is found lies in
-- memory whole, and its marks beside it.
use Rattle.std.specs.Prelude.{◌≡◌, Option, Some, None, Result, Ok, Err, Bool, true, false, cond, ℕ, ◌+◌, ◌≤◌, List, length}
use Rattle.std.specs.Prelude.{refl}
use Rattle.std.proofs.Common.{arith}
use Rattle.insn.specs.declared.Size.{Size}
use Rattle.machine.specs.declared.Tv.{Tv}
use Rattle.machine.specs.declared.Open.{Open}
use Rattle.machine.specs.declared.Answer.{Answer}
use Rattle.machine.specs.declared.Answer.TheVariants.{Leak}
use Rattle.machine.specs.declared.Refusal.{Refusal}
use Rattle.machine.specs.Marked.{Cells}
use Rattle.machine.specs.Step.{Went, Outcome, after, next, refuse, reveal, place}
use Rattle.machine.specs.Regions.{find}
use Rattle.machine.specs.Memory.{width, aligned}
use Rattle.machine.specs.RegionLaws.{found-fits}
use Rattle.state.specs.Windows.{Laid}
use Rattle.state.specs.WindowLaws.{good_laid}
use Rattle.step.specs.Tasks.{Ready}

module _ (o : Open) (c m : Cells) {v b : Tv} (k : ℕ → Outcome) (e : b ≡ v) where
  pub opened : {x : Outcome} → b.mark ≡ false → x ≡ k b.val → x ≡ reveal o c m v k
  unfolding reveal
  opened h q = rw (← e, h) q

  pub leaked : {w : Went} → b.mark ≡ true → w ≡ Err (record { answer = Leak; place = o.pc }) → after w c m ≡ reveal o c m v k
  unfolding reveal
  leaked h q = rw (← e, h, q)

module _ (map : List ℕ) (right : ℕ) (answer : Answer) (c m : Cells) {a d : ℕ} {f : Option ℕ} (k : ℕ → Outcome) (e : d ≡ a) (g : f ≡ find map right d) where
  pub placed : {p : ℕ} {x : Outcome} → f ≡ Some p → x ≡ k p → x ≡ place map right answer a c m k
  unfolding place
  placed h q = rw (← e, ← g, h) q

  pub nowhere : f ≡ None → refuse answer d c m ≡ place map right answer a c m k
  unfolding place
  nowhere h = rw (← e, ← g, h)

pub on : {w : Went} {v o : Open} {c d m n : Cells} → w ≡ Ok v → v ≡ o → c ≡ d → m ≡ n → after w c m ≡ next o d n
on h p q r = rw (h, p, q, r)

-- the code can look for an address
pub finds : {map mem marks : List ℕ} → Ready map mem marks → Laid map
finds {map} {mem} r = good_laid map (length mem) r.small r.good

pub fits : {map mem marks : List ℕ} → Ready map mem marks → (s : Size) (right a : ℕ) {x p : ℕ} {f : Option ℕ}
    → x ≡ aligned s a → f ≡ find map right x → f ≡ Some p → (p + width s ≤ length mem) × (length mem ≡ length marks)
fits {map} {mem} r s right a {p = p} e g h = (found-fits map (length mem) r.good s right a p e g h, r.same)

-- a marked value is refused, and another one is what it is
pub secret : (v : Tv) {r x : Refusal} → ◌≡◌ {A = Result ℕ Refusal} (cond v.mark (Err r) (Ok v.val)) (Err x) → (v.mark ≡ true) × (r ≡ x)
secret v {r = r} {x = x} h = go v.mark h
  where
    go : (t : Bool) → ◌≡◌ {A = Result ℕ Refusal} (cond t (Err r) (Ok v.val)) (Err x) → (t ≡ true) × (r ≡ x)
    go true h = (refl, cc)
    go false h = let z : ◌≡◌ {A = ℕ} 0 1 = cc in absurd (omega arith)

pub plain : (v : Tv) (r : Refusal) {n : ℕ} → ◌≡◌ {A = Result ℕ Refusal} (cond v.mark (Err r) (Ok v.val)) (Ok n) → (v.mark ≡ false) × (v.val ≡ n)
plain v r {n = n} h = go v.mark h
  where
    go : (t : Bool) → ◌≡◌ {A = Result ℕ Refusal} (cond t (Err r) (Ok v.val)) (Ok n) → (t ≡ false) × (v.val ≡ n)
    go true h = let z : ◌≡◌ {A = ℕ} 0 1 = cc in absurd (omega arith)
    go false h = (refl, cc)
