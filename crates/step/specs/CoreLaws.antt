-- What is never marked, in two numbers: packed and taken out it is the same, and what a step makes of it fits again.
use Rattle.std.specs.Prelude.{◌≡◌, Result, Ok, ℕ, ◌+◌, ◌*◌, ◌/◌, ◌%◌, ◌^◌, ◌<◌, ◌&&◌, ◌==◌}
use Rattle.std.proofs.Common.{sym, ap, ◌∙◌, arith}
use Rattle.word.specs.Extend.{sum24}
use Rattle.machine.specs.declared.Open.{Open}
use Rattle.machine.specs.declared.Refusal.{Refusal}
use Rattle.machine.specs.Marked.{Cells}
use Rattle.machine.specs.Psw.{EIPC, EIPSW, FEPC, FEPSW}
use Rattle.machine.specs.Step.{Went, Outcome, after, next, goto, plus, modes, cause, waits, exception, trap, illegal, return, reti, take_nmi, take_code}
use Rattle.machine.specs.WellFormed.{WellFormed}
use Rattle.machine.specs.InvariantLaws.{code_target, Ends, next-ends, reveal-ends, cond_ends}
use Rattle.step.specs.declared.tasks.System.{System}
use Rattle.step.specs.declared.tasks.System.TheVariants.{Trap, Halt, Reti, Di, Ei}
use Rattle.step.specs.declared.unmarked.Packed.{Packed}
use Rattle.step.specs.declared.unmarked.Next.{Next}
use Rattle.step.specs.Tasks.{open_of, Fits, went_of, do_system}

abbrev pub packed : ℕ → ℕ → Packed
packed p r = record { pc = p; rest = r }

-- PC alone
pub goto-packed : (p q r : ℕ) → p < 2 ^ 32 → open_of (packed p r) ≡ goto p (open_of (packed q r))
goto-packed p q r h = let e : p % 2 ^ 32 ≡ p = omega arith in rw e

-- taken out, it fits
pub taken : (c : Packed) (o : Open) → o.pc ≡ (open_of c).pc → o.np ≡ (open_of c).np → o.ep ≡ (open_of c).ep → o.id ≡ (open_of c).id → o.ecr ≡ (open_of c).ecr
    → o.code ≡ (open_of c).code → o.nmi ≡ (open_of c).nmi → o.halted ≡ (open_of c).halted → (o ≡ open_of c) × Fits o
taken c o p n e i x k m h =
    let same : o ≡ open_of c = rw (← p, ← n, ← e, ← i, ← x, ← k, ← m, ← h) in (
      same,
      record {
        np = rw n (omega arith);
        ep = rw e (omega arith);
        id = rw i (omega arith);
        code = rw k (omega arith);
        nmi = rw m (omega arith);
        halted = rw h (omega arith);
      },
    )

bit_of : (b h x : ℕ) → b < 2 → x ≡ b + 2 * h → x % 2 ≡ b
bit_of b h x l e = omega arith

-- the parts, put together and taken out
abbrev pub together : Open → ℕ
together o = o.code + 2 ^ 16 * o.nmi + 2 ^ 17 * o.halted + 2 ^ 18 * o.id + 2 ^ 19 * o.ep + 2 ^ 20 * o.np + 2 ^ 32 * o.ecr

pub closed : (o : Open) (r : ℕ) → Fits o → o.pc < 2 ^ 32 → r ≡ together o → open_of (packed o.pc r) ≡ o
closed o r f h e =
    let e0 : o.pc % 2 ^ 32 ≡ o.pc = omega arith in
    let d4 : r / 2 ^ 32 ≡ o.ecr = omega (arith, f.np, f.ep, f.id, f.code, f.nmi, f.halted) in
    let d1 : r / 2 ^ 20 ≡ o.np + 2 ^ 12 * o.ecr = omega (arith, f.np, f.ep, f.id, f.code, f.nmi, f.halted) in
    let d2 : r / 2 ^ 19 ≡ o.ep + 2 * o.np + 2 ^ 13 * o.ecr = omega (arith, f.np, f.ep, f.id, f.code, f.nmi, f.halted) in
    let d3 : r / 2 ^ 18 ≡ o.id + 2 * o.ep + 4 * o.np + 2 ^ 14 * o.ecr = omega (arith, f.np, f.ep, f.id, f.code, f.nmi, f.halted) in
    let d7 : r / 2 ^ 17 ≡ o.halted + 2 * o.id + 4 * o.ep + 8 * o.np + 2 ^ 15 * o.ecr = omega (arith, f.np, f.ep, f.id, f.code, f.nmi, f.halted) in
    let d6 : r / 2 ^ 16 ≡ o.nmi + 2 * o.halted + 4 * o.id + 8 * o.ep + 16 * o.np + 2 ^ 16 * o.ecr = omega (arith, f.np, f.ep, f.id, f.code, f.nmi, f.halted) in
    let e1 : r / 2 ^ 20 % 2 ≡ o.np = rw d1 (bit_of o.np (2 ^ 11 * o.ecr) _ f.np (omega arith)) in
    let e2 : r / 2 ^ 19 % 2 ≡ o.ep = rw d2 (bit_of o.ep (o.np + 2 ^ 12 * o.ecr) _ f.ep (omega arith)) in
    let e3 : r / 2 ^ 18 % 2 ≡ o.id = rw d3 (bit_of o.id (o.ep + 2 * o.np + 2 ^ 13 * o.ecr) _ f.id (omega arith)) in
    let e5 : r % 2 ^ 16 ≡ o.code = omega (arith, f.code, d6) in
    let e6 : r / 2 ^ 16 % 2 ≡ o.nmi = rw d6 (bit_of o.nmi (o.halted + 2 * o.id + 4 * o.ep + 8 * o.np + 2 ^ 15 * o.ecr) _ f.nmi (omega arith)) in
    let e7 : r / 2 ^ 17 % 2 ≡ o.halted = rw d7 (bit_of o.halted (o.id + 2 * o.ep + 4 * o.np + 2 ^ 14 * o.ecr) _ f.halted (omega arith)) in
    rw (e0, e1, e2, e3, d4, e5, e6, e7)

-- What changes more than PC leads to what fits
module _ {o : Open} (f : Fits o) where
  goto-fits : (p : ℕ) → Fits (goto p o)
  goto-fits p = record { np = f.np; ep = f.ep; id = f.id; code = f.code; nmi = f.nmi; halted = f.halted }

  modes-fits : (n e i : ℕ) → n < 2 → e < 2 → i < 2 → Fits (modes n e i o)
  modes-fits n e i h k l = record { np = h; ep = k; id = l; code = f.code; nmi = f.nmi; halted = f.halted }

  cause-fits : (x : ℕ) → Fits (cause x o)
  cause-fits x = record { np = f.np; ep = f.ep; id = f.id; code = f.code; nmi = f.nmi; halted = f.halted }

  waits-fits : (k n h : ℕ) → k < 2 ^ 16 → n < 2 → h < 2 → Fits (waits k n h o)
  waits-fits k n h d e l = record { np = f.np; ep = f.ep; id = f.id; code = d; nmi = e; halted = l }

abbrev Fitting : Cells → Cells → Outcome → Type 0
Fitting c m x = Ends (λ o' c' m'. Fits o') c m x

module _ {o : Open} (f : Fits o) {c m : Cells} where
  on_fits : (p : ℕ) {o' : Open} {c' : Cells} → Fits o' → Fitting c m (next (goto p o') c' m)
  on_fits p g = next-ends (goto-fits g p)

  exception-fits : (code target np : ℕ) → np < 2 → Fitting c m (exception code target np o c m)
  unfolding exception
  exception-fits code target np h = on_fits target (cause-fits (modes-fits f np 1 1 h (omega arith) (omega arith)) _)

  return_fits : (pc saved : ℕ) → Fitting c m (return pc saved o c m)
  unfolding return
  return_fits pc saved =
      reveal-ends o _ _ (reveal-ends o _ _
      (on_fits _ (modes-fits f _ _ _ (omega arith) (omega arith) (omega arith))))

  pub system-fits : (s : System) → Fitting c m (do_system s o c m)
  unfolding do_system trap reti
  system-fits (Trap vector) = exception-fits _ _ _ f.np
  system-fits Halt = on_fits _ (waits-fits f _ _ 1 f.code f.nmi (omega arith))
  system-fits Reti = cond_ends (o.ep == 0 && o.np == 1) (return_fits FEPC FEPSW) (return_fits EIPC EIPSW)
  system-fits Di = on_fits _ (modes-fits f _ _ 1 f.np f.ep (omega arith))
  system-fits Ei = on_fits _ (modes-fits f _ _ 0 f.np f.ep (omega arith))

  pub illegal-fits : Fitting c m (illegal o c m)
  unfolding illegal
  illegal-fits = exception-fits 0x60 0x60 _ f.np

  pub nmi-fits : Fitting c m (take_nmi o c m)
  unfolding take_nmi
  nmi-fits =
      on_fits 0x10 (cause-fits (modes-fits (waits-fits f _ 0 0 f.code (omega arith) (omega arith)) 1 0 1 (omega arith) (omega arith) (omega arith)) _)

  pub code_fits : Fitting c m (take_code o c m)
  unfolding take_code
  code_fits =
      on_fits _ (cause-fits (modes-fits (waits-fits f 0 _ 0 (omega arith) f.nmi (omega arith)) _ 0 1 f.np (omega arith) (omega arith)) _)

-- code's result of it fits
pub wide_fits : (r : Result Open Refusal) {c m d q : Cells} {x : Outcome} → after r d q ≡ x → Fitting c m x → (o : Open) → r ≡ Ok o → Fits o
wide_fits r e f o h = f.went o (ap (λ (y : Outcome). y.went) (sym e) ∙ h)

-- so do the modes that LDSR writes
pub psw-fits : {o : Open} → Fits o → (x : ℕ) → Fits (plus 4 (modes (x / 2 ^ 7 % 2) (x / 2 ^ 6 % 2) (x / 2 ^ 5 % 2) o))
psw-fits {o} f x = goto-fits (modes-fits f _ _ _ (omega arith) (omega arith) (omega arith)) (sum24 o.pc 4)

-- three bits side by side
two-parts : (q : ℕ) → q % 4 ≡ q % 2 + 2 * (q / 2 % 2)
two-parts q = omega arith

three_parts : (q : ℕ) → q % 8 ≡ q % 2 + 2 * (q / 2 % 4)
three_parts q = omega arith

pub side_by_side : (r : ℕ) → r / 2 ^ 18 % 8 ≡ r / 2 ^ 18 % 2 + 2 * (r / 2 ^ 19 % 2) + 4 * (r / 2 ^ 20 % 2)
side_by_side r =
    let h : r / 2 ^ 19 ≡ r / 2 ^ 18 / 2 = omega arith in
    let k : r / 2 ^ 20 ≡ r / 2 ^ 18 / 2 / 2 = omega arith in
    let a = three_parts (r / 2 ^ 18) in
    let b = two-parts (r / 2 ^ 18 / 2) in
    rw (h, k) (omega (arith, a, b))

-- modes that are those of the state leave it as it is
three_bits : (i e n x : ℕ) → i < 2 → e < 2 → n < 2 → i + 2 * e + 4 * n ≡ x / 2 ^ 5 % 8 → (x / 2 ^ 7 % 2 ≡ n) × (x / 2 ^ 6 % 2 ≡ e) × (x / 2 ^ 5 % 2 ≡ i)
three_bits i e n x h k l q = (omega arith, omega arith, omega arith)

pub modes_kept : (c : Packed) (x : ℕ) → (open_of c).id + 2 * (open_of c).ep + 4 * (open_of c).np ≡ x / 2 ^ 5 % 8
    → modes (x / 2 ^ 7 % 2) (x / 2 ^ 6 % 2) (x / 2 ^ 5 % 2) (open_of c) ≡ open_of c
modes_kept c x q =
    let b = three_bits (open_of c).id (open_of c).ep (open_of c).np x (omega arith) (omega arith) (omega arith) q in rw (b.0, b.1, b.2)

pub settled : (o : Packed) (w : Went) (r : Result Next Refusal) {c m : Cells} {x : Outcome} → went_of o r ≡ w → after w c m ≡ x → after (went_of o r) c m ≡ x
settled o w r h e = rw h e

-- a well-formed state fits
pub formed-fits : {o : Open} {c : Cells} → WellFormed o c → Fits o
formed-fits {o} w = record { np = w.core.np; ep = w.core.ep; id = w.core.id; code = (code_target o.code w.core.code).1; nmi = w.core.nmi; halted = w.core.halted }
