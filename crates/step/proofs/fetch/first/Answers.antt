-- PC is even; what lies there, or not, goes the definition's way.
use mathlib.Core.Path.{◌≡◌, refl, sym, ap, ◌∙◌}
use Rattle.std.proofs.Common.{rules}
use Rattle.std.specs.Prelude.{Result, Err, ℕ}
use Rattle.machine.specs.declared.Refusal.{Refusal}
use Rattle.machine.specs.declared.Answer.TheVariants.{Leak}
use Rattle.machine.specs.Marked.{both}
use Rattle.machine.specs.Step.{refuse}
use Rattle.step.specs.Tasks.{halfword_of}
use Rattle.step.specs.StepLaws.{secret, plain}
use Rattle.step.specs.FetchLaws.{half-fits, fetch-nowhere, fetch_secret, fetch-found}
use Rattle.step.proofs.fetch.first.Goals as goal

pub returns-in_default-clause-value : goal.returns-in_default-clause-value
returns-in_default-clause-value c o cs k at_pc =
    fetch-nowhere c.args.map.now c.args.pc c.requires.1 c.locate.ensures.0 o cs (both c.args.mem.now c.args.marks.now) refl k (rw c.in_default.is)

pub halfword-requires : goal.halfword-requires
halfword-requires c = half-fits c.args.map.now c.args.pc c.requires.1 c.locate.ensures.0 c.requires.0 (rw c.in-Some.is)

pub returns-in_err-h-clause-value : goal.returns-in_err-h-clause-value
returns-in_err-h-clause-value c o cs k at_pc =
    let marked = secret _ (sym c.halfword.ensures.value ∙ c.in_err-h.was) in
    let refused : ◌≡◌ {A = Result ℕ Refusal} (halfword_of c.from_residual.result) (Err c.in_err-h.field-0.0) = search rules in
    rw (refused, ← marked.1)
    (ap (λ (x : ℕ). refuse Leak x cs (both c.args.mem.now c.args.marks.now)) (sym at_pc)
    ∙ fetch_secret c.args.map.now c.args.pc c.requires.1 c.locate.ensures.0 o cs (both c.args.mem.now c.args.marks.now) refl k (rw c.in-Some.is) refl marked.0)

pub returns-clause-value : goal.returns-clause-value
returns-clause-value c o cs k at_pc =
    let shown = plain _ _ (sym c.halfword.ensures.value ∙ c.in_ok-h.was) in
    rw (← shown.1)
    (fetch-found c.args.map.now c.args.pc c.requires.1 c.locate.ensures.0 o cs (both c.args.mem.now c.args.marks.now) refl k (rw c.in-Some.is) refl shown.0 refl)
