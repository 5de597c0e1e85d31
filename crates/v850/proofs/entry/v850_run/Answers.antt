-- What the checks answered is what the definition's tests ask (`started`, `size_left`, `refusal_left`).
use Rattle.std.proofs.Common.{◌∙◌, sym, ap, rules, Err, inl, inr}
use Rattle.machine.specs.declared.Answer.{Answer}
use Rattle.v850.proofs.CallLaws.{sizes_of, outcome, passed, size_left, refusal_left, map_or_state, started, starts_ready, starts_formed, ends-formed, ends-called}
use Rattle.v850.proofs.entry.v850_run.Goals as goal

pub run-e-requires : goal.run-e-requires
run-e-requires c =
    let s = started (outcome (sym c.in-Ok.is ∙ c.checked.ensures)) c.core.ensures c.cells-cells.ensures in
    (starts_ready s, starts_formed s (record { at = λ i. search rules }))

pub of-left-requires : goal.of-left-requires
of-left-requires c =
    ends-formed (started (outcome (sym c.in-Ok.is ∙ c.checked.ensures)) c.core.ensures c.cells-cells.ensures) _ c.run-e.ensures
    (record { at = λ i. search rules }) (record { at = λ i. search rules })

pub write-requires : goal.write-requires
write-requires c = (sizes_of _ c.args.memory.now c.args.marks.now c.args.report.now (passed (outcome (sym c.in-Ok.is ∙ c.checked.ensures))).0.sizes).0

pub put_report-requires : goal.put_report-requires
put_report-requires c = (sizes_of _ c.args.memory.now c.args.marks.now c.args.report.now (passed (outcome (sym c.in-Ok.is ∙ c.checked.ensures))).0.sizes).1

pub returns-in-Ok : goal.returns-in-Ok
returns-in-Ok c =
    ends-called (started (outcome (sym c.in-Ok.is ∙ c.checked.ensures)) c.core.ensures c.cells-cells.ensures) _ c.run-e.ensures
    c.of-left.ensures c.write.ensures c.put_report.ensures c.from.ensures

pub returns-in-Err-Size : goal.returns-in-Err-Size
returns-in-Err-Size c = size_left _ (outcome (ap (λ (a : Answer). Err a) (sym c.in-Err-Size.field-0-is) ∙ sym c.in-Err-Size.is ∙ c.checked.ensures))

pub returns-in-Err : goal.returns-in-Err
returns-in-Err c =
    let told = outcome (sym c.in-Err.is ∙ c.checked.ensures) in
    let whole = refusal_left c.args.budget told (λ e. search rules) (c.fill.ensures.after (λ y k. search rules)) in
    elim (map_or_state told (λ e. search rules)) [ inl e ↦ rw (c.from-in-Err.ensures, e) (rw e at whole) | inr e ↦ rw (c.from-in-Err.ensures, e) (rw e at whole) ]
