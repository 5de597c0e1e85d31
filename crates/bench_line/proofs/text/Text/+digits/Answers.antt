-- The definition, digit by digit: what stands before the last digit (`front`), and the last digit.
use Rattle.std.proofs.Common.{◌≡◌, ◌++◌, ◌∷◌, [], ℕ, List, ◌<◌, ◌-◌, ◌/◌, ◌%◌, length, arith, ap, sym, ◌∙◌, append-nil, append_assoc, length-append}
use Rattle.bench_line.specs.Text.{glyph, digits}
use Rattle.bench_line.specs.TextLaws.{front, digits_none, digits_last, front_none, front_long, front_filled, digits_length}
use Rattle.bench_line.proofs.text.Text.+digits.Goals as goal
use Rattle.bench_line.proofs.text.Text.+digits.Goals.{then-n-base, then-n-base-via-then-n-base, then-n-base-via-else-n-base+then-least-gt1, else-n-base+else-least-gt1}

-- what is written before the last digit
before_last : (t : ℕ) (c : goal.After-glyph t) → c.if-n-base.self ≡ c.args.self.now ++ front c.args.base c.args.least c.args.most c.args.n
before_last t c =
    elim c.if-n-base.branch [
      | then-n-base w ↦
          w.self-is ∙ w.digits.ensures
          ∙ ap (λ (s : List ℕ). c.args.self.now ++ s)
          (ap (λ (l : ℕ). digits c.args.base l (c.args.most - 1) (c.args.n / c.args.base)) w.saturating_sub.ensures
          ∙ sym (elim w.then-n-base.branch [
            | then-n-base-via-then-n-base w' ↦ front_long c.args.base c.args.least c.args.most c.args.n w'.if-n-base.true
            | then-n-base-via-else-n-base+then-least-gt1 w' ↦ front_filled c.args.base c.args.least c.args.most c.args.n w'.if-least-gt1.true
          ]))
      | else-n-base+else-least-gt1 w ↦
          w.self-is ∙ sym (append-nil c.args.self.now)
          ∙ ap (λ (s : List ℕ). c.args.self.now ++ s) (sym (front_none c.args.base c.args.least c.args.most c.args.n w.if-n-base.false w.if-least-gt1.false))
    ]

pub returns-then-most-eq0 : goal.returns-then-most-eq0
returns-then-most-eq0 t c = sym (append-nil _) ∙ ap (λ (s : List ℕ). c.args.self.now ++ s) (sym (digits_none c.args.base c.args.least c.args.n c.if-most-eq0.true))

pub push-requires : goal.push-requires
push-requires t c =
    let args' = c.args in
    let h : 0 < args'.most = omega arith in
    omega (
      arith,
      ap length (before_last t c),
      length-append args'.self.now (front args'.base args'.least args'.most args'.n),
      ap length (digits_last args'.base args'.least args'.most args'.n h),
      length-append (front args'.base args'.least args'.most args'.n) (glyph (args'.n % args'.base) ∷ []),
      digits_length args'.base args'.least args'.most args'.n,
    )

pub returns : goal.returns
returns t c =
    let args' = c.args in
    let h : 0 < args'.most = omega arith in
    c.push.ensures
    ∙ ap (λ (s : List ℕ). s ++ (c.glyph.result ∷ [])) (before_last t c.before)
    ∙ append_assoc args'.self.now (front args'.base args'.least args'.most args'.n) (c.glyph.result ∷ [])
    ∙ ap (λ (d : ℕ). args'.self.now ++ (front args'.base args'.least args'.most args'.n ++ (d ∷ []))) c.glyph.ensures
    ∙ ap (λ (s : List ℕ). args'.self.now ++ s) (sym (digits_last args'.base args'.least args'.most args'.n h))
