-- The library's quotient and its overflow, in the definition's words.
use Rattle.std.specs.Prelude.{int_div}
use Rattle.std.proofs.Common.{◌≡◌, ◌^◌, ◌%◌, ◌∙◌, inl, inr, eq-eqb, ne_eqb}
use Rattle.std.proofs.lemmas.Bool.{cases_Bool}
use Rattle.word.specs.Word.{signed, signed_half, overflow}
use Rattle.word.specs.Products.{divh}
use Rattle.word.proofs.Readings.{read, word-read, half-zero, half-fits}
use Rattle.word.proofs.Exact.{overflows, divides}
use Rattle.word.specs.Bounds.{signed-size, quotient-word}
use Rattle.word.proofs.products.divh.Goals as goal

pub returns-then-d-eq0 : goal.returns-then-d-eq0
unfolding divh
returns-then-d-eq0 c =
    let zero = half-zero c.args.b (rw c.signed_half-d.ensures at c.if-d-eq0.true) in
    simp (eq-eqb _ _ zero)

pub returns : goal.returns
unfolding divh
returns c =
    let a = c.args.a in
    let b = c.args.b in
    let x = read c.cast_signed.type_inv c.cast_signed.ensures in
    let y = read c.signed_half-d.type_inv c.signed_half-d.ensures in
    let q = c.overflowing_div-q.ensures in
    let nonzero = ne_eqb _ _ (λ (e : b % 2 ^ 16 ≡ 0). c.if-d-eq0.false (rw (c.signed_half-d.ensures, e))) in
    let told = overflows _ _ (divides (signed a) (signed_half b) _ (record { sfits = signed-size a c.ranges.a.fits }) (half-fits b) (rw (x, y) at q.overflow)) in
    let word = word-read (quotient-word a b c.ranges.a.fits) (rw (x, y) at q.value) in
    -- where it overflows, and where it does not, all else computes
    c.new.ensures
    ∙ elim (cases_Bool (overflow (int_div (signed a) (signed_half b)))) [ inl t ↦ rw (nonzero, c.cast_unsigned.ensures, word, told, t) | inr t ↦ rw (nonzero, c.cast_unsigned.ensures, word, told, t) ]
