-- Laws of the line: what the code has at each return is what the definition says.
use Rattle.std.specs.Prelude.{◌≡◌, refl, List, ℕ, zero, suc, ◌+◌, ◌-◌, ◌≤◌, ◌<◌, ◌++◌, length, drop, replicate}
use Rattle.std.proofs.Common.{sym, ◌∙◌, arith, le-leb, length-append}
use Rattle.std.proofs.Math.Path.{ap}
use Rattle.std.proofs.lemmas.Bool.{lt-leb}
use Rattle.std.proofs.lemmas.List.{length-replicate}
use Rattle.std.proofs.lemmas.List.Edits.{sets-eq}
use Rattle.v850.specs.Block.{word_at, at_pc, at_psw, at_steps, at_place}
use Rattle.v850.specs.Entry.{Left, called}
use Rattle.bench_line.specs.Text.{DIGITS, Wrote}
use Rattle.bench_line.specs.TextLaws.{hex-length, decimal-length}
use Rattle.bench_line.specs.Line.{IMAGE, BUDGET, padded, start_block, no_report, Leaves, ran, line_of, line, LONGEST}

abbrev zeros : ℕ → List ℕ
zeros n = replicate n 0

zeros_left : (n k : ℕ) → k ≤ n → drop k (zeros n) ≡ zeros (n - k)
zeros_left n zero h = ap zeros {x = n} {y = n - 0} (omega arith)
zeros_left zero (suc k) h = absurd (omega arith)
zeros_left (suc n) (suc k) h = zeros_left n k (omega arith) ∙ ap zeros {x = n - k} {y = suc n - suc k} (omega arith)

-- the input written to zeros
pub padded_wrote : (input after : List ℕ) (next : ℕ) → length input ≤ IMAGE → Wrote (zeros IMAGE) 0 input after next → after ≡ padded input
padded_wrote input after next h w =
    let n : length (zeros IMAGE) ≡ IMAGE = length-replicate {A = ℕ} IMAGE 0 in
    let z : 0 + length input ≡ length input = omega arith in
    w.bytes ∙ sets-eq input (zeros IMAGE) 0 (omega arith)
    ∙ ap (λ (s : List ℕ). input ++ s) (ap (λ (k : ℕ). drop k (zeros IMAGE)) z ∙ zeros_left IMAGE (length input) h)

-- an input that is not run, and one that is
module _ (input : List ℕ) {block report : List ℕ} (b : block ≡ start_block) (r : report ≡ no_report) where
  pub not_run : IMAGE < length input → Leaves (ran input) 1 block report
  unfolding ran
  not_run h = rw (lt-leb (length input) IMAGE h) (record { answer = refl; block = b; report = r })

  pub run-left : {image : List ℕ} (l : Left) → length input ≤ IMAGE → image ≡ padded input → l ≡ called block image (zeros IMAGE) report BUDGET
      → Leaves (ran input) l.answer l.block l.report
  unfolding ran
  run-left l h i e =
      let same : l ≡ called start_block (padded input) (zeros IMAGE) no_report BUDGET = rw (b, i, r) at e in
      rw (le-leb (length input) IMAGE h)
      (record { answer = ap (λ (x : Left). x.answer) same; block = ap (λ (x : Left). x.block) same; report = ap (λ (x : Left). x.report) same })

-- the line of what a run left
pub line_wrote : (input : List ℕ) {before after block report : List ℕ} {next answer steps pc psw place : ℕ}
    → Leaves (ran input) answer block report → steps ≡ word_at report at_steps → pc ≡ word_at block at_pc → psw ≡ word_at block at_psw → place ≡ word_at report at_place
    → Wrote before 0 (line_of answer steps pc psw place) after next → Wrote before 0 (line input) after next
unfolding line
line_wrote input e s c p l w = rw (s, c, p, l, e.answer, e.block, e.report) at w

-- THE THEOREMS

pub line_of_fits : (answer steps pc psw place : ℕ) → length (line_of answer steps pc psw place) ≤ LONGEST
line_of_fits answer steps pc psw place =
    simp (length-append, hex-length) (omega (arith, decimal-length DIGITS answer, decimal-length DIGITS steps))

-- The line fits its room, whatever the input.
pub line-fits : (input : List ℕ) → length (line input) ≤ LONGEST
unfolding line
line-fits input = line_of_fits _ _ _ _ _

-- An input has one line: its length, and every byte of the room.
pub line_one : (input before after after' : List ℕ) (n n' : ℕ) → Wrote before 0 (line input) after n → Wrote before 0 (line input) after' n'
    → (after ≡ after') × (n ≡ n')
line_one input before after after' n n' p q = (p.bytes ∙ sym q.bytes, p.place ∙ sym q.place)
