-- Numbers as text: their digits read back as the number, in decimal with no zero in front, in hex by as many digits as were asked for.
use Rattle.std.specs.Prelude.{◌≡◌, refl, Bool, true, false, cond, List, [], ◌∷◌, ◌++◌, ℕ, zero, suc, ◌+◌, ◌-◌, ◌*◌, ◌/◌, ◌%◌, ◌^◌, ◌<◌, ltb, get_or}
use Rattle.std.proofs.Common.{sym, ap, ◌∙◌, arith, pow-suc, mod-eq_of_lt, ltb-true, ltb-false, lt-ltb, le-ltb}
use Prim.Native.Char.{code}
use Rattle.std.proofs.Math.Nat.{one-le-pow}
use Rattle.std.proofs.Math.Arith.{mod-mul}
use Rattle.bench_line.specs.Text.{glyph, hex, decimal_in, decimal, DIGITS}

-- the number that a digit stands for
unfoldable pub digit : ℕ → ℕ
digit g = cond (ltb g (code "A")) (g - code "0") (10 + (g - code "A"))

-- the number that digits stand for in a base, the highest first, behind those of n
unfoldable pub read_on : (base n : ℕ) → List ℕ → ℕ
read_on base n [] = n
read_on base n (g ∷ s) = read_on base (n * base + digit g) s

abbrev pub read : ℕ → List ℕ → ℕ
read base s = read_on base 0 s

digit_glyph : (d : ℕ) → d < 16 → digit (glyph d) ≡ d
unfolding digit glyph
digit_glyph d h = go (ltb d 10) refl
  where
    go : (t : Bool) → ltb d 10 ≡ t → digit (glyph d) ≡ d
    go true e =
        let l : code "0" + d < code "A" = omega (arith, ltb-true d 10 e) in
        rw (e, lt-ltb (code "0" + d) (code "A") l) (omega arith)
    go false e =
        let l = ltb-false d 10 e in
        rw (e, le-ltb (code "A" + (d - 10)) (code "A") (omega arith)) (omega arith)

-- one more digit, the lowest
read_more : (base n : ℕ) (s : List ℕ) (g : ℕ) → read_on base n (s ++ (g ∷ [])) ≡ read_on base n s * base + digit g
unfolding read_on
read_more base n [] g = refl
read_more base n (x ∷ s) g = read_more base (n * base + digit x) s g

read_next : (base : ℕ) (s : List ℕ) (d : ℕ) {m : ℕ} → d < 16 → read base s ≡ m → read base (s ++ (glyph d ∷ [])) ≡ m * base + d
read_next base s d h e = read_more base 0 s (glyph d) ∙ rw (e, digit_glyph d h)

decimal-reads : (k n : ℕ) → n < 10 ^ k → read 10 (decimal_in k n) ≡ n
unfolding decimal_in read_on
decimal-reads zero n h = omega arith
decimal-reads (suc k) n h = go (ltb n 10) refl (decimal-reads k (n / 10) (omega (arith, pow-suc 10 k)))
  where
    go : (t : Bool) → ltb n 10 ≡ t → read 10 (decimal_in k (n / 10)) ≡ n / 10
        → read 10 (cond t (glyph n ∷ []) (decimal_in k (n / 10) ++ (glyph (n % 10) ∷ []))) ≡ n
    go true e r = read_next 10 [] n (omega (arith, ltb-true n 10 e)) refl ∙ omega arith
    go false e r = read_next 10 (decimal_in k (n / 10)) (n % 10) (omega arith) r ∙ omega arith

-- what stands in front stays there
first : (g : ℕ) (s t : List ℕ) → g < get_or s 0 0 → g < get_or (s ++ t) 0 0
first g [] t h = absurd (omega arith)
first g (x ∷ s) t h = h

decimal_first : (k n : ℕ) → 0 < n → n < 10 ^ k → code "0" < get_or (decimal_in k n) 0 0
unfolding decimal_in glyph
decimal_first zero n z h = absurd (omega arith)
decimal_first (suc k) n z h = go (ltb n 10) refl (λ p. decimal_first k (n / 10) p (omega (arith, pow-suc 10 k)))
  where
    go : (t : Bool) → ltb n 10 ≡ t → (0 < n / 10 → code "0" < get_or (decimal_in k (n / 10)) 0 0)
        → code "0" < get_or (cond t (glyph n ∷ []) (decimal_in k (n / 10) ++ (glyph (n % 10) ∷ []))) 0 0
    go true e f = rw e (omega arith)
    go false e f = first (code "0") (decimal_in k (n / 10)) _ (f (omega (arith, ltb-false n 10 e)))

-- THE THEOREMS

-- A word in decimal reads back, and has no zero in front, but for 0 itself.
pub decimal-reads_back : (n : ℕ) → n < 2 ^ 32 → read 10 (decimal n) ≡ n
decimal-reads_back n h = decimal-reads DIGITS n (omega arith)

pub decimal_no_zero : (n : ℕ) → 0 < n → n < 2 ^ 32 → code "0" < get_or (decimal n) 0 0
decimal_no_zero n z h = decimal_first DIGITS n z (omega arith)

-- In hex of k digits a number reads back by its last k digits; and whole, where they hold it.
pub hex-reads_back : (k n : ℕ) → read 16 (hex k n) ≡ n % 16 ^ k
unfolding hex read_on
hex-reads_back zero n = omega arith
hex-reads_back (suc k) n =
    read_next 16 (hex k (n / 16)) (n % 16) (omega arith) (hex-reads_back k (n / 16))
    ∙ sym (mod-mul n {m = 16 ^ k} {c = 16} (one-le-pow k 16 (omega arith)) (omega arith))
    ∙ ap (λ (m : ℕ). n % m) (sym (pow-suc 16 k))

pub hex-whole : (k n : ℕ) → n < 16 ^ k → read 16 (hex k n) ≡ n
hex-whole k n h = hex-reads_back k n ∙ mod-eq_of_lt h
