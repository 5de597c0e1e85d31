-- Laws of text: how long it is, that pieces written one after the other are one text, and that hex and decimal are digits in a base.
use Rattle.std.specs.Prelude.{◌≡◌, refl, Bool, true, false, cond, List, [], ◌∷◌, ◌++◌, ℕ, zero, suc, ◌+◌, ◌-◌, ◌/◌, ◌%◌, ◌≤◌, ◌<◌, ltb, leb, ◌||◌, length, take, drop, set, get_or}
use Rattle.std.proofs.Common.{sym, ap, ◌∙◌, subst, arith, add-one, lt-ltb, le-ltb, le-leb, ltb-true, ltb-false, length-append, length-take-le, take_all, take-suc}
use Rattle.std.proofs.lemmas.Bool.{lt-leb}
use Rattle.std.proofs.lemmas.List.Edits.{sets, sets-eq}
use Rattle.std.proofs.Math.Seq.{length-sets}
use Rattle.bench_line.specs.Text.{glyph, hex, decimal_in, decimal, digits, DIGITS, Wrote}

-- as many digits as were asked for
pub hex-length : (k n : ℕ) → length (hex k n) ≡ k
unfolding hex
hex-length zero n = refl
hex-length (suc k) n = omega (arith, length-append (hex k (n / 16)) (glyph (n % 16) ∷ []), hex-length k (n / 16))

-- at most as many
pub decimal-length : (k n : ℕ) → length (decimal_in k n) ≤ k
unfolding decimal_in
decimal-length zero n = omega arith
decimal-length (suc k) n = go (ltb n 10) (decimal-length k (n / 10))
  where
    go : (t : Bool) → length (decimal_in k (n / 10)) ≤ k → length (cond t (glyph n ∷ []) (decimal_in k (n / 10) ++ (glyph (n % 10) ∷ []))) ≤ suc k
    go true h = omega arith
    go false h = omega (arith, length-append (decimal_in k (n / 10)) (glyph (n % 10) ∷ []))

-- the list is as long as it was
pub wrote_long : {l l' s : List ℕ} {at n : ℕ} → Wrote l at s l' n → length l' ≡ length l
wrote_long {l} {l'} {s} {at} p = ap length p.bytes ∙ length-sets l at s

-- one more byte, and two texts one after the other
pub sets_append : (s t l : List ℕ) (at : ℕ) → sets (sets l at s) (at + length s) t ≡ sets l at (s ++ t)
sets_append [] t l at = ap (λ (k : ℕ). sets l k t) {x = at + 0} {y = at} (omega arith)
sets_append (v ∷ s) t l at =
    ap (λ (k : ℕ). sets (sets l at (v ∷ s)) k t) {x = at + length (v ∷ s)} {y = suc at + length s} (omega arith) ∙ sets_append s t _ (suc at)

-- nothing is written
pub wrote_none : (l : List ℕ) (at : ℕ) → Wrote l at [] l at
wrote_none l at = record { bytes = refl; place = omega arith }

pub wrote_then : {l l' l'' s t : List ℕ} {at m n : ℕ} → Wrote l at s l' m → Wrote l' m t l'' n → Wrote l at (s ++ t) l'' n
wrote_then {l} {l'} {l''} {s} {t} {at} {m} {n} p q =
    record {
      bytes = q.bytes ∙ ap (λ (k : List ℕ). sets k m t) p.bytes ∙ ap (λ (k : ℕ). sets (sets l at s) k t) p.place ∙ sets_append s t l at;
      place = omega (arith, q.place, p.place, length-append s t);
    }

-- a text, byte by byte
pub put_turn : (l l' text : List ℕ) (at i : ℕ) → i < length text → l' ≡ sets l at (take i text)
    → set l' (at + i) (get_or text i 0) ≡ sets l at (take (i + 1) text)
put_turn l l' text at i h e =
    let n : i ≡ length (take i text) = sym (length-take-le i text (omega arith)) in
    ap (λ (k : List ℕ). set k (at + i) (get_or text i 0)) e
    ∙ ap (λ (k : ℕ). set (sets l at (take i text)) (at + k) (get_or text i 0)) n
    ∙ sets_append (take i text) (get_or text i 0 ∷ []) l at
    ∙ ap (sets l at) (sym (take-suc text i 0 h) ∙ ap (λ (k : ℕ). take k text) (sym (add-one i)))

pub put_done : (l l' text : List ℕ) (at i : ℕ) → i ≤ length text → length text ≤ i → l' ≡ sets l at (take i text) → Wrote l at text l' (at + i)
put_done l l' text at i h k e = record { bytes = e ∙ ap (sets l at) (take_all i text k); place = omega arith }

-- digits of hex: none, or those of a 16th and the last one
pub hex-none : {k : ℕ} (n : ℕ) (l : List ℕ) (at : ℕ) → k ≡ 0 → Wrote l at (hex k n) l at
unfolding hex
hex-none {k} n l at e = rw e (wrote_none l at)

pub hex-more : (k n : ℕ) {at m r : ℕ} {l l' l'' : List ℕ} → 0 < k → Wrote l at (hex (k - 1) (n / 16)) l' m → Wrote l' m (glyph (n % 16) ∷ []) l'' r
    → Wrote l at (hex k n) l'' r
unfolding hex
hex-more zero n h p q = absurd (omega arith)
hex-more (suc k) n {at} {m} {r} {l} {l'} h p q =
    let e : suc k - 1 ≡ k = omega arith in
    wrote_then (subst (λ (j : ℕ). Wrote l at (hex j (n / 16)) l' m) e p) q

-- digits of decimal: none, one, or those of a tenth and the last one
pub decimal-none : {k : ℕ} (n : ℕ) (l : List ℕ) (at : ℕ) → k ≡ 0 → Wrote l at (decimal_in k n) l at
unfolding decimal_in
decimal-none {k} n l at e = rw e (wrote_none l at)

pub decimal_one : (k n : ℕ) {at r : ℕ} {l l' : List ℕ} → 0 < k → n < 10 → Wrote l at (glyph n ∷ []) l' r → Wrote l at (decimal_in k n) l' r
unfolding decimal_in
decimal_one zero n h s p = absurd (omega arith)
decimal_one (suc k) n h s p = rw (lt-ltb n 10 s) p

pub decimal-more : (k n : ℕ) {at m r : ℕ} {l l' l'' : List ℕ} → 0 < k → 10 ≤ n → Wrote l at (decimal_in (k - 1) (n / 10)) l' m
    → Wrote l' m (glyph (n % 10) ∷ []) l'' r → Wrote l at (decimal_in k n) l'' r
unfolding decimal_in
decimal-more zero n h s p q = absurd (omega arith)
decimal-more (suc k) n {at} {m} {r} {l} {l'} h s p q =
    let e : suc k - 1 ≡ k = omega arith in
    rw (le-ltb n 10 s) (wrote_then (subst (λ (j : ℕ). Wrote l at (decimal_in j (n / 10)) l' m) e p) q)

-- a text that stands in front
pub wrote_front : {l s s' : List ℕ} {n : ℕ} → s' ≡ s → n ≡ length s → n ≤ length l → Wrote l 0 s (s' ++ drop n l) n
wrote_front {l} {s} {s'} {n} e k h =
    record {
      bytes = ap (λ (t : List ℕ). t ++ drop n l) e ∙ ap (λ (m : ℕ). s ++ drop m l) {x = n} {y = 0 + length s} (omega arith) ∙ sym (sets-eq s l 0 (omega arith));
      place = omega arith;
    }

-- digits: those of n / base, if there are any, and the last one
abbrev pub front : (base least most n : ℕ) → List ℕ
front base least most n = cond (leb base n || ltb 1 least) (digits base (least - 1) (most - 1) (n / base)) []

pub digits_none : (base least : ℕ) {most : ℕ} (n : ℕ) → most ≡ 0 → digits base least most n ≡ []
unfolding digits
digits_none base least n e = rw e

pub digits_last : (base least most n : ℕ) → 0 < most → digits base least most n ≡ front base least most n ++ (glyph (n % base) ∷ [])
unfolding digits
digits_last base least zero n h = absurd (omega arith)
digits_last base least (suc k) n h =
    let e : k ≡ suc k - 1 = omega arith in
    ap (λ (m : ℕ). cond (leb base n || ltb 1 least) (digits base (least - 1) m (n / base)) [] ++ (glyph (n % base) ∷ [])) e

pub front_none : (base least most n : ℕ) → n < base → least ≤ 1 → front base least most n ≡ []
front_none base least most n b l = rw (lt-leb base n b, le-ltb 1 least l)

pub front_long : (base least most n : ℕ) → base ≤ n → front base least most n ≡ digits base (least - 1) (most - 1) (n / base)
front_long base least most n h = rw (le-leb base n h)

pub front_filled : (base least most n : ℕ) → 1 < least → front base least most n ≡ digits base (least - 1) (most - 1) (n / base)
front_filled base least most n h = rw (lt-ltb 1 least h) (go (leb base n))
  where
    go : (t : Bool) → cond (t || true) (digits base (least - 1) (most - 1) (n / base)) [] ≡ digits base (least - 1) (most - 1) (n / base)
    go true = refl
    go false = refl

-- at most `most`
pub digits_length : (base least most n : ℕ) → length (digits base least most n) ≤ most
unfolding digits
digits_length base least zero n = omega arith
digits_length base least (suc k) n = go (leb base n || ltb 1 least) (digits_length base (least - 1) k (n / base))
  where
    go : (t : Bool) → length (digits base (least - 1) k (n / base)) ≤ k
        → length (cond t (digits base (least - 1) k (n / base)) [] ++ (glyph (n % base) ∷ [])) ≤ suc k
    go true h = omega (arith, length-append (digits base (least - 1) k (n / base)) (glyph (n % base) ∷ []))
    go false h = omega arith

-- hex and decimal are digits
pub digits-hex : (k n : ℕ) → digits 16 k k n ≡ hex k n
unfolding digits hex
digits-hex zero n = refl
digits-hex (suc zero) n = go (leb 16 n || ltb 1 1)
  where
    go : (t : Bool) → cond t [] [] ++ (glyph (n % 16) ∷ []) ≡ glyph (n % 16) ∷ []
    go true = refl
    go false = refl
digits-hex (suc (suc k)) n =
    let h : 0 < suc (suc k) = omega arith in
    let l : 1 < suc (suc k) = omega arith in
    let e : suc (suc k) - 1 ≡ suc k = omega arith in
    digits_last 16 (suc (suc k)) (suc (suc k)) n h
    ∙ ap (λ (s : List ℕ). s ++ (glyph (n % 16) ∷ []))
    (front_filled 16 (suc (suc k)) (suc (suc k)) n l ∙ ap (λ (j : ℕ). digits 16 j j (n / 16)) e ∙ digits-hex (suc k) (n / 16))

digits-decimal_in : (least k n : ℕ) → least ≤ 1 → digits 10 least k n ≡ decimal_in k n
unfolding digits decimal_in
digits-decimal_in least zero n l = refl
digits-decimal_in least (suc k) n l = go (ltb n 10) refl (digits-decimal_in (least - 1) k (n / 10) (omega arith))
  where
    go : (t : Bool) → ltb n 10 ≡ t → digits 10 (least - 1) k (n / 10) ≡ decimal_in k (n / 10)
        → digits 10 least (suc k) n ≡ cond t (glyph n ∷ []) (decimal_in k (n / 10) ++ (glyph (n % 10) ∷ []))
    go true e r =
        let s : n % 10 ≡ n = omega (arith, ltb-true n 10 e) in
        rw (lt-leb 10 n (ltb-true n 10 e), le-ltb 1 least l) (ap (λ (d : ℕ). glyph d ∷ []) s)
    go false e r = rw (le-leb 10 n (ltb-false n 10 e), r)

pub digits-decimal : (n : ℕ) → digits 10 1 DIGITS n ≡ decimal n
digits-decimal n = digits-decimal_in 1 DIGITS n (omega arith)
