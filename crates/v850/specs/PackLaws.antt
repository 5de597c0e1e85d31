-- Bytes and bits of words: what is taken apart and put together is what it was.
use Rattle.std.specs.Prelude.{◌≡◌, refl, List, [], ◌∷◌, ◌++◌, ℕ, zero, suc, ◌+◌, ◌*◌, ◌/◌, ◌%◌, ◌^◌, ◌<◌, length, get_or, take}
use Rattle.std.proofs.Common.{sym, ap, ap₂, ◌∙◌, arith, shr-shr, take-suc}
use Rattle.std.proofs.Math.Pow.{shr_mod}
use Rattle.v850.specs.Block.{bytes_of_word, bytes_of, word_at, words_from, at_steps, at_place, report_of, bits_from, pack_bits}

-- every number of a list is below n; past its end stand zeros
pub record Below (n : ℕ) (l : List ℕ) : Type 0 where
  pub at : (i : ℕ) → get_or l i 0 < n

pub below-cons : {n a : ℕ} {l : List ℕ} → a < n → Below n l → Below n (a ∷ l)
below-cons {n} {a} {l} h k = record { at = go }
  where
    go : (i : ℕ) → get_or (a ∷ l) i 0 < n
    go zero = h
    go (suc i) = k.at i

pub tail : {n a : ℕ} {l : List ℕ} → Below n (a ∷ l) → Below n l
tail h = record { at = λ i. h.at (suc i) }

pub below-append : {n : ℕ} (s t : List ℕ) → Below n s → Below n t → Below n (s ++ t)
below-append [] t h k = k
below-append (a ∷ s) t h k = below-cons (h.at 0) (below-append s t (tail h) k)

pub below-take : (n : ℕ) (l : List ℕ) (k : ℕ) → 0 < n → ((i : ℕ) → i < k → get_or l i 0 < n) → Below n (take k l)
below-take n l zero p h = record { at = λ i. p }
below-take n [] (suc k) p h = record { at = λ i. p }
below-take n (a ∷ l) (suc k) p h = below-cons (h zero (omega arith)) (below-take n l k p (λ j q. h (suc j) (omega arith)))

-- Words as bytes
pub bytes-append : (s t : List ℕ) → bytes_of (s ++ t) ≡ bytes_of s ++ bytes_of t
unfolding bytes_of
bytes-append [] t = refl
bytes-append (w ∷ ws) t = ap (λ (r : List ℕ). bytes_of_word w ++ r) (bytes-append ws t)

pub bytes-more : (ws : List ℕ) (i : ℕ) → i < length ws → bytes_of (take (suc i) ws) ≡ bytes_of (take i ws) ++ bytes_of_word (get_or ws i 0)
unfolding bytes_of
bytes-more ws i h = ap bytes_of (take-suc ws i 0 h) ∙ bytes-append (take i ws) (get_or ws i 0 ∷ [])

pub bytes-length : (ws : List ℕ) → length (bytes_of ws) ≡ 4 * length ws
unfolding bytes_of
bytes-length [] = refl
bytes-length (w ∷ ws) = omega (arith, bytes-length ws)

pub words-length : (b : List ℕ) (i n : ℕ) → length (words_from b i n) ≡ n
unfolding words_from
words-length b i zero = refl
words-length b i (suc n) = ap suc (words-length b (suc i) n)

-- four bytes in front move the words on by one
word_on : (x y z u : ℕ) (b : List ℕ) (i : ℕ) → word_at (x ∷ y ∷ z ∷ u ∷ b) (suc i) ≡ word_at b i
word_on x y z u b i =
    let e0 : 4 * suc i ≡ suc (suc (suc (suc (4 * i)))) = omega arith in
    let e1 : suc (suc (suc (suc (4 * i)))) + 1 ≡ suc (suc (suc (suc (4 * i + 1)))) = omega arith in
    let e2 : suc (suc (suc (suc (4 * i)))) + 2 ≡ suc (suc (suc (suc (4 * i + 2)))) = omega arith in
    let e3 : suc (suc (suc (suc (4 * i)))) + 3 ≡ suc (suc (suc (suc (4 * i + 3)))) = omega arith in
    rw (e0, e1, e2, e3)

words-on : (x y z u : ℕ) (b : List ℕ) (i n : ℕ) → words_from (x ∷ y ∷ z ∷ u ∷ b) (suc i) n ≡ words_from b i n
unfolding words_from
words-on x y z u b i zero = refl
words-on x y z u b i (suc n) = ap₂ (λ (w : ℕ) (ws : List ℕ). w ∷ ws) (word_on x y z u b i) (words-on x y z u b (suc i) n)

-- the bytes of a word are that word
pub whole : (w : ℕ) → w < 2 ^ 32 → w % 2 ^ 8 + 2 ^ 8 * (w / 2 ^ 8 % 2 ^ 8 + 2 ^ 8 * (w / 2 ^ 16 % 2 ^ 8 + 2 ^ 8 * (w / 2 ^ 24 % 2 ^ 8))) ≡ w
whole w h = omega (arith, shr-shr w 8 8, shr-shr w 16 8, shr_mod 8 24 h)

pub words-bytes : (ws : List ℕ) → Below (2 ^ 32) ws → words_from (bytes_of ws) 0 (length ws) ≡ ws
unfolding bytes_of words_from
words-bytes [] h = refl
words-bytes (w ∷ ws) h =
    ap₂ (λ (x : ℕ) (xs : List ℕ). x ∷ xs) (whole w (h.at 0)) (words-on _ _ _ _ (bytes_of ws) 0 (length ws) ∙ words-bytes ws (tail h))

-- steps and place stand at their words of the report
pub report_says : (steps place : ℕ) → steps < 2 ^ 32 → place < 2 ^ 32
    → (word_at (report_of steps place) at_steps ≡ steps) × (word_at (report_of steps place) at_place ≡ place)
unfolding bytes_of
report_says steps place h k = (whole steps h, whole place k)

-- the word of four bytes has those bytes
low : (x r : ℕ) → x < 2 ^ 8 → (x + 2 ^ 8 * r) % 2 ^ 8 ≡ x
low x r h = omega arith

pub parts : (x y z u : ℕ) → x < 2 ^ 8 → y < 2 ^ 8 → z < 2 ^ 8 → u < 2 ^ 8
    → bytes_of_word (x + 2 ^ 8 * (y + 2 ^ 8 * (z + 2 ^ 8 * u))) ≡ x ∷ y ∷ z ∷ u ∷ []
parts x y z u hx hy hz hu =
    let w = x + 2 ^ 8 * (y + 2 ^ 8 * (z + 2 ^ 8 * u)) in
    let q1 : w / 2 ^ 8 ≡ y + 2 ^ 8 * (z + 2 ^ 8 * u) = omega arith in
    let q2 : w / 2 ^ 16 ≡ z + 2 ^ 8 * u = omega (arith, shr-shr w 8 8) in
    let q3 : w / 2 ^ 24 ≡ u = omega (arith, shr-shr w 16 8) in
    let e3 : u % 2 ^ 8 ≡ u = omega arith in
    rw (low x (y + 2 ^ 8 * (z + 2 ^ 8 * u)), q1, low y (z + 2 ^ 8 * u), q2, low z u, q3, e3)

pub bytes-words : (b : List ℕ) (n : ℕ) → length b ≡ 4 * n → Below (2 ^ 8) b → bytes_of (words_from b 0 n) ≡ b
unfolding bytes_of words_from
bytes-words [] zero e h = refl
bytes-words (x ∷ b) zero e h = absurd (omega arith)
bytes-words [] (suc n) e h = absurd (omega arith)
bytes-words (x ∷ []) (suc n) e h = absurd (omega arith)
bytes-words (x ∷ y ∷ []) (suc n) e h = absurd (omega arith)
bytes-words (x ∷ y ∷ z ∷ []) (suc n) e h = absurd (omega arith)
bytes-words (x ∷ y ∷ z ∷ u ∷ b) (suc n) e h =
    ap₂ (λ (p q : List ℕ). p ++ q) (parts x y z u (h.at 0) (h.at 1) (h.at 2) (h.at 3))
    (ap bytes_of (words-on x y z u b 0 n) ∙ bytes-words b n (omega arith) (tail (tail (tail (tail h)))))

pub words-below : (b : List ℕ) (j n : ℕ) → Below (2 ^ 8) b → Below (2 ^ 32) (words_from b j n)
unfolding words_from
words-below b j zero h = record { at = λ i. omega arith }
words-below b j (suc n) h =
    below-cons (omega (arith, h.at (4 * j), h.at (4 * j + 1), h.at (4 * j + 2), h.at (4 * j + 3))) (words-below b (suc j) n h)

-- Bits as a word
bit-more : (b p k : ℕ) → b < 2 → p < 2 ^ k → b + 2 * p < 2 ^ suc k
bit-more b p k h l = omega arith

pub pack_lt : (l : List ℕ) → Below 2 l → pack_bits l < 2 ^ length l
unfolding pack_bits
pack_lt [] h = omega arith
pack_lt (b ∷ bs) h = bit-more b (pack_bits bs) (length bs) (h.at 0) (pack_lt bs (tail h))

pub bits-length : (w i n : ℕ) → length (bits_from w i n) ≡ n
unfolding bits_from
bits-length w i zero = refl
bits-length w i (suc n) = ap suc (bits-length w (suc i) n)

pub bits_at : (x i n k : ℕ) → k < n → get_or (bits_from x i n) k 0 ≡ x / 2 ^ (i + k) % 2
unfolding bits_from
bits_at x i zero k h = absurd (omega arith)
bits_at x i (suc n) zero h = ap (λ (j : ℕ). x / 2 ^ j % 2) {x = i} {y = i + 0} (omega arith)
bits_at x i (suc n) (suc k) h = bits_at x (suc i) n k (omega arith) ∙ ap (λ (j : ℕ). x / 2 ^ j % 2) {x = suc i + k} {y = i + suc k} (omega arith)

pub bits_below : (w j n : ℕ) → Below 2 (bits_from w j n)
unfolding bits_from
bits_below w j zero = record { at = λ i. omega arith }
bits_below w j (suc n) = below-cons (omega arith) (bits_below w (suc j) n)

-- the bits after the first are those of half the word
bits-on : (w i n : ℕ) → bits_from w (suc i) n ≡ bits_from (w / 2) i n
unfolding bits_from
bits-on w i zero = refl
bits-on w i (suc n) =
    ap₂ (λ (x : ℕ) (xs : List ℕ). x ∷ xs)
    (ap (λ (x : ℕ). x % 2) (ap (λ (k : ℕ). w / 2 ^ k) {x = suc i} {y = 1 + i} (omega arith) ∙ sym (shr-shr w 1 i)))
    (bits-on w (suc i) n)

pub bits-pack : (l : List ℕ) → Below 2 l → bits_from (pack_bits l) 0 (length l) ≡ l
unfolding bits_from pack_bits
bits-pack [] h = refl
bits-pack (b ∷ bs) h =
    let p = pack_bits bs in
    let l : b < 2 = h.at 0 in
    let low : (b + 2 * p) / 1 % 2 ≡ b = omega arith in
    let high : (b + 2 * p) / 2 ≡ p = omega arith in
    ap₂ (λ (x : ℕ) (xs : List ℕ). x ∷ xs) low
    (bits-on (b + 2 * p) 0 (length bs) ∙ ap (λ (x : ℕ). bits_from x 0 (length bs)) high ∙ bits-pack bs (tail h))

pub pack-bits : (w n : ℕ) → w < 2 ^ n → pack_bits (bits_from w 0 n) ≡ w
unfolding bits_from pack_bits
pack-bits w zero h = omega arith
pack-bits w (suc n) h =
    let p : pack_bits (bits_from w 1 n) ≡ w / 2 = ap pack_bits (bits-on w 0 n) ∙ pack-bits (w / 2) n (omega arith) in
    omega arith
