-- Lists as the code makes them: by a function of the place, by stores one after the other, and by a fold.
use Rattle.std.specs.Prelude.{◌≡◌, refl, List, [], ◌∷◌, ◌++◌, ℕ, zero, suc, ◌+◌, ◌*◌, ◌/◌, ◌%◌, ◌^◌, ◌≤◌, ◌<◌, bit_or, length, get_or, take, drop, set, reverse}
use Rattle.std.proofs.Common.{sym, ap, ◌∙◌, subst, arith, add-one, append_assoc, append-nil, drop_of_length-le, length-append, length-take-le, take_all, take_at, drop_at, ext_get_or}
use Rattle.std.proofs.Math.ListN.{length-set}
use Rattle.std.proofs.Math.Seq.{drop-drop, sets, length-sets, sets-eq}
use Rattle.std.proofs.lemmas.List.{reverse-append}
use Rattle.std.proofs.lemmas.List.Sums.{fold_push}
use Rattle.std.proofs.lemmas.Nat.{or_shifted, shl_whole}
use Rattle.std.specs.Array.{IsFromFnResultFrom}
use Rattle.std.specs.Fn.{Called}
use Rattle.std.specs.List.{fold}
use denote.Param.Members.{Mut}
use borrow.Rule.Slice.PartMut.{put_mid}
use Rattle.machine.specs.Psw.{REGS, sys, EIPC, EIPSW, FEPC, FEPSW, ECR, PSW, CELLS}
use Rattle.v850.specs.Block.{WORDS, at_pc, at_psw, at_eipc, at_eipsw, at_fepc, at_fepsw, at_ecr, at_code, at_waits, at_reg_marks, at_sys_marks, at_map, MAP_WORDS, bytes_of_word, bytes_of, REPORT, report_of, word_at, words_from, bits_from, pack_bits}
use Rattle.v850.specs.PackLaws.{Below, tail, pack_lt, bytes-more, bytes-length, bits-length, bits_at}

-- the words of a block, and the bits of a word, by their places
pub words_at : (b : List ℕ) (n k : ℕ) → k < n → get_or (words_from b 0 n) k 0 ≡ word_at b k
unfolding words_from
words_at b n k h = from 0 n k h ∙ ap (word_at b) {x = 0 + k} {y = k} (omega arith)
  where
    from : (j n k : ℕ) → k < n → get_or (words_from b j n) k 0 ≡ word_at b (j + k)
    from j zero k h = absurd (omega arith)
    from j (suc n) zero h = ap (word_at b) {x = j} {y = j + 0} (omega arith)
    from j (suc n) (suc k) h = from (suc j) n k (omega arith) ∙ ap (word_at b) {x = suc j + k} {y = j + suc k} (omega arith)

pub bits_there : (w : ℕ) (l : List ℕ) → length l ≡ REGS → ((k : ℕ) → k < REGS → get_or l k 0 ≡ w / 2 ^ k % 2) → l ≡ bits_from w 0 REGS
bits_there w l h f =
    ext_get_or 0 l (bits_from w 0 REGS) (h ∙ sym (bits-length w 0 REGS)) λ k m.
    f k (omega arith) ∙ ap (λ (j : ℕ). w / 2 ^ j % 2) {x = k} {y = 0 + k} (omega arith) ∙ sym (bits_at w 0 REGS k (omega arith))

-- what `array::from_fn` makes of a closure that computes h, and stays as it is
pub made : {F : Type 0} (g : Mut F (ℕ × Unit {0}) ℕ) (f : F) (h : ℕ → ℕ) (ys : List ℕ) (n : ℕ)
    → ((x r : ℕ) (q : F) → Called g f (x, tt) r q → (q ≡ f) × (r ≡ h x))
    → IsFromFnResultFrom g f ys 0 n → (k : ℕ) → k < n → get_or ys k 0 ≡ h k
made {F} g f h ys n steps r k l = subst (λ (j : ℕ). get_or ys j 0 ≡ h j) {x = 0 + k} {y = k} (omega arith) (from 0 n r k l)
  where
    from : (i n : ℕ) → IsFromFnResultFrom g f ys i n → (k : ℕ) → k < n → get_or ys (i + k) 0 ≡ h (i + k)
    from i zero r k l = absurd (omega arith)
    from i (suc n) (q, y, at, called, rest) zero l =
        ap (λ (j : ℕ). get_or ys j 0) {x = i + 0} {y = i} (omega arith) ∙ at.1 0 ∙ (steps i y q called).1 ∙ ap h {x = i} {y = i + 0} (omega arith)
    from i (suc n) (q, y, at, called, rest) (suc k) l =
        subst (λ (j : ℕ). get_or ys j 0 ≡ h j) {x = i + 1 + k} {y = i + suc k} (omega arith)
        (from (i + 1) n (subst (λ (p : F). IsFromFnResultFrom g p ys (i + 1) n) (steps i y q called).0 rest) k (omega arith))

-- bits gathered from the last one down
abbrev pub gathered : List ℕ → ℕ
gathered l = fold (λ (w b : ℕ). bit_or (w * 2 % 2 ^ 32) b) 0 (reverse l)

gather : (w b n : ℕ) → w < 2 ^ n → n + 1 ≤ 32 → b < 2 → bit_or (w * 2 % 2 ^ 32) b ≡ b + 2 * w
gather w b n h l k = ap (λ (x : ℕ). bit_or x b) (shl_whole w n 1 32 h l) ∙ or_shifted w 1 b k ∙ omega arith

pub gathered-bits : (l : List ℕ) → Below 2 l → length l ≤ 32 → gathered l ≡ pack_bits l
unfolding pack_bits
gathered-bits [] h k = refl
gathered-bits (b ∷ bs) h k =
    ap (fold (λ (w b : ℕ). bit_or (w * 2 % 2 ^ 32) b) 0) (reverse-append (b ∷ []) bs)
    ∙ fold_push (λ (w b : ℕ). bit_or (w * 2 % 2 ^ 32) b) 0 (reverse bs) b
    ∙ ap (λ (w : ℕ). bit_or (w * 2 % 2 ^ 32) b) (gathered-bits bs (tail h) (omega arith))
    ∙ gather (pack_bits bs) b (length bs) (pack_lt bs (tail h)) (omega arith) (h.at 0)

-- elements stored one by one at the end of an array, and before its end
pub stored_part : (vs l : List ℕ) (i n : ℕ) → i + length vs ≤ length l → i + length vs ≡ n → take n (sets l i vs) ≡ take i l ++ vs
stored_part vs l i n h e =
    ap (λ (s : List ℕ). take n s) (sets-eq vs l i h)
    ∙ take_at (take i l ++ vs) _ n (length-append (take i l) vs ∙ ap (λ (k : ℕ). k + length vs) (length-take-le i l (omega arith)) ∙ e)

pub stored_all : (vs l : List ℕ) (i : ℕ) → i + length vs ≡ length l → sets l i vs ≡ take i l ++ vs
stored_all vs l i e = sym (take_all (length l) (sets l i vs) (omega (arith, length-sets l i vs))) ∙ stored_part vs l i (length l) (omega arith) e

-- the six cells after the registers
pub six_stored : (l s : List ℕ) (a b d e f g : ℕ) → length l ≡ CELLS → take REGS l ≡ s
    → set (set (set (set (set (set l (sys EIPC) a) (sys EIPSW) b) (sys FEPC) d) (sys FEPSW) e) (sys ECR) f) (sys PSW) g ≡ s ++ (a ∷ b ∷ d ∷ e ∷ f ∷ g ∷ [])
six_stored l s a b d e f g h p =
    stored_all (a ∷ b ∷ d ∷ e ∷ f ∷ g ∷ []) l REGS (sym h) ∙ ap (λ (r : List ℕ). r ++ (a ∷ b ∷ d ∷ e ∷ f ∷ g ∷ [])) p

-- a turn of the loop that writes the words of a block
pub bytes_turn : (ws b₀ b b' : List ℕ) (i : ℕ) → i < length ws → b ≡ bytes_of (take i ws) ++ drop (4 * i) b₀
    → b' ≡ take (4 * i) b ++ (bytes_of_word (get_or ws i 0) ++ drop (4 * i + 4) b)
    → b' ≡ bytes_of (take (i + 1) ws) ++ drop (4 * (i + 1)) b₀
bytes_turn ws b₀ b b' i h p q =
    let n : length (bytes_of (take i ws)) ≡ 4 * i = bytes-length (take i ws) ∙ ap (λ (k : ℕ). 4 * k) (length-take-le i ws (omega arith)) in
    let t : take (4 * i) b ≡ bytes_of (take i ws) = ap (take (4 * i)) p ∙ take_at (bytes_of (take i ws)) (drop (4 * i) b₀) (4 * i) n in
    let d : drop (4 * i) b ≡ drop (4 * i) b₀ = ap (drop (4 * i)) p ∙ drop_at (bytes_of (take i ws)) (drop (4 * i) b₀) (4 * i) n in
    let d4 : drop (4 * i + 4) b ≡ drop (4 * (i + 1)) b₀ =
    sym (drop-drop 4 (4 * i) b) ∙ ap (drop 4) d ∙ drop-drop 4 (4 * i) b₀ ∙ ap (λ (k : ℕ). drop k b₀) {x = 4 * i + 4} {y = 4 * (i + 1)} (omega arith) in
    q ∙ ap (λ (s : List ℕ). s ++ (bytes_of_word (get_or ws i 0) ++ drop (4 * i + 4) b)) t
    ∙ ap (λ (s : List ℕ). bytes_of (take i ws) ++ (bytes_of_word (get_or ws i 0) ++ s)) d4
    ∙ sym (append_assoc (bytes_of (take i ws)) (bytes_of_word (get_or ws i 0)) (drop (4 * (i + 1)) b₀))
    ∙ ap (λ (s : List ℕ). s ++ drop (4 * (i + 1)) b₀) (sym (bytes-more ws i h) ∙ ap (λ (k : ℕ). bytes_of (take k ws)) (sym (add-one i)))

-- after the last turn
pub bytes_done : (ws b₀ b : List ℕ) (i : ℕ) → i ≡ length ws → length b₀ ≡ 4 * i → b ≡ bytes_of (take i ws) ++ drop (4 * i) b₀ → b ≡ bytes_of ws
bytes_done ws b₀ b i e h p =
    p ∙ ap (λ (s : List ℕ). bytes_of (take i ws) ++ s) (drop_of_length-le b₀ {i = 4 * i} (omega arith))
    ∙ append-nil (bytes_of (take i ws)) ∙ ap bytes_of (take_all i ws (omega arith))

-- a report of two words
pub two-words : (b b' b'' : List ℕ) (x y : ℕ) → length b ≡ REPORT → b' ≡ take 0 b ++ (bytes_of_word x ++ drop 4 b)
    → b'' ≡ take 4 b' ++ (bytes_of_word y ++ drop 8 b') → b'' ≡ report_of x y
unfolding bytes_of
two-words b b' b'' x y h p q =
    q ∙ ap (λ (s : List ℕ). take 4 s ++ (bytes_of_word y ++ drop 8 s)) p
    ∙ ap (λ (s : List ℕ). bytes_of_word x ++ (bytes_of_word y ++ s)) (drop-drop 4 4 b ∙ drop_of_length-le b {i = 8} (omega arith))

-- numbers stored at the end of the words
at_end_stored : (l map : List ℕ) → length l ≡ WORDS → put_mid at_map MAP_WORDS l map ≡ take at_map l ++ map
at_end_stored l map h =
    ap (λ (s : List ℕ). take at_map l ++ (map ++ s)) (drop-drop MAP_WORDS at_map l ∙ drop_of_length-le l {i = at_map + MAP_WORDS} (omega arith))
    ∙ ap (λ (s : List ℕ). take at_map l ++ s) (append-nil map)

-- the eleven words between the registers and the map, and the map: PSW and the words of marks are computed
pub eleven_stored : (l s map map' : List ℕ) (pc psw psw' eipc eipsw fepc fepsw ecr code waits regs regs' marks marks' : ℕ)
    → length l ≡ WORDS → take REGS l ≡ s → map ≡ map' → psw ≡ psw' → regs ≡ regs' → marks ≡ marks'
    → put_mid at_map MAP_WORDS
    (set (set (set (set (set (set (set (set (set (set (set l at_pc pc) at_psw psw) at_eipc eipc) at_eipsw eipsw) at_fepc fepc) at_fepsw fepsw) at_ecr ecr) at_code code) at_waits waits) at_reg_marks regs) at_sys_marks marks)
    map
    ≡ s ++ (pc ∷ psw' ∷ eipc ∷ eipsw ∷ fepc ∷ fepsw ∷ ecr ∷ code ∷ waits ∷ regs' ∷ marks' ∷ map')
eleven_stored l s map map' pc psw psw' eipc eipsw fepc fepsw ecr code waits regs regs' marks marks' h p m e f g =
    let at_end = at_end_stored _ map (simp length-set h) in
    at_end ∙ rw (
      e,
      f,
      g,
      m,
      stored_part (pc ∷ psw' ∷ eipc ∷ eipsw ∷ fepc ∷ fepsw ∷ ecr ∷ code ∷ waits ∷ regs' ∷ marks' ∷ []) l REGS at_map (omega arith) refl,
      p,
    )
    (append_assoc s (pc ∷ psw' ∷ eipc ∷ eipsw ∷ fepc ∷ fepsw ∷ ecr ∷ code ∷ waits ∷ regs' ∷ marks' ∷ []) map')
