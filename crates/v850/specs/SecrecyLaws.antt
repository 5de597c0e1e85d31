-- Alike blocks, taken apart and put together: they have one map and one core, and alike cells; and such parts make alike blocks.
use Rattle.std.specs.Prelude.{◌≡◌, refl, Bool, true, false, List, [], ◌∷◌, ◌++◌, ℕ, zero, suc, ◌+◌, ◌-◌, ◌*◌, ◌/◌, ◌%◌, ◌^◌, ◌≤◌, ◌<◌, eqb, ltb, length, get_or, take}
use Rattle.std.proofs.Common.{sym, ap, ap₂, ◌∙◌, subst, true≢false, arith, lt_of_lt_of_le, pow_mono, length-append, length-take-le, get_or-take, get_or-drop, ext_get_or, ltb-true, ltb-false, eqb-true}
use Rattle.std.specs.Bool.{beq}
use Rattle.std.proofs.Math.Nat.{div-eq_of_lt}
use Rattle.std.proofs.lemmas.Bool.{eqb-false}
use Rattle.word.specs.Shifts.{bit}
use Rattle.word.specs.FlagLaws.{bit_low}
use Rattle.word.specs.Tests.{beq→eq, below_at}
use Rattle.machine.specs.declared.Open.{Open}
use Rattle.machine.specs.Marked.{Cells, marked}
use Rattle.machine.specs.Psw.{REGS}
use Rattle.machine.specs.WellFormed.{WellFormed}
use Rattle.machine.specs.Alike.{bit_cells, Alike}
use Rattle.machine.specs.AlikeLaws.{register}
use Rattle.v850.specs.Block.{WORDS, MAP_WORDS, at_psw, at_eipc, at_eipsw, at_fepc, at_fepsw, at_waits, at_reg_marks, at_sys_marks, at_map, byte, bits_from, pack_bits, map_in, core_in, nums_in, marks_in, cells_in, words_of, good_state}
use Rattle.v850.specs.PackLaws.{Below, bits-length, bits_at}
use Rattle.v850.specs.PlaceLaws.{before, after, everywhere}
use Rattle.v850.specs.BlockLaws.{map-long, sys_marks, passed, formed-words, formed-good-state, good-state-formed, together-apart}
use Rattle.v850.specs.AlikeStarts.{AlikeWords}

-- the words of a block that passes STATE
pub record Good (ws : List ℕ) : Type 0 where
  pub long : length ws ≡ WORDS
  pub words : Below (2 ^ 32) ws
  pub state : good_state ws ≡ true

pub formed : {ws : List ℕ} → Good ws → WellFormed (core_in ws) (cells_in ws)
formed {ws} g = good-state-formed ws g.long g.words g.state

pub together-good : (o : Open) (c : Cells) (map : List ℕ) → WellFormed o c → length map ≡ MAP_WORDS → Below (2 ^ 32) map → Good (words_of o c map)
together-good o c map w l h =
    record {
      long = length-append (take REGS c.nums) _ ∙ omega (arith, length-take-le REGS c.nums (omega (arith, w.cells.nums)));
      words = formed-words o c map w h;
      state = formed-good-state o c map w;
    }

-- Bits: a bit as a mark, two bits that test alike, bits above and below 2 ^ n
bit-marked : (b : ℕ) → b < 2 → marked b ≡ eqb b 1
bit-marked b h = beq→eq (marked b) (eqb b 1) (below_at 2 (λ k. beq (marked k) (eqb k 1)) tt b h)

same_bit : (a b : ℕ) → a < 2 → b < 2 → eqb a 1 ≡ eqb b 1 → a ≡ b
same_bit a b h k e = go (eqb a 1) refl
  where
    go : (t : Bool) → eqb a 1 ≡ t → a ≡ b
    go true p = eqb-true a 1 p ∙ sym (eqb-true b 1 (sym e ∙ p))
    go false p = omega (arith, eqb-false a 1 p, eqb-false b 1 (sym e ∙ p))

high_bit : (n k x : ℕ) → n ≤ k → x < 2 ^ n → bit k x ≡ false
high_bit n k x h l = ap (λ (y : ℕ). eqb (y % 2) 1) (div-eq_of_lt (lt_of_lt_of_le l (pow_mono {i = n} {j = k} h)))

low_bit : (n k x : ℕ) → k < n → bit k (x % 2 ^ n) ≡ bit k x
low_bit n k x h = subst (λ (j : ℕ). bit k (x % 2 ^ j) ≡ bit k x) {x = n - 1 - k + 1 + k} {y = n} (omega arith) (bit_low (n - 1 - k) k x)

reg-mark : (x i : ℕ) → i < REGS → marked (get_or (bits_from x 0 REGS) i 0) ≡ bit i x
reg-mark x i h =
    ap marked (bits_at x 0 REGS i h ∙ ap (λ (j : ℕ). x / 2 ^ j % 2) {x = 0 + i} {y = i} (omega arith)) ∙ bit-marked (x / 2 ^ i % 2) (omega arith)

first_bit : (x : ℕ) → marked (x % 2) ≡ bit 0 x
first_bit x = ap (λ (y : ℕ). marked (y % 2)) {x = x} {y = x / 1} (omega arith) ∙ bit-marked (x / 1 % 2) (omega arith)

second-bit : (x : ℕ) → marked (x / 2 % 2) ≡ bit 1 x
second-bit x = bit-marked (x / 2 % 2) (omega arith)

-- Cells by places: the mark m, and the numbers x and y at place i of two lists of cells
abbrev Agree : ℕ → ℕ → ℕ → ℕ → Type 0
Agree i m x y = (bit_cells i ≡ false → marked m ≡ false → x ≡ y) × (bit_cells i ≡ true → (k : ℕ) → k < 8 → bit k m ≡ false → bit k x ≡ bit k y)

by_value : (i m x y : ℕ) → bit_cells i ≡ false → (marked m ≡ false → x ≡ y) → Agree i m x y
by_value i m x y e f = (λ u. f, λ u. absurd (true≢false (sym u ∙ e)))

by_bits : (i m x y : ℕ) → bit_cells i ≡ true → ((k : ℕ) → k < 8 → bit k m ≡ false → bit k x ≡ bit k y) → Agree i m x y
by_bits i m x y e f = (λ u. absurd (true≢false (sym e ∙ u)), λ u. f)

-- `everywhere` for three lists: what holds of their registers and of what is behind them holds at all places
each : (P : ℕ → ℕ → ℕ → ℕ → Type 0) (r s t a b d : List ℕ) → length r ≡ REGS → length s ≡ REGS → length t ≡ REGS
    → ((i : ℕ) → i < REGS → P i (get_or r i 0) (get_or s i 0) (get_or t i 0)) → ((j : ℕ) → P (REGS + j) (get_or a j 0) (get_or b j 0) (get_or d j 0))
    → (i : ℕ) → P i (get_or (r ++ a) i 0) (get_or (s ++ b) i 0) (get_or (t ++ d) i 0)
each P r s t a b d hr hs ht first rest =
    everywhere (λ (i : ℕ). P i (get_or (r ++ a) i 0) (get_or (s ++ b) i 0) (get_or (t ++ d) i 0))
    (λ i l. rw (before r a i hr l, before s b i hs l, before t d i ht l) (first i l))
    (λ j. rw (after r a j hr, after s b j hs, after t d j ht) (rest j))

-- the cells after the registers
abbrev saved_nums : List ℕ → List ℕ
saved_nums ws =
    get_or ws at_eipc 0 ∷ get_or ws at_eipsw 0 ∷ get_or ws at_fepc 0 ∷ get_or ws at_fepsw 0 ∷ 0 ∷ get_or ws at_psw 0 % 2 ^ 5 ∷ []

abbrev saved_marks : List ℕ → List ℕ
saved_marks ws =
    byte 3 (get_or ws at_sys_marks 0) % 2 ∷ byte 1 (get_or ws at_sys_marks 0) ∷ byte 3 (get_or ws at_sys_marks 0) / 2 % 2
    ∷ byte 2 (get_or ws at_sys_marks 0) ∷ 0 ∷ byte 0 (get_or ws at_sys_marks 0) % 2 ^ 5 ∷ []

abbrev reg_marks : List ℕ → List ℕ
reg_marks ws = bits_from (get_or ws at_reg_marks 0) 0 REGS

module _ {ws : List ℕ} (g : Good ws) where
  regs_long : length (take REGS ws) ≡ REGS
  regs_long = length-take-le REGS ws (omega (arith, g.long))

  bits-long : length (reg_marks ws) ≡ REGS
  bits-long = bits-length (get_or ws at_reg_marks 0) 0 REGS

  -- a word after the registers, from what it is put together of
  put-at : (t : List ℕ) → take REGS (nums_in ws) ++ t ≡ ws → (j : ℕ) → get_or ws (REGS + j) 0 ≡ get_or t j 0
  put-at t e j =
      sym (ap (λ (l : List ℕ). get_or l (REGS + j) 0) e)
      ∙ after (take REGS (nums_in ws)) t j (length-take-le REGS (nums_in ws) (omega (arith, (formed g).cells.nums)))

  put-waits : get_or ws at_waits 0 ≡ (core_in ws).halted + 2 ^ 8 * (core_in ws).nmi
  put-waits = put-at _ (together-apart ws g.long g.words g.state) 8

  put-reg-marks : get_or ws at_reg_marks 0 ≡ pack_bits (take REGS (marks_in ws))
  put-reg-marks = put-at _ (together-apart ws g.long g.words g.state) 9

  put-sys-marks : get_or ws at_sys_marks 0 ≡ sys_marks (marks_in ws)
  put-sys-marks = put-at _ (together-apart ws g.long g.words g.state) 10

-- the flags below NP, EP and ID
psw_low : (m x y : ℕ) → ((k : ℕ) → k < 8 → bit k m ≡ false → bit k x ≡ bit k y)
    → (k : ℕ) → k < 8 → bit k (m % 2 ^ 5) ≡ false → bit k (x % 2 ^ 5) ≡ bit k (y % 2 ^ 5)
psw_low m x y f k l e = go (ltb k 5) refl
  where
    go : (t : Bool) → ltb k 5 ≡ t → bit k (x % 2 ^ 5) ≡ bit k (y % 2 ^ 5)
    go true p =
        let h = ltb-true k 5 p in
        low_bit 5 k x h ∙ f k l (sym (low_bit 5 k m h) ∙ e) ∙ sym (low_bit 5 k y h)
    go false p =
        let h = ltb-false k 5 p in
        high_bit 5 k (x % 2 ^ 5) h (omega arith) ∙ sym (high_bit 5 k (y % 2 ^ 5) h (omega arith))

-- and NP, EP and ID above them
psw-whole : (m x y : ℕ) → x / 2 ^ 5 % 2 ≡ y / 2 ^ 5 % 2 → x / 2 ^ 6 % 2 ≡ y / 2 ^ 6 % 2 → x / 2 ^ 7 % 2 ≡ y / 2 ^ 7 % 2
    → ((k : ℕ) → k < 8 → bit k (m % 2 ^ 5) ≡ false → bit k (x % 2 ^ 5) ≡ bit k (y % 2 ^ 5))
    → (k : ℕ) → k < 8 → bit k m ≡ false → bit k x ≡ bit k y
psw-whole m x y id ep np f k l e = go (ltb k 5) refl
  where
    top : (j : ℕ) → j < 3 → bit (5 + j) x ≡ bit (5 + j) y
    top zero h = ap (λ (b : ℕ). eqb b 1) id
    top (suc zero) h = ap (λ (b : ℕ). eqb b 1) ep
    top (suc (suc zero)) h = ap (λ (b : ℕ). eqb b 1) np
    top (suc (suc (suc j))) h = absurd (omega arith)

    go : (t : Bool) → ltb k 5 ≡ t → bit k x ≡ bit k y
    go true p =
        let h = ltb-true k 5 p in
        sym (low_bit 5 k x h) ∙ f k l (low_bit 5 k m h ∙ e) ∙ low_bit 5 k y h
    go false p =
        let h = ltb-false k 5 p in
        subst (λ (j : ℕ). bit j x ≡ bit j y) {x = 5 + (k - 5)} {y = k} (omega arith) (top (k - 5) (omega arith))

-- THE LAWS

-- Alike blocks are taken apart alike.
module _ {v w : List ℕ} (f : Good v) (g : Good w) (h : AlikeWords v w) where
  pub map_same : map_in v ≡ map_in w
  map_same =
      ext_get_or 0 (map_in v) (map_in w) (map-long v f.long ∙ sym (map-long w g.long)) λ i l.
      get_or-drop at_map v i 0 ∙ h.map (at_map + i) (omega arith) ∙ sym (get_or-drop at_map w i 0)

  mode-same : (k : ℕ) → 5 ≤ k → k < 8 → get_or v at_psw 0 / 2 ^ k % 2 ≡ get_or w at_psw 0 / 2 ^ k % 2
  mode-same k l u =
      same_bit (get_or v at_psw 0 / 2 ^ k % 2) (get_or w at_psw 0 / 2 ^ k % 2) (omega arith) (omega arith)
      (h.psw k u (high_bit 5 k (byte 0 (get_or v at_sys_marks 0)) l (passed v f.state).psw-marks))

  pub core-same : core_in v ≡ core_in w
  core-same =
      let np = mode-same 7 (omega arith) (omega arith) in
      let ep = mode-same 6 (omega arith) (omega arith) in
      let id = mode-same 5 (omega arith) (omega arith) in
      λ i. record {
        pc = h.pc i;
        np = np i;
        ep = ep i;
        id = id i;
        ecr = h.ecr i;
        code = h.code i;
        nmi = byte 1 (h.waits i);
        halted = byte 0 (h.waits i);
      }

  marks-same : marks_in v ≡ marks_in w
  marks-same =
      ap₂ (λ (x y : ℕ). bits_from x 0 REGS ++ (byte 3 y % 2 ∷ byte 1 y ∷ byte 3 y / 2 % 2 ∷ byte 2 y ∷ 0 ∷ byte 0 y % 2 ^ 5 ∷ []))
      h.reg-marks h.sys-marks

  regs_agree : (i : ℕ) → i < REGS → Agree i (get_or (reg_marks v) i 0) (get_or (take REGS v) i 0) (get_or (take REGS w) i 0)
  regs_agree i l =
      by_value i (get_or (reg_marks v) i 0) (get_or (take REGS v) i 0) (get_or (take REGS w) i 0) (register i l) λ e.
      get_or-take REGS v i 0 l ∙ h.regs i l (sym (reg-mark (get_or v at_reg_marks 0) i l) ∙ e) ∙ sym (get_or-take REGS w i 0 l)

  saved_agree : (j : ℕ) → Agree (REGS + j) (get_or (saved_marks v) j 0) (get_or (saved_nums v) j 0) (get_or (saved_nums w) j 0)
  saved_agree zero = by_value REGS _ _ _ refl (λ e. h.eipc (sym (first_bit (byte 3 (get_or v at_sys_marks 0))) ∙ e))
  saved_agree (suc zero) = by_bits 33 _ _ _ refl h.eipsw
  saved_agree (suc (suc zero)) = by_value 34 _ _ _ refl (λ e. h.fepc (sym (second-bit (byte 3 (get_or v at_sys_marks 0))) ∙ e))
  saved_agree (suc (suc (suc zero))) = by_bits 35 _ _ _ refl h.fepsw
  saved_agree (suc (suc (suc (suc zero)))) = by_value 36 _ _ _ refl (λ e. refl)
  saved_agree (suc (suc (suc (suc (suc zero))))) =
      by_bits 37 _ _ _ refl (psw_low (byte 0 (get_or v at_sys_marks 0)) (get_or v at_psw 0) (get_or w at_psw 0) h.psw)
  saved_agree (suc (suc (suc (suc (suc (suc j)))))) = (λ e u. refl, λ e k l u. refl)

  cells_agree : (i : ℕ) → Agree i (get_or (marks_in v) i 0) (get_or (nums_in v) i 0) (get_or (nums_in w) i 0)
  cells_agree =
      each Agree (reg_marks v) (take REGS v) (take REGS w) (saved_marks v) (saved_nums v) (saved_nums w)
      (bits-long f) (regs_long f) (regs_long g) regs_agree saved_agree

  pub cells-alike : Alike bit_cells (cells_in v) (cells_in w)
  cells-alike =
      record {
        sizes = (formed f).cells.nums ∙ sym (formed g).cells.nums;
        whole = (formed f).cells.nums ∙ sym (formed f).cells.marks;
        marks = marks-same;
        values = λ i. (cells_agree i).0;
        bits = λ i k e. (cells_agree i).1 e k;
      }

-- Blocks that are taken apart alike are alike.
module _ {v w : List ℕ} (f : Good v) (g : Good w) (m : map_in v ≡ map_in w) (o : core_in v ≡ core_in w) (c : Alike bit_cells (cells_in v) (cells_in w)) where
  saved_agreed : (j : ℕ) → Agree (REGS + j) (get_or (saved_marks v) j 0) (get_or (saved_nums v) j 0) (get_or (saved_nums w) j 0)
  saved_agreed j =
      let a : Agree (REGS + j) (get_or (marks_in v) (REGS + j) 0) (get_or (nums_in v) (REGS + j) 0) (get_or (nums_in w) (REGS + j) 0) =
      (c.values (REGS + j), λ e k. c.bits (REGS + j) k e) in
      rw (after (reg_marks v) (saved_marks v) j (bits-long f), after (take REGS v) (saved_nums v) j (regs_long f), after (take REGS w) (saved_nums w) j (regs_long g)) at a

  reg_same : (n : ℕ) → n < REGS → bit n (get_or v at_reg_marks 0) ≡ false → get_or v n 0 ≡ get_or w n 0
  reg_same n l e =
      let mark : marked (get_or (marks_in v) n 0) ≡ false =
      ap marked (before (reg_marks v) (saved_marks v) n (bits-long f) l) ∙ reg-mark (get_or v at_reg_marks 0) n l ∙ e in
      sym (before (take REGS v) (saved_nums v) n (regs_long f) l ∙ get_or-take REGS v n 0 l) ∙ c.values n (register n l) mark
      ∙ before (take REGS w) (saved_nums w) n (regs_long g) l ∙ get_or-take REGS w n 0 l

  map-word : (i : ℕ) → at_map ≤ i → (ws : List ℕ) → get_or (map_in ws) (i - at_map) 0 ≡ get_or ws i 0
  map-word i l ws = get_or-drop at_map ws (i - at_map) 0 ∙ ap (λ (k : ℕ). get_or ws k 0) {x = at_map + (i - at_map)} {y = i} (omega arith)

  pub words-alike : AlikeWords v w
  words-alike =
      record {
        reg-marks = put-reg-marks f ∙ ap (λ (l : List ℕ). pack_bits (take REGS l)) c.marks ∙ sym (put-reg-marks g);
        sys-marks = put-sys-marks f ∙ ap sys_marks c.marks ∙ sym (put-sys-marks g);
        map = λ i l. sym (map-word i l v) ∙ ap (λ (s : List ℕ). get_or s (i - at_map) 0) m ∙ map-word i l w;
        code = ap (λ (x : Open). x.code) o;
        waits = put-waits f ∙ ap (λ (x : Open). x.halted + 2 ^ 8 * x.nmi) o ∙ sym (put-waits g);
        pc = ap (λ (x : Open). x.pc) o;
        ecr = ap (λ (x : Open). x.ecr) o;
        regs = reg_same;
        psw =
            psw-whole (byte 0 (get_or v at_sys_marks 0)) (get_or v at_psw 0) (get_or w at_psw 0)
            (ap (λ (x : Open). x.id) o) (ap (λ (x : Open). x.ep) o) (ap (λ (x : Open). x.np) o) ((saved_agreed 5).1 refl);
        eipsw = (saved_agreed 1).1 refl;
        fepsw = (saved_agreed 3).1 refl;
        eipc = λ e. (saved_agreed 0).0 refl (first_bit (byte 3 (get_or v at_sys_marks 0)) ∙ e);
        fepc = λ e. (saved_agreed 2).0 refl (second-bit (byte 3 (get_or v at_sys_marks 0)) ∙ e);
      }
