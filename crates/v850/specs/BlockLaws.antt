-- The block taken apart and put together: each undoes the other, for blocks that pass the tests of STATE.
use Rattle.std.specs.Prelude.{◌≡◌, true, List, [], ◌∷◌, ◌++◌, ℕ, suc, ◌+◌, ◌*◌, ◌/◌, ◌%◌, ◌^◌, ◌≤◌, ◌<◌, length, get_or, take, drop}
use Rattle.std.proofs.Common.{sym, ap, ap₂, ◌∙◌, subst, lt_of_lt_of_le, pow_mono, length-drop, length-append, length-take-le, take_at, get_or-take, get_or-drop, ltb-true, lt-ltb, leb-true, le-leb, eqb-true, eq-eqb}
use native.Mathlib.Omega.{arith}
use Rattle.std.proofs.Math.ListN.{get_or-append}
use Rattle.std.proofs.Math.Seq.{slice-cons, length-slice}
use Rattle.word.specs.Tests.{both_true, true_both}
use Rattle.machine.specs.declared.Open.{Open}
use Rattle.machine.specs.Marked.{Cells, both}
use Rattle.machine.specs.Psw.{REGS, sys, EIPC, EIPSW, FEPC, FEPSW, ECR, PSW, CELLS, psw}
use Rattle.machine.specs.WellFormed.{WellFormed, limit, mark_limit, good_code}
use Rattle.machine.specs.InvariantLaws.{reg-limit, reg-mark-limit, code_target}
use Rattle.machine.proofs.Invariants.{reset_well_formed}
use Rattle.v850.specs.Block.{bits_from, pack_bits, byte, at_pc, at_psw, at_eipc, at_eipsw, at_fepc, at_fepsw, at_ecr, at_code, at_waits, at_reg_marks, at_sys_marks, at_map, MAP_WORDS, WORDS, map_in, core_in, nums_in, marks_in, cells_in, words_of, good_state}
use Rattle.v850.specs.PackLaws.{Below, below-append, below-cons, below-take, pack_lt, bits-length, bits_below, bits-pack, pack-bits}
use Rattle.v850.specs.PartLaws.{psw-parts, psw-whole, waits-parts, waits-whole, marks-parts, marks-whole}
use Rattle.v850.specs.PlaceLaws.{after, drop-after, of_cells, six_there, eleven_there}

-- the map in a block's words
pub map-long : (ws : List ℕ) → length ws ≡ WORDS → length (map_in ws) ≡ MAP_WORDS
map-long ws h = omega (arith, length-drop at_map ws)

pub map-words : {ws : List ℕ} → Below (2 ^ 32) ws → Below (2 ^ 32) (map_in ws)
map-words {ws} h = record { at = λ i. rw (get_or-drop at_map ws i 0) (h.at (at_map + i)) }

-- marks of registers and of saved PCs are 0 or 1
pub record Marks (m : List ℕ) : Type 0 where
  pub long : length m ≡ CELLS
  pub regs : (i : ℕ) → i < REGS → get_or m i 0 < 2
  pub eipc : get_or m (sys EIPC) 0 < 2
  pub fepc : get_or m (sys FEPC) 0 < 2

pub formed-marks : {o : Open} {c : Cells} → WellFormed o c → Marks c.marks
formed-marks {o} {c} w =
    record { long = w.cells.marks; regs = λ i h. reg-mark i h (w.cells.small-marks i); eipc = w.cells.small-marks (sys EIPC); fepc = w.cells.small-marks (sys FEPC) }
  where
    reg-mark : (i : ℕ) → i < REGS → get_or c.marks i 0 < mark_limit i → get_or c.marks i 0 < 2
    reg-mark i h l = rw (reg-mark-limit i h) at l

-- the word of the system registers' marks
abbrev pub sys_marks : List ℕ → ℕ
sys_marks m =
    get_or m (sys PSW) 0 % 2 ^ 5 + 2 ^ 8 * get_or m (sys EIPSW) 0 + 2 ^ 16 * get_or m (sys FEPSW) 0
    + 2 ^ 24 * (get_or m (sys EIPC) 0 + 2 * get_or m (sys FEPC) 0)

-- the registers' marks
regs-bits : (m : List ℕ) → Marks m → Below 2 (take REGS m)
regs-bits m h = below-take 2 m REGS (omega arith) h.regs

-- one more of them at the low end
pub pack-more : (m : List ℕ) (i : ℕ) → Marks m → i < REGS → get_or m i 0 + 2 * pack_bits (drop (suc i) (take REGS m)) ≡ pack_bits (drop i (take REGS m))
unfolding pack_bits
pack-more m i h l = sym (ap pack_bits (slice-cons i REGS m 0 l (omega (arith, h.long))))

pub pack-word : (m : List ℕ) (i : ℕ) → Marks m → pack_bits (drop i (take REGS m)) < 2 ^ 32
pack-word m i h =
    lt_of_lt_of_le
    (pack_lt (drop i (take REGS m)) (record { at = λ k. subst (λ (x : ℕ). x < 2) (sym (get_or-drop i (take REGS m) k 0)) ((regs-bits m h).at (i + k)) }))
    (pow_mono {i = length (drop i (take REGS m))} {j = 32} (omega (arith, length-slice i REGS m (omega (arith, h.long)))))

-- THE THEOREMS

-- What a well-formed state puts together is taken apart as that state.
module _ (o : Open) (c : Cells) (map : List ℕ) (w : WellFormed o c) where
  regs_long : length (take REGS c.nums) ≡ REGS
  regs_long = length-take-le REGS c.nums (omega (arith, w.cells.nums))

  the_pc : get_or (words_of o c map) at_pc 0 ≡ o.pc
  the_pc = after (take REGS c.nums) _ 0 regs_long

  the_psw : get_or (words_of o c map) at_psw 0 ≡ (psw o c).on
  the_psw = after (take REGS c.nums) _ 1 regs_long

  the_eipc : get_or (words_of o c map) at_eipc 0 ≡ get_or c.nums (sys EIPC) 0
  the_eipc = after (take REGS c.nums) _ 2 regs_long

  the_eipsw : get_or (words_of o c map) at_eipsw 0 ≡ get_or c.nums (sys EIPSW) 0
  the_eipsw = after (take REGS c.nums) _ 3 regs_long

  the_fepc : get_or (words_of o c map) at_fepc 0 ≡ get_or c.nums (sys FEPC) 0
  the_fepc = after (take REGS c.nums) _ 4 regs_long

  the_fepsw : get_or (words_of o c map) at_fepsw 0 ≡ get_or c.nums (sys FEPSW) 0
  the_fepsw = after (take REGS c.nums) _ 5 regs_long

  the_ecr : get_or (words_of o c map) at_ecr 0 ≡ o.ecr
  the_ecr = after (take REGS c.nums) _ 6 regs_long

  the_code : get_or (words_of o c map) at_code 0 ≡ o.code
  the_code = after (take REGS c.nums) _ 7 regs_long

  the_waits : get_or (words_of o c map) at_waits 0 ≡ o.halted + 2 ^ 8 * o.nmi
  the_waits = after (take REGS c.nums) _ 8 regs_long

  the_reg-marks : get_or (words_of o c map) at_reg_marks 0 ≡ pack_bits (take REGS c.marks)
  the_reg-marks = after (take REGS c.nums) _ 9 regs_long

  the_sys-marks : get_or (words_of o c map) at_sys_marks 0 ≡ sys_marks c.marks
  the_sys-marks = after (take REGS c.nums) _ 10 regs_long

  in_psw :
      (get_or (words_of o c map) at_psw 0 / 2 ^ 7 % 2 ≡ o.np) × (get_or (words_of o c map) at_psw 0 / 2 ^ 6 % 2 ≡ o.ep)
      × (get_or (words_of o c map) at_psw 0 / 2 ^ 5 % 2 ≡ o.id) × (get_or (words_of o c map) at_psw 0 % 2 ^ 5 ≡ get_or c.nums (sys PSW) 0)
      × (get_or (words_of o c map) at_psw 0 ≤ 0xFF)
  in_psw =
      let p = psw-parts (get_or c.nums (sys PSW) 0) o.np o.ep o.id w.core.np w.core.ep w.core.id in
      rw the_psw (p.0, p.1, p.2, p.3 ∙ omega (arith, w.cells.small (sys PSW)), p.4)

  in_waits :
      (byte 0 (get_or (words_of o c map) at_waits 0) ≡ o.halted) × (byte 1 (get_or (words_of o c map) at_waits 0) ≡ o.nmi)
      × (byte 2 (get_or (words_of o c map) at_waits 0) ≡ 0) × (byte 3 (get_or (words_of o c map) at_waits 0) ≡ 0)
  in_waits = rw the_waits (waits-parts o.halted o.nmi w.core.halted w.core.nmi)

  in_marks :
      (byte 0 (get_or (words_of o c map) at_sys_marks 0) ≡ get_or c.marks (sys PSW) 0 % 2 ^ 5)
      × (byte 1 (get_or (words_of o c map) at_sys_marks 0) ≡ get_or c.marks (sys EIPSW) 0)
      × (byte 2 (get_or (words_of o c map) at_sys_marks 0) ≡ get_or c.marks (sys FEPSW) 0)
      × (byte 3 (get_or (words_of o c map) at_sys_marks 0) ≡ get_or c.marks (sys EIPC) 0 + 2 * get_or c.marks (sys FEPC) 0)
  in_marks =
      rw the_sys-marks
      (marks-parts (get_or c.marks (sys PSW) 0) (get_or c.marks (sys EIPSW) 0) (get_or c.marks (sys FEPSW) 0) (get_or c.marks (sys EIPC) 0)
      (get_or c.marks (sys FEPC) 0) (w.cells.small-marks (sys EIPSW)) (w.cells.small-marks (sys FEPSW)) (w.cells.small-marks (sys EIPC)) (w.cells.small-marks (sys FEPC)))

  core_back : core_in (words_of o c map) ≡ o
  core_back = λ i.
      record {
        pc = the_pc i;
        np = in_psw.0 i;
        ep = in_psw.1 i;
        id = in_psw.2 i;
        ecr = the_ecr i;
        code = the_code i;
        nmi = in_waits.1 i;
        halted = in_waits.0 i;
      }

  regs_back : take REGS (words_of o c map) ≡ take REGS c.nums
  regs_back = take_at (take REGS c.nums) _ REGS regs_long

  nums_back : nums_in (words_of o c map) ≡ c.nums
  nums_back =
      let ecr : 0 ≡ get_or c.nums (sys ECR) 0 = omega (arith, w.cells.small (sys ECR)) in
      ap₂ (λ (s t : List ℕ). s ++ t) regs_back (λ i. the_eipc i ∷ the_eipsw i ∷ the_fepc i ∷ the_fepsw i ∷ ecr i ∷ in_psw.3 i ∷ [])
      ∙ six_there c.nums w.cells.nums

  marks_back : marks_in (words_of o c map) ≡ c.marks
  marks_back =
      let m = c.marks in
      let k = formed-marks w in
      let regs : bits_from (get_or (words_of o c map) at_reg_marks 0) 0 REGS ≡ take REGS m =
      ap (λ (x : ℕ). bits_from x 0 REGS) the_reg-marks
      ∙ ap (λ (n : ℕ). bits_from (pack_bits (take REGS m)) 0 n) (sym (length-take-le REGS m (omega (arith, k.long))))
      ∙ bits-pack (take REGS m) (regs-bits m k) in
      let eipc : byte 3 (get_or (words_of o c map) at_sys_marks 0) % 2 ≡ get_or m (sys EIPC) 0 =
      ap (λ (x : ℕ). x % 2) in_marks.3 ∙ omega (arith, k.eipc) in
      let fepc : byte 3 (get_or (words_of o c map) at_sys_marks 0) / 2 % 2 ≡ get_or m (sys FEPC) 0 =
      ap (λ (x : ℕ). x / 2 % 2) in_marks.3 ∙ omega (arith, k.eipc, k.fepc) in
      let ecr : 0 ≡ get_or m (sys ECR) 0 = omega (arith, w.cells.small-marks (sys ECR)) in
      let flags : byte 0 (get_or (words_of o c map) at_sys_marks 0) % 2 ^ 5 ≡ get_or m (sys PSW) 0 =
      ap (λ (x : ℕ). x % 2 ^ 5) in_marks.0 ∙ omega (arith, w.cells.small-marks (sys PSW)) in
      ap₂ (λ (s t : List ℕ). s ++ t) regs (λ i. eipc i ∷ in_marks.1 i ∷ fepc i ∷ in_marks.2 i ∷ ecr i ∷ flags i ∷ []) ∙ six_there m k.long

  cells_back : cells_in (words_of o c map) ≡ c
  cells_back = ap₂ both nums_back marks_back

  map_back : map_in (words_of o c map) ≡ map
  map_back = drop-after (take REGS c.nums) _ 11 regs_long

pub apart-together : (o : Open) (c : Cells) (map : List ℕ) → WellFormed o c
    → (core_in (words_of o c map) ≡ o) × (cells_in (words_of o c map) ≡ c) × (map_in (words_of o c map) ≡ map)
apart-together o c map w = (core_back o c map w, cells_back o c map w, map_back o c map w)

-- The tests of STATE, one by one
pub record Passed (ws : List ℕ) : Type 0 where
  pub r0 : get_or ws 0 0 ≡ 0
  pub r0-mark : get_or ws at_reg_marks 0 % 2 ≡ 0
  pub pc_even : get_or ws at_pc 0 % 2 ≡ 0
  pub pc : get_or ws at_pc 0 ≤ 0xFFFFFE
  pub psw : get_or ws at_psw 0 ≤ 0xFF
  pub eipsw : get_or ws at_eipsw 0 ≤ 0xFF
  pub fepsw : get_or ws at_fepsw 0 ≤ 0xFF
  pub eipc : get_or ws at_eipc 0 ≤ 0xFFFFFF
  pub fepc : get_or ws at_fepc 0 ≤ 0xFFFFFF
  pub code : good_code (get_or ws at_code 0) ≡ true
  pub halted : byte 0 (get_or ws at_waits 0) ≤ 1
  pub nmi : byte 1 (get_or ws at_waits 0) ≤ 1
  pub filler : byte 2 (get_or ws at_waits 0) ≡ 0
  pub filler2 : byte 3 (get_or ws at_waits 0) ≡ 0
  pub psw-marks : byte 0 (get_or ws at_sys_marks 0) < 2 ^ 5
  pub pc-marks : byte 3 (get_or ws at_sys_marks 0) ≤ 3

pub passed : (ws : List ℕ) → good_state ws ≡ true → Passed ws
unfolding good_state
passed ws h =
    let h1 = both_true _ _ h in
    let h2 = both_true _ _ h1.1 in
    let h3 = both_true _ _ h2.1 in
    let h4 = both_true _ _ h3.1 in
    let h5 = both_true _ _ h4.1 in
    let h6 = both_true _ _ h5.1 in
    let h7 = both_true _ _ h6.1 in
    let h8 = both_true _ _ h7.1 in
    let h9 = both_true _ _ h8.1 in
    let h10 = both_true _ _ h9.1 in
    let h11 = both_true _ _ h10.1 in
    let h12 = both_true _ _ h11.1 in
    let h13 = both_true _ _ h12.1 in
    let h14 = both_true _ _ h13.1 in
    let h15 = both_true _ _ h14.1 in
    record {
      r0 = eqb-true _ _ h1.0;
      r0-mark = eqb-true _ _ h2.0;
      pc_even = eqb-true _ _ h3.0;
      pc = leb-true _ _ h4.0;
      psw = leb-true _ _ h5.0;
      eipsw = leb-true _ _ h6.0;
      fepsw = leb-true _ _ h7.0;
      eipc = leb-true _ _ h8.0;
      fepc = leb-true _ _ h9.0;
      code = h10.0;
      halted = leb-true _ _ h11.0;
      nmi = leb-true _ _ h12.0;
      filler = eqb-true _ _ h13.0;
      filler2 = eqb-true _ _ h14.0;
      psw-marks = ltb-true _ _ h15.0;
      pc-marks = leb-true _ _ h15.1;
    }

pub passes : (ws : List ℕ) → Passed ws → good_state ws ≡ true
unfolding good_state
passes ws p =
    true_both (eq-eqb _ _ p.r0) (true_both (eq-eqb _ _ p.r0-mark) (true_both (eq-eqb _ _ p.pc_even) (true_both (le-leb _ _ p.pc)
    (true_both (le-leb _ _ p.psw) (true_both (le-leb _ _ p.eipsw) (true_both (le-leb _ _ p.fepsw)
    (true_both (le-leb _ _ p.eipc) (true_both (le-leb _ _ p.fepc) (true_both p.code
    (true_both (le-leb _ _ p.halted) (true_both (le-leb _ _ p.nmi) (true_both (eq-eqb _ _ p.filler) (true_both (eq-eqb _ _ p.filler2)
    (true_both (lt-ltb _ _ p.psw-marks) (le-leb _ _ p.pc-marks)))))))))))))))

-- What a well-formed state puts together is words.
pub formed-words : (o : Open) (c : Cells) (map : List ℕ) → WellFormed o c → Below (2 ^ 32) map → Below (2 ^ 32) (words_of o c map)
formed-words o c map w h =
    below-append (take REGS c.nums) _ (below-take (2 ^ 32) c.nums REGS (omega arith) (λ i l. simp (lt-ltb i REGS l) at (w.cells.small i)))
    (below-cons (omega (arith, w.core.pc_24)) (below-cons (omega arith) (below-cons (omega (arith, w.cells.small (sys EIPC))) (below-cons (omega (arith, w.cells.small (sys EIPSW)))
    (below-cons (omega (arith, w.cells.small (sys FEPC))) (below-cons (omega (arith, w.cells.small (sys FEPSW))) (below-cons w.core.ecr (below-cons (omega (arith, (code_target o.code w.core.code).1))
    (below-cons (omega (arith, w.core.halted, w.core.nmi)) (below-cons (pack-word c.marks 0 (formed-marks w))
    (below-cons (omega (arith, w.cells.small-marks (sys EIPSW), w.cells.small-marks (sys FEPSW), w.cells.small-marks (sys EIPC), w.cells.small-marks (sys FEPC))) h)))))))))))

-- What a well-formed state puts together passes.
pub formed-good-state : (o : Open) (c : Cells) (map : List ℕ) → WellFormed o c → good_state (words_of o c map) ≡ true
formed-good-state o c map w =
    passes (words_of o c map)
    (record {
      r0 = get_or-append (take REGS c.nums) _ 0 0 (omega (arith, regs_long o c map w)) ∙ get_or-take REGS c.nums 0 0 (omega arith) ∙ w.cells.r0;
      r0-mark = ap (λ (x : ℕ). x % 2) (the_reg-marks o c map w)
          ∙ omega (arith, pack-more c.marks 0 (formed-marks w) (omega arith), w.cells.r0-mark);
      pc_even = ap (λ (x : ℕ). x % 2) (the_pc o c map w) ∙ w.core.pc_even;
      pc = omega (arith, the_pc o c map w, w.core.pc_even, w.core.pc_24);
      psw = (in_psw o c map w).4;
      eipsw = omega (arith, the_eipsw o c map w, w.cells.small (sys EIPSW));
      fepsw = omega (arith, the_fepsw o c map w, w.cells.small (sys FEPSW));
      eipc = omega (arith, the_eipc o c map w, w.cells.small (sys EIPC));
      fepc = omega (arith, the_fepc o c map w, w.cells.small (sys FEPC));
      code = ap good_code (the_code o c map w) ∙ w.core.code;
      halted = omega (arith, (in_waits o c map w).0, w.core.halted);
      nmi = omega (arith, (in_waits o c map w).1, w.core.nmi);
      filler = (in_waits o c map w).2;
      filler2 = (in_waits o c map w).3;
      psw-marks = omega (arith, (in_marks o c map w).0);
      pc-marks = omega (arith, (in_marks o c map w).3, w.cells.small-marks (sys EIPC), w.cells.small-marks (sys FEPC));
    })

-- What passes is taken apart as a well-formed state, and put together as it was.
module _ (ws : List ℕ) (long : length ws ≡ WORDS) (words : Below (2 ^ 32) ws) (good : good_state ws ≡ true) where
  first_long : length (take REGS ws) ≡ REGS
  first_long = length-take-le REGS ws (omega arith)

  bit_0 : get_or ws at_reg_marks 0 % 2 ≡ 0 → get_or (marks_in ws) 0 0 ≡ 0
  unfolding bits_from
  bit_0 h = omega arith

  pub good-state-formed : WellFormed (core_in ws) (cells_in ws)
  good-state-formed =
      let p = passed ws good in
      record {
        core = record {
          pc_even = p.pc_even;
          pc_24 = omega (arith, p.pc);
          np = omega arith;
          ep = omega arith;
          id = omega arith;
          ecr = words.at at_ecr;
          code = p.code;
          nmi = omega (arith, p.nmi);
          halted = omega (arith, p.halted);
        };
        cells = record {
          nums = length-append (take REGS ws) _ ∙ omega (arith, first_long);
          marks = length-append (bits_from (get_or ws at_reg_marks 0) 0 REGS) _ ∙ omega (arith, bits-length (get_or ws at_reg_marks 0) 0 REGS);
          r0 = get_or-append (take REGS ws) _ 0 0 (omega (arith, first_long)) ∙ get_or-take REGS ws 0 0 (omega arith) ∙ p.r0;
          r0-mark = bit_0 p.r0-mark;
          small = of_cells (λ (i x : ℕ). x < limit i) (take REGS ws) _ _ _ _ _ _ first_long
              (λ i h. rw (reg-limit i h, get_or-take REGS ws i 0 h) (words.at i))
              (omega (arith, p.eipc)) (omega (arith, p.eipsw)) (omega (arith, p.fepc)) (omega (arith, p.fepsw)) (omega arith) (omega arith)
              (λ i h. omega (arith, reset_well_formed.cells.small i));
          small-marks = of_cells (λ (i x : ℕ). x < mark_limit i) (bits_from (get_or ws at_reg_marks 0) 0 REGS) _ _ _ _ _ _ (bits-length (get_or ws at_reg_marks 0) 0 REGS)
              (λ i h. rw (reg-mark-limit i h) ((bits_below (get_or ws at_reg_marks 0) 0 REGS).at i))
              (omega arith) (omega arith) (omega arith) (omega arith) (omega arith) (omega arith)
              (λ i h. omega (arith, reset_well_formed.cells.small-marks i));
        };
      }

  pub together-apart : words_of (core_in ws) (cells_in ws) (map_in ws) ≡ ws
  together-apart =
      let p = passed ws good in
      let n = nums_in ws in
      let m = marks_in ws in
      let bits = bits_from (get_or ws at_reg_marks 0) 0 REGS in
      let bl = bits-length (get_or ws at_reg_marks 0) 0 REGS in
      let regs : take REGS n ≡ take REGS ws = take_at (take REGS ws) _ REGS first_long in
      let flags : get_or n (sys PSW) 0 ≡ get_or ws at_psw 0 % 2 ^ 5 = after (take REGS ws) _ 5 first_long in
      let psw : (psw (core_in ws) (cells_in ws)).on ≡ get_or ws at_psw 0 = rw flags (psw-whole (get_or ws at_psw 0) p.psw) in
      let eipc : get_or n (sys EIPC) 0 ≡ get_or ws at_eipc 0 = after (take REGS ws) _ 0 first_long in
      let eipsw : get_or n (sys EIPSW) 0 ≡ get_or ws at_eipsw 0 = after (take REGS ws) _ 1 first_long in
      let fepc : get_or n (sys FEPC) 0 ≡ get_or ws at_fepc 0 = after (take REGS ws) _ 2 first_long in
      let fepsw : get_or n (sys FEPSW) 0 ≡ get_or ws at_fepsw 0 = after (take REGS ws) _ 3 first_long in
      let waits = waits-whole (get_or ws at_waits 0) (words.at at_waits) p.filler p.filler2 in
      let reg-marks : pack_bits (take REGS m) ≡ get_or ws at_reg_marks 0 =
      ap pack_bits (take_at bits _ REGS bl) ∙ pack-bits (get_or ws at_reg_marks 0) REGS (words.at at_reg_marks) in
      let sys-marks : sys_marks m ≡ get_or ws at_sys_marks 0 =
      rw (after bits _ 5 bl, after bits _ 1 bl, after bits _ 3 bl, after bits _ 0 bl, after bits _ 2 bl)
      (marks-whole (get_or ws at_sys_marks 0) (words.at at_sys_marks) p.psw-marks p.pc-marks) in
      ap₂ (λ (s t : List ℕ). s ++ t) regs
      (λ i. get_or ws at_pc 0 ∷ psw i ∷ eipc i ∷ eipsw i ∷ fepc i ∷ fepsw i ∷ get_or ws at_ecr 0 ∷ get_or ws at_code 0 ∷ waits i ∷ reg-marks i ∷ sys-marks i ∷ drop at_map ws)
      ∙ eleven_there ws long
