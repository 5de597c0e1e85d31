-- Lists of cells and of words, by places: the registers, and what is behind them.
use Rattle.std.specs.Prelude.{◌≡◌, refl, Bool, true, false, List, [], ◌∷◌, ◌++◌, ℕ, zero, suc, ◌+◌, ◌-◌, ◌≤◌, ◌<◌, ltb, length, get_or, take, drop}
use Rattle.std.proofs.Common.{sym, ap, ◌∙◌, subst, arith, take-append-drop, drop_of_length-le, get_or-append-add, drop-cons, ltb-true, ltb-false}
use Rattle.std.proofs.Math.ListN.{get_or-append}
use Rattle.std.proofs.Math.Seq.{drop-append-add}
use Rattle.machine.specs.Psw.{REGS, sys, EIPC, EIPSW, FEPC, FEPSW, ECR, PSW, CELLS}
use Rattle.v850.specs.Block.{WORDS, at_map}

pub before : (s t : List ℕ) (i : ℕ) → length s ≡ REGS → i < REGS → get_or (s ++ t) i 0 ≡ get_or s i 0
before s t i h l = get_or-append s t 0 i (omega arith)

pub after : (s t : List ℕ) (j : ℕ) → length s ≡ REGS → get_or (s ++ t) (REGS + j) 0 ≡ get_or t j 0
after s t j h = ap (λ (k : ℕ). get_or (s ++ t) (k + j) 0) (sym h) ∙ get_or-append-add s t j 0

pub drop-after : (s t : List ℕ) (j : ℕ) → length s ≡ REGS → drop (REGS + j) (s ++ t) ≡ drop j t
drop-after s t j h = ap (λ (k : ℕ). drop (k + j) (s ++ t)) (sym h) ∙ drop-append-add s t j

-- what holds of the registers' places and of those behind them holds everywhere
pub everywhere : (P : ℕ → Type 0) → ((i : ℕ) → i < REGS → P i) → ((j : ℕ) → P (REGS + j)) → (i : ℕ) → P i
everywhere P first rest i = cases (ltb i REGS) refl
  where
    cases : (t : Bool) → ltb i REGS ≡ t → P i
    cases true q = first i (ltb-true i REGS q)
    cases false q = subst P {x = REGS + (i - REGS)} {y = i} (omega (arith, ltb-false i REGS q)) (rest (i - REGS))

-- the same of a list of cells, whose last six are given, and of zeros past its end
pub of_cells : (P : ℕ → ℕ → Type 0) (s : List ℕ) (a b d e f g : ℕ) → length s ≡ REGS → ((i : ℕ) → i < REGS → P i (get_or s i 0))
    → P (sys EIPC) a → P (sys EIPSW) b → P (sys FEPC) d → P (sys FEPSW) e → P (sys ECR) f → P (sys PSW) g → ((i : ℕ) → CELLS ≤ i → P i 0)
    → (i : ℕ) → P i (get_or (s ++ (a ∷ b ∷ d ∷ e ∷ f ∷ g ∷ [])) i 0)
of_cells P s a b d e f g h hs ha hb hd he hf hg hz =
    everywhere (λ (i : ℕ). P i (get_or (s ++ (a ∷ b ∷ d ∷ e ∷ f ∷ g ∷ [])) i 0))
    (λ i l. subst (P i) (sym (before s (a ∷ b ∷ d ∷ e ∷ f ∷ g ∷ []) i h l)) (hs i l))
    (λ j. subst (P (REGS + j)) (sym (after s (a ∷ b ∷ d ∷ e ∷ f ∷ g ∷ []) j h)) (tail j))
  where
    tail : (j : ℕ) → P (REGS + j) (get_or (a ∷ b ∷ d ∷ e ∷ f ∷ g ∷ []) j 0)
    tail zero = ha
    tail (suc zero) = hb
    tail (suc (suc zero)) = hd
    tail (suc (suc (suc zero))) = he
    tail (suc (suc (suc (suc zero)))) = hf
    tail (suc (suc (suc (suc (suc zero))))) = hg
    tail (suc (suc (suc (suc (suc (suc j)))))) = hz _ (omega arith)

-- n numbers of a list from number k on
abbrev pub reads : List ℕ → ℕ → ℕ → List ℕ
reads l k zero = []
reads l k (suc n) = get_or l k 0 ∷ reads l (suc k) n

drop-reads : (l : List ℕ) (k n : ℕ) → k + n ≤ length l → drop k l ≡ reads l k n ++ drop (k + n) l
drop-reads l k zero h = ap (λ (j : ℕ). drop j l) {x = k} {y = k + 0} (omega arith)
drop-reads l k (suc n) h =
    drop-cons l k 0 (omega arith)
    ∙ ap (λ (s : List ℕ). get_or l k 0 ∷ s) (drop-reads l (suc k) n (omega arith) ∙ ap (λ (j : ℕ). reads l (suc k) n ++ drop j l) {x = suc k + n} {y = k + suc n} (omega arith))

-- a list of cells is the registers and the six behind them; a list of words has eleven between the registers and the map
pub six_there : (l : List ℕ) → length l ≡ CELLS → take REGS l ++ reads l REGS 6 ≡ l
six_there l h =
    ap (λ (s : List ℕ). take REGS l ++ s)
    (sym (drop-reads l REGS 6 (omega arith) ∙ ap (λ (s : List ℕ). reads l REGS 6 ++ s) (drop_of_length-le l {i = CELLS} (omega arith))))
    ∙ take-append-drop REGS l

pub eleven_there : (l : List ℕ) → length l ≡ WORDS → take REGS l ++ (reads l REGS 11 ++ drop at_map l) ≡ l
eleven_there l h = ap (λ (s : List ℕ). take REGS l ++ s) (sym (drop-reads l REGS 11 (omega arith))) ∙ take-append-drop REGS l
