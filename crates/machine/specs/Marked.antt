-- Values with marks, and how marks travel. The rule that a result is marked exactly if something that it reads is marked stands in `lift1`, `lift2` and `lift_all`, and for flags and saved PSWs in `condition`, `mode` and `gathered` of Psw.
use Rattle.std.specs.Prelude.{Bool, false, cond, ◌||◌, not, List, [], ◌∷◌, ℕ, eqb, get_or, set}
use Rattle.machine.specs.declared.Tv.{Tv}

abbrev pub tv : ℕ → Bool → Tv
tv v m = record { val = v; mark = m }

-- an immediate is unmarked
abbrev pub plain : ℕ → Tv
plain v = tv v false

abbrev pub lift1 : (ℕ → ℕ) → Tv → Tv
lift1 f a = tv (f a.val) a.mark

abbrev pub lift2 : (ℕ → ℕ → ℕ) → Tv → Tv → Tv
lift2 f a b = tv (f a.val b.val) (a.mark || b.mark)

abbrev pub vals : List Tv → List ℕ
vals [] = []
vals (v ∷ vs) = v.val ∷ vals vs

abbrev pub any_mark : List Tv → Bool
any_mark [] = false
any_mark (v ∷ vs) = v.mark || any_mark vs

abbrev pub lift_all : (List ℕ → ℕ) → List Tv → Tv
lift_all f vs = tv (f (vals vs)) (any_mark vs)

-- Numbers beside their marks: registers, and bytes of memory
pub record Cells : Type 0 where
  pub nums : List ℕ
  pub marks : List ℕ

abbrev pub both : List ℕ → List ℕ → Cells
both n m = record { nums = n; marks = m }

-- a nonzero number means marked, and only 0 or 1 is written
abbrev pub marked : ℕ → Bool
marked m = not (eqb m 0)

abbrev pub mark_of : Bool → ℕ
mark_of b = cond b 1 0

abbrev pub cell : Cells → ℕ → Tv
cell c i = tv (get_or c.nums i 0) (marked (get_or c.marks i 0))

abbrev pub put : ℕ → Tv → Cells → Cells
put i v c = both (set c.nums i v.val) (set c.marks i (mark_of v.mark))

-- the number at i changed, and its mark left as it is
abbrev pub edit : ℕ → (ℕ → ℕ) → Cells → Cells
edit i f c = both (set c.nums i (f (get_or c.nums i 0))) c.marks
