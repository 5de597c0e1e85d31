-- The five flags that instructions compute, which are the low bits of PSW, and the sixteen conditions over them.
use Rattle.std.specs.Prelude.{ℕ, ◌+◌, Bool, true, false, cond, not, ◌||◌, List, [], ◌∷◌, slice_index_or}
use Rattle.word.specs.Shifts.{bit}

pub record Flags : Type 0 where
  pub z : Bool
  pub s : Bool
  pub ov : Bool
  pub cy : Bool
  pub sat : Bool

-- PSW bits 0 to 4, taken apart and put together
abbrev pub unpacked : ℕ → Flags
unpacked n = record { z = bit 0 n; s = bit 1 n; ov = bit 2 n; cy = bit 3 n; sat = bit 4 n }

abbrev pub packed : Flags → ℕ
packed f = cond f.z 1 0 + cond f.s 2 0 + cond f.ov 4 0 + cond f.cy 8 0 + cond f.sat 16 0

abbrev pub xor : Bool → Bool → Bool
xor a b = cond a (not b) b

-- The conditions by number. `either`, `differ` and `flip` join what stands for a flag: its truth, or whether it is looked at.
unfoldable pub conditions : {A : Type 0} (either differ : A → A → A) (flip : A → A) (always z s ov cy sat : A) → List A
conditions either differ flip always z s ov cy sat =
    ov  -- 0 V
    ∷ cy  -- 1 C, L
    ∷ z  -- 2 Z, E
    ∷ either cy z  -- 3 NH
    ∷ s  -- 4 S, N
    ∷ always  -- 5 T
    ∷ differ s ov  -- 6 LT
    ∷ either (differ s ov) z  -- 7 LE
    ∷ flip ov  -- 8 NV
    ∷ flip cy  -- 9 NC, NL
    ∷ flip z  -- 10 NZ, NE
    ∷ flip (either cy z)  -- 11 H
    ∷ flip s  -- 12 NS, P
    ∷ sat  -- 13 SA
    ∷ flip (differ s ov)  -- 14 GE
    ∷ flip (either (differ s ov) z)  -- 15 GT
    ∷ []

-- condition k is true of the flags f
unfoldable pub holds : ℕ → Flags → Bool
holds k f = slice_index_or (conditions ◌||◌ xor not true f.z f.s f.ov f.cy f.sat) k false

-- condition k reads one of the flags f, whatever its truth
unfoldable pub reads : ℕ → Flags → Bool
reads k f = slice_index_or (conditions ◌||◌ ◌||◌ (λ x. x) false f.z f.s f.ov f.cy f.sat) k false
