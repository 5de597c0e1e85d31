-- PSW, the word of waits and the word of the system registers' marks, apart and together.
use Rattle.std.specs.Prelude.{◌≡◌, List, ℕ, ◌+◌, ◌*◌, ◌/◌, ◌%◌, ◌^◌, ◌≤◌, ◌<◌, get_or}
use Rattle.std.proofs.Common.{sym, ap, ◌∙◌, arith, shr-shr}
use Rattle.v850.specs.Block.{byte}
use Rattle.v850.specs.PackLaws.{whole, parts}

pub psw-parts : (f np ep id : ℕ) → np < 2 → ep < 2 → id < 2
    → ((f % 2 ^ 5 + 2 ^ 5 * (id % 2) + 2 ^ 6 * (ep % 2) + 2 ^ 7 * (np % 2)) / 2 ^ 7 % 2 ≡ np)
    × ((f % 2 ^ 5 + 2 ^ 5 * (id % 2) + 2 ^ 6 * (ep % 2) + 2 ^ 7 * (np % 2)) / 2 ^ 6 % 2 ≡ ep)
    × ((f % 2 ^ 5 + 2 ^ 5 * (id % 2) + 2 ^ 6 * (ep % 2) + 2 ^ 7 * (np % 2)) / 2 ^ 5 % 2 ≡ id)
    × ((f % 2 ^ 5 + 2 ^ 5 * (id % 2) + 2 ^ 6 * (ep % 2) + 2 ^ 7 * (np % 2)) % 2 ^ 5 ≡ f % 2 ^ 5)
    × (f % 2 ^ 5 + 2 ^ 5 * (id % 2) + 2 ^ 6 * (ep % 2) + 2 ^ 7 * (np % 2) ≤ 0xFF)
psw-parts f np ep id h k l = (omega arith, omega arith, omega arith, omega arith, omega arith)

pub psw-whole : (x : ℕ) → x ≤ 0xFF → x % 2 ^ 5 % 2 ^ 5 + 2 ^ 5 * (x / 2 ^ 5 % 2 % 2) + 2 ^ 6 * (x / 2 ^ 6 % 2 % 2) + 2 ^ 7 * (x / 2 ^ 7 % 2 % 2) ≡ x
psw-whole x h =
    add x (x % 2 ^ 5 % 2 ^ 5) (x / 2 ^ 5) (x / 2 ^ 5 % 2 % 2) (x / 2 ^ 6) (x / 2 ^ 6 % 2 % 2) (x / 2 ^ 7) (x / 2 ^ 7 % 2 % 2)
    (omega arith) (omega (arith, shr-shr x 5 1)) (omega (arith, shr-shr x 6 1)) (omega arith)
  where
    add : (x r q b q' b' q'' b'' : ℕ) → x ≡ r + 2 ^ 5 * q → q ≡ b + 2 * q' → q' ≡ b' + 2 * q'' → q'' ≡ b'' → r + 2 ^ 5 * b + 2 ^ 6 * b' + 2 ^ 7 * b'' ≡ x
    add x r q b q' b' q'' b'' h k l m = omega arith

pub byte_0 : (x : ℕ) → byte 0 x ≡ x % 2 ^ 8
byte_0 x = omega arith

pub waits-parts : (h n : ℕ) → h < 2 → n < 2
    → (byte 0 (h + 2 ^ 8 * n) ≡ h) × (byte 1 (h + 2 ^ 8 * n) ≡ n) × (byte 2 (h + 2 ^ 8 * n) ≡ 0) × (byte 3 (h + 2 ^ 8 * n) ≡ 0)
waits-parts h n p q = (omega arith, omega arith, omega arith, omega arith)

pub waits-whole : (x : ℕ) → x < 2 ^ 32 → byte 2 x ≡ 0 → byte 3 x ≡ 0 → byte 0 x + 2 ^ 8 * byte 1 x ≡ x
waits-whole x h p q = omega (arith, whole x h)

pub marks-parts : (p e f a b : ℕ) → e < 2 ^ 8 → f < 2 ^ 8 → a < 2 → b < 2
    → (byte 0 (p % 2 ^ 5 + 2 ^ 8 * e + 2 ^ 16 * f + 2 ^ 24 * (a + 2 * b)) ≡ p % 2 ^ 5)
    × (byte 1 (p % 2 ^ 5 + 2 ^ 8 * e + 2 ^ 16 * f + 2 ^ 24 * (a + 2 * b)) ≡ e)
    × (byte 2 (p % 2 ^ 5 + 2 ^ 8 * e + 2 ^ 16 * f + 2 ^ 24 * (a + 2 * b)) ≡ f)
    × (byte 3 (p % 2 ^ 5 + 2 ^ 8 * e + 2 ^ 16 * f + 2 ^ 24 * (a + 2 * b)) ≡ a + 2 * b)
marks-parts p e f a b he hf ha hb =
    let x : p % 2 ^ 5 + 2 ^ 8 * e + 2 ^ 16 * f + 2 ^ 24 * (a + 2 * b) ≡ p % 2 ^ 5 + 2 ^ 8 * (e + 2 ^ 8 * (f + 2 ^ 8 * (a + 2 * b))) = omega arith in
    let l = parts (p % 2 ^ 5) e f (a + 2 * b) (omega arith) he hf (omega arith) in
    rw x (byte_0 _ ∙ ap (λ (s : List ℕ). get_or s 0 0) l, ap (λ (s : List ℕ). get_or s 1 0) l, ap (λ (s : List ℕ). get_or s 2 0) l, ap (λ (s : List ℕ). get_or s 3 0) l)

pub marks-whole : (x : ℕ) → x < 2 ^ 32 → byte 0 x < 2 ^ 5 → byte 3 x ≤ 3
    → byte 0 x % 2 ^ 5 % 2 ^ 5 + 2 ^ 8 * byte 1 x + 2 ^ 16 * byte 2 x + 2 ^ 24 * (byte 3 x % 2 + 2 * (byte 3 x / 2 % 2)) ≡ x
marks-whole x h p q =
    add x (byte 0 x) (byte 1 x) (byte 2 x) (byte 3 x) (byte 0 x % 2 ^ 5 % 2 ^ 5) (byte 3 x % 2) (byte 3 x / 2 % 2)
    (sym (whole x h) ∙ ap (λ (y : ℕ). y + 2 ^ 8 * (byte 1 x + 2 ^ 8 * (byte 2 x + 2 ^ 8 * byte 3 x))) (sym (byte_0 x)))
    (omega arith) (omega arith)
  where
    add : (x b0 b1 b2 b3 r s t : ℕ) → x ≡ b0 + 2 ^ 8 * (b1 + 2 ^ 8 * (b2 + 2 ^ 8 * b3)) → r ≡ b0 → b3 ≡ s + 2 * t
        → r + 2 ^ 8 * b1 + 2 ^ 16 * b2 + 2 ^ 24 * (s + 2 * t) ≡ x
    add x b0 b1 b2 b3 r s t h k l = omega arith
