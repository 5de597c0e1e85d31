-- Fields of fewer bits as words, and sums of 24 bits.
use Rattle.std.specs.Prelude.{ℕ, ◌+◌, ◌-◌, ◌*◌, ◌%◌, ◌^◌, cond, nat_lt}
use Rattle.word.specs.Word.{W}

-- the low k bits of n
abbrev pub zero_extend : ℕ → ℕ → ℕ
zero_extend k n = n % 2 ^ k

-- n counted by its sign: from half on it stands for n - 2 * half
unfoldable pub by_sign : ℕ → ℕ → ℕ
by_sign half n = cond (nat_lt n half) n (n + (W - 2 * half))

-- the low k bits of n, counted by their sign
abbrev pub sign_extend : ℕ → ℕ → ℕ
sign_extend k n = by_sign (2 ^ (k - 1)) (n % 2 ^ k)

-- the low 16 bits of n as a high half
abbrev pub high_half : ℕ → ℕ
high_half n = n % 2 ^ 16 * 2 ^ 16

-- addresses and PCs: a carry out of bit 23 is dropped
abbrev pub sum24 : ℕ → ℕ → ℕ
sum24 a b = (a + b) % 2 ^ 24
