-- Decoding and encoding are each other's inverse: each halfword has one meaning, and each instruction one spelling.
use Rattle.std.specs.Prelude.{◌≡◌, refl, Bool, true, false, cond, [], ◌⊎◌, ◌≢◌, ◌↔◌, ℕ, ◌<◌, ◌^◌, Result, Ok, Err}
use Rattle.std.proofs.Common.{sym, ◌∙◌, subst, ap, true≢false, inl, inr, le-leb}
use Rattle.insn.specs.declared.Insn.{Insn}
use Rattle.insn.specs.declared.Decoded.{Decoded}
use Rattle.insn.specs.declared.Decoded.TheVariants.{Valid, Illegal, Undefined}
use Rattle.insn.specs.declared.Halfwords.{Halfwords}
use Rattle.insn.specs.declared.Halfwords.TheVariants.{One, Two}
use Rattle.insn.specs.declared.EncodeError.{EncodeError}
use Rattle.insn.specs.declared.EncodeError.TheVariants.{Field}
use Rattle.insn.specs.Coding.{opcode_of, long, decode_fields, decode, in_range, halfwords, encode, DONE, FIELD, number, listed}
use Rattle.insn.specs.FieldLaws.{facts}
use Rattle.insn.specs.SpellingLaws.{Spells, encode-spells}
use Rattle.insn.specs.DecodingLaws.{Encodes, EncodesTo, decode_encodes}

spelled : (i : Insn) {r : Result Halfwords EncodeError} → encode i ≡ r → Spells r i
spelled i e = subst (λ r. Spells r i) e (encode-spells i)

encoded : {h w : ℕ} → h < 2 ^ 16 → w < 2 ^ 16 → {i : Insn} → decode h w ≡ Valid i → EncodesTo (cond (long h) (Two h w) (One h)) i
encoded {h} {w} a b e = subst (λ d. Encodes (cond (long h) (Two h w) (One h)) d) e (decode_encodes h w a b)

same_spelled : (i j : Insn) (r : Result Halfwords EncodeError) → r ≢ Err Field → Spells r i → Spells r j → i ≡ j
same_spelled i j (Ok (One h)) n s t = let p = s.2 0 in let q = t.2 0 in cc
same_spelled i j (Ok (Two h w)) n s t = cc
same_spelled i j (Err Field) n s t = absurd (n refl)

one_of : (d : Decoded) → ((i : Insn) × (d ≡ Valid i)) ⊎ ((d ≡ Illegal) ⊎ (d ≡ Undefined))
one_of (Valid i) = inl (i, refl)
one_of Illegal = inr (inl refl)
one_of Undefined = inr (inr refl)

-- Each pair of halfwords is an instruction, the illegal code or undefined
pub decode_one : (h w : ℕ) → ((i : Insn) × (decode h w ≡ Valid i)) ⊎ ((decode h w ≡ Illegal) ⊎ (decode h w ≡ Undefined))
decode_one h w = one_of (decode h w)

-- It is never two of these, nor two instructions
pub decode-only : (h w : ℕ) (i j : Insn)
    → (decode h w ≡ Valid i → decode h w ≡ Valid j → i ≡ j) × (decode h w ≡ Valid i → decode h w ≢ Illegal)
    × (decode h w ≡ Valid i → decode h w ≢ Undefined) × (decode h w ≡ Illegal → decode h w ≢ Undefined)
decode-only h w i j = (λ p q. cc, λ p q. true≢false (cc), λ p q. true≢false (cc), λ p q. true≢false (cc))

-- A short form does not look at the second halfword
pub decode-short : (h w v : ℕ) → long h ≡ false → decode h w ≡ decode h v
unfolding decode decode_fields
decode-short h w v e = rw (le-leb (opcode_of h) 0b101111 (omega facts))

-- What decodes is encoded to the same halfwords, to the first alone if that is short
pub decode-encode : (h w : ℕ) → h < 2 ^ 16 → w < 2 ^ 16 → (i : Insn) → decode h w ≡ Valid i → encode i ≡ Ok (cond (long h) (Two h w) (One h))
unfolding encode
decode-encode h w a b i e = let c = encoded a b e in rw c.valid (ap (λ h. Ok h) c.words)

-- What decodes has its operands in range
pub decode_in_range : (h w : ℕ) → h < 2 ^ 16 → w < 2 ^ 16 → (i : Insn) → decode h w ≡ Valid i → in_range i ≡ true
decode_in_range h w a b i e = (encoded a b e).valid

-- What is encoded to one halfword is short and decodes back, whatever follows
pub encode-decode_one : (i : Insn) (h w : ℕ) → encode i ≡ Ok (One h) → (long h ≡ false) × (decode h w ≡ Valid i)
encode-decode_one i h w e = let s = spelled i e in (s.1, s.2 w)

-- What is encoded to two halfwords is long and decodes back
pub encode-decode-two : (i : Insn) (h w : ℕ) → encode i ≡ Ok (Two h w) → (long h ≡ true) × (decode h w ≡ Valid i)
encode-decode-two i h w e = let s = spelled i e in (s.2, s.3)

-- A single halfword is one of 16 bits
pub encode-half : (i : Insn) (h : ℕ) → encode i ≡ Ok (One h) → h < 2 ^ 16
encode-half i h e = (spelled i e).0

-- and so are two
pub encode_halves : (i : Insn) (h w : ℕ) → encode i ≡ Ok (Two h w) → (h < 2 ^ 16) × (w < 2 ^ 16)
encode_halves i h w e = let s = spelled i e in (s.0, s.1)

-- An instruction is refused exactly if an operand is out of range
pub encode_refuses : (i : Insn) → (encode i ≡ Err Field) ↔ (in_range i ≡ false)
unfolding encode
encode_refuses i = (λ e. spelled i e, λ n. rw n)

-- The order's numbers: DONE with the halfwords if every operand is in its range, and else FIELD with none
pub encode-numbers : (i : Insn)
    → (number (encode i) ≡ cond (in_range i) DONE FIELD) × (listed (encode i) ≡ cond (in_range i) (listed (Ok (halfwords i))) [])
unfolding encode
encode-numbers i = go (in_range i) refl
  where
    done : (r : Result Halfwords EncodeError) → encode i ≡ r → in_range i ≡ true → number r ≡ DONE
    done (Ok h) q t = refl
    done (Err Field) q t = absurd (true≢false (sym t ∙ (encode_refuses i).0 q))

    go : (t : Bool) → in_range i ≡ t → (number (encode i) ≡ cond t DONE FIELD) × (listed (encode i) ≡ cond t (listed (Ok (halfwords i))) [])
    go true q = (done (encode i) refl q, rw q)
    go false q = (rw q, rw q)

-- Two instructions that are not refused and have the same halfwords are one
pub encode_injective : (i j : Insn) → encode i ≢ Err Field → encode i ≡ encode j → i ≡ j
encode_injective i j n e = same_spelled i j (encode i) n (encode-spells i) (spelled j (sym e))

-- Two outcomes that a contract allows are equal: of `decode`, `is_long` and `encode`
pub decoded_one : (h w : ℕ) (x y : Decoded) → x ≡ decode h w → y ≡ decode h w → x ≡ y
decoded_one h w x y p q = p ∙ sym q

pub long_one : (h : ℕ) (x y : Bool) → x ≡ long h → y ≡ long h → x ≡ y
long_one h x y p q = p ∙ sym q

pub encoded_one : (i : Insn) (x y : Result Halfwords EncodeError) → x ≡ encode i → y ≡ encode i → x ≡ y
encoded_one i x y p q = p ∙ sym q
