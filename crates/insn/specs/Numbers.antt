-- Words of the order and of the manual, and what they decode to, worked out by hand.
use Rattle.std.specs.Prelude.{◌≡◌, refl, List, [], ◌∷◌, map, ℕ}
use Rattle.word.specs.Extend.{by_sign}
use Rattle.insn.specs.declared.RegOp.TheVariants.{Mov, Not, Xor}
use Rattle.insn.specs.declared.Imm5Op.TheVariants.{Mov5, Add5}
use Rattle.insn.specs.declared.Size.TheVariants.{Half, Word}
use Rattle.insn.specs.declared.Insn.TheVariants.{Reg, Jmp, Imm5, Sst, Bcond, Ld, Jarl, Ldsr, Stsr, Trap, Halt, Reti, Di, Ei}
use Rattle.insn.specs.declared.Decoded.{Decoded}
use Rattle.insn.specs.declared.Decoded.TheVariants.{Valid, Illegal, Undefined}
use Rattle.insn.specs.declared.Halfwords.{Halfwords}
use Rattle.insn.specs.declared.Halfwords.TheVariants.{One, Two}
use Rattle.insn.specs.Coding.{reg_op, imm5_op, decode_extended, decode_fields, decode}

abbrev pub words : List (Halfwords × Decoded)
words =
    -- the order's program: MOV 5, r10; ADD -1, r10; BNZ -2; HALT
    (One 0x5205, Valid (Imm5 Mov5 5 10))
    ∷ (One 0x525F, Valid (Imm5 Add5 0xFFFFFFFF 10))
    ∷ (One 0xFDFA, Valid (Bcond 10 0xFFFFFFFE))
    ∷ (Two 0x07E0 0x0120, Valid Halt)
    -- JMP [r31], and no JMP with a reg2 field
    ∷ (One 0x007F, Valid (Jmp 31))
    ∷ (One 0x0860, Undefined)
    -- NOP, which is MOV r0, r0; NOT r0, r0; XOR r5, r5
    ∷ (One 0x0000, Valid (Reg Mov 0 0))
    ∷ (One 0x0020, Valid (Reg Not 0 0))
    ∷ (One 0x2925, Valid (Reg Xor 5 5))
    -- SST.W r3, 252[ep]; LD.H 4[r1], r2; LD.W 4[r1], r2; JR -2, and its second halfword odd
    ∷ (One 0x1D7F, Valid (Sst Word 252 3))
    ∷ (Two 0x1721 0x0004, Valid (Ld Half 4 1 2))
    ∷ (Two 0x1721 0x0005, Valid (Ld Word 4 1 2))
    ∷ (Two 0x07BF 0xFFFE, Valid (Jarl 0xFFFFFFFE 0))
    ∷ (Two 0x07BF 0xFFFF, Undefined)
    -- LDSR r10, PSW; LDSR to ECR; STSR ECR, r10
    ∷ (Two 0x2FEA 0x0020, Valid (Ldsr 10 5))
    ∷ (Two 0x27EA 0x0020, Undefined)
    ∷ (Two 0x57E4 0x0040, Valid (Stsr 4 10))
    -- TRAP 10H; RETI; DI; EI, and one bit off; the least illegal code
    ∷ (Two 0x07F0 0x0100, Valid (Trap 0x10))
    ∷ (Two 0x07E0 0x0140, Valid Reti)
    ∷ (Two 0x07E0 0x0160, Valid Di)
    ∷ (Two 0x87E0 0x0160, Valid Ei)
    ∷ (Two 0x87E0 0x0161, Undefined)
    ∷ (Two 0x07E0 0x0180, Illegal)
    ∷ []

-- halfwords read, with v behind a single one
abbrev pub read : ℕ → Halfwords → Decoded
read v (One h) = decode h v
read v (Two h w) = decode h w

-- Each word of the table decodes to what stands beside it, whatever follows a single halfword
pub words-decode : (v : ℕ) → map (λ r. read v r.0) words ≡ map (λ r. r.1) words
unfolding decode decode_fields decode_extended reg_op imm5_op by_sign
words-decode v = refl
