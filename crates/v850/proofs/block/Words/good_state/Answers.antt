-- The tests of the definition, in its order.
use Rattle.std.specs.Prelude.{◌≡◌, Bool, ◌&&◌, ◌%◌, ◌^◌, eqb, ltb, leb, get_or}
use Rattle.std.proofs.Math.Bool.{and_assoc}
use Rattle.machine.specs.WellFormed.{good_code}
use Rattle.v850.specs.Block.{byte, at_pc, at_psw, at_eipc, at_eipsw, at_fepc, at_fepsw, at_code, at_waits, at_reg_marks, at_sys_marks, good_state}
use Rattle.v850.specs.PartLaws.{byte_0}
use Rattle.v850.proofs.block.Words.good_state.Goals as goal

regroup : (a b d e f g h i j k l m n o p q : Bool)
    → (a && b && d && e && f && g && h && i && j && k && l && m && n && o && p && q)
    ≡ (a && (b && (d && (e && (f && (g && (h && (i && (j && (k && (l && (m && (n && (o && (p && q)))))))))))))))
regroup a b d e f g h i j k l m n o p q = simp and_assoc

pub returns : goal.returns
unfolding good_state
returns c =
    let ws = c.args.self.now.0 in
    let waits = get_or ws at_waits 0 in
    let marks = get_or ws at_sys_marks 0 in
    rw (c.to_le_bytes.ensures, c.to_le_bytes-2.ensures, ← byte_0 waits, ← byte_0 marks)
    (regroup (eqb (get_or ws 0 0) 0) (eqb (get_or ws at_reg_marks 0 % 2) 0) (eqb (get_or ws at_pc 0 % 2) 0) (leb (get_or ws at_pc 0) 0xFFFFFE)
    (leb (get_or ws at_psw 0) 0xFF) (leb (get_or ws at_eipsw 0) 0xFF) (leb (get_or ws at_fepsw 0) 0xFF)
    (leb (get_or ws at_eipc 0) 0xFFFFFF) (leb (get_or ws at_fepc 0) 0xFFFFFF) (good_code (get_or ws at_code 0))
    (leb (byte 0 waits) 1) (leb (byte 1 waits) 1) (eqb (byte 2 waits) 0) (eqb (byte 3 waits) 0) (ltb (byte 0 marks) (2 ^ 5)) (leb (byte 3 marks) 3))
