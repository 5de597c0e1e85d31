-- The operands are in range as the instruction's are (`operands_of`), and at each instruction `exec` of it and `do_task` of its task compute to the same.
use native.Mathlib.Omega.{arith}
use Rattle.std.proofs.Common.{rules}
use Rattle.machine.specs.Step.{exec}
use Rattle.step.specs.Tasks.{do_task, do_system}
use Rattle.step.specs.TaskLaws.{operands_of}
use Rattle.step.proofs.tasks.task_of.Goals as goal

pub returns-in-Reg : goal.returns-in-Reg
unfolding exec do_task do_system
returns-in-Reg c = let o = operands_of c.requires c.in-Reg.is in (o.1, λ map o m. search rules)

pub returns-in-Jmp : goal.returns-in-Jmp
unfolding exec do_task do_system
returns-in-Jmp c = let o = operands_of c.requires c.in-Jmp.is in (o, λ map o m. search rules)

pub returns-in-Imm5 : goal.returns-in-Imm5
unfolding exec do_task do_system
returns-in-Imm5 c = let o = operands_of c.requires c.in-Imm5.is in (o, λ map o m. search rules)

pub returns-in-Sld : goal.returns-in-Sld
unfolding exec do_task do_system
returns-in-Sld c = let o = operands_of c.requires c.in-Sld.is in ((omega arith, o), λ map o m. search rules)

pub returns-in-Sst : goal.returns-in-Sst
unfolding exec do_task do_system
returns-in-Sst c = let o = operands_of c.requires c.in-Sst.is in ((omega arith, o), λ map o m. search rules)

pub returns-in-Imm16 : goal.returns-in-Imm16
unfolding exec do_task do_system
returns-in-Imm16 c = let o = operands_of c.requires c.in-Imm16.is in (o.1, λ map o m. search rules)

pub returns-in-Ld : goal.returns-in-Ld
unfolding exec do_task do_system
returns-in-Ld c = let o = operands_of c.requires c.in-Ld.is in (o, λ map o m. search rules)

pub returns-in-St : goal.returns-in-St
unfolding exec do_task do_system
returns-in-St c = let o = operands_of c.requires c.in-St.is in (o, λ map o m. search rules)

pub returns-in-Jarl : goal.returns-in-Jarl
unfolding exec do_task do_system
returns-in-Jarl c = let o = operands_of c.requires c.in-Jarl.is in (o, λ map o m. search rules)

pub returns-in-Bit : goal.returns-in-Bit
unfolding exec do_task do_system
returns-in-Bit c = let o = operands_of c.requires c.in-Bit.is in (o, λ map o m. search rules)

pub returns-in-Setf : goal.returns-in-Setf
unfolding exec do_task do_system
returns-in-Setf c = let o = operands_of c.requires c.in-Setf.is in (o, λ map o m. search rules)

pub returns-in-Ldsr : goal.returns-in-Ldsr
unfolding exec do_task do_system
returns-in-Ldsr c = let o = operands_of c.requires c.in-Ldsr.is in (o, λ map o m. search rules)

pub returns-in-Stsr : goal.returns-in-Stsr
unfolding exec do_task do_system
returns-in-Stsr c = let o = operands_of c.requires c.in-Stsr.is in (o, λ map o m. search rules)

pub returns-in-Shift : goal.returns-in-Shift
unfolding exec do_task do_system
returns-in-Shift c = let o = operands_of c.requires c.in-Shift.is in (o.1, λ map o m. search rules)

pub returns-in-Trap : goal.returns-in-Trap
unfolding exec do_task do_system
returns-in-Trap c = let o = operands_of c.requires c.in-Trap.is in (o, λ map o m. search rules)
