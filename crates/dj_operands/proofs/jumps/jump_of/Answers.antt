use Rattle.std.proofs.Common.{rules}
use Rattle.std.specs.Int.{w32}
use Rattle.std.proofs.lemmas.Int.{to_z-of_z}
use mir.Val.{SFits}
use Rattle.dj_operands.proofs.jumps.jump_of.Goals as goal

pub returns-in-IfZero : goal.returns-in-IfZero
returns-in-IfZero c = record { leads = λ headers class. rw c.in-IfZero.is (c.on_int.ensures.leads headers class) }

pub returns-in-IfInts : goal.returns-in-IfInts
returns-in-IfInts c = record { leads = λ headers class. rw c.in-IfInts.is (c.on_ints.ensures.leads headers class) }

pub returns-in-TableSwitch : goal.returns-in-TableSwitch
returns-in-TableSwitch c =
    let low : SFits w32 c.in-TableSwitch.low = search rules in
    record { leads = λ headers class. rw (c.in-TableSwitch.is, ← c.as_slice.ensures) (simp to_z-of_z at (c.by_table.ensures.leads headers class)) }

pub returns-in-LookupSwitch : goal.returns-in-LookupSwitch
returns-in-LookupSwitch c = record { leads = λ headers class. rw (c.in-LookupSwitch.is, ← c.as_slice-in-LookupSwitch.ensures) (c.by_cases.ensures.leads headers class) }
