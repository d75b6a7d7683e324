use Rattle.std.proofs.Common.{◌≡◌, ℕ, ◌+◌, ◌-◌, ◌<◌, length, get_or, subst, arith}
use Rattle.dj_code.proofs.TargetLists.{item_at}
use Rattle.dj_instructions.specs.Instructions.{view_instruction, view_instructions}
use Rattle.dj_machine.specs.Runs.{AreStartsFrom}
use Rattle.dj_machine.proofs.StartLemmas.{one_more, place_is}
use Rattle.dj_machine.proofs.starts.Starts.new.Goals as goal

pub loop-from-preserved : goal.loop-from-preserved
loop-from-preserved c =
    let instructions = c.args.instructions.now in
    let from : ℕ = c.loop-from.from - 1 in
    let above : c.loop-from.from ≡ from + 1 = omega arith in
    let within : from < length instructions = let low = c.loop-from.invariant.1 in omega arith in
    let item = get_or instructions from c.index-instructions-from.result in
    let before : AreStartsFrom (from + 1) (view_instructions instructions) c.loop-from.places = subst (λ n. AreStartsFrom n (view_instructions instructions) c.loop-from.places) above c.loop-from.invariant.0 in
    (one_more (view_instructions instructions) from item.0 (view_instruction item.1) c.loop-from.places c.insert.new.self (place_is instructions from item within (item_at instructions from within item c.index-instructions-from.result)) before c.in_ok-insert.ensures.updates, omega arith)
