use Rattle.std.proofs.Common.{map, refl}
use Rattle.dj_instructions.specs.Instructions.{view_instructions}
use Rattle.dj_code.specs.Targets.{IsStart}
use Rattle.dj_code.proofs.TargetLists.{all_behind, target}
use Rattle.dj_code.proofs.targets.jumps_right.Goals as goal

pub returns-then-is_start : goal.returns-then-is_start
returns-then-is_start c =
    let P = IsStart (view_instructions c.args.instructions.now) in
    record { exact = rw c.in-TableSwitch.is (all_behind P c.in-TableSwitch.other c.in-TableSwitch.targets c.are_starts.result (c.if-is_start.ensures.start.0 refl) (rw c.as_slice.ensures at c.are_starts.ensures.exact)) }

pub returns-then-is_start-2 : goal.returns-then-is_start-2
returns-then-is_start-2 c =
    let P = IsStart (view_instructions c.args.instructions.now) in
    record { exact = rw c.in-LookupSwitch.is (all_behind P c.in-LookupSwitch.other (map target c.in-LookupSwitch.cases) c.are_cases_right.result (c.if-is_start-2.ensures.start.0 refl) (rw c.as_slice-then-is_start-2.ensures at c.are_cases_right.ensures.exact)) }
