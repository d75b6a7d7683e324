use Rattle.std.proofs.Common.{arith, refl}
use Rattle.std.proofs.lemmas.Bool.{false≢true}
use Rattle.dj_instructions.specs.Instructions.{view_instructions}
use Rattle.dj_code.specs.Targets.{IsStart}
use Rattle.dj_code.proofs.TargetLists.{cases_right, cases_wrong}
use Rattle.dj_code.proofs.targets.are_cases_right.Goals as goal

pub returns : goal.returns
returns c =
    record { exact = (λ _. cases_right (IsStart (view_instructions c.args.instructions.now)) c.args.cases.now (λ k d lt. c.loop-case.invariant k d (omega arith)), λ _. refl) }

pub returns-then-not-is_start : goal.returns-then-not-is_start
returns-then-not-is_start c =
    record {
      exact = (
        λ e. absurd (false≢true e),
        λ all. absurd (cases_wrong (IsStart (view_instructions c.args.instructions.now)) c.args.cases.now c.loop-case.case-index _ c.loop-case-test.true (λ right. false≢true (c.if-not-is_start.ensures.start.1 right)) all),
      );
    }
