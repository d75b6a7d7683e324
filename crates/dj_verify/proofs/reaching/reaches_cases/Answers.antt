use Rattle.std.proofs.Common.{arith, refl}
use Rattle.std.proofs.lemmas.Bool.{false≢true}
use Rattle.dj_code.specs.MethodCode.{view_code}
use Rattle.dj_code.proofs.TargetLists.{cases_right, cases_wrong}
use Rattle.dj_verify.specs.Rules.{Reaches}
use Rattle.dj_verify.specs.Frames.{working_of}
use Rattle.dj_verify.proofs.reaching.reaches_cases.Goals as goal

pub returns-then-not-reaches : goal.returns-then-not-reaches
returns-then-not-reaches g c =
    let P = Reaches (g.G.Goes.relation c.args.goes.now) (view_code c.args.subject.now.code.now) (working_of c.args.frame.now) in
    record {
      reaches = (
        λ e. absurd (false≢true e),
        λ all. absurd (cases_wrong P c.args.cases.now c.loop-case.case-index _ c.loop-case-test.true (λ right. false≢true (c.if-not-reaches.ensures.reaches.1 right)) all),
      );
    }

pub returns : goal.returns
returns g c =
    let P = Reaches (g.G.Goes.relation c.args.goes.now) (view_code c.args.subject.now.code.now) (working_of c.args.frame.now) in
    record { reaches = (λ _. cases_right P c.args.cases.now (λ k d lt. c.loop-case.invariant k d (omega arith)), λ _. refl) }
