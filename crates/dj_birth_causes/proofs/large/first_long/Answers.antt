use Rattle.std.proofs.Common.{arith}
use Rattle.dj_instructions.specs.Instructions.{view_instructions}
use Rattle.dj_birth_causes.proofs.Unbearing.{in_all}
use Rattle.dj_birth_causes.proofs.Lengthy.{first_long_at, none_long_in, short_more}
use Rattle.dj_birth_causes.proofs.large.first_long.Goals as goal
use Rattle.dj_birth_causes.proofs.large.first_long.Goals.{then-birth+in_default, else-birth}

pub returns-in-Some : goal.returns-in-Some
returns-in-Some c = record {
  first = λ typed is exact rising. first_long_at typed (view_instructions c.args.instructions.now) is c.args.births.now exact rising c.loop-birth.birth-index _ c.loop-birth-test.true c.loop-birth.invariant
      c.in-Some.size c.in-Some.ensures.long.1 c.if-birth.true c.in-Some.ensures.long.0;
}

pub loop-birth-preserved : goal.loop-birth-preserved
loop-birth-preserved c =
    short_more (view_instructions c.args.instructions.now) c.args.births.now c.loop-birth.birth-index _ c.loop-birth-test.true c.loop-birth.invariant (elim c.if-birth.branch [
      | then-birth+in_default w ↦ λ long. w.in_default.ensures.long long.long
      | else-birth w ↦ λ long. (let behind = long.behind in let past = w.if-birth.false in omega (arith, behind, past))
    ])

pub returns : goal.returns
returns c = record {
  first = λ typed is exact rising. none_long_in typed (view_instructions c.args.instructions.now) is c.args.births.now exact
      (λ birth has. c.loop-birth.invariant birth (in_all c.args.births.now c.loop-birth.birth-index birth c.loop-birth-test.false has));
}
