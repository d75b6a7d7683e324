use Rattle.std.proofs.Common.{inl, inr, refl}
use Rattle.std.proofs.lemmas.Bool.{false≢true}
use Rattle.dj_straight.specs.Straight.{HasStraightOpcode, ends}
use Rattle.dj_straight.specs.Rebuilding.{viewed}
use Rattle.dj_straight.proofs.StraightLaws.{last_breaks, close_rebuilt, begun_of, builds_more, went_on, went_nowhere}
use Rattle.dj_straight.proofs.straight.finish.Goals as goal

pub returns-then-not-has_straight_opcode-clause-ok : goal.returns-then-not-has_straight_opcode-clause-ok
returns-then-not-has_straight_opcode-clause-ok c = λ before formulas builds are.
    let no : HasStraightOpcode c.args.code.now c.args.last.now.0 → ⊥ = λ straight. false≢true (c.if-not-has_straight_opcode.ensures.exact.1 straight) in
    last_breaks c.args.parameters c.args.max_stack c.args.code.now before (viewed c.args.last.now) formulas builds (inl no) (λ straight is. no straight)

pub returns-then-is_return-clause-ok : goal.returns-then-is_return-clause-ok
returns-then-is_return-clause-ok c = λ before formulas builds are.
    close_rebuilt c.args.parameters c.args.max_stack c.args.code.now before (viewed c.args.last.now) formulas c.close.result builds (c.if-not-has_straight_opcode.ensures.exact.0 refl) (c.if-is_return.ensures.exact.0 refl) (c.close.ensures.closed formulas are)

pub returns-then-branch-clause-ok : goal.returns-then-branch-clause-ok
returns-then-branch-clause-ok c = λ before formulas builds are.
    let went = rw c.if-branch.true at c.in_ok-advance.ensures.stack formulas are in
    let step = went_on _ _ went in
    ends (begun_of c.args.parameters c.args.max_stack c.args.code.now _ step.0 (builds_more c.args.parameters c.args.max_stack c.args.code.now before (viewed c.args.last.now) formulas step.0 builds (c.if-not-has_straight_opcode.ensures.exact.0 refl) step.1))

pub returns-clause-ok : goal.returns-clause-ok
returns-clause-ok c = λ before formulas builds are.
    let went = rw c.if-branch.false at c.in_ok-advance.ensures.stack formulas are in
    last_breaks c.args.parameters c.args.max_stack c.args.code.now before (viewed c.args.last.now) formulas builds (inr (went_nowhere _ _ went)) (λ straight is. false≢true (c.if-is_return.ensures.exact.1 is))
