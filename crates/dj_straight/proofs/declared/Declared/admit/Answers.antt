use Rattle.std.proofs.Common.{refl, sym, ◌∙◌, subst}
use Rattle.dj_class.specs.Views.{view_method}
use Rattle.dj_straight.specs.StraightMethod.{IsDeclared}
use Rattle.dj_straight.proofs.declared.Declared.admit.Goals as goal

pub returns-then-branch-clause-admitted : goal.returns-then-branch-clause-admitted
returns-then-branch-clause-admitted c = λ before holds.
    rw c.if-branch.true at (c.in_ok-add.ensures.first before holds)

pub returns-then-branch-clause-added : goal.returns-then-branch-clause-added
returns-then-branch-clause-added c = λ before holds.
    c.in_ok-add.ensures.added before (view_method c.args.method.now) holds (record { same_name = refl; same_parameters = c.in-Some.ensures.some })

pub returns-else-branch-clause-admitted : goal.returns-else-branch-clause-admitted
returns-else-branch-clause-admitted c = λ before holds ints same.
    let there = rw c.if-branch.false at (c.in_ok-add.ensures.first before holds) in
    subst (IsDeclared before c.args.method.now.name) (sym c.in-Some.ensures.some ∙ same) there

pub returns-else-branch-clause-added : goal.returns-else-branch-clause-added
returns-else-branch-clause-added c = λ before holds.
    c.in_ok-add.ensures.added before (view_method c.args.method.now) holds (record { same_name = refl; same_parameters = c.in-Some.ensures.some })
