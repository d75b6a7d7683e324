use Rattle.std.proofs.lemmas.Bool.{both_ways}
use Rattle.dj_sayable.proofs.SayingLemmas.{unobscured_by}
use Rattle.dj_sayable.proofs.scope.Scope.is_unobscured.Goals as goal

pub returns-then-not-branch : goal.returns-then-not-branch
returns-then-not-branch c = record {
  unobscured = λ members class is_scope. (
    λ yes. absurd cc,
    λ all. absurd (both_ways c.in_ok-is_no_field.field-0 c.if-not-branch.true ((c.in_ok-is_no_field.ensures.free c.args.headers.now members class is_scope).1 all.no_field)),
  );
}

pub returns : goal.returns
returns c = record {
  unobscured = λ members class is_scope.
      unobscured_by c.args.headers.now members class c.args.name.now c.args.self.now is_scope c.in_ok-hidden.hidden
      (rw c.as_slice.ensures.units at (c.is_sayable.ensures.sayable.0 c.if-not-is_sayable.false))
      ((c.in_ok-is_no_field.ensures.free c.args.headers.now members class is_scope).0 c.if-not-branch.false) (rw c.as_slice-2.ensures.units at c.in_ok-hidden.ensures.front);
}
