use Rattle.std.proofs.Common.{ap, ◌∙◌}
use Rattle.dj_names.specs.Types.{Class, view_type}
use Rattle.dj_headers.proofs.TypeViews.{view-class}
use Rattle.dj_instructions.specs.Instructions.{view_method_ref}
use Rattle.dj_member_cause.proofs.AboveLemmas.{start_nowhere, start_above, start_here}
use Rattle.dj_member_cause.proofs.above.special_owner.Goals as goal

pub returns-in_ok-owner-in-Some : goal.returns-in_ok-owner-in-Some
returns-in_ok-owner-in-Some c = record {
  owner =
      view-class c.in_ok-owner-in-Some.owner ∙ ap Class c.in_ok-owner-in-Some.ensures.equal
      ∙ start_above c.args.classes.now.headers.now c.args.classes.now.from.now (view_method_ref c.args.method.now) c.in-Some.superclass.now c.in-Some.ensures.superclass c.if-starts_above.ensures.starts;
}

pub returns-in_ok-owner-in-Some-2 : goal.returns-in_ok-owner-in-Some-2
returns-in_ok-owner-in-Some-2 c = record {
  owner =
      ap view_type c.in_ok-owner-in-Some-2.ensures.equal
      ∙ start_here c.args.classes.now.headers.now c.args.classes.now.from.now (view_method_ref c.args.method.now) c.in-Some.superclass.now c.in-Some.ensures.superclass c.if-starts_above.ensures.starts;
}

pub returns-in_ok-owner-in-None : goal.returns-in_ok-owner-in-None
returns-in_ok-owner-in-None c = record {
  owner = ap view_type c.in_ok-owner-in-None.ensures.equal ∙ start_nowhere c.args.classes.now.headers.now c.args.classes.now.from.now (view_method_ref c.args.method.now) c.in-None.ensures.superclass;
}
