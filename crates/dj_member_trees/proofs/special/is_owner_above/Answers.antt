use Rattle.std.proofs.Common.{Option, ap, ◌∙◌}
use Rattle.std.proofs.lemmas.Bool.Decides.{same_from_decides}
use Rattle.dj_names.specs.Headers.{Name}
use Rattle.dj_values.specs.Deciding.{is_some_and, is_subclass}
use Rattle.dj_values.proofs.Deciding.{Decides-subclass}
use Rattle.dj_member_trees.proofs.special.is_owner_above.Goals as goal

pub returns-in-Some : goal.returns-in-Some
returns-in-Some c = record {
  above = same_from_decides _ _ c.is_subclass.ensures.subclass (Decides-subclass c.args.classes.now.headers.now c.args.superclass.now c.in-Some.upper.now)
      ∙ ap (λ (found : Option Name). is_some_and found (λ upper. is_subclass c.args.classes.now.headers.now c.args.superclass.now upper)) c.in-Some.ensures.class;
}
