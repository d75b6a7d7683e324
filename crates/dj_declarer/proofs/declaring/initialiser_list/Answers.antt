use Rattle.std.proofs.Common.{◌≡◌, IfOk, ap, sym, subst, ◌∙◌}
use Rattle.dj_syntax.specs.Trees.{Stms, stms_of, view_stm, view_stms}
use Rattle.dj_places.specs.Surroundings.{surroundings_of}
use Rattle.dj_declare.specs.Lawful.{all_lawful}
use Rattle.dj_declare.specs.Initialisers.{wrapped}
use Rattle.dj_declarer.proofs.Making.{returning_made}
use Rattle.dj_declarer.proofs.declaring.initialiser_list.Goals as goal

pub returns-then-list_has_return : goal.returns-then-list_has_return
returns-then-list_has_return c = record {
  initialiser = subst (λ (target : Stms). IfOk c.labelled.result (λ made. view_stms made ≡ wrapped (surroundings_of c.args.classes.now) (all_lawful (surroundings_of c.args.classes.now) target)))
      (returning_made c.args.own (view_stms c.args.tree.now) (view_stms c.without_last-list.result.now) c.without_last-list.ensures.without (sym c.list_has_return.ensures.returns ∙ c.if-list_has_return.true))
      c.labelled.ensures.labelled;
}
