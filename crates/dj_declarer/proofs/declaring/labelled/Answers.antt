use Rattle.std.proofs.Common.{◌≡◌, IfOk, ap, sym, subst, ◌∙◌}
use Rattle.dj_syntax.specs.Trees.{Stms, stms_of, view_stm, view_stms}
use Rattle.dj_places.specs.Surroundings.{surroundings_of}
use Rattle.dj_declare.specs.Lawful.{all_lawful}
use Rattle.dj_declaring.specs.Passes.{blocked, under}
use Rattle.dj_lawful.specs.PassViews.{view_made}
use Rattle.dj_declarer.specs.Making.{wrapped_by}
use Rattle.dj_declarer.proofs.Making.{labelled_made}
use Rattle.dj_declarer.proofs.declaring.labelled.Goals as goal

pub returns : goal.returns
returns c = record {
  labelled = subst (λ (target : Stms). IfOk c.wrapped.result (λ made. view_stms made ≡ target))
      (ap (wrapped_by c.in_ok-made.made.falls) c.in_ok-only.ensures.single
      ∙ labelled_made (surroundings_of c.args.classes.now) c.args.own (view_stms c.args.list.now) (view_made c.in_ok-made.made)
      (c.in_ok-made.ensures.made ∙ ap (under c.args.own) (c.blocked.ensures.made ∙ ap blocked c.in_ok-inner.ensures.made)))
      c.wrapped.ensures.wrapped;
}
