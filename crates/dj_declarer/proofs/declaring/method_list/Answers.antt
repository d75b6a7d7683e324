use Rattle.std.proofs.Common.{◌≡◌, IfOk, ap, sym, subst, ◌∙◌}
use Rattle.dj_syntax.specs.Trees.{Stms, stms_of, view_stm, view_stms}
use Rattle.dj_places.specs.Surroundings.{surroundings_of}
use Rattle.dj_declare.specs.Lawful.{all_lawful}
use Rattle.dj_declare.specs.Declared.{without_last}
use Rattle.dj_declarer.specs.Making.{ended_by}
use Rattle.dj_declarer.proofs.Making.{lawful_made}
use Rattle.dj_declarer.proofs.declaring.method_list.Goals as goal

pub returns-then-gives : goal.returns-then-gives
returns-then-gives c =
    let list : Stms = all_lawful (surroundings_of c.args.classes.now) (view_stms c.args.tree.now) in
    record {
      method = ap (λ one. stms_of one.list) c.in_ok-made.ensures.made ∙ lawful_made (surroundings_of c.args.classes.now) (view_stms c.args.tree.now) ∙ ap (λ gives. ended_by gives list) (sym c.if-gives.true);
    }

pub returns : goal.returns
returns c =
    let list : Stms = all_lawful (surroundings_of c.args.classes.now) (view_stms c.args.tree.now) in
    record {
      method = subst (λ (target : Stms). IfOk c.unreturned.result (λ made. view_stms made ≡ target))
          (ap without_last (ap (λ one. stms_of one.list) c.in_ok-made.ensures.made ∙ lawful_made (surroundings_of c.args.classes.now) (view_stms c.args.tree.now)) ∙ ap (λ gives. ended_by gives list) (sym c.if-gives.false))
          c.unreturned.ensures.unreturned;
    }
