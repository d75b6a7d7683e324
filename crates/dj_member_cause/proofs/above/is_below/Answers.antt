use Rattle.std.proofs.lemmas.Bool.Decides.{same_from_decides}
use Rattle.dj_headers.proofs.TypeViews.{view-class}
use Rattle.dj_values.specs.Deciding.{is_subclass}
use Rattle.dj_values.proofs.Deciding.{Decides-subclass}
use Rattle.dj_member_cause.proofs.above.is_below.Goals as goal

pub returns-in-Class : goal.returns-in-Class
returns-in-Class c = record {
  below =
      rw c.in-Class.is
      (rw (view-class c.in-Class.upper)
      (same_from_decides c.is_subclass.result (is_subclass c.args.classes.now.headers.now c.args.class.now c.in-Class.upper) c.is_subclass.ensures.subclass (Decides-subclass c.args.classes.now.headers.now c.args.class.now c.in-Class.upper)));
}
