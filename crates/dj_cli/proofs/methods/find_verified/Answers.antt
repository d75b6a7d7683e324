use Rattle.std.proofs.Common.{◌≡◌, [], None, Some, sym, subst, inr}
use Rattle.std.specs.Prelude.{slice_get}
use Rattle.std.proofs.lemmas.Result.{IfOk-weaker}
use Rattle.dj_class.specs.Views.{view_class, view_method}
use Rattle.dj_instructions.proofs.ListingReading.{listing_rises}
use Rattle.dj_code.specs.MethodCode.{view_code, view_typed}
use Rattle.dj_method_causes.specs.Telling.{IsToldCause}
use Rattle.dj_cli.proofs.FindingLemmas.{code_here}
use Rattle.dj_cli.proofs.methods.find_verified.Goals as goal

pub told_cause-requires : goal.told_cause-requires
told_cause-requires c =
    let class = view_class c.args.class.now in
    let code = view_code c.args.typed.now.code in
    let spelled = c.requires.spelled in
    record {
      made = c.requires.made;
      place = code_here c.args.basis.now.world.now class [] (view_method c.args.method.now) c.args.at code c.requires.here spelled;
      within = c.requires.within;
      rising = listing_rises class.pool spelled.content.code code.instructions spelled.listed;
      typed = record { headers = c.args.basis.now.world.now.headers; table = c.requires.table };
    }

pub returns-in_ok-admit-in-Some-clause-found : goal.returns-in_ok-admit-in-Some-clause-found
returns-in_ok-admit-in-Some-clause-found c =
    let first = rw c.in-Some.is at c.in_ok-cause.ensures.told in
    λ before here holds. inr (record {
      typed = view_typed c.args.typed.now;
      spelled = c.requires.spelled;
      table = c.requires.table;
      first = subst (λ at. IsToldCause c.args.basis.now.world.now (view_class c.args.class.now) at (view_typed c.args.typed.now) (Some c.in-Some.cause)) (sym here) first;
    })

pub returns-in-None-clause-found : goal.returns-in-None-clause-found
returns-in-None-clause-found c =
    let world = c.args.basis.now.world.now in
    let untold = rw c.in-None.is at c.in_ok-cause.ensures.told in
    IfOk-weaker c.find_untold.result _ _
    (λ found all before here holds. all before (subst (λ at. slice_get (view_class c.args.class.now).methods at ≡ Some (view_method c.args.method.now)) (sym here) c.requires.here) c.requires.table (subst (λ at. IsToldCause world (view_class c.args.class.now) at (view_typed c.args.typed.now) None) (sym here) untold) holds) c.find_untold.ensures.found
