use Rattle.std.proofs.Common.{arith}
use Rattle.std.proofs.lemmas.List.{length-map, length_push}
use Rattle.dj_class.specs.Views.{view_class, view_field}
use Rattle.dj_causes.specs.FieldCauses.{IsFieldCause}
use Rattle.dj_causes.proofs.ToldLemmas.{each_more}
use Rattle.dj_causes.proofs.causes.field_causes.Goals as goal

pub loop-at-preserved : goal.loop-at-preserved
loop-at-preserved c =
    let found = c.loop-at.causes in
    record {
      size = rw c.in_ok-push.ensures.ok (omega (arith, length_push found c.in_ok-cause.cause));
      each = each_more (IsFieldCause c.args.world.now (view_class c.args.class.now)) found c.push.new.self c.in_ok-cause.cause c.loop-at.at c.in_ok-push.ensures.ok c.loop-at.invariant.size (rw c.in_ok-cause.ensures.equal c.in_ok-found.ensures.first) c.loop-at.invariant.each;
    }

pub returns : goal.returns
returns c = record {
  told = record { size = omega (arith, length-map c.args.class.now.fields view_field); each = c.loop-at.invariant.each };
}
