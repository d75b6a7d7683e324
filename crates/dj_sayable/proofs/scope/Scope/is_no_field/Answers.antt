use Rattle.std.proofs.Common.{ap, ◌∙◌}
use Rattle.dj_sayable.specs.Saying.{first_segment}
use Rattle.dj_sayable.proofs.SayingLemmas.{no_field_by}
use Rattle.dj_sayable.proofs.scope.Scope.is_no_field.Goals as goal

pub returns : goal.returns
returns c = record {
  free = λ headers members class is_scope.
      no_field_by headers members class c.args.name.now c.args.self.now is_scope c.is_among.result c.in_ok-first.first
      (c.in_ok-first.ensures.units ∙ c.first_segment.ensures.first ∙ ap first_segment c.as_slice.ensures.units) c.is_among.ensures.among;
}
