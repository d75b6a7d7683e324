use Rattle.dj_code.specs.MethodCode.{view_typed}
use Rattle.dj_birth_causes.proofs.Beginnings.{broken_parts}
use Rattle.dj_birth_causes.proofs.beginning.first_up_to.Goals as goal

pub returns : goal.returns
returns c = record {
  first =
      rw (c.lesser-4.ensures.lesser, c.lesser-3.ensures.lesser, c.lesser-2.ensures.lesser, c.lesser.ensures.lesser, c.before-inside.ensures.before, c.up_to-given.ensures.up_to, c.up_to-covered.ensures.up_to, c.up_to-deep.ensures.up_to)
      (broken_parts c.args.world.now (view_typed c.args.typed.now) c.args.call c.in_ok-first_misplaced.field-0 c.first_given.result c.first_covered.result c.in_ok-escaping.escaping c.first_deep.result
      c.in_ok-first_misplaced.ensures.first (rw c.as_slice.ensures at c.first_given.ensures.first) c.first_covered.ensures.first c.in_ok-escaping.ensures.first (rw c.as_slice-2.ensures at c.first_deep.ensures.first));
}
