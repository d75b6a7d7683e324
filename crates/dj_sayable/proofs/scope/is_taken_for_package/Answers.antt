use Rattle.std.proofs.Common.{◌≡◌, ap, ◌∙◌}
use Rattle.dj_kinds.specs.Access.{package_of}
use Rattle.dj_sayable.specs.Saying.{first_segment}
use Rattle.dj_sayable.proofs.SayingLemmas.{taken_by}
use Rattle.dj_sayable.proofs.scope.is_taken_for_package.Goals as goal

pub returns : goal.returns
returns c =
    let first : c.first_segment-first.result.now ≡ first_segment c.args.name.now = c.first_segment-first.ensures.first ∙ ap first_segment c.as_slice.ensures.units in
    let front : c.package_of.result.now ≡ package_of c.args.class.now = c.package_of.ensures.package ∙ ap package_of c.as_slice-2.ensures.units in
    record {
      taken = taken_by c.args.headers.now c.args.class.now c.args.name.now c.in_ok-beside.beside c.in_ok-core.core c.are_unknown.result
          (rw (← first, ← front) c.in_ok-beside.ensures.joined) (rw (← first) c.in_ok-core.ensures.joined) c.are_unknown.ensures.unknown;
    }
