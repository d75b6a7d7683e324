use Rattle.std.proofs.Common.{◌↔◌, Any, IsTrue, inl, inr}
use Rattle.std.proofs.lemmas.Bool.{both_ways}
use Rattle.dj_names.specs.Headers.{Implements}
use Rattle.dj_world.proofs.ClashLemmas.{circle_closed, circle_found, above_superclass, above_interface, above_cases}
use Rattle.dj_world.proofs.clash.closes_circle.Goals as goal

pub returns-then-reaches_from_superclass : goal.returns-then-reaches_from_superclass
returns-then-reaches_from_superclass c =
    let headers = c.args.headers.now in
    let header = c.args.header.now in
    record {
      exact = (
        λ yes. circle_closed headers header (above_superclass headers header.interfaces header.name header.superclass (c.reaches_from_superclass.ensures.exact.0 yes)),
        λ circle. c.if-reaches_from_superclass.true,
      );
    }

pub returns-else-reaches_from_superclass : goal.returns-else-reaches_from_superclass
returns-else-reaches_from_superclass c =
    let headers = c.args.headers.now in
    let header = c.args.header.now in
    let listed : IsTrue c.reaches_from_any.result ↔ Any (λ upper. Implements headers upper header.name) header.interfaces = rw c.as_slice.ensures at c.reaches_from_any.ensures.exact in
    record {
      exact = (
        λ yes. circle_closed headers header (above_interface headers header.interfaces header.name header.superclass (listed.0 yes)),
        λ circle. elim (above_cases headers header.interfaces header.name header.superclass (circle_found headers header c.requires.lawful.no_circle circle)) [
          | inl above ↦ absurd (both_ways c.reaches_from_superclass.result c.if-reaches_from_superclass.false (c.reaches_from_superclass.ensures.exact.1 above))
          | inr above ↦ listed.1 above
        ],
      );
    }
