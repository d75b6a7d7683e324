use Rattle.std.proofs.lemmas.Bool.{both_ways}
use Rattle.dj_tags.proofs.Assignable.{array_class, array_of_references, array_of_primitives}
use Rattle.dj_tags.proofs.relations.+java_assignable.Goals as goal

pub returns-in-Class-to-2 : goal.returns-in-Class-to-2
returns-in-Class-to-2 t c =
    let e = array_class c.args.headers.now c.args.from.now c.args.to.now c.in-Array.from c.in-Class-to-2.to c.in-Array.is c.in-Class-to-2.is in
    record { goes = (λ yes. e.0 (c.is_above_arrays.ensures.above.0 yes), λ goes. c.is_above_arrays.ensures.above.1 (e.1 goes)) }

pub returns-then-is_reference : goal.returns-then-is_reference
returns-then-is_reference t c =
    let e = array_of_references c.args.headers.now c.args.from.now c.args.to.now c.in-Array.from c.in-Array-to.to c.in-Array.is c.in-Array-to.is (rw (← c.get.ensures.value) (c.is_reference.ensures.reference.0 c.if-is_reference.true)) in
    record {
      goes = (
        λ yes. e.0 (rw (← c.get-then-is_reference.ensures.value, ← c.get-then-is_reference-2.ensures.value) (c.java_assignable.ensures.goes.0 yes)),
        λ goes. c.java_assignable.ensures.goes.1 (rw (c.get-then-is_reference.ensures.value, c.get-then-is_reference-2.ensures.value) (e.1 goes)),
      );
    }

pub returns-else-is_reference : goal.returns-else-is_reference
returns-else-is_reference t c =
    let e = array_of_primitives c.args.headers.now c.args.from.now c.args.to.now c.in-Array.from c.in-Array-to.to c.in-Array.is c.in-Array-to.is
    (λ reference. both_ways c.is_reference.result c.if-is_reference.false (c.is_reference.ensures.reference.1 (rw c.get.ensures.value reference))) in
    record {
      goes = (
        λ yes. e.0 (rw (← c.get-else-is_reference.ensures.value, ← c.get-else-is_reference-2.ensures.value) (c.same_type.ensures.same.0 yes)),
        λ goes. c.same_type.ensures.same.1 (rw (c.get-else-is_reference.ensures.value, c.get-else-is_reference-2.ensures.value) (e.1 goes)),
      );
    }
