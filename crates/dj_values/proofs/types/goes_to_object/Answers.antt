use Rattle.std.proofs.Common.{inl, inr, refl}
use Rattle.std.proofs.lemmas.Bool.{both_ways}
use Rattle.dj_values.proofs.FitsLemmas.{class_to_object, array_to_object}
use Rattle.dj_values.proofs.types.goes_to_object.Goals as goal

pub returns-then-is_object : goal.returns-then-is_object
returns-then-is_object c =
    let e = class_to_object c.args.headers.now c.args.kind.now c.in-Class.name c.in-Class.is in
    record { object = (λ yes. e.1 (inl (c.is_object.ensures.object.0 yes)), λ goes. c.if-is_object.true) }

pub returns-else-is_object : goal.returns-else-is_object
returns-else-is_object c =
    let e = class_to_object c.args.headers.now c.args.kind.now c.in-Class.name c.in-Class.is in
    record {
      object = (
        λ yes. e.1 (inr (c.is_interface.ensures.interface.0 yes)),
        λ goes. elim (e.0 goes) [
          | inl above ↦ absurd (both_ways c.is_object.result c.if-is_object.false (c.is_object.ensures.object.1 above))
          | inr interface ↦ c.is_interface.ensures.interface.1 interface
        ],
      );
    }

pub returns-in-Array : goal.returns-in-Array
returns-in-Array c = record { object = (λ yes. array_to_object c.args.headers.now c.args.kind.now c.in-Array.field-0 c.in-Array.is, λ goes. refl) }
