use Rattle.std.proofs.Common.{refl, ap, ◌∙◌}
use Rattle.std.proofs.lemmas.Bool.{false≢true, both_ways}
use Rattle.dj_names.specs.Types.{view_type}
use Rattle.dj_headers.proofs.TypeViews.{view-class}
use Rattle.dj_applying.proofs.Constructing.{way_of, by_way, own_class, upper_class, any_class}
use Rattle.dj_applying.proofs.births.constructs_this.Goals as goal

pub returns-then-is_class : goal.returns-then-is_class
returns-then-is_class c = record { constructs = (λ yes. by_way _ _ _ (own_class (c.is_class.ensures.class.0 c.if-is_class.true)), λ may. refl) }

pub returns-in-Some : goal.returns-in-Some
returns-in-Some c = record {
  constructs = (
    λ yes. by_way _ _ _ (upper_class c.in-Some.upper.now c.in-Some.ensures.named (c.is_class-in-Some.ensures.class.0 yes)),
    λ may. elim (way_of c.args.headers.now c.args.class.now _ may) [
      | own_class is ↦ absurd (both_ways c.is_class.result c.if-is_class.false (c.is_class.ensures.class.1 is))
      | upper_class upper has is ↦ c.is_class-in-Some.ensures.class.1 (rw (← c.in-Some.ensures.one upper has) is)
      | any_class upper none is ↦ absurd (both_ways c.is_unknown.result c.if-is_unknown.false (c.is_unknown.ensures.unknown.1 none))
    ],
  );
}

pub returns-in-None : goal.returns-in-None
returns-in-None c = record {
  constructs = (
    λ yes. absurd (false≢true yes),
    λ may. elim (way_of c.args.headers.now c.args.class.now _ may) [
      | own_class is ↦ absurd (both_ways c.is_class.result c.if-is_class.false (c.is_class.ensures.class.1 is))
      | upper_class upper has is ↦ absurd (c.in-None.ensures.one upper has)
      | any_class upper none is ↦ absurd (both_ways c.is_unknown.result c.if-is_unknown.false (c.is_unknown.ensures.unknown.1 none))
    ],
  );
}

pub returns-in-Class : goal.returns-in-Class
returns-in-Class c = record { constructs = (λ yes. by_way _ _ _ (any_class c.in-Class.field-0 (c.is_unknown.ensures.unknown.0 c.if-is_unknown.true) (ap view_type c.in-Class.is ∙ view-class c.in-Class.field-0)), λ may. refl) }
