use Rattle.std.proofs.Common.{refl, sym, ◌∙◌, inl, inr}
use Rattle.std.proofs.lemmas.Bool.{both_ways}
use Rattle.std.proofs.lemmas.Slice.Eq.{bytes_eq-Decides}
use Rattle.dj_tags.specs.Laxly.{subclass, interface, from_unknown, to_unknown}
use Rattle.dj_tags.proofs.Assignable.{class_way}
use Rattle.dj_tags.proofs.Superclasses.{same_is_below, place_within, known_at}
use Rattle.dj_tags.proofs.relations.class_goes.Goals as goal

pub returns-then-eq : goal.returns-then-eq
returns-then-eq c =
    record { goes = (λ always. subclass (same_is_below c.args.headers.now c.args.from.now c.args.to.now ((bytes_eq-Decides c.args.from.now c.args.to.now).0 (sym c.eq.ensures ∙ c.if-eq.true))), λ goes. refl) }

pub is_interface_at-requires : goal.is_interface_at-requires
is_interface_at-requires c = record { within = place_within c.args.headers.now c.in-Some.at c.args.to.now c.in-Some.ensures.place }

pub returns-then-is_interface_at : goal.returns-then-is_interface_at
returns-then-is_interface_at c =
    record { goes = (λ always. interface ((c.is_interface_at.ensures.interface c.args.to.now c.in-Some.ensures.place).0 c.if-is_interface_at.true), λ goes. refl) }

pub returns-else-is_interface_at : goal.returns-else-is_interface_at
returns-else-is_interface_at c =
    record {
      goes = (
        λ is. elim (c.is_below_or_unknown.ensures.goes.0 is) [ inl below ↦ subclass below | inr unknown ↦ from_unknown unknown ],
        λ goes. elim ((class_way c.args.headers.now c.args.from.now c.args.to.now goes).way) [
          | inl (inl below) ↦ c.is_below_or_unknown.ensures.goes.1 (inl below)
          | inl (inr unknown) ↦ absurd (unknown (known_at c.args.headers.now c.in-Some.at c.args.to.now c.in-Some.ensures.place))
          | inr (inl is) ↦ absurd (both_ways c.is_interface_at.result c.if-is_interface_at.false ((c.is_interface_at.ensures.interface c.args.to.now c.in-Some.ensures.place).1 is))
          | inr (inr above) ↦ c.is_below_or_unknown.ensures.goes.1 (inr above)
        ],
      );
    }

pub returns-in-None : goal.returns-in-None
returns-in-None c = record { goes = (λ always. to_unknown c.in-None.ensures.place, λ goes. refl) }
