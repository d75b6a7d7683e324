-- Names that the text of a class can say, gathered one after another.
use Rattle.std.proofs.Common.{◌≡◌, ◌++◌, ◌∷◌, [], List, Contains, inl, inr, sym, subst}
use Rattle.std.specs.BTreeSet.{BTreeSet}
use Rattle.std.proofs.lemmas.List.Elements.{Contains-push_cases, Contains-push, Contains-append_left}
use Rattle.dj_names.specs.declared.header.Header.{Header}
use Rattle.dj_names.specs.declared.members.ClassMembers.{ClassMembers}
use Rattle.dj_names.specs.Headers.{Name, names}
use Rattle.dj_world.specs.Learning.{Learns}
use Rattle.dj_sayable.specs.Saying.{CanBeSaid}
use Rattle.dj_typing.proofs.WordLemmas.{Decides-identifier}
use Rattle.dj_typed.specs.Bodies.{IsRight}
use Rattle.dj_body_types.specs.Views.{writing_of}
use Rattle.dj_bodies.specs.Said.{HasSaid}

module _ (headers : List Header) (members : List ClassMembers) (class : Name) where
  -- a name more, which can be said
  pub said_more : (before : List Name) (name : Name) (old new : BTreeSet Name) → CanBeSaid headers members class name → Learns old new (λ other. name ≡ other)
      → HasSaid headers members class before old → HasSaid headers members class (before ++ name ∷ []) new
  said_more before name old new can learns said = record {
    each = λ other. (
      λ has. elim ((learns.each other).0 has) [
        | inl had ↦ (let both = (said.each other).0 had in (Contains-append_left before (name ∷ []) other both.0, both.1))
        | inr same ↦ (subst (Contains (before ++ name ∷ [])) same (Contains-push before name), subst (CanBeSaid headers members class) same can)
      ],
      λ both. (learns.each other).1 (elim (Contains-push_cases before name other both.0) [
        | inl there ↦ inl ((said.each other).1 (there, both.1))
        | inr same ↦ inr same
      ]),
    );
  }

  -- a name more, which can't
  pub said_same : (before : List Name) (name : Name) (said : BTreeSet Name) → ¬ CanBeSaid headers members class name
      → HasSaid headers members class before said → HasSaid headers members class (before ++ name ∷ []) said
  said_same before name said cannot has_said = record {
    each = λ other. (
      λ has. (let both = (has_said.each other).0 has in (Contains-append_left before (name ∷ []) other both.0, both.1)),
      λ both. elim (Contains-push_cases before name other both.0) [
        | inl there ↦ (has_said.each other).1 (there, both.1)
        | inr same ↦ absurd (cannot (subst (CanBeSaid headers members class) (sym same) both.1))
      ],
    );
  }

  -- all the names there are: the tests by the set are right
  pub right_by : (said : BTreeSet Name) → HasSaid headers members class (names headers) said → IsRight headers members class (writing_of said)
  right_by said has_said = record {
    says = has_said.each;
    spells = λ name. (let decides = Decides-identifier name in (decides.0, decides.1));
  }
