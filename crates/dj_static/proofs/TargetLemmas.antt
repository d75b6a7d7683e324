-- The method that a call means, by what the search among members answers.
use Rattle.std.proofs.Common.{◌≡◌, List, map, Option, Some, None, IsSomeAnd, refl, ap, subst}
use Rattle.std.specs.Prelude.{IfSome, IfNone, option_map, option_and_then, slice_get}
use Rattle.dj_names.specs.declared.header.Header.{Header}
use Rattle.dj_names.specs.declared.members.ClassMembers.{ClassMembers}
use Rattle.dj_names.specs.declared.members.MethodHead.{MethodHead}
use Rattle.dj_names.specs.declared.members.Member.{Member}
use Rattle.dj_names.specs.Headers.{Name, names, HasDistinctNames}
use Rattle.dj_names.specs.Types.{JType, StaticType}
use Rattle.dj_kinds.specs.Choice.{Call, searched_class, IsChosen, IsChosenIn}
use Rattle.dj_meaning.specs.Members.{view_method, view_members}
use Rattle.dj_meaning.specs.Calls.{MethodIn, chosen}
use Rattle.dj_static.specs.declared.targets.ChosenMethod.{ChosenMethod}
use Rattle.dj_static.specs.Targets.{view_chosen, meant, meant_in, IsMethodIn}
use Rattle.dj_static.proofs.ChosenLemmas.{IsOne, same_one, ChosenFound, none_is, one_is, chosen_found}

module _ (headers : List Header) (members : List ClassMembers) (from : Name) (receiver : JType) (through : Option JType) (name : Name) (arguments : List StaticType) where
  abbrev call : Name → Call
  call class = record { from = from; class = class; through = through; name = name; arguments = arguments }

  none_by : (distinct : HasDistinctNames headers) (class : Name) → ((member : Member) → ¬ IsChosen headers members (call class) member) → (found : Option MethodIn) → ChosenFound headers members distinct (call class) found → None ≡ found
  none_by distinct class nothing _ (none_is none) = refl
  none_by distinct class nothing _ (one_is one member chosen is) = absurd (nothing member chosen)

  none_in : (distinct : HasDistinctNames headers) (searched : Option Name) → ((member : Member) → ¬ IsSomeAnd searched (λ class. IsChosen headers members (call class) member))
      → None ≡ option_and_then (meant headers members from through name arguments) searched
  none_in distinct None nothing = refl
  none_in distinct (Some class) nothing = none_by distinct class nothing (chosen headers (map view_members members) (call class)) (chosen_found headers members distinct (call class))

  -- no method is meant
  pub none_meant : HasDistinctNames headers → ((member : Member) → ¬ IsChosenIn headers members from receiver through name arguments member) → None ≡ meant_in headers members from receiver through name arguments
  none_meant distinct nothing = none_in distinct (searched_class receiver) nothing

  module _ (member : Member) where
    one_by : (distinct : HasDistinctNames headers) (class : Name) → IsChosen headers members (call class) member → (owner : Name) (method : MethodHead) → IsMethodIn headers members member owner method
        → (found : Option MethodIn) → ChosenFound headers members distinct (call class) found → Some (record { owner = owner; method = view_method method }) ≡ found
    one_by distinct class chosen owner method is _ (none_is none) = absurd (none member chosen)
    one_by distinct class chosen owner method is _ (one_is one other other_chosen other_is) =
        ap Some (same_one headers members (record { owner = owner; method = view_method method }) one member (record { method = method; owner = is.named; at = is.at; method_is = refl })
        (subst (IsOne headers members one) (chosen.only other other_chosen.most) other_is))

    one_in : (distinct : HasDistinctNames headers) (searched : Option Name) → IsSomeAnd searched (λ class. IsChosen headers members (call class) member) → (owner : Name) (method : MethodHead)
        → IsMethodIn headers members member owner method → Some (record { owner = owner; method = view_method method }) ≡ option_and_then (meant headers members from through name arguments) searched
    one_in distinct None chosen owner method is = absurd chosen
    one_in distinct (Some class) is_chosen owner method is =
        one_by distinct class is_chosen owner method is (chosen headers (map view_members members) (call class)) (chosen_found headers members distinct (call class))

    owner_of : (found : Option Name) (P : Name → Type 0) → IsSomeAnd found P → (owner : Name) × (found ≡ Some owner)
    owner_of None P h = absurd h
    owner_of (Some owner) P h = (owner, refl)

    there : (searched : Option Name) → IsSomeAnd searched (λ class. IsChosen headers members (call class) member) → (owner : Name) × (method : MethodHead) × IsMethodIn headers members member owner method
    there None chosen = absurd chosen
    there (Some class) chosen =
        let candidate = chosen.most.candidate in
        let owner = owner_of (slice_get (names headers) member.class) _ candidate.inherited in
        (owner.0, candidate.method, record { named = owner.1; at = candidate.is_method })

    -- the method that is meant
    pub one_meant : IsChosenIn headers members from receiver through name arguments member → HasDistinctNames headers → (found : Option ChosenMethod)
        → IfSome found (λ one. IsMethodIn headers members member one.owner.now one.method.now) → IfNone found ((owner : Name) (method : MethodHead) → ¬ IsMethodIn headers members member owner method)
        → option_map view_chosen found ≡ meant_in headers members from receiver through name arguments
    one_meant chosen distinct None some none = let it = there (searched_class receiver) chosen in absurd (none it.0 it.1 it.2)
    one_meant chosen distinct (Some one) some none = one_in distinct (searched_class receiver) chosen one.owner.now one.method.now some
