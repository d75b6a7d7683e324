-- The method that a call by a method's own parameters means is the first of these parameters in the order of search, where the call could mean that.
use Rattle.std.proofs.Common.{◌≡◌, ◌⊎◌, List, [], map, Option, Some, None, IsSomeAnd, slice_get, refl, sym, ap, subst, ◌∙◌, inl, inr}
use Rattle.std.specs.Prelude.{IfSome, IfNone, option_map, option_and_then}
use Rattle.std.proofs.lemmas.Option.{none-some, same_Some}
use Rattle.dj_names.specs.declared.header.Header.{Header}
use Rattle.dj_names.specs.declared.members.MethodHead.{MethodHead}
use Rattle.dj_names.specs.declared.members.Member.{Member}
use Rattle.dj_names.specs.Headers.{Name, names}
use Rattle.dj_names.specs.Types.{JType}
use Rattle.dj_kinds.specs.Search.{FindsOne}
use Rattle.dj_kinds.specs.Own.{IsSeen, Counts}
use Rattle.dj_kinds.specs.Single.{counts_one}
use Rattle.dj_kinds.specs.Found.{IsFoundBy}
use Rattle.dj_kinds.specs.Choice.{Call, searched_class, IsMethodAt, parameters, IsCandidate, IsChosen}
use Rattle.dj_kinds.proofs.ChoiceLemmas.{one_found}
use Rattle.dj_meaning.specs.Members as plain
use Rattle.dj_meaning.specs.Members.{Method, view_members, view_method}
use Rattle.dj_meaning.specs.Calls.{MethodIn, chosen}
use Rattle.dj_world.specs.Clashes.{IsLawful}
use Rattle.dj_static.specs.declared.classes.Classes.{Classes}
use Rattle.dj_static.specs.declared.targets.ChosenMethod.{ChosenMethod}
use Rattle.dj_static.specs.Targets.{view_chosen, meant_in, IsMethodIn}
use Rattle.dj_static.proofs.ChosenLemmas.{IsOne, one_method, named_so, ChosenFound, none_is, one_is, chosen_found}
use Rattle.dj_static.proofs.TargetLemmas.{one_meant}
use Rattle.dj_meant.specs.Meant.{exact}
use Rattle.dj_member_cause.specs.Deciding.{MeansExactly}
use Rattle.dj_member_cause.proofs.OneWay.{exactly_chosen}

module _ (classes : Classes) (lawful : IsLawful classes.headers.now) (receiver : JType) (through : Option JType) (name : Name) (wanted : List JType) where
  abbrev call : Name → Call
  call class = record { from = classes.from.now; class = class; through = through; name = name; arguments = exact wanted }

  abbrev IsFirst : Name → Member → Type 0
  IsFirst class = IsFoundBy (Counts name wanted) classes.headers.now classes.members.now class name

  one_first : (class : Name) (a b : Member) → IsFirst class a → IsFirst class b → a ≡ b
  one_first class = one_found classes.headers.now classes.members.now (Counts name wanted) class lawful.distinct (λ one methods a b. counts_one name wanted (IsSeen classes.headers.now class one) methods a b) _

  -- ---- one is found

  module _ (class : Name) (member : Member) (first : IsFirst class member) where
    wanted_at : (method : MethodHead) → IsMethodAt classes.members.now member method → parameters method ≡ wanted
    wanted_at method at = (named_so classes.headers.now classes.members.now lawful.distinct (call class) wanted member method first at).1

    found_so : (searched : Option Name) → searched ≡ Some class → IsCandidate classes.headers.now classes.members.now (call class) member
        → IsSomeAnd searched (λ one. IsChosen classes.headers.now classes.members.now (call one) member)
    found_so searched is candidate =
        subst (λ (o : Option Name). IsSomeAnd o (λ one. IsChosen classes.headers.now classes.members.now (call one) member)) (sym is)
        (exactly_chosen classes.headers.now lawful classes.members.now (call class) wanted refl member candidate (wanted_at candidate.method candidate.is_method))

    exactly_is : (found : Option ChosenMethod) → option_map view_chosen found ≡ meant_in classes.headers.now classes.members.now classes.from.now receiver through name (exact wanted)
        → IfSome found (λ one. IsMethodIn classes.headers.now classes.members.now member one.owner.now one.method.now) → ((one : MethodIn) → found ≡ None → MeansExactly classes receiver through name wanted one → ⊥)
        → FindsOne (MeansExactly classes receiver through name wanted) (option_map view_chosen found)
    exactly_is None is some none = λ one means. none one refl means
    exactly_is (Some one) is some none = record { meant = sym is; parameters = wanted_at one.method.now some.at }

    pub exactly_found : searched_class receiver ≡ Some class → IsCandidate classes.headers.now classes.members.now (call class) member → (found : Option ChosenMethod)
        → IfSome found (λ one. IsMethodIn classes.headers.now classes.members.now member one.owner.now one.method.now)
        → IfNone found ((owner : Name) (method : MethodHead) → ¬ IsMethodIn classes.headers.now classes.members.now member owner method) → FindsOne (MeansExactly classes receiver through name wanted) (option_map view_chosen found)
    exactly_found searched candidate found some none =
        let is = one_meant classes.headers.now classes.members.now classes.from.now receiver through name (exact wanted) member (found_so (searched_class receiver) searched candidate) lawful.distinct found some none in
        exactly_is found is some (λ one no means. none-some one (sym (ap (option_map view_chosen) no) ∙ is ∙ means.meant))

  -- ---- none is

  record IsChosenOf (class : Name) (one : MethodIn) : Type 0 where
    member : Member
    is_chosen : IsChosen classes.headers.now classes.members.now (call class) member
    is_one : IsOne classes.headers.now classes.members.now one member

  chosen_of : (class : Name) (one : MethodIn) (found : Option MethodIn) → ChosenFound classes.headers.now classes.members.now lawful.distinct (call class) found → found ≡ Some one → IsChosenOf class one
  chosen_of class one _ (none_is none) is = absurd (none-some one is)
  chosen_of class one _ (one_is other member chosen is_one) is =
      record { member = member; is_chosen = chosen; is_one = subst (λ o. IsOne classes.headers.now classes.members.now o member) (same_Some other one is) is_one }

  -- what a call means that has these parameters is the first that has
  module _ (class : Name) (one : MethodIn) (chosen_one : IsChosenOf class one) (types : plain.parameters one.method ≡ wanted) where
    abbrev candidate : IsCandidate classes.headers.now classes.members.now (call class) chosen_one.member
    candidate = chosen_one.is_chosen.most.candidate

    types_are : parameters candidate.method ≡ wanted
    types_are =
        ap parameters (one_method classes.headers.now classes.members.now chosen_one.member candidate.method chosen_one.is_one.method candidate.is_method chosen_one.is_one.at)
        ∙ ap plain.parameters (sym chosen_one.is_one.method_is) ∙ types

    first_is : IsFirst class chosen_one.member
    first_is =
        subst (λ w. IsFoundBy (Counts name w) classes.headers.now classes.members.now class name chosen_one.member) types_are
        (subst (λ n. IsFoundBy (Counts n (parameters candidate.method)) classes.headers.now classes.members.now class n chosen_one.member) candidate.named candidate.held)

    no_other : (found : Option Member) → FindsOne (IsFirst class) found → ((member : Member) → found ≡ Some member → ¬ IsCandidate classes.headers.now classes.members.now (call class) member) → ⊥
    no_other None none not = none chosen_one.member first_is
    no_other (Some member) first not =
        not member refl (subst (IsCandidate classes.headers.now classes.members.now (call class)) (one_first class chosen_one.member member first_is first) candidate)

  none_by : (class : Name) (found : Option Member) → FindsOne (IsFirst class) found → ((member : Member) → found ≡ Some member → ¬ IsCandidate classes.headers.now classes.members.now (call class) member)
      → (searched : Option Name) → searched ≡ Some class → (one : MethodIn) → plain.parameters one.method ≡ wanted
      → option_and_then (λ so. chosen classes.headers.now (map view_members classes.members.now) (call so)) searched ≡ Some one → ⊥
  none_by class found first not None is one types meant = absurd (none-some class is)
  none_by class found first not (Some other) is one types meant =
      no_other other one (chosen_of other one (chosen classes.headers.now (map view_members classes.members.now) (call other)) (chosen_found classes.headers.now classes.members.now lawful.distinct (call other)) meant) types found
      (subst (λ so. FindsOne (IsFirst so) found) (sym (same_Some other class is)) first)
      (λ member found_is. subst (λ so. ¬ IsCandidate classes.headers.now classes.members.now (call so) member) (sym (same_Some other class is)) (not member found_is))

  -- the first isn't one that the call could mean, or there is none
  pub exactly_none : (class : Name) → searched_class receiver ≡ Some class → (found : Option Member) → FindsOne (IsFirst class) found
      → ((member : Member) → found ≡ Some member → ¬ IsCandidate classes.headers.now classes.members.now (call class) member) → (one : MethodIn) → ¬ MeansExactly classes receiver through name wanted one
  exactly_none class searched found first not one means = none_by class found first not (searched_class receiver) searched one means.parameters means.meant

  nothing_in : (searched : Option Name) → (searched ≡ None) ⊎ (classes.headers.now ≡ []) → (one : MethodIn) → option_and_then (λ so. chosen classes.headers.now (map view_members classes.members.now) (call so)) searched ≡ Some one → ⊥
  nothing_in None none one meant = absurd (none-some one meant)
  nothing_in (Some class) (inl none) one meant = absurd (none-some class (sym none))
  nothing_in (Some class) (inr none) one meant =
      let it = chosen_of class one (chosen classes.headers.now (map view_members classes.members.now) (call class)) (chosen_found classes.headers.now classes.members.now lawful.distinct (call class)) meant in
      absurd (none-some one.owner (sym (ap (λ (list : List Header). slice_get (names list) it.member.class) none) ∙ it.is_one.owner))

  -- there is no class in which it is searched for
  pub nothing_searched : (searched_class receiver ≡ None) ⊎ (classes.headers.now ≡ []) → (one : MethodIn) → ¬ MeansExactly classes receiver through name wanted one
  nothing_searched none one means = nothing_in (searched_class receiver) none one means.meant
