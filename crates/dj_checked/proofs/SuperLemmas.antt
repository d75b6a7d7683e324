-- The method that a call behind `super` means, by what the search among members answers.
use Rattle.std.proofs.Common.{◌≡◌, ℕ, zero, suc, false, List, [], ◌∷◌, length, map, Option, Some, None, IsSomeAnd, slice_get, option_and_then, refl, sym, ap, subst, ◌∙◌, arith}
use Rattle.std.specs.Prelude.{option_map}
use Rattle.dj_names.specs.declared.header.Header.{Header}
use Rattle.dj_names.specs.declared.members.ClassMembers.{ClassMembers}
use Rattle.dj_names.specs.declared.members.MethodHead.{MethodHead}
use Rattle.dj_names.specs.declared.members.Member.{Member}
use Rattle.dj_names.specs.Headers.{Name, names, HasDistinctNames}
use Rattle.dj_names.specs.Types.{JType, StaticType}
use Rattle.dj_values.specs.Deciding.{is_some_and}
use Rattle.dj_kinds.specs.Choice.{Call, searched_class, IsMethodAt, IsChosen, IsChosenIn}
use Rattle.dj_meaning.specs.Members.{Method, view_members, has_flag}
use Rattle.dj_meaning.specs.Calls.{MethodIn, chosen}
use Rattle.dj_static.specs.Targets.{meant, meant_in}
use Rattle.dj_static.proofs.ChosenLemmas.{IsOne, ChosenFound, none_is, one_is, chosen_found}
use Rattle.dj_static.proofs.TargetLemmas.{none_meant}
use Rattle.dj_typing.specs.Sites.{Site}
use Rattle.dj_typing.specs.Expressions.{above_of, means_abstract}

-- the flags of a method, where there is one
abbrev flags_of : Option MethodIn → Option ℕ
flags_of = option_map (λ (one : MethodIn). one.method.flags)

-- ---- its flags

module _ (headers : List Header) (members : List ClassMembers) (from : Name) (receiver : JType) (name : Name) (arguments : List StaticType) (distinct : HasDistinctNames headers) where
  abbrev call : Name → Call
  call class = record { from = from; class = class; through = None; name = name; arguments = arguments }

  pub flags_none : ((member : Member) → ¬ IsChosenIn headers members from receiver None name arguments member) → None ≡ flags_of (meant_in headers members from receiver None name arguments)
  flags_none nothing = ap flags_of (none_meant headers members from receiver None name arguments distinct nothing)

  -- where no class is known
  pub flags_empty : length headers ≡ 0 → None ≡ flags_of (meant_in headers members from receiver None name arguments)
  flags_empty none = flags_none (λ member chosen. no_chosen (searched_class receiver) member chosen)
    where
      no_name : (headers : List Header) (P : Name → Type 0) (k : ℕ) → length headers ≡ 0 → IsSomeAnd (slice_get (names headers) k) P → ⊥
      no_name [] P zero is there = there
      no_name [] P (suc k) is there = there
      no_name (header ∷ headers) P k is there = absurd (omega (arith, is))

      no_chosen : (searched : Option Name) (member : Member) → IsSomeAnd searched (λ class. IsChosen headers members (call class) member) → ⊥
      no_chosen None member chosen = chosen
      no_chosen (Some class) member chosen = no_name headers _ member.class none chosen.most.candidate.inherited

  module _ (member : Member) (flags : ℕ) (tells : (method : MethodHead) → IsMethodAt members member method → flags ≡ method.flags) where
    flags_by : (class : Name) → IsChosen headers members (call class) member → (found : Option MethodIn) → ChosenFound headers members distinct (call class) found → Some flags ≡ flags_of found
    flags_by class chosen _ (none_is none) = absurd (none member chosen)
    flags_by class chosen _ (one_is one other other_chosen other_is) =
        let is : IsOne headers members one member = subst (IsOne headers members one) (chosen.only other other_chosen.most) other_is in
        ap Some (tells is.method is.at ∙ ap (λ (method : Method). method.flags) (sym is.method_is))

    flags_in : (searched : Option Name) → IsSomeAnd searched (λ class. IsChosen headers members (call class) member)
        → Some flags ≡ flags_of (option_and_then (meant headers members from None name arguments) searched)
    flags_in None chosen = absurd chosen
    flags_in (Some class) is_chosen = flags_by class is_chosen (chosen headers (map view_members members) (call class)) (chosen_found headers members distinct (call class))

    pub flags_one : IsChosenIn headers members from receiver None name arguments member → Some flags ≡ flags_of (meant_in headers members from receiver None name arguments)
    flags_one chosen = flags_in (searched_class receiver) chosen

-- ---- whether it is abstract

some_flags : (found : Option MethodIn) → is_some_and (flags_of found) (has_flag 0x0400) ≡ is_some_and found (λ (one : MethodIn). has_flag 0x0400 one.method.flags)
some_flags None = refl
some_flags (Some one) = refl

module _ (site : Site) (above : Option Name) (name : Name) (arguments : List StaticType) where
  abbrev found_in : Name → Option MethodIn
  found_in class = chosen site.headers site.members (record { from = site.class; class = class; through = None; name = name; arguments = arguments })

  -- no class stands above
  pub none_abstract : None ≡ above_of site above → false ≡ means_abstract site above name (Some arguments)
  none_abstract is = ap (λ class. is_some_and (option_and_then found_in class) (λ (one : MethodIn). has_flag 0x0400 one.method.flags)) is

  pub abstract_is : (class : Name) (flags : Option ℕ) → Some class ≡ above_of site above → flags ≡ flags_of (found_in class) → is_some_and flags (has_flag 0x0400) ≡ means_abstract site above name (Some arguments)
  abstract_is class flags is so =
      ap (λ some. is_some_and some (has_flag 0x0400)) so ∙ some_flags (found_in class)
      ∙ ap (λ some. is_some_and (option_and_then found_in some) (λ (one : MethodIn). has_flag 0x0400 one.method.flags)) is
