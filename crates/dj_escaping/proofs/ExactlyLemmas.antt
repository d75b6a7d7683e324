-- What a call by a method's own parameters lists is what the first method of these parameters does.
use Rattle.std.proofs.Common.{◌≡◌, ℕ, Bool, true, false, Option, List, [], ◌∷◌, map, Some, if◌then◌else◌, Contains, slice_get, refl, ap, ◌∙◌, inl, inr}
use Rattle.std.proofs.lemmas.Option.{slice_get_within, get_or_from_slice_get}
use Rattle.dj_names.specs.declared.members.MethodHead.{MethodHead}
use Rattle.dj_names.specs.declared.members.Member.{Member}
use Rattle.dj_names.specs.Headers.{Name, names}
use Rattle.dj_names.specs.MethodNames.{is_constructor}
use Rattle.dj_names.specs.Types.{JType, Class, Of}
use Rattle.dj_kinds.specs.Search.{IsFirstIn, classes_then_interfaces}
use Rattle.dj_kinds.specs.Own.{Counts, HasOwnMethod}
use Rattle.dj_kinds.specs.Found.{IsFoundBy}
use Rattle.dj_kinds.specs.Choice.{Call, IsMethodAt, parameters, IsCandidate}
use Rattle.dj_static.specs.Targets.{meant_in}
use Rattle.dj_static.proofs.ChosenLemmas.{named_so}
use Rattle.dj_world.specs.Clashes.{IsLawful}
use Rattle.dj_thrown.specs.Settings.{Setting}
use Rattle.dj_thrown.specs.Listed.{listed_by}
use Rattle.dj_thrown.proofs.ListedLemmas.{listed_none, listed_one}
use Rattle.dj_member_cause.proofs.OneWay.{exactly_chosen}

contains_at : (xs : List Name) (k : ℕ) (x : Name) → slice_get xs k ≡ Some x → Contains xs x
contains_at xs k x is = (k, slice_get_within xs k x is, get_or_from_slice_get xs k x x is)

module _ (setting : Setting) (lawful : IsLawful setting.headers) (class : Name) (through : Option JType) (name : Name) (wanted : List JType) where
  abbrev call : Call
  call = record { from = setting.class; class = class; through = through; name = name; arguments = map Of wanted }

  -- the first of these parameters is meant, where the call could mean it
  pub exactly_listed : (member : Member) → IsFoundBy (Counts name wanted) setting.headers setting.members class name member → IsCandidate setting.headers setting.members call member
      → (clause : List Name) → ((method : MethodHead) → IsMethodAt setting.members member method → clause ≡ method.thrown)
      → clause ≡ listed_by setting (meant_in setting.headers setting.members setting.class (Class class) through name (map Of wanted))
  exactly_listed member first candidate clause tells =
      listed_one setting setting.class (Class class) through name (map Of wanted) lawful.distinct member clause tells
      (exactly_chosen setting.headers lawful setting.members call wanted refl member candidate
      (named_so setting.headers setting.members lawful.distinct call wanted member candidate.method first candidate.is_method).1)

  -- a constructor is declared by its class
  own_held : (constructs : Bool) → constructs ≡ true → (types : List JType) (method_name : Name) (member : Member)
      → IsFirstIn (HasOwnMethod setting.headers setting.members (Counts method_name types) class) (if constructs then class ∷ [] else classes_then_interfaces setting.headers class) member
      → HasOwnMethod setting.headers setting.members (Counts method_name types) class class member
  own_held true is types method_name member (inl own) = own
  own_held true is types method_name member (inr later) = absurd later.1
  own_held false is types method_name member first = absurd (cc)

  -- none of a class that isn't there is meant
  pub unknown_listed : is_constructor name ≡ true → ¬ Contains (names setting.headers) class
      → [] ≡ listed_by setting (meant_in setting.headers setting.members setting.class (Class class) through name (map Of wanted))
  unknown_listed constructs unknown =
      listed_none setting setting.class (Class class) through name (map Of wanted) lawful.distinct
      (λ member chosen.
      (let candidate = chosen.most.candidate in
      let own = own_held (is_constructor candidate.method.name) (ap is_constructor candidate.named ∙ constructs) (parameters candidate.method) candidate.method.name member candidate.held in
      unknown (contains_at (names setting.headers) member.class class own.class_at.named)))
