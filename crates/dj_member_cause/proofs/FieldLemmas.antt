-- What an instruction on a field asks, by what its name means.
use Rattle.std.proofs.Common.{◌≡◌, ◌↔◌, true, false, Bool, not, if◌then◌else◌, IsTrue, Bor, Option, Some, None, IsSomeAnd, refl, sym, ap, subst, ◌∙◌}
use Rattle.std.specs.Prelude.{is_some}
use Rattle.std.specs.Option.{option_and_then, option_copied}
use Rattle.std.proofs.lemmas.Bool.{false≢true, true≢false}
use Rattle.std.proofs.lemmas.Option.{none-some, same_Some}
use Rattle.dj_names.specs.Headers.{Name}
use Rattle.dj_names.specs.Types.{JType, Boolean, Byte, Char, Short, Int, Long, Float, Double, Class, Array}
use Rattle.dj_values.specs.Fits.{class_of}
use Rattle.dj_instructions.specs.Instructions.{FieldRef}
use Rattle.dj_meaning.specs.Fields.{KnownField, field_of}
use Rattle.dj_static.specs.declared.classes.Classes.{Classes}
use Rattle.dj_meant.specs.Meant.{through}
use Rattle.dj_member_cause.specs.Lawful.{may_set}
use Rattle.dj_member_cause.specs.Deciding.{members_in, meant_field, IsStaticFound, MaySetIn, NamesField, ReadsStatic, Writes}

module _ (classes : Classes) (static : Bool) (field : FieldRef) where
  -- it writes where the field is the one that is named, and may be assigned
  pub writes : (NamesField classes static field × MaySetIn classes field) ↔ Writes classes static field
  writes = (
    λ both. record {
      is = both.0;
      may = subst (λ (type : JType). IsSomeAnd (class_of type) (λ class. may_set classes.headers.now (members_in classes) classes.from.now class field.name ≡ true)) both.0.owner both.1;
    },
    λ both. (both.is, subst (λ (type : JType). IsSomeAnd (class_of type) (λ class. may_set classes.headers.now (members_in classes) classes.from.now class field.name ≡ true)) (sym both.is.owner) both.may),
  )

-- ---- a static field that is read

-- a constant that isn't there
pub none_told : {A : Type 0} (found : Option (Bor A)) (answer : Bool) → is_some found ≡ not answer → (constant : Option A) → option_copied found ≡ constant → IsTrue answer ↔ (constant ≡ None)
none_told None true told constant e = (λ yes. sym e, λ is. refl)
none_told None false told constant e = absurd (false≢true told)
none_told (Some x) true told constant e = absurd (true≢false told)
none_told (Some x) false told constant e = (λ never. absurd (false≢true never), λ is. absurd (none-some x.now (sym (e ∙ is))))

-- what is found is so in a class that is named
record IsNamed (Found : Name → Option KnownField) (type : JType) (known : KnownField) : Type 0 where
  class : Name
  named : type ≡ Class class
  found : Found class ≡ Some known

found_named : (Found : Name → Option KnownField) (known : KnownField) (type : JType) → option_and_then Found (class_of type) ≡ Some known → IsNamed Found type known
found_named Found known Boolean is = absurd (none-some known is)
found_named Found known Byte is = absurd (none-some known is)
found_named Found known Char is = absurd (none-some known is)
found_named Found known Short is = absurd (none-some known is)
found_named Found known Int is = absurd (none-some known is)
found_named Found known Long is = absurd (none-some known is)
found_named Found known Float is = absurd (none-some known is)
found_named Found known Double is = absurd (none-some known is)
found_named Found known (Class class) is = record { class = class; named = refl; found = is }
found_named Found known (Array element) is = absurd (none-some known is)

one_class : (first second : Name) → Class first ≡ Class second → first ≡ second
one_class first second same = cc

-- a field that is static
record IsStaticOne (known : KnownField) (found : Option KnownField) : Type 0 where
  is : found ≡ Some known
  of_class : known.of_class ≡ true

static_one : (known : KnownField) (found : Option KnownField) → Some known ≡ option_and_then (λ (one : KnownField). if one.of_class then Some one else None) found → IsStaticOne known found
static_one known None is = absurd (none-some known (sym is))
static_one known (Some one) is = by one.of_class refl
  where
    by : (test : Bool) → one.of_class ≡ test → IsStaticOne known (Some one)
    by true e =
        let same : known ≡ one = same_Some known one (is ∙ ap (λ b. if b then Some one else None) e) in
        record { is = ap Some (sym same); of_class = ap (λ (k : KnownField). k.of_class) same ∙ e }
    by false e = absurd (none-some known (sym (is ∙ ap (λ b. if b then Some one else None) e)))

module _ (classes : Classes) (field : FieldRef) (known : KnownField) (found : IsStaticFound classes field (Some known)) (type : known.type ≡ field.kind) where
  abbrev Meant : Name → Option KnownField
  Meant class = field_of classes.headers.now (members_in classes) classes.from.now (through true class) class field.name

  one : IsStaticOne known (meant_field classes true field)
  one = static_one known (meant_field classes true field) found

  named : IsNamed Meant field.owner known
  named = found_named Meant known field.owner one.is

  pub reads : (answer : Bool) → IsTrue answer ↔ (known.constant ≡ None) → IsTrue answer ↔ ReadsStatic classes field
  reads answer told = (
    λ yes. record {
      is = record { class = named.class; owner = named.named; known = known; meant = named.found; static_alike = one.of_class; type = type };
      plain = told.0 yes;
    },
    λ both. told.1 (ap (λ (k : KnownField). k.constant) (same_known both) ∙ both.plain),
  )
    where
      same_known : (both : ReadsStatic classes field) → known ≡ both.is.known
      same_known both =
          same_Some known both.is.known
          (sym named.found ∙ ap Meant (one_class named.class both.is.class (sym named.named ∙ both.is.owner)) ∙ both.is.meant)
