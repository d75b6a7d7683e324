-- What a call asks for is a method: which method it means, and how that is called.
use Rattle.std.proofs.Common.{◌≡◌, Bool, true, false, if◌then◌else◌, Option, Some, None, refl, sym, ap, ◌∙◌}
use Rattle.std.specs.Prelude.{option_and_then}
use Rattle.std.proofs.lemmas.Option.{none-some, same_Some}
use Rattle.dj_names.specs.Types.{JType}
use Rattle.dj_values.specs.Values.{InvokeKind, Static, Special}
use Rattle.dj_instructions.specs.Instructions.{MethodRef}
use Rattle.dj_meaning.specs.Members.{is_of_class}
use Rattle.dj_meaning.specs.Calls.{MethodIn}
use Rattle.dj_meaning.specs.Targets.{Target, target}
use Rattle.dj_meant.specs.Meant.{asked_of}

-- how a method is called by its class's name, and how a constructor is
abbrev pub static_kind : MethodIn → Option InvokeKind
static_kind one = if is_of_class one.method.flags then Some Static else None

abbrev pub constructor_kind : MethodIn → Option InvokeKind
constructor_kind one = if is_of_class one.method.flags then None else Some Special

module _ (owner : JType) where
  -- what a call asks for, by which method is found and how that is called
  abbrev pub asked_by : (MethodIn → Option InvokeKind) → Option MethodIn → Option Target
  asked_by How found = option_and_then (λ one. option_and_then (λ kind. Some (target owner one kind)) (How one)) found

  static_one : (one : MethodIn) (test : Bool) → (if test then Some (target owner one Static) else None) ≡ option_and_then (λ kind. Some (target owner one kind)) (if test then Some Static else None)
  static_one one true = refl
  static_one one false = refl

  pub static_asked : (found : Option MethodIn) → option_and_then (λ (one : MethodIn). if is_of_class one.method.flags then Some (target owner one Static) else None) found ≡ asked_by static_kind found
  static_asked None = refl
  static_asked (Some one) = static_one one (is_of_class one.method.flags)

  constructor_one : (one : MethodIn) (test : Bool) → (if test then None else Some (target owner one Special)) ≡ option_and_then (λ kind. Some (target owner one kind)) (if test then None else Some Special)
  constructor_one one true = refl
  constructor_one one false = refl

  pub constructor_asked : (found : Option MethodIn) → option_and_then (λ (one : MethodIn). if is_of_class one.method.flags then None else Some (target owner one Special)) found ≡ asked_by constructor_kind found
  constructor_asked None = refl
  constructor_asked (Some one) = constructor_one one (is_of_class one.method.flags)

-- a constructor that is called so isn't static
pub constructor_flags : (one : MethodIn) (kind : InvokeKind) → constructor_kind one ≡ Some kind → is_of_class one.method.flags ≡ false
constructor_flags one kind is = by (is_of_class one.method.flags) refl
  where
    by : (test : Bool) → is_of_class one.method.flags ≡ test → is_of_class one.method.flags ≡ false
    by true e = absurd (none-some kind (sym (ap (λ (b : Bool). if b then None else Some Special) e) ∙ is))
    by false e = e

pub constructor_is : (one : MethodIn) → is_of_class one.method.flags ≡ false → constructor_kind one ≡ Some Special
constructor_is one is = ap (λ (b : Bool). if b then None else Some Special) is

pub static_flags : (one : MethodIn) (kind : InvokeKind) → static_kind one ≡ Some kind → is_of_class one.method.flags ≡ true
static_flags one kind is = by (is_of_class one.method.flags) refl
  where
    by : (test : Bool) → is_of_class one.method.flags ≡ test → is_of_class one.method.flags ≡ true
    by true e = e
    by false e = absurd (none-some kind (sym (ap (λ (b : Bool). if b then Some Static else None) e) ∙ is))

pub static_is : (one : MethodIn) → is_of_class one.method.flags ≡ true → static_kind one ≡ Some Static
static_is one is = ap (λ (b : Bool). if b then Some Static else None) is

-- ---- what is asked for

-- a method of this name and descriptor is found, and is called so
pub record IsAsked (kind : InvokeKind) (method : MethodRef) (How : MethodIn → Option InvokeKind) (found : Option MethodIn) : Type 0 where
  pub one : MethodIn
  pub is : found ≡ Some one
  pub how : How one ≡ Some kind
  pub name : one.method.name ≡ method.name
  pub descriptor : one.method.descriptor ≡ method.descriptor

module _ (owner : JType) (kind : InvokeKind) (method : MethodRef) (How : MethodIn → Option InvokeKind) where
  by_how : (one : MethodIn) (how : Option InvokeKind) → How one ≡ how → option_and_then (λ so. Some (target owner one so)) how ≡ Some (asked_of kind owner method) → IsAsked kind method How (Some one)
  by_how one None e is = absurd (none-some (asked_of kind owner method) is)
  by_how one (Some how) e is =
      let same : target owner one how ≡ asked_of kind owner method = same_Some (target owner one how) (asked_of kind owner method) is in
      record { one = one; is = refl; how = e ∙ ap (λ (t : Target). Some t.kind) same; name = ap (λ (t : Target). t.name) same; descriptor = ap (λ (t : Target). t.descriptor) same }

  pub asked_to : (found : Option MethodIn) → asked_by owner How found ≡ Some (asked_of kind owner method) → IsAsked kind method How found
  asked_to None is = absurd (none-some (asked_of kind owner method) is)
  asked_to (Some one) is = by_how one (How one) refl is

  pub asked_from : (found : Option MethodIn) → IsAsked kind method How found → asked_by owner How found ≡ Some (asked_of kind owner method)
  asked_from found a =
      ap (asked_by owner How) a.is ∙ ap (option_and_then (λ so. Some (target owner a.one so))) a.how
      ∙ ap (λ name. (let t : Target = record { kind = kind; owner = owner; name = name; descriptor = a.one.method.descriptor } in Some t)) a.name
      ∙ ap (λ descriptor. (let t : Target = record { kind = kind; owner = owner; name = method.name; descriptor = descriptor } in Some t)) a.descriptor
