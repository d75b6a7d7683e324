-- Tests of names that are right: which names the text of a class can say is decided.
use Rattle.std.proofs.Common.{◌≡◌, ◌⊎◌, ℕ, zero, suc, ◌==◌, Bool, true, false, not, ◌&&◌, ◌||◌, Decides, List, [], ◌∷◌, ◌++◌, length, drop, get_or, Contains, Some, refl, sym, ap, subst, ◌∙◌, inl, inr, arith}
use Rattle.std.specs.Prelude.{codes, slice_get}
use Rattle.std.specs.List.{list_any, list_all}
use Rattle.std.proofs.lemmas.Bool.{false≢true}
use Rattle.std.proofs.lemmas.Bool.Decides.{Decides-like, Decides-and, Decides-or, Decides-not, Decides-eqb, Decides-by_and, Decides-by_or, not_from_Decides}
use Rattle.std.proofs.lemmas.List.Elements.{Decides-contains}
use Rattle.std.proofs.lemmas.Option.{none-some, same_Some}
use Rattle.dj_names.specs.declared.header.Header.{Header}
use Rattle.dj_names.specs.declared.members.ClassMembers.{ClassMembers}
use Rattle.dj_names.specs.ClassNames.{segments}
use Rattle.dj_names.specs.Headers.{Name, names, Implements}
use Rattle.dj_names.specs.Identifiers.{IsDigit, IsIdentifier}
use Rattle.dj_names.specs.Sayable.{IsSayable, IsVariableLike}
use Rattle.dj_members.specs.Tables.{field_names}
use Rattle.dj_kinds.specs.Access.{package_of}
use Rattle.dj_values.specs.Deciding.{is_name, implements}
use Rattle.dj_values.proofs.Deciding.{Decides-implements}
use Rattle.dj_sayable.specs.Saying.{first_segment, HasFieldInScope, HasClassInFront, IsUnobscured, IsTakenForPackage, CanBeSaid}
use Rattle.dj_typing.specs.Sites.{has_header}
use Rattle.dj_typing.specs.Words.{is_digit, is_identifier}
use Rattle.dj_typing.proofs.WordLemmas.{Decides-among, Decides-digit, Decides-identifier}
use Rattle.dj_typed.specs.Bodies.{Writing, IsRight}

-- ---- names

-- a unit is among others
abbrev has_unit : ℕ → List ℕ → Bool
has_unit unit = list_any (λ one. one == unit)

Decides-unit : (unit : ℕ) (units : List ℕ) → Decides (has_unit unit units) (Contains units unit)
Decides-unit unit units =
    Decides-contains units unit (has_unit unit units)
    (Decides-by_or (λ one. one == unit) (λ one. one ≡ unit) (has_unit unit) (λ one. Decides-eqb one unit) refl (λ _ _. refl) units)

-- a name is spelled as printed variables are
abbrev is_variable_like : List ℕ → Bool
is_variable_like [] = false
is_variable_like (letter ∷ []) = false
is_variable_like (letter ∷ digit ∷ digits) = has_unit letter (codes "pves") && (is_digit digit && list_all is_digit digits)

Decides-variable_like : (units : List ℕ) → Decides (is_variable_like units) (IsVariableLike units)
Decides-variable_like [] = (λ is. false≢true is, λ h. absurd h)
Decides-variable_like (letter ∷ []) = (λ is. false≢true is, λ h. absurd h)
Decides-variable_like (letter ∷ digit ∷ digits) =
    Decides-like (is_variable_like (letter ∷ digit ∷ digits)) (λ h. (h.0, h.1.0, h.1.1)) (λ h. (h.0, (h.1, h.2)))
    (Decides-and _ _ (Decides-unit letter (codes "pves"))
    (Decides-and _ _ (Decides-digit digit) (Decides-by_and is_digit IsDigit (list_all is_digit) Decides-digit refl (λ _ _. refl) digits)))

-- a name can be said whatever variables there are
abbrev is_sayable : Name → Bool
is_sayable name = list_all is_identifier (segments name) && not (is_variable_like (first_segment name))

Decides-sayable : (name : Name) → Decides (is_sayable name) (IsSayable name)
Decides-sayable name =
    Decides-like (is_sayable name) (λ h. record { identifiers = h.0; begins_plainly = h.1 }) (λ h. (h.identifiers, h.begins_plainly))
    (Decides-and _ _ (Decides-by_and is_identifier IsIdentifier (list_all is_identifier) Decides-identifier refl (λ _ _. refl) (segments name))
    (Decides-not _ (Decides-variable_like (first_segment name))))

-- ---- fields in scope

-- a class of these, which stands above another among all, declares a field of this name
abbrev declares : List Header → Name → Name → List Header → List ClassMembers → Bool
declares all class field [] members = false
declares all class field (header ∷ headers) [] = false
declares all class field (header ∷ headers) (one ∷ members) =
    (implements all class header.name && list_any (λ name. is_name name field) (field_names one.fields)) || declares all class field headers members

record Declared (all : List Header) (class field : Name) (headers : List Header) (members : List ClassMembers) : Type 0 where
  at : ℕ
  owner : Name
  declared : ClassMembers
  named : slice_get (names headers) at ≡ Some owner
  there : slice_get members at ≡ Some declared
  above : Implements all class owner
  has : Contains (field_names declared.fields) field

Decides-declared : (all : List Header) (class field : Name) (headers : List Header) (members : List ClassMembers) → Decides (declares all class field headers members) (Declared all class field headers members)
Decides-declared all class field [] members = (λ is. absurd (false≢true is), λ h. absurd (none-some h.owner h.named))
Decides-declared all class field (header ∷ headers) [] = (λ is. absurd (false≢true is), λ h. absurd (none-some h.declared h.there))
Decides-declared all class field (header ∷ headers) (one ∷ members) =
    Decides-like (declares all class field (header ∷ headers) (one ∷ members)) to from
    (Decides-or _ _ (Decides-and _ _ (Decides-implements all class header.name) (Decides-among (field_names one.fields) field)) (Decides-declared all class field headers members))
  where
    to : (Implements all class header.name × Contains (field_names one.fields) field) ⊎ Declared all class field headers members → Declared all class field (header ∷ headers) (one ∷ members)
    to (inl here) = record { at = 0; owner = header.name; declared = one; named = refl; there = refl; above = here.0; has = here.1 }
    to (inr later) = record { at = suc later.at; owner = later.owner; declared = later.declared; named = later.named; there = later.there; above = later.above; has = later.has }

    by_place : (at : ℕ) (owner : Name) (declared : ClassMembers) → slice_get (names (header ∷ headers)) at ≡ Some owner → slice_get (one ∷ members) at ≡ Some declared
        → Implements all class owner → Contains (field_names declared.fields) field → (Implements all class header.name × Contains (field_names one.fields) field) ⊎ Declared all class field headers members
    by_place zero owner declared named there above has =
        inl (subst (Implements all class) (sym (same_Some header.name owner named)) above, subst (λ (which : ClassMembers). Contains (field_names which.fields) field) (sym (same_Some one declared there)) has)
    by_place (suc at) owner declared named there above has =
        inr (record { at = at; owner = owner; declared = declared; named = named; there = there; above = above; has = has })

    from : Declared all class field (header ∷ headers) (one ∷ members) → (Implements all class header.name × Contains (field_names one.fields) field) ⊎ Declared all class field headers members
    from h = by_place h.at h.owner h.declared h.named h.there h.above h.has

Decides-in_scope : (headers : List Header) (members : List ClassMembers) (class field : Name) → Decides (declares headers class field headers members) (HasFieldInScope headers members class field)
Decides-in_scope headers members class field =
    Decides-like (declares headers class field headers members)
    (λ h. record { owner = h.owner; above = h.above; declares = record { at = h.at; declared = h.declared; there = record { named = h.named; there = h.there }; named = h.has } })
    (λ h. record { at = h.declares.at; owner = h.owner; declared = h.declares.declared; named = h.declares.there.named; there = h.declares.there.there; above = h.above; has = h.declares.named })
    (Decides-declared headers class field headers members)

-- ---- what can be said

-- a class has a header
abbrev is_there : List Header → Name → Bool
is_there headers name = list_any (λ one. is_name one name) (names headers)

-- a class that has a header is there
pub named_there : (headers : List Header) (name : Name) → has_header headers name ≡ true → Contains (names headers) name
named_there headers name has = (Decides-among (names headers) name).0 (sym (same headers) ∙ has)
  where
    same : (these : List Header) → has_header these name ≡ is_there these name
    same [] = refl
    same (header ∷ rest) = ap (λ other. is_name header.name name || other) (same rest)

-- ---- classes in front

-- a name goes on behind a front with a slash
abbrev is_in_front : Name → Name → Bool
is_in_front [] [] = false
is_in_front [] (unit ∷ rest) = unit == 47
is_in_front (first ∷ front) [] = false
is_in_front (first ∷ front) (unit ∷ rest) = (unit == first) && is_in_front front rest

record IsInFront (front name : Name) : Type 0 where
  rest : List ℕ
  parts : name ≡ front ++ 47 ∷ rest

Decides-in_front : (front name : Name) → Decides (is_in_front front name) (IsInFront front name)
Decides-in_front [] [] = (λ is. absurd (false≢true is), λ h. absurd (let e = ap length h.parts in omega (arith, e)))
Decides-in_front [] (unit ∷ rest) =
    Decides-like (unit == 47) (λ is. record { rest = rest; parts = ap (λ first. first ∷ rest) is }) (λ h. ap (λ (units : List ℕ). get_or units 0 0) h.parts) (Decides-eqb unit 47)
Decides-in_front (first ∷ front) [] = (λ is. absurd (false≢true is), λ h. absurd (let e = ap length h.parts in omega (arith, e)))
Decides-in_front (first ∷ front) (unit ∷ rest) =
    Decides-like (is_in_front (first ∷ front) (unit ∷ rest)) (λ h. record { rest = h.1.rest; parts = λ i. h.0 i ∷ h.1.parts i })
    (λ h. (ap (λ (units : List ℕ). get_or units 0 0) h.parts, record { rest = h.rest; parts = ap (drop 1) h.parts }))
    (Decides-and _ _ (Decides-eqb unit first) (Decides-in_front front rest))

-- a class in a package is
abbrev has_class_in_front : List Header → Name → Bool
has_class_in_front [] name = false
has_class_in_front (header ∷ headers) name = (has_unit 47 header.name && is_in_front header.name name) || has_class_in_front headers name

Decides-class_in_front : (headers : List Header) (name : Name) → Decides (has_class_in_front headers name) (HasClassInFront headers name)
Decides-class_in_front [] name = (λ is. absurd (false≢true is), λ h. absurd (let within = h.there.1 in omega arith))
Decides-class_in_front (header ∷ headers) name =
    Decides-like (has_class_in_front (header ∷ headers) name) to (λ h. from h.front h.rest h.parts h.packaged h.there)
    (Decides-or _ _ (Decides-and _ _ (Decides-unit 47 header.name) (Decides-in_front header.name name)) (Decides-class_in_front headers name))
  where
    to : (Contains header.name 47 × IsInFront header.name name) ⊎ HasClassInFront headers name → HasClassInFront (header ∷ headers) name
    to (inl here) = record { front = header.name; rest = here.1.rest; parts = here.1.parts; packaged = here.0; there = (0, omega arith, refl) }
    to (inr later) = record { front = later.front; rest = later.rest; parts = later.parts; packaged = later.packaged; there = (suc later.there.0, (let within = later.there.1 in omega (arith, within)), later.there.2) }

    from : (front rest : Name) → name ≡ front ++ 47 ∷ rest → Contains front 47 → Contains (names (header ∷ headers)) front → (Contains header.name 47 × IsInFront header.name name) ⊎ HasClassInFront headers name
    from front rest parts packaged (zero, within, is) =
        inl (subst (λ (n : Name). Contains n 47) (sym is) packaged, record { rest = rest; parts = parts ∙ ap (λ (n : Name). n ++ 47 ∷ rest) (sym is) })
    from front rest parts packaged (suc at, within, is) = inr (record { front = front; rest = rest; parts = parts; packaged = packaged; there = (at, omega (arith, within), is) })

-- where one holds the other does
Decides-implies : {P Q : Type 0} (first second : Bool) → Decides first P → Decides second Q → Decides (not first || second) (P → Q)
Decides-implies true second d k = (λ is p. k.0 is, λ f. k.1 (f (d.0 refl)))
Decides-implies false second d k = (λ is p. absurd (not_from_Decides false d refl p), λ f. refl)

module _ (headers : List Header) (members : List ClassMembers) (class : Name) where
  abbrev has_package : Name → Bool
  has_package name = has_unit 47 name

  -- the first segment is taken for a package
  abbrev is_taken : Name → Bool
  is_taken name = not (is_there headers (package_of class ++ first_segment name)) && not (is_there headers (codes "java/lang/" ++ first_segment name))

  Decides-taken : (name : Name) → Decides (is_taken name) (IsTakenForPackage headers class name)
  Decides-taken name =
      Decides-like (is_taken name) (λ h. record { none_beside = h.0; none_of_core = h.1 }) (λ h. (h.none_beside, h.none_of_core))
      (Decides-and _ _ (Decides-not _ (Decides-among (names headers) (package_of class ++ first_segment name))) (Decides-not _ (Decides-among (names headers) (codes "java/lang/" ++ first_segment name))))

  abbrev is_unobscured : Name → Bool
  is_unobscured name = is_sayable name && (not (declares headers class (first_segment name) headers members) && not (has_class_in_front headers name))

  Decides-unobscured : (name : Name) → Decides (is_unobscured name) (IsUnobscured headers members class name)
  Decides-unobscured name =
      Decides-like (is_unobscured name) (λ h. record { sayable = h.0; no_field = h.1.0; no_class = h.1.1 }) (λ h. (h.sayable, (h.no_field, h.no_class)))
      (Decides-and _ _ (Decides-sayable name)
      (Decides-and _ _ (Decides-not _ (Decides-in_scope headers members class (first_segment name))) (Decides-not _ (Decides-class_in_front headers name))))

  -- the text of the class can say a name
  abbrev says : Name → Bool
  says name = is_unobscured name && ((not (has_package name) || is_taken name) && (not (not (has_package name)) || not (has_package class)))

  Decides-said : (name : Name) → Decides (says name) (CanBeSaid headers members class name)
  Decides-said name =
      Decides-like (says name) (λ h. record { unobscured = h.0; packaged = h.1.0; unpackaged = h.1.1 }) (λ h. (h.unobscured, (h.packaged, h.unpackaged)))
      (Decides-and _ _ (Decides-unobscured name) (Decides-and _ _ (Decides-implies _ _ (Decides-unit 47 name) (Decides-taken name))
      (Decides-implies _ _ (Decides-not _ (Decides-unit 47 name)) (Decides-not _ (Decides-unit 47 class)))))

  -- tests that are right
  abbrev pub right_writing : Writing
  right_writing = record { can_say = λ name. is_there headers name && says name; can_name = is_identifier }

  pub writing_is_right : IsRight headers members class right_writing
  writing_is_right = record {
    says = λ name. (let d = Decides-and _ _ (Decides-among (names headers) name) (Decides-said name) in (d.0, d.1));
    spells = λ name. (let d = Decides-identifier name in (d.0, d.1));
  }
