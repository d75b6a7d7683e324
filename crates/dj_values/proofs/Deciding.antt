-- The tests of names, types, values and answers decide what they test.
use Rattle.std.proofs.Common.{◌≡◌, ◌↔◌, ◌⊎◌, ℕ, zero, suc, ◌≤◌, nat_eq, nat_le, leb-true, le-leb, Bool, true, false, not, ◌&&◌, ◌||◌, T, Decides, if◌then◌else◌, codes, ℤ, pos, ◌≤ℤ◌, int_le, int_eq, length, List, [], ◌∷◌, ◌++◌, Any, Contains, slice_index_or, Option, Some, None, option_map, option_to_list, is_none, IsNone, IsSomeAnd, refl, sym, ap, subst, ◌∙◌, inl, inr, arith}
use Rattle.std.specs.Prelude.{⊤}
use Rattle.std.specs.List.{list_any}
use Rattle.std.proofs.lemmas.Bool.{true≢false, false≢true}
use Rattle.std.proofs.lemmas.Bool.Decides.{Decides-eqb, Decides-int_eq, Decides-like, Decides-not, Decides-and, Decides-or}
use Rattle.std.proofs.lemmas.List.{nil_from_length}
use Rattle.std.proofs.lemmas.List.Elements.{Contains-append_left, Contains-append_right, Contains-append_cases}
use Rattle.std.proofs.lemmas.List.Folds.{Any-from_list_any, list_any-from_Any}
use Rattle.std.proofs.lemmas.Slice.Eq.{bytes_eq-Decides}
use Rattle.dj_names.specs.declared.header.Header.{Header}
use Rattle.dj_names.specs.Types as types
use Rattle.dj_names.specs.Types.{JType, Boolean, Byte, Char, Short, Float, Double, Class, Array, Field, Method}
use Rattle.dj_names.specs.Descriptors.{spell_type}
use Rattle.dj_names.specs.Headers.{Name, IsInterface, HasSuperclass, HasParent, IsPath, IsSubclass, Implements}
use Rattle.dj_names.specs.Assignable.{wider_types, IsReference, object_name, above_arrays, IsSubtype}
use Rattle.dj_names.proofs.AssignableLemmas.{GoesUp, Beyond, ways, plain_way, class_way, array_way}
use Rattle.dj_names.proofs.OneSpelling.{primitive}
use Rattle.dj_names.proofs.PathLemmas.{short_subclass, short_implements}
use Rattle.dj_values.specs.Values.{RefValue, Value, Int, Long, Null, Ref, Action, New, NewArray, GetField, PutField, GetStatic, PutStatic, ArrayLoad, ArrayStore, Invoke, ClassConstant, Enter, Exit, Trap, Answer, Given, Done, Thrown}
use Rattle.dj_values.specs.Fits.{int_range, class_of, element_of, IsArray, innermost, IsLengthOf, IsReferenceOf, IsValueOf, IsObject, throwable_name, IsThrowable}
use Rattle.dj_values.specs.Answers.{IsReferenceAnd, IsNewArray, IsArrayClone, IsResult, IsTrapped, MatchAnswer, Never, FitsAction}
use Rattle.dj_values.specs.Deciding.{is_name, is_type, is_some_and, is_array, is_reference, superclass_of, parents_of, reaches, is_subclass, implements, is_interface, is_own_or_wider, goes_up, is_subtype, is_length_of, is_reference_of, is_between, is_value_of, is_reference_and, is_object, is_throwable, is_new_array, is_array_clone, is_result, match_answer, never, is_answer}

-- ---- tests put together

Decides-true : Decides true ⊤
Decides-true = (λ is. tt, λ h. refl)

Decides-false : Decides false ⊥
Decides-false = (λ is. false≢true is, λ h. absurd h)

Decides-implies : {P Q : Type 0} (x y : Bool) → Decides x P → Decides y Q → Decides (not x || y) (P → Q)
Decides-implies true y p q = (λ is h. q.0 is, λ f. q.1 (f (p.0 refl)))
Decides-implies false y p q = (λ is h. absurd (false≢true (p.1 h)), λ f. refl)

Decides-at_most : (m n : ℕ) → Decides (nat_le m n) (m ≤ n)
Decides-at_most m n = (leb-true m n, le-leb m n)

T_from_true : (test : Bool) → test ≡ true → T test
T_from_true test is = subst T (sym is) tt

true_from_T : (test : Bool) → T test → test ≡ true
true_from_T true h = refl
true_from_T false h = absurd h

Decides-int_le : (a b : ℤ) → Decides (int_le a b) (a ≤ℤ b)
Decides-int_le a b = (λ is. record { le = T_from_true (int_le a b) is }, λ h. true_from_T (int_le a b) h.le)

Decides-some_and : {A : Type 0} (found : Option A) (test : A → Bool) (P : A → Type 0) → ((x : A) → Decides (test x) (P x)) → Decides (is_some_and found test) (IsSomeAnd found P)
Decides-some_and None test P each = Decides-false
Decides-some_and (Some x) test P each = each x

Any-map : {A : Type 0} (P Q : A → Type 0) (xs : List A) → ((x : A) → P x → Q x) → Any P xs → Any Q xs
Any-map P Q xs f (k, x, within, is, h) = (k, x, within, is, f x h)

Decides-any : {A : Type 0} (test : A → Bool) (P : A → Type 0) (xs : List A) → ((x : A) → Decides (test x) (P x)) → Decides (list_any test xs) (Any P xs)
Decides-any test P xs each = (
  λ is. Any-map (λ x. test x ≡ true) P xs (λ x. (each x).0) (Any-from_list_any test xs is),
  λ some. list_any-from_Any test xs (Any-map P (λ x. test x ≡ true) xs (λ x. (each x).1) some),
)

Contains-from_any : {A : Type 0} (xs : List A) (y : A) → Any (λ x. x ≡ y) xs → Contains xs y
Contains-from_any xs y (k, x, within, is, same) = (k, within, subst (λ z. slice_index_or xs k z ≡ z) same is)

Any-from_contains : {A : Type 0} (xs : List A) (y : A) → Contains xs y → Any (λ x. x ≡ y) xs
Any-from_contains xs y (k, within, is) = (k, y, within, is, refl)

Decides-among : {A : Type 0} (test : A → A → Bool) → ((x y : A) → Decides (test x y) (x ≡ y)) → (xs : List A) (y : A) → Decides (list_any (λ x. test x y) xs) (Contains xs y)
Decides-among test each xs y =
    Decides-like (list_any (λ x. test x y) xs) (Contains-from_any xs y) (Any-from_contains xs y) (Decides-any (λ x. test x y) (λ x. x ≡ y) xs (λ x. each x y))

-- ---- names and types

pub Decides-name : (first second : List ℕ) → Decides (is_name first second) (first ≡ second)
Decides-name = bytes_eq-Decides

-- all but the last
abbrev front : List ℕ → List ℕ
front [] = []
front (unit ∷ []) = []
front (unit ∷ next ∷ units) = unit ∷ front (next ∷ units)

front-push : (units : List ℕ) (last : ℕ) → front (units ++ last ∷ []) ≡ units
front-push [] last = refl
front-push (unit ∷ []) last = refl
front-push (unit ∷ next ∷ units) last = ap (λ list. unit ∷ list) (front-push (next ∷ units) last)

-- the type that units spell
abbrev spelled : List ℕ → Option JType
spelled [] = None
spelled (unit ∷ units) =
    if nat_eq unit 91 then option_map Array (spelled units) else (if nat_eq unit 76 then Some (Class (front units)) else primitive unit)

spelled-spell : (type : JType) → spelled (spell_type type) ≡ Some type
spelled-spell Boolean = refl
spelled-spell Byte = refl
spelled-spell Char = refl
spelled-spell Short = refl
spelled-spell types.Int = refl
spelled-spell types.Long = refl
spelled-spell Float = refl
spelled-spell Double = refl
spelled-spell (Class name) = ap (λ units. Some (Class units)) (front-push name 59)
spelled-spell (Array element) = ap (option_map Array) (spelled-spell element)

one_type : (first second : JType) → spell_type first ≡ spell_type second → first ≡ second
one_type first second same =
    let e : Some first ≡ Some second = sym (spelled-spell first) ∙ ap spelled same ∙ spelled-spell second in cc

Decides-type : (first second : JType) → Decides (is_type first second) (first ≡ second)
Decides-type first second =
    Decides-like (is_type first second) (one_type first second) (ap spell_type) (Decides-name (spell_type first) (spell_type second))

class_is : (P : List ℕ → Type 0) (type : JType) → IsSomeAnd (class_of type) P → (name : List ℕ) × (type ≡ Class name) × P name
class_is P Boolean h = absurd h
class_is P Byte h = absurd h
class_is P Char h = absurd h
class_is P Short h = absurd h
class_is P types.Int h = absurd h
class_is P types.Long h = absurd h
class_is P Float h = absurd h
class_is P Double h = absurd h
class_is P (Class name) h = (name, refl, h)
class_is P (Array element) h = absurd h

element_is : (P : JType → Type 0) (type : JType) → IsSomeAnd (element_of type) P → (element : JType) × (type ≡ Array element) × P element
element_is P Boolean h = absurd h
element_is P Byte h = absurd h
element_is P Char h = absurd h
element_is P Short h = absurd h
element_is P types.Int h = absurd h
element_is P types.Long h = absurd h
element_is P Float h = absurd h
element_is P Double h = absurd h
element_is P (Class name) h = absurd h
element_is P (Array element) h = (element, refl, h)

-- a class's name passes a test
Decides-class : (test : List ℕ → Bool) (P : List ℕ → Type 0) → ((name : List ℕ) → Decides (test name) (P name)) → (type : JType) → Decides (is_some_and (class_of type) test) ((name : List ℕ) × (type ≡ Class name) × P name)
Decides-class test P each type =
    Decides-like (is_some_and (class_of type) test) (class_is P type) (λ h. subst (λ t. IsSomeAnd (class_of t) P) (sym h.1) h.2) (Decides-some_and (class_of type) test P each)

-- an array's elements pass a test
Decides-element : (test : JType → Bool) (P : JType → Type 0) → ((element : JType) → Decides (test element) (P element)) → (type : JType) → Decides (is_some_and (element_of type) test) ((element : JType) × (type ≡ Array element) × P element)
Decides-element test P each type =
    Decides-like (is_some_and (element_of type) test) (element_is P type) (λ h. subst (λ t. IsSomeAnd (element_of t) P) (sym h.1) h.2) (Decides-some_and (element_of type) test P each)

Decides-reference : (type : JType) → Decides (is_reference type) (IsReference type)
Decides-reference Boolean = Decides-false
Decides-reference Byte = Decides-false
Decides-reference Char = Decides-false
Decides-reference Short = Decides-false
Decides-reference types.Int = Decides-false
Decides-reference types.Long = Decides-false
Decides-reference Float = Decides-false
Decides-reference Double = Decides-false
Decides-reference (Class name) = Decides-true
Decides-reference (Array element) = Decides-true

Decides-array : (type : JType) → Decides (is_array type) (IsArray type)
Decides-array type = (λ is. is, λ is. is)

-- ---- paths

module _ (headers : List Header) (named : Header → List Name) (Step : Name → Name → Type 0)
    (is_step : (lower next : Name) → Step lower next ↔ Any (λ header. (header.name ≡ lower) × Contains (named header) next) headers) where
  -- what the test goes through
  abbrev Within : ℕ → Name → Name → Type 0
  Within zero lower upper = lower ≡ upper
  Within (suc most) lower upper = (lower ≡ upper) ⊎ Any (λ header. (header.name ≡ lower) × Any (λ next. Within most next upper) (named header)) headers

  Decides-within : (most : ℕ) (lower upper : Name) → Decides (reaches named headers most lower upper) (Within most lower upper)
  Decides-within zero lower upper = Decides-name lower upper
  Decides-within (suc most) lower upper =
      Decides-or _ _ (Decides-name lower upper)
      (Decides-any _ _ headers (λ header. Decides-and _ _ (Decides-name header.name lower) (Decides-any _ _ (named header) (λ next. Decides-within most next upper))))

  path_from : (most : ℕ) (lower upper : Name) → Within most lower upper → (path : List Name) × IsPath Step lower path upper
  path_from zero lower upper same = ([], same)
  path_from (suc most) lower upper (inl same) = ([], same)
  path_from (suc most) lower upper (inr (k, header, within, is, (below, (j, next, inside, at, rest)))) =
      let path = path_from most next upper rest in
      (next ∷ path.0, ((is_step lower next).1 (k, header, within, is, (below, (j, inside, at))), path.1))

  within_path : (most : ℕ) (lower upper : Name) (path : List Name) → length path ≤ most → IsPath Step lower path upper → Within most lower upper
  within_path zero lower upper [] short same = same
  within_path (suc most) lower upper [] short same = inl same
  within_path zero lower upper (next ∷ path) short steps = absurd (omega arith)
  within_path (suc most) lower upper (next ∷ path) short steps =
      let rest = within_path most next upper path (omega arith) steps.1 in
      inr (Any-map (λ header. (header.name ≡ lower) × Contains (named header) next) (λ header. (header.name ≡ lower) × Any (λ further. Within most further upper) (named header)) headers
      (λ header h. (h.0, (h.1.0, next, h.1.1, h.1.2, rest))) ((is_step lower next).0 steps.0))

one_there : {A : Type 0} (found : Option A) (x : A) → (found ≡ Some x) ↔ Contains (option_to_list found) x
one_there {A = A} found x = (there found, only found)
  where
    there : (found : Option A) → found ≡ Some x → Contains (option_to_list found) x
    there None is = cc
    there (Some y) is = (0, omega arith, cc)

    only : (found : Option A) → Contains (option_to_list found) x → found ≡ Some x
    only None (k, within, is) = absurd (omega arith)
    only (Some y) (zero, within, is) = ap Some is
    only (Some y) (suc k, within, is) = absurd (omega arith)

superclass_step : (headers : List Header) (lower next : Name) → HasSuperclass headers lower next ↔ Any (λ header. (header.name ≡ lower) × Contains (superclass_of header) next) headers
superclass_step headers lower next = (
  Any-map _ _ headers (λ header h. (h.0, (one_there header.superclass next).0 h.1)),
  Any-map _ _ headers (λ header h. (h.0, (one_there header.superclass next).1 h.1)),
)

parent_step : (headers : List Header) (lower next : Name) → HasParent headers lower next ↔ Any (λ header. (header.name ≡ lower) × Contains (parents_of header) next) headers
parent_step headers lower next = (up, down)
  where
    up : HasParent headers lower next → Any (λ header. (header.name ≡ lower) × Contains (parents_of header) next) headers
    up (inl super) = Any-map _ _ headers (λ header h. (h.0, Contains-append_left (superclass_of header) header.interfaces next ((one_there header.superclass next).0 h.1))) super
    up (inr interface) = Any-map _ _ headers (λ header h. (h.0, Contains-append_right (superclass_of header) header.interfaces next h.1)) interface

    down : Any (λ header. (header.name ≡ lower) × Contains (parents_of header) next) headers → HasParent headers lower next
    down (k, header, within, is, (below, among)) =
        elim (Contains-append_cases (superclass_of header) header.interfaces next among) [
          | inl super ↦ inl (k, header, within, is, (below, (one_there header.superclass next).1 super))
          | inr interface ↦ inr (k, header, within, is, (below, interface))
        ]

pub Decides-subclass : (headers : List Header) (lower upper : Name) → Decides (is_subclass headers lower upper) (IsSubclass headers lower upper)
Decides-subclass headers lower upper =
    Decides-like (is_subclass headers lower upper)
    (λ within. let path = path_from headers superclass_of (HasSuperclass headers) (superclass_step headers) (length headers) lower upper within in record { path = path.0; is_path = path.1 })
    (λ above. let s = short_subclass headers lower upper above in within_path headers superclass_of (HasSuperclass headers) (superclass_step headers) (length headers) lower upper s.path s.short s.is_path)
    (Decides-within headers superclass_of (HasSuperclass headers) (superclass_step headers) (length headers) lower upper)

pub Decides-implements : (headers : List Header) (lower upper : Name) → Decides (implements headers lower upper) (Implements headers lower upper)
Decides-implements headers lower upper =
    Decides-like (implements headers lower upper)
    (λ within. let path = path_from headers parents_of (HasParent headers) (parent_step headers) (length headers) lower upper within in record { path = path.0; is_path = path.1 })
    (λ above. let s = short_implements headers lower upper above in within_path headers parents_of (HasParent headers) (parent_step headers) (length headers) lower upper s.path s.short s.is_path)
    (Decides-within headers parents_of (HasParent headers) (parent_step headers) (length headers) lower upper)

-- ---- which types go where

Decides-interface : (headers : List Header) (class : Name) → Decides (is_interface headers class) (IsInterface headers class)
Decides-interface headers class =
    Decides-any _ _ headers (λ header. Decides-and _ _ (Decides-name header.name class) (Decides-not _ (Decides-eqb _ 0)))

Decides-own_or_wider : (from to : JType) → Decides (is_own_or_wider from to) ((from ≡ to) ⊎ Contains (wider_types from) to)
Decides-own_or_wider from to = Decides-or _ _ (Decides-type from to) (Decides-among is_type Decides-type (wider_types from) to)

Decides-goes_up : (headers : List Header) (from to : Name) → Decides (goes_up headers from to) (GoesUp headers from to)
Decides-goes_up headers from to =
    Decides-or _ _ (Decides-implements headers from to) (Decides-and _ _ (Decides-interface headers from) (Decides-name to object_name))

-- a type that goes to no other but wider numbers
plain_subtype : (headers : List Header) (from to : JType) → (Beyond headers from to → ⊥) → Decides (is_own_or_wider from to) (IsSubtype headers from to)
plain_subtype headers from to none =
    Decides-like (is_own_or_wider from to) (plain_way headers from to)
    (λ goes. elim (ways headers from to goes) [ inl plain ↦ plain | inr beyond ↦ absurd (none beyond) ]) (Decides-own_or_wider from to)

pub Decides-subtype : (headers : List Header) (from to : JType) → Decides (is_subtype headers from to) (IsSubtype headers from to)
Decides-subtype headers Boolean to = plain_subtype headers Boolean to (λ none. none)
Decides-subtype headers Byte to = plain_subtype headers Byte to (λ none. none)
Decides-subtype headers Char to = plain_subtype headers Char to (λ none. none)
Decides-subtype headers Short to = plain_subtype headers Short to (λ none. none)
Decides-subtype headers types.Int to = plain_subtype headers types.Int to (λ none. none)
Decides-subtype headers types.Long to = plain_subtype headers types.Long to (λ none. none)
Decides-subtype headers Float to = plain_subtype headers Float to (λ none. none)
Decides-subtype headers Double to = plain_subtype headers Double to (λ none. none)
Decides-subtype headers (Class from) to =
    Decides-like (is_subtype headers (Class from) to)
    (λ way. elim way [ inl plain ↦ plain_way headers (Class from) to plain | inr beyond ↦ class_way headers from to beyond ]) (ways headers (Class from) to)
    (Decides-or _ _ (Decides-own_or_wider (Class from) to) (Decides-class _ _ (Decides-goes_up headers from) to))
Decides-subtype headers (Array from) to =
    Decides-like (is_subtype headers (Array from) to)
    (λ way. elim way [ inl plain ↦ plain_way headers (Array from) to plain | inr beyond ↦ array_way headers from to beyond ]) (ways headers (Array from) to)
    (Decides-or _ _ (Decides-own_or_wider (Array from) to)
    (Decides-or _ _ (Decides-and _ _ (Decides-reference from) (Decides-element _ _ (Decides-subtype headers from) to))
    (Decides-class _ _ (Decides-among is_name Decides-name above_arrays) to)))

-- ---- values

Decides-length : (class : JType) (length : ℕ) → Decides (is_length_of class length) (IsLengthOf class length)
Decides-length Boolean length = Decides-false
Decides-length Byte length = Decides-false
Decides-length Char length = Decides-false
Decides-length Short length = Decides-false
Decides-length types.Int length = Decides-false
Decides-length types.Long length = Decides-false
Decides-length Float length = Decides-false
Decides-length Double length = Decides-false
Decides-length (Class name) length = Decides-eqb length 0
Decides-length (Array element) length = Decides-at_most length 2147483647

Decides-reference_of : (headers : List Header) (type : JType) (reference : RefValue) → Decides (is_reference_of headers type reference) (IsReferenceOf headers type reference)
Decides-reference_of headers type reference =
    let class = reference.class in
    let to_object = λ (from : JType). Decides-subtype headers from (Class object_name) in
    Decides-like (is_reference_of headers type reference)
    (λ h. record { wanted = h.0.0.0.0; length = h.0.0.0.1; assignable = h.0.0.1; object = h.0.1; elements = h.1 })
    (λ r. ((((r.wanted, r.length), r.assignable), r.object), r.elements))
    (Decides-and _ _ (Decides-and _ _ (Decides-and _ _ (Decides-and _ _ (Decides-reference type) (Decides-length class reference.length)) (Decides-subtype headers class type)) (to_object class))
    (Decides-implies _ _ (Decides-reference (innermost class)) (to_object (innermost class))))

Decides-between : (least greatest number : ℤ) → Decides (is_between least greatest number) ((least ≤ℤ number) × (number ≤ℤ greatest))
Decides-between least greatest number = Decides-and _ _ (Decides-int_le least number) (Decides-int_le number greatest)

pub Decides-value : (headers : List Header) (type : JType) (value : Value) → Decides (is_value_of headers type value) (IsValueOf headers type value)
Decides-value headers type (Int number) = Decides-some_and (int_range type) _ _ (λ range. Decides-between range.0 range.1 number)
Decides-value headers type (Long number) =
    Decides-like (is_value_of headers type (Long number)) (λ h. (h.0, h.1.0, h.1.1)) (λ h. (h.0, (h.1, h.2)))
    (Decides-and _ _ (Decides-type type types.Long) (Decides-between _ _ number))
Decides-value headers type Null = Decides-reference type
Decides-value headers type (Ref reference) = Decides-reference_of headers type reference

-- ---- answers

Decides-reference_and : {test : RefValue → Bool} {Is : RefValue → Type 0} → ((reference : RefValue) → Decides (test reference) (Is reference)) → (value : Value) → Decides (is_reference_and test value) (IsReferenceAnd Is value)
Decides-reference_and each (Int number) = Decides-false
Decides-reference_and each (Long number) = Decides-false
Decides-reference_and each Null = Decides-false
Decides-reference_and each (Ref reference) = each reference

Decides-object : (class : List ℕ) (reference : RefValue) → Decides (is_object class reference) (IsObject class reference)
Decides-object class reference =
    Decides-like (is_object class reference) (λ h. record { exact = h.0; length = h.1 }) (λ o. (o.exact, o.length))
    (Decides-and _ _ (Decides-type reference.class (Class class)) (Decides-eqb reference.length 0))

Decides-throwable : (headers : List Header) (reference : RefValue) → Decides (is_throwable headers reference) (IsThrowable headers reference)
Decides-throwable headers reference =
    Decides-like (is_throwable headers reference)
    (λ h. record { class = h.0.0; object = record { exact = h.0.1; length = h.1 }; below = h.0.2 }) (λ t. ((t.class, t.object.exact, t.below), t.object.length))
    (Decides-and _ _ (Decides-class _ _ (λ class. Decides-subclass headers class throwable_name) reference.class) (Decides-eqb reference.length 0))

Decides-size : (length : ℕ) (size : Option ℤ) → Decides (is_some_and size (λ first. int_eq first (pos length))) (size ≡ Some (pos length))
Decides-size length None = (λ is. absurd (false≢true is), λ is. cc)
Decides-size length (Some size) = Decides-like (int_eq size (pos length)) (ap Some) (λ is. cc) (Decides-int_eq size (pos length))

Decides-new_array : (type : JType) (sizes : List ℤ) (reference : RefValue) → Decides (is_new_array type sizes reference) (IsNewArray type sizes reference)
Decides-new_array type sizes reference =
    Decides-like (is_new_array type sizes reference)
    (λ h. record { array = h.0.0.0; exact = h.0.0.1; length = h.0.1; most = h.1 }) (λ a. (((a.array, a.exact), a.length), a.most))
    (Decides-and _ _ (Decides-and _ _ (Decides-and _ _ (Decides-array type) (Decides-type reference.class type)) (Decides-size reference.length _)) (Decides-at_most reference.length 2147483647))

Decides-array_clone : (owner : JType) (name : List ℕ) (parameters : List JType) → Decides (is_array_clone owner name parameters) (IsArrayClone owner name parameters)
Decides-array_clone owner name parameters =
    Decides-like (is_array_clone owner name parameters)
    (λ h. record { array = h.0.0; clone = h.0.1; alone = nil_from_length parameters h.1 }) (λ c. ((c.array, c.clone), ap length c.alone))
    (Decides-and _ _ (Decides-and _ _ (Decides-array owner) (Decides-name name (codes "clone"))) (Decides-eqb (length parameters) 0))

Decides-result : (headers : List Header) (owner : JType) (name : List ℕ) (parameters : List JType) (result : Option JType) (value : Value) → Decides (is_result headers owner name parameters result value) (IsResult headers owner name parameters result value)
Decides-result headers owner name parameters result value =
    Decides-like (is_result headers owner name parameters result value) (λ h. record { of_result = h.0; of_clone = h.1 }) (λ r. (r.of_result, r.of_clone))
    (Decides-and _ _ (Decides-some_and result _ _ (λ type. Decides-value headers type value))
    (Decides-implies _ _ (Decides-array_clone owner name parameters) (Decides-reference_and (Decides-reference_of headers owner) value)))

Decides-none : (result : Option JType) → Decides (is_none result) (IsNone result)
Decides-none None = (λ is. refl, λ is. refl)
Decides-none (Some type) = (λ is. absurd (false≢true is), λ is. absurd (true≢false is))

Decides-trapped : (headers : List Header) (class : List ℕ) (reference : RefValue) → Decides (is_throwable headers reference && is_type reference.class (Class class)) (IsTrapped headers class reference)
Decides-trapped headers class reference =
    Decides-like (is_throwable headers reference && is_type reference.class (Class class)) (λ h. record { throwable = h.0; exact = h.1 }) (λ t. (t.throwable, t.exact))
    (Decides-and _ _ (Decides-throwable headers reference) (Decides-type reference.class (Class class)))

Decides-never : {A : Type 0} (answer : A) → Decides (never answer) (Never answer)
Decides-never answer = Decides-false

Decides-match : {given : Value → Bool} {done : Bool} {thrown : RefValue → Bool} {OnValue : Value → Type 0} {OnDone : Type 0} {OnThrown : RefValue → Type 0} → ((value : Value) → Decides (given value) (OnValue value)) → Decides done OnDone → ((reference : RefValue) → Decides (thrown reference) (OnThrown reference)) → (answer : Answer)
    → Decides (match_answer answer given done thrown) (MatchAnswer answer OnValue OnDone OnThrown)
Decides-match on_value on_done on_thrown (Given value) = on_value value
Decides-match on_value on_done on_thrown Done = on_done
Decides-match on_value on_done on_thrown (Thrown reference) = on_thrown reference

pub Decides-answer : (headers : List Header) (action : Action) (answer : Answer) → Decides (is_answer headers action answer) (FitsAction headers action answer)
Decides-answer headers (New class) answer = Decides-match (Decides-reference_and (Decides-object class)) Decides-false (Decides-throwable headers) answer
Decides-answer headers (NewArray type sizes) answer =
    Decides-match (Decides-reference_and (Decides-new_array type sizes)) Decides-false (Decides-throwable headers) answer
Decides-answer headers (GetField reference class name type) answer = Decides-match (Decides-value headers type) Decides-false Decides-never answer
Decides-answer headers (PutField reference class name type value) answer = Decides-match Decides-never Decides-true Decides-never answer
Decides-answer headers (GetStatic class name type) answer = Decides-match (Decides-value headers type) Decides-false (Decides-throwable headers) answer
Decides-answer headers (PutStatic class name type value) answer = Decides-match Decides-never Decides-true (Decides-throwable headers) answer
Decides-answer headers (ArrayLoad reference index) answer =
    Decides-match (λ value. Decides-some_and (element_of reference.class) _ _ (λ element. Decides-value headers element value)) Decides-false Decides-never answer
Decides-answer headers (ArrayStore reference index value) answer = Decides-match Decides-never Decides-true Decides-never answer
Decides-answer headers (Invoke kind owner name (Field type) values) answer = Decides-false
Decides-answer headers (Invoke kind owner name (Method parameters result) values) answer =
    Decides-match (Decides-result headers owner name parameters result) (Decides-none result) (Decides-throwable headers) answer
Decides-answer headers (ClassConstant type) answer =
    Decides-match (Decides-reference_and (Decides-object (codes "java/lang/Class"))) Decides-false (Decides-throwable headers) answer
Decides-answer headers (Enter reference) answer = Decides-match Decides-never Decides-true Decides-never answer
Decides-answer headers (Exit reference) answer = Decides-match Decides-never Decides-true Decides-never answer
Decides-answer headers (Trap class) answer = Decides-match Decides-never Decides-false (Decides-trapped headers class) answer
