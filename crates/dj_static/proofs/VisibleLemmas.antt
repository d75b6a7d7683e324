-- The tests of inheritance, access and sight decide what they test.
use Rattle.std.proofs.Common.{◌≡◌, ◌≢◌, ℕ, zero, suc, Bool, true, false, not, ◌&&◌, ◌||◌, Decides, if◌then◌else◌, length, List, [], ◌∷◌, map, Any, Option, Some, None, refl, sym, ap, subst, ◌∙◌, arith}
use Rattle.std.specs.Prelude.{◌==◌, IfSome, option_to_list, bit_and}
use Rattle.std.specs.List.{list_any}
use Rattle.std.proofs.lemmas.Bool.{false≢true}
use Rattle.std.proofs.lemmas.Bool.Decides.{Decides-eqb, Decides-like, Decides-not, Decides-and, Decides-or, Decides-at}
use Rattle.std.proofs.lemmas.List.{length-map}
use Rattle.std.proofs.lemmas.List.Folds.{Any-from_list_any, list_any-from_Any}
use Rattle.dj_names.specs.declared.header.Header.{Header}
use Rattle.dj_names.specs.declared.members.MethodHead.{MethodHead}
use Rattle.dj_names.specs.Headers.{Name, IsInterface, HasSuperclass, IsPath}
use Rattle.dj_names.specs.Types.{JType, Boolean, Byte, Char, Short, Int, Long, Float, Double, Class, Array, view_descriptor}
use Rattle.dj_names.specs.Assignable.{object_name}
use Rattle.dj_values.specs.Deciding.{is_name, superclass_of, reaches, is_subclass, is_interface}
use Rattle.dj_values.proofs.Deciding.{Decides-name, Decides-subclass}
use Rattle.dj_kinds.specs.Access.{package_of, IsBelow, AllowsBelow, Allows}
use Rattle.dj_kinds.specs.Inherited.{HasSuperclassInPackage, InheritsInPackage, IsInherited}
use Rattle.dj_kinds.specs.Own.{is_false_constructor, IsSeen}
use Rattle.dj_meaning.specs.Members.{view_method, is_public, is_private, is_protected, is_of_class}
use Rattle.dj_meaning.specs.Visible.{is_in_package, superclass_in_package, is_inherited, is_none_or, is_below, allows_below, allows}
use Rattle.dj_meaning.specs.Calls.{is_seen}

-- ---- lists and tests

Any-map : {A : Type 0} (P Q : A → Type 0) (xs : List A) → ((x : A) → P x → Q x) → Any P xs → Any Q xs
Any-map P Q xs f (k, x, within, is, h) = (k, x, within, is, f x h)

Decides-any : {A : Type 0} (test : A → Bool) (P : A → Type 0) (xs : List A) → ((x : A) → Decides (test x) (P x)) → Decides (list_any test xs) (Any P xs)
Decides-any test P xs each = (
  λ is. Any-map (λ x. test x ≡ true) P xs (λ x. (each x).0) (Any-from_list_any test xs is),
  λ some. list_any-from_Any test xs (Any-map P (λ x. test x ≡ true) xs (λ x. (each x).1) some),
)

or_right : (a b c d : Bool) → (a || b || c || d) ≡ (a || (b || (c || d)))
or_right true b c d = refl
or_right false true c d = refl
or_right false false true d = refl
or_right false false false d = refl

-- ---- flags and interfaces

-- a flag is set or isn't
pub Decides-flag : (flags flag : ℕ) → Decides (not (bit_and flags flag == 0)) (bit_and flags flag ≢ 0)
Decides-flag flags flag = Decides-not (bit_and flags flag == 0) (Decides-eqb (bit_and flags flag) 0)

pub Decides-interface : (headers : List Header) (class : Name) → Decides (is_interface headers class) (IsInterface headers class)
Decides-interface headers class =
    Decides-any _ _ headers (λ header. Decides-and _ _ (Decides-name header.name class) (Decides-not _ (Decides-eqb _ 0)))

-- ---- inheritance in a package

-- a header that names its superclass only where its class is of a package
abbrev in_package : Name → Header → Header
in_package owner header = record { name = header.name; superclass = if is_in_package owner header.name then header.superclass else None; interfaces = header.interfaces; flags = header.flags }

any-map : {A B : Type 0} (test : B → Bool) (f : A → B) (xs : List A) → list_any test (map f xs) ≡ list_any (λ x. test (f x)) xs
any-map test f [] = refl
any-map test f (x ∷ xs) = ap (λ b. test (f x) || b) (any-map test f xs)

any-same : {A : Type 0} (first second : A → Bool) → ((x : A) → first x ≡ second x) → (xs : List A) → list_any first xs ≡ list_any second xs
any-same first second same [] = refl
any-same first second same (x ∷ xs) = ap (λ b. b || list_any first xs) (same x) ∙ ap (λ b. second x || b) (any-same first second same xs)

option_if : {A : Type 0} (b : Bool) (found : Option A) → (if b then option_to_list found else []) ≡ option_to_list (if b then found else None)
option_if true found = refl
option_if false found = refl

reaches-in_package : (owner : Name) (headers : List Header) (most : ℕ) (lower upper : Name)
    → reaches (superclass_in_package owner) headers most lower upper ≡ reaches superclass_of (map (in_package owner) headers) most lower upper
reaches-in_package owner headers zero lower upper = refl
reaches-in_package owner headers (suc most) lower upper =
    ap (λ b. is_name lower upper || b)
    (any-same _ (λ header. is_name header.name lower && list_any (λ next. reaches superclass_of (map (in_package owner) headers) most next upper) (superclass_of (in_package owner header)))
    (λ header. ap (λ b. is_name header.name lower && b)
    (ap (λ xs. list_any (λ next. reaches (superclass_in_package owner) headers most next upper) xs) (option_if (is_in_package owner header.name) header.superclass)
    ∙ any-same _ (λ next. reaches superclass_of (map (in_package owner) headers) most next upper) (λ next. reaches-in_package owner headers most next upper) (superclass_of (in_package owner header))))
    headers ∙ sym (any-map (λ (header : Header). is_name header.name lower && list_any (λ next. reaches superclass_of (map (in_package owner) headers) most next upper) (superclass_of header)) (in_package owner) headers))

pub any_from_map : {A B : Type 0} (P : B → Type 0) (f : A → B) (xs : List A) → Any P (map f xs) → Any (λ x. P (f x)) xs
any_from_map P f [] (k, x, within, is, h) = absurd (omega arith)
any_from_map P f (y ∷ ys) (zero, x, within, is, h) = (0, y, omega arith, refl, subst P (sym is) h)
any_from_map P f (y ∷ ys) (suc k, x, within, is, h) = let rest = any_from_map P f ys (k, x, omega arith, is, h) in (suc rest.0, rest.1, omega (arith, rest.2), rest.3, rest.4)

pub any_to_map : {A B : Type 0} (P : B → Type 0) (f : A → B) (xs : List A) → Any (λ x. P (f x)) xs → Any P (map f xs)
any_to_map P f [] (k, x, within, is, h) = absurd (omega arith)
any_to_map P f (y ∷ ys) (zero, x, within, is, h) = (0, f x, omega arith, ap f is, h)
any_to_map P f (y ∷ ys) (suc k, x, within, is, h) = let rest = any_to_map P f ys (k, x, omega arith, is, h) in (suc rest.0, rest.1, omega (arith, rest.2), rest.3, rest.4)

pub kept_some : {A : Type 0} (b : Bool) (found : Option A) (x : A) → (if b then found else None) ≡ Some x → (b ≡ true) × (found ≡ Some x)
kept_some true found x is = (refl, is)
kept_some false found x is = cc

pub some_kept : {A : Type 0} (b : Bool) (found : Option A) (x : A) → b ≡ true → found ≡ Some x → (if b then found else None) ≡ Some x
some_kept true found x holds is = is
some_kept false found x holds is = cc

module _ (headers : List Header) (owner : Name) where
  step_to : (lower upper : Name) → HasSuperclass (map (in_package owner) headers) lower upper → HasSuperclassInPackage headers owner lower upper
  step_to lower upper up =
      let found = any_from_map (λ (header : Header). (header.name ≡ lower) × (header.superclass ≡ Some upper)) (in_package owner) headers up in
      let kept = kept_some (is_in_package owner found.1.name) found.1.superclass upper found.4.1 in
      ((found.0, found.1, found.2, found.3, (found.4.0, kept.1)), ap package_of (sym found.4.0) ∙ sym ((Decides-name (package_of owner) (package_of found.1.name)).0 kept.0))

  step_back : (lower upper : Name) → HasSuperclassInPackage headers owner lower upper → HasSuperclass (map (in_package owner) headers) lower upper
  step_back lower upper ((k, header, within, is, named), inside) =
      any_to_map (λ (header : Header). (header.name ≡ lower) × (header.superclass ≡ Some upper)) (in_package owner) headers (
        k,
        header,
        within,
        is,
        (
          named.0,
          some_kept (is_in_package owner header.name) header.superclass upper
              ((Decides-name (package_of owner) (package_of header.name)).1 (sym (ap package_of named.0 ∙ inside))) named.1,
        ),
      )

  path_to : (class : Name) (path : List Name) → IsPath (HasSuperclass (map (in_package owner) headers)) class path owner → IsPath (HasSuperclassInPackage headers owner) class path owner
  path_to class [] same = same
  path_to class (next ∷ path) (up, rest) = (step_to class next up, path_to next path rest)

  path_back : (class : Name) (path : List Name) → IsPath (HasSuperclassInPackage headers owner) class path owner → IsPath (HasSuperclass (map (in_package owner) headers)) class path owner
  path_back class [] same = same
  path_back class (next ∷ path) (up, rest) = (step_back class next up, path_back next path rest)

  pub Decides-in_package : (class : Name) → Decides (reaches (superclass_in_package owner) headers (length headers) class owner) (InheritsInPackage headers owner class)
  Decides-in_package class =
      Decides-at _ _ (reaches-in_package owner headers (length headers) class owner ∙ ap (λ n. reaches superclass_of (map (in_package owner) headers) n class owner) (sym (length-map headers (in_package owner))))
      (Decides-like (is_subclass (map (in_package owner) headers) class owner)
      (λ above. record { path = above.path; is_path = path_to class above.path above.is_path })
      (λ inside. record { path = inside.path; is_path = path_back class inside.path inside.is_path })
      (Decides-subclass (map (in_package owner) headers) class owner))

-- a class has a member that another declares with these flags
pub Decides-inherited : (headers : List Header) (class owner : Name) (flags : ℕ) → Decides (is_inherited headers class owner flags) (IsInherited headers class owner flags)
Decides-inherited headers class owner flags =
    Decides-at _ _
    (or_right (is_name class owner) (is_public flags) (is_protected flags && is_subclass headers class owner) (not (is_private flags) && reaches (superclass_in_package owner) headers (length headers) class owner))
    (Decides-or _ _ (Decides-name class owner) (Decides-or _ _ (Decides-flag flags 1)
    (Decides-or _ _ (Decides-and _ _ (Decides-flag flags 4) (Decides-subclass headers class owner))
    (Decides-and _ _ (Decides-not _ (Decides-flag flags 2)) (Decides-in_package headers owner class)))))

-- ---- access

Decides-never : Decides false ⊥
Decides-never = (λ is. false≢true is, λ h. absurd h)

or_false : (a : Bool) → (a || false) ≡ a
or_false true = refl
or_false false = refl

Decides-below : (headers : List Header) (class : Name) (type : JType) → Decides (is_below headers class type) (IsBelow headers class type)
Decides-below headers class Boolean = Decides-never
Decides-below headers class Byte = Decides-never
Decides-below headers class Char = Decides-never
Decides-below headers class Short = Decides-never
Decides-below headers class Int = Decides-never
Decides-below headers class Long = Decides-never
Decides-below headers class Float = Decides-never
Decides-below headers class Double = Decides-never
Decides-below headers class (Class name) = Decides-at _ _ (or_false (is_subclass headers name class)) (Decides-subclass headers name class)
Decides-below headers class (Array element) = Decides-name class object_name

Decides-through : (headers : List Header) (class : Name) (through : Option JType) → Decides (is_none_or through (is_below headers class)) (IfSome through (IsBelow headers class))
Decides-through headers class None = (λ is. tt, λ h. refl)
Decides-through headers class (Some type) = Decides-below headers class type

Decides-allows_below : (headers : List Header) (from owner : Name) (flags : ℕ) (through : Option JType) → Decides (allows_below headers from owner flags through) (AllowsBelow headers from owner flags through)
Decides-allows_below headers from owner flags through =
    Decides-like (allows_below headers from owner flags through) (λ h. (h.0.0.0, h.0.0.1, h.0.1, h.1)) (λ h. (((h.0, h.1), h.2), h.3))
    (Decides-and _ _ (Decides-and _ _ (Decides-and _ _ (Decides-flag flags 4) (Decides-subclass headers from owner)) (Decides-not _ (Decides-interface headers from)))
    (Decides-or _ _ (Decides-flag flags 8) (Decides-through headers from through)))

-- a member of a class with these flags may be used in another
pub Decides-allows : (headers : List Header) (from owner : Name) (flags : ℕ) (through : Option JType) → Decides (allows headers from owner flags through) (Allows headers from owner flags through)
Decides-allows headers from owner flags through =
    Decides-at _ _ (or_right (is_public flags) (is_private flags && is_name from owner) (not (is_private flags) && is_in_package from owner) (allows_below headers from owner flags through))
    (Decides-or _ _ (Decides-flag flags 1) (Decides-or _ _ (Decides-and _ _ (Decides-flag flags 2) (Decides-name from owner))
    (Decides-or _ _ (Decides-and _ _ (Decides-not _ (Decides-flag flags 2)) (Decides-name (package_of from) (package_of owner))) (Decides-allows_below headers from owner flags through))))

-- ---- what a search sees

hides_below : (a b c : Bool) → (a || not b || not c) ≡ not (not a && b && c)
hides_below true b c = refl
hides_below false true c = refl
hides_below false false c = refl

hides_in_object : (a b c d : Bool) → (not a || b || (c && not d)) ≡ not (a && not b && (not c || d))
hides_in_object true true c d = refl
hides_in_object true false true true = refl
hides_in_object true false true false = refl
hides_in_object true false false d = refl
hides_in_object false b c d = refl

pub Decides-false : (b : Bool) → Decides (not b) (b ≡ false)
Decides-false true = (λ is. absurd (false≢true is), λ is. sym is)
Decides-false false = (λ is. refl, λ is. refl)

-- a search from a class sees a method of another
pub Decides-seen : (headers : List Header) (start class : Name) (method : MethodHead) → Decides (is_seen headers start class (view_method method)) (IsSeen headers start class method)
Decides-seen headers start class method =
    Decides-like (is_seen headers start class (view_method method)) (λ h. (h.0.0, h.0.1, h.1)) (λ h. ((h.0, h.1), h.2))
    (Decides-and _ _ (Decides-and _ _
    (Decides-at _ _ (hides_below (is_name start class) (is_interface headers class) (is_of_class method.flags || is_private method.flags))
    (Decides-not _ (Decides-like (not (is_name start class) && is_interface headers class && (is_of_class method.flags || is_private method.flags)) (λ h. (h.0.0, h.0.1, h.1)) (λ h. ((h.0, h.1), h.2))
    (Decides-and _ _ (Decides-and _ _ (Decides-not _ (Decides-name start class)) (Decides-interface headers class)) (Decides-or _ _ (Decides-flag method.flags 8) (Decides-flag method.flags 2))))))
    (Decides-at _ _ (hides_in_object (is_interface headers start) (is_interface headers class) (is_public method.flags) (is_of_class method.flags))
    (Decides-not _ (Decides-like (is_interface headers start && not (is_interface headers class) && (not (is_public method.flags) || is_of_class method.flags)) (λ h. (h.0.0, h.0.1, h.1)) (λ h. ((h.0, h.1), h.2))
    (Decides-and _ _ (Decides-and _ _ (Decides-interface headers start) (Decides-not _ (Decides-interface headers class))) (Decides-or _ _ (Decides-not _ (Decides-flag method.flags 1)) (Decides-flag method.flags 8)))))))
    (Decides-false (is_false_constructor method.name (view_descriptor method.descriptor))))
