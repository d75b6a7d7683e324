-- Ways up from a class that a world has whole are the same where other classes run beside its own.
use Rattle.std.proofs.Common.{◌≡◌, ℕ, zero, suc, ◌<◌, Bool, true, false, not, ◌||◌, Decides, if◌then◌else◌, bytes_eq, length, get_or, List, [], ◌∷◌, ◌++◌, Any, Contains, Option, Some, None, option_to_list, refl, sym, ap, subst, ◌∙◌, inl, inr, ◌⊎◌, arith}
use Rattle.std.specs.Prelude.{IsBitSet}
use Rattle.std.specs.List.{list_all}
use Rattle.std.proofs.lemmas.Bool.{false≢true, and_parts, or_cases, both_ways}
use Rattle.dj_names.specs.declared.header.Header.{Header}
use Rattle.dj_names.specs.Headers.{Name, HasDistinctNames, IsInterface, HasSuperclass, HasParent, IsPath, IsSubclass, Implements}
use Rattle.dj_kinds.specs.Search.{header_of}
use Rattle.dj_kinds.specs.Inherited.{HasSuperclassInPackage, InheritsInPackage}
use Rattle.dj_values.specs.Deciding.{is_name, superclass_of, parents_of, reaches, is_subclass, implements, is_interface}
use Rattle.dj_values.proofs.Deciding.{Decides-name, Decides-subclass, Decides-implements}
use Rattle.dj_meaning.specs.Visible.{is_inherited, superclass_in_package}
use Rattle.dj_static.proofs.VisibleLemmas.{Decides-interface, Decides-in_package}
use Rattle.dj_typing.specs.Sites.{has_header, is_whole}
use Rattle.dj_widened.specs.Widens.{Widens}

-- ---- lists

-- an item is one of a list
abbrev pub In : {A : Type 0} → A → List A → Type 0
In x [] = ⊥
In x (y ∷ ys) = (x ≡ y) ⊎ In x ys

pub some_in : {A : Type 0} (P : A → Type 0) (xs : List A) → Any P xs → (x : A) × In x xs × P x
some_in P [] (k, x, within, is, h) = absurd (omega arith)
some_in P (y ∷ ys) (zero, x, within, is, h) = (x, inl (sym is), h)
some_in P (y ∷ ys) (suc k, x, within, is, h) = let rest = some_in P ys (k, x, omega arith, is, h) in (rest.0, inr rest.1, rest.2)

pub any_in : {A : Type 0} (P : A → Type 0) (xs : List A) (x : A) → In x xs → P x → Any P xs
any_in P [] x none h = absurd none
any_in P (y ∷ ys) x (inl is) h = (0, x, omega arith, sym is, h)
any_in P (y ∷ ys) x (inr later) h = let rest = any_in P ys x later h in (suc rest.0, rest.1, omega (arith, rest.2), rest.3, rest.4)

pub in_contained : {A : Type 0} (xs : List A) (x : A) → Contains xs x → In x xs
in_contained [] x (k, within, is) = absurd (omega arith)
in_contained (y ∷ ys) x (zero, within, is) = inl (sym is)
in_contained (y ∷ ys) x (suc k, within, is) = inr (in_contained ys x (k, omega arith, is))

pub contains_in : {A : Type 0} (xs : List A) (x : A) → In x xs → Contains xs x
contains_in [] x none = absurd none
contains_in (y ∷ ys) x (inl is) = (0, omega arith, sym is)
contains_in (y ∷ ys) x (inr later) = let rest = contains_in ys x later in (suc rest.0, omega (arith, rest.1), rest.2)

pub in_front : {A : Type 0} (xs ys : List A) (x : A) → In x xs → In x (xs ++ ys)
in_front [] ys x none = absurd none
in_front (z ∷ zs) ys x (inl is) = inl is
in_front (z ∷ zs) ys x (inr later) = inr (in_front zs ys x later)

pub in_back : {A : Type 0} (xs ys : List A) (x : A) → In x ys → In x (xs ++ ys)
in_back [] ys x there = there
in_back (z ∷ zs) ys x there = inr (in_back zs ys x there)

pub in_either : {A : Type 0} (xs ys : List A) (x : A) → In x (xs ++ ys) → In x xs ⊎ In x ys
in_either [] ys x there = inr there
in_either (z ∷ zs) ys x (inl is) = inl (inl is)
in_either (z ∷ zs) ys x (inr later) = elim (in_either zs ys x later) [ inl front ↦ inl (inr front) | inr back ↦ inr back ]

pub all_at : {A : Type 0} (test : A → Bool) (xs : List A) (x : A) → list_all test xs ≡ true → In x xs → test x ≡ true
all_at test [] x each none = absurd none
all_at test (y ∷ ys) x each (inl is) = subst (λ z. test z ≡ true) (sym is) (and_parts (test y) (list_all test ys) each).0
all_at test (y ∷ ys) x each (inr later) = all_at test ys x (and_parts (test y) (list_all test ys) each).1 later

-- ---- headers

-- a class has this header
abbrev pub HasHeader : List Header → Name → Type 0
HasHeader headers class = (header : Header) × In header headers × (header.name ≡ class)

place_in : (headers : List Header) (header : Header) → In header headers → (k : ℕ) × (k < length headers) × ((d : Header) → get_or headers k d ≡ header)
place_in [] header none = absurd none
place_in (first ∷ rest) header (inl is) = (0, omega arith, λ d. sym is)
place_in (first ∷ rest) header (inr later) = let k = place_in rest header later in (suc k.0, omega (arith, k.1), k.2)

-- two headers of one class are one
pub one_header : (headers : List Header) → HasDistinctNames headers → (first second : Header) → In first headers → In second headers → first.name ≡ second.name → first ≡ second
one_header [] distinct first second none there same = absurd none
one_header (header ∷ headers) distinct first second (inl here) (inl there) same = here ∙ sym there
one_header (header ∷ headers) distinct first second (inl here) (inr there) same =
    let k = place_in headers second there in
    absurd (distinct 0 (suc k.0) header (omega arith) (omega (arith, k.1)) (ap (λ (h : Header). h.name) (sym here) ∙ same ∙ sym (ap (λ (h : Header). h.name) (k.2 header))))
one_header (header ∷ headers) distinct first second (inr here) (inl there) same =
    let k = place_in headers first here in
    absurd (distinct 0 (suc k.0) header (omega arith) (omega (arith, k.1)) (ap (λ (h : Header). h.name) (sym there) ∙ sym same ∙ sym (ap (λ (h : Header). h.name) (k.2 header))))
one_header (header ∷ headers) distinct first second (inr here) (inr there) same =
    one_header headers (λ i j d below within. distinct (suc i) (suc j) d (omega (arith, below)) (omega (arith, within))) first second here there same

-- the header that is found
abbrev Found : List Header → Name → Option Header → Type 0
Found headers class found = (header : Header) × (found ≡ Some header) × In header headers × (header.name ≡ class)

found_by : (first : Header) (rest : List Header) (class : Name) (b : Bool) → is_name first.name class ≡ b → (HasHeader rest class → Found rest class (header_of rest class)) → HasHeader (first ∷ rest) class
    → Found (first ∷ rest) class (if b then Some first else header_of rest class)
found_by first rest class true is further there = (first, refl, inl refl, (Decides-name first.name class).0 is)
found_by first rest class false is further (header, inl here, named) =
    absurd (both_ways (is_name first.name class) is ((Decides-name first.name class).1 (ap (λ (h : Header). h.name) (sym here) ∙ named)))
found_by first rest class false is further (header, inr later, named) = let found = further (header, later, named) in (found.0, found.1, inr found.2, found.3)

-- the header of a class that has one
pub found_header : (headers : List Header) (class : Name) → HasHeader headers class → Found headers class (header_of headers class)
found_header [] class there = absurd there.1
found_header (first ∷ rest) class there = found_by first rest class (is_name first.name class) refl (found_header rest class) there

front_by : (first : Header) (rest others : List Header) (class : Name) (header : Header) (b : Bool) → (header_of rest class ≡ Some header → header_of (rest ++ others) class ≡ Some header)
    → (if b then Some first else header_of rest class) ≡ Some header → (if b then Some first else header_of (rest ++ others) class) ≡ Some header
front_by first rest others class header true further is = is
front_by first rest others class header false further is = further is

-- a header that is found stays so before others
pub header_of-front : (headers others : List Header) (class : Name) (header : Header) → header_of headers class ≡ Some header → header_of (headers ++ others) class ≡ Some header
header_of-front [] others class header is = absurd cc
header_of-front (first ∷ rest) others class header is = front_by first rest others class header (bytes_eq first.name class) (header_of-front rest others class header) is

header_from_test : (headers : List Header) (class : Name) → has_header headers class ≡ true → HasHeader headers class
header_from_test [] class is = absurd (false≢true is)
header_from_test (first ∷ rest) class is =
    elim (or_cases (is_name first.name class) (has_header rest class) is) [
      | inl here ↦ (first, inl refl, (Decides-name first.name class).0 here)
      | inr later ↦ let found = header_from_test rest class later in (found.0, inr found.1, found.2)
    ]

-- ---- steps up

named_superclass : (header : Header) (upper : Name) → In upper (superclass_of header) → header.superclass ≡ Some upper
named_superclass header upper = go header.superclass
  where
    go : (found : Option Name) → In upper (option_to_list found) → found ≡ Some upper
    go None none = absurd none
    go (Some name) (inl is) = ap Some (sym is)
    go (Some name) (inr none) = absurd none

superclass_named : (header : Header) (upper : Name) → header.superclass ≡ Some upper → In upper (superclass_of header)
superclass_named header upper is = subst (λ found. In upper (option_to_list found)) (sym is) (inl refl)

-- a step up is named by a header
pub parent_header : (headers : List Header) (lower upper : Name) → HasParent headers lower upper → (header : Header) × In header headers × (header.name ≡ lower) × In upper (parents_of header)
parent_header headers lower upper (inl super) =
    let found = some_in (λ header. (header.name ≡ lower) × (header.superclass ≡ Some upper)) headers super in
    (found.0, found.1, found.2.0, in_front (superclass_of found.0) found.0.interfaces upper (superclass_named found.0 upper found.2.1))
parent_header headers lower upper (inr listed) =
    let found = some_in (λ header. (header.name ≡ lower) × Contains header.interfaces upper) headers listed in
    (found.0, found.1, found.2.0, in_back (superclass_of found.0) found.0.interfaces upper (in_contained found.0.interfaces upper found.2.1))

pub header_parent : (headers : List Header) (lower upper : Name) (header : Header) → In header headers → header.name ≡ lower → In upper (parents_of header) → HasParent headers lower upper
header_parent headers lower upper header there named above =
    elim (in_either (superclass_of header) header.interfaces upper above) [
      | inl super ↦ inl (any_in (λ header. (header.name ≡ lower) × (header.superclass ≡ Some upper)) headers header there (named, named_superclass header upper super))
      | inr listed ↦ inr (any_in (λ header. (header.name ≡ lower) × Contains header.interfaces upper) headers header there (named, contains_in header.interfaces upper listed))
    ]

-- ---- paths

pub path_kept : {Step More : Name → Name → Type 0} → ((lower next : Name) → Step lower next → More lower next) → (lower : Name) (path : List Name) (upper : Name) → IsPath Step lower path upper → IsPath More lower path upper
path_kept keep lower [] upper same = same
path_kept keep lower (next ∷ path) upper (step, rest) = (keep lower next step, path_kept keep next path upper rest)

pub path_joined : (Step : Name → Name → Type 0) (lower : Name) (path more : List Name) (middle upper : Name) → IsPath Step lower path middle → IsPath Step middle more upper → IsPath Step lower (path ++ more) upper
path_joined Step lower [] more middle upper same rest = subst (λ name. IsPath Step name more upper) (sym same) rest
path_joined Step lower (next ∷ path) more middle upper (step, first) rest = (step, path_joined Step next path more middle upper first rest)

pub above_itself : (headers : List Header) (class : Name) → Implements headers class class
above_itself headers class = record { path = []; is_path = refl }

pub above_again : {headers : List Header} {lower middle upper : Name} → Implements headers lower middle → Implements headers middle upper → Implements headers lower upper
above_again {headers = headers} {lower = lower} {middle = middle} {upper = upper} first second =
    record { path = first.path ++ second.path; is_path = path_joined (HasParent headers) lower first.path second.path middle upper first.is_path second.is_path }

pub above_parent : {headers : List Header} {lower upper : Name} → HasParent headers lower upper → Implements headers lower upper
above_parent {upper = upper} step = record { path = upper ∷ []; is_path = (step, refl) }

pub subclass_above : {headers : List Header} {lower upper : Name} → IsSubclass headers lower upper → Implements headers lower upper
subclass_above {headers = headers} {lower = lower} {upper = upper} below =
    record { path = below.path; is_path = path_kept {Step = HasSuperclass headers} {More = HasParent headers} (λ lower next step. inl step) lower below.path upper below.is_path }

-- ---- whole classes

-- each class that a class leads up to has a header
abbrev pub IsWhole : List Header → Name → Type 0
IsWhole headers class = (upper : Name) → Implements headers class upper → HasHeader headers upper

module _ (headers : List Header) (class : Name) where
  step_header : (lower next : Name) → is_whole headers class ≡ true → Implements headers class lower → HasParent headers lower next → HasHeader headers next
  step_header lower next whole above step =
      let found = parent_header headers lower next step in
      let each = all_at (λ (header : Header). not (implements headers class header.name) || list_all (has_header headers) (parents_of header)) headers found.0
      (and_parts (has_header headers class) (list_all (λ (header : Header). not (implements headers class header.name) || list_all (has_header headers) (parents_of header)) headers) whole).1 found.1 in
      let reached : implements headers class found.0.name ≡ true = subst (λ name. implements headers class name ≡ true) (sym found.2) ((Decides-implements headers class lower).1 above) in
      let all : list_all (has_header headers) (parents_of found.0) ≡ true = subst (λ b. (not b || list_all (has_header headers) (parents_of found.0)) ≡ true) reached each in
      header_from_test headers next (all_at (has_header headers) (parents_of found.0) next all found.3)

  end_header : (lower : Name) (path : List Name) (upper : Name) → is_whole headers class ≡ true → Implements headers class lower → HasHeader headers lower → IsPath (HasParent headers) lower path upper → HasHeader headers upper
  end_header lower [] upper whole above there same = subst (HasHeader headers) same there
  end_header lower (next ∷ path) upper whole above there (step, rest) =
      end_header next path upper whole (above_again above (above_parent step)) (step_header lower next whole above step) rest

  pub whole_from_test : is_whole headers class ≡ true → IsWhole headers class
  whole_from_test whole upper above =
      end_header class above.path upper whole (above_itself headers class)
      (header_from_test headers class (and_parts (has_header headers class) (list_all (λ (header : Header). not (implements headers class header.name) || list_all (has_header headers) (parents_of header)) headers) whole).0)
      above.is_path

pub whole_above : {headers : List Header} {lower upper : Name} → IsWhole headers lower → Implements headers lower upper → IsWhole headers upper
whole_above whole above higher more = whole higher (above_again above more)

-- ---- the same ways

module _ (world headers : List Header) (wide : Widens world headers) where
  pub in_world : (header : Header) → In header world → In header headers
  in_world header there = subst (In header) (sym wide.first) (in_front world wide.others header there)

  -- a header of a class that the world has is the world's
  pub own_header : (header : Header) → In header headers → HasHeader world header.name → In header world
  own_header header there (own, within, named) =
      subst (λ h. In h world) (one_header headers wide.distinct own header (in_world own within) there named) within

  pub superclass_down : (lower upper : Name) → HasHeader world lower → HasSuperclass headers lower upper → HasSuperclass world lower upper
  superclass_down lower upper has step =
      let found = some_in (λ header. (header.name ≡ lower) × (header.superclass ≡ Some upper)) headers step in
      any_in (λ header. (header.name ≡ lower) × (header.superclass ≡ Some upper)) world found.0 (own_header found.0 found.1 (subst (HasHeader world) (sym found.2.0) has)) found.2

  pub superclass_up : (lower upper : Name) → HasSuperclass world lower upper → HasSuperclass headers lower upper
  superclass_up lower upper step =
      let found = some_in (λ header. (header.name ≡ lower) × (header.superclass ≡ Some upper)) world step in
      any_in (λ header. (header.name ≡ lower) × (header.superclass ≡ Some upper)) headers found.0 (in_world found.0 found.1) found.2

  pub parent_down : (lower upper : Name) → HasHeader world lower → HasParent headers lower upper → HasParent world lower upper
  parent_down lower upper has step =
      let found = parent_header headers lower upper step in
      header_parent world lower upper found.0 (own_header found.0 found.1 (subst (HasHeader world) (sym found.2) has)) found.2 found.3

  pub parent_up : (lower upper : Name) → HasParent world lower upper → HasParent headers lower upper
  parent_up lower upper step =
      let found = parent_header world lower upper step in
      header_parent headers lower upper found.0 (in_world found.0 found.1) found.2 found.3

  -- ways up from a whole class are in the world
  module _ (Step Own : Name → Name → Type 0) (down : (lower next : Name) → HasHeader world lower → Step lower next → Own lower next) (is_up : (lower next : Name) → Own lower next → HasParent world lower next) where
    pub path_down : (lower : Name) (path : List Name) (upper : Name) → IsWhole world lower → IsPath Step lower path upper → IsPath Own lower path upper
    path_down lower [] upper whole same = same
    path_down lower (next ∷ path) upper whole (step, rest) =
        let own = down lower next (whole lower (above_itself world lower)) step in
        (own, path_down next path upper (whole_above whole (above_parent (is_up lower next own))) rest)

  pub implements_down : {lower upper : Name} → IsWhole world lower → Implements headers lower upper → Implements world lower upper
  implements_down {lower = lower} {upper = upper} whole above =
      record { path = above.path; is_path = path_down (HasParent headers) (HasParent world) parent_down (λ lower next step. step) lower above.path upper whole above.is_path }

  pub implements_up : {lower upper : Name} → Implements world lower upper → Implements headers lower upper
  implements_up {lower = lower} {upper = upper} above =
      record { path = above.path; is_path = path_kept {Step = HasParent world} {More = HasParent headers} parent_up lower above.path upper above.is_path }

  subclass_down : {lower upper : Name} → IsWhole world lower → IsSubclass headers lower upper → IsSubclass world lower upper
  subclass_down {lower = lower} {upper = upper} whole above =
      record { path = above.path; is_path = path_down (HasSuperclass headers) (HasSuperclass world) superclass_down (λ lower next step. inl step) lower above.path upper whole above.is_path }

  pub subclass_up : {lower upper : Name} → IsSubclass world lower upper → IsSubclass headers lower upper
  subclass_up {lower = lower} {upper = upper} above =
      record { path = above.path; is_path = path_kept {Step = HasSuperclass world} {More = HasSuperclass headers} superclass_up lower above.path upper above.is_path }

  package_down : {owner class : Name} → IsWhole world class → InheritsInPackage headers owner class → InheritsInPackage world owner class
  package_down {owner = owner} {class = class} whole above =
      record {
        path = above.path;
        is_path = path_down (HasSuperclassInPackage headers owner) (HasSuperclassInPackage world owner) (λ lower next has step. (superclass_down lower next has step.0, step.1)) (λ lower next step. inl step.0) class above.path owner whole above.is_path;
      }

  package_up : {owner class : Name} → InheritsInPackage world owner class → InheritsInPackage headers owner class
  package_up {owner = owner} {class = class} above =
      record {
        path = above.path;
        is_path = path_kept {Step = HasSuperclassInPackage world owner} {More = HasSuperclassInPackage headers owner} (λ lower next step. (superclass_up lower next step.0, step.1)) class above.path owner above.is_path;
      }

  pub interface_down : {class : Name} → HasHeader world class → IsInterface headers class → IsInterface world class
  interface_down {class = class} has is =
      let found = some_in (λ header. (header.name ≡ class) × IsBitSet header.flags 9) headers is in
      any_in (λ header. (header.name ≡ class) × IsBitSet header.flags 9) world found.0 (own_header found.0 found.1 (subst (HasHeader world) (sym found.2.0) has)) found.2

  pub interface_up : {class : Name} → IsInterface world class → IsInterface headers class
  interface_up {class = class} is =
      let found = some_in (λ header. (header.name ≡ class) × IsBitSet header.flags 9) world is in
      any_in (λ header. (header.name ≡ class) × IsBitSet header.flags 9) headers found.0 (in_world found.0 found.1) found.2

  -- ---- the same answers

  same_answer : {P Q : Type 0} (first second : Bool) → Decides first P → Decides second Q → (P → Q) → (Q → P) → first ≡ second
  same_answer true true p q f g = refl
  same_answer true false p q f g = absurd (false≢true (q.1 (f (p.0 refl))))
  same_answer false true p q f g = absurd (false≢true (p.1 (g (q.0 refl))))
  same_answer false false p q f g = refl

  pub implements_same : (lower upper : Name) → IsWhole world lower → implements headers lower upper ≡ implements world lower upper
  implements_same lower upper whole =
      same_answer (implements headers lower upper) (implements world lower upper) (Decides-implements headers lower upper) (Decides-implements world lower upper) (implements_down whole) implements_up

  pub subclass_same : (lower upper : Name) → IsWhole world lower → is_subclass headers lower upper ≡ is_subclass world lower upper
  subclass_same lower upper whole =
      same_answer (is_subclass headers lower upper) (is_subclass world lower upper) (Decides-subclass headers lower upper) (Decides-subclass world lower upper) (subclass_down whole) subclass_up

  package_same : (class owner : Name) → IsWhole world class
      → reaches (superclass_in_package owner) headers (length headers) class owner ≡ reaches (superclass_in_package owner) world (length world) class owner
  package_same class owner whole =
      same_answer (reaches (superclass_in_package owner) headers (length headers) class owner) (reaches (superclass_in_package owner) world (length world) class owner)
      (Decides-in_package headers owner class) (Decides-in_package world owner class) (package_down whole) package_up

  pub interface_same : (class : Name) → HasHeader world class → is_interface headers class ≡ is_interface world class
  interface_same class has =
      same_answer (is_interface headers class) (is_interface world class) (Decides-interface headers class) (Decides-interface world class) (interface_down has) interface_up

  pub inherited_same : (class owner : Name) (flags : ℕ) → IsWhole world class → is_inherited headers class owner flags ≡ is_inherited world class owner flags
  inherited_same class owner flags whole = rw (subclass_same class owner whole, package_same class owner whole) refl

  pub header_same : (class : Name) → HasHeader world class → header_of headers class ≡ header_of world class
  header_same class has =
      let found = found_header world class has in
      subst (λ all. header_of all class ≡ header_of world class) (sym wide.first) (header_of-front world wide.others class found.0 found.1 ∙ sym found.1)
