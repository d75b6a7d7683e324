-- The method that a call means, and how it is asked for (JLS 8.8, 15.9.3, 15.12.2, 15.12.3).
use Rattle.std.specs.Prelude.{Bool, true, false, not, ◌&&◌, ◌||◌, List, [], ◌∷◌, map, filter, find, filter_map, flat_map, Option, Some, None, if◌then◌else◌}
use Rattle.std.specs.List.{list_any, list_all}
use Rattle.dj_names.specs.declared.header.Header.{Header}
use Rattle.dj_names.specs.Headers.{Name}
use Rattle.dj_names.specs.Types as types
use Rattle.dj_names.specs.Types.{JType, StaticType, Of}
use Rattle.dj_names.specs.Assignable.{object_name}
use Rattle.dj_values.specs.Deciding.{is_name, is_type, is_array_clone, is_reference, is_some_and, is_subtype, is_interface}
use Rattle.dj_kinds.specs.Search.{method_order}
use Rattle.dj_kinds.specs.Own.{is_false_constructor}
use Rattle.dj_kinds.specs.Choice.{Call}
use Rattle.dj_meaning.specs.Members.{Method, Members, parameters, is_public, is_private, is_of_class, is_bridge}
use Rattle.dj_meaning.specs.Visible.{members_of, methods_in, is_inherited, allows}
use Rattle.dj_meaning.specs.Fields.{sole}

-- a method, and the class that declares it
pub record MethodIn : Type 0 where
  pub owner : Name
  pub method : Method

-- ---- types beside types

-- as many of both, and each pair passes the test
abbrev pub all_pairs : {A B : Type 0} → (A → B → Bool) → List A → List B → Bool
all_pairs test [] [] = true
all_pairs test [] (second ∷ seconds) = false
all_pairs test (first ∷ firsts) [] = false
all_pairs test (first ∷ firsts) (second ∷ seconds) = test first second && all_pairs test firsts seconds

-- an argument of this type goes where that type is wanted, by strict invocation (5.3)
abbrev pub is_assignable : List Header → StaticType → JType → Bool
is_assignable headers types.Null to = is_reference to
is_assignable headers (Of from) to = is_subtype headers from to

-- ---- methods of one name and parameters

-- a method of a class is seen by a search that starts at a class: below an interface its static and private methods aren't,
-- of Object an interface sees only what is public and not static (8.4.8, 9.2), and a constructor with a result is none (JVMS 2.9)
abbrev pub is_seen : List Header → Name → Name → Method → Bool
is_seen headers start class method =
    (is_name start class || not (is_interface headers class) || not (is_of_class method.flags || is_private method.flags))
    && (not (is_interface headers start) || is_interface headers class || (is_public method.flags && not (is_of_class method.flags)))
    && not (is_false_constructor method.name method.descriptor)

-- of these methods the first that is no bridge, and where all are bridges the first
abbrev pub counting : List Method → Option Method
counting methods = first_of (find (λ (method : Method). not (is_bridge method.flags)) methods)
  where
    first_of : Option Method → Option Method
    first_of None = find (λ method. true) methods
    first_of (Some method) = Some method

-- the methods of this name that a class declares and a search from the start sees
abbrev pub named_in : List Header → List Members → Name → Name → Name → List Method
named_in headers members start name class =
    filter (λ (method : Method). is_name method.name name && is_seen headers start class method) (methods_in (members_of headers members class))

-- the method of these parameters in the first of these classes that has one
abbrev pub first_with : (Name → List Method) → List JType → List Name → Option MethodIn
first_with methods wanted [] = None
first_with methods wanted (class ∷ classes) =
    by_own (counting (filter (λ (method : Method). all_pairs is_type (parameters method) wanted) (methods class))) (first_with methods wanted classes)
  where
    by_own : Option Method → Option MethodIn → Option MethodIn
    by_own None others = others
    by_own (Some method) others = Some (record { owner = class; method = method })

-- lists of types, each once
abbrev pub distinct : List (List JType) → List (List JType)
distinct [] = []
distinct (first ∷ rest) = if list_any (all_pairs is_type first) rest then distinct rest else first ∷ distinct rest

-- ---- the choice

-- a method may be used in a class; each array has the method `clone` of Object as a public one (6.6, 10.7)
abbrev pub may_call : List Header → Name → Option JType → MethodIn → Bool
may_call headers from through one =
    allows headers from one.owner one.method.flags through
    || (is_name one.owner object_name && is_some_and through (λ type. is_array_clone type one.method.name (parameters one.method)))

-- a call could mean a method: it takes the arguments, is a member of the class in which it is searched for, and may be used (15.12.2.1, 15.12.2.2)
abbrev pub is_candidate : List Header → Call → MethodIn → Bool
is_candidate headers call one =
    all_pairs (is_assignable headers) call.arguments (parameters one.method)
    && is_inherited headers call.class one.owner one.method.flags && may_call headers call.from call.through one

-- the methods that a call could mean: of those of equal parameters the first in the order of search alone
abbrev pub candidates : List Header → List Members → Call → List MethodIn
candidates headers members call =
    let classes = method_order headers call.name call.class in
    let methods = named_in headers members call.class call.name in
    filter (is_candidate headers call) (filter_map (λ wanted. first_with methods wanted classes) (distinct (flat_map (λ class. map parameters (methods class)) classes)))

-- what the one takes the other takes too, for any arguments (15.12.2.5)
abbrev pub is_more_specific : List Header → MethodIn → MethodIn → Bool
is_more_specific headers one other = all_pairs (is_subtype headers) (parameters one.method) (parameters other.method)

-- the only candidate that is more specific than each; where several have equal parameters, only the first that the search meets is one,
-- in place of the rules of 15.12.2.5 on methods that override each other
abbrev pub chosen : List Header → List Members → Call → Option MethodIn
chosen headers members call =
    let all = candidates headers members call in
    sole (filter (λ one. list_all (is_more_specific headers one) all) all)
