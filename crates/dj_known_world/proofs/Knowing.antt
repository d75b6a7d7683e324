-- What is known of a world that passes the test.
use Rattle.std.proofs.Common.{◌≡◌, ◌↔◌, ℕ, zero, suc, ◌<◌, ◌==◌, Bool, true, false, not, ◌&&◌, ◌||◌, List, [], ◌∷◌, length, drop, get_or, ◌≤◌, Contains, Option, Some, None, refl, sym, ap, subst, ◌∙◌, arith}
use Rattle.std.specs.Prelude.{if◌then◌else◌, map, codes, is_some, IsSome, IsTrue}
use Rattle.std.specs.Str.{bytes_eq}
use Rattle.std.specs.List.{list_all}
use Rattle.std.proofs.lemmas.Bool.{eqb-true, eq-eqb}
use Rattle.std.proofs.lemmas.Bool.Decides.{same_from_decides}
use Rattle.std.proofs.lemmas.List.{length-map}
use Rattle.std.proofs.lemmas.Slice.Eq.{bytes_eq-Decides}
use Rattle.dj_names.specs.declared.header.Header.{Header}
use Rattle.dj_names.specs.declared.members.Constant.{Constant}
use Rattle.dj_names.specs.declared.members.Constant.TheVariants as constant
use Rattle.dj_names.specs.declared.members.MethodHead.{MethodHead}
use Rattle.dj_names.specs.declared.members.ClassMembers.{ClassMembers}
use Rattle.dj_names.specs.Headers.{Name, IsSubclass}
use Rattle.dj_names.specs.Types as types
use Rattle.dj_names.specs.Types.{JType, Boolean, Byte, Char, Short, Float, Double, Class, Array, view_type, view_descriptor, parameters_of, result_of}
use Rattle.dj_names.specs.Assignable.{object_name}
use Rattle.dj_values.specs.Fits.{throwable_name}
use Rattle.dj_values.specs.Deciding.{is_subclass}
use Rattle.dj_values.proofs.Deciding.{Decides-subclass}
use Rattle.dj_world.specs.Worlds.{WorldOf}
use Rattle.dj_meaning.specs.Members.{Members, Field as FieldData, Method, view_members, view_field, view_method, parameters}
use Rattle.dj_meaning.specs.Fields.{known}
use Rattle.dj_meaning.specs.Visible.{members_of, fields_in, methods_in}
use Rattle.dj_typing.specs.Sites.{has_header}
use Rattle.dj_checked.proofs.WholeLemmas.{Decides-has}
use Rattle.dj_held.specs.Running.{FitsField}
use Rattle.dj_known_world.specs.Known.{kind_of, number_of, fits, field_fits, class_fits, gives, objects_give, is_known_world, KnownWorlds}

-- ---- tests

pub same_text : (result : Bool) (units text : List ℕ) → IsTrue result ↔ (text ≡ units) → result ≡ bytes_eq units text
same_text result units text word = same_from_decides result (bytes_eq units text) (λ e. sym (word.0 e), λ e. word.1 (sym e)) (bytes_eq-Decides units text)

pub same_below : (result : Bool) (headers : List Header) (lower upper : Name) → IsTrue result ↔ IsSubclass headers lower upper → result ≡ is_subclass headers lower upper
same_below result headers lower upper below = same_from_decides result (is_subclass headers lower upper) (below.0, below.1) (Decides-subclass headers lower upper)

-- ---- Object among the classes

-- behind the last class there is none
pub give_past : (headers : List Header) (classes : List ClassMembers) (at : ℕ) → length classes ≤ at → objects_give (drop at headers) (drop at classes) ≡ true
give_past headers [] zero past = none headers
  where
    none : (headers : List Header) → objects_give headers [] ≡ true
    none [] = refl
    none (header ∷ rest) = refl
give_past headers (first ∷ rest) zero past = absurd (omega (arith, past))
give_past [] [] (suc at) past = refl
give_past (header ∷ headers) [] (suc at) past = nothing (drop at headers)
  where
    nothing : (headers : List Header) → objects_give headers [] ≡ true
    nothing [] = refl
    nothing (header ∷ rest) = refl
give_past [] (first ∷ rest) (suc at) past = refl
give_past (header ∷ headers) (first ∷ rest) (suc at) past = give_past headers rest at (omega (arith, past))

-- the first class that is Object tells
pub give_here : (headers : List Header) (classes : List ClassMembers) (at : ℕ) (header : Header) (class : ClassMembers) → at < length headers → header ≡ get_or headers at header → at < length classes → class ≡ get_or classes at class
    → bytes_eq header.name object_name ≡ true → objects_give (drop at headers) (drop at classes) ≡ list_all gives class.methods
give_here [] classes at header class within is inside same named = absurd (omega (arith, within))
give_here (one ∷ headers) [] at header class within is inside same named = absurd (omega (arith, inside))
give_here (one ∷ headers) (first ∷ rest) zero header class within is inside same named = by (bytes_eq one.name object_name) (ap (λ (h : Header). bytes_eq h.name object_name) (sym is) ∙ named)
  where
    by : (test : Bool) → test ≡ true → (if test then list_all gives first.methods else objects_give headers rest) ≡ list_all gives class.methods
    by true e = ap (λ (m : ClassMembers). list_all gives m.methods) (sym same)
    by false e = absurd (cc)
give_here (one ∷ headers) (first ∷ rest) (suc at) header class within is inside same named = give_here headers rest at header class (omega (arith, within)) is (omega (arith, inside)) same named

-- and any other doesn't
pub give_next : (headers : List Header) (classes : List ClassMembers) (at : ℕ) (header : Header) → at < length headers → header ≡ get_or headers at header → at < length classes
    → bytes_eq header.name object_name ≡ false → objects_give (drop (suc at) headers) (drop (suc at) classes) ≡ objects_give (drop at headers) (drop at classes)
give_next [] classes at header within is inside other = absurd (omega (arith, within))
give_next (one ∷ headers) [] at header within is inside other = absurd (omega (arith, inside))
give_next (one ∷ headers) (first ∷ rest) zero header within is inside other = by (bytes_eq one.name object_name) (ap (λ (h : Header). bytes_eq h.name object_name) (sym is) ∙ other)
  where
    by : (test : Bool) → test ≡ false → objects_give headers rest ≡ (if test then list_all gives first.methods else objects_give headers rest)
    by true e = absurd (cc)
    by false e = refl
give_next (one ∷ headers) (first ∷ rest) (suc at) header within is inside other = give_next headers rest at header (omega (arith, within)) is (omega (arith, inside)) other

-- ---- together

pub known_as : (world : WorldOf) (fit give there below : Bool) (classes : List ClassMembers) (listed headers : List Header) (object throwable : Name) → fit ≡ list_all class_fits classes → give ≡ objects_give listed classes → there ≡ has_header headers object
    → below ≡ is_subclass headers throwable object → classes ≡ world.members → listed ≡ headers → headers ≡ world.headers → object ≡ object_name → throwable ≡ throwable_name → fit && give && there && below ≡ is_known_world world.headers world.members
known_as world fit give there below classes listed headers object throwable fits gives_it is_there is_below members same world_headers named thrown =
    let listed_so : listed ≡ world.headers = same ∙ world_headers in
    let a : fit ≡ list_all class_fits world.members = fits ∙ ap (list_all class_fits) members in
    let b : give ≡ objects_give world.headers world.members = gives_it ∙ ap (λ (list : List Header). objects_give list classes) listed_so ∙ ap (objects_give world.headers) members in
    let d : there ≡ has_header world.headers object_name = is_there ∙ ap (λ (list : List Header). has_header list object) world_headers ∙ ap (has_header world.headers) named in
    let e : below ≡ is_subclass world.headers throwable_name object_name = is_below ∙ ap (λ (list : List Header). is_subclass list throwable object) world_headers ∙ ap (λ (name : Name). is_subclass world.headers name object) thrown ∙ ap (is_subclass world.headers throwable_name) named in
    ap (λ (x : Bool). x && give && there && below) a ∙ ap (λ (x : Bool). list_all class_fits world.members && x && there && below) b
    ∙ ap (λ (x : Bool). list_all class_fits world.members && objects_give world.headers world.members && x && below) d
    ∙ ap (λ (x : Bool). list_all class_fits world.members && objects_give world.headers world.members && has_header world.headers object_name && x) e

-- ---- lists

both : (one other : Bool) → one && other ≡ true → (one ≡ true) × (other ≡ true)
both true other e = (refl, e)
both false other e = absurd (cc)

each : {A : Type 0} (test : A → Bool) (list : List A) (one : A) → list_all test list ≡ true → Contains list one → test one ≡ true
each test [] one e (k, within, is) = absurd (omega (arith, within))
each test (first ∷ rest) one e (zero, within, is) = ap test (sym is) ∙ (both (test first) (list_all test rest) e).0
each test (first ∷ rest) one e (suc k, within, is) = each test rest one (both (test first) (list_all test rest) e).1 (k, omega (arith, within), is)

-- ---- constants

-- a string's type
text_type : (name : Name) (test : Bool) → bytes_eq name (codes "java/lang/String") ≡ test → (wanted : ℕ) → (if test then 5 else 0) ≡ wanted → ¬ (wanted ≡ 0) → (name ≡ codes "java/lang/String") × (wanted ≡ 5)
text_type name true same wanted e some = ((bytes_eq-Decides name (codes "java/lang/String")).0 same, sym e)
text_type name false differ wanted e some = absurd (some (sym e))

text_of : (name : Name) (wanted : ℕ) → kind_of (Class name) ≡ wanted → ¬ (wanted ≡ 0) → (name ≡ codes "java/lang/String") × (wanted ≡ 5)
text_of name wanted e some = text_type name (bytes_eq name (codes "java/lang/String")) refl wanted e some

constant_fits : (type : JType) (kept : Constant) → kind_of type ≡ number_of kept → FitsField type kept
constant_fits Boolean (constant.Int number) e = refl
constant_fits Byte (constant.Int number) e = refl
constant_fits Char (constant.Int number) e = refl
constant_fits Short (constant.Int number) e = refl
constant_fits types.Int (constant.Int number) e = refl
constant_fits types.Long (constant.Int number) e = absurd (omega (arith, e))
constant_fits Float (constant.Int number) e = absurd (omega (arith, e))
constant_fits Double (constant.Int number) e = absurd (omega (arith, e))
constant_fits (Class name) (constant.Int number) e = absurd (let s = (text_of name 1 e (λ z. omega (arith, z))).1 in omega (arith, s))
constant_fits (Array element) (constant.Int number) e = absurd (omega (arith, e))
constant_fits types.Long (constant.Long number) e = refl
constant_fits Boolean (constant.Long number) e = absurd (omega (arith, e))
constant_fits Byte (constant.Long number) e = absurd (omega (arith, e))
constant_fits Char (constant.Long number) e = absurd (omega (arith, e))
constant_fits Short (constant.Long number) e = absurd (omega (arith, e))
constant_fits types.Int (constant.Long number) e = absurd (omega (arith, e))
constant_fits Float (constant.Long number) e = absurd (omega (arith, e))
constant_fits Double (constant.Long number) e = absurd (omega (arith, e))
constant_fits (Class name) (constant.Long number) e = absurd (let s = (text_of name 2 e (λ z. omega (arith, z))).1 in omega (arith, s))
constant_fits (Array element) (constant.Long number) e = absurd (omega (arith, e))
constant_fits Float (constant.Float bits) e = refl
constant_fits Boolean (constant.Float bits) e = absurd (omega (arith, e))
constant_fits Byte (constant.Float bits) e = absurd (omega (arith, e))
constant_fits Char (constant.Float bits) e = absurd (omega (arith, e))
constant_fits Short (constant.Float bits) e = absurd (omega (arith, e))
constant_fits types.Int (constant.Float bits) e = absurd (omega (arith, e))
constant_fits types.Long (constant.Float bits) e = absurd (omega (arith, e))
constant_fits Double (constant.Float bits) e = absurd (omega (arith, e))
constant_fits (Class name) (constant.Float bits) e = absurd (let s = (text_of name 3 e (λ z. omega (arith, z))).1 in omega (arith, s))
constant_fits (Array element) (constant.Float bits) e = absurd (omega (arith, e))
constant_fits Double (constant.Double bits) e = refl
constant_fits Boolean (constant.Double bits) e = absurd (omega (arith, e))
constant_fits Byte (constant.Double bits) e = absurd (omega (arith, e))
constant_fits Char (constant.Double bits) e = absurd (omega (arith, e))
constant_fits Short (constant.Double bits) e = absurd (omega (arith, e))
constant_fits types.Int (constant.Double bits) e = absurd (omega (arith, e))
constant_fits types.Long (constant.Double bits) e = absurd (omega (arith, e))
constant_fits Float (constant.Double bits) e = absurd (omega (arith, e))
constant_fits (Class name) (constant.Double bits) e = absurd (let s = (text_of name 4 e (λ z. omega (arith, z))).1 in omega (arith, s))
constant_fits (Array element) (constant.Double bits) e = absurd (omega (arith, e))
constant_fits (Class name) (constant.Text units) e = ap Class (text_of name 5 e (λ z. omega (arith, z))).0
constant_fits Boolean (constant.Text units) e = absurd (omega (arith, e))
constant_fits Byte (constant.Text units) e = absurd (omega (arith, e))
constant_fits Char (constant.Text units) e = absurd (omega (arith, e))
constant_fits Short (constant.Text units) e = absurd (omega (arith, e))
constant_fits types.Int (constant.Text units) e = absurd (omega (arith, e))
constant_fits types.Long (constant.Text units) e = absurd (omega (arith, e))
constant_fits Float (constant.Text units) e = absurd (omega (arith, e))
constant_fits Double (constant.Text units) e = absurd (omega (arith, e))
constant_fits (Array element) (constant.Text units) e = absurd (omega (arith, e))

kept_fits : (type : JType) (found : Option Constant) (kept : Constant) → fits type found ≡ true → found ≡ Some kept → FitsField type kept
kept_fits type None kept e some = absurd (cc)
kept_fits type (Some one) kept e some = constant_fits type kept (eqb-true (kind_of type) (number_of one) e ∙ ap number_of (the_one one kept some))
  where
    the_one : (one other : Constant) → Some one ≡ Some other → one ≡ other
    the_one one other e = cc

-- ---- members

from_map : {A B : Type 0} (f : A → B) (list : List A) (one : B) → Contains (map f list) one → (other : A) × Contains list other × (f other ≡ one)
from_map f [] one (k, within, is) = absurd (omega (arith, within))
from_map f (first ∷ rest) one (zero, within, is) = (first, (0, omega arith, refl), is)
from_map f (first ∷ rest) one (suc k, within, is) = let (other, (j, inside, same), e) = from_map f rest one (k, omega (arith, within), is) in (other, (suc j, omega (arith, inside), same), e)

-- the members of a class are some of the world's
members_there : (headers : List Header) (all : List ClassMembers) (class : Name) (found : Members) → members_of headers (map view_members all) class ≡ Some found → (one : ClassMembers) × Contains all one × (view_members one ≡ found)
members_there [] all class found e = absurd (cc)
members_there (header ∷ headers) [] class found e = absurd (cc)
members_there (header ∷ headers) (first ∷ rest) class found e = by (bytes_eq header.name class) e (members_there headers rest class found)
  where
    some : (one other : Members) → Some one ≡ Some other → one ≡ other
    some one other e = cc

    by : (test : Bool) → (if test then Some (view_members first) else members_of headers (map view_members rest) class) ≡ Some found
        → (members_of headers (map view_members rest) class ≡ Some found → (one : ClassMembers) × Contains rest one × (view_members one ≡ found)) → (one : ClassMembers) × Contains (first ∷ rest) one × (view_members one ≡ found)
    by true e later = (first, (0, omega arith, refl), some (view_members first) found e)
    by false e later = let (one, (k, within, is), same) = later e in (one, (suc k, omega (arith, within), is), same)

-- a constant that is known of a field is its own
own_constant : (field : FieldData) (kept : Constant) → (known field).constant ≡ Some kept → field.constant ≡ Some kept
own_constant field kept e = by _ e
  where
    by : (test : Bool) → (if test then field.constant else None) ≡ Some kept → field.constant ≡ Some kept
    by true e = e
    by false e = absurd (cc)

-- each method of Object that may be `clone` gives a value
object_gives : (headers : List Header) (all : List ClassMembers) → objects_give headers all ≡ true → (method : Method) → Contains (methods_in (members_of headers (map view_members all) object_name)) method
    → (one : MethodHead) × (gives one ≡ true) × (view_method one ≡ method)
object_gives [] all e method (k, within, is) = absurd (omega (arith, within))
object_gives (header ∷ headers) [] e method (k, within, is) = absurd (omega (arith, within))
object_gives (header ∷ headers) (first ∷ rest) e method there = by (bytes_eq header.name object_name) e there (object_gives headers rest)
  where
    by : (test : Bool) → (if test then list_all gives first.methods else objects_give headers rest) ≡ true
        → Contains (methods_in (if test then Some (view_members first) else members_of headers (map view_members rest) object_name)) method
        → (objects_give headers rest ≡ true → (method : Method) → Contains (methods_in (members_of headers (map view_members rest) object_name)) method → (one : MethodHead) × (gives one ≡ true) × (view_method one ≡ method))
        → (one : MethodHead) × (gives one ≡ true) × (view_method one ≡ method)
    by true e there later =
        let (one, among, same) = from_map view_method first.methods method there in (one, each gives first.methods one e among, same)
    by false e there later = later e method there

given_value : (named some : Bool) → not named || some ≡ true → named ≡ true → some ≡ true
given_value true some e named = e
given_value false some e named = absurd (cc)

is_there : {A : Type 0} (found : Option A) → is_some found ≡ true → IsSome found
is_there found e = e

both_true : (one other : Bool) → one ≡ true → other ≡ true → one && other ≡ true
both_true true other first second = second
both_true false other first second = absurd (cc)

pub known_worlds : KnownWorlds
known_worlds world is passes = (
  record {
    object = (Decides-has world.headers object_name).0 third.1;
    throwable = (Decides-subclass world.headers throwable_name object_name).0 last.1;
  },
  record {
    paired = length-map world.members view_members ∙ is.paired;
    constants = λ class field kept there e. by class field kept (members_of world.headers (map view_members world.members) class) refl there e;
    clones = clone_gives;
  },
)
  where
    last : (list_all class_fits world.members && objects_give world.headers world.members && has_header world.headers object_name ≡ true) × (is_subclass world.headers throwable_name object_name ≡ true)
    last = both (list_all class_fits world.members && objects_give world.headers world.members && has_header world.headers object_name) (is_subclass world.headers throwable_name object_name) passes

    third : (list_all class_fits world.members && objects_give world.headers world.members ≡ true) × (has_header world.headers object_name ≡ true)
    third = both (list_all class_fits world.members && objects_give world.headers world.members) (has_header world.headers object_name) last.0

    second : (list_all class_fits world.members ≡ true) × (objects_give world.headers world.members ≡ true)
    second = both (list_all class_fits world.members) (objects_give world.headers world.members) third.0

    by : (class : Name) (field : FieldData) (kept : Constant) (found : Option Members) → members_of world.headers (map view_members world.members) class ≡ found → Contains (fields_in found) field → (known field).constant ≡ Some kept → FitsField field.type kept
    by class field kept None none (k, within, inside) e = absurd (omega (arith, within))
    by class field kept (Some found) some there e =
        let (one, among, same) = members_there world.headers world.members class found some in
        let (declared, declares, view) = from_map view_field one.fields field (subst (λ (members : Members). Contains members.fields field) (sym same) there) in
        let right = each field_fits one.fields declared (each class_fits world.members one second.0 among) declares in
        subst (λ (f : FieldData). FitsField f.type kept) view
        (kept_fits (view_type declared.descriptor) declared.constant kept right (subst (λ (f : FieldData). f.constant ≡ Some kept) (sym view) (own_constant field kept e)))

    clone_gives : (method : Method) → Contains (methods_in (members_of world.headers (map view_members world.members) object_name)) method → method.name ≡ codes "clone" → parameters method ≡ [] → IsSome (result_of method.descriptor)
    clone_gives method there named none =
        let (one, right, view) = object_gives world.headers world.members second.1 method there in
        subst (λ (m : Method). IsSome (result_of m.descriptor)) view (is_there (result_of (view_descriptor one.descriptor))
        (given_value (bytes_eq one.name (codes "clone") && length (parameters_of (view_descriptor one.descriptor)) == 0) (is_some (result_of (view_descriptor one.descriptor))) right
        (both_true (bytes_eq one.name (codes "clone")) (length (parameters_of (view_descriptor one.descriptor)) == 0)
        ((bytes_eq-Decides one.name (codes "clone")).1 (ap (λ (m : Method). m.name) view ∙ named))
        (eq-eqb (length (parameters_of (view_descriptor one.descriptor))) 0 (ap (λ (m : Method). length (parameters m)) view ∙ ap length none)))))
