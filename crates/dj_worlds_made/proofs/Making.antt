-- The world that files make.
use Rattle.std.proofs.Common.{◌≡◌, ◌≢◌, ℕ, zero, suc, Bool, true, false, ◌&&◌, ◌||◌, List, [], ◌∷◌, Contains, Option, Some, None, inl, inr, refl, sym, ap, subst, ◌∙◌, arith}
use Rattle.std.specs.Prelude.{if◌then◌else◌, map, is_some}
use Rattle.std.specs.List.{list_all}
use Rattle.std.proofs.lemmas.List.{length-map}
use Rattle.std.proofs.lemmas.List.Elements.{Contains-push_cases}
use Rattle.dj_names.specs.declared.header.Header.{Header}
use Rattle.dj_names.specs.declared.members.Constant.{Constant}
use Rattle.dj_names.specs.declared.members.Field.{Field}
use Rattle.dj_names.specs.declared.members.ClassMembers.{ClassMembers}
use Rattle.dj_names.specs.Headers.{Name, names}
use Rattle.dj_names.specs.Types.{view_type}
use Rattle.dj_names.specs.Assignable.{object_name}
use Rattle.dj_values.specs.Deciding.{is_name}
use Rattle.dj_values.proofs.Deciding.{Decides-name}
use Rattle.dj_class.specs.declared.class.ClassFile.{ClassFile}
use Rattle.dj_class.specs.Described.{SpellsClass}
use Rattle.dj_class.specs.Views as class_views
use Rattle.dj_class.specs.Views.{view_class}
use Rattle.dj_core.specs.CoreClass.{CoreClass, core_header, AreCoreMembers}
use Rattle.dj_core.specs.CoreTable.{core_classes}
use Rattle.dj_world.specs.Worlds.{WorldOf, IsAdded, header_of}
use Rattle.dj_world.specs.Filling.{Takes, added, passed_over, Fills}
use Rattle.dj_meaning.specs.Members.{Members, Field as FieldData, view_members, view_field}
use Rattle.dj_meaning.specs.Fields.{known}
use Rattle.dj_meaning.specs.Visible.{members_of, fields_in}
use Rattle.dj_loaded.specs.Loaded.{AreRooted}
use Rattle.dj_held.specs.Running.{FitsField}
use Rattle.dj_load.specs.HeldFiles.{FileIs, IsClass, IsClash, IsBroken, IsFile, AreFiles, no_classes, oldest_named, oldest_library}
use Rattle.dj_worlds_made.specs.Made.{WorldsAreMade, MadeWorldsHaveMembers}
use Rattle.dj_worlds_made.proofs.Fields.{superclass_named, constants_fit}

-- ---- what is kept as classes are added

-- a header names a superclass, but for Object's
abbrev IsRooted : Header → Type 0
IsRooted header = header.name ≢ object_name → (upper : Name) × (header.superclass ≡ Some upper)

-- each constant is of its field's type
abbrev HasConstants : ClassMembers → Type 0
HasConstants members = (field : Field) (kept : Constant) → Contains members.fields field → field.constant ≡ Some kept → FitsField (view_type field.descriptor) kept

record IsKept (world : WorldOf) : Type 0 where
  headers : (header : Header) → Contains world.headers header → IsRooted header
  members : (members : ClassMembers) → Contains world.members members → HasConstants members

kept_added : (old new : WorldOf) (header : Header) (brought : ClassMembers) → IsKept old → IsAdded old header brought new → IsRooted header → HasConstants brought → IsKept new
kept_added old new header brought kept is rooted constants = record {
  headers = λ one there. elim (Contains-push_cases old.headers header one (subst (λ (list : List Header). Contains list one) is.headers there)) [
    | inl before ↦ kept.headers one before
    | inr last ↦ subst IsRooted last rooted
  ];
  members = λ one there. elim (Contains-push_cases old.members brought one (subst (λ (list : List ClassMembers). Contains list one) is.members there)) [
    | inl before ↦ kept.members one before
    | inr last ↦ subst HasConstants last constants
  ];
}

-- ---- files

in_map : {A B : Type 0} (f : A → B) (list : List A) (one : A) → Contains list one → Contains (map f list) (f one)
in_map f [] one (k, within, is) = absurd (omega (arith, within))
in_map f (first ∷ rest) one (zero, within, is) = (0, omega arith, ap f is)
in_map f (first ∷ rest) one (suc k, within, is) = let (j, inside, same) = in_map f rest one (k, omega (arith, within), is) in (suc j, omega (arith, inside), same)

file_constants : (bytes : List ℕ) (oldest : ℕ) (class : ClassFile) → SpellsClass bytes oldest (view_class class) → (field : Field) (kept : Constant) → Contains class.fields field → field.constant ≡ Some kept → FitsField (view_type field.descriptor) kept
file_constants bytes oldest class spells field kept there some = constants_fit bytes oldest (view_class class) spells (class_views.view_field field) (in_map class_views.view_field class.fields field there) kept some

kept_file : (oldest : ℕ) (old new : WorldOf) (bytes : List ℕ) (file : FileIs) → IsKept old → IsFile oldest old bytes file new → IsKept new
kept_file oldest old new bytes (IsClass class) kept (spells, added_file) =
    kept_added old new (header_of class) added_file.its_members kept added_file.is_added (λ other. superclass_named bytes oldest (view_class class) spells other)
    (λ field kept_one there some. file_constants bytes oldest class spells field kept_one (subst (λ (list : List Field). Contains list field) added_file.are_members.fields there) some)
kept_file oldest old new bytes (IsClash kind) kept (clash, same) = subst IsKept (sym same) kept
kept_file oldest old new bytes (IsBroken kind offset) kept (fault, same) = subst IsKept (sym same) kept

kept_files : (oldest : ℕ) (contents : List (List ℕ)) (found : List FileIs) (old new : WorldOf) → IsKept old → AreFiles oldest old contents found new → IsKept new
kept_files oldest [] [] old new kept same = subst IsKept (sym same) kept
kept_files oldest [] (file ∷ found) old new kept none = absurd none
kept_files oldest (bytes ∷ contents) [] old new kept none = absurd none
kept_files oldest (bytes ∷ contents) (file ∷ found) old new kept (between, is, further) = kept_files oldest contents found between new (kept_file oldest old between bytes file kept is) further

-- ---- the core

-- a core class names a superclass, but for Object
abbrev is_rooted : CoreClass → Bool
is_rooted core = is_name core.name object_name || is_some core.superclass

core_rooted : (core : CoreClass) → is_rooted core ≡ true → IsRooted (core_header core)
core_rooted core test other = by (is_name core.name object_name) refl core.superclass refl test
  where
    by : (same : Bool) → is_name core.name object_name ≡ same → (found : Option Name) → core.superclass ≡ found → same || is_some found ≡ true → (upper : Name) × (core.superclass ≡ Some upper)
    by true same found is e = absurd (other ((Decides-name core.name object_name).0 same))
    by false differ None is e = absurd (cc)
    by false differ (Some upper) is e = (upper, is)

core_constants : (core : CoreClass) (members : ClassMembers) → AreCoreMembers core members → HasConstants members
core_constants core members are field kept there some = absurd (let (k, within, is) = subst (λ (list : List Field). Contains list field) are.fields there in omega (arith, within))

both_tests : (one other : Bool) → one && other ≡ true → (one ≡ true) × (other ≡ true)
both_tests true other e = (refl, e)
both_tests false other e = absurd (cc)

kept_core : (cores : List CoreClass) (old new : WorldOf) → list_all is_rooted cores ≡ true → IsKept old → Fills old cores new → IsKept new
kept_core [] old new tests kept same = subst IsKept same kept
kept_core (core ∷ cores) old new tests kept (between, takes, further) =
    let both = both_tests (is_rooted core) (list_all is_rooted cores) tests in
    kept_core cores between new both.1 (by takes both.0) further
  where
    by : Takes old core between → is_rooted core ≡ true → IsKept between
    by (added members are is) test = kept_added old between (core_header core) members kept is (core_rooted core test) (core_constants core members are)
    by (passed_over kind clashes same) test = subst IsKept (sym same) kept

nothing_kept : IsKept no_classes
nothing_kept = record { headers = λ header there. absurd (let (k, within, is) = there in omega (arith, within)); members = λ members there. absurd (let (k, within, is) = there in omega (arith, within)) }

-- ---- together

header_named : (headers : List Header) (class : Name) → Contains (names headers) class → (header : Header) × Contains headers header × (header.name ≡ class)
header_named [] class (k, within, is) = absurd (omega (arith, within))
header_named (header ∷ headers) class (zero, within, is) = (header, (0, omega arith, refl), is)
header_named (header ∷ headers) class (suc k, within, is) =
    let (one, (j, inside, same), named) = header_named headers class (k, omega (arith, within), is) in (one, (suc j, omega (arith, inside), same), named)

rooted_in : (headers : List Header) → ((header : Header) → Contains headers header → IsRooted header) → AreRooted headers
rooted_in headers each class there other =
    let (header, (k, within, is), named) = header_named headers class there in
    let (upper, super) = each header (k, within, is) (λ object. other (sym named ∙ object)) in
    (upper, (k, header, within, is, (named, super)))

pub worlds_made : WorldsAreMade
worlds_made contents library found world makes =
    let named = kept_files oldest_named contents found.named no_classes makes.of_named nothing_kept makes.named in
    let files = kept_files oldest_library library found.library makes.of_named makes.of_files named makes.behind in
    let all = kept_core core_classes makes.of_files world refl files makes.filled in
    record { rooted = rooted_in world.headers all.headers; constants = λ members field kept there among some. all.members members there field kept among some }

-- ---- members

-- the members of a class are some of the world's
members_there : (headers : List Header) (all : List ClassMembers) (class : Name) (found : Members) → members_of headers (map view_members all) class ≡ Some found → (one : ClassMembers) × Contains all one × (view_members one ≡ found)
members_there [] all class found e = absurd (cc)
members_there (header ∷ headers) [] class found e = absurd (cc)
members_there (header ∷ headers) (first ∷ rest) class found e = by (is_name header.name class) e (members_there headers rest class found)
  where
    some : (one other : Members) → Some one ≡ Some other → one ≡ other
    some one other e = cc

    by : (test : Bool) → (if test then Some (view_members first) else members_of headers (map view_members rest) class) ≡ Some found
        → (members_of headers (map view_members rest) class ≡ Some found → (one : ClassMembers) × Contains rest one × (view_members one ≡ found)) → (one : ClassMembers) × Contains (first ∷ rest) one × (view_members one ≡ found)
    by true e later = (first, (0, omega arith, refl), some (view_members first) found e)
    by false e later = let (one, (k, within, is), same) = later e in (one, (suc k, omega (arith, within), is), same)

from_map : {A B : Type 0} (f : A → B) (list : List A) (one : B) → Contains (map f list) one → (other : A) × Contains list other × (f other ≡ one)
from_map f [] one (k, within, is) = absurd (omega (arith, within))
from_map f (first ∷ rest) one (zero, within, is) = (first, (0, omega arith, refl), is)
from_map f (first ∷ rest) one (suc k, within, is) = let (other, (j, inside, same), e) = from_map f rest one (k, omega (arith, within), is) in (other, (suc j, omega (arith, inside), same), e)

-- a constant that is known of a field is its own
own_constant : (field : FieldData) (kept : Constant) → (known field).constant ≡ Some kept → field.constant ≡ Some kept
own_constant field kept e = by _ e
  where
    by : (test : Bool) → (if test then field.constant else None) ≡ Some kept → field.constant ≡ Some kept
    by true e = e
    by false e = absurd (cc)

pub have_members : MadeWorldsHaveMembers
have_members world is made clones = record {
  paired = length-map world.members view_members ∙ is.paired;
  constants = λ class field kept there e. by class field kept (members_of world.headers (map view_members world.members) class) refl there e;
  clones = clones;
}
  where
    by : (class : Name) (field : FieldData) (kept : Constant) (found : Option Members) → members_of world.headers (map view_members world.members) class ≡ found → Contains (fields_in found) field → (known field).constant ≡ Some kept → FitsField field.type kept
    by class field kept None none (k, within, is) e = absurd (omega (arith, within))
    by class field kept (Some found) some there e =
        let (one, among, same) = members_there world.headers world.members class found some in
        let (declared, declares, view) = from_map view_field one.fields field (subst (λ (members : Members). Contains members.fields field) (sym same) there) in
        subst (λ (f : FieldData). FitsField f.type kept) view
        (made.constants one declared kept among declares (subst (λ (f : FieldData). f.constant ≡ Some kept) (sym view) (own_constant field kept e)))
