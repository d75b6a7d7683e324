-- The table of the specs: each of its descriptors is one.
use Rattle.std.proofs.Common.{◌≡◌, ℕ, zero, suc, ◌<◌, Bool, true, List, [], ◌∷◌, length, map, get_or, slice_get, Option, Some, None, IsSomeAnd, All, codes, option_map, refl, sym, ap, subst, ◌∙◌}
use Rattle.std.specs.List.{AllByRecursion, list_all}
use Rattle.std.proofs.lemmas.List.Elements.{All-from_recursion, recursion_from_All, All-map, All-nil}
use Rattle.std.proofs.lemmas.Simd.{map-map}
use Rattle.std.proofs.lemmas.Option.{same_Some, none-some, slice_get-map, slice_get-get_or}
use Rattle.dj_names.specs.declared.header.Header.{Header}
use Rattle.dj_names.specs.declared.members.MethodHead.{MethodHead}
use Rattle.dj_names.specs.declared.members.ClassMembers.{ClassMembers}
use Rattle.dj_names.specs.Headers.{Name}
use Rattle.dj_names.specs.ClassNames.{IsClassName}
use Rattle.dj_core.specs.declared.rows.Row.{Row}
use Rattle.dj_core.specs.CoreClass.{CoreMethod, CoreClass, view_head, IsMade}
use Rattle.dj_core.specs.CoreTable.{object, string, string_builder, throwable, char_sequence, core_classes}
use Rattle.dj_core.specs.Rows.{Line, Lines, IsSound, spell_method, spell_class, row_lines, row_header, HasSpellings, IsSpelling, AddsLines, AreRowMembers}
use Rattle.dj_core.proofs.LineLemmas.{same_methods}
use Rattle.dj_core.proofs.NameTests.{class_of_words, is_known_descriptor, known_descriptor, both}

-- the classes that descriptors of the table name
abbrev known : List Name
known = object ∷ string ∷ string_builder ∷ throwable ∷ char_sequence ∷ codes "java/lang/Class" ∷ []

all_known : AllByRecursion IsClassName known
all_known = (
  class_of_words (codes "java") (codes "lang" ∷ codes "Object" ∷ []) refl,
  (
    class_of_words (codes "java") (codes "lang" ∷ codes "String" ∷ []) refl,
    (
      class_of_words (codes "java") (codes "lang" ∷ codes "StringBuilder" ∷ []) refl,
      (
        class_of_words (codes "java") (codes "lang" ∷ codes "Throwable" ∷ []) refl,
        (
          class_of_words (codes "java") (codes "lang" ∷ codes "CharSequence" ∷ []) refl,
          (class_of_words (codes "java") (codes "lang" ∷ codes "Class" ∷ []) refl, tt),
        ),
      ),
    ),
  ),
)

abbrev is_good : CoreMethod → Bool
is_good core = is_known_descriptor known core.descriptor

abbrev are_good : CoreClass → Bool
are_good core = list_all is_good core.methods

good_methods : (methods : List CoreMethod) → list_all is_good methods ≡ true → AllByRecursion IsSound methods
good_methods [] h = tt
good_methods (method ∷ methods) h =
    let parts = both (is_good method) (list_all is_good methods) h in
    (known_descriptor known all_known method.descriptor parts.0, good_methods methods parts.1)

good_class : (classes : List CoreClass) (at : ℕ) (core : CoreClass) → list_all are_good classes ≡ true → slice_get classes at ≡ Some core → AllByRecursion IsSound core.methods
good_class [] zero core h is = absurd (none-some core is)
good_class [] (suc at) core h is = absurd (none-some core is)
good_class (class ∷ classes) zero core h is =
    let parts = both (are_good class) (list_all are_good classes) h in
    subst (λ (c : CoreClass). AllByRecursion IsSound c.methods) (same_Some class core is) (good_methods class.methods parts.0)
good_class (class ∷ classes) (suc at) core h is = good_class classes at core (both (are_good class) (list_all are_good classes) h).1 is

all_good : list_all are_good core_classes ≡ true
all_good = refl

-- each method of a class of the table has a descriptor that a method may have
pub core_is_sound : (at : ℕ) (core : CoreClass) → slice_get core_classes at ≡ Some core → AllByRecursion IsSound core.methods
core_is_sound at core is = good_class core_classes at core all_good is

-- and its spelling is one
pub spellings : (methods : List CoreMethod) → AllByRecursion IsSound methods → AllByRecursion (λ line. IsSpelling line.descriptor) (map spell_method methods)
spellings [] all = tt
spellings (method ∷ methods) all = (record { descriptor = method.descriptor; spelled = record { descriptor_is = all.0; spelled = refl } }, spellings methods all.1)

-- ---- rows

no_line : {A B : Type 0} (f : A → B) (found : Option A) (l : B) → option_map f found ≡ Some l → IsSomeAnd found (λ x. l ≡ f x)
no_line f None l is = absurd cc
no_line f (Some x) l is = sym (same_Some (f x) l is)

pub row_of : (rows : List Row) (at : ℕ) (d : Row) → map row_lines rows ≡ map spell_class core_classes → at < length rows → IsSomeAnd (slice_get core_classes at) (λ core. row_lines (get_or rows at d) ≡ spell_class core)
row_of rows at d same within =
    no_line spell_class (slice_get core_classes at) (row_lines (get_or rows at d))
    (sym (slice_get-map spell_class core_classes at) ∙ ap (λ (ls : List Lines). slice_get ls at) (sym same) ∙ slice_get-map row_lines rows at
    ∙ ap (option_map row_lines) (slice_get-get_or rows at d within))

and_some : {A : Type 0} (P : A → Type 0) (found : Option A) → IsSomeAnd found P → (x : A) × (found ≡ Some x) × P x
and_some P None none = absurd none
and_some P (Some x) holds = (x, refl, holds)

pub row_spelled : (at : ℕ) (row : Row) → IsSomeAnd (slice_get core_classes at) (λ core. row_lines row ≡ spell_class core) → HasSpellings (row_lines row).methods
row_spelled at row some =
    let found = and_some (λ (core : CoreClass). row_lines row ≡ spell_class core) (slice_get core_classes at) some in
    let P : Line → Type 0 = λ l. IsSpelling l.descriptor in
    subst (λ (ls : List Line). All P ls) (sym (ap (λ (l : Lines). l.methods) found.2))
    (All-from_recursion P (map spell_method found.0.methods) (spellings found.0.methods (core_is_sound at found.0 found.1)))

-- ---- what is made of a row

made_methods : (heads : List MethodHead) (lines : List Line) (methods : List CoreMethod) → AddsLines [] heads lines → lines ≡ map spell_method methods → AllByRecursion IsSound methods → map view_head heads ≡ methods
made_methods heads lines methods adds same sound =
    same_methods (map view_head heads) methods
    (recursion_from_All IsSound (map view_head heads) (All-map IsSound view_head heads (adds.sound (All-nil (λ (h : MethodHead). IsSound (view_head h))))))
    sound
    (map-map spell_method view_head heads ∙ adds.spelled ∙ same)

header_of_lines : Lines → Header
header_of_lines l = record { name = l.name; superclass = l.superclass; interfaces = l.interfaces; flags = l.flags }

pub made : (at : ℕ) (row : Row) (header : Header) (members : ClassMembers) → IsSomeAnd (slice_get core_classes at) (λ core. row_lines row ≡ spell_class core) → header ≡ row_header row → AreRowMembers row members
    → IsSomeAnd (slice_get core_classes at) (λ core. IsMade core header members)
unfolding header_of_lines
made at row header members some header_is are =
    let found = and_some (λ (core : CoreClass). row_lines row ≡ spell_class core) (slice_get core_classes at) some in
    let core = found.0 in
    subst (λ (o : Option CoreClass). IsSomeAnd o (λ c. IsMade c header members)) (sym found.1)
    (record {
      header_is = header_is ∙ ap header_of_lines found.2;
      are_members = record {
        fields = are.fields;
        methods = made_methods members.methods (row_lines row).methods core.methods are.methods (ap (λ (l : Lines). l.methods) found.2) (core_is_sound at core found.1);
        named = are.named ∙ ap (λ (l : Lines). l.name ∷ []) found.2;
      };
    })
