-- The members of a class's unit don't clash, where those of its methods that have a body lead.
use Rattle.std.proofs.Common.{◌≡◌, ◌≢◌, ℕ, suc, ◌+◌, ◌<◌, Bool, true, false, List, [], ◌∷◌, Option, Some, None, IfSome, IsSomeAnd, All, AllPairs, Contains, drop, slice_get, refl, sym, ap, subst, inl, inr, ◌∙◌, arith}
use Rattle.std.specs.List.{AllByRecursion}
use Rattle.std.specs.Prelude.{map, option_map}
use Rattle.std.proofs.lemmas.List.Elements.{All-from_recursion}
use Rattle.std.proofs.lemmas.List.Kept.{AllPairs-cons}
use Rattle.std.proofs.lemmas.Option.{slice_get-map, slice_get_within, get_or_from_slice_get, none-some, same_Some}
use Rattle.dj_names.specs.Headers.{Name}
use Rattle.dj_names.specs.Types.{parameters_of}
use Rattle.dj_class.specs.Described.{ClassOf, FieldOf, MethodOf}
use Rattle.dj_world.specs.Worlds.{WorldOf}
use Rattle.dj_syntax.specs.Trees.{Body, CompilationUnit, FieldText, MethodText}
use Rattle.dj_syntax.specs.UnitText.{is_interface}
use Rattle.dj_signatures.specs.Signatures.{IsAlike, BreaksSignature, method_names}
pub use Rattle.dj_signatures.proofs.CountingLemmas.{MayStand}
use Rattle.dj_signatures.proofs.CountingLemmas.{counted, one_stands}
use Rattle.dj_causes.specs.declared.cause.FieldCause.TheVariants as field_cause
use Rattle.dj_causes.specs.declared.cause.Cause.TheVariants as cause
use Rattle.dj_causes.specs.FieldCauses.{field_names}
use Rattle.dj_class_text.specs.Fields.{ShowsFields}
use Rattle.dj_class_text.specs.Fields as fields
use Rattle.dj_class_text.specs.Methods.{IsTextOfMethod, ShowsMethods}
use Rattle.dj_class_text.specs.Methods as methods
use Rattle.dj_class_text.specs.Helpers.{IsHelper, helper_name}
use Rattle.dj_class_text.specs.ClassText.{IsClassText}
use Rattle.dj_class_text.specs.Apart.{HaveOneSignature, IsApart}
use Rattle.dj_class_text.proofs.FormedLemmas.{head_at}

-- of these methods from a place on, each with a body may stand in a text
abbrev pub BodiesLead : List MethodOf → ℕ → List MethodOf → List (Option Body) → Type 0
BodiesLead all at [] bodies = Unit {0}
BodiesLead all at (method ∷ some) [] = Unit {0}
BodiesLead all at (method ∷ some) (None ∷ bodies) = BodiesLead all (at + 1) some bodies
BodiesLead all at (method ∷ some) (Some body ∷ bodies) = MayStand all at method × BodiesLead all (at + 1) some bodies

first-leads : (all : List MethodOf) (at : ℕ) (method : MethodOf) (some : List MethodOf) (body : Option Body) (bodies : List (Option Body)) → BodiesLead all at (method ∷ some) (body ∷ bodies) → IfSome body (λ one. MayStand all at method) × BodiesLead all (at + 1) some bodies
first-leads all at method some None bodies lead = (tt, lead)
first-leads all at method some (Some body) bodies lead = lead

mapped-at : {A B : Type 0} (f : A → B) (xs : List A) (at : ℕ) (x : A) → slice_get xs at ≡ Some x → slice_get (map f xs) at ≡ Some (f x)
mapped-at f xs at x is = slice_get-map f xs at ∙ ap (option_map f) is

module _ (world : WorldOf) (class : ClassOf) (interface : Bool) where
  -- ---- fields

  -- no field shown from a place on has the name of one before it
  no-field : (name : Name) (earlier at : ℕ) (some : List FieldOf) (texts : List FieldText) → slice_get (field_names class.fields) earlier ≡ Some name → earlier < at → drop at class.fields ≡ some → ShowsFields world class interface at some texts
      → AllByRecursion (λ (other : FieldText). other.name ≢ name) texts
  no-field name earlier at [] [] there before is fields.no_more = tt
  no-field name earlier at [] (text ∷ texts) there before is shows = elim shows [ ]
  no-field name earlier at (field ∷ some) texts there before is (fields.absent found has rest) = no-field name earlier (at + 1) some texts there (omega (arith, before)) (head_at class.fields at field some is).1 rest
  no-field name earlier at (field ∷ some) (text ∷ texts) there before is (fields.shown none rest) = (
    λ same. none field_cause.Signature (record { name = name; here = mapped-at (λ (f : FieldOf). f.name) class.fields at field (head_at class.fields at field some is).0 ∙ ap Some same; earlier = earlier; before = before; there = there }),
    no-field name earlier (at + 1) some texts there (omega (arith, before)) (head_at class.fields at field some is).1 rest,
  )

  fields-apart : (at : ℕ) (some : List FieldOf) (texts : List FieldText) → drop at class.fields ≡ some → ShowsFields world class interface at some texts → AllPairs (λ (field other : FieldText). other.name ≢ field.name) texts
  fields-apart at [] [] is fields.no_more = λ i j d below within. absurd (omega (arith, within))
  fields-apart at [] (text ∷ texts) is shows = elim shows [ ]
  fields-apart at (field ∷ some) texts is (fields.absent found has rest) = fields-apart (at + 1) some texts (head_at class.fields at field some is).1 rest
  fields-apart at (field ∷ some) (text ∷ texts) is (fields.shown none rest) =
      let here = head_at class.fields at field some is in
      AllPairs-cons (λ (one other : FieldText). other.name ≢ one.name) text texts
      (All-from_recursion (λ (other : FieldText). other.name ≢ field.name) texts (no-field field.name at (at + 1) some texts (mapped-at (λ (f : FieldOf). f.name) class.fields at field here.0) (omega arith) here.1 rest))
      (fields-apart (at + 1) some texts here.1 rest)

  -- ---- methods

  -- the method at a place may stand, and has the name and the descriptor of a text
  record IsShown (at : ℕ) (text : MethodText) : Type 0 where
    method : MethodOf
    there : slice_get class.methods at ≡ Some method
    stands : MayStand class.methods at method
    name : text.name ≡ method.name
    descriptor : text.descriptor ≡ method.descriptor

  shown-here : (at : ℕ) (method : MethodOf) (body : Option Body) (text : MethodText) → slice_get class.methods at ≡ Some method → IfSome body (λ one. MayStand class.methods at method) → IsTextOfMethod world class interface at method body (Some text) → IsShown at text
  shown-here at method None text there lead (inl coded) = absurd (none-some text (sym coded.1))
  shown-here at method (Some body) text there lead (inl coded) =
      let is = same_Some text _ coded.1 in
      record { method = method; there = there; stands = lead; name = ap (λ (t : MethodText). t.name) is; descriptor = ap (λ (t : MethodText). t.descriptor) is }
  shown-here at method body text there lead (inr bare) = record {
    method = method;
    there = there;
    stands = counted (λ uncounted. bare.1.0.none cause.Signature (subst (λ (found : Option MethodOf). IsSomeAnd found (BreaksSignature class at)) (sym there) (inr (inl uncounted))));
    name = ap (λ (t : MethodText). t.name) bare.1.1;
    descriptor = ap (λ (t : MethodText). t.descriptor) bare.1.1;
  }

  two-shown : (earlier at : ℕ) (one other : MethodText) → earlier < at → IsShown earlier one → IsShown at other → ¬ HaveOneSignature one other
  two-shown earlier at one other before shown behind same =
      one_stands class.methods earlier at shown.method behind.method before shown.there behind.there
      (record { name = sym behind.name ∙ same.name ∙ shown.name; parameters = ap parameters_of (sym behind.descriptor) ∙ same.parameters ∙ ap parameters_of shown.descriptor })
      shown.stands behind.stands

  -- each method shown from a place on is one of the class's, at that place or behind it
  all-shown : (P : MethodText → Type 0) (at : ℕ) (some : List MethodOf) (bodies : List (Option Body)) (texts : List MethodText) → drop at class.methods ≡ some → BodiesLead class.methods at some bodies → ((place : ℕ) (text : MethodText) → at < place + 1 → IsShown place text → P text)
      → ShowsMethods world class interface at some bodies texts → AllByRecursion P texts
  all-shown P at [] [] [] is lead each methods.no_more = tt
  all-shown P at [] [] (text ∷ texts) is lead each shows = elim shows [ ]
  all-shown P at [] (body ∷ bodies) texts is lead each shows = elim shows [ ]
  all-shown P at (method ∷ some) [] texts is lead each shows = elim shows [ ]
  all-shown P at (method ∷ some) (body ∷ bodies) texts is lead each (methods.absent told rest) =
      all-shown P (at + 1) some bodies texts (head_at class.methods at method some is).1 (first-leads class.methods at method some body bodies lead).1 (λ place text from. each place text (omega (arith, from))) rest
  all-shown P at (method ∷ some) (body ∷ bodies) (text ∷ texts) is lead each (methods.shown told rest) =
      let here = head_at class.methods at method some is in
      let leads = first-leads class.methods at method some body bodies lead in
      (each at text (omega arith) (shown-here at method body text here.0 leads.0 told), all-shown P (at + 1) some bodies texts here.1 leads.1 (λ place text from. each place text (omega (arith, from))) rest)

  methods-apart : (at : ℕ) (some : List MethodOf) (bodies : List (Option Body)) (texts : List MethodText) → drop at class.methods ≡ some → BodiesLead class.methods at some bodies → ShowsMethods world class interface at some bodies texts
      → AllPairs (λ (method other : MethodText). ¬ HaveOneSignature method other) texts
  methods-apart at [] [] [] is lead methods.no_more = λ i j d below within. absurd (omega (arith, within))
  methods-apart at [] [] (text ∷ texts) is lead shows = elim shows [ ]
  methods-apart at [] (body ∷ bodies) texts is lead shows = elim shows [ ]
  methods-apart at (method ∷ some) [] texts is lead shows = elim shows [ ]
  methods-apart at (method ∷ some) (body ∷ bodies) texts is lead (methods.absent told rest) =
      methods-apart (at + 1) some bodies texts (head_at class.methods at method some is).1 (first-leads class.methods at method some body bodies lead).1 rest
  methods-apart at (method ∷ some) (body ∷ bodies) (text ∷ texts) is lead (methods.shown told rest) =
      let here = head_at class.methods at method some is in
      let leads = first-leads class.methods at method some body bodies lead in
      let shown = shown-here at method body text here.0 leads.0 told in
      AllPairs-cons (λ (one other : MethodText). ¬ HaveOneSignature one other) text texts
      (All-from_recursion (λ (other : MethodText). ¬ HaveOneSignature text other) texts
      (all-shown (λ (other : MethodText). ¬ HaveOneSignature text other) (at + 1) some bodies texts here.1 leads.1 (λ place other from behind. two-shown at place text other (omega (arith, from)) shown behind) rest))
      (methods-apart (at + 1) some bodies texts here.1 leads.1 rest)

-- ---- the helper

named-at : (class : ClassOf) (at : ℕ) (name : Name) → slice_get (method_names class.methods) at ≡ Some name → Contains (method_names class.methods) name
named-at class at name there = (at, slice_get_within (method_names class.methods) at name there, get_or_from_slice_get (method_names class.methods) at name name there)

helper-apart : (names : List Name) (texts : List MethodText) (rethrows : Bool) (helper : Option Name) → AllByRecursion (λ (method : MethodText). Contains names method.name) texts → IsHelper names rethrows helper → IfSome helper (λ name. All (λ (method : MethodText). method.name ≢ name) texts)
helper-apart names texts false helper among is = rw is tt
helper-apart names texts true helper among (number, free, is) =
    rw is (All-from_recursion (λ (method : MethodText). method.name ≢ helper_name number) texts (go texts among))
  where
    go : (these : List MethodText) → AllByRecursion (λ (method : MethodText). Contains names method.name) these → AllByRecursion (λ (method : MethodText). method.name ≢ helper_name number) these
    go [] all = tt
    go (text ∷ rest) all = (λ same. free.free (subst (Contains names) same all.0), go rest all.1)

-- ---- the unit

-- no two members of a class's unit clash, where those of its methods that have a body may stand in a text
pub unit_apart : (world : WorldOf) (class : ClassOf) (bodies : List (Option Body)) (unit : CompilationUnit) → BodiesLead class.methods 0 class.methods bodies → IsClassText world class bodies unit → IsApart unit
unit_apart world class bodies unit lead text = record {
  fields = fields-apart world class (is_interface class.flags) 0 class.fields unit.fields refl text.fields;
  methods = methods-apart world class (is_interface class.flags) 0 class.methods bodies unit.methods refl lead text.methods;
  helper = helper-apart (method_names class.methods) unit.methods _ unit.helper
      (all-shown world class (is_interface class.flags) (λ (method : MethodText). Contains (method_names class.methods) method.name) 0 class.methods bodies unit.methods refl lead
      (λ place method from shown. subst (Contains (method_names class.methods)) (sym shown.name) (named-at class place shown.method.name (mapped-at (λ (m : MethodOf). m.name) class.methods place shown.method shown.there))) text.methods)
      text.helper;
}
