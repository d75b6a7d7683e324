-- What is known by the classes that run is kept, by code that keeps Java's rules in a world.
use Rattle.std.proofs.Common.{◌≡◌, ℕ, ℤ, zero, suc, ◌+◌, ◌≤◌, ◌==◌, Bool, true, false, List, [], ◌∷◌, Contains, Some, refl, sym, ap, subst, ◌∙◌, arith}
use Rattle.std.specs.Prelude.{if◌then◌else◌}
use Rattle.std.proofs.lemmas.Bool.{false≢true}
use Rattle.std.proofs.lemmas.Bool.Decides.{Decides-eqb}
use Rattle.dj_names.specs.declared.header.Header.{Header}
use Rattle.dj_names.specs.Headers.{Name}
use Rattle.dj_names.specs.Types.{JType, Class, Array}
use Rattle.dj_names.specs.Assignable.{IsSubtype, own_type, wider_number, parent, elements}
use Rattle.dj_values.specs.Values.{RefValue}
use Rattle.dj_values.specs.Fits.{IsLengthOf, IsArray, throwable_name, element_of, IsObject, IsThrowable}
use Rattle.dj_values.specs.Answers.{IsNewArray}
use Rattle.dj_instructions.specs.Instructions.{Instruction, Instructions, New, instruction_at, IsRising, IsRisingFrom}
use Rattle.dj_code.specs.MethodCode.{Code}
use Rattle.dj_tags.specs.Laxly.{Strictly}
use Rattle.dj_loaded.specs.Loaded.{AreLoadable, MayRun, IsInstanceOf}
use Rattle.dj_loaded.proofs.Paths.{subclass-above}
use Rattle.dj_loaded.proofs.Going.{reference-step, not-wider, instance-goes}
use Rattle.dj_loaded.proofs.Instances.{fits}
use Rattle.dj_loaded.proofs.Roots.{up}
use Rattle.dj_typed_states.specs.Facts.{string_name, class_name, AreKept, IsMadeAt, classes}
use Rattle.dj_typed_states.proofs.Shapes.{subtype_shape, length_reference}
use Rattle.dj_typed_states.proofs.Shaped.{array_reference}

-- ---- places

-- offsets that rise are no less than the first
no_less : (least : ℕ) (list : Instructions) (pc : ℕ) (instruction : Instruction) → IsRisingFrom least list → Contains list (pc, instruction) → least ≤ pc
no_less least [] pc instruction rising (k, within, is) = absurd (omega (arith, within))
no_less least (first ∷ rest) pc instruction rising (zero, within, is) = let same : first.0 ≡ pc = ap (λ (one : ℕ × Instruction). one.0) is in omega (arith, rising.0, same)
no_less least (first ∷ rest) pc instruction rising (suc k, within, is) = let later = no_less (first.0 + 1) rest pc instruction rising.1 (k, omega (arith, within), is) in omega (arith, rising.0, later)

-- so the instruction that stands at an offset is the one there
placed : (least : ℕ) (list : Instructions) (pc : ℕ) (instruction : Instruction) → IsRisingFrom least list → Contains list (pc, instruction) → instruction_at list pc ≡ Some instruction
placed least [] pc instruction rising (k, within, is) = absurd (omega (arith, within))
placed least (first ∷ rest) pc instruction rising (zero, within, is) =
    rw ((Decides-eqb first.0 pc).1 (ap (λ (one : ℕ × Instruction). one.0) is)) (ap (λ (one : ℕ × Instruction). Some one.1) is)
placed least (first ∷ rest) pc instruction rising (suc k, within, is) =
    let later : Contains rest (pc, instruction) = (k, omega (arith, within), is) in
    let far = no_less (first.0 + 1) rest pc instruction rising.1 later in
    go (first.0 == pc) refl far (placed (first.0 + 1) rest pc instruction rising.1 later)
  where
    go : (test : Bool) → first.0 == pc ≡ test → first.0 + 1 ≤ pc → instruction_at rest pc ≡ Some instruction → (if test then Some first.1 else instruction_at rest pc) ≡ Some instruction
    go true same far later = let e : first.0 ≡ pc = (Decides-eqb first.0 pc).0 same in absurd (omega (arith, e, far))
    go false differ far later = later

pub stands_there : (list : Instructions) (pc : ℕ) (instruction : Instruction) → IsRising list → Contains list (pc, instruction) → instruction_at list pc ≡ Some instruction
stands_there [] pc instruction rising has = placed 0 [] pc instruction tt has
stands_there (first ∷ rest) pc instruction rising has = placed 0 (first ∷ rest) pc instruction (omega arith, subst (λ least. IsRisingFrom (least + 1) rest) (sym rising.0) rising.1) has

-- ---- objects

array_length : (type : JType) (length : ℕ) → IsArray type → length ≤ 2147483647 → IsLengthOf type length
array_length (Array element) length is short = short
array_length type length is short = absurd (false≢true is)

module _ (headers : List Header) where
  -- an object of exactly a class
  pub exact_of : (class : Name) (reference : RefValue) → IsObject class reference → IsInstanceOf headers (Class class) reference
  exact_of class reference is = record {
    wanted = tt;
    length = subst (λ type. IsLengthOf type reference.length) (sym is.exact) is.length;
    assignable = subst (λ type. IsSubtype headers type (Class class)) (sym is.exact) own_type;
  }

  -- a new array
  pub array_of : (type : JType) (sizes : List ℤ) (reference : RefValue) → IsNewArray type sizes reference → IsInstanceOf headers type reference
  array_of type sizes reference is = record {
    wanted = array_reference type is.array;
    length = subst (λ class. IsLengthOf class reference.length) (sym is.exact) (array_length type reference.length is.array is.most);
    assignable = subst (λ class. IsSubtype headers class type) (sym is.exact) own_type;
  }

  -- an exception
  pub thrown_of : (reference : RefValue) → IsThrowable headers reference → IsInstanceOf headers (Class throwable_name) reference
  thrown_of reference thrown =
      let exact = thrown.object.exact in
      record {
        wanted = tt;
        length = subst (λ type. IsLengthOf type reference.length) (sym exact) thrown.object.length;
        assignable = subst (λ type. IsSubtype headers type (Class throwable_name)) (sym exact) (parent (subclass-above thrown.below));
      }

  -- a reference whose class passes a cast
  pub cast_of : (from to : JType) (reference : RefValue) → IsInstanceOf headers from reference → IsSubtype headers reference.class to → IsInstanceOf headers to reference
  cast_of from to reference of passed = record { wanted = reference-step headers reference.class to passed (length_reference reference.class reference.length of.length); length = of.length; assignable = passed }

  -- an element that an array holds
  pub element_of_array : AreLoadable headers → (element kept class : JType) (one : RefValue) → IsSubtype headers class (Array element) → element_of class ≡ Some kept → IsInstanceOf headers kept one → IsInstanceOf headers element one
  element_of_array are element kept class one own_type has is = subst (λ type. IsInstanceOf headers type one) (let same : kept ≡ element = cc in same) is
  element_of_array are element kept class one (wider_number within) has is = absurd (not-wider class (Array element) within tt)
  element_of_array are element kept class one (elements {from = lower} reference goes) has is =
      instance-goes headers are lower element one goes (subst (λ type. IsInstanceOf headers type one) (let same : kept ≡ lower = cc in same) is)

-- ---- facts

pub classes_kept : (world headers : List Header) (code : Code) → MayRun world headers → IsRising code.instructions → AreKept (Strictly world) headers code (classes headers code)
classes_kept world headers code may rising = record {
  reference = λ type one of. length_reference one.class one.length of.length;
  shape = λ type one of. subtype_shape headers one.class type (length_reference one.class one.length of.length) of.assignable;
  this_reference = λ one of. length_reference one.class one.length of.length;
  made_reference = λ pc one made. length_reference one.class one.length made.of.length;
  fits = fits headers;
  this_fits = λ one is. fits headers (Class code.class) one is;
  thrown = λ one is. thrown_of headers one is;
  element = λ element kept array one of here is. element_of_array headers may.loadable element kept array.class one of.assignable here (fits headers kept one is);
  new = λ pc class one has is. record { class = class; here = stands_there code.instructions pc (New class) rising has; exact = is.exact; of = exact_of headers class one is };
  array = λ type sizes one is. array_of headers type sizes one is;
  text = λ units. exact_of headers string_name _ (record { exact = refl; length = refl });
  class = λ one is. exact_of headers class_name one is;
  goes = λ from to one goes of. instance-goes headers may.loadable from to one (up world headers may from to goes) of;
  cast = λ from to one of passed. cast_of headers from to one of passed;
  this_born = λ one of. of;
  born = λ pc owner one is made. constructed pc owner one is.class is.here is.same made;
}
  where
    constructed : (pc : ℕ) (owner : JType) (one : RefValue) (class : Name) → instruction_at code.instructions pc ≡ Some (New class) → owner ≡ Class class → IsMadeAt headers code pc one → IsInstanceOf headers owner one
    constructed pc owner one class here same made =
        let is : made.class ≡ class = (let e : Some (New made.class) ≡ Some (New class) = sym made.here ∙ here in cc) in
        subst (λ type. IsInstanceOf headers type one) (ap Class is ∙ sym same) made.of
