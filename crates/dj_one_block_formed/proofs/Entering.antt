-- The variables of a method of one block may stand at the head of its body.
use Rattle.std.proofs.Common.{arith, ℕ, zero, suc, ◌+◌, ◌-◌, ◌==◌, ◌≡◌, ◌≢◌, Bool, true, false, not, List, [], ◌∷◌, ◌++◌, length, map, drop, replicate, Option, Some, None, Contains, refl, sym, ap, ◌∙◌, subst}
use Rattle.std.specs.Prelude.{◌&&◌, ◌||◌, nat_lt, if◌then◌else◌, slice_get, IsSomeAnd, IsTrue, option_map, bit_and}
use Rattle.std.specs.List.{list_any, flat_map}
use Rattle.std.specs.Str.{bytes_eq}
use Rattle.std.proofs.lemmas.Bool.{eq-eqb, false≢true}
use Rattle.std.proofs.lemmas.Bool.Decides.{nat_tests}
use Rattle.std.proofs.lemmas.Option.{slice_get_within, slice_get-map}
use Rattle.dj_names.specs.declared.header.Header.{Header}
use Rattle.dj_names.specs.declared.members.ClassMembers.{ClassMembers}
use Rattle.dj_names.specs.Headers.{Name}
use Rattle.dj_names.specs.Types as type
use Rattle.dj_names.specs.Types.{JType, Class, Array, Descriptor, Field, Method, parameters_of}
use Rattle.dj_names.specs.Assignable.{IsReference, object_name}
use Rattle.dj_values.specs.Fits.{is_static}
use Rattle.dj_values.proofs.Deciding.{Decides-subtype}
use Rattle.dj_instructions.specs.declared.kinds.Kind.{Kind}
use Rattle.dj_instructions.specs.declared.kinds.Kind.TheVariants as kind
use Rattle.dj_instructions.specs.Instructions.{Instruction, Instructions}
use Rattle.dj_frames.specs.Frames.{Tag, Top, Int, Float, Double, Long, Null, UnbornThis, Object, Unborn, tag_of, slots_of, has_unborn_this, this_of, receiver_of, entry_values}
use Rattle.dj_code.specs.MethodCode.{Code}
use Rattle.dj_tags.specs.Goes.{Working, LocalGoes, ReferenceGoes}
use Rattle.dj_tags.specs.Laxly.{Strictly}
use Rattle.dj_effects.specs.Operands.{HasKind, HasOperands, is_reference as is_tag_reference}
use Rattle.dj_effects.specs.Effects.{or_top}
use Rattle.dj_effects.specs.Rows.{work}
use Rattle.dj_class.specs.Described.{MethodOf}
use Rattle.dj_verify.specs.Rules.{head_of, entry}
use Rattle.dj_sound.specs.States.{table_of, IsStrict}
use Rattle.dj_typing.specs.Sites.{Site, is_whole, may_name, may_name_type}
use Rattle.dj_code_causes.specs.Floats.{has_float, gives_float, spells_float, is_float_kind, works_on_float}
use Rattle.dj_code_causes.specs.NamedIn.{in_descriptor}
use Rattle.dj_member_nodes.specs.Named.{RootsAreNamed, AreNamed, IsNamed}
use Rattle.dj_blocks_formed.proofs.Spilled.{named-whole}
use Rattle.dj_vars.specs.Slots.{from_bottom, slot_tag, type_of_tag, type_of_slot}
use Rattle.dj_vars.specs.Naming.{Begins, Writes, by_store, by_count, HasType, at_start, by_write, AreVars, SaysReferences}
use Rattle.dj_vars.specs.Parameters.{parameter_slots}
use Rattle.dj_blocks_shown.specs.Leaving.{Parts}
use Rattle.dj_declare.specs.Heads.{has_dummy}
use Rattle.dj_declaring.specs.Bodies.{Writing}
use Rattle.dj_declaring.specs.Starting.{MayEnter}
use Rattle.dj_method.specs.Parts.{entry_of}
use Rattle.dj_one_block_formed.specs.Ready.{site_of}
use Rattle.dj_one_block_formed.specs.Entering.{IsSaidThrough, VariablesMayEnter}
use Rattle.dj_one_block_formed.proofs.Naming.{AreSaid, SaysWell, table-well, entry-well, said-slot, type-said}
use Rattle.dj_one_block_formed.proofs.Said.{parameters-named, given-said}
use Rattle.dj_one_block_formed.proofs.Beginning.{BeginsWell, begins-well, first-place, operands-at, entry-slot, this-slot}
use Rattle.dj_declaring.specs.Entries.{may_copy, is_kept_as_int, is_long}

-- ---- types that go

no-type : (one : JType) → None ≡ Some one → ⊥
no-type one e = cc

same-type : (first second : JType) → Some first ≡ Some second → first ≡ second
same-type first second e = cc

-- what is an int as the machine sees it is kept as one
as-int : (given : JType) → tag_of given ≡ Int → is_kept_as_int given ≡ true
as-int type.Boolean e = refl
as-int type.Byte e = refl
as-int type.Char e = refl
as-int type.Short e = refl
as-int type.Int e = refl
as-int type.Long e = absurd (cc)
as-int type.Float e = absurd (cc)
as-int type.Double e = absurd (cc)
as-int (Class name) e = absurd (cc)
as-int (Array element) e = absurd (cc)

as-long : (given : JType) → tag_of given ≡ Long → is_long given ≡ true
as-long type.Boolean e = absurd (cc)
as-long type.Byte e = absurd (cc)
as-long type.Char e = absurd (cc)
as-long type.Short e = absurd (cc)
as-long type.Int e = absurd (cc)
as-long type.Long e = refl
as-long type.Float e = absurd (cc)
as-long type.Double e = absurd (cc)
as-long (Class name) e = absurd (cc)
as-long (Array element) e = absurd (cc)

-- nothing but a float is one
as-float : (given : JType) → has_float given ≡ false → tag_of given ≡ Float → ⊥
as-float type.Boolean plain e = cc
as-float type.Byte plain e = cc
as-float type.Char plain e = cc
as-float type.Short plain e = cc
as-float type.Int plain e = cc
as-float type.Long plain e = cc
as-float type.Float plain e = cc
as-float type.Double plain e = cc
as-float (Class name) plain e = cc
as-float (Array element) plain e = cc

as-double : (given : JType) → has_float given ≡ false → tag_of given ≡ Double → ⊥
as-double type.Boolean plain e = cc
as-double type.Byte plain e = cc
as-double type.Char plain e = cc
as-double type.Short plain e = cc
as-double type.Int plain e = cc
as-double type.Long plain e = cc
as-double type.Float plain e = cc
as-double type.Double plain e = cc
as-double (Class name) plain e = cc
as-double (Array element) plain e = cc

-- no type is that of null
as-null : (given : JType) → tag_of given ≡ Null → ⊥
as-null type.Boolean e = cc
as-null type.Byte e = cc
as-null type.Char e = cc
as-null type.Short e = cc
as-null type.Int e = cc
as-null type.Long e = cc
as-null type.Float e = cc
as-null type.Double e = cc
as-null (Class name) e = cc
as-null (Array element) e = cc

-- a reference goes where its type is a subtype
as-reference : (headers : List Header) (given to : JType) → IsReference to → ReferenceGoes (Strictly headers) (tag_of given) to → may_copy headers given to ≡ true
as-reference headers type.Boolean to is goes = absurd goes
as-reference headers type.Byte to is goes = absurd goes
as-reference headers type.Char to is goes = absurd goes
as-reference headers type.Short to is goes = absurd goes
as-reference headers type.Int to is goes = absurd goes
as-reference headers type.Long to is goes = absurd goes
as-reference headers type.Float to is goes = absurd goes
as-reference headers type.Double to is goes = absurd goes
as-reference headers (Class name) type.Boolean is goes = absurd is
as-reference headers (Class name) type.Byte is goes = absurd is
as-reference headers (Class name) type.Char is goes = absurd is
as-reference headers (Class name) type.Short is goes = absurd is
as-reference headers (Class name) type.Int is goes = absurd is
as-reference headers (Class name) type.Long is goes = absurd is
as-reference headers (Class name) type.Float is goes = absurd is
as-reference headers (Class name) type.Double is goes = absurd is
as-reference headers (Class name) (Class other) is goes = (Decides-subtype headers (Class name) (Class other)).1 goes
as-reference headers (Class name) (Array element) is goes = (Decides-subtype headers (Class name) (Array element)).1 goes
as-reference headers (Array own) type.Boolean is goes = absurd is
as-reference headers (Array own) type.Byte is goes = absurd is
as-reference headers (Array own) type.Char is goes = absurd is
as-reference headers (Array own) type.Short is goes = absurd is
as-reference headers (Array own) type.Int is goes = absurd is
as-reference headers (Array own) type.Long is goes = absurd is
as-reference headers (Array own) type.Float is goes = absurd is
as-reference headers (Array own) type.Double is goes = absurd is
as-reference headers (Array own) (Class other) is goes = (Decides-subtype headers (Array own) (Class other)).1 goes
as-reference headers (Array own) (Array element) is goes = (Decides-subtype headers (Array own) (Array element)).1 goes

-- objects that a tag speaks of are of classes, interfaces or arrays
abbrev SpeaksWell : Tag → Type 0
SpeaksWell tag = (one : JType) → tag ≡ Object one → IsReference one

-- what a slot takes of a value of a type may be copied
copies-so : (headers : List Header) (given : JType) (tag : Tag) (to : JType) → has_float given ≡ false → SpeaksWell tag → LocalGoes (Strictly headers) (tag_of given) tag → type_of_tag tag ≡ Some to → may_copy headers given to ≡ true
copies-so headers given Top to plain well goes is = absurd (no-type to is)
copies-so headers given Int to plain well goes is = subst (λ to. may_copy headers given to ≡ true) (same-type type.Int to is) (as-int given goes)
copies-so headers given Float to plain well goes is = absurd (as-float given plain goes)
copies-so headers given Double to plain well goes is = absurd (as-double given plain goes)
copies-so headers given Long to plain well goes is = subst (λ to. may_copy headers given to ≡ true) (same-type type.Long to is) (as-long given goes)
copies-so headers given Null to plain well goes is = absurd (as-null given goes)
copies-so headers given UnbornThis to plain well goes is = absurd (no-type to is)
copies-so headers given (Object one) to plain well goes is = subst (λ to. may_copy headers given to ≡ true) (same-type one to is) (as-reference headers given one (well one refl) goes)
copies-so headers given (Unborn pc) to plain well goes is = absurd (no-type to is)

-- ---- dummy values

reference-dummy : (one : JType) → IsReference one → has_dummy one ≡ true
reference-dummy type.Boolean is = absurd is
reference-dummy type.Byte is = absurd is
reference-dummy type.Char is = absurd is
reference-dummy type.Short is = absurd is
reference-dummy type.Int is = absurd is
reference-dummy type.Long is = absurd is
reference-dummy type.Float is = absurd is
reference-dummy type.Double is = absurd is
reference-dummy (Class name) is = refl
reference-dummy (Array element) is = refl

-- neither a float nor a double
pub record IsNoFloat (tag : Tag) : Type 0 where
  pub float : tag ≡ Float → ⊥
  pub double : tag ≡ Double → ⊥

dummy-so : (tag : Tag) (to : JType) → IsNoFloat tag → SpeaksWell tag → type_of_tag tag ≡ Some to → has_dummy to ≡ true
dummy-so Top to plain well is = absurd (no-type to is)
dummy-so Int to plain well is = ap has_dummy (sym (same-type type.Int to is))
dummy-so Float to plain well is = absurd (plain.float refl)
dummy-so Double to plain well is = absurd (plain.double refl)
dummy-so Long to plain well is = ap has_dummy (sym (same-type type.Long to is))
dummy-so Null to plain well is = ap has_dummy (sym (same-type (Class object_name) to is))
dummy-so UnbornThis to plain well is = absurd (no-type to is)
dummy-so (Object one) to plain well is = ap has_dummy (sym (same-type one to is)) ∙ reference-dummy one (well one refl)
dummy-so (Unborn pc) to plain well is = absurd (no-type to is)

neither-of : (first second : Bool) → (first || second) ≡ false → (first ≡ false) × (second ≡ false)
neither-of true second e = absurd (cc)
neither-of false second e = (refl, e)

-- an instruction of a rest is one of the code
contained : (part : Instructions) (place pc : ℕ) (instruction : Instruction) (rest : Instructions) → drop place part ≡ (pc, instruction) ∷ rest → Contains part (pc, instruction)
contained [] zero pc instruction rest e = absurd (cc)
contained [] (suc place) pc instruction rest e = absurd (cc)
contained (first ∷ more) zero pc instruction rest e = let same : first ≡ (pc, instruction) = first-same first (pc, instruction) more rest e in (0, omega arith, same)
  where
    first-same : (one other : ℕ × Instruction) (behind more : Instructions) → one ∷ behind ≡ other ∷ more → one ≡ other
    first-same one other behind more e = cc
contained (first ∷ more) (suc place) pc instruction rest e = let later = contained more place pc instruction rest e in (suc later.0, omega (arith, later.1), later.2)

same-frame : (first second : Working) → Some first ≡ Some second → first ≡ second
same-frame first second e = cc

-- what an instruction stores that doesn't work on floats is none
no-float-of : (of : Kind) → is_float_kind of ≡ false → (tag : Tag) → HasKind of tag → IsNoFloat tag
no-float-of kind.Int plain tag is = record { float = λ e. let both : Int ≡ Float = sym is ∙ e in cc; double = λ e. let both : Int ≡ Double = sym is ∙ e in cc }
no-float-of kind.Long plain tag is = record { float = λ e. let both : Long ≡ Float = sym is ∙ e in cc; double = λ e. let both : Long ≡ Double = sym is ∙ e in cc }
no-float-of kind.Float plain tag is = absurd (cc)
no-float-of kind.Double plain tag is = absurd (cc)
no-float-of kind.Ref plain tag is = record { float = λ e. false≢true (subst (λ one. IsTrue (is_tag_reference one)) e is); double = λ e. false≢true (subst (λ one. IsTrue (is_tag_reference one)) e is) }

-- ---- the head's frame

abbrev AreNoFloats : List Tag → Type 0
AreNoFloats [] = Unit {0}
AreNoFloats (first ∷ rest) = IsNoFloat first × AreNoFloats rest

plain-top : IsNoFloat Top
plain-top = record { float = λ e. cc; double = λ e. cc }

plain-get : (tags : List Tag) (slot : ℕ) → AreNoFloats tags → IsNoFloat (or_top (slice_get tags slot))
plain-get [] slot are = plain-top
plain-get (first ∷ rest) zero are = are.0
plain-get (first ∷ rest) (suc slot) are = plain-get rest slot are.1

plain-append : (tags others : List Tag) → AreNoFloats tags → AreNoFloats others → AreNoFloats (tags ++ others)
plain-append [] others are those = those
plain-append (first ∷ rest) others are those = (are.0, plain-append rest others are.1 those)

plain-tops : (count : ℕ) → AreNoFloats (replicate count Top)
plain-tops zero = tt
plain-tops (suc count) = (plain-top, plain-tops count)

plain-slots : (tag : Tag) → IsNoFloat tag → AreNoFloats (slots_of tag)
plain-slots Top is = (is, tt)
plain-slots Int is = (is, tt)
plain-slots Float is = (is, tt)
plain-slots Double is = (is, (plain-top, tt))
plain-slots Long is = (is, (plain-top, tt))
plain-slots Null is = (is, tt)
plain-slots UnbornThis is = (is, tt)
plain-slots (Object one) is = (is, tt)
plain-slots (Unborn pc) is = (is, tt)

plain-values : (tags : List Tag) → AreNoFloats tags → AreNoFloats (flat_map slots_of tags)
plain-values [] are = tt
plain-values (first ∷ rest) are = plain-append (slots_of first) (flat_map slots_of rest) (plain-slots first are.0) (plain-values rest are.1)

plain-parameters : (parameters : List JType) → list_any has_float parameters ≡ false → AreNoFloats (map tag_of parameters)
plain-parameters [] plain = tt
plain-parameters (first ∷ rest) plain =
    let parts = neither-of (has_float first) (list_any has_float rest) plain in
    (record { float = as-float first parts.0; double = as-double first parts.0 }, plain-parameters rest parts.1)

plain-this : (class : Name) (method : MethodOf) → IsNoFloat (this_of class method)
plain-this class method = by (has_unborn_this class method.name)
  where
    by : (test : Bool) → IsNoFloat (if test then UnbornThis else Object (Class class))
    by true = record { float = λ e. cc; double = λ e. cc }
    by false = record { float = λ e. cc; double = λ e. cc }

plain-receiver : (class : Name) (method : MethodOf) → AreNoFloats (receiver_of class method)
plain-receiver class method = by (bit_and method.flags 8 == 0)
  where
    by : (test : Bool) → AreNoFloats (if test then this_of class method ∷ [] else [])
    by true = (plain-this class method, tt)
    by false = tt

plain-in : (descriptor : Descriptor) → spells_float descriptor ≡ false → list_any has_float (parameters_of descriptor) ≡ false
plain-in (Field one) plain = refl
plain-in (Method parameters result) plain = (neither-of (list_any has_float parameters) (gives_float result) plain).0

plain-entry : (code : Code) → spells_float code.descriptor ≡ false → AreNoFloats (entry code).locals
plain-entry code plain =
    plain-append (flat_map slots_of (entry_values code.class (head_of code))) (replicate (code.max_locals - length (flat_map slots_of (entry_values code.class (head_of code)))) Top)
    (plain-values (entry_values code.class (head_of code)) (plain-append (receiver_of code.class (head_of code)) (map tag_of (parameters_of code.descriptor)) (plain-receiver code.class (head_of code)) (plain-parameters (parameters_of code.descriptor) (plain-in code.descriptor plain))))
    (plain-tops (code.max_locals - length (flat_map slots_of (entry_values code.class (head_of code)))))

-- a parameter isn't one
plain-parameter : (parameters : List JType) → list_any has_float parameters ≡ false → (place : ℕ) (given : JType) → slice_get parameters place ≡ Some given → has_float given ≡ false
plain-parameter [] plain place given e = absurd (no-type given e)
plain-parameter (first ∷ rest) plain zero given e = ap has_float (sym (same-type first given e)) ∙ (neither-of (has_float first) (list_any has_float rest) plain).0
plain-parameter (first ∷ rest) plain (suc place) given e = plain-parameter rest (neither-of (has_float first) (list_any has_float rest) plain).1 place given e

-- its class can be named
pub named-parameter : (site : Site) (parameters : List JType) → AreNamed site parameters → (place : ℕ) (given : JType) → slice_get parameters place ≡ Some given → may_name_type site given ≡ true
named-parameter site [] are place given e = absurd (no-type given e)
named-parameter site (first ∷ rest) are zero given e = subst (λ one. may_name_type site one ≡ true) (same-type first given e) are.0
named-parameter site (first ∷ rest) are (suc place) given e = named-parameter site rest are.1 place given e

-- ---- slots

no-tag : (tag : Tag) → None ≡ Some tag → ⊥
no-tag tag e = cc

-- a frame without entries says of locals alone
local-tag : (code : Code) (frame : Working) → frame.stack ≡ [] → (slot : ℕ) (tag : Tag) → slot_tag code frame slot ≡ Some tag → slice_get frame.locals slot ≡ Some tag
local-tag code frame empty slot tag e = by (nat_lt slot code.max_locals) e
  where
    by : (test : Bool) → (if test then slice_get frame.locals slot else from_bottom frame.stack (slot - code.max_locals)) ≡ Some tag → slice_get frame.locals slot ≡ Some tag
    by true e = e
    by false e = absurd (no-tag tag (subst (λ (entries : List Tag). from_bottom entries (slot - code.max_locals) ≡ Some tag) empty e))

not-less : (most count : ℕ) → nat_lt (most + count) most ≡ false
not-less most count = grind (arith, nat_tests)

-- the topmost entry has the highest slot
top-tag : (code : Code) (frame : Working) (tag : Tag) (below : List Tag) → frame.stack ≡ tag ∷ below → slot_tag code frame (code.max_locals + length below) ≡ Some tag
top-tag code frame tag below e =
    ap (λ (test : Bool). if test then slice_get frame.locals (code.max_locals + length below) else from_bottom frame.stack ((code.max_locals + length below) - code.max_locals)) (not-less code.max_locals (length below))
    ∙ ap (λ (entries : List Tag). from_bottom entries ((code.max_locals + length below) - code.max_locals)) e
    ∙ ap (λ (at : ℕ). from_bottom (tag ∷ below) at) (cancels code.max_locals (length below))
    ∙ ap (λ (test : Bool). if test then Some tag else from_bottom below (length below)) (eq-eqb (length below) (length below) refl)
  where
    cancels : (most count : ℕ) → (most + count) - most ≡ count
    cancels most count = omega arith

-- the tag of a slot that has a type
pub record HasTag (found : Option Tag) (one : JType) : Type 0 where
  pub tag : Tag
  pub is : found ≡ Some tag
  pub type_is : type_of_tag tag ≡ Some one

tag-there : (found : Option Tag) (one : JType) → type_of_slot found ≡ Some one → HasTag found one
tag-there None one e = absurd (no-type one e)
tag-there (Some tag) one e = record { tag = tag; is = refl; type_is = e }

-- what a table says of its first place
pub record IsGood (site : Site) (one : JType) : Type 0 where
  pub named : may_name_type site one ≡ true
  pub dummy : has_dummy one ≡ true

-- what is written
written-good : (site : Site) (world : List Header) (code : Code) (pc : ℕ) (frame : Working) (instruction : Instruction) (slot : ℕ) (tag : Tag) → Writes frame instruction slot tag → may_name site object_name ≡ true → SaysWell site frame
    → HasOperands (Strictly world) world code pc (work code instruction) frame → works_on_float instruction ≡ false → ((below : List Tag) → frame.stack ≡ tag ∷ below → SpeaksWell tag) → (one : JType) → type_of_tag tag ≡ Some one → IsGood site one
written-good site world code pc frame instruction slot tag (by_store {kind} {rest = below} e) object says has plain speaks one is = record {
  named = type-said site tag one object (subst (AreSaid site) e says.stack).0 is;
  dummy = dummy-so tag one (no-float-of kind plain tag (subst (λ (entries : List Tag). IsSomeAnd (slice_get entries 0) (HasKind kind)) e has)) (speaks below e) is;
}
written-good site world code pc frame instruction slot tag by_count object says has plain speaks one is = record {
  named = ap (may_name_type site) (sym (same-type type.Int one is));
  dummy = ap has_dummy (sym (same-type type.Int one is));
}

-- ---- the law

only-start : (starts : List ℕ) → starts ≡ 0 ∷ [] → (block start : ℕ) → slice_get starts block ≡ Some start → start ≡ 0
only-start starts one block start e = by block (subst (λ (list : List ℕ). slice_get list block ≡ Some start) one e)
  where
    by : (block : ℕ) → slice_get (0 ∷ []) block ≡ Some start → start ≡ 0
    by zero e = cc
    by (suc block) e = absurd (cc)

-- what the variables of code rest on: its class and all that it names can be said, and it keeps Java's rules by its frames
pub record IsSaidRight (site : Site) (world : List Header) (parts : Parts) : Type 0 where
  pub roots : RootsAreNamed site
  pub named : may_name site parts.typed.code.class ≡ true
  pub names : (pc : ℕ) (instruction : Instruction) → Contains parts.typed.code.instructions (pc, instruction) → IsNamed site instruction
  pub strict : IsStrict world parts.typed

module _ (world : List Header) (members : List ClassMembers) (writing : Writing) (parts : Parts) (spoken : IsSaidRight (site_of writing world members parts.typed.code) world parts)
    (said : IsSaidThrough (site_of writing world members parts.typed.code) parts.typed.code) (speaks : SaysReferences parts.typed) (are : AreVars parts.typed parts.starts parts.vars) (one : parts.starts ≡ 0 ∷ []) (some : parts.typed.code.instructions ≢ []) where
  abbrev site : Site
  site = site_of writing world members parts.typed.code

  abbrev code : Code
  code = parts.typed.code

  parameters-are : AreNamed site (parameters_of code.descriptor)
  parameters-are = parameters-named site code.descriptor (λ name names. said.classes name (in_descriptor names))

  -- each frame speaks of classes that can be named
  frame-well : (place : ℕ) (frame : Working) → slice_get (table_of parts.typed) place ≡ Some frame → SaysWell site frame
  frame-well place frame e =
      table-well site (Strictly world) world code spoken.named spoken.roots (given-said site code said.classes) (Some (entry code)) code.instructions (table_of parts.typed) (entry-well site code spoken.named parameters-are)
      (λ at there. (spoken.names at.0 at.1 there, said.linked at.0 at.1 there)) spoken.strict.table.are place frame e

  first : BeginsWell world parts.typed (table_of parts.typed)
  first = begins-well world parts.typed code.instructions refl some spoken.strict.rising (table_of parts.typed) (number-is) spoken.strict.table.are
    where
      number-is : length (table_of parts.typed) ≡ length code.instructions
      number-is = spoken.strict.table.number

  first-there : slice_get (table_of parts.typed) 0 ≡ Some first.frame
  first-there = ap (λ (list : List Working). slice_get list 0) first.table_is

  -- the first block begins with the first frame
  begins : Begins parts.typed parts.starts 0 first.frame
  begins = record {
    start = 0;
    listed = ap (λ (list : List ℕ). slice_get list 0) one;
    instruction = first.instruction;
    at = record { place = 0; rest = first.rest; here = ap (λ (list : Instructions). drop 0 list) first.code_is; there = first-there };
  }

  -- and with no other
  only-frame : (block : ℕ) (frame : Working) → Begins parts.typed parts.starts block frame → frame ≡ first.frame
  only-frame block frame other =
      let start_is : other.start ≡ 0 = only-start parts.starts one block other.start other.listed in
      let place_is : other.at.place ≡ 0 = first-place code.instructions spoken.strict.rising other.at.place other.instruction other.at.rest (subst (λ pc. drop other.at.place code.instructions ≡ (pc, other.instruction) ∷ other.at.rest) start_is other.at.here) in
      same-frame frame first.frame (sym other.at.there ∙ ap (slice_get (table_of parts.typed)) place_is ∙ ap (λ (list : List Working). slice_get list 0) first.table_is)

  -- each frame's tag speaks of references
  tag-speaks : (place slot : ℕ) (frame : Working) (tag : Tag) → slice_get (table_of parts.typed) place ≡ Some frame → slot_tag code frame slot ≡ Some tag → SpeaksWell tag
  tag-speaks place slot frame tag there e one is = speaks.says place slot frame one there (e ∙ ap Some is)

  -- the types of slots can be written, and have dummy values
  type-good : (slot : ℕ) (one : JType) → HasType parts.typed parts.starts slot one → IsGood site one
  type-good slot one (at_start {block} {frame} other e) =
      let found = tag-there (slot_tag code frame slot) one e in
      let frame_is = only-frame block frame other in
      let there : slot_tag code first.frame slot ≡ Some found.tag = subst (λ frame. slot_tag code frame slot ≡ Some found.tag) frame_is found.is in
      let goes = first.goes slot found.tag (local-tag code first.frame first.empty slot found.tag there) in
      let plain = plain-get (entry code).locals slot (plain-entry code said.plain) in
      record {
        named = type-said site found.tag one spoken.roots.object (said-slot site code first.frame slot found.tag (frame-well 0 first.frame first-there) there) found.type_is;
        dummy = dummy-so found.tag one (record {
          float = λ is. plain.float (subst (LocalGoes (Strictly world) (or_top (slice_get (entry code).locals slot))) is goes);
          double = λ is. plain.double (subst (LocalGoes (Strictly world) (or_top (slice_get (entry code).locals slot))) is goes);
        }) (tag-speaks 0 slot first.frame found.tag first-there there) found.type_is;
      }
  type-good slot one (by_write {pc} w) =
      let there = contained code.instructions w.at.place pc w.instruction w.at.rest w.at.here in
      written-good site world code pc w.frame w.instruction slot w.tag w.writes spoken.roots.object (frame-well w.at.place w.frame w.at.there)
      (operands-at (Strictly world) world code (Some (entry code)) code.instructions (table_of parts.typed) spoken.strict.table.number spoken.strict.table.are w.at.place pc w.instruction w.at.rest w.frame w.at.here w.at.there)
      (said.floats pc w.instruction there) (λ below e. tag-speaks w.at.place (code.max_locals + length below) w.frame w.tag w.at.there (top-tag code w.frame w.tag below e)) one w.born

  kind-good : (number : ℕ) (one : JType) → slice_get parts.vars.kinds number ≡ Some one → IsGood site one
  kind-good number one e =
      let typing = are.each number (slice_get_within parts.vars.kinds number one e) in
      subst (IsGood site) (same-type typing.0.type one (sym (are.kinds typing.0.slot typing.0.type typing.1) ∙ ap (slice_get parts.vars.kinds) typing.2 ∙ e)) (type-good typing.0.slot typing.0.type typing.1)

  -- a variable takes what the slot holds at the start
  variable-takes : (slot number : ℕ) → parts.vars.of 0 slot ≡ Some number → (to : JType) → slice_get parts.vars.kinds number ≡ Some to → (given : JType) → has_float given ≡ false → slice_get (entry code).locals slot ≡ Some (tag_of given) → may_copy world given to ≡ true
  variable-takes slot number of to kind given plain holds = by (slot_tag code first.frame slot) refl (sym (are.first 0 first.frame begins slot) ∙ of)
    where
      by : (found : Option Tag) → slot_tag code first.frame slot ≡ found → option_map (are.number slot) (type_of_slot found) ≡ Some number → may_copy world given to ≡ true
      by None is e = absurd (cc)
      by (Some tag) is e = inner (type_of_tag tag) refl e
        where
          inner : (found : Option JType) → type_of_tag tag ≡ found → option_map (are.number slot) found ≡ Some number → may_copy world given to ≡ true
          inner None type_is e = absurd (cc)
          inner (Some own) type_is e =
              let number_is : are.number slot own ≡ number = cc in
              let has : HasType parts.typed parts.starts slot own = at_start begins (ap type_of_slot is ∙ type_is) in
              let same : own ≡ to = same-type own to (sym (are.kinds slot own has) ∙ ap (slice_get parts.vars.kinds) number_is ∙ kind) in
              let goes = first.goes slot tag (local-tag code first.frame first.empty slot tag is) in
              copies-so world given tag to plain (tag-speaks 0 slot first.frame tag first-there is) (subst (λ found. LocalGoes (Strictly world) (or_top found) tag) holds goes) (type_is ∙ ap Some same)

  -- the variable of a parameter
  parameter-takes : (place number : ℕ) (given to : JType) → slice_get (entry_of parts).parameters place ≡ Some (Some number) → slice_get (parameters_of code.descriptor) place ≡ Some given → slice_get parts.vars.kinds number ≡ Some to → may_copy world given to ≡ true
  parameter-takes place number given to e wanted kind = by (slice_get (parameter_slots code) place) refl (sym (slice_get-map (parts.vars.of 0) (parameter_slots code) place) ∙ e)
    where
      by : (found : Option ℕ) → slice_get (parameter_slots code) place ≡ found → option_map (parts.vars.of 0) found ≡ Some (Some number) → may_copy world given to ≡ true
      by None is e = absurd (cc)
      by (Some slot) is e =
          let of : parts.vars.of 0 slot ≡ Some number = cc in
          variable-takes slot number of to kind given (plain-parameter (parameters_of code.descriptor) (plain-in code.descriptor said.plain) place given wanted) (entry-slot code place slot given is wanted)

  -- what `this` is by the first slot
  pub this-takes : slice_get (entry code).locals 0 ≡ Some (tag_of (Class code.class)) → (number : ℕ) (to : JType) → parts.vars.of 0 0 ≡ Some number → slice_get parts.vars.kinds number ≡ Some to
      → (is_whole site.headers site.class ≡ true) × (may_copy site.headers (Class site.class) to ≡ true)
  this-takes first number to e kind = (named-whole site (Class code.class) spoken.named, variable-takes 0 number e to kind (Class code.class) refl first)

  -- a slot that holds what isn't born has no variable
  pub unborn-none : (slot : ℕ) → slice_get (entry code).locals slot ≡ Some UnbornThis → (number : ℕ) → parts.vars.of 0 slot ≡ Some number → ⊥
  unborn-none slot unborn number of = by (slot_tag code first.frame slot) refl (sym (are.first 0 first.frame begins slot) ∙ of)
    where
      by : (found : Option Tag) → slot_tag code first.frame slot ≡ found → option_map (are.number slot) (type_of_slot found) ≡ Some number → ⊥
      by None is e = cc
      by (Some tag) is e =
          inner tag (subst (λ found. LocalGoes (Strictly world) (or_top found) tag) unborn (first.goes slot tag (local-tag code first.frame first.empty slot tag is))) e
        where
          inner : (tag : Tag) → LocalGoes (Strictly world) UnbornThis tag → option_map (are.number slot) (type_of_tag tag) ≡ Some number → ⊥
          inner Top goes e = cc
          inner Int goes e = let same : UnbornThis ≡ Int = goes in cc
          inner Float goes e = let same : UnbornThis ≡ Float = goes in cc
          inner Double goes e = let same : UnbornThis ≡ Double = goes in cc
          inner Long goes e = let same : UnbornThis ≡ Long = goes in cc
          inner Null goes e = let same : UnbornThis ≡ Null = goes in cc
          inner UnbornThis goes e = cc
          inner (Object one) goes e = goes
          inner (Unborn pc) goes e = let same : UnbornThis ≡ Unborn pc = goes in cc

  pub variables-enter : ((number : ℕ) (to : JType) → (entry_of parts).itself ≡ Some number → slice_get parts.vars.kinds number ≡ Some to
      → (site.has_this ≡ true) × (is_whole site.headers site.class ≡ true) × (may_copy site.headers (Class site.class) to ≡ true))
      → MayEnter site (parameters_of code.descriptor) parts.vars.kinds (entry_of parts)
  variables-enter itself = record {
    written = λ number one e. (kind-good number one e).named;
    dummies = λ number one e. (kind-good number one e).dummy;
    itself = itself;
    copies = λ place number given to e wanted kind. (
      named-whole site given (named-parameter site (parameters_of code.descriptor) parameters-are place given wanted),
      parameter-takes place number given to e wanted kind,
    );
  }

pub variables-may-enter : VariablesMayEnter
variables-may-enter world members writing receivers parts spoken said speaks are one some = variables-enter world members writing parts whole said speaks are one some this-there
  where
    whole : IsSaidRight (site_of writing world members parts.typed.code) world parts
    whole = record { roots = spoken.roots; named = spoken.named; names = λ pc instruction there. (spoken.allowed pc instruction there).named; strict = spoken.strict }

    this-there : (number : ℕ) (to : JType) → (entry_of parts).itself ≡ Some number → slice_get parts.vars.kinds number ≡ Some to
        → ((site_of writing world members parts.typed.code).has_this ≡ true) × (is_whole world parts.typed.code.class ≡ true) × (may_copy world (Class parts.typed.code.class) to ≡ true)
    this-there number to e kind = by (is_static parts.typed.code.flags) refl e
      where
        by : (static : Bool) → is_static parts.typed.code.flags ≡ static → (if static then None else parts.vars.of 0 0) ≡ Some number
            → ((site_of writing world members parts.typed.code).has_this ≡ true) × (is_whole world parts.typed.code.class ≡ true) × (may_copy world (Class parts.typed.code.class) to ≡ true)
        by true is e = absurd (cc)
        by false is e =
            let takes = this-takes world members writing parts whole said speaks are one some
            (this-slot parts.typed.code is (ap (λ (test : Bool). test && not (bytes_eq parts.typed.code.class object_name)) spoken.plain)) number to e kind in
            (ap not is, takes.0, takes.1)
