-- As a constructor begins, the first slot is `this`, and each parameter has what its slot holds.
use Rattle.std.proofs.Common.{arith, ℕ, suc, ◌+◌, ◌-◌, ◌≤◌, ◌==◌, ◌≡◌, ◌≢◌, Bool, true, false, List, [], ◌∷◌, ◌++◌, drop, length, map, replicate, Option, Some, None, option_map, IfSome, IsSome, refl, sym, ap, ◌∙◌, subst}
use Rattle.std.specs.Prelude.{not, is_none, if◌then◌else◌, slice_get, slice_index_or, bit_and}
use Rattle.std.specs.List.{flat_map}
use Rattle.std.proofs.lemmas.Bool.{eqb-true}
use Rattle.std.proofs.lemmas.Option.{slice_get_within}
use Rattle.dj_names.specs.declared.header.Header.{Header}
use Rattle.dj_names.specs.Types as types
use Rattle.dj_names.specs.Types.{JType, Boolean, Byte, Char, Short, Float, Double, Class, Array, StaticType, Of, parameters_of}
use Rattle.dj_names.specs.Assignable.{IsReference}
use Rattle.dj_values.specs.Values.{Value}
use Rattle.dj_values.specs.Fits.{is_static}
use Rattle.dj_frames.specs.Frames.{Tag, Top, Object, UnbornThis, tag_of, slots_of, has_unborn_this, entry_values, Frame}
use Rattle.dj_code.specs.MethodCode.{Code, Typed}
use Rattle.dj_tags.specs.Goes.{Working, top_down}
use Rattle.dj_tags.specs.Laxly.{Strictly}
use Rattle.dj_effects.specs.Effects.{or_top}
use Rattle.dj_verify.specs.declared.rule.Rule.TheVariants as rule
use Rattle.dj_verify.specs.Rules.{padded, head_of, entry, frame_in, given, FrameKeeps, HasRoom}
use Rattle.dj_verify.specs.Rules as rules_of
use Rattle.dj_verify.specs.Table.{or_else}
use Rattle.dj_typed_states.specs.Facts.{classes}
use Rattle.dj_typed_states.specs.Held.{IsLocal, anything, known}
use Rattle.dj_sound.specs.States.{table_of, IsStrict}
use Rattle.dj_meaning.specs.StaticTypes.{Context, Scope}
use Rattle.dj_meaning.specs.StaticTypes as static_types
use Rattle.dj_bytecode.specs.Machine.{Locals}
use Rattle.dj_rebuilding.specs.Pending.{Atom, Own, Named, exp_of, is_kept_by}
use Rattle.dj_rebuilding.specs.Agreeing.{IsEntry}
use Rattle.dj_rebuilt.specs.Rebuilding.{atom_type}
use Rattle.dj_vars.specs.Slots.{type_of_tag}
use Rattle.dj_vars.specs.Parameters.{parameter_slots}
use Rattle.dj_vars.specs.Agreeing.{parameter_variable}
use Rattle.dj_vars.proofs.Holding.{opens}
use Rattle.dj_blocks_shown.specs.Leaving.{Parts}
use Rattle.dj_strict_entries.proofs.Keeping.{held-kept}
use Rattle.dj_standing.proofs.Places.{frame-at, frame-there}
use Rattle.dj_declaring.specs.Starting.{tree_scope}
use Rattle.dj_one_block_formed.proofs.Beginning.{entry-slot}
use Rattle.dj_one_block_shown.proofs.Owners.{begins-whole}
use Rattle.dj_constructors.specs.Opening.{is_as_kept, parameter_name, parameter_at, opening_name, fresh_from}

some-is : {A : Type 0} (one other : A) → Some one ≡ Some other → one ≡ other
some-is one other e = cc

-- ---- the first frame

-- `this` isn't born
pub own-slot : (code : Code) → is_static code.flags ≡ false → has_unborn_this code.class code.name ≡ true → slice_get (entry code).locals 0 ≡ Some UnbornThis
own-slot code instance unborn = by (bit_and code.flags 8 == 0) (has_unborn_this code.class code.name) instance unborn
  where
    by : (test unborn : Bool) → not test ≡ false → unborn ≡ true
        → slice_get (flat_map slots_of ((if test then (if unborn then UnbornThis else Object (Class code.class)) ∷ [] else []) ++ map tag_of (parameters_of code.descriptor))
        ++ replicate (code.max_locals - length (flat_map slots_of (entry_values code.class (head_of code)))) Top) 0 ≡ Some UnbornThis
    by true true instance born = refl
    by true false instance born = absurd (cc)
    by false unborn instance born = absurd (cc)

-- where no frame is given there, the frame with which code begins is that of its head, and has room
pub record IsEntered (world : List Header) (typed : Typed) : Type 0 where
  pub there : slice_get (table_of typed) 0 ≡ Some (entry typed.code)
  pub room : length (entry typed.code).locals ≤ typed.code.max_locals

none-is : {A : Type 0} (found : Option A) → is_none found ≡ true → found ≡ None
none-is None e = refl
none-is (Some one) e = absurd (cc)

pub entered : (world : List Header) (typed : Typed) → IsStrict world typed → typed.code.instructions ≢ [] → is_none (frame_in 0 typed.code.frames) ≡ true → IsEntered world typed
entered world typed strict some nothing =
    let whole = begins-whole typed.code.instructions strict.rising in
    let open_at = opens 0 typed.code.instructions (λ empty. some (sym whole ∙ empty)) in
    let here : drop 0 typed.code.instructions ≡ (0, open_at.instruction) ∷ open_at.rest = sym whole ∙ open_at.is in
    let frame = frame-there typed.code.instructions (table_of typed) 0 (0, open_at.instruction) open_at.rest strict.table.number here in
    let found = frame-at (Strictly world) world typed.code (Some (entry typed.code)) typed.code.instructions (table_of typed) strict.table.are 0 (0, open_at.instruction) open_at.rest frame.0 here frame.1 in
    let place : rules_of.Place = record { flow = found.flow; pc = 0; instruction = open_at.instruction; rest = open_at.rest } in
    let none_given : given typed.code 0 ≡ None = ap (option_map (λ (frame : Frame). padded typed.code.max_locals (top_down frame))) (none-is (frame_in 0 typed.code.frames) nothing) in
    let same : entry typed.code ≡ frame.0 = some-is (entry typed.code) frame.0 (sym (found.enters refl) ∙ sym (ap (λ (one : Option Working). or_else one found.flow) none_given) ∙ found.are.0) in
    record {
      there = frame.1 ∙ ap (λ (one : Working). Some one) (sym same);
      room = subst (λ (one : Working). length one.locals ≤ typed.code.max_locals) (sym same)
          (subst (λ (held : Option Working). IfSome held (λ f. FrameKeeps (Strictly world) world typed.code place f rule.Room)) found.are.0 found.are.1.1.1.1.0).0.locals;
    }

-- ---- parameters

-- the parameter that names a slot
pub record IsParameter (slots : List ℕ) (kinds : List JType) (place slot : ℕ) (type : JType) (atom : Atom) : Type 0 where
  pub number : ℕ
  pub slot_is : slice_get slots number ≡ Some slot
  pub type_is : slice_get kinds number ≡ Some type
  pub kept : is_as_kept type ≡ true
  pub atom_is : Named (parameter_variable (place + number)) ≡ atom

named-so : (slots : List ℕ) (kinds : List JType) (place slot : ℕ) (first type : JType) (atom : Atom) → parameter_name first place ≡ Some (type, atom) → IsParameter (slot ∷ slots) (first ∷ kinds) place slot type atom
named-so slots kinds place slot first type atom e = by (is_as_kept first) refl e
  where
    by : (test : Bool) → is_as_kept first ≡ test → if◌then◌else◌ {A = Option (JType × Atom)} test (Some (first, Named (parameter_variable place))) None ≡ Some (type, atom) → IsParameter (slot ∷ slots) (first ∷ kinds) place slot type atom
    by true kept e =
        let same : (first, Named (parameter_variable place)) ≡ (type, atom) = some-is (first, Named (parameter_variable place)) (type, atom) e in
        let type_same : first ≡ type = ap (λ (one : JType × Atom). one.0) same in
        record {
          number = 0;
          slot_is = refl;
          type_is = ap (λ (one : JType). Some one) type_same;
          kept = ap is_as_kept (sym type_same) ∙ kept;
          atom_is = ap (λ (number : ℕ). Named (parameter_variable number)) (omega arith) ∙ ap (λ (one : JType × Atom). one.1) same;
        }
    by false kept e = absurd (cc)

pub parameter-is : (slots : List ℕ) (kinds : List JType) (place slot : ℕ) (type : JType) (atom : Atom) → parameter_at slots kinds place slot ≡ Some (type, atom) → IsParameter slots kinds place slot type atom
parameter-is [] kinds place slot type atom e = absurd (cc)
parameter-is (own ∷ slots) [] place slot type atom e = absurd (cc)
parameter-is (own ∷ slots) (first ∷ kinds) place slot type atom e = by (slot == own) refl e (λ e. parameter-is slots kinds (suc place) slot type atom e)
  where
    by : (test : Bool) → (slot == own) ≡ test → (if test then parameter_name first place else parameter_at slots kinds (suc place) slot) ≡ Some (type, atom)
        → (parameter_at slots kinds (suc place) slot ≡ Some (type, atom) → IsParameter slots kinds (suc place) slot type atom) → IsParameter (own ∷ slots) (first ∷ kinds) place slot type atom
    by true same e later = subst (λ (one : ℕ). IsParameter (one ∷ slots) (first ∷ kinds) place slot type atom) (eqb-true slot own same) (named-so slots kinds place slot first type atom e)
    by false same e later =
        let h = later e in
        record { number = suc h.number; slot_is = h.slot_is; type_is = h.type_is; kept = h.kept; atom_is = ap (λ (number : ℕ). Named (parameter_variable number)) (omega arith) ∙ h.atom_is }

-- what a name is at the beginning: `this`, or a parameter
pub data OpeningAt (code : Code) (slot : ℕ) : JType → Atom → Type 0 where
  by_own : slot ≡ 0 → OpeningAt code slot (Class code.class) Own
  by_parameter : {type : JType} {atom : Atom} → IsParameter (parameter_slots code) (parameters_of code.descriptor) 0 slot type atom → OpeningAt code slot type atom

pub opening-at : (code : Code) (slot : ℕ) (type : JType) (atom : Atom) → opening_name code slot ≡ Some (type, atom) → OpeningAt code slot type atom
opening-at code slot type atom e = by (slot == 0) refl e
  where
    by : (test : Bool) → (slot == 0) ≡ test → (if test then Some (Class code.class, Own) else parameter_at (parameter_slots code) (parameters_of code.descriptor) 0 slot) ≡ Some (type, atom) → OpeningAt code slot type atom
    by true same e =
        let is : (Class code.class, Own) ≡ (type, atom) = some-is (Class code.class, Own) (type, atom) e in
        subst (λ (one : JType × Atom). OpeningAt code slot one.0 one.1) is (by_own (eqb-true slot 0 same))
    by false same e = by_parameter (parameter-is (parameter_slots code) (parameters_of code.descriptor) 0 slot type atom e)

-- each is formed
pub opening-entries : (parts : Parts) (context : Context) → context.class ≡ parts.typed.code.class → (slot : ℕ) (type : JType) (atom : Atom) → OpeningAt parts.typed.code slot type atom
    → IsEntry context (fresh_from parts) (tree_scope (parameters_of parts.typed.code.descriptor) parts.vars.kinds) (atom_type type atom) (exp_of atom)
opening-entries parts context class slot type atom (by_own first) = record { small = tt; typed = ap (λ (name : List ℕ). Some (Of (Class name))) class }
opening-entries parts context class slot type atom (by_parameter is) =
    let same : Named (parameter_variable is.number) ≡ atom = ap (λ (number : ℕ). Named (parameter_variable number)) (omega arith) ∙ is.atom_is in
    subst (λ (one : Atom). IsEntry context (fresh_from parts) (tree_scope (parameters_of parts.typed.code.descriptor) parts.vars.kinds) (atom_type type one) (exp_of one)) same (record {
      small = (let less = slice_get_within (parameters_of parts.typed.code.descriptor) is.number type is.type_is in omega (arith, less));
      typed = ap (λ (found : Option JType). static_types.typed found) is.type_is;
    })

-- ---- what parameters hold

type-again : (type : JType) → is_as_kept type ≡ true → type_of_tag (tag_of type) ≡ Some type
type-again Boolean e = absurd (cc)
type-again Byte e = absurd (cc)
type-again Char e = absurd (cc)
type-again Short e = absurd (cc)
type-again types.Int e = refl
type-again types.Long e = refl
type-again Float e = absurd (cc)
type-again Double e = absurd (cc)
type-again (Class name) e = refl
type-again (Array element) e = refl

reference-again : (type object : JType) → tag_of type ≡ Object object → IsReference object
reference-again Boolean object e = absurd (cc)
reference-again Byte object e = absurd (cc)
reference-again Char object e = absurd (cc)
reference-again Short object e = absurd (cc)
reference-again types.Int object e = absurd (cc)
reference-again types.Long object e = absurd (cc)
reference-again Float object e = absurd (cc)
reference-again Double object e = absurd (cc)
reference-again (Class name) object e = subst IsReference (let same : Class name ≡ object = cc in same) tt
reference-again (Array element) object e = subst IsReference (let same : Array element ≡ object = cc in same) tt

-- what a local holds of which a frame tells such a type is of it
local-kept : (headers : List Header) (code : Code) (type : JType) (held : Tag) (found : Option Value) (one : Value) → is_as_kept type ≡ true → tag_of type ≡ held → IsLocal (classes headers code) held found → found ≡ Some one → is_kept_by headers type one ≡ true
local-kept headers code type held found one kept same anything e = absurd (let again = type-again type kept in (let none : type_of_tag Top ≡ Some type = ap type_of_tag (sym same) ∙ again in cc))
local-kept headers code type held found one kept same (known {value = value} is) e =
    subst (λ (value : Value). is_kept_by headers type value ≡ true) (some-is value one e)
    (held-kept headers code type is (λ object told. reference-again type object (same ∙ told)) (ap type_of_tag (sym same) ∙ type-again type kept))

-- and is there
local-there : (headers : List Header) (code : Code) (type : JType) (held : Tag) (found : Option Value) → is_as_kept type ≡ true → tag_of type ≡ held → IsLocal (classes headers code) held found → IsSome found
local-there headers code type held found kept same anything = absurd (let again = type-again type kept in (let none : type_of_tag Top ≡ Some type = ap type_of_tag (sym same) ∙ again in cc))
local-there headers code type held found kept same (known is) = refl

pub parameter-there : (headers : List Header) (code : Code) (locals : Locals) → ((slot : ℕ) → IsLocal (classes headers code) (or_top (slice_get (entry code).locals slot)) (slice_index_or locals slot None))
    → (slot : ℕ) (type : JType) (atom : Atom) → IsParameter (parameter_slots code) (parameters_of code.descriptor) 0 slot type atom → IsSome (slice_index_or locals slot None)
parameter-there headers code locals holds slot type atom is =
    let at = entry-slot code is.number slot type is.slot_is is.type_is in
    local-there headers code type (or_top (slice_get (entry code).locals slot)) (slice_index_or locals slot None) is.kept (sym (ap or_top at)) (holds slot)

pub parameter-kept : (headers : List Header) (code : Code) (locals : Locals) → ((slot : ℕ) → IsLocal (classes headers code) (or_top (slice_get (entry code).locals slot)) (slice_index_or locals slot None))
    → (slot : ℕ) (type : JType) (atom : Atom) → (is : IsParameter (parameter_slots code) (parameters_of code.descriptor) 0 slot type atom) → (one : Value) → slice_index_or locals slot None ≡ Some one → is_kept_by headers type one ≡ true
parameter-kept headers code locals holds slot type atom is one e =
    let at = entry-slot code is.number slot type is.slot_is is.type_is in
    local-kept headers code type (or_top (slice_get (entry code).locals slot)) (slice_index_or locals slot None) one is.kept (sym (ap or_top at)) (holds slot) e
