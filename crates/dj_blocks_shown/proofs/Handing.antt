-- In `E(String s) { super(s); }` the parameter has what its slot holds wherever the block begins, so that the call may name it.
use Rattle.std.proofs.Common.{◌≡◌, ℕ, false, true, List, [], ◌∷◌, length, drop, Option, Some, None, codes, refl, sym, ap, ◌∙◌, subst, arith, length-drop}
use Rattle.std.specs.Prelude.{slice_get, slice_index_or}
use Rattle.dj_names.specs.declared.header.Header.{Header}
use Rattle.dj_names.specs.Types.{JType, Class, Method}
use Rattle.dj_values.specs.Values.{Value}
use Rattle.dj_instructions.specs.declared.kinds.Kind.TheVariants as kind
use Rattle.dj_instructions.specs.Instructions.{Instructions, Load, InvokeSpecial, Return}
use Rattle.dj_frames.specs.Frames.{Frame, UnbornThis, Object}
use Rattle.dj_code.specs.MethodCode.{Code, Typed}
use Rattle.dj_tags.specs.Goes.{Working}
use Rattle.dj_meaning.specs.Runs.{Store}
use Rattle.dj_bytecode.specs.Machine.{Locals, code_from}
use Rattle.dj_sound.specs.States.{table_of}
use Rattle.dj_vars.specs.Slots.{slot_tag}
use Rattle.dj_vars.specs.Naming.{Vars}
use Rattle.dj_vars.specs.Agreeing.{parameter_variable}
use Rattle.dj_blocks_shown.specs.Leaving.{Parts, Meets}

-- ---- the code

abbrev string : JType
string = Class (codes "java/lang/String")

abbrev listing : Instructions
listing =
    (0, Load kind.Ref 0)
    ∷ (1, Load kind.Ref 1)
    ∷ (2, InvokeSpecial (record { owner = Class (codes "D"); interface = false; name = codes "<init>"; descriptor = Method (string ∷ []) None }))
    ∷ (5, Return None)
    ∷ []

abbrev code : Code
code = record { class = codes "E"; name = codes "<init>"; flags = 0; interface = false; descriptor = Method (string ∷ []) None; thrown = []; max_stack = 2; max_locals = 2; instructions = listing; handlers = []; frames = [] }

abbrev frames : List Frame
frames =
    record { locals = UnbornThis ∷ Object string ∷ []; stack = []; unborn_this = true }
    ∷ record { locals = UnbornThis ∷ Object string ∷ []; stack = UnbornThis ∷ []; unborn_this = true }
    ∷ record { locals = UnbornThis ∷ Object string ∷ []; stack = UnbornThis ∷ Object string ∷ []; unborn_this = true }
    ∷ record { locals = Object (Class (codes "E")) ∷ Object string ∷ []; stack = []; unborn_this = false }
    ∷ []

abbrev typed : Typed
typed = record { code = code; frames = frames }

-- the variables don't matter here
abbrev parts_with : Vars → Parts
parts_with vars = record { typed = typed; starts = 0 ∷ []; vars = vars }

-- ---- what the parameter has

-- the frame of the code's beginning says that `this` isn't born
unborn-first : (frame : Working) → slice_get (table_of typed) 0 ≡ Some frame → slot_tag code frame 0 ≡ Some UnbornThis
unborn-first frame there = subst (λ (found : Working). slot_tag code found 0 ≡ Some UnbornThis) (same there) refl
  where
    same : {one other : Working} → Some one ≡ Some other → one ≡ other
    same e = cc

-- what is left of the code is all of it at its beginning alone
at-first : (place : ℕ) → drop place listing ≡ listing → place ≡ 0
at-first place here = let lengths : length (drop place listing) ≡ 4 = ap (λ (list : Instructions). length list) here in let left = length-drop place listing in omega (arith, lengths, left)

same-start : {one other : ℕ} → Some one ≡ Some other → one ≡ other
same-start e = cc

-- what the call's argument reads is what `aload_1` pushes
pub parameter-handed : (headers : List Header) (vars : Vars) (this : Option Value) (stack : List Value) (locals : Locals) (store : Store) → Meets headers (parts_with vars) this 0 stack locals store
    → store.variables (parameter_variable 0) ≡ slice_index_or locals 1 None
parameter-handed headers vars this stack locals store meets =
    let start : 0 ≡ meets.start = same-start meets.listed in
    let first : meets.stands.place ≡ 0 = at-first meets.stands.place (meets.stands.here ∙ ap (λ (pc : ℕ). code_from pc listing) (sym start)) in
    (meets.agrees.parameters refl (unborn-first meets.stands.frame (ap (slice_get (table_of typed)) (sym first) ∙ meets.stands.there))).has 0 1 refl
