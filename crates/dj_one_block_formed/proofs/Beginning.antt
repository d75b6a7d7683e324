-- The frame with which code begins takes the frame of its head, by Java's rules.
use Rattle.std.proofs.Common.{arith, ℕ, zero, suc, ◌+◌, ◌-◌, ◌≤◌, ◌≡◌, ◌==◌, Bool, true, false, not, List, [], ◌∷◌, ◌++◌, length, map, drop, replicate, Option, Some, None, refl, sym, ap, ◌∙◌, subst, append_assoc}
use Rattle.std.specs.Prelude.{if◌then◌else◌, IfSome, slice_get, bit_and}
use Rattle.std.specs.List.{flat_map}
use Rattle.dj_names.specs.declared.header.Header.{Header}
use Rattle.dj_names.specs.Types as type
use Rattle.dj_names.specs.Types.{JType, Class, Array, parameters_of}
use Rattle.dj_names.specs.Assignable.{own_type}
use Rattle.dj_values.specs.Fits.{is_static}
use Rattle.dj_instructions.specs.Instructions.{Instruction, Instructions, IsRising, IsRisingFrom}
use Rattle.dj_frames.specs.Frames as tags
use Rattle.dj_frames.specs.Frames.{Tag, Top, Object, UnbornThis, tag_of, slots_of, has_unborn_this, this_of, receiver_of, entry_values}
use Rattle.dj_code.specs.MethodCode.{Code, Typed}
use Rattle.dj_tags.specs.Goes.{Assignability, Working, LocalGoes, LocalsGo, EntriesGo, FrameGoes}
use Rattle.dj_tags.specs.Laxly.{Strictly}
use Rattle.dj_effects.specs.Rows.{work}
use Rattle.dj_effects.specs.Operands.{HasOperands}
use Rattle.dj_effects.specs.Effects.{or_top}
use Rattle.dj_verify.specs.Rules.{Place, FrameKeeps, head_of, entry, given}
use Rattle.dj_verify.specs.Table.{or_else, flow_behind, AreFrames}
use Rattle.dj_verify.specs.declared.rule.Rule.TheVariants as rule
use Rattle.dj_vars.specs.Parameters.{slots_from, parameter_slots}

-- ---- slots of the head's frame

-- past a list
past : {A : Type 0} (before behind : List A) → slice_get (before ++ behind) (length before) ≡ slice_get behind 0
past [] behind = refl
past (first ∷ rest) behind = past rest behind

length-joined : {A : Type 0} (first second : List A) → length (first ++ second) ≡ length first + length second
length-joined [] second = omega arith
length-joined (one ∷ first) second = let later = length-joined first second in omega (arith, later)

-- a value's first slot has its tag
first-tag : (one : JType) (more : List Tag) → slice_get (slots_of (tag_of one) ++ more) 0 ≡ Some (tag_of one)
first-tag type.Boolean more = refl
first-tag type.Byte more = refl
first-tag type.Char more = refl
first-tag type.Short more = refl
first-tag type.Int more = refl
first-tag type.Long more = refl
first-tag type.Float more = refl
first-tag type.Double more = refl
first-tag (Class name) more = refl
first-tag (Array element) more = refl

same-number : (first second : ℕ) → Some first ≡ Some second → first ≡ second
same-number first second e = cc

same-type : (first second : JType) → Some first ≡ Some second → first ≡ second
same-type first second e = cc

-- the slots of parameters hold what is of their types
slots-hold : (types : List JType) (before behind : List Tag) (number slot : ℕ) (given : JType) → slice_get (slots_from (length before) types) number ≡ Some slot → slice_get types number ≡ Some given
    → slice_get (before ++ (flat_map slots_of (map tag_of types) ++ behind)) slot ≡ Some (tag_of given)
slots-hold [] before behind number slot given e is = absurd (cc)
slots-hold (one ∷ types) before behind zero slot given e is =
    subst (λ at. slice_get (before ++ ((slots_of (tag_of one) ++ flat_map slots_of (map tag_of types)) ++ behind)) at ≡ Some (tag_of given)) (same-number (length before) slot e)
    (past before ((slots_of (tag_of one) ++ flat_map slots_of (map tag_of types)) ++ behind)
    ∙ ap (λ list. slice_get list 0) (append_assoc (slots_of (tag_of one)) (flat_map slots_of (map tag_of types)) behind)
    ∙ first-tag one (flat_map slots_of (map tag_of types) ++ behind)
    ∙ ap (λ found. Some (tag_of found)) (same-type one given is))
slots-hold (one ∷ types) before behind (suc number) slot given e is =
    let longer : length (before ++ slots_of (tag_of one)) ≡ length before + length (slots_of (tag_of one)) = length-joined before (slots_of (tag_of one)) in
    ap (λ list. slice_get (before ++ list) slot) (append_assoc (slots_of (tag_of one)) (flat_map slots_of (map tag_of types)) behind)
    ∙ ap (λ list. slice_get list slot) (sym (append_assoc before (slots_of (tag_of one)) (flat_map slots_of (map tag_of types) ++ behind)))
    ∙ slots-hold types (before ++ slots_of (tag_of one)) behind number slot given (subst (λ start. slice_get (slots_from start types) number ≡ Some slot) (sym longer) e) is

-- the slot of a parameter, as a method begins
pub entry-slot : (code : Code) (number slot : ℕ) (given : JType) → slice_get (parameter_slots code) number ≡ Some slot → slice_get (parameters_of code.descriptor) number ≡ Some given → slice_get (entry code).locals slot ≡ Some (tag_of given)
entry-slot code number slot given e is = by (bit_and code.flags 8 == 0) (has_unborn_this code.class code.name) e
  where
    by : (instance unborn : Bool) → slice_get (slots_from (if not instance then 0 else 1) (parameters_of code.descriptor)) number ≡ Some slot
        → slice_get (flat_map slots_of ((if instance then (if unborn then UnbornThis else Object (Class code.class)) ∷ [] else []) ++ map tag_of (parameters_of code.descriptor))
        ++ replicate (code.max_locals - length (flat_map slots_of (entry_values code.class (head_of code)))) Top) slot ≡ Some (tag_of given)
    by true true e = slots-hold (parameters_of code.descriptor) (UnbornThis ∷ []) _ number slot given e is
    by true false e = slots-hold (parameters_of code.descriptor) (Object (Class code.class) ∷ []) _ number slot given e is
    by false unborn e = slots-hold (parameters_of code.descriptor) [] _ number slot given e is

-- the slot of `this`, which is born where the method is no constructor
pub this-slot : (code : Code) → is_static code.flags ≡ false → has_unborn_this code.class code.name ≡ false → slice_get (entry code).locals 0 ≡ Some (Object (Class code.class))
this-slot code instance born = by (bit_and code.flags 8 == 0) (has_unborn_this code.class code.name) instance born
  where
    by : (test unborn : Bool) → not test ≡ false → unborn ≡ false
        → slice_get (flat_map slots_of ((if test then (if unborn then UnbornThis else Object (Class code.class)) ∷ [] else []) ++ map tag_of (parameters_of code.descriptor))
        ++ replicate (code.max_locals - length (flat_map slots_of (entry_values code.class (head_of code)))) Top) 0 ≡ Some (Object (Class code.class))
    by true true instance born = absurd (cc)
    by true false instance born = refl
    by false unborn instance born = absurd (cc)

-- ---- the first frame

-- code begins at 0, with a frame whose locals hold what those of the head's go to, and no entry
pub record BeginsWell (world : List Header) (typed : Typed) (table : List Working) : Type 0 where
  pub instruction : Instruction
  pub rest : Instructions
  pub code_is : typed.code.instructions ≡ (0, instruction) ∷ rest
  pub frame : Working
  pub frames : List Working
  pub table_is : table ≡ frame ∷ frames
  pub goes : (slot : ℕ) (tag : Tag) → slice_get frame.locals slot ≡ Some tag → LocalGoes (Strictly world) (or_top (slice_get (entry typed.code).locals slot)) tag
  pub empty : frame.stack ≡ []

local-itself : (world : List Header) (tag : Tag) → LocalGoes (Strictly world) tag tag
local-itself world tags.Top = tt
local-itself world tags.Int = refl
local-itself world tags.Float = refl
local-itself world tags.Double = refl
local-itself world tags.Long = refl
local-itself world tags.Null = refl
local-itself world tags.UnbornThis = refl
local-itself world (tags.Object type) = own_type
local-itself world (tags.Unborn pc) = refl

same-tag : (first second : Tag) → Some first ≡ Some second → first ≡ second
same-tag first second e = cc

local-goes : (Goes : Assignability) (froms tos : List Tag) → LocalsGo Goes froms tos → (slot : ℕ) (tag : Tag) → slice_get tos slot ≡ Some tag → LocalGoes Goes (or_top (slice_get froms slot)) tag
local-goes Goes froms [] go slot tag e = absurd (cc)
local-goes Goes [] (to ∷ tos) go zero tag e = subst (LocalGoes Goes Top) (same-tag to tag e) go.0
local-goes Goes [] (to ∷ tos) go (suc slot) tag e = local-goes Goes [] tos go.1 slot tag e
local-goes Goes (from ∷ froms) (to ∷ tos) go zero tag e = subst (LocalGoes Goes from) (same-tag to tag e) go.0
local-goes Goes (from ∷ froms) (to ∷ tos) go (suc slot) tag e = local-goes Goes froms tos go.1 slot tag e

no-entry : (Goes : Assignability) (entries : List Tag) → EntriesGo Goes [] entries → entries ≡ []
no-entry Goes [] go = refl
no-entry Goes (first ∷ rest) go = absurd go

-- what is kept of the first frame
record Keeps (world : List Header) (code : Code) (frame : Working) : Type 0 where
  pub goes : (slot : ℕ) (tag : Tag) → slice_get frame.locals slot ≡ Some tag → LocalGoes (Strictly world) (or_top (slice_get (entry code).locals slot)) tag
  pub empty : frame.stack ≡ []

same-frame : (first second : Working) → Some first ≡ Some second → first ≡ second
same-frame first second e = cc

head-keeps : (world : List Header) (code : Code) (found : Option Working) (frame : Working) → IfSome found (λ one. FrameGoes (Strictly world) (entry code) one) → or_else found (Some (entry code)) ≡ Some frame → Keeps world code frame
head-keeps world code None frame go e =
    subst (Keeps world code) (same-frame (entry code) frame e)
    (record { goes = λ slot tag is. subst (λ found. LocalGoes (Strictly world) (or_top found) tag) (sym is) (local-itself world tag); empty = refl })
head-keeps world code (Some one) frame go e =
    subst (Keeps world code) (same-frame one frame e) (record { goes = local-goes (Strictly world) (entry code).locals one.locals go.locals; empty = no-entry (Strictly world) one.stack go.stack })

pub begins-well : (world : List Header) (typed : Typed) (part : Instructions) → typed.code.instructions ≡ part → (part ≡ [] → ⊥) → IsRising part → (table : List Working) → length table ≡ length part
    → AreFrames (Strictly world) world typed.code (Some (entry typed.code)) part table → BeginsWell world typed table
begins-well world typed [] e some rising table same are = absurd (some refl)
begins-well world typed (first ∷ rest) e some rising [] same are = absurd (omega (arith, same))
begins-well world typed (first ∷ rest) e some rising (frame ∷ frames) same are =
    let kept = head-keeps world typed.code (given typed.code first.0) frame are.1.1.0 are.0 in
    record {
      instruction = first.1;
      rest = rest;
      code_is = e ∙ ap (λ (pc : ℕ). (pc, first.1) ∷ rest) rising.0;
      frame = frame;
      frames = frames;
      table_is = refl;
      goes = kept.goes;
      empty = kept.empty;
    }

-- the offsets behind an instruction aren't below
rising-least : (least : ℕ) (part : Instructions) → IsRisingFrom least part → (place pc : ℕ) (instruction : Instruction) (more : Instructions) → drop place part ≡ (pc, instruction) ∷ more → least ≤ pc
rising-least least [] rising zero pc instruction more e = absurd (cc)
rising-least least [] rising (suc place) pc instruction more e = absurd (cc)
rising-least least (first ∷ rest) rising zero pc instruction more e = let same : first.0 ≡ pc = first-offset first (pc, instruction) rest more e in omega (arith, same, rising.0)
  where
    first-offset : (one other : ℕ × Instruction) (behind more : Instructions) → one ∷ behind ≡ other ∷ more → one.0 ≡ other.0
    first-offset one other behind more e = cc
rising-least least (first ∷ rest) rising (suc place) pc instruction more e = let later = rising-least (first.0 + 1) rest rising.1 place pc instruction more e in omega (arith, later, rising.0)

-- an instruction at 0 is the first
pub first-place : (part : Instructions) → IsRising part → (place : ℕ) (instruction : Instruction) (more : Instructions) → drop place part ≡ (0, instruction) ∷ more → place ≡ 0
first-place part rising zero instruction more e = refl
first-place [] rising (suc place) instruction more e = absurd (cc)
first-place (first ∷ rest) rising (suc place) instruction more e = absurd (let later = rising-least 1 rest rising.1 place 0 instruction more e in omega (arith, later))

-- ---- operands

-- an instruction finds its operands in the frame at its place
pub operands-at : (Goes : Assignability) (headers : List Header) (code : Code) (flow : Option Working) (part : Instructions) (frames : List Working) → length frames ≡ length part → AreFrames Goes headers code flow part frames
    → (place pc : ℕ) (instruction : Instruction) (rest : Instructions) (frame : Working) → drop place part ≡ (pc, instruction) ∷ rest → slice_get frames place ≡ Some frame → HasOperands Goes headers code pc (work code instruction) frame
operands-at Goes headers code flow [] frames same are zero pc instruction rest frame e is = absurd (cc)
operands-at Goes headers code flow [] frames same are (suc place) pc instruction rest frame e is = absurd (cc)
operands-at Goes headers code flow (first ∷ more) [] same are place pc instruction rest frame e is = absurd (omega (arith, same))
operands-at Goes headers code flow (first ∷ more) (head ∷ frames) same are zero pc instruction rest frame e is =
    let here : Place = record { flow = flow; pc = first.0; instruction = first.1; rest = more } in
    let own : HasOperands Goes headers code first.0 (work code first.1) head = subst (λ found. IfSome found (λ frame. FrameKeeps Goes headers code here frame rule.Operands)) are.0 are.1.1.1.0 in
    subst (λ (one : ℕ × Instruction). HasOperands Goes headers code one.0 (work code one.1) frame) (first-same first (pc, instruction) more rest e) (subst (HasOperands Goes headers code first.0 (work code first.1)) (same-frame head frame is) own)
  where
    first-same : (one other : ℕ × Instruction) (behind more : Instructions) → one ∷ behind ≡ other ∷ more → one ≡ other
    first-same one other behind more e = cc
operands-at Goes headers code flow (first ∷ more) (head ∷ frames) same are (suc place) pc instruction rest frame e is =
    operands-at Goes headers code (flow_behind code (record { flow = flow; pc = first.0; instruction = first.1; rest = more }) head) more frames (omega (arith, same)) are.2 place pc instruction rest frame e is
