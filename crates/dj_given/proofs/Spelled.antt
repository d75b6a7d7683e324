-- What verified code says of an instruction where it stands: an opcode spells it, and it has a frame.
use Rattle.std.proofs.Common.{◌≡◌, ◌≢◌, ℕ, zero, suc, ◌+◌, ◌-◌, ◌<◌, ◌≤◌, Bool, true, false, List, [], ◌∷◌, ◌++◌, drop, replicate, length, get_or, Contains, Option, Some, refl, sym, ap, subst, inl, inr, arith}
use Rattle.std.specs.Prelude.{if◌then◌else◌, slice_get, map, flat_map, IsTrue, IfSome}
use Rattle.std.proofs.lemmas.List.{length-map, length-append}
use Rattle.dj_names.specs.declared.header.Header.{Header}
use Rattle.dj_names.specs.Types.{JType, parameters_of}
use Rattle.dj_instructions.specs.Instructions.{Instruction, Instructions, IsRising, IsRisingFrom}
use Rattle.dj_frames.specs.Frames.{Tag, Top, Int, Float, Double, Long, Null, UnbornThis, Object, Unborn, Frame, slots_of, tag_of, receiver_of, entry_values}
use Rattle.dj_code.specs.MethodCode.{Typed}
use Rattle.dj_tags.specs.Goes.{Assignability, Working, top_down}
use Rattle.dj_effects.specs.Works.{Never}
use Rattle.dj_effects.specs.Spelled.{is_spelled}
use Rattle.dj_effects.specs.Operands.{HasOperands}
use Rattle.dj_effects.specs.Rows.{row, work}
use Rattle.dj_verify.specs.Rules.{head_of, entry, FrameKeeps}
use Rattle.dj_verify.specs.Rules as rules_of
use Rattle.dj_verify.specs.declared.rule.Rule.TheVariants as rule
use Rattle.dj_verify.specs.Verified.{IsTyped}
use Rattle.dj_standing.proofs.Places.{frame-at, frame-there}
use Rattle.dj_code_causes.specs.Places.{IsPlace}
use Rattle.dj_birth_causes.specs.OwnCalls.{StandsAt}

-- the list from a place on begins with what stands there
pub from_place : {A : Type 0} (list : List A) (k : ℕ) (one : A) → k < length list → get_or list k one ≡ one → (rest : List A) × (drop k list ≡ one ∷ rest)
from_place [] k one within is = absurd (omega arith)
from_place (first ∷ rest) zero one within is = (rest, ap (λ head. head ∷ rest) is)
from_place (first ∷ rest) (suc k) one within is = from_place rest k one (omega (arith, within)) is

-- each value takes a local
slots_some : (tag : Tag) → 1 ≤ length (slots_of tag)
slots_some Top = omega arith
slots_some Int = omega arith
slots_some Float = omega arith
slots_some Double = omega arith
slots_some Long = omega arith
slots_some Null = omega arith
slots_some UnbornThis = omega arith
slots_some (Object type) = omega arith
slots_some (Unborn pc) = omega arith

slots_few : (tags : List Tag) → length tags ≤ length (flat_map slots_of tags)
slots_few [] = omega arith
slots_few (tag ∷ tags) = let one = slots_some tag in let more = slots_few tags in omega (arith, one, more, length-append (slots_of tag) (flat_map slots_of tags))

entry_values_few : (receiver : List Tag) (parameters : List JType) → length parameters ≤ length (flat_map slots_of (receiver ++ map tag_of parameters))
entry_values_few receiver parameters =
    let all = slots_few (receiver ++ map tag_of parameters) in
    omega (arith, all, length-append receiver (map tag_of parameters), length-map parameters tag_of)

module _ (Goes : Assignability) (headers : List Header) (typed : Typed) (table : IsTyped Goes headers typed) where
  abbrev frames : List Working
  frames = map top_down typed.frames

  -- the instruction at a place is one that an opcode spells
  pub spelled : (pc : ℕ) (instruction : Instruction) → Contains typed.code.instructions (pc, instruction) → is_spelled instruction ≡ true
  spelled pc instruction (k, within, is) =
      let (rest, e) = from_place typed.code.instructions k (pc, instruction) within is in
      let frame = frame-there typed.code.instructions frames k (pc, instruction) rest table.number e in
      let found = frame-at Goes headers typed.code (Some (entry typed.code)) typed.code.instructions frames table.are k (pc, instruction) rest frame.0 e frame.1 in
      let here : rules_of.Place = record { flow = found.flow; pc = pc; instruction = instruction; rest = rest } in
      by (is_spelled instruction) refl frame.0
      (subst (λ (held : Option Working). IfSome held (λ f. FrameKeeps Goes headers typed.code here f rule.Operands)) found.are.0 found.are.1.1.1.0)
    where
      by : (test : Bool) → is_spelled instruction ≡ test → (frame : Working) → HasOperands Goes headers typed.code pc (work typed.code instruction) frame → is_spelled instruction ≡ true
      by true e frame has = e
      by false e frame has = absurd (subst (λ test. HasOperands Goes headers typed.code pc (if test then row typed.code instruction else Never) frame) e has)

  -- the locals of the first instruction have room for all that the method begins with
  entry_room : (first : ℕ × Instruction) (rest : Instructions) → drop 0 typed.code.instructions ≡ first ∷ rest → length (entry typed.code).locals ≤ typed.code.max_locals
  entry_room first rest e =
      let frame = frame-there typed.code.instructions frames 0 first rest table.number e in
      let found = frame-at Goes headers typed.code (Some (entry typed.code)) typed.code.instructions frames table.are 0 first rest frame.0 e frame.1 in
      let here : rules_of.Place = record { flow = found.flow; pc = first.0; instruction = first.1; rest = rest } in
      let room = subst (λ (held : Option Working). IfSome held (λ f. FrameKeeps Goes headers typed.code here f rule.Room)) found.are.0 found.are.1.1.1.1.0 in
      subst (λ (flow : Option Working). IfSome flow (λ f. length f.locals ≤ typed.code.max_locals)) (found.enters refl) room.3

  -- so no method has more parameters than locals
  pub few_parameters : typed.code.instructions ≢ [] → length (parameters_of typed.code.descriptor) ≤ typed.code.max_locals
  few_parameters some = by typed.code.instructions refl
    where
      by : (list : Instructions) → typed.code.instructions ≡ list → length (parameters_of typed.code.descriptor) ≤ typed.code.max_locals
      by [] e = absurd (some e)
      by (first ∷ rest) e =
          let room = entry_room first rest e in
          let many = entry_values_few (receiver_of typed.code.class (head_of typed.code)) (parameters_of typed.code.descriptor) in
          omega (arith, room, many, length-append (flat_map slots_of (entry_values typed.code.class (head_of typed.code))) (replicate (typed.code.max_locals - length (flat_map slots_of (entry_values typed.code.class (head_of typed.code)))) Top))

-- ---- places with frames

-- what holds of an instruction with its frame holds at a place
pub in_place : (Holds : ℕ → Instruction → Frame → Type 0) (list : Instructions) (frames : List Frame) (k pc : ℕ) (instruction : Instruction) (frame : Frame)
    → k < length list → get_or list k (pc, instruction) ≡ (pc, instruction) → slice_get frames k ≡ Some frame → Holds pc instruction frame → IsPlace Holds list frames
in_place Holds [] frames k pc instruction frame within is there holds = absurd (omega arith)
in_place Holds (at ∷ rest) [] k pc instruction frame within is there holds = absurd (cc)
in_place Holds (at ∷ rest) (first ∷ frames) zero pc instruction frame within is there holds =
    inl (subst (λ (f : Frame). Holds at.0 at.1 f) (sym (some first frame there)) (subst (λ (one : ℕ × Instruction). Holds one.0 one.1 frame) (sym is) holds))
  where
    some : (one other : Frame) → Some one ≡ Some other → one ≡ other
    some one other e = cc
in_place Holds (at ∷ rest) (first ∷ frames) (suc k) pc instruction frame within is there holds = inr (in_place Holds rest frames k pc instruction frame (omega (arith, within)) is there holds)

-- and so does a test that passes
pub stands_in : (test : Instruction → Frame → Bool) (list : Instructions) (frames : List Frame) (k pc : ℕ) (instruction : Instruction) (frame : Frame)
    → k < length list → get_or list k (pc, instruction) ≡ (pc, instruction) → slice_get frames k ≡ Some frame → IsTrue (test instruction frame) → StandsAt test list frames pc
stands_in test [] frames k pc instruction frame within is there passes = absurd (omega arith)
stands_in test (at ∷ rest) [] k pc instruction frame within is there passes = absurd (cc)
stands_in test (at ∷ rest) (first ∷ frames) zero pc instruction frame within is there passes =
    inl (sym (ap (λ (one : ℕ × Instruction). one.0) is), subst (λ (f : Frame). IsTrue (test at.1 f)) (sym (some first frame there)) (subst (λ (one : ℕ × Instruction). IsTrue (test one.1 frame)) (sym is) passes))
  where
    some : (one other : Frame) → Some one ≡ Some other → one ≡ other
    some one other e = cc
stands_in test (at ∷ rest) (first ∷ frames) (suc k) pc instruction frame within is there passes = inr (stands_in test rest frames k pc instruction frame (omega (arith, within)) is there passes)

-- ---- one place of each offset

-- offsets rise from the least one on
pub above_all : (list : Instructions) (least k pc : ℕ) (instruction : Instruction) → IsRisingFrom least list → k < length list → get_or list k (pc, instruction) ≡ (pc, instruction) → least ≤ pc
above_all [] least k pc instruction rising within is = absurd (omega (arith, within))
above_all (first ∷ rest) least zero pc instruction rising within is = let low = rising.0 in let same = ap (λ (one : ℕ × Instruction). one.0) is in omega (arith, low, same)
above_all (first ∷ rest) least (suc k) pc instruction rising within is =
    let low = rising.0 in let later = above_all rest (first.0 + 1) k pc instruction rising.1 (omega (arith, within)) is in omega (arith, low, later)

above_stands : (test : Instruction → Frame → Bool) (list : Instructions) (frames : List Frame) (least pc : ℕ) → IsRisingFrom least list → StandsAt test list frames pc → least ≤ pc
above_stands test [] frames least pc rising stands = absurd stands
above_stands test (first ∷ rest) [] least pc rising stands = absurd stands
above_stands test (first ∷ rest) (frame ∷ frames) least pc rising (inl here) = let low = rising.0 in let same = here.0 in omega (arith, low, same)
above_stands test (first ∷ rest) (frame ∷ frames) least pc rising (inr there) =
    let low = rising.0 in let later = above_stands test rest frames (first.0 + 1) pc rising.1 there in omega (arith, low, later)

-- so what stands at an offset passes the test that what stands there passes
passes_from : (test : Instruction → Frame → Bool) (list : Instructions) (frames : List Frame) (least k pc : ℕ) (instruction : Instruction) (frame : Frame)
    → IsRisingFrom least list → k < length list → get_or list k (pc, instruction) ≡ (pc, instruction) → slice_get frames k ≡ Some frame → StandsAt test list frames pc → IsTrue (test instruction frame)
passes_from test [] frames least k pc instruction frame rising within is there stands = absurd stands
passes_from test (first ∷ rest) [] least k pc instruction frame rising within is there stands = absurd stands
passes_from test (first ∷ rest) (head ∷ frames) least zero pc instruction frame rising within is there (inl here) =
    subst (λ (f : Frame). IsTrue (test instruction f)) (some head frame there) (subst (λ (one : Instruction). IsTrue (test one head)) (ap (λ (one : ℕ × Instruction). one.1) is) here.1)
  where
    some : (one other : Frame) → Some one ≡ Some other → one ≡ other
    some one other e = cc
passes_from test (first ∷ rest) (head ∷ frames) least zero pc instruction frame rising within is there (inr stands) =
    absurd (let later = above_stands test rest frames (first.0 + 1) pc rising.1 stands in let same = ap (λ (one : ℕ × Instruction). one.0) is in omega (arith, later, same))
passes_from test (first ∷ rest) (head ∷ frames) least (suc k) pc instruction frame rising within is there (inl here) =
    absurd (let later = above_all rest (first.0 + 1) k pc instruction rising.1 (omega (arith, within)) is in let same = here.0 in omega (arith, later, same))
passes_from test (first ∷ rest) (head ∷ frames) least (suc k) pc instruction frame rising within is there (inr stands) =
    passes_from test rest frames (first.0 + 1) k pc instruction frame rising.1 (omega (arith, within)) is there stands

pub passes_there : (test : Instruction → Frame → Bool) (list : Instructions) (frames : List Frame) (k pc : ℕ) (instruction : Instruction) (frame : Frame)
    → IsRising list → k < length list → get_or list k (pc, instruction) ≡ (pc, instruction) → slice_get frames k ≡ Some frame → StandsAt test list frames pc → IsTrue (test instruction frame)
passes_there test [] frames k pc instruction frame rising within is there stands = absurd stands
passes_there test (first ∷ rest) frames k pc instruction frame rising within is there stands =
    passes_from test (first ∷ rest) frames 0 k pc instruction frame (omega arith, subst (λ least. IsRisingFrom (least + 1) rest) (sym rising.0) rising.1) within is there stands
