-- The variables that are numbered by first frames and stores are those of the code.
use Rattle.std.proofs.Common.{◌≡◌, ◌⊎◌, inl, inr, ℕ, zero, suc, ◌+◌, ◌-◌, ◌<◌, Bool, true, false, List, [], ◌∷◌, length, map, Option, Some, None, refl, sym, ap, ◌∙◌, subst, arith}
use Rattle.std.specs.Prelude.{slice_get, slice_index_or, nat_lt, if◌then◌else◌}
use Rattle.std.proofs.lemmas.Bool.Decides.{nat_tests}
use Rattle.std.proofs.lemmas.Option.{slice_get_within, none-some, same_Some}
use Rattle.dj_names.specs.Types.{JType, view_type}
use Rattle.dj_frames.specs.Frames.{Tag, Frame}
use Rattle.dj_code.specs.MethodCode.{Typed}
use Rattle.dj_tags.specs.Goes.{Working, top_down}
use Rattle.dj_numbers.specs.declared.numbers.Variable.{Variable}
use Rattle.dj_numbers.specs.Numbers.{Typing, view_variables, number_of, number_of_any, with_slots, AreDistinct}
use Rattle.dj_numbers.specs.Frames.{type_of_slot, frame_type, with_frames}
use Rattle.dj_vars.specs.Slots.{slot_tag}
use Rattle.dj_vars.specs.Naming.{Vars, Begins, HasType, at_start, by_write, AreVars}
use Rattle.dj_numbering.specs.Numbered.{HasNumber, IsNumberedAt}
use Rattle.dj_numbering.proofs.Numbered.{slots_are_met, numbered_are_vars}
use Rattle.dj_code_variables.specs.Views.{flattened, first_of, first_type, kinds_of}
use Rattle.dj_code_variables.specs.Firsts.{IsFirstAt, AreFirsts}
use Rattle.dj_code_variables.specs.Stores.{AreStored}
use Rattle.dj_code_variables.proofs.Bottoms.{slot-is}

-- ---- frames one after another

-- a frame gives a slot a type
record GivesType (most : ℕ) (firsts : List (Option Frame)) (typing : Typing) : Type 0 where
  block : ℕ
  frame : Frame
  listed : first_of firsts block ≡ Some frame
  gives : frame_type most frame typing.slot ≡ Some typing.type

-- behind frames: numbers that were there stay, each slot of each frame has one, and there are no others
record FramesAreMet (most : ℕ) (firsts : List (Option Frame)) (before after : List Typing) : Type 0 where
  distinct : AreDistinct after
  kept : (slot : ℕ) (type : JType) (number : ℕ) → number_of before slot type ≡ Some number → number_of after slot type ≡ Some number
  each : (typing : Typing) → GivesType most firsts typing → HasNumber after typing.slot typing.type
  only : (number : ℕ) (typing : Typing) → slice_get after number ≡ Some typing → (slice_get before number ≡ Some typing) ⊎ GivesType most firsts typing

-- a frame speaks of no slot beyond its stack
within-frame : (most : ℕ) (frame : Frame) (slot : ℕ) (type : JType) → frame_type most frame slot ≡ Some type → slot < most + length frame.stack
within-frame most frame slot type e = by (nat_lt slot most) refl e
  where
    some : (found : Option Tag) → type_of_slot found ≡ Some type → (tag : Tag) × (found ≡ Some tag)
    some None e = absurd (none-some type e)
    some (Some tag) e = (tag, refl)

    by : (test : Bool) → nat_lt slot most ≡ test → type_of_slot (if test then slice_get frame.locals slot else slice_get frame.stack (slot - most)) ≡ Some type → slot < most + length frame.stack
    by true t e = let less : slot < most = grind (arith, nat_tests) in omega (arith, less)
    by false t e =
        let found = some (slice_get frame.stack (slot - most)) e in
        let less = slice_get_within frame.stack (slot - most) found.0 found.1 in
        omega (arith, less)

sooner : (most : ℕ) (first : Option Frame) (rest : List (Option Frame)) (typing : Typing) → GivesType most rest typing → GivesType most (first ∷ rest) typing
sooner most first rest typing gives = record { block = suc gives.block; frame = gives.frame; listed = gives.listed; gives = gives.gives }

frames-met : (most : ℕ) (firsts : List (Option Frame)) (before : List Typing) → AreDistinct before → FramesAreMet most firsts before (with_frames most before firsts)
frames-met most [] before distinct = record {
  distinct = distinct;
  kept = λ slot type number e. e;
  each = λ typing gives. absurd (none-some gives.frame gives.listed);
  only = λ number typing e. inl e;
}
frames-met most (None ∷ rest) before distinct =
    let later = frames-met most rest before distinct in
    record {
      distinct = later.distinct;
      kept = later.kept;
      each = λ typing gives. behind typing gives.block gives.frame gives.listed gives.gives later.each;
      only = λ number typing e. elim (later.only number typing e) [ inl old ↦ inl old | inr gives ↦ inr (sooner most None rest typing gives) ];
    }
  where
    behind : (typing : Typing) (block : ℕ) (frame : Frame) → first_of (None ∷ rest) block ≡ Some frame → frame_type most frame typing.slot ≡ Some typing.type
        → ((typing : Typing) → GivesType most rest typing → HasNumber (with_frames most before rest) typing.slot typing.type) → HasNumber (with_frames most before rest) typing.slot typing.type
    behind typing zero frame listed gives later = absurd (none-some frame listed)
    behind typing (suc block) frame listed gives later = later typing (record { block = block; frame = frame; listed = listed; gives = gives })
frames-met most (Some own ∷ rest) before distinct =
    let met = slots_are_met before (frame_type most own) (most + length own.stack) distinct in
    let middle = with_slots before (frame_type most own) (most + length own.stack) in
    let later = frames-met most rest middle met.distinct in
    record {
      distinct = later.distinct;
      kept = λ slot type number e. later.kept slot type number (met.kept slot type number e);
      each = λ typing gives. behind middle typing gives.block gives.frame gives.listed gives.gives met.each later.kept later.each;
      only = λ number typing e. elim (later.only number typing e) [
        | inl old ↦ elim (met.only number typing old) [
          | inl earliest ↦ inl earliest
          | inr at ↦ inr (record { block = 0; frame = own; listed = refl; gives = at.1 })
        ]
        | inr gives ↦ inr (sooner most (Some own) rest typing gives)
      ];
    }
  where
    behind : (middle : List Typing) (typing : Typing) (block : ℕ) (frame : Frame) → first_of (Some own ∷ rest) block ≡ Some frame → frame_type most frame typing.slot ≡ Some typing.type
        → ((slot : ℕ) (type : JType) → slot < most + length own.stack → frame_type most own slot ≡ Some type → HasNumber middle slot type)
        → ((slot : ℕ) (type : JType) (number : ℕ) → number_of middle slot type ≡ Some number → number_of (with_frames most middle rest) slot type ≡ Some number)
        → ((typing : Typing) → GivesType most rest typing → HasNumber (with_frames most middle rest) typing.slot typing.type) → HasNumber (with_frames most middle rest) typing.slot typing.type
    behind middle typing zero frame listed gives met kept later =
        let same = same_Some own frame listed in
        let given : frame_type most own typing.slot ≡ Some typing.type = ap (λ (one : Frame). frame_type most one typing.slot) same ∙ gives in
        let found = met typing.slot typing.type (within-frame most own typing.slot typing.type given) given in
        record { number = found.number; is = kept typing.slot typing.type found.number found.is }
    behind middle typing (suc block) frame listed gives met kept later = later typing (record { block = block; frame = frame; listed = listed; gives = gives })

none-distinct : AreDistinct []
none-distinct one other typing e f = absurd (none-some typing e)

-- ---- blocks

-- the first frame of a block, as it is kept
record IsFirst (firsts : List (Option Frame)) (block : ℕ) (frame : Working) : Type 0 where
  first : Frame
  listed : first_of firsts block ≡ Some first
  is : top_down first ≡ frame

read : {A : Type 0} (list : List A) (place : ℕ) → place < length list → (one : A) × (slice_get list place ≡ Some one)
read [] place less = absurd (omega (arith, less))
read (one ∷ more) zero less = (one, refl)
read (one ∷ more) (suc place) less = read more place (omega (arith, less))

module _ (typed : Typed) (starts : List ℕ) (firsts : List (Option Frame)) (are : AreFirsts typed starts firsts) where
  begins-first : (block : ℕ) (frame : Working) → Begins typed starts block frame → IsFirst firsts block frame
  begins-first block frame begins =
      let within = slice_get_within starts block begins.start begins.listed in
      let long = are.long in
      let found = read firsts block (omega (arith, within, long)) in
      by found.0 found.1 (are.each block begins.start found.0 begins.listed found.1)
    where
      by : (found : Option Frame) → slice_get firsts block ≡ Some found → IsFirstAt typed begins.start found → IsFirst firsts block frame
      by None e none = absurd (none begins.instruction frame begins.at)
      by (Some first) e is = record { first = first; listed = ap flattened e; is = sym (is.only begins.instruction frame begins.at) }

  first-begins : (block : ℕ) (first : Frame) → first_of firsts block ≡ Some first → Begins typed starts block (top_down first)
  first-begins block first e = by (slice_get firsts block) refl e
    where
      by : (found : Option (Option Frame)) → slice_get firsts block ≡ found → flattened found ≡ Some first → Begins typed starts block (top_down first)
      by None f e = absurd (none-some first e)
      by (Some None) f e = absurd (none-some first e)
      by (Some (Some one)) f e =
          let same = same_Some one first e in
          let within = slice_get_within firsts block (Some one) f in
          let long = are.long in
          let start = read starts block (omega (arith, within, long)) in
          let is = are.each block start.0 (Some one) start.1 f in
          subst (λ (frame : Frame). Begins typed starts block (top_down frame)) same (record { start = start.0; listed = start.1; instruction = is.instruction; at = is.at })

  -- its slots have the same types
  first-types : (block : ℕ) (frame : Working) (is : IsFirst firsts block frame) (slot : ℕ) → first_type typed.code.max_locals (first_of firsts block) slot ≡ type_of_slot (slot_tag typed.code frame slot)
  first-types block frame is slot =
      ap (λ (found : Option Frame). first_type typed.code.max_locals found slot) is.listed
      ∙ ap type_of_slot (sym (slot-is typed.code is.first slot))
      ∙ ap (λ (one : Working). type_of_slot (slot_tag typed.code one slot)) is.is

  module _ (middle variables : List Typing) (after : List (Option ℕ)) (kinds : List JType) (distinct : AreDistinct variables)
      (met : middle ≡ with_frames typed.code.max_locals [] firsts) (stored : AreStored typed middle variables after) (types : kinds ≡ map (λ (typing : Typing). typing.type) variables) where
    abbrev vars : Vars
    vars = record {
      of = λ block slot. number_of_any variables slot (first_type typed.code.max_locals (first_of firsts block) slot);
      after = λ pc. slice_index_or after pc None;
      kinds = kinds;
    }

    in-frames : FramesAreMet typed.code.max_locals firsts [] middle
    in-frames = subst (FramesAreMet typed.code.max_locals firsts []) (sym met) (frames-met typed.code.max_locals firsts [] none-distinct)

    numbered-at : (block slot variable : ℕ) → vars.of block slot ≡ Some variable → IsNumberedAt typed starts variables vars block slot
    numbered-at block slot variable e = by (first_of firsts block) refl e
      where
        by : (found : Option Frame) → first_of firsts block ≡ found → number_of_any variables slot (first_type typed.code.max_locals found slot) ≡ Some variable → IsNumberedAt typed starts variables vars block slot
        by None f e = absurd (none-some variable e)
        by (Some first) f e = record {
          frame = top_down first;
          begins = first-begins block first f;
          is = ap (number_of_any variables slot) (first-types block (top_down first) (record { first = first; listed = f; is = refl }) slot);
        }

    each-type : (slot : ℕ) (type : JType) → HasType typed starts slot type → HasNumber variables slot type
    each-type slot type (at_start {block = block} {frame = frame} begins e) =
        let is = begins-first block frame begins in
        let gives : frame_type typed.code.max_locals is.first slot ≡ Some type =
        ap type_of_slot (sym (slot-is typed.code is.first slot)) ∙ ap (λ (one : Working). type_of_slot (slot_tag typed.code one slot)) is.is ∙ e in
        let found = in-frames.each (record { slot = slot; type = type }) (record { block = block; frame = is.first; listed = is.listed; gives = gives }) in
        record { number = found.number; is = stored.kept slot type found.number found.is }
    each-type slot type (by_write {pc = pc} writes) = stored.each pc slot type writes

    only-type : (number : ℕ) (typing : Typing) → slice_get variables number ≡ Some typing → HasType typed starts typing.slot typing.type
    only-type number typing e = elim (stored.only number typing e) [
      | inl old ↦ elim (in-frames.only number typing old) [
        | inl none ↦ absurd (none-some typing none)
        | inr gives ↦ at_start (first-begins gives.block gives.frame gives.listed) (ap type_of_slot (slot-is typed.code gives.frame typing.slot) ∙ gives.gives)
      ]
      | inr written ↦ by_write written.writes
    ]

    pub are-vars : AreVars typed starts vars
    are-vars = numbered_are_vars typed starts variables vars record {
      distinct = distinct;
      each = each-type;
      only = only-type;
      of = λ block frame begins slot. ap (number_of_any variables slot) (first-types block frame (begins-first block frame begins) slot);
      of_none = numbered-at;
      after = stored.noted;
      after_none = stored.not_noted;
      kinds = types;
    }

-- ---- the types of variables

pub kinds-are : (variables : List Variable) → kinds_of variables ≡ map (λ (typing : Typing). typing.type) (view_variables variables)
kinds-are [] = refl
kinds-are (first ∷ rest) = ap (λ (list : List JType). view_type first.kind ∷ list) (kinds-are rest)
