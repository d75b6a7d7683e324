-- From the rules on a frame to those at its place, and from one place to the next.
use Rattle.std.proofs.Common.{◌≡◌, ◌↔◌, ℕ, ◌+◌, ◌<◌, ◌≤◌, Bool, true, if◌then◌else◌, eqb, List, [], ◌∷◌, ◌++◌, drop, length, get_or, Option, Some, None, refl, sym, ap, ◌∙◌, subst, arith, inl, inr, add-one, drop-cons}
use Rattle.std.specs.Prelude.{All, IsTrue, IsSome}
use Rattle.std.proofs.lemmas.List.{drop_all, length-append, length-drop}
use Rattle.std.proofs.lemmas.Bool.{false≢true}
use Rattle.std.proofs.lemmas.Bool.Decides.{nat_tests}
use Rattle.dj_names.specs.declared.header.Header.{Header}
use Rattle.dj_instructions.specs.Instructions.{Instruction, Instructions}
use Rattle.dj_code.specs.MethodCode.{Code}
use Rattle.dj_code.specs.Targets.{targets_of}
use Rattle.dj_tags.specs.Goes.{Assignability, Working}
use Rattle.dj_effects.specs.Rows.{work}
use Rattle.dj_effects.specs.Effects.{effect, locals_needed}
use Rattle.dj_effects.specs.Operands.{HasOperands}
use Rattle.dj_applying.specs.Done.{Did}
use Rattle.dj_verify.specs.declared.rule.Rule.{Rule}
use Rattle.dj_verify.specs.declared.rule.Rule.TheVariants as rule
use Rattle.dj_verify.specs.Rules.{Place, entry, effect_at, falls, Covers, HandlerTakes, Reaches, HasRoom, FrameKeeps}
use Rattle.dj_verify.specs.Table.{frame_at, flow_behind, Keeps, KeepsAll, BreaksFirst, rules, AreFrames, flow_after, IsFirstViolation}
use Rattle.dj_verify.specs.Checking.{AreTold, late_rules, IsBroken, IsFrameChecked, IsKept, IsChecked}
use Rattle.dj_verify.proofs.Violations.{frames_pushed, flow_pushed, violation}

-- there is room for a frame, for what the instruction leaves, and for what it stores, and what flows in fits
abbrev pub HasRooms : Code → Instruction → Working → Working → Bool → Type 0
HasRooms code instruction frame after fits =
    HasRoom code frame × HasRoom code after × (locals_needed (work code instruction) ≤ code.max_locals) × IsTrue fits

module _ (Goes : Assignability) (headers : List Header) (code : Code) (flow : Option Working) (pc : ℕ) (instruction : Instruction) (rest : Instructions) (frame after : Working) (fits is_last : Bool) (told : AreTold code flow rest fits is_last) (is_after : after ≡ effect code pc (work code instruction) frame) where
  abbrev Keep : Rule → Type 0
  Keep = FrameKeeps Goes headers code (record { flow = flow; pc = pc; instruction = instruction; rest = rest }) frame

  room : HasRooms code instruction frame after fits → Keep rule.Room
  room has = (has.0, subst (HasRoom code) is_after has.1, has.2, told.flow_fits.0 has.3)

  has_rooms : Keep rule.Room → HasRooms code instruction frame after fits
  has_rooms keeps = (keeps.0, subst (HasRoom code) (sym is_after) keeps.1, keeps.2, told.flow_fits.1 keeps.3)

  abbrev Jumps : Working → Type 0
  Jumps left = All (Reaches Goes code left) (targets_of instruction)

  pub breaks_room : (HasRooms code instruction frame after fits → ⊥) → BreaksFirst Keep late_rules rule.Room
  breaks_room none = inl (refl, λ keeps. none (has_rooms keeps))

  pub breaks_target : HasRooms code instruction frame after fits → (Jumps after → ⊥) → BreaksFirst Keep late_rules rule.Target
  breaks_target has none = inr (room has, inl (refl, λ jumps. none (subst Jumps (sym is_after) jumps)))

  pub breaks_handler : HasRooms code instruction frame after fits → Jumps after → (All (λ handler. Covers handler pc → HandlerTakes Goes code frame handler) code.handlers → ⊥) → BreaksFirst Keep late_rules rule.Handler
  breaks_handler has jumps none = inr (room has, inr (subst Jumps is_after jumps, inl (refl, none)))

-- what an instruction does to a frame, by what was done to an equal one
pub applied : (Goes : Assignability) (headers : List Header) (code : Code) (pc : ℕ) (instruction : Instruction) (frame old new after : Working) (done : Bool) → Did Goes headers code pc (work code instruction) old done new → old ≡ frame → done ≡ true → after ≡ new → HasOperands Goes headers code pc (work code instruction) frame × (after ≡ effect code pc (work code instruction) frame)
applied Goes headers code pc instruction frame old new after done did same is after_is =
    (subst (HasOperands Goes headers code pc (work code instruction)) same (did.operands.0 is), after_is ∙ did.effect is ∙ ap (effect code pc (work code instruction)) same)

-- the later rules, behind that on operands
pub frame_checked : (Goes : Assignability) (headers : List Header) (code : Code) (place : Place) (frame after : Working) (broken : Option Rule) → FrameKeeps Goes headers code place frame rule.Operands → after ≡ effect_at code place frame → IsBroken (FrameKeeps Goes headers code place frame) late_rules broken → IsFrameChecked Goes headers code place frame after broken
frame_checked Goes headers code place frame after (Some broken) operands leaves breaks = inr (operands, breaks)
frame_checked Goes headers code place frame after None operands leaves keeps = ((operands, keeps), leaves)

-- what flows on from what an instruction leaves
abbrev pub flowing : Bool → Working → Option Working
flowing falls after = if falls then Some after else None

pub placed_checked : (Goes : Assignability) (headers : List Header) (code : Code) (place : Place) (Holds : Working → Type 0) (frame after : Working) (behind : Option Working) (broken : Option Rule) → Holds frame → frame_at code place ≡ Some frame → Keeps Goes headers code place rule.Into → behind ≡ flowing (falls place.instruction) after → IsFrameChecked Goes headers code place frame after broken → IsChecked Goes headers code place Holds behind broken
placed_checked Goes headers code place Holds frame after behind (Some broken) holds is into flows breaks = inr (rw is refl, inr (into, rw is breaks))
placed_checked Goes headers code place Holds frame after behind None holds is into flows (keeps, leaves) = record {
  frame = frame;
  frame_is = is;
  holds = holds;
  keeps = (rw is refl, (into, rw is keeps));
  flows = flows ∙ ap (flowing (falls place.instruction)) leaves;
}

-- no frame stands there
pub none_placed : (Goes : Assignability) (headers : List Header) (code : Code) (place : Place) → frame_at code place ≡ None → BreaksFirst (Keeps Goes headers code place) rules rule.NoFrame
none_placed Goes headers code place is = inl (refl, λ keeps. false≢true (subst IsSome is keeps))

-- the table so far, and what flows in behind it
pub record IsBegun (Goes : Assignability) (headers : List Header) (code : Code) (index : ℕ) (frames : List Working) (flow : Option Working) : Type 0 where
  pub number : length frames ≡ index
  pub are : AreFrames Goes headers code (Some (entry code)) code.instructions frames
  pub flowing : flow ≡ flow_after code (Some (entry code)) code.instructions frames

module _ (Goes : Assignability) (headers : List Header) (code : Code) (index : ℕ) (d : ℕ × Instruction) (frames : List Working) (flow : Option Working) (begun : IsBegun Goes headers code index frames flow) (within : index < length code.instructions) where
  abbrev item : ℕ × Instruction
  item = get_or code.instructions index d

  abbrev rest : Instructions
  rest = drop (index + 1) code.instructions

  here : drop (length frames) code.instructions ≡ item ∷ rest
  here = rw (begun.number, add-one) (drop-cons code.instructions index d within)

  abbrev place : Place
  place = record { flow = flow; pc = item.0; instruction = item.1; rest = rest }

  -- the flow there, however it is spelled
  abbrev flowed : Option Working
  flowed = flow_after code (Some (entry code)) code.instructions frames

  abbrev place' : Place
  place' = record { flow = flowed; pc = item.0; instruction = item.1; rest = rest }

  pub begun_more : (frame : Working) (behind : Option Working) → frame_at code place ≡ Some frame → KeepsAll (Keeps Goes headers code place) rules → behind ≡ flow_behind code place frame → IsBegun Goes headers code (index + 1) (frames ++ frame ∷ []) behind
  begun_more frame behind is keeps flows =
      let e = begun.flowing in
      let is' : frame_at code place' ≡ Some frame = subst (λ f. frame_at code (record { flow = f; pc = item.0; instruction = item.1; rest = rest }) ≡ Some frame) e is in
      let keeps' : KeepsAll (Keeps Goes headers code place') rules = subst (λ f. KeepsAll (Keeps Goes headers code (record { flow = f; pc = item.0; instruction = item.1; rest = rest })) rules) e keeps in
      let flows' : behind ≡ flow_behind code place' frame = subst (λ f. behind ≡ flow_behind code (record { flow = f; pc = item.0; instruction = item.1; rest = rest }) frame) e flows in
      record {
        number = omega (arith, begun.number, length-append frames (frame ∷ []));
        are = frames_pushed Goes headers code (Some (entry code)) code.instructions frames item rest frame begun.are here is' keeps';
        flowing = flows' ∙ sym (flow_pushed Goes headers code (Some (entry code)) code.instructions frames item rest frame here);
      }

  pub begun_breaks : (broken : Rule) → BreaksFirst (Keeps Goes headers code place) rules broken → IsFirstViolation Goes headers code item.0 broken
  begun_breaks broken breaks =
      violation Goes headers code frames item rest broken begun.are here (subst (λ f. BreaksFirst (Keeps Goes headers code (record { flow = f; pc = item.0; instruction = item.1; rest = rest })) rules broken) begun.flowing breaks)

  pub is_last : (b : Bool) → ((b ≡ true) ↔ (index + 1 ≡ length code.instructions)) → (b ≡ true) ↔ (rest ≡ [])
  is_last b last = (λ yes. let e = last.0 yes in drop_all (index + 1) code.instructions (omega arith), λ none. last.1 (let many = ap length none in let m = length-drop (index + 1) code.instructions in omega arith))

pub same_number : (m n k : ℕ) → n ≡ k → (eqb m n ≡ true) ↔ (m ≡ k)
same_number m n k is = (λ e. grind (arith, nat_tests), λ e. grind (arith, nat_tests))

-- a table so far of which this holds, and what flows in behind it
pub record HasBegun (Holds : List Working → Type 0) (Goes : Assignability) (headers : List Header) (code : Code) (index : ℕ) (flow : Option Working) : Type 0 where
  pub frames : List Working
  pub holds : Holds frames
  pub begun : IsBegun Goes headers code index frames flow

-- no frame so far
pub begun_none : (Holds : List Working → Type 0) (Goes : Assignability) (headers : List Header) (code : Code) (first : Working) → Holds [] → first ≡ entry code → HasBegun Holds Goes headers code 0 (Some first)
begun_none Holds Goes headers code first none is = record { frames = []; holds = none; begun = record { number = refl; are = tt; flowing = ap Some is } }

-- the same with the instructions as a loop sees them
module _ (Goes : Assignability) (headers : List Header) (code : Code) (index : ℕ) (item : ℕ × Instruction) (is_item : (d : ℕ × Instruction) → get_or code.instructions index d ≡ item) (Holds More : List Working → Type 0) (flow : Option Working) (begun : HasBegun Holds Goes headers code index flow) (within : index < length code.instructions) (count : ℕ) (counted : count ≡ length code.instructions) (behind : Option Working) (broken : Option Rule) where
  -- what holds of the table with one frame more
  abbrev pub Pushes : Working → Type 0
  Pushes frame = (frames : List Working) → Holds frames → More (frames ++ frame ∷ [])

  module _ (told : (rest : Instructions) → ((eqb (index + 1) count ≡ true) ↔ (rest ≡ [])) → IsChecked Goes headers code (record { flow = flow; pc = item.0; instruction = item.1; rest = rest }) Pushes behind broken) where
    abbrev here_is : Place
    here_is = place Goes headers code index item begun.frames flow begun.begun within

    told_here : IsChecked Goes headers code here_is Pushes behind broken
    told_here =
        let last = is_last Goes headers code index item begun.frames flow begun.begun within (eqb (index + 1) count) (same_number (index + 1) count (length code.instructions) counted) in
        subst (λ (at : ℕ × Instruction). IsChecked Goes headers code (record { flow = flow; pc = at.0; instruction = at.1; rest = drop (index + 1) code.instructions }) Pushes behind broken) (sym (is_item item)) (told (drop (index + 1) code.instructions) last)

    pub loop_more : broken ≡ None → HasBegun More Goes headers code (index + 1) behind
    loop_more is =
        let kept : IsKept Goes headers code here_is Pushes behind = subst (IsChecked Goes headers code here_is Pushes behind) is told_here in
        record {
          frames = begun.frames ++ kept.frame ∷ [];
          holds = kept.holds begun.frames begun.holds;
          begun = begun_more Goes headers code index item begun.frames flow begun.begun within kept.frame behind kept.frame_is kept.keeps kept.flows;
        }

    pub loop_breaks : (rule : Rule) → broken ≡ Some rule → IsFirstViolation Goes headers code item.0 rule
    loop_breaks rule is =
        subst (λ (at : ℕ × Instruction). IsFirstViolation Goes headers code at.0 rule) (is_item item)
        (begun_breaks Goes headers code index item begun.frames flow begun.begun within rule (subst (IsChecked Goes headers code here_is Pushes behind) is told_here))
