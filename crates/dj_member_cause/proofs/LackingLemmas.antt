-- The first instruction that lacks its member, found by going through instructions whose offsets rise, with the frames before them.
use Rattle.std.proofs.Common.{◌≡◌, ℕ, zero, suc, ◌+◌, ◌≤◌, ◌<◌, List, [], ◌∷◌, length, drop, Option, Some, refl, sym, ap, ◌∙◌, subst, inl, inr, arith, ne_eqb, true, false}
use Rattle.std.specs.Prelude.{Bool, map, MatchOption, slice_get, slice_index_or, option_map}
use Rattle.std.proofs.lemmas.Bool.{true≢false}
use Rattle.std.proofs.lemmas.Bool.Decides.{eqb_tells}
use Rattle.std.proofs.lemmas.List.{length-map}
use Rattle.std.proofs.lemmas.Option.{none-some, same_Some, slice_get-map, slice_get-get_or}
use Rattle.dj_names.specs.declared.header.Header.{Header}
use Rattle.dj_names.specs.declared.members.ClassMembers.{ClassMembers}
use Rattle.dj_names.specs.Headers.{Name}
use Rattle.dj_meaning.specs.Members.{Members, view_members}
use Rattle.dj_world.specs.Worlds.{WorldOf}
use Rattle.dj_instructions.specs.declared.instruction.Instruction as declared
use Rattle.dj_instructions.specs.Instructions.{Instruction, Instructions, IsRising, IsRisingFrom, view_instruction, instruction_at}
use Rattle.dj_frames.specs.declared.frame.Frame as code_frame
use Rattle.dj_frames.specs.Frames.{Frame, view_frame}
use Rattle.dj_code.specs.declared.method_code.Typed as code_typed
use Rattle.dj_code.specs.MethodCode.{Typed, view_typed}
use Rattle.dj_code.specs.Targets.{IsLeast}
use Rattle.dj_static.specs.declared.classes.Classes.{Classes}
use Rattle.dj_receivers.specs.Receivers.{IsOnThis}
use Rattle.dj_code_causes.specs.Places.{IsPlace}
use Rattle.dj_member_cause.specs.Lawful.{HasMember}
use Rattle.dj_member_cause.specs.Lacking.{LacksMember}
use Rattle.dj_member_cause.specs.declared.known.Known.{Known}
use Rattle.dj_member_cause.specs.Deciding.{LacksAt, LacksIn}
use Rattle.dj_member_cause.specs.Telling.{IsThereAt, LacksByPlace, IsKnown}

module _ (Lacks : ℕ → Instruction → Frame → Type 0) where
  -- the instruction at a pc lacks
  abbrev pub Found : Instructions → List Frame → ℕ → Type 0
  Found left frames pc = IsPlace (λ here instruction frame. (pc ≡ here) × Lacks pc instruction frame) left frames

  -- what lacks among all lacks among those that are left, and these rise
  pub record IsLeft (all : Instructions) (all_frames : List Frame) (left : Instructions) (frames : List Frame) : Type 0 where
    pub least : ℕ
    pub rising : IsRisingFrom least left
    pub to : (pc : ℕ) → Found all all_frames pc → Found left frames pc
    pub from : (pc : ℕ) → Found left frames pc → Found all all_frames pc
    pub there : (pc : ℕ) (instruction : Instruction) → instruction_at left pc ≡ Some instruction → instruction_at all pc ≡ Some instruction

  rising_from : (all : Instructions) → IsRising all → IsRisingFrom 0 all
  rising_from [] rising = tt
  rising_from (first ∷ rest) rising = (omega (arith, rising.0), subst (λ n. IsRisingFrom n rest) (let e : 1 ≡ first.0 + 1 = omega (arith, rising.0) in e) rising.1)

  pub left_first : (all : Instructions) (frames : List Frame) → IsRising all → IsLeft all frames all frames
  left_first all frames rising = record { least = 0; rising = rising_from all rising; to = λ pc one. one; from = λ pc one. one; there = λ pc instruction is. is }

  -- none stands below where they begin
  above : (least : ℕ) (left : Instructions) (frames : List Frame) → IsRisingFrom least left → (pc : ℕ) → Found left frames pc → least ≤ pc
  above least [] frames rising pc none = absurd none
  above least (at ∷ rest) [] rising pc none = absurd none
  above least (at ∷ rest) (frame ∷ frames) rising pc (inl here) = subst (λ n. least ≤ n) (sym here.0) rising.0
  above least (at ∷ rest) (frame ∷ frames) rising pc (inr there) = let further = above (at.0 + 1) rest frames rising.1 pc there in omega (arith, further, rising.0)

  at_above : (least : ℕ) (left : Instructions) → IsRisingFrom least left → (pc : ℕ) (instruction : Instruction) → instruction_at left pc ≡ Some instruction → least ≤ pc
  at_above least [] rising pc instruction is = absurd (none-some instruction is)
  at_above least (at ∷ rest) rising pc instruction is =
      elim (eqb_tells at.0 pc) [
        | inl same ↦ subst (λ n. least ≤ n) same.1 rising.0
        | inr differ ↦ (let further = at_above (at.0 + 1) rest rising.1 pc instruction (rw differ.0 at is) in omega (arith, further, rising.0))
      ]

  module _ (all : Instructions) (all_frames : List Frame) (at : ℕ × Instruction) (rest : Instructions) (frame : Frame) (frames : List Frame) (left : IsLeft all all_frames (at ∷ rest) (frame ∷ frames)) where
    first_at : (test : Option Instruction) → instruction_at (at ∷ rest) at.0 ≡ test → test ≡ Some at.1
    first_at test is = elim (eqb_tells at.0 at.0) [ inl same ↦ sym is ∙ rw same.0 refl | inr differ ↦ absurd (differ.1 refl) ]

    pub here_at : instruction_at all at.0 ≡ Some at.1
    here_at = left.there at.0 at.1 (first_at (instruction_at (at ∷ rest) at.0) refl)

    pub left_behind : ¬ Lacks at.0 at.1 frame → IsLeft all all_frames rest frames
    left_behind none = record {
      least = at.0 + 1;
      rising = left.rising.1;
      to = λ pc one. elim (left.to pc one) [ inl here ↦ absurd (none (subst (λ n. Lacks n at.1 frame) here.0 here.1)) | inr there ↦ there ];
      from = λ pc one. left.from pc (inr one);
      there = λ pc instruction is. left.there pc instruction (let far = at_above (at.0 + 1) rest left.rising.1 pc instruction is in rw (ne_eqb at.0 pc (λ same. omega (arith, same, far))) is);
    }

    pub least_here : Lacks at.0 at.1 frame → IsLeast (Found all all_frames) at.0
    least_here lacks = record {
      here = left.from at.0 (inl (refl, lacks));
      least = λ other one. elim (left.to other one) [
        | inl here ↦ subst (λ n. at.0 ≤ n) (sym here.0) (omega arith)
        | inr there ↦ (let further = above (at.0 + 1) rest frames left.rising.1 other there in omega (arith, further))
      ];
    }

  pub none_left : (all : Instructions) (all_frames frames : List Frame) → IsLeft all all_frames [] frames → (pc : ℕ) → ¬ Found all all_frames pc
  none_left all all_frames frames left pc one = left.to pc one

  pub no_frame_left : (all : Instructions) (all_frames : List Frame) (left : Instructions) → IsLeft all all_frames left [] → (pc : ℕ) → ¬ Found all all_frames pc
  no_frame_left all all_frames [] left pc one = left.to pc one
  no_frame_left all all_frames (at ∷ rest) left pc one = left.to pc one

-- a list from one of its places on
drop_at : {A : Type 0} (xs : List A) (place : ℕ) (x : A) → slice_get xs place ≡ Some x → drop place xs ≡ x ∷ drop (place + 1) xs
drop_at [] place x is = absurd (none-some x is)
drop_at (y ∷ ys) zero x is = ap (λ z. z ∷ ys) (same_Some y x is)
drop_at {A} (y ∷ ys) (suc place) x is = drop_at ys place x is ∙ ap (λ n. x ∷ drop n (y ∷ ys)) (let e : suc (place + 1) ≡ suc place + 1 = omega arith in e)

drop_none : {A : Type 0} (xs : List A) (place : ℕ) → xs ≡ [] → drop place xs ≡ xs
drop_none [] zero none = refl
drop_none [] (suc place) none = refl
drop_none (x ∷ xs) place none = absurd (cc)

-- its item at a place
pub item_at : {A : Type 0} (found list : List A) (place : ℕ) (x : A) → found ≡ list → place < length found → x ≡ slice_index_or found place x → slice_get list place ≡ Some x
item_at found list place x same within is = subst (λ xs. slice_get xs place ≡ Some x) same (slice_get-get_or found place x within ∙ ap Some (sym is))

drop_past : {A : Type 0} (xs : List A) (place : ℕ) → length xs ≤ place → drop place xs ≡ []
drop_past [] place past = drop_none [] place refl
drop_past (x ∷ xs) zero past = absurd (omega (arith, past))
drop_past (x ∷ xs) (suc place) past = drop_past xs place (omega (arith, past))

module _ (classes : Classes) (typed : code_typed.Typed) where
  abbrev seen : Typed
  seen = view_typed typed

  -- those from a place on are left
  abbrev pub GoingAt : ℕ → Type 0
  GoingAt place = IsLeft (LacksAt classes seen) seen.code.instructions seen.frames (drop place seen.code.instructions) (drop place seen.frames)

  pub going_begins : IsRising seen.code.instructions → GoingAt 0
  going_begins rising = left_first (LacksAt classes seen) seen.code.instructions seen.frames rising

  module _ (place : ℕ) (going : GoingAt place) where
    pub none_behind : length typed.code.instructions ≤ place → (pc : ℕ) → ¬ LacksIn classes seen pc
    none_behind past =
        none_left (LacksAt classes seen) seen.code.instructions seen.frames (drop place seen.frames)
        (subst (λ left. IsLeft (LacksAt classes seen) seen.code.instructions seen.frames left (drop place seen.frames))
        (drop_past seen.code.instructions place (subst (λ n. n ≤ place) (sym (length-map typed.code.instructions (λ (at : ℕ × declared.Instruction). (at.0, view_instruction at.1)))) past)) going)

    pub no_frame : length typed.frames ≤ place → (pc : ℕ) → ¬ LacksIn classes seen pc
    no_frame past =
        no_frame_left (LacksAt classes seen) seen.code.instructions seen.frames (drop place seen.code.instructions)
        (subst (λ frames. IsLeft (LacksAt classes seen) seen.code.instructions seen.frames (drop place seen.code.instructions) frames)
        (drop_past seen.frames place (subst (λ n. n ≤ place) (sym (length-map typed.frames view_frame)) past)) going)

    module _ (at : ℕ × declared.Instruction) (frame : code_frame.Frame) (at_is : slice_get typed.code.instructions place ≡ Some at) (frame_is : slice_get typed.frames place ≡ Some frame) where
      abbrev now : ℕ × Instruction
      now = (at.0, view_instruction at.1)

      left_now : IsLeft (LacksAt classes seen) seen.code.instructions seen.frames (now ∷ drop (place + 1) seen.code.instructions) (view_frame frame ∷ drop (place + 1) seen.frames)
      left_now =
          subst (λ frames. IsLeft (LacksAt classes seen) seen.code.instructions seen.frames (now ∷ drop (place + 1) seen.code.instructions) frames)
          (drop_at seen.frames place (view_frame frame) (slice_get-map view_frame typed.frames place ∙ ap (option_map view_frame) frame_is))
          (subst (λ left. IsLeft (LacksAt classes seen) seen.code.instructions seen.frames left (drop place seen.frames))
          (drop_at seen.code.instructions place now
          (slice_get-map (λ (one : ℕ × declared.Instruction). (one.0, view_instruction one.1)) typed.code.instructions place ∙ ap (option_map (λ (one : ℕ × declared.Instruction). (one.0, view_instruction one.1))) at_is)) going)

      pub there_now : instruction_at seen.code.instructions at.0 ≡ Some (view_instruction at.1)
      there_now = here_at (LacksAt classes seen) seen.code.instructions seen.frames now (drop (place + 1) seen.code.instructions) (view_frame frame) (drop (place + 1) seen.frames) left_now

      pub found_now : LacksAt classes seen at.0 (view_instruction at.1) (view_frame frame) → IsLeast (LacksIn classes seen) at.0
      found_now lacks = least_here (LacksAt classes seen) seen.code.instructions seen.frames now (drop (place + 1) seen.code.instructions) (view_frame frame) (drop (place + 1) seen.frames) left_now lacks

      pub goes_on : ¬ LacksAt classes seen at.0 (view_instruction at.1) (view_frame frame) → GoingAt (place + 1)
      goes_on none = left_behind (LacksAt classes seen) seen.code.instructions seen.frames now (drop (place + 1) seen.code.instructions) (view_frame frame) (drop (place + 1) seen.frames) left_now none

-- an item at a place of a list
pub there_is : {A : Type 0} (xs : List A) (place : ℕ) → place < length xs → (x : A) × (slice_get xs place ≡ Some x)
there_is [] place within = absurd (omega (arith, within))
there_is (x ∷ xs) zero within = (x, refl)
there_is (x ∷ xs) (suc place) within = there_is xs place (omega (arith, within))

-- what is kept, with what was told of the instructions before
pub record GoingOn (classes : Classes) (typed : code_typed.Typed) (place : ℕ) (known : Known) : Type 0 where
  pub going : GoingAt classes typed place
  pub known_so : IsKnown classes typed place known

module _ (classes : Classes) (typed : code_typed.Typed) (place : ℕ) (known : Known) (on : GoingOn classes typed place known) where
  pub none_more : length typed.code.instructions ≤ place → (pc : ℕ) → ¬ LacksIn classes (view_typed typed) pc
  none_more = none_behind classes typed place on.going

  pub no_more_frames : length typed.frames ≤ place → (pc : ℕ) → ¬ LacksIn classes (view_typed typed) pc
  no_more_frames = no_frame classes typed place on.going

  module _ (framed : place < length typed.frames) where
    pub is_there : IsThereAt typed place
    is_there at at_is = let it = there_is typed.frames place framed in there_now classes typed place on.going at it.0 at_is it.1

    module _ (at : ℕ × declared.Instruction) (at_is : slice_get typed.code.instructions place ≡ Some at) (lacks : Bool) (told : LacksByPlace classes typed place lacks) where
      pub found_first : lacks ≡ true → IsLeast (LacksIn classes (view_typed typed)) at.0
      found_first is = let it = there_is typed.frames place framed in found_now classes typed place on.going at it.0 at_is it.1 ((told at it.0 at_is it.1).0 is)

      pub further : lacks ≡ false → (new : Known) → IsKnown classes typed (place + 1) new → GoingOn classes typed (place + 1) new
      further is new known_new =
          let it = there_is typed.frames place framed in
          record { going = goes_on classes typed place on.going at it.0 at_is it.1 (λ one. true≢false (sym ((told at it.0 at_is it.1).1 one) ∙ is)); known_so = known_new }

-- ---- the classes of a world

module _ (typed : Typed) (found : Option ℕ) where
  -- the first that lacks its member, over these headers and members in a class
  abbrev FirstOver : List Header → List Members → Name → Type 0
  FirstOver headers members from =
      MatchOption found ((pc : ℕ) → ¬ Found (λ at instruction frame. ¬ HasMember headers members from (IsOnThis typed at) frame instruction) typed.code.instructions typed.frames pc)
      (IsLeast (Found (λ at instruction frame. ¬ HasMember headers members from (IsOnThis typed at) frame instruction) typed.code.instructions typed.frames))

  pub first_over : (world : WorldOf) (headers : List Header) (members : List ClassMembers) → headers ≡ world.headers → members ≡ world.members
      → FirstOver headers (map view_members members) typed.code.class → MatchOption found ((pc : ℕ) → ¬ LacksMember world typed pc) (IsLeast (LacksMember world typed))
  first_over world headers members same_headers same_members first =
      subst (λ (list : List ClassMembers). FirstOver world.headers (map view_members list) typed.code.class) same_members
      (subst (λ list. FirstOver list (map view_members members) typed.code.class) same_headers first)
