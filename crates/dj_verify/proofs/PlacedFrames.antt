-- The frame at a place: the one that is given, or what flows in.
use Rattle.std.proofs.Common.{◌≡◌, ℕ, List, Option, Some, None, refl, sym, ap, subst, inl, inr}
use Rattle.std.specs.Prelude.{IsSome, IfSome, option_map}
use Rattle.dj_names.specs.declared.header.Header.{Header}
use Rattle.dj_instructions.specs.Instructions.{Instruction, Instructions}
use Rattle.dj_frames.specs.Frames.{Frame}
use Rattle.dj_code.specs.MethodCode.{Code}
use Rattle.dj_tags.specs.Goes.{Assignability, Working, top_down, FrameGoes}
use Rattle.dj_verify.specs.declared.rule.Rule.TheVariants as rule
use Rattle.dj_verify.specs.Rules.{Place, padded, frame_in}
use Rattle.dj_verify.specs.Table.{or_else, frame_at, Keeps, BreaksFirst, rules}
use Rattle.dj_verify.proofs.PaddedFrames.{goes_padded}

-- the frame is the one at the place, and what flows in goes into it
pub record Stands (Goes : Assignability) (headers : List Header) (code : Code) (place : Place) (frame : Working) : Type 0 where
  pub frame_is : frame_at code place ≡ Some frame
  pub into : Keeps Goes headers code place rule.Into

module _ (Goes : Assignability) (headers : List Header) (code : Code) (pc : ℕ) (instruction : Instruction) (rest : Instructions) where
  abbrev place : Option Working → Place
  place flow = record { flow = flow; pc = pc; instruction = instruction; rest = rest }

  abbrev all_of : Option Frame → Option Working
  all_of = option_map (λ frame. padded code.max_locals (top_down frame))

  module _ (given : Frame) (is : Some given ≡ frame_in pc code.frames) where
    given_some : (flow : Option Working) → Keeps Goes headers code (place flow) rule.NoFrame
    given_some flow = subst (λ o. IsSome (or_else (all_of o) flow)) is refl

    pub into_broken : (flow : Option Working) → (IfSome flow (λ frame. FrameGoes Goes frame (top_down given)) → ⊥) → BreaksFirst (Keeps Goes headers code (place flow)) rules rule.Into
    into_broken None none = absurd (none tt)
    into_broken (Some flow) none =
        inr (given_some (Some flow), inl (refl, λ keeps. none ((goes_padded Goes code.max_locals flow (top_down given)).1 (subst (λ o. IfSome (all_of o) (λ frame. FrameGoes Goes flow frame)) (sym is) keeps))))

    given_is : (flow : Option Working) (all : Working) → all ≡ padded code.max_locals (top_down given) → frame_at code (place flow) ≡ Some all
    given_is flow all same = subst (λ o. or_else (all_of o) flow ≡ Some all) is (ap Some (sym same))

    pub given_stands : (flow : Option Working) (all : Working) → IfSome flow (λ frame. FrameGoes Goes frame (top_down given)) → all ≡ padded code.max_locals (top_down given) → Stands Goes headers code (place flow) all
    given_stands None all goes same = record { frame_is = given_is None all same; into = subst (λ o. IfSome (all_of o) (λ frame. IfSome {T = Working} None (λ flow. FrameGoes Goes flow frame))) is tt }
    given_stands (Some flow) all goes same = record {
      frame_is = given_is (Some flow) all same;
      into = subst (λ o. IfSome (all_of o) (λ frame. FrameGoes Goes flow frame)) is ((goes_padded Goes code.max_locals flow (top_down given)).0 goes);
    }
