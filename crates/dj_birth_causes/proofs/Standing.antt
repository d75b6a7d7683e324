-- The first instruction that passes a test by the frame before it, found by going through instructions whose offsets rise.
use Rattle.std.proofs.Common.{◌≡◌, ◌↔◌, ℕ, ◌+◌, ◌<◌, ◌≤◌, Bool, List, [], ◌∷◌, length, drop, get_or, map, IsTrue, refl, sym, ap, subst, inl, inr, arith}
use Rattle.dj_instructions.specs.declared.instruction.Instruction as declared
use Rattle.dj_instructions.specs.Instructions.{Instruction, Instructions, IsRising, IsRisingFrom, view_instruction, view_instructions}
use Rattle.dj_frames.specs.declared.frame.Frame as code_frame
use Rattle.dj_frames.specs.Frames.{Frame, view_frame}
use Rattle.dj_code.specs.Targets.{IsLeast}
use Rattle.dj_birth_causes.specs.OwnCalls.{StandsAt}

-- a list with an item begins with its first one
pub starts : {A : Type 0} (left : List A) (x : A) → 1 ≤ length left → x ≡ get_or left 0 x → left ≡ x ∷ drop 1 left
starts [] x long is = absurd (omega arith)
starts {A} (y ∷ rest) x long is = ap (λ (z : A). z ∷ rest) (sym is)

-- instructions rise from 0 on
pub rising_from : (all : Instructions) → IsRising all → IsRisingFrom 0 all
rising_from [] rising = tt
rising_from (first ∷ rest) rising = (omega (arith, rising.0), subst (λ n. IsRisingFrom n rest) (let e : 1 ≡ first.0 + 1 = omega (arith, rising.0) in e) rising.1)

module _ (test : Instruction → Frame → Bool) where
  -- none stands below where they begin
  pub above : (least : ℕ) (left : Instructions) (frames : List Frame) → IsRisingFrom least left → (pc : ℕ) → StandsAt test left frames pc → least ≤ pc
  above least [] frames rising pc none = absurd none
  above least (at ∷ rest) [] rising pc none = absurd none
  above least (at ∷ rest) (frame ∷ frames) rising pc (inl here) = subst (λ n. least ≤ n) (sym here.0) rising.0
  above least (at ∷ rest) (frame ∷ frames) rising pc (inr there) = let further = above (at.0 + 1) rest frames rising.1 pc there in omega (arith, further, rising.0)

  -- what passes among all is what passes among those that are left, and these rise
  pub record IsLeft (all : Instructions) (frames : List Frame) (left : Instructions) (more : List Frame) : Type 0 where
    pub least : ℕ
    pub rising : IsRisingFrom least left
    pub same : (pc : ℕ) → StandsAt test all frames pc ↔ StandsAt test left more pc

  pub left_first : (all : Instructions) (frames : List Frame) → IsRising all → IsLeft all frames all frames
  left_first all frames rising = record { least = 0; rising = rising_from all rising; same = λ pc. (λ one. one, λ one. one) }

  module _ (all : Instructions) (frames : List Frame) (left : List (ℕ × declared.Instruction)) (at : ℕ × declared.Instruction) (long : 1 ≤ length left) (is : at ≡ get_or left 0 at)
      (before : List code_frame.Frame) where
    pub left_none : IsLeft all frames (view_instructions left) [] → (pc : ℕ) → ¬ StandsAt test all frames pc
    left_none is_left pc one = none (view_instructions left) ((is_left.same pc).0 one)
      where
        none : (list : Instructions) → ¬ StandsAt test list [] pc
        none [] one = one
        none (x ∷ rest) one = one

    module _ (frame : code_frame.Frame) (some : 1 ≤ length before) (first : frame ≡ get_or before 0 frame) (is_left : IsLeft all frames (view_instructions left) (map view_frame before)) where
      begun : IsLeft all frames ((at.0, view_instruction at.1) ∷ view_instructions (drop 1 left)) (view_frame frame ∷ map view_frame (drop 1 before))
      begun = subst (λ (list : List (ℕ × declared.Instruction)). IsLeft all frames (view_instructions list) (view_frame frame ∷ map view_frame (drop 1 before))) (starts left at long is)
          (subst (λ (list : List code_frame.Frame). IsLeft all frames (view_instructions left) (map view_frame list)) (starts before frame some first) is_left)

      pub left_behind : ¬ IsTrue (test (view_instruction at.1) (view_frame frame)) → IsLeft all frames (view_instructions (drop 1 left)) (map view_frame (drop 1 before))
      left_behind none = record {
        least = at.0 + 1;
        rising = begun.rising.1;
        same = λ pc. (λ one. elim ((begun.same pc).0 one) [ inl here ↦ absurd (none here.1) | inr there ↦ there ], λ one. (begun.same pc).1 (inr one));
      }

      pub left_past : (last : ℕ) → last < at.0 → (pc : ℕ) → pc ≤ last → ¬ StandsAt test all frames pc
      left_past last past pc low one = elim ((begun.same pc).0 one) [
        | inl here ↦ (let same = here.0 in omega (arith, same, past, low))
        | inr there ↦ (let further = above (at.0 + 1) (view_instructions (drop 1 left)) (map view_frame (drop 1 before)) begun.rising.1 pc there in omega (arith, further, past, low))
      ]

      pub least_here : IsTrue (test (view_instruction at.1) (view_frame frame)) → IsLeast (StandsAt test all frames) at.0
      least_here passes = record {
        here = (begun.same at.0).1 (inl (refl, passes));
        least = λ other one. elim ((begun.same other).0 one) [
          | inl here ↦ subst (λ n. at.0 ≤ n) (sym here.0) (omega arith)
          | inr there ↦ (let further = above (at.0 + 1) (view_instructions (drop 1 left)) (map view_frame (drop 1 before)) begun.rising.1 other there in omega (arith, further))
        ];
      }

  pub none_left : (all : Instructions) (frames more : List Frame) → IsLeft all frames [] more → (pc : ℕ) → ¬ StandsAt test all frames pc
  none_left all frames more is_left pc one = (is_left.same pc).0 one
