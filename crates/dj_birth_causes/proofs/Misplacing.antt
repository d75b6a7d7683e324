-- The first instruction that may stand in no birth that began at 0, found by going through instructions.
use Rattle.std.proofs.Common.{◌≡◌, ◌↔◌, ℕ, ◌+◌, ◌≤◌, List, [], ◌∷◌, ◌++◌, Option, length, drop, get_or, map, refl, sym, ap, subst, inl, inr, ◌∙◌, arith}
use Rattle.std.proofs.lemmas.List.{append_assoc, drop-drop, length-append}
use Rattle.dj_instructions.specs.declared.instruction.Instruction as declared
use Rattle.dj_instructions.specs.Instructions.{Instruction, Instructions, IsRising, IsRisingFrom, view_instruction, view_instructions}
use Rattle.dj_frames.specs.declared.frame.Frame as code_frame
use Rattle.dj_frames.specs.Frames.{Frame, view_frame}
use Rattle.dj_code.specs.MethodCode.{Typed}
use Rattle.dj_code.specs.Targets.{IsLeast}
use Rattle.dj_starts.specs.declared.calls.Met.{Met}
use Rattle.dj_starts.specs.declared.roles.Role.{Role}
use Rattle.dj_starts.specs.declared.roles.Role.TheVariants as role
use Rattle.dj_starts.specs.Births.{role_of, first_role, IsAllowed}
use Rattle.dj_starts.specs.Walking.{IsTable, IsEnded, GoesBy, barred_from}
use Rattle.dj_starts.proofs.WalkSteps.{ended_at, one_ends, allowed_goes, goes_allowed}
use Rattle.dj_birth_causes.specs.Beginning.{MayNotStand}
use Rattle.dj_birth_causes.proofs.Standing.{starts, rising_from}

-- none stands below where they begin
misplaced_above : (typed : Typed) (least : ℕ) (before : Role) (left : Instructions) → IsRisingFrom least left → (pc : ℕ) → MayNotStand typed before left pc → least ≤ pc
misplaced_above typed least before [] rising pc none = absurd none
misplaced_above typed least before (at ∷ rest) rising pc (inl here) = subst (λ n. least ≤ n) (sym here.0) rising.0
misplaced_above typed least before (at ∷ rest) rising pc (inr there) = let further = misplaced_above typed (at.0 + 1) (role_of at.1) rest rising.1 pc there in omega (arith, further, rising.0)

-- of all instructions these are left, behind one of this role; what is misplaced stands among them
pub record IsWalkedTo (typed : Typed) (before : Role) (left : Instructions) (more : List Frame) : Type 0 where
  pub done : Instructions
  pub split : typed.code.instructions ≡ done ++ left
  pub frames : more ≡ drop (length done) typed.frames
  pub least : ℕ
  pub rising : IsRisingFrom least left
  pub same : (pc : ℕ) → MayNotStand typed role.Plain typed.code.instructions pc ↔ MayNotStand typed before left pc

pub walked_first : (typed : Typed) → IsRising typed.code.instructions → IsWalkedTo typed role.Plain typed.code.instructions typed.frames
walked_first typed rising = record { done = []; split = refl; frames = refl; least = 0; rising = rising_from typed.code.instructions rising; same = λ pc. (λ one. one, λ one. one) }

pub walked_last : (typed : Typed) (before : Role) (more : List Frame) → IsWalkedTo typed before [] more → (pc : ℕ) → ¬ MayNotStand typed role.Plain typed.code.instructions pc
walked_last typed before more walked pc one = (walked.same pc).0 one

module _ (typed : Typed) (rising : IsRising typed.code.instructions) (before : Role) (at : ℕ × Instruction) (rest : Instructions) (more : List Frame) (walked : IsWalkedTo typed before (at ∷ rest) more) where
  walked_next : IsAllowed typed 0 at.0 before (role_of at.1) (first_role rest) → IsWalkedTo typed (role_of at.1) rest (drop 1 more)
  walked_next allowed = record {
    done = walked.done ++ at ∷ [];
    split = walked.split ∙ sym (append_assoc walked.done (at ∷ []) rest);
    frames =
        ap (λ (list : List Frame). drop 1 list) walked.frames ∙ drop-drop 1 (length walked.done) typed.frames
        ∙ ap (λ (n : ℕ). drop n typed.frames) (sym (length-append walked.done (at ∷ [])));
    least = at.0 + 1;
    rising = walked.rising.1;
    same = λ pc. (λ one. elim ((walked.same pc).0 one) [ inl here ↦ absurd (here.1 allowed) | inr there ↦ there ], λ one. (walked.same pc).1 (inr one));
  }

  walked_here : ¬ IsAllowed typed 0 at.0 before (role_of at.1) (first_role rest) → IsLeast (MayNotStand typed role.Plain typed.code.instructions) at.0
  walked_here barred = record {
    here = (walked.same at.0).1 (inl (refl, barred));
    least = λ other one. elim ((walked.same other).0 one) [
      | inl here ↦ subst (λ n. at.0 ≤ n) (sym here.0) (omega arith)
      | inr there ↦ (let further = misplaced_above typed (at.0 + 1) (role_of at.1) rest walked.rising.1 other there in omega (arith, further))
    ];
  }

  module _ (calls : List Met) (table : IsTable typed.code.instructions typed.frames calls) (ended : Option ℕ) (ends : IsEnded calls at.0 at.1 more ended) where
    rises : IsRisingFrom 0 typed.code.instructions
    rises = rising_from typed.code.instructions rising

    pub next_walked : GoesBy (barred_from before (role_of at.1) (first_role rest) ended) 0 → IsWalkedTo typed (role_of at.1) rest (drop 1 more)
    next_walked goes =
        let is = ended_at typed walked.done at rest walked.split rises calls table ended (subst (λ (list : List Frame). IsEnded calls at.0 at.1 list ended) walked.frames ends) in
        walked_next (goes_allowed typed at.0 ended is (one_ends typed walked.done at rest walked.split rises) 0 before (role_of at.1) (first_role rest) goes)

    pub here_walked : ¬ GoesBy (barred_from before (role_of at.1) (first_role rest) ended) 0 → IsLeast (MayNotStand typed role.Plain typed.code.instructions) at.0
    here_walked barred =
        let is = ended_at typed walked.done at rest walked.split rises calls table ended (subst (λ (list : List Frame). IsEnded calls at.0 at.1 list ended) walked.frames ends) in
        walked_here (λ allowed. barred (allowed_goes typed at.0 ended is (one_ends typed walked.done at rest walked.split rises) 0 before (role_of at.1) (first_role rest) allowed))

-- by the program's lists: of those that are left, the first
abbrev Listed : Type 0
Listed = List (ℕ × declared.Instruction)

abbrev pub IsWalkedIn : Typed → Role → Listed → List code_frame.Frame → Type 0
IsWalkedIn typed before left more = IsWalkedTo typed before (view_instructions left) (map view_frame more)

pub walked_at : (typed : Typed) (before : Role) (left : Listed) (more : List code_frame.Frame) (at : ℕ × declared.Instruction) → 1 ≤ length left → at ≡ get_or left 0 at → IsWalkedIn typed before left more
    → IsWalkedTo typed before ((at.0, view_instruction at.1) ∷ view_instructions (drop 1 left)) (map view_frame more)
walked_at typed before left more at long is walked = subst (λ (list : Listed). IsWalkedTo typed before (view_instructions list) (map view_frame more)) (starts left at long is) walked
