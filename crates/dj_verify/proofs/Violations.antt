-- A table is one of the instructions so far and the one that is next, and there is only one.
use Rattle.std.proofs.Common.{◌≡◌, ℕ, suc, List, [], ◌∷◌, ◌++◌, drop, length, Option, Some, refl, sym, ◌∙◌, subst, arith, inl, inr}
use Rattle.dj_names.specs.declared.header.Header.{Header}
use Rattle.dj_instructions.specs.Instructions.{Instruction, Instructions}
use Rattle.dj_code.specs.MethodCode.{Code}
use Rattle.dj_tags.specs.Goes.{Assignability, Working}
use Rattle.dj_verify.specs.declared.rule.Rule.{Rule}
use Rattle.dj_verify.specs.Rules.{Place, entry}
use Rattle.dj_verify.specs.Table.{frame_at, flow_behind, Keeps, KeepsAll, BreaksFirst, rules, AreFrames, flow_after, IsFirstViolation}

abbrev pub place : Option Working → ℕ × Instruction → Instructions → Place
place flow first rest = record { flow = flow; pc = first.0; instruction = first.1; rest = rest }

module _ (Goes : Assignability) (headers : List Header) (code : Code) where
  -- one frame more
  pub frames_pushed : (flow : Option Working) (part : Instructions) (frames : List Working) (first : ℕ × Instruction) (rest : Instructions) (frame : Working) → AreFrames Goes headers code flow part frames → drop (length frames) part ≡ first ∷ rest → frame_at code (place (flow_after code flow part frames) first rest) ≡ Some frame → KeepsAll (Keeps Goes headers code (place (flow_after code flow part frames) first rest)) rules → AreFrames Goes headers code flow part (frames ++ frame ∷ [])
  frames_pushed flow [] [] first rest frame are there is keeps = absurd (cc)
  frames_pushed flow [] (other ∷ frames) first rest frame are there is keeps = elim are [ ]
  frames_pushed flow (head ∷ tail) [] first rest frame are there is keeps =
      let e : head ≡ first = cc in
      let e' : tail ≡ rest = cc in
      rw (e, e') (is, keeps, tt)
  frames_pushed flow (head ∷ tail) (other ∷ frames) first rest frame are there is keeps =
      (are.0, are.1, frames_pushed (flow_behind code (place flow head tail) other) tail frames first rest frame are.2 there is keeps)

  pub flow_pushed : (flow : Option Working) (part : Instructions) (frames : List Working) (first : ℕ × Instruction) (rest : Instructions) (frame : Working) → drop (length frames) part ≡ first ∷ rest → flow_after code flow part (frames ++ frame ∷ []) ≡ flow_behind code (place (flow_after code flow part frames) first rest) frame
  flow_pushed flow [] [] first rest frame there = absurd (cc)
  flow_pushed flow [] (other ∷ frames) first rest frame there = absurd (cc)
  flow_pushed flow (head ∷ tail) [] first rest frame there =
      let e : head ≡ first = cc in
      let e' : tail ≡ rest = cc in
      rw e refl
  flow_pushed flow (head ∷ tail) (other ∷ frames) first rest frame there =
      flow_pushed (flow_behind code (place flow head tail) other) tail frames first rest frame there

  -- a longer table keeps the rules at the next place
  longer_keeps : (flow : Option Working) (part : Instructions) (before frames : List Working) (first : ℕ × Instruction) (rest : Instructions) → AreFrames Goes headers code flow part before → AreFrames Goes headers code flow part frames → length frames ≡ suc (length before) → drop (length before) part ≡ first ∷ rest → KeepsAll (Keeps Goes headers code (place (flow_after code flow part before) first rest)) rules
  longer_keeps flow part before [] first rest are longer many there = absurd (omega (arith, many))
  longer_keeps flow [] before (frame ∷ frames) first rest are longer many there = elim longer [ ]
  longer_keeps flow (head ∷ tail) [] (frame ∷ frames) first rest are longer many there =
      let e : head ≡ first = cc in
      let e' : tail ≡ rest = cc in
      rw (← e, ← e') longer.1
  longer_keeps flow (head ∷ tail) (other ∷ before) (frame ∷ frames) first rest are longer many there =
      let e : Some other ≡ Some frame = sym are.0 ∙ longer.0 in
      let same : frame ≡ other = cc in
      let later : AreFrames Goes headers code (flow_behind code (place flow head tail) other) tail frames = subst (λ f. AreFrames Goes headers code (flow_behind code (place flow head tail) f) tail frames) same longer.2 in
      longer_keeps (flow_behind code (place flow head tail) other) tail before frames first rest are.2 later (omega (arith, many)) there

  broken_once : (Keep : Rule → Type 0) (list : List Rule) (rule : Rule) → BreaksFirst Keep list rule → KeepsAll Keep list → ⊥
  broken_once Keep [] rule breaks keeps = breaks
  broken_once Keep (first ∷ list) rule (inl broken) keeps = broken.1 keeps.0
  broken_once Keep (first ∷ list) rule (inr later) keeps = broken_once Keep list rule later.1 keeps.1

  pub violation : (before : List Working) (first : ℕ × Instruction) (rest : Instructions) (rule : Rule) → AreFrames Goes headers code (Some (entry code)) code.instructions before → drop (length before) code.instructions ≡ first ∷ rest → BreaksFirst (Keeps Goes headers code (place (flow_after code (Some (entry code)) code.instructions before) first rest)) rules rule → IsFirstViolation Goes headers code first.0 rule
  violation before first rest rule are there breaks = record {
    before = before;
    table = record { number = refl; are = are };
    instruction = first.1;
    rest = rest;
    here = there;
    breaks = breaks;
    none = λ frames table. broken_once (Keeps Goes headers code (place (flow_after code (Some (entry code)) code.instructions before) first rest)) rules rule breaks (longer_keeps (Some (entry code)) code.instructions before frames first rest are table.are (omega (arith, table.number)) there);
  }
