-- Frames that are a table break no rule.
use Rattle.std.proofs.Common.{◌≡◌, ℕ, zero, suc, ◌+◌, ◌<◌, List, [], ◌∷◌, map, take, drop, length, Option, ap, arith}
use Rattle.std.proofs.lemmas.List.{length-drop, length-take-le}
use Rattle.dj_names.specs.declared.header.Header.{Header}
use Rattle.dj_instructions.specs.Instructions.{Instruction, Instructions}
use Rattle.dj_frames.specs.Frames.{Frame}
use Rattle.dj_code.specs.MethodCode.{Code}
use Rattle.dj_tags.specs.Goes.{Assignability, Working, top_down}
use Rattle.dj_verify.specs.declared.rule.Rule.{Rule}
use Rattle.dj_verify.specs.Table.{flow_behind, AreFrames, IsFrameTable, IsFirstViolation}
use Rattle.dj_verify.specs.Rules.{Place}

-- an instruction where it stands
abbrev placed : Option Working → ℕ × Instruction → Instructions → Place
placed flow first rest = record { flow = flow; pc = first.0; instruction = first.1; rest = rest }

module _ (Goes : Assignability) (headers : List Header) (code : Code) where
  cut : (flow : Option Working) (part : Instructions) (frames : List Working) (n : ℕ) → AreFrames Goes headers code flow part frames → AreFrames Goes headers code flow part (take n frames)
  cut flow part frames zero are = tt
  cut flow part [] (suc n) are = tt
  cut flow [] (frame ∷ frames) (suc n) are = absurd are
  cut flow (first ∷ rest) (frame ∷ frames) (suc n) are = (are.0, are.1, cut (flow_behind code (placed flow first rest) frame) rest frames n are.2)

  within : {A : Type 0} (k : ℕ) (list : List A) (x : A) (rest : List A) → drop k list ≡ x ∷ rest → k < length list
  within k list x rest is = let long = ap length is in let short = length-drop k list in omega (arith, long, short)

  pub no_violation : (frames : List Frame) → IsFrameTable Goes headers code frames → (pc : ℕ) (rule : Rule) → ¬ IsFirstViolation Goes headers code pc rule
  no_violation frames table pc rule broken =
      let inside = within (length broken.before) code.instructions (pc, broken.instruction) broken.rest broken.here in
      let short : length (take (length broken.before + 1) (map top_down frames)) ≡ length broken.before + 1 = length-take-le (length broken.before + 1) (map top_down frames) (let n = table.number in omega (arith, n, inside)) in
      broken.none (take (length broken.before + 1) (map top_down frames)) (record { number = short; are = cut _ code.instructions (map top_down frames) (length broken.before + 1) table.are })
