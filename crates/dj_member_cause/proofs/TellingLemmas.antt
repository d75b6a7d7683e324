-- What was told of an earlier instruction serves where one names the same.
use Rattle.std.proofs.Common.{◌≡◌, ◌<◌, ◌+◌, ℕ, zero, suc, get_or, false, List, [], ◌∷◌, ◌++◌, length, Option, Some, None, refl, sym, ap, subst, ◌∙◌, inl, inr, ◌⊎◌, arith}
use Rattle.std.specs.Prelude.{⊤, slice_get, IfSome}
use Rattle.std.proofs.lemmas.Bool.{true≢false}
use Rattle.std.proofs.lemmas.List.{length_push}
use Rattle.std.proofs.lemmas.Option.{none-some, same_Some, slice_get-get_or}
use Rattle.dj_names.specs.MethodNames.{is_constructor}
use Rattle.dj_instructions.specs.declared.instruction.Instruction as declared
use Rattle.dj_instructions.specs.Instructions.{MethodRef, Instruction, GetStatic, PutStatic, GetField, PutField, InvokeVirtual, InvokeSpecial, InvokeStatic, InvokeInterface, view_instruction}
use Rattle.dj_frames.specs.declared.frame.Frame as code_frame
use Rattle.dj_frames.specs.Frames.{Frame, view_frame}
use Rattle.dj_code.specs.declared.method_code.Typed.{Typed}
use Rattle.dj_static.specs.declared.classes.Classes.{Classes}
use Rattle.dj_member_cause.specs.declared.judging.Judgement.{Judgement}
use Rattle.dj_member_cause.specs.declared.judging.Judgement.TheVariants as judgement
use Rattle.dj_member_cause.specs.Lawful as lawful
use Rattle.dj_member_cause.specs.Lawful.{IsLawful, made, begun, own, above, beside, receiver_tag}
use Rattle.dj_member_cause.specs.Deciding.{members_in, HasWhere, IsJudged}
use Rattle.dj_member_cause.specs.Telling.{IsSameAt, IsJudgedAt, AreTold}

module _ (classes : Classes) (first second : Frame) where
  lawful_so : (OnThis : Type 0) (method : MethodRef) → is_constructor method.name ≡ false → IsLawful classes.headers.now (members_in classes) classes.from.now method (receiver_tag method first) OnThis
      → IsLawful classes.headers.now (members_in classes) classes.from.now method (receiver_tag method second) OnThis
  lawful_so OnThis method plain (made tag is) = absurd (true≢false (sym is.constructs ∙ plain))
  lawful_so OnThis method plain (begun tag is) = absurd (true≢false (sym is.constructs ∙ plain))
  lawful_so OnThis method plain (own owner other is) = own owner other is
  lawful_so OnThis method plain (above on is) = above on is
  lawful_so OnThis method plain (beside on is) = beside on is

  has_so : (OnThis : Type 0) (instruction : Instruction) → ((method : MethodRef) → instruction ≡ InvokeSpecial method → is_constructor method.name ≡ false) → HasWhere OnThis classes first instruction → HasWhere OnThis classes second instruction
  has_so OnThis (GetStatic field) plain (lawful.get_static is constant) = lawful.get_static is constant
  has_so OnThis (PutStatic field) plain (lawful.put_static is may) = lawful.put_static is may
  has_so OnThis (GetField field) plain (lawful.get_field is) = lawful.get_field is
  has_so OnThis (PutField field) plain (lawful.put_field is may) = lawful.put_field is may
  has_so OnThis (InvokeVirtual method) plain (lawful.invoke_virtual is) = lawful.invoke_virtual is
  has_so OnThis (InvokeInterface method) plain (lawful.invoke_interface is) = lawful.invoke_interface is
  has_so OnThis (InvokeStatic method) plain (lawful.invoke_static is) = lawful.invoke_static is
  has_so OnThis (InvokeSpecial method) plain (lawful.invoke_special is) = lawful.invoke_special (lawful_so OnThis method (plain method refl) is)
  has_so OnThis instruction plain (lawful.none none) = lawful.none none

-- what is told doesn't go by the frame
judged_alike : (classes : Classes) (first second : Frame) (instruction : Instruction) → ((method : MethodRef) → instruction ≡ InvokeSpecial method → is_constructor method.name ≡ false) → (told : Judgement)
    → IsJudged classes first instruction told → IsJudged classes second instruction told
judged_alike classes first second instruction plain judgement.Has has = has_so classes first second ⊥ instruction plain has
judged_alike classes first second instruction plain judgement.Lacks lacks = λ has. lacks (has_so classes second first ⊤ instruction plain has)
judged_alike classes first second instruction plain judgement.OnThis on = (has_so classes first second ⊤ instruction plain on.0, λ has. on.1 (has_so classes second first ⊥ instruction plain has))

-- so of the instruction at a place
pub judged_at : (classes : Classes) (typed : Typed) (place : ℕ) (at : ℕ × declared.Instruction) (frame : code_frame.Frame) → slice_get typed.code.instructions place ≡ Some at → slice_get typed.frames place ≡ Some frame
    → (told : Judgement) → IsJudged classes (view_frame frame) (view_instruction at.1) told → IsJudgedAt classes typed place told
judged_at classes typed place at frame at_is frame_is told judged other other_frame other_is other_frame_is =
    subst (λ (one : code_frame.Frame). IsJudged classes (view_frame one) (view_instruction other.1) told) (same_Some frame other_frame (sym frame_is ∙ other_frame_is))
    (subst (λ (one : ℕ × declared.Instruction). IsJudged classes (view_frame frame) (view_instruction one.1) told) (same_Some at other (sym at_is ∙ other_is)) judged)

-- an item of a list behind which one more stands
pushed : {A : Type 0} (xs : List A) (x : A) (n : ℕ) (y : A) → slice_get (xs ++ x ∷ []) n ≡ Some y → (slice_get xs n ≡ Some y) ⊎ ((n ≡ length xs) × (x ≡ y))
pushed [] x zero y is = inr (refl, same_Some x y is)
pushed [] x (suc n) y is = absurd (none-some y is)
pushed (z ∷ xs) x zero y is = inl is
pushed (z ∷ xs) x (suc n) y is = elim (pushed xs x n y is) [ inl there ↦ inl there | inr last ↦ inr (ap suc last.0, last.1) ]

module _ (classes : Classes) (typed : Typed) (told : List Judgement) (place : ℕ) (are : AreTold classes typed told place) where
  -- it serves again
  pub told_again : (earlier : ℕ) → IsSameAt typed.code.instructions place earlier → (judgement : Judgement) → slice_get told earlier ≡ Some judgement
      → place < length typed.frames → IsJudgedAt classes typed place judgement
  told_again earlier same judgement is framed at frame at_is frame_is =
      let within : earlier < length typed.frames = omega (arith, same.before, framed) in
      let other = get_or typed.frames earlier frame in
      let here : same.other ≡ at = same_Some same.other at (sym same.here ∙ at_is) in
      subst (λ instruction. IsJudged classes (view_frame frame) instruction judgement) (same.alike.same ∙ ap (λ (one : ℕ × declared.Instruction). view_instruction one.1) here)
      (judged_alike classes (view_frame other) (view_frame frame) (view_instruction same.one.1) same.alike.plain judgement (are.each earlier judgement is same.one other same.there (slice_get-get_or typed.frames earlier frame within)))

  -- so where it is read from these
  pub recalled : (again : List Judgement) → again ≡ told → (found : Option ℕ) (earlier : ℕ) → found ≡ Some earlier → IfSome found (IsSameAt typed.code.instructions place) → place < length typed.frames → (other : Judgement)
      → IsJudgedAt classes typed place (get_or again earlier other)
  recalled again same None earlier is alike framed other = absurd (none-some earlier is)
  recalled again same (Some first) earlier is alike framed other =
      let like : IsSameAt typed.code.instructions place earlier = subst (IsSameAt typed.code.instructions place) (same_Some first earlier is) alike in
      let within : earlier < length again = subst (λ (list : List Judgement). earlier < length list) (sym same) (let before = like.before in let many = are.many in omega (arith, before, many)) in
      told_again earlier like (get_or again earlier other) (subst (λ (list : List Judgement). slice_get list earlier ≡ Some (get_or again earlier other)) same (slice_get-get_or again earlier other within)) framed

  -- one more is told
  pub told_more : (judgement : Judgement) → IsJudgedAt classes typed place judgement → AreTold classes typed (told ++ judgement ∷ []) (place + 1)
  told_more judgement judged = record {
    many = length_push told judgement ∙ ap (λ n. n + 1) are.many;
    each = λ earlier other is. by earlier other (pushed told judgement earlier other is);
  }
    where
      by : (earlier : ℕ) (other : Judgement) → (slice_get told earlier ≡ Some other) ⊎ ((earlier ≡ length told) × (judgement ≡ other)) → IsJudgedAt classes typed earlier other
      by earlier other (inl is) = are.each earlier other is
      by earlier other (inr (last, same)) = subst (λ n. IsJudgedAt classes typed n other) (sym (last ∙ are.many)) (subst (IsJudgedAt classes typed place) same judged)

pub told_begins : (classes : Classes) (typed : Typed) → AreTold classes typed [] 0
told_begins classes typed = record { many = refl; each = λ earlier judgement is. absurd (none-some judgement is) }
