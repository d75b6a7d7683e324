-- There is one table of frames, whichever references go where.
use Rattle.std.proofs.Common.{◌≡◌, ℕ, List, [], ◌∷◌, length, Option, Some, refl, sym, ◌∙◌, subst, arith}
use Rattle.dj_names.specs.declared.header.Header.{Header}
use Rattle.dj_instructions.specs.Instructions.{Instructions}
use Rattle.dj_code.specs.MethodCode.{Code}
use Rattle.dj_tags.specs.Goes.{Assignability, Working}
use Rattle.dj_verify.specs.Table.{flow_behind, AreFrames, IsTableTo}
use Rattle.dj_verify.proofs.Violations.{place}

module _ (Goes Other : Assignability) (headers others : List Header) (code : Code) where
  one_frames : (flow : Option Working) (part : Instructions) (frames same : List Working) → AreFrames Goes headers code flow part frames → AreFrames Other others code flow part same → length frames ≡ length same → frames ≡ same
  one_frames flow part [] [] are other long = refl
  one_frames flow part [] (frame ∷ same) are other long = absurd (omega (arith, long))
  one_frames flow part (frame ∷ frames) [] are other long = absurd (omega (arith, long))
  one_frames flow [] (frame ∷ frames) (first ∷ same) are other long = elim are [ ]
  one_frames flow (head ∷ tail) (frame ∷ frames) (first ∷ same) are other long =
      let e : Some frame ≡ Some first = sym are.0 ∙ other.0 in
      let is : frame ≡ first = cc in
      let later : AreFrames Other others code (flow_behind code (place flow head tail) frame) tail same = subst (λ f. AreFrames Other others code (flow_behind code (place flow head tail) f) tail same) (sym is) other.2 in
      let rest : frames ≡ same = one_frames (flow_behind code (place flow head tail) frame) tail frames same are.2 later (omega (arith, long)) in
      cc

  -- a table by one relation is the table by the other, where there is one
  pub one_table : (count : ℕ) (frames same : List Working) → IsTableTo Goes headers code count frames → IsTableTo Other others code count same → IsTableTo Goes headers code count same
  one_table count frames same table other =
      subst (IsTableTo Goes headers code count) (one_frames _ code.instructions frames same table.are other.are (table.number ∙ sym other.number)) table
