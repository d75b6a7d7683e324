-- The causes of one field more, and its line.
use Rattle.std.proofs.Common.{◌≡◌, ℕ, zero, suc, ◌+◌, ◌<◌, List, [], ◌∷◌, ◌++◌, Option, Some, None, IsSomeAnd, length, take, slice_get, refl, sym, ap, ◌∙◌, subst, append_assoc, append-nil, arith}
use Rattle.std.proofs.lemmas.List.{length-take-le}
use Rattle.dj_class.specs.Described.{ClassOf, FieldOf}
use Rattle.dj_world.specs.Worlds.{WorldOf}
use Rattle.dj_causes.specs.declared.cause.FieldCause.{FieldCause}
use Rattle.dj_causes.specs.FieldCauses.{IsFieldCause}
use Rattle.dj_cli.specs.Output.{AreFieldCauses, field_line, field_lines}
use Rattle.dj_cli.specs.declared.endings.MemberLine.{MemberLine}
use Rattle.dj_cli.specs.Lines.{line_bytes}
use Rattle.dj_cli.specs.Methods.{HaveLines, IsFieldLine}

-- the item at a place, and the first items up to it
record IsPlaced {A : Type 0} (items : List A) (at : ℕ) : Type 0 where
  item : A
  there : slice_get items at ≡ Some item
  more : take (at + 1) items ≡ take at items ++ item ∷ []

placed : {A : Type 0} (items : List A) (at : ℕ) → at < length items → IsPlaced items at
placed [] at within = absurd (omega (arith, within))
placed (first ∷ items) zero within = record { item = first; there = refl; more = refl }
placed (first ∷ items) (suc at) within =
    let rest = placed items at (omega (arith, within)) in
    let same : suc (at + 1) ≡ suc at + 1 = omega arith in
    record { item = rest.item; there = rest.there; more = subst (λ count. take count (first ∷ items) ≡ first ∷ take at items ++ rest.item ∷ []) same (ap (λ these. first ∷ these) rest.more) }

module _ (world : WorldOf) (class : ClassOf) where
  -- a cause more
  causes-more : (at : ℕ) (fields : List FieldOf) (causes : List (Option FieldCause)) (field : FieldOf) (cause : Option FieldCause) → AreFieldCauses world class at fields causes
      → IsFieldCause world class (at + length fields) cause → AreFieldCauses world class at (fields ++ field ∷ []) (causes ++ cause ∷ [])
  causes-more at [] [] field cause each this =
      (subst (λ place. IsFieldCause world class place cause) (let same : at + 0 ≡ at = omega arith in same) this, tt)
  causes-more at [] (other ∷ causes) field cause each this = absurd each
  causes-more at (other ∷ fields) [] field cause each this = absurd each
  causes-more at (first ∷ fields) (one ∷ causes) field cause each this =
      let same : at + length (first ∷ fields) ≡ at + 1 + length fields = omega arith in
      (each.0, causes-more (at + 1) fields causes field cause each.1 (subst (λ place. IsFieldCause world class place cause) same this))

  -- the lines, with a cause more
  lines-more : (at : ℕ) (fields : List FieldOf) (causes : List (Option FieldCause)) (field : FieldOf) (cause : Option FieldCause) → AreFieldCauses world class at fields causes
      → field_lines class (fields ++ field ∷ []) (causes ++ cause ∷ []) ≡ field_lines class fields causes ++ field_line class field cause
  lines-more at [] [] field cause each = append-nil (field_line class field cause)
  lines-more at [] (other ∷ causes) field cause each = absurd each
  lines-more at (other ∷ fields) [] field cause each = absurd each
  lines-more at (first ∷ fields) (one ∷ causes) field cause each =
      ap (λ lines. field_line class first one ++ lines) (lines-more (at + 1) fields causes field cause each.1)
      ∙ sym (append_assoc (field_line class first one) (field_lines class fields causes) (field_line class field cause))

  -- no field
  pub have_none : HaveLines world class [] []
  have_none = record { causes = []; are = tt; lines_are = refl }

  module _ (fields : List FieldOf) (field : FieldOf) (lines : List ℕ) (before : HaveLines world class fields lines) where
    have_more : (cause : Option FieldCause) → IsFieldCause world class (length fields) cause → HaveLines world class (fields ++ field ∷ []) (lines ++ field_line class field cause)
    have_more cause is = record {
      causes = before.causes ++ cause ∷ [];
      are = causes-more 0 fields before.causes field cause before.are (subst (λ place. IsFieldCause world class place cause) (let same : length fields ≡ 0 + length fields = omega arith in same) is);
      lines_are = ap (λ these. these ++ field_line class field cause) before.lines_are ∙ sym (lines-more 0 fields before.causes field cause before.are);
    }

    -- and one without a cause
    pub have_free : IsFieldCause world class (length fields) None → HaveLines world class (fields ++ field ∷ []) lines
    have_free none = subst (HaveLines world class (fields ++ field ∷ [])) (append-nil lines) (have_more None none)

    -- and one with a cause, whose line is this
    pub have_line : (cause : FieldCause) (line : List ℕ) → IsFieldCause world class (length fields) (Some cause) → line ≡ field_line class field (Some cause) → HaveLines world class (fields ++ field ∷ []) (lines ++ line)
    have_line cause line is line_is = subst (λ these. HaveLines world class (fields ++ field ∷ []) (lines ++ these)) (sym line_is) (have_more (Some cause) is)

  module _ (at : ℕ) (within : at < length class.fields) (lines : List ℕ) (before : HaveLines world class (take at class.fields) lines) where
    number : length (take at class.fields) ≡ at
    number = length-take-le at class.fields (omega (arith, within))

    -- the field at a place, without a line
    pub have_no_line : IsFieldLine world class at None → HaveLines world class (take (at + 1) class.fields) lines
    have_no_line none =
        let here = placed class.fields at within in
        subst (λ these. HaveLines world class these lines) (sym here.more)
        (have_free (take at class.fields) here.item lines before (subst (λ place. IsFieldCause world class place None) (sym number) none))

    -- the field at a place, with its line
    pub have_its_line : (line : MemberLine) → IsFieldLine world class at (Some line) → HaveLines world class (take (at + 1) class.fields) (lines ++ line_bytes class.this_class line)
    have_its_line line told =
        let here = placed class.fields at within in
        let told_here = subst (λ (o : Option FieldOf). IsSomeAnd o (λ field. (cause : FieldCause) × IsFieldCause world class at (Some cause) × (line_bytes class.this_class line ≡ field_line class field (Some cause)))) here.there told in
        subst (λ these. HaveLines world class these (lines ++ line_bytes class.this_class line)) (sym here.more)
        (have_line (take at class.fields) here.item lines before told_here.0 (line_bytes class.this_class line) (subst (λ place. IsFieldCause world class place (Some told_here.0)) (sym number) told_here.1) told_here.2)
