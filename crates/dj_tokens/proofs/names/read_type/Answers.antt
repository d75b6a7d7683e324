use Rattle.std.proofs.Common.{◌≡◌, true, codes, refl, ap, sym, ◌∙◌, subst}
use Rattle.dj_names.specs.declared.types.JType.TheVariants as variants
use Rattle.dj_names.specs.Types.{Array, view_type}
use Rattle.dj_tokens.specs.Words.{comes}
use Rattle.dj_tokens.specs.Names.{IsWhole, more_type}
use Rattle.dj_tokens.proofs.TypeViews.{view-array}
use Rattle.dj_tokens.proofs.TypesLemmas.{type_passes_segment, type_takes_brackets}
use Rattle.dj_tokens.proofs.names.read_type.Goals as goal
use Rattle.dj_tokens.proofs.names.read_type.Goals.{then-is_at, else-is_at+then-is_at-2, then-is_at-3+in_ok-new, else-is_at-3}

pub loop-reader-preserved : goal.loop-reader-preserved
loop-reader-preserved c =
    elim c.if-is_at-3.branch [
      | then-is_at-3+in_ok-new w ↦
          let is : view_type c.if-is_at-3.kind ≡ Array (view_type c.loop-reader.kind) = ap view_type w.kind-is ∙ ap (λ kind. view_type (variants.Array kind)) w.in_ok-new.ensures.value ∙ view-array c.loop-reader.kind in
          record {
            same = ap (λ kind. more_type kind c.skip.new.self) is ∙ type_takes_brackets (view_type c.loop-reader.kind) c.loop-reader.reader c.skip.new.self w.if-is_at-3.ensures.comes c.skip.ensures.rest ∙ c.loop-reader.invariant.same;
            whole = λ _. subst IsWhole (sym is) (λ segment. refl);
          }
      | else-is_at-3 w ↦
          let dot : true ≡ comes (codes ".") c.loop-reader.reader =
          elim c.if-is_at.branch [
            | then-is_at v ↦ absurd (cc (w.if-is_at-3.ensures.comes, v.if-is_at.ensures.comes))
            | else-is_at+then-is_at-2 v ↦ v.if-is_at-2.ensures.comes
          ] in
          let whole = c.loop-reader.invariant.whole (sym dot) in
          record {
            same =
                ap (λ kind. more_type (view_type kind) c.skip.new.self) w.kind-is
                ∙ type_passes_segment (view_type c.loop-reader.kind) c.loop-reader.reader c.skip.new.self whole dot c.skip.ensures.rest
                ∙ c.loop-reader.invariant.same;
            whole = λ _. subst (λ kind. IsWhole (view_type kind)) (sym w.kind-is) whole;
          }
    ]
