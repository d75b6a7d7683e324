use Rattle.std.proofs.Common.{ℕ, ◌+◌, refl, ap, ◌∙◌}
use Rattle.std.specs.Prelude.{Some}
use Rattle.dj_names.specs.Types.{Of, view_type}
use Rattle.dj_meaning.specs.StaticTypes.{array_of}
use Rattle.dj_places.specs.declared.kind.TypeKind.TheVariants as kinds
use Rattle.dj_checked.proofs.PartLemmas.{both_noted}
use Rattle.dj_checked.proofs.parts.new_array.Goals as goal

pub returns : goal.returns
returns c = record {
  walked = both_noted c.args.place kinds.Name kinds.WrongType c.args.walk.now _ _ c.note.ensures.noted c.in_ok-named.ensures.may c.note-2.ensures.noted refl;
  typed = ap (λ type. Some (Of type)) c.in_ok-array.ensures.array ∙ ap (λ (more : ℕ). Some (Of (array_of (c.args.sizes + more) (view_type c.args.kind.now)))) c.from.ensures;
}
