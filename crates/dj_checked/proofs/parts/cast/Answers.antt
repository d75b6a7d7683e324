use Rattle.dj_places.specs.declared.kind.TypeKind.TheVariants as kinds
use Rattle.dj_checked.proofs.PartLemmas.{both_noted}
use Rattle.dj_checked.proofs.parts.cast.Goals as goal

pub returns : goal.returns
returns c = record {
  walked = both_noted c.args.place kinds.Name kinds.WrongType c.args.walk.now _ _ c.note.ensures.noted c.in_ok-named.ensures.may c.note-2.ensures.noted c.casts.ensures.casts;
  typed = c.in_ok-found.ensures.typed;
}
