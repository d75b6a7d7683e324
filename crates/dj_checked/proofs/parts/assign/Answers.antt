use Rattle.dj_places.specs.declared.kind.TypeKind.TheVariants as kinds
use Rattle.dj_checked.specs.Sites.{site_of}
use Rattle.dj_checked.proofs.PartLemmas.{whole_noted}
use Rattle.dj_checked.proofs.parts.assign.Goals as goal

pub returns : goal.returns
returns c = record {
  walked = whole_noted c.args.place kinds.Name kinds.WrongType c.args.walk.now _ _ (site_of c.args.site.now) _ c.note.ensures.noted c.is_declared.ensures.declared c.note-2.ensures.noted c.goes.ensures.goes c.in_ok-note_whole.ensures.noted c.in_ok-found.ensures.typed;
  typed = c.in_ok-found.ensures.typed;
}
