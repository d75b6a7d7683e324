use Rattle.dj_places.specs.declared.kind.TypeKind.TheVariants as kinds
use Rattle.dj_checked.specs.Sites.{site_of}
use Rattle.dj_checked.proofs.PartLemmas.{whole_noted}
use Rattle.dj_checked.proofs.parts.element.Goals as goal

pub returns : goal.returns
returns c = record {
  walked = whole_noted c.args.place kinds.WrongType kinds.WrongType c.args.walk.now _ _ (site_of c.args.site.now) _ c.note.ensures.noted c.if_of.ensures.of c.note-2.ensures.noted c.if_of-2.ensures.of c.in_ok-note_whole.ensures.noted c.in_ok-found.ensures.typed;
  typed = c.in_ok-found.ensures.typed;
}
