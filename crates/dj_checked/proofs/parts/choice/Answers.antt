use Rattle.dj_places.specs.declared.kind.TypeKind.TheVariants as kinds
use Rattle.dj_checked.proofs.PartLemmas.{both_noted}
use Rattle.dj_checked.proofs.parts.choice.Goals as goal

pub returns : goal.returns
returns c = record {
  walked = both_noted c.args.place kinds.WrongType kinds.WrongType c.args.walk.now _ _ c.note.ensures.noted c.if_of.ensures.of c.note-2.ensures.noted c.agree_both.ensures.agree;
  typed = c.chosen.ensures.typed;
}
