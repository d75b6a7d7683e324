use Rattle.dj_places.specs.declared.kind.TypeKind.TheVariants as kinds
use Rattle.dj_checked.proofs.PartLemmas.{both_noted}
use Rattle.dj_checked.proofs.parts.instance_of.Goals as goal

pub returns-clause-walked : goal.returns-clause-walked
returns-clause-walked c = both_noted c.args.place kinds.Name kinds.WrongType c.args.walk.now _ _ c.note.ensures.noted c.in_ok-named.ensures.may c.note-2.ensures.noted c.is_asked.ensures.asked
