use Rattle.std.proofs.lemmas.Bool.Decides.{same_from_decides}
use Rattle.dj_names.specs.Types.{view_type}
use Rattle.dj_values.proofs.Deciding.{Decides-subtype}
use Rattle.dj_objects.proofs.arrays.goes.Goals as goal

pub returns : goal.returns
returns c = record { goes = same_from_decides _ _ c.is_subtype.ensures.subtype (Decides-subtype c.args.headers.now (view_type c.args.from.now) (view_type c.args.to.now)) }
