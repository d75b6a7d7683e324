use Rattle.std.proofs.lemmas.Bool.Decides.{same_from_decides}
use Rattle.dj_names.specs.Types.{view_type}
use Rattle.dj_renumber.proofs.Types.{decides_type}
use Rattle.dj_renumber.proofs.copies.is_same.Goals as goal

pub returns : goal.returns
returns c = record { same = same_from_decides _ _ c.same_type.ensures.same (decides_type (view_type c.args.first.now) (view_type c.args.second.now)) }
