use Rattle.std.proofs.lemmas.Bool.Decides.{same_from_decides}
use Rattle.dj_typing.proofs.WordLemmas.{Decides-identifier}
use Rattle.dj_checked.proofs.site.can_name.Goals as goal

pub returns : goal.returns
returns c = record { name = same_from_decides _ _ c.is_identifier.ensures.identifier (Decides-identifier c.args.name.now) }
