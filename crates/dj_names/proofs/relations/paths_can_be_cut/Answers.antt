use Rattle.dj_names.proofs.PathLemmas.{short_subclass, short_implements}
use Rattle.dj_names.proofs.relations.paths_can_be_cut.Goals as goal

pub returns : goal.returns
returns c = record { subclass = short_subclass; implements = short_implements }
