use Rattle.dj_well_formed.proofs.HelperNames.{helper_name, no_helper_name}
use Rattle.dj_well_formed.proofs.names.is_helper_name.Goals as goal

pub returns-in-Some : goal.returns-in-Some
returns-in-Some c = record { helper = helper_name c.args.name.now c.in-Some.number.now c.is_decimal_numeral.result c.in-Some.ensures.parts c.is_decimal_numeral.ensures.numeral }

pub returns-in-None : goal.returns-in-None
returns-in-None c = record { helper = no_helper_name c.args.name.now c.in-None.ensures.parts }
