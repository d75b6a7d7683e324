use Rattle.dj_declaring.proofs.Heading.{heads_may_stand, heads_give_types, heads_begin, heads_give_values, copies_hold}
use Rattle.dj_declaring.proofs.laws.heads_may_stand.Goals as goal

pub returns : goal.returns
returns c = record { may_stand = heads_may_stand; types = heads_give_types; begin = heads_begin; values = heads_give_values; copies = copies_hold }
