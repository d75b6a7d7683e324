use Rattle.std.proofs.Common.{◌≡◌, drop}
use Rattle.std.specs.List.{list_any}
use Rattle.dj_values.specs.Deciding.{is_name}
use Rattle.dj_checked.proofs.supers.lists.Given as goal

abbrev pub invariant-loop-listed : goal.invariant-loop-listed
invariant-loop-listed l = list_any (λ listed. is_name listed l.class) (drop l.listed-index l.names) ≡ list_any (λ listed. is_name listed l.class) l.names
