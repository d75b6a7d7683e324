use Rattle.std.proofs.Common.{ℕ, List, Contains, take}
use Rattle.dj_headers.specs.Table.{HasPlace, IsIndex, Extends}
use Rattle.dj_headers.proofs.places.learn_all.Given as goal

abbrev pub invariant-loop-name : goal.invariant-loop-name
invariant-loop-name l = record {
  known : (name : List ℕ) → Contains (take l.name-index l.names) name → HasPlace l.places name;
  extends : Extends l.initial.places l.places;
  index : IsIndex l.initial.places → IsIndex l.places;
}
