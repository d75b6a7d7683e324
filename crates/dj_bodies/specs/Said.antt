-- Which names of classes are told to be sayable.
use Rattle.std.specs.Prelude.{◌↔◌, List, Contains, IsTrue}
use Rattle.std.specs.BTreeSet.{BTreeSet, contains}
use Rattle.std.specs.Cmp.Lexicographic.{slice_cmp}
use Rattle.std.specs.Ordering.{nat_cmp}
use Rattle.dj_names.specs.declared.header.Header.{Header}
use Rattle.dj_names.specs.declared.members.ClassMembers.{ClassMembers}
use Rattle.dj_names.specs.Headers.{Name}
use Rattle.dj_sayable.specs.Saying.{CanBeSaid}

-- the set has just those of these names that the text of a class can say
pub record HasSaid (headers : List Header) (members : List ClassMembers) (class : Name) (among : List Name) (said : BTreeSet Name) : Type 0 where
  pub each : (name : Name) → IsTrue (contains (slice_cmp nat_cmp) said name) ↔ (Contains among name × CanBeSaid headers members class name)
