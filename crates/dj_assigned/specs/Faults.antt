-- What the fault of a body says.
use Rattle.std.specs.Prelude.{◌≡◌, ℕ}
use Rattle.dj_places.specs.Places.{told}
use Rattle.dj_places.specs.Rules.{Rules, IsFirstBroken}
use Rattle.dj_assigned.specs.declared.fault.FlowFault.{FlowFault}
use Rattle.dj_assigned.specs.declared.fault.FlowFault.TheVariants.{Unassigned, Memory}

-- the first rule that is broken stands at this place; want of memory says nothing
abbrev pub IsFaultOf : Rules → FlowFault → Type 0
IsFaultOf rules (Unassigned place) = (first : ℕ) × IsFirstBroken rules first × (place ≡ told first)
IsFaultOf rules (Memory error) = Unit {0}
