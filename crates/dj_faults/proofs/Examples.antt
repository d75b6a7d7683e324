-- First faults at worked rules.
use Rattle.std.proofs.Common.{◌≡◌, true, false, Some, None, refl}
use Rattle.dj_places.specs.declared.kind.TypeKind.TheVariants.{Name, Call, Thrown, Label}
use Rattle.dj_places.specs.Rules.{NoRule, Rule, ◌and◌}
use Rattle.dj_faults.specs.Faults.{first_fault}

-- the lower place counts, whatever the kinds
lower_place : first_fault (Rule 7 Name false and Rule 3 Label false) ≡ Some (record { place = 3; kind = Label })
lower_place = refl

-- at one place the first kind counts
first_kind : first_fault (Rule 3 Thrown false and Rule 3 Call false and Rule 3 Label false) ≡ Some (record { place = 3; kind = Call })
first_kind = refl

-- what is kept is no fault
kept : first_fault (Rule 0 Name true and Rule 5 Thrown false and NoRule) ≡ Some (record { place = 5; kind = Thrown })
kept = refl

none : first_fault (Rule 0 Name true and NoRule) ≡ None
none = refl
