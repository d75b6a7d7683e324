-- Which of several faults counts: by its place, and at one place by its kind.
use Rattle.std.specs.Prelude.{ℕ, Bool, ◌&&◌, ◌||◌, ◌==◌, nat_lt, Option, Some, None, if◌then◌else◌}
use Rattle.dj_places.specs.declared.kind.TypeKind.{TypeKind}
use Rattle.dj_places.specs.declared.kind.TypeKind.TheVariants as kinds
use Rattle.dj_places.specs.Places.{told}
use Rattle.dj_places.specs.Rules.{Rules, NoRule, Rule, ◌and◌}
use Rattle.dj_faults.specs.declared.fault.Fault.{Fault}

-- where a kind stands in the order that counts at one place
abbrev pub rank : TypeKind → ℕ
rank kinds.Name = 1
rank kinds.WrongType = 2
rank kinds.Call = 3
rank kinds.Access = 4
rank kinds.Reach = 5
rank kinds.Assigned = 6
rank kinds.Thrown = 7
rank kinds.Catch = 8
rank kinds.Label = 9

-- a fault counts before another
abbrev pub is_before : Fault → Fault → Bool
is_before first second = nat_lt first.place second.place || (first.place == second.place && nat_lt (rank first.kind) (rank second.kind))

-- of two faults, where there are two, the one that counts
abbrev pub lower : Option Fault → Option Fault → Option Fault
lower None second = second
lower (Some first) None = Some first
lower (Some first) (Some second) = Some (if is_before second first then second else first)

-- the fault of a rule at a place, if it isn't kept
abbrev pub fault_at : ℕ → TypeKind → Bool → Option Fault
fault_at place kind kept = if kept then None else Some (record { place = place; kind = kind })

-- the first fault of rules, its place as it is told
abbrev pub first_fault : Rules → Option Fault
first_fault NoRule = None
first_fault (Rule place kind kept) = fault_at (told place) kind kept
first_fault (first and second) = lower (first_fault first) (first_fault second)
