-- What the fault of a body says.
use Rattle.std.specs.Prelude.{◌≡◌, ℕ, false, Option, MatchOption}
use Rattle.dj_places.specs.declared.kind.TypeKind.{TypeKind}
use Rattle.dj_places.specs.Places.{told}
use Rattle.dj_places.specs.Rules.{Rules, NoRule, Rule, ◌and◌, Holds, Breaks}
use Rattle.dj_faults.specs.declared.fault.Fault.{Fault}
use Rattle.dj_faults.specs.declared.body_fault.BodyFault.{BodyFault}
use Rattle.dj_faults.specs.declared.body_fault.BodyFault.TheVariants.{TypeFault, Memory}
use Rattle.dj_faults.specs.Faults.{is_before}

-- a rule of this kind is broken at a place that is told so, and none that counts before it
pub record IsFirstFault (rules : Rules) (fault : Fault) : Type 0 where
  pub at : ℕ
  pub tells : fault.place ≡ told at
  pub broken : Breaks at fault.kind rules
  pub least : (other : ℕ) (kind : TypeKind) → Breaks other kind rules → is_before (record { place = told other; kind = kind }) fault ≡ false

-- a body's fault is the first of these rules; want of memory says nothing
abbrev pub IsFaultOf : Rules → BodyFault → Type 0
IsFaultOf rules (TypeFault place kind) = IsFirstFault rules (record { place = place; kind = kind })
IsFaultOf rules (Memory error) = Unit {0}

-- what is found of rules: nothing where each is kept, and else the first fault
abbrev pub Tells : Rules → Option Fault → Type 0
Tells rules found = MatchOption found (Holds rules) (IsFirstFault rules)

-- each rule is of this kind
abbrev pub AreOf : TypeKind → Rules → Type 0
AreOf kind NoRule = Unit {0}
AreOf kind (Rule place of kept) = of ≡ kind
AreOf kind (first and second) = AreOf kind first × AreOf kind second
