-- What the checks of one kind of rules find, as a fault.
use Rattle.std.proofs.Common.{ℕ, sym, subst}
use Rattle.dj_places.specs.Rules.{Rules}
use Rattle.dj_places.specs.declared.kind.TypeKind.TheVariants as kinds
use Rattle.dj_faults.specs.FirstFault.{IsFirstFault, AreOf}
use Rattle.dj_faults.proofs.FaultLemmas.{first_of_kind}
use Rattle.dj_reach.specs.Faults as reach
use Rattle.dj_reach.specs.declared.fault.ReachFault.TheVariants.{Unreached}
use Rattle.dj_assigned.specs.Faults as assigned
use Rattle.dj_assigned.specs.declared.fault.FlowFault.TheVariants.{Unassigned}

pub unreached_first : (rules : Rules) (place : ℕ) → AreOf kinds.Reach rules → reach.IsFaultOf rules (Unreached place) → IsFirstFault rules (record { place = place; kind = kinds.Reach })
unreached_first rules place are (first, is, tells) =
    subst (λ (at : ℕ). IsFirstFault rules (record { place = at; kind = kinds.Reach })) (sym tells) (first_of_kind rules kinds.Reach first are is)

pub unassigned_first : (rules : Rules) (place : ℕ) → AreOf kinds.Assigned rules → assigned.IsFaultOf rules (Unassigned place) → IsFirstFault rules (record { place = place; kind = kinds.Assigned })
unassigned_first rules place are (first, is, tells) =
    subst (λ (at : ℕ). IsFirstFault rules (record { place = at; kind = kinds.Assigned })) (sym tells) (first_of_kind rules kinds.Assigned first are is)
