-- The parts that a class file has more than once read in one way.
use Rattle.std.proofs.Common.{◌≡◌, ℕ, List}
use Rattle.dj_layout.specs.declared.fault.Fault.{Fault}
use Rattle.dj_layout.specs.declared.fault.Stop.{Stop}
use Rattle.dj_layout.specs.declared.fault.Stop.TheVariants as stop
use Rattle.dj_layout.specs.Layout.{Layout, Stops}
use Rattle.dj_layout.specs.Whole.{IsWhole, FirstFault}
use Rattle.dj_layout.specs.Exact.{IsExact}
use Rattle.dj_layout.proofs.Laws.{whole_has_no_fault}
use Rattle.dj_layout.proofs.PartsAreExact.{exact-number, exact-run, exact-exactly, exact-headed, exact-times}
use Rattle.dj_pool.specs.declared.fault.BrokenKind.{BrokenKind}
use Rattle.dj_pool.specs.declared.fault.BrokenKind.TheVariants as kind
use Rattle.dj_pool.specs.SharedParts.{u2, counted, sized, attribute}

pub exact-u2 : IsExact u2
exact-u2 = exact-number 2 kind.Short

pub exact-counted : {A : Type 0} (item : Layout BrokenKind A) → IsExact item → IsExact (counted item)
exact-counted item exact = exact-headed _ _ _ exact-u2 (λ n. exact-times n item exact)

exact-sized : IsExact sized
exact-sized = exact-headed _ _ _ (exact-number 4 kind.Short) (λ n. exact-run n kind.Short)

pub exact-attribute : IsExact attribute
exact-attribute = exact-headed (λ a. a.name) _ _ exact-u2 (λ name. exact-headed (λ a. a.content) _ _ exact-sized (λ content. exact-exactly (record { name = name; content = content })))

pub exact-attributes : IsExact (counted attribute)
exact-attributes = exact-counted attribute exact-attribute

-- bytes with a fault are no spelling
pub faulty_is_no_spelling : {A : Type 0} (layout : Layout BrokenKind A) → IsExact layout → (bytes : List ℕ) (why : Stop BrokenKind) (fault : Fault BrokenKind)
    → Stops (λ _. FirstFault layout kind.Trailing) 0 bytes why → why ≡ stop.Fault fault → (x : A) → IsWhole layout bytes x → ⊥
faulty_is_no_spelling layout exact bytes stop.Memory fault halts is x spelled = absurd cc
faulty_is_no_spelling layout exact bytes (stop.Fault other) fault halts is x spelled = whole_has_no_fault layout exact kind.Trailing bytes x other spelled halts
