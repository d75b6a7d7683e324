-- Two tests that decide the same are one.
use Rattle.std.proofs.Common.{◌≡◌, ◌↔◌, Bool, true, false, Decides, IsTrue, List, refl}
use Rattle.std.proofs.lemmas.Bool.{false≢true}
use Rattle.dj_names.specs.declared.header.Header.{Header}
use Rattle.dj_names.specs.Types.{JType}
use Rattle.dj_names.specs.Assignable.{IsSubtype}
use Rattle.dj_values.specs.Deciding.{is_subtype}
use Rattle.dj_values.proofs.Deciding.{Decides-subtype}

one_test : (first second : Bool) (P : Type 0) → (IsTrue first ↔ P) → Decides second P → first ≡ second
one_test true true P h k = refl
one_test true false P h k = absurd (false≢true (k.1 (h.0 refl)))
one_test false true P h k = absurd (false≢true (h.1 (k.0 refl)))
one_test false false P h k = refl

-- whether a type goes where another is wanted
pub goes-is : (headers : List Header) (from to : JType) (answer : Bool) → (IsTrue answer ↔ IsSubtype headers from to) → answer ≡ is_subtype headers from to
goes-is headers from to answer h = one_test answer (is_subtype headers from to) (IsSubtype headers from to) h (Decides-subtype headers from to)
