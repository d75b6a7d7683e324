-- Types of the machine as those of expressions, and rules that are looked at one behind another.
use Rattle.std.proofs.Common.{◌≡◌, ℕ, Bool, Option, Some, None, refl, ◌∙◌}
use Rattle.std.specs.Prelude.{option_map, is_some}
use Rattle.dj_names.specs.Types.{JType}
use Rattle.dj_meaning.specs.StaticTypes.{plain, typed}
use Rattle.dj_places.specs.declared.kind.TypeKind.{TypeKind}
use Rattle.dj_checked.specs.declared.walk.Walk.{Walk}
use Rattle.dj_checked.specs.Walks.{note}

pub plain_typed : (found : Option JType) → plain (typed found) ≡ found
plain_typed None = refl
plain_typed (Some type) = refl

pub some_typed : {A : Type 0} (f : A → JType) (found : Option A) → is_some (typed (option_map f found)) ≡ is_some found
some_typed f None = refl
some_typed f (Some one) = refl

pub three_noted : (place : ℕ) (kind other last : TypeKind) (before : Walk) (kept also more : Bool) {one two three : Walk} {first second third : Bool} → one ≡ note place kind first before → first ≡ kept
    → two ≡ note place other second one → second ≡ also → three ≡ note place last third two → third ≡ more → three ≡ note place last more (note place other also (note place kind kept before))
three_noted place kind other last before kept also more noted is then so end ends =
    end ∙ (λ i. note place last (ends i) ((then ∙ (λ j. note place other (so j) ((noted ∙ (λ k. note place kind (is k) before)) j))) i))
