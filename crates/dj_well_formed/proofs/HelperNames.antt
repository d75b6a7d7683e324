-- When a name is that of a helper.
use Rattle.std.proofs.Common.{◌≡◌, ◌≢◌, ◌↔◌, Bool, false, List, ℕ, ◌++◌, IsTrue, sym, ◌∙◌, subst}
use Rattle.std.specs.Prelude.{codes}
use Rattle.std.proofs.lemmas.Bool.{false≢true}
use Rattle.std.proofs.lemmas.List.{append_cancel_left}
use Rattle.dj_syntax.specs.WellFormed.{IsDecimalNumeral, IsHelperName}

-- a name with the front of a helper's is a helper's where a numeral is behind it
pub helper_name : (name rest : List ℕ) (test : Bool) → name ≡ codes "rethrow$" ++ rest → IsTrue test ↔ IsDecimalNumeral rest → IsTrue test ↔ IsHelperName name
helper_name name rest test begins is = (
  λ yes. (rest, is.0 yes, begins),
  λ helper. is.1 (subst IsDecimalNumeral (append_cancel_left (codes "rethrow$") helper.0 rest (sym helper.2 ∙ begins)) helper.1),
)

-- a name without that front is no helper's
pub no_helper_name : (name : List ℕ) → ((rest : List ℕ) → name ≢ codes "rethrow$" ++ rest) → IsTrue false ↔ IsHelperName name
no_helper_name name none = (λ yes. absurd (false≢true yes), λ helper. absurd (none helper.0 helper.2))
