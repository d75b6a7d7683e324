-- When a name is two parts, one after another.
use Rattle.std.proofs.Common.{◌≡◌, ◌↔◌, ℕ, Bool, List, ◌++◌, IsTrue, sym, ap, ◌∙◌}
use Rattle.std.proofs.lemmas.List.{append_cancel_left}

-- a name that begins with the front is the front and the back where the rest is the back
pub joined : (front back name rest : List ℕ) (test : Bool) → name ≡ front ++ rest → IsTrue test ↔ (rest ≡ back) → IsTrue test ↔ (name ≡ front ++ back)
joined front back name rest test begins is = (
  λ yes. begins ∙ ap (λ part. front ++ part) (is.0 yes),
  λ whole. is.1 (append_cancel_left front rest back (sym begins ∙ whole)),
)
