-- A loop over items of a layout that keeps them.
use Rattle.std.proofs.Common.{◌≡◌, ℕ, ◌+◌, List, [], ◌∷◌, ◌++◌}
use Rattle.dj_layout.specs.Layout.{Layout, Spells}
use Rattle.dj_layout.specs.Parts.{times}
use Rattle.dj_layout.proofs.Loops.{times_more}

-- one more item is there, after a push
pub times_pushed : {K A : Type 0} (item : Layout K A) (n : ℕ) (bytes rest others : List ℕ) (xs pushed : List A) (x : A)
    → Spells (times n item) bytes xs rest → Spells item rest x others → pushed ≡ xs ++ x ∷ [] → Spells (times (n + 1) item) bytes pushed others
times_pushed item n bytes rest others xs pushed x so_far next is = rw is (times_more item n bytes rest others xs x so_far next)
