use Rattle.std.proofs.Common.{◌≡◌, ℕ, List, Decides, nat_eq, refl}
use Rattle.std.specs.Cmp.{unsigned_Decides}
use Rattle.std.specs.Cmp.Lexicographic.{pointwise}
use Rattle.std.proofs.lemmas.Slice.Eq.{slice_eq-Decides}
use Rattle.dj_well_formed.proofs.same.same_names.Goals as goal

pub returns : goal.returns
returns c =
    let names : (first second : List ℕ) → Decides (pointwise nat_eq first second) (first ≡ second) = λ first second. slice_eq-Decides unsigned_Decides first second (pointwise nat_eq first second) refl in
    record { same = slice_eq-Decides names c.args.first.now c.args.second.now c.eq.result c.eq.ensures }
