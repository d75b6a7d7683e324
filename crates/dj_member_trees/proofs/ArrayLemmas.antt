-- What instructions build that make arrays.
use Rattle.std.proofs.Common.{◌≡◌, ℕ, suc, ◌+◌, ◌-◌, ◌<◌, ◌≤◌, List, [], ◌∷◌, length, Option, Some, None, refl, sym, ap, ◌∙◌, arith}
use Rattle.dj_names.specs.Types.{JType, StaticType, Of}
use Rattle.dj_syntax.specs.Trees.{Exp, Exps, NewArray, Stms}
use Rattle.dj_values.specs.Fits.{element_of, innermost}
use Rattle.dj_rebuilding.specs.Pending.{Pending, Whole, Built, Typed, and_then, grown}
use Rattle.dj_member_nodes.specs.Nodes.{depth_of, sizes_of}
use Rattle.dj_pending.specs.Operands.{taken_from}
use Rattle.dj_pending.specs.Spilling.{behind}
use Rattle.dj_pending.proofs.NumberLemmas.{goes-on, stops, pushed-as}
use Rattle.dj_member_trees.specs.Fitting.{behind_sizes, array_of_sizes}
use Rattle.dj_member_trees.specs.Stepping.{array_built}

module _ (type : JType) (count : ℕ) (emitted : Stms) (n : ℕ) (stack : List Pending) where
  abbrev made_of : List Typed × List Pending → Exp → Option Built
  made_of found exp = grown n (Whole (Of type) exp ∷ found.1)

  abbrev made_with : List Typed × List Pending → Option Built
  made_with found = and_then (array_of_sizes type found.0) (made_of found)

  pub array-nothing : None ≡ taken_from count [] stack → None ≡ behind emitted (array_built type count n stack)
  array-nothing none = stops emitted (taken_from count [] stack) made_with none

  pub array-no-sizes : (are : List Typed) (below : List Pending) → Some (are, below) ≡ taken_from count [] stack → None ≡ array_of_sizes type are → None ≡ behind emitted (array_built type count n stack)
  array-no-sizes are below first none = goes-on emitted (taken_from count [] stack) made_with (are, below) None first (stops emitted (array_of_sizes type are) (made_of (are, below)) none)

  pub array-pushed : (are : List Typed) (below : List Pending) (exp : Exp) (kind : StaticType) (built : Built) → Some (are, below) ≡ taken_from count [] stack → Some exp ≡ array_of_sizes type are → kind ≡ Of type
      → built ≡ record { emitted = emitted; stack = Whole kind exp ∷ below; next = n } → Some built ≡ behind emitted (array_built type count n stack)
  array-pushed are below exp kind built first second of is =
      goes-on emitted (taken_from count [] stack) made_with (are, below) (Some built) first
      (goes-on emitted (array_of_sizes type are) (made_of (are, below)) exp (Some built) second (pushed-as emitted n below kind (Of type) exp exp built of refl is))

-- ---- the expression

-- what sizes there are, as many as the program counts
module _ (type : JType) (are : List Typed) (some : are ≡ [] → ⊥) where
  abbrev array_for_left : JType → Option Exp
  array_for_left left = and_then (sizes_of are) (λ sizes. Some (NewArray (innermost type) sizes (depth_of left)))

  sizes-are : array_of_sizes type are ≡ and_then (behind_sizes (length are) type) array_for_left
  sizes-are = by are some
    where
      by : (are : List Typed) → (are ≡ [] → ⊥) → array_of_sizes type are ≡ and_then (behind_sizes (length are) type) (λ left. and_then (sizes_of are) (λ sizes. Some (NewArray (innermost type) sizes (depth_of left))))
      by [] some = absurd (some refl)
      by (first ∷ rest) some = refl

  pub sizes-no-rest : None ≡ behind_sizes (length are) type → None ≡ array_of_sizes type are
  sizes-no-rest none = ap (λ (found : Option JType). and_then found array_for_left) none ∙ sym sizes-are

  pub sizes-none : (left : JType) → Some left ≡ behind_sizes (length are) type → None ≡ sizes_of are → None ≡ array_of_sizes type are
  sizes-none left first none =
      ap (λ (found : Option Exps). and_then found (λ sizes. Some (NewArray (innermost type) sizes (depth_of left)))) none ∙ ap (λ (found : Option JType). and_then found array_for_left) first ∙ sym sizes-are

  pub sizes-made : (left : JType) (sizes : Exps) (more : ℕ) (inner : JType) (exp : Exp) → Some left ≡ behind_sizes (length are) type → Some sizes ≡ sizes_of are → more ≡ depth_of left → inner ≡ innermost type → exp ≡ NewArray inner sizes more → Some exp ≡ array_of_sizes type are
  sizes-made left sizes more inner exp first second depth inmost is =
      ap Some (is ∙ ap (λ (count : ℕ). NewArray inner sizes count) depth ∙ ap (λ (one : JType). NewArray one sizes (depth_of left)) inmost)
      ∙ ap (λ (found : Option Exps). and_then found (λ sizes. Some (NewArray (innermost type) sizes (depth_of left)))) second ∙ ap (λ (found : Option JType). and_then found array_for_left) first ∙ sym sizes-are

-- ---- dimensions that are left

one-less : (count done : ℕ) → done < count → count - done ≡ suc (count - (done + 1))
one-less count done less = omega arith

module _ (count done : ℕ) (less : done < count) (type : JType) (all : Option JType) (so_far : behind_sizes (count - done) type ≡ all) where
  one-behind : and_then (element_of type) (behind_sizes (count - (done + 1))) ≡ all
  one-behind = ap (λ (left : ℕ). behind_sizes left type) (sym (one-less count done less)) ∙ so_far

  pub sizes-next : (element : JType) → Some element ≡ element_of type → behind_sizes (count - (done + 1)) element ≡ all
  sizes-next element is = ap (λ (found : Option JType). and_then found (behind_sizes (count - (done + 1)))) is ∙ one-behind

  pub sizes-end : None ≡ element_of type → None ≡ all
  sizes-end none = ap (λ (found : Option JType). and_then found (behind_sizes (count - (done + 1)))) none ∙ one-behind

pub sizes-all : (count done : ℕ) → count ≤ done → (type : JType) (all : Option JType) → behind_sizes (count - done) type ≡ all → Some type ≡ all
sizes-all count done past type all so_far = (let none : 0 ≡ count - done = omega arith in ap (λ (left : ℕ). behind_sizes left type) none ∙ so_far)
