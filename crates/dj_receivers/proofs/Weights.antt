-- How often marks can fall yet.
use Rattle.std.proofs.Common.{◌≡◌, ℕ, zero, suc, ◌+◌, ◌<◌, ◌≤◌, Bool, true, false, List, [], ◌∷◌, length, reverse, set, Option, Some, None, refl, sym, ◌∙◌, arith}
use Rattle.std.proofs.lemmas.List.{length-reverse}
use Rattle.dj_receivers.specs.Steps.{IsAt, IsHeld, IsCut, IsMet, HasMore}
use Rattle.dj_receivers.specs.Walks.{kept, trues, weight, weights, IsLowered}

trues_length : (marks : List Bool) → trues marks ≤ length marks
trues_length [] = omega arith
trues_length (true ∷ marks) = let more = trues_length marks in omega (arith, more)
trues_length (false ∷ marks) = let more = trues_length marks in omega (arith, more)

-- of as many entries, those are fewer that are among others
trues_below : (fewer more : List Bool) → length fewer ≡ length more → ((place : ℕ) → IsAt fewer place → IsAt more place) → trues fewer ≤ trues more
trues_below [] [] size below = omega arith
trues_below [] (y ∷ more) size below = omega arith
trues_below (x ∷ fewer) [] size below = absurd (omega (arith, size))
trues_below (false ∷ fewer) (false ∷ more) size below = let rest = trues_below fewer more (omega (arith, size)) (λ place is. below (suc place) is) in omega (arith, rest)
trues_below (false ∷ fewer) (true ∷ more) size below = let rest = trues_below fewer more (omega (arith, size)) (λ place is. below (suc place) is) in omega (arith, rest)
trues_below (true ∷ fewer) (false ∷ more) size below = absurd (let wrong = below zero refl in cc)
trues_below (true ∷ fewer) (true ∷ more) size below = let rest = trues_below fewer more (omega (arith, size)) (λ place is. below (suc place) is) in omega (arith, rest)

trues_less : (fewer more : List Bool) → length fewer ≡ length more → ((place : ℕ) → IsAt fewer place → IsAt more place) → (lost : ℕ) → IsAt more lost → ¬ IsAt fewer lost → trues fewer + 1 ≤ trues more
trues_less fewer [] size below lost at gone = absurd cc
trues_less [] (y ∷ more) size below lost at gone = absurd (omega (arith, size))
trues_less (x ∷ fewer) (y ∷ more) size below zero at gone = head x y at gone (trues_below fewer more (omega (arith, size)) (λ place is. below (suc place) is))
  where
    head : (x y : Bool) → IsAt (y ∷ more) zero → ¬ IsAt (x ∷ fewer) zero → trues fewer ≤ trues more → trues (x ∷ fewer) + 1 ≤ trues (y ∷ more)
    head true y at gone rest = absurd (gone refl)
    head false true at gone rest = omega (arith, rest)
    head false false at gone rest = absurd cc
trues_less (x ∷ fewer) (y ∷ more) size below (suc lost) at gone = both x y (below zero) (trues_less fewer more (omega (arith, size)) (λ place is. below (suc place) is) lost at gone)
  where
    both : (x y : Bool) → (IsAt (x ∷ fewer) zero → IsAt (y ∷ more) zero) → trues fewer + 1 ≤ trues more → trues (x ∷ fewer) + 1 ≤ trues (y ∷ more)
    both false false kept rest = omega (arith, rest)
    both false true kept rest = omega (arith, rest)
    both true true kept rest = omega (arith, rest)
    both true false kept rest = absurd (let wrong = kept refl in cc)

-- one entry of a table
pub weights_set : (cap : ℕ) (table : List (Option (List Bool))) (pc : ℕ) (new : Option (List Bool)) → pc < length table → weights cap (set table pc new) + weight cap (kept table pc) ≡ weights cap table + weight cap new
weights_set cap [] pc new within = absurd (omega arith)
weights_set cap (x ∷ table) zero new within = omega arith
weights_set cap (x ∷ table) (suc pc) new within = let more = weights_set cap table pc new (omega arith) in omega (arith, more)

-- where nothing was known
pub lowered_none : (known : Option (List Bool)) (marks : List Bool) (height : ℕ) (found : List Bool) → known ≡ None → IsCut marks height (reverse found) → length found ≤ height → IsLowered known marks height (Some found)
lowered_none None marks height found none cut short = (
  λ place. (λ is. (tt, (cut place).0 is), λ both. (cut place).1 both.1),
  λ cap low. (let few = trues_length (reverse found) in let size = length-reverse found in omega (arith, few, size, short, low)),
)
lowered_none (Some known) marks height found none cut short = absurd cc

-- where a mark falls
pub lowered_some : (known : Option (List Bool)) (marks : List Bool) (height : ℕ) (was found : List Bool) → known ≡ Some was → IsMet (reverse was) marks height (reverse found) → length found ≡ length was → HasMore (reverse was) marks height
    → IsLowered known marks height (Some found)
lowered_some None marks height was found some met size more = absurd cc
lowered_some (Some known) marks height was found some met size more =
    let same : was ≡ known = cc in (
      λ place. (λ is. (let both = (met place).0 is in rw (sym same) both.0, ((met place).0 is).1), λ both. (met place).1 (rw same both.0, both.1)),
      λ cap low. (let less = trues_less (reverse found) (reverse was) (length-reverse found ∙ size ∙ sym (length-reverse was)) (λ place is. ((met place).0 is).0) more.place more.at (λ is. more.lost ((met more.place).0 is).1) in rw (sym same) less),
    )

-- where none does
pub lowered_same : (known : Option (List Bool)) (marks : List Bool) (height : ℕ) (was : List Bool) → known ≡ Some was → ((place : ℕ) → IsAt (reverse was) place → IsHeld marks height place) → IsLowered known marks height None
lowered_same known marks height was some none = (was, some, none)
