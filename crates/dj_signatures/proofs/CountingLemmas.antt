-- Of two methods alike at most one stands in a text.
use Rattle.std.proofs.Common.{◌≡◌, ◌≢◌, ◌⊎◌, ℕ, zero, suc, ◌<◌, IsBitSet, List, Option, Some, slice_get, refl, sym, inl, inr, ◌∙◌, arith}
use Rattle.std.proofs.lemmas.Bool.{cases_eq}
use Rattle.dj_class.specs.Described.{MethodOf}
use Rattle.dj_kinds.specs.Own.{IsFirst}
use Rattle.dj_signatures.specs.Signatures.{IsAlike, IsAlikeAndPlain, Counts, IsUncounted}

-- the method at a place is no bridge, and none before it is alike
pub record Leads (methods : List MethodOf) (at : ℕ) (method : MethodOf) : Type 0 where
  pub no_bridge : ¬ IsBitSet method.flags 6
  pub first : (earlier : ℕ) (other : MethodOf) → earlier < at → slice_get methods earlier ≡ Some other → ¬ IsAlike method other

-- the method at a place leads, or no other counts
pub data MayStand (methods : List MethodOf) (at : ℕ) (method : MethodOf) : Type 0 where
  leading : Leads methods at method → MayStand methods at method
  counted : ¬ IsUncounted methods at method → MayStand methods at method

-- ---- methods alike

alike-itself : (method : MethodOf) → IsAlike method method
alike-itself method = record { name = refl; parameters = refl }

alike-back : (method other : MethodOf) → IsAlike method other → IsAlike other method
alike-back method other alike = record { name = sym alike.name; parameters = sym alike.parameters }

alike-on : (method other third : MethodOf) → IsAlike method other → IsAlike other third → IsAlike method third
alike-on method other third one two = record { name = two.name ∙ one.name; parameters = two.parameters ∙ one.parameters }

module _ (methods : List MethodOf) where
  first-same : (P Q : MethodOf → Type 0) (at : ℕ) → ((method : MethodOf) → P method → Q method) → ((method : MethodOf) → Q method → P method) → IsFirst P methods at → IsFirst Q methods at
  first-same P Q at there back first = record {
    item = first.item;
    is = first.is;
    holds = there first.item first.holds;
    first = λ earlier other before is holds. first.first earlier other before is (back other holds);
  }

  -- what counts of the methods alike with one counts of those alike with another that is alike
  counts-on : (method other : MethodOf) (at : ℕ) → IsAlike method other → Counts methods method at → Counts methods other at
  counts-on method other at alike counts =
      let back = alike-back method other alike in
      let here : (m : MethodOf) → IsAlike method m → IsAlike other m = λ m a. alike-on other method m back a in
      let there : (m : MethodOf) → IsAlike other m → IsAlike method m = λ m a. alike-on method other m alike a in
      let plain_here : (m : MethodOf) → IsAlikeAndPlain method m → IsAlikeAndPlain other m = λ m a. (here m a.0, a.1) in
      let plain_there : (m : MethodOf) → IsAlikeAndPlain other m → IsAlikeAndPlain method m = λ m a. (there m a.0, a.1) in
      elim counts [
        | inl plain ↦ inl (first-same (IsAlikeAndPlain method) (IsAlikeAndPlain other) at plain_here plain_there plain)
        | inr bridge ↦ inr (
          λ place first. bridge.0 place (first-same (IsAlikeAndPlain other) (IsAlikeAndPlain method) place plain_there plain_here first),
          first-same (IsAlike method) (IsAlike other) at here there bridge.1,
        )
      ]

  -- where there is no first, there is none
  none-below : (P : MethodOf → Type 0) → ((at : ℕ) → ¬ IsFirst P methods at) → (bound at : ℕ) (method : MethodOf) → at < bound → slice_get methods at ≡ Some method → ¬ P method
  none-below P none zero at method below is holds = absurd (omega (arith, below))
  none-below P none (suc bound) at method below is holds =
      none at (record { item = method; is = is; holds = holds; first = λ earlier other before there. none-below P none bound earlier other (omega (arith, below, before)) there })

  -- of the methods alike with one of them, it isn't so that none counts
  some-counts : (at : ℕ) (method : MethodOf) → slice_get methods at ≡ Some method → ¬ ((place : ℕ) → ¬ Counts methods method place)
  some-counts at method is none =
      let no_plain = λ (place : ℕ) (first : IsFirst (IsAlikeAndPlain method) methods place). none place (inl first) in
      none-below (IsAlike method) (λ place first. none place (inr (no_plain, first))) (suc at) at method (omega arith) is (alike-itself method)

  -- a method that leads counts
  leads-counts : (at : ℕ) (method : MethodOf) → slice_get methods at ≡ Some method → Leads methods at method → Counts methods method at
  leads-counts at method is lead = inl (record { item = method; is = is; holds = (alike-itself method, lead.no_bridge); first = λ earlier other before there plain. lead.first earlier other before there plain.0 })

  module _ (earlier at : ℕ) (first method : MethodOf) (before : earlier < at) (first_is : slice_get methods earlier ≡ Some first) (is : slice_get methods at ≡ Some method) (alike : IsAlike first method) where
    both-counted : ¬ IsUncounted methods earlier first → ¬ IsUncounted methods at method → ⊥
    both-counted one other = some-counts earlier first first_is (λ place counts.
        elim (cases_eq place earlier) [
          | inl here ↦ other (record { other = place; elsewhere = λ same. omega (arith, here, same, before); counts = counts-on first method place alike counts })
          | inr elsewhere ↦ one (record { other = place; elsewhere = elsewhere; counts = counts })
        ])

    -- two methods alike don't both stand in a text
    pub one_stands : MayStand methods earlier first → MayStand methods at method → ⊥
    one_stands one (leading lead) = lead.first earlier first before first_is (alike-back first method alike)
    one_stands (counted one) (counted other) = both-counted one other
    one_stands (leading lead) (counted other) =
        other (record { other = earlier; elsewhere = λ same. omega (arith, same, before); counts = counts-on first method earlier alike (leads-counts earlier first first_is lead) })
