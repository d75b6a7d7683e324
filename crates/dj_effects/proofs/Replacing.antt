-- Objects in slots that aren't constructed yet, and lists with another tag in their place.
use Rattle.std.proofs.Common.{◌≡◌, ℕ, zero, suc, ◌+◌, ◌<◌, ◌≤◌, ◌⊎◌, Bool, true, false, ◌||◌, List, [], ◌∷◌, length, map, set, get_or, Option, Some, None, is_some, refl, sym, ap, ◌∙◌, inl, inr, arith}
use Rattle.std.specs.List.{list_any}
use Rattle.std.proofs.lemmas.Bool.{cases_lt}
use Rattle.std.proofs.lemmas.List.{length-map, length-set, get_or-set_same, get_or-set_other, get_or-map, ext_get_or}
use Rattle.std.proofs.lemmas.List.Folds.{list_any_at}
use Rattle.dj_frames.specs.Frames.{Tag, Top, IsFirst, IsNext}
use Rattle.dj_effects.specs.Effects.{instead}

-- ---- whether there is one

none_passes : (test : Tag → Bool) (tags : List Tag) → ((s : ℕ) → s < length tags → test (get_or tags s Top) ≡ false) → list_any test tags ≡ false
none_passes test [] none = refl
none_passes test (tag ∷ tags) none = ap (λ (b : Bool). b || list_any test tags) (none zero (omega arith)) ∙ none_passes test tags (λ s lt. none (suc s) (omega arith))

pub any_is : (test : Tag → Bool) (tags : List Tag) (count : ℕ) (found : Option ℕ) → count ≡ length tags → IsNext (λ slot. test (get_or tags slot Top)) 0 count found → is_some found ≡ list_any test tags
any_is test tags count None long none = sym (none_passes test tags (λ s lt. none s (omega arith) (omega arith)))
any_is test tags count (Some place) long f = sym (list_any_at test tags place Top (omega (arith, f.before)) f.here)

-- ---- another tag in its place

pub record IsReplaced (f : Tag → Tag) (before now : List Tag) (count : ℕ) : Type 0 where
  pub long : length now ≡ length before
  pub done : (s : ℕ) → s < count → get_or now s Top ≡ f (get_or before s Top)
  pub kept : (s : ℕ) → count ≤ s → get_or now s Top ≡ get_or before s Top

module _ (test : Tag → Bool) (to : Tag) where
  not_instead : (tag : Tag) → test tag ≡ false → tag ≡ instead test to tag
  not_instead tag fails = rw fails refl

  put_instead : (tag : Tag) → test tag ≡ true → to ≡ instead test to tag
  put_instead tag passes = rw passes refl

  pub replaced_none : (tags : List Tag) → IsReplaced (instead test to) tags tags 0
  replaced_none tags = record { long = refl; done = λ s lt. absurd (omega arith); kept = λ s le. refl }

  module _ (before now : List Tag) (start : ℕ) (so_far : IsReplaced (instead test to) before now start) where
    unchanged : (s : ℕ) → start ≤ s → test (get_or now s Top) ≡ false → get_or now s Top ≡ instead test to (get_or before s Top)
    unchanged s ge fails = not_instead (get_or now s Top) fails ∙ ap (instead test to) (so_far.kept s ge)

    pub replaced_more : (after : List Tag) (count slot : ℕ) → count ≡ length now → IsFirst (λ s. test (get_or now s Top)) start count slot → after ≡ set now slot to → IsReplaced (instead test to) before after (slot + 1)
    replaced_more after count slot many f is = record {
      long = ap length is ∙ length-set now slot to ∙ so_far.long;
      done = λ s lt. ap (λ (l : List Tag). get_or l s Top) is ∙ there s lt (cases_lt s slot);
      kept = λ s le. ap (λ (l : List Tag). get_or l s Top) is ∙ get_or-set_other now slot s to Top (omega arith) ∙ so_far.kept s (omega (arith, f.behind));
    }
      where
        other : (s : ℕ) → s < slot → (s < start) ⊎ (start ≤ s) → get_or now s Top ≡ instead test to (get_or before s Top)
        other s less (inl done) = so_far.done s done
        other s less (inr ge) = unchanged s ge (f.first s ge less)

        there : (s : ℕ) → s < slot + 1 → (s < slot) ⊎ (slot ≤ s) → get_or (set now slot to) s Top ≡ instead test to (get_or before s Top)
        there s lt (inl less) = get_or-set_other now slot s to Top (omega arith) ∙ other s less (cases_lt s start)
        there s lt (inr le) =
            let e : s ≡ slot = omega arith in
            ap (λ (n : ℕ). get_or (set now slot to) n Top) e ∙ get_or-set_same now slot to Top (omega (arith, f.before, many)) ∙ put_instead (get_or now slot Top) f.here ∙ ap (instead test to) (so_far.kept slot f.behind)
            ∙ ap (λ (n : ℕ). instead test to (get_or before n Top)) (sym e)

    pub replaced_all : (count : ℕ) → count ≡ length now → ((s : ℕ) → start ≤ s → s < count → test (get_or now s Top) ≡ false) → now ≡ map (instead test to) before
    replaced_all count many none =
        let long = so_far.long in
        let same = length-map before (instead test to) in
        ext_get_or Top now (map (instead test to) before) (omega arith) (λ s lt. there s (omega arith) (cases_lt s start) ∙ sym (get_or-map (instead test to) before s Top Top (omega arith)))
      where
        there : (s : ℕ) → s < count → (s < start) ⊎ (start ≤ s) → get_or now s Top ≡ instead test to (get_or before s Top)
        there s lt (inl done) = so_far.done s done
        there s lt (inr ge) = unchanged s ge (none s ge lt)
