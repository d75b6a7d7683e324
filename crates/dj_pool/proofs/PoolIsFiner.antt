-- What is lawful in a pool is laid out: the pass that is given the pool asks more.
use Rattle.std.proofs.Common.{ℕ, ◌-◌, ◌==◌, filter, Bool, List, [], ◌∷◌, ◌++◌, Some, None}
use Rattle.dj_layout.specs.Layout.{Layout}
use Rattle.dj_layout.specs.Passes.{IsSequence}
use Rattle.dj_pool.specs.declared.fault.BrokenKind.{BrokenKind}
use Rattle.dj_pool.specs.declared.entry.Entry.{Entry}
use Rattle.dj_pool.specs.declared.entry.Ask.{Ask}
use Rattle.dj_pool.specs.declared.entry.Ask.TheVariants as ask
use Rattle.dj_pool.specs.PoolFormat.{Content, Characters, One, Two, IsFound, LeadsRight, behind, content_of, tag_of, entry_within, entries, places_of, isnt_skip}

found_unknown : (what : Ask) (index : ℕ) → IsFound what None index
found_unknown ask.Free index = tt
found_unknown ask.Text index = tt
found_unknown ask.ClassText index = tt
found_unknown ask.AnyText index = tt
found_unknown ask.MethodText index = tt
found_unknown ask.Class index = tt
found_unknown ask.FieldMember index = tt
found_unknown ask.MethodMember index = tt
found_unknown ask.Reference index = tt

right_unknown : (what : Ask) (index : ℕ) → LeadsRight what None index
right_unknown ask.Free index = tt
right_unknown ask.Text index = tt
right_unknown ask.ClassText index = tt
right_unknown ask.AnyText index = tt
right_unknown ask.MethodText index = tt
right_unknown ask.Class index = tt
right_unknown ask.FieldMember index = tt
right_unknown ask.MethodMember index = tt
right_unknown ask.Reference index = tt

behind_plain : (given : List Entry) (tag : ℕ) (content : Content) (x : Entry) → (behind (Some given) tag content).Fits x → (behind None tag content).Fits x
behind_plain given tag Characters x fits = fits
behind_plain given tag (One n what) x fits = (((fits.0.0.0, found_unknown what _), right_unknown what _), fits.1)
behind_plain given tag (Two n what m other) x fits =
    (((fits.0.0.0, found_unknown what _), right_unknown what _), (((fits.1.0.0.0, found_unknown other _), right_unknown other _), fits.1.1))

entry_plain : (given : List Entry) (room : ℕ) (x : Entry) → (entry_within (Some given) room).Fits x → (entry_within None room).Fits x
entry_plain given room x fits = (fits.0, behind_plain given (tag_of x) (content_of (tag_of x)) x fits.1)

sequence_plain : {K A : Type 0} (enough : List A → Bool) (next other : List A → Layout K A) → ((before : List A) (x : A) → (next before).Fits x → (other before).Fits x) → (before xs : List A) → IsSequence enough next before xs → IsSequence enough other before xs
sequence_plain enough next other plain before [] are = tt
sequence_plain enough next other plain before (x ∷ xs) are = (are.0, plain before x are.1, sequence_plain enough next other plain (before ++ x ∷ []) xs are.2)

pub entries_plain : (given : List Entry) (n : ℕ) (xs : List Entry) → (entries (Some given) n).Fits xs → (entries None n).Fits xs
entries_plain given n xs fits = (
  (
    sequence_plain {K = BrokenKind} (λ (ys : List Entry). places_of ys == n) (λ before. entry_within (Some given) (n - places_of before)) (λ before. entry_within None (n - places_of before))
        (λ before x. entry_plain given (n - places_of before) x) [] (filter isnt_skip xs) fits.0.0,
    fits.0.1,
  ),
  fits.1,
)
