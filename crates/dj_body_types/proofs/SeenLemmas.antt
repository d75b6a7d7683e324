-- Labels that are seen one after another: each for the first time exactly where none stands twice.
use Rattle.std.proofs.Common.{◌≡◌, arith, zero, suc, ℤ, Bool, true, false, not, ◌&&◌, ◌||◌, ℕ, ◌+◌, ◌<◌, List, [], ◌∷◌, ◌++◌, length, drop, get_or, Option, Some, None, refl, sym, ap, ◌∙◌}
use Rattle.std.proofs.lemmas.Cmp.{int_eq_equiv}
use Rattle.std.proofs.lemmas.List.{drop_more}
use Rattle.dj_meaning.specs.Statements.{is_same_label, has_label}
use Rattle.dj_typed.specs.Switches.{are_distinct}
use Rattle.dj_body_types.specs.Seen.{nothing, all_fresh}

-- the same labels were seen
pub fresh_alike : (seen other : Option ℤ → Bool) (labels : List (Option ℤ)) → ((label : Option ℤ) → seen label ≡ other label) → all_fresh seen labels ≡ all_fresh other labels
fresh_alike seen other [] same = refl
fresh_alike seen other (label ∷ rest) same =
    ap (λ b. not b && all_fresh (λ one. is_same_label label one || seen one) rest) (same label)
    ∙ ap (λ b. not (other label) && b) (fresh_alike (λ one. is_same_label label one || seen one) (λ one. is_same_label label one || other one) rest (λ one. ap (λ b. is_same_label label one || b) (same one)))

-- none of these was seen
abbrev none_seen : (Option ℤ → Bool) → List (Option ℤ) → Bool
none_seen seen [] = true
none_seen seen (label ∷ rest) = not (seen label) && none_seen seen rest

or_none : (a b c d : Bool) → (not (a || b) && (c && d)) ≡ ((not a && c) && (not b && d))
or_none true b c d = refl
or_none false true true d = refl
or_none false true false d = refl
or_none false false c d = refl

none_of_either : (first second : Option ℤ → Bool) (labels : List (Option ℤ)) → none_seen (λ label. first label || second label) labels ≡ (none_seen first labels && none_seen second labels)
none_of_either first second [] = refl
none_of_either first second (label ∷ rest) =
    ap (λ b. not (first label || second label) && b) (none_of_either first second rest) ∙ or_none (first label) (second label) (none_seen first rest) (none_seen second rest)

none_same : (label : Option ℤ) (labels : List (Option ℤ)) → none_seen (is_same_label label) labels ≡ not (has_label label labels)
none_same label [] = refl
none_same label (first ∷ rest) = ap (λ b. not (is_same_label label first) && b) (none_same label rest) ∙ not_or (is_same_label label first) (has_label label rest)
  where
    not_or : (a b : Bool) → (not a && not b) ≡ not (a || b)
    not_or true b = refl
    not_or false b = refl

shuffled : (a b c d : Bool) → (a && ((b && c) && d)) ≡ ((a && c) && (b && d))
shuffled false b c d = refl
shuffled true true c d = refl
shuffled true false true d = refl
shuffled true false false d = refl

fresh_is : (seen : Option ℤ → Bool) (labels : List (Option ℤ)) → all_fresh seen labels ≡ (none_seen seen labels && are_distinct labels)
fresh_is seen [] = refl
fresh_is seen (label ∷ rest) =
    ap (λ b. not (seen label) && b) (fresh_is (λ one. is_same_label label one || seen one) rest)
    ∙ ap (λ b. not (seen label) && (b && are_distinct rest)) (none_of_either (is_same_label label) seen rest)
    ∙ ap (λ b. not (seen label) && ((b && none_seen seen rest) && are_distinct rest)) (none_same label rest)
    ∙ shuffled (not (seen label)) (not (has_label label rest)) (none_seen seen rest) (are_distinct rest)

none_of_nothing : (labels : List (Option ℤ)) → none_seen nothing labels ≡ true
none_of_nothing [] = refl
none_of_nothing (label ∷ rest) = none_of_nothing rest

pub distinct_is : (labels : List (Option ℤ)) → all_fresh nothing labels ≡ are_distinct labels
distinct_is labels = fresh_is nothing labels ∙ ap (λ b. b && are_distinct labels) (none_of_nothing labels)

-- labels behind others
pub and_assoc : (a b c : Bool) → (a && (b && c)) ≡ ((a && b) && c)
and_assoc true b c = refl
and_assoc false b c = refl

or_swap : (a b c : Bool) → (a || (b || c)) ≡ ((b || a) || c)
or_swap true true c = refl
or_swap true false c = refl
or_swap false true c = refl
or_swap false false c = refl

same_back : (first second : Option ℤ) → is_same_label first second ≡ is_same_label second first
same_back None None = refl
same_back None (Some b) = refl
same_back (Some a) None = refl
same_back (Some a) (Some b) = int_eq_equiv.symm a b

pub fresh_behind : (seen : Option ℤ → Bool) (first second : List (Option ℤ)) → all_fresh seen (first ++ second) ≡ (all_fresh seen first && all_fresh (λ label. has_label label first || seen label) second)
fresh_behind seen [] second = refl
fresh_behind seen (label ∷ rest) second =
    ap (λ b. not (seen label) && b) (fresh_behind (λ one. is_same_label label one || seen one) rest second)
    ∙ and_assoc (not (seen label)) (all_fresh (λ one. is_same_label label one || seen one) rest) _
    ∙ ap (λ b. (not (seen label) && all_fresh (λ one. is_same_label label one || seen one) rest) && b)
    (fresh_alike _ _ second (λ one. or_swap (has_label one rest) (is_same_label label one) (seen one) ∙ ap (λ b. (b || has_label one rest) || seen one) (same_back label one)))

labels_more : (labels : List (Option ℤ)) (k : ℕ) (label : Option ℤ) → k < length labels → label ≡ get_or labels k label → drop k labels ≡ label ∷ drop (k + 1) labels
labels_more labels k label inside is = drop_more labels k label inside ∙ ap (λ one. one ∷ drop (k + 1) labels) (sym is)

-- one label more, seen for the first time or not
pub fresh_more : (before after : Option ℤ → Bool) (labels : List (Option ℤ)) (k : ℕ) (label : Option ℤ) (so_far first now whole : Bool) → k < length labels → label ≡ get_or labels k label
    → first ≡ not (before label) → ((other : Option ℤ) → after other ≡ (is_same_label label other || before other)) → now ≡ (so_far && first)
    → (so_far && all_fresh before (drop k labels)) ≡ whole → (now && all_fresh after (drop (k + 1) labels)) ≡ whole
fresh_more before after labels k label so_far first now whole inside is told seen both kept =
    ap (λ b. b && all_fresh after (drop (k + 1) labels)) both
    ∙ ap (λ b. (so_far && b) && all_fresh after (drop (k + 1) labels)) told
    ∙ ap (λ b. (so_far && not (before label)) && b) (fresh_alike after (λ other. is_same_label label other || before other) (drop (k + 1) labels) seen)
    ∙ sym (and_assoc so_far (not (before label)) (all_fresh (λ other. is_same_label label other || before other) (drop (k + 1) labels)))
    ∙ ap (λ (list : List (Option ℤ)). so_far && all_fresh before list) (sym (labels_more labels k label inside is)) ∙ kept

pub seen_more : (before after : Option ℤ → Bool) (labels : List (Option ℤ)) (k : ℕ) (label other : Option ℤ) (whole : Bool) → k < length labels → label ≡ get_or labels k label
    → after other ≡ (is_same_label label other || before other) → (has_label other (drop k labels) || before other) ≡ whole → (has_label other (drop (k + 1) labels) || after other) ≡ whole
seen_more before after labels k label other whole inside is seen kept =
    ap (λ b. has_label other (drop (k + 1) labels) || b) seen
    ∙ or_swap (has_label other (drop (k + 1) labels)) (is_same_label label other) (before other)
    ∙ ap (λ b. (b || has_label other (drop (k + 1) labels)) || before other) (same_back label other)
    ∙ ap (λ (list : List (Option ℤ)). has_label other list || before other) (sym (labels_more labels k label inside is)) ∙ kept

-- an item that is there is one whatever stands for those that aren't
pub item_is : (labels : List (Option ℤ)) (k : ℕ) (other : Option ℤ) → k < length labels → get_or labels k other ≡ get_or labels k (get_or labels k other)
item_is [] k other inside = absurd (omega (arith, inside))
item_is (label ∷ rest) zero other inside = refl
item_is (label ∷ rest) (suc k) other inside = item_is rest k other (omega (arith, inside))
