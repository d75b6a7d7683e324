-- The words of tags.
use Rattle.std.proofs.Common.{◌≡◌, ℕ, zero, suc, ◌+◌, ◌-◌, ◌<◌, ◌≤◌, List, [], ◌∷◌, ◌++◌, length, get_or, take, set, replicate, refl, sym, ap, ◌∙◌, arith, length-append}
use Rattle.std.specs.List.{flat_map}
use Rattle.std.proofs.lemmas.List.{append-nil, map-append, take_more}
use Rattle.std.proofs.lemmas.List.FromFn.{map-range_with_len_more}
use Rattle.std.proofs.lemmas.Grind.{flat_map-append}
use Rattle.dj_frames.specs.declared.tag.Tag.{Tag}
use Rattle.dj_frames.specs.declared.tag.Tag.TheVariants.{Top}
use Rattle.dj_frames.specs.Frames as spec
use Rattle.dj_frames.specs.Frames.{view_tag, view_tags, slots_of}
use Rattle.dj_frames.specs.SlotTree.{words_in, first_tags}
use Rattle.dj_frames.proofs.SlotTags.{length_first, get_first}

-- the words of one
abbrev of : Tag → ℕ
of tag = length (slots_of (view_tag tag))

few_words : (tag : spec.Tag) → length (slots_of tag) ≤ 2
few_words spec.Top = omega arith
few_words spec.Int = omega arith
few_words spec.Float = omega arith
few_words spec.Double = omega arith
few_words spec.Long = omega arith
few_words spec.Null = omega arith
few_words spec.UnbornThis = omega arith
few_words (spec.Object type) = omega arith
few_words (spec.Unborn pc) = omega arith

pub words_few : (tag : Tag) → length (slots_of (view_tag tag)) ≤ 2
words_few tag = few_words (view_tag tag)

words_next : (tag : Tag) (tags : List Tag) → words_in (tag ∷ tags) ≡ of tag + words_in tags
words_next tag tags = length-append (slots_of (view_tag tag)) (flat_map slots_of (view_tags tags))

words_append : (tags others : List Tag) → words_in (tags ++ others) ≡ words_in tags + words_in others
words_append tags others =
    ap (λ (l : List spec.Tag). length (flat_map slots_of l)) (map-append view_tag tags others) ∙ ap length (flat_map-append slots_of (view_tags tags) (view_tags others))
    ∙ length-append (flat_map slots_of (view_tags tags)) (flat_map slots_of (view_tags others))

pub words_one : (tag : Tag) → words_in (tag ∷ []) ≡ length (slots_of (view_tag tag))
words_one tag = ap length (append-nil (slots_of (view_tag tag)))

words_more : (tags : List Tag) (tag : Tag) → words_in (tags ++ tag ∷ []) ≡ words_in tags + of tag
words_more tags tag = words_append tags (tag ∷ []) ∙ ap (λ (n : ℕ). words_in tags + n) (words_one tag)

one_more : (sum tops n : ℕ) → sum ≡ 1 + tops → tops ≡ n → sum ≡ suc n
one_more sum tops n is same = omega arith

words_tops : (n : ℕ) → words_in (replicate n Top) ≡ n
words_tops zero = refl
words_tops (suc n) = one_more (words_in (replicate (suc n) Top)) (words_in (replicate n Top)) n (words_next Top (replicate n Top)) (words_tops n)

-- ---- one more

-- of the tags of a list
pub words_taken : (tags : List Tag) (place before sum now : ℕ) (tag : Tag) → place < length tags → tag ≡ get_or tags place tag → sum ≡ before + words_in (take place tags) → now ≡ sum + length (slots_of (view_tag tag)) → now ≡ before + words_in (take (place + 1) tags)
words_taken tags place before sum now tag within is so_far more =
    let taken : words_in (take (place + 1) tags) ≡ words_in (take place tags) + of tag =
    ap words_in (take_more tags place tag within ∙ ap (λ (t : Tag). take place tags ++ t ∷ []) (sym is)) ∙ words_more (take place tags) tag in
    sums before (words_in (take place tags)) (of tag) sum now (words_in (take (place + 1) tags)) so_far more taken
  where
    sums : (a b c sum now all : ℕ) → sum ≡ a + b → now ≡ sum + c → all ≡ b + c → now ≡ a + all
    sums a b c sum now all x y z = omega arith

-- of the first slots
pub words_first : (count before sum now : ℕ) (at : ℕ → Tag) (tag : Tag) → tag ≡ at count → before + sum ≡ words_in (first_tags count at) → now ≡ sum + length (slots_of (view_tag tag)) → before + now ≡ words_in (first_tags (count + 1) at)
words_first count before sum now at tag is so_far more =
    let longer : words_in (first_tags (count + 1) at) ≡ words_in (first_tags count at) + of tag =
    ap words_in (map-range_with_len_more at 0 count count (omega arith) ∙ ap (λ (t : Tag). first_tags count at ++ t ∷ []) (sym is)) ∙ words_more (first_tags count at) tag in
    sums before sum (of tag) now (words_in (first_tags count at)) (words_in (first_tags (count + 1) at)) so_far more longer
  where
    sums : (a b c now some all : ℕ) → a + b ≡ some → now ≡ b + c → all ≡ some + c → a + now ≡ all
    sums a b c now some all x y z = omega arith

-- ---- what is put into a list

has_words : (tags : List Tag) (place : ℕ) (other : Tag) → place < length tags → of (get_or tags place other) ≤ words_in tags
has_words [] place other lt = absurd (omega arith)
has_words (tag ∷ tags) zero other lt = at_most (of tag) (words_in tags) (words_in (tag ∷ tags)) (words_next tag tags)
  where
    at_most : (a b all : ℕ) → all ≡ a + b → a ≤ all
    at_most a b all is = omega arith
has_words (tag ∷ tags) (suc place) other lt = at_most (of tag) (words_in tags) (words_in (tag ∷ tags)) (of (get_or tags place other)) (words_next tag tags) (has_words tags place other (omega arith))
  where
    at_most : (a b all one : ℕ) → all ≡ a + b → one ≤ b → one ≤ all
    at_most a b all one is le = omega arith

words_put : (tags : List Tag) (place : ℕ) (tag other : Tag) → place < length tags → words_in (set tags place tag) + of (get_or tags place other) ≡ words_in tags + of tag
words_put [] place tag other lt = absurd (omega arith)
words_put (first ∷ tags) zero tag other lt = swapped (of tag) (of first) (words_in tags) (words_in (tag ∷ tags)) (words_in (first ∷ tags)) (words_next tag tags) (words_next first tags)
  where
    swapped : (a b rest now before : ℕ) → now ≡ a + rest → before ≡ b + rest → now + b ≡ before + a
    swapped a b rest now before x y = omega arith
words_put (first ∷ tags) (suc place) tag other lt =
    behind (of first) (words_in (set tags place tag)) (words_in tags) (of (get_or tags place other)) (of tag) (words_in (first ∷ set tags place tag)) (words_in (first ∷ tags)) (words_next first (set tags place tag)) (words_next first tags)
    (words_put tags place tag other (omega arith))
  where
    behind : (a m n old new now before : ℕ) → now ≡ a + m → before ≡ a + n → m + old ≡ n + new → now + old ≡ before + new
    behind a m n old new now before x y z = omega arith

-- ---- the words of slots

-- a tag in one of the first slots has no more words than they all
pub words_held : (count slot words : ℕ) (at : ℕ → Tag) (tag : Tag) → slot < count → tag ≡ at slot → words ≡ words_in (first_tags count at) → length (slots_of (view_tag tag)) ≤ words
words_held count slot words at tag within is sum =
    let many = length_first count at in
    let held : of (get_or (first_tags count at) slot Top) ≤ words_in (first_tags count at) = has_words (first_tags count at) slot Top (omega arith) in
    let same : of tag ≡ of (get_or (first_tags count at) slot Top) = ap of (is ∙ sym (get_first count slot at within)) in
    small (of tag) (of (get_or (first_tags count at) slot Top)) words (words_in (first_tags count at)) same held sum
  where
    small : (a b words all : ℕ) → a ≡ b → b ≤ all → words ≡ all → a ≤ words
    small a b words all x y z = omega arith

-- tags put behind others
pub words_behind : (words now : ℕ) (before tags after : List Tag) → words ≡ words_in before → now ≡ words + words_in tags → after ≡ before ++ tags → now ≡ words_in after
words_behind words now before tags after is more joined = more ∙ ap (λ (n : ℕ). n + words_in tags) is ∙ sym (words_append before tags) ∙ ap words_in (sym joined)

-- Top put behind others
pub words_padded : (words now more : ℕ) (before after : List Tag) → words ≡ words_in before → now ≡ words + more → after ≡ before ++ replicate more Top → now ≡ words_in after
words_padded words now more before after is sum joined = words_behind words now before (replicate more Top) after is (sum ∙ ap (λ (n : ℕ). words + n) (sym (words_tops more))) joined

-- a tag put in place of another
pub words_set : (words now count slot : ℕ) (before : ℕ → Tag) (after : List Tag) (old tag : Tag) → slot < count → old ≡ before slot → words ≡ words_in (first_tags count before) → now ≡ words - length (slots_of (view_tag old)) + length (slots_of (view_tag tag))
    → after ≡ set (first_tags count before) slot tag → now ≡ words_in after
words_set words now count slot before after old tag within is sum now_is after_is =
    let many = length_first count before in
    let same : of (get_or (first_tags count before) slot Top) ≡ of old = ap of (get_first count slot before within ∙ sym is) in
    let put : words_in (set (first_tags count before) slot tag) + of (get_or (first_tags count before) slot Top) ≡ words_in (first_tags count before) + of tag = words_put (first_tags count before) slot tag Top (omega arith) in
    sums (of old) (of tag) words now (of (get_or (first_tags count before) slot Top)) (words_in (set (first_tags count before) slot tag)) (words_in (first_tags count before)) same sum now_is put (words_held count slot words before old within is sum) ∙ ap words_in (sym after_is)
  where
    sums : (a b words now held after before : ℕ) → held ≡ a → words ≡ before → now ≡ words - a + b → after + held ≡ before + b → a ≤ words → now ≡ after
    sums a b words now held after before x y z put le = omega arith
