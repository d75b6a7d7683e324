-- Ranks of objects that aren't constructed yet, and the marks of forks.
use Rattle.std.proofs.Common.{◌≡◌, ℕ, zero, suc, ◌+◌, ◌-◌, ◌^◌, ◌<◌, ◌≤◌, false, List, length, get_or, refl, sym, ap, subst, ◌∙◌, inl, inr, arith}
use Rattle.std.proofs.lemmas.Bool.{cases_lt}
use Rattle.std.proofs.lemmas.Bool.Decides.{nat_tests}
use Rattle.std.proofs.lemmas.List.{get_or_past, get_or_default}
use Rattle.dj_frames.specs.declared.tag.Tag as code
use Rattle.dj_frames.specs.declared.tree.Tree.{Tree}
use Rattle.dj_frames.specs.declared.unborn.Unborn as code_unborn
use Rattle.dj_frames.specs.declared.unborn.Unborn.TheVariants as unborn
use Rattle.dj_frames.specs.Frames.{Tag, Top, Int, Float, Double, Long, Null, UnbornThis, Object, Unborn, view_tag, is_unborn}
use Rattle.dj_frames.specs.SlotTree.{listed, joined, tag_in, rank, rank_of, IsUnder}
use Rattle.dj_frames.proofs.SlotTags.{joined_below, joined_above}

-- a tag of a lesser rank isn't that of the object
other_rank : (which : code_unborn.Unborn) (tag : Tag) → rank tag < rank_of which → is_unborn which tag ≡ false
other_rank unborn.This Top lt = refl
other_rank unborn.This Int lt = refl
other_rank unborn.This Float lt = refl
other_rank unborn.This Double lt = refl
other_rank unborn.This Long lt = refl
other_rank unborn.This Null lt = refl
other_rank unborn.This UnbornThis lt = absurd (omega arith)
other_rank unborn.This (Object type) lt = refl
other_rank unborn.This (Unborn pc) lt = refl
other_rank (unborn.At at) Top lt = refl
other_rank (unborn.At at) Int lt = refl
other_rank (unborn.At at) Float lt = refl
other_rank (unborn.At at) Double lt = refl
other_rank (unborn.At at) Long lt = refl
other_rank (unborn.At at) Null lt = refl
other_rank (unborn.At at) UnbornThis lt = refl
other_rank (unborn.At at) (Object type) lt = refl
other_rank (unborn.At at) (Unborn pc) lt = grind (arith, nat_tests)

-- ---- forks

module _ (most : ℕ) (fork lower upper : Tree) (first : (slot : ℕ) → tag_in 0 fork slot ≡ tag_in 0 lower slot) (halves : (depth slot : ℕ) → tag_in (suc depth) fork slot ≡ joined (2 ^ depth) (tag_in depth lower) (tag_in depth upper) slot) (low : IsUnder most lower) (up : IsUnder most upper) where
  -- a rank that no object in the halves exceeds
  pub under_fork : IsUnder most fork
  under_fork zero slot = subst (λ (tag : code.Tag). rank (view_tag tag) ≤ most) (sym (first slot)) (low 0 slot)
  under_fork (suc depth) slot = elim (cases_lt slot (2 ^ depth)) [
    | inl lt ↦
        let is = halves depth slot ∙ joined_below (2 ^ depth) slot (tag_in depth lower) (tag_in depth upper) lt in
        subst (λ (tag : code.Tag). rank (view_tag tag) ≤ most) (sym is) (low depth slot)
    | inr le ↦
        let is = halves depth slot ∙ joined_above (2 ^ depth) slot (tag_in depth lower) (tag_in depth upper) le in
        subst (λ (tag : code.Tag). rank (view_tag tag) ≤ most) (sym is) (up depth (slot - 2 ^ depth))
  ]

-- no slot has an object of a greater rank than all
pub none_under : (which : code_unborn.Unborn) (most : ℕ) (tree : Tree) → IsUnder most tree → most < rank_of which → (depth slot : ℕ) → is_unborn which (view_tag (tag_in depth tree slot)) ≡ false
none_under which most tree under lt depth slot = other_rank which (view_tag (tag_in depth tree slot)) (omega (arith, under depth slot))

pub under_more : (a most : ℕ) (tree : Tree) → IsUnder a tree → a ≤ most → IsUnder most tree
under_more a most tree under le depth slot = omega (arith, under depth slot)

-- ---- lists

-- one more tag of a list
pub most_more : (list : List code.Tag) (rest tag : code.Tag) (place before now : ℕ) → ((slot : ℕ) → slot < place → rank (view_tag (listed list rest slot)) ≤ before) → place < length list → tag ≡ get_or list place tag → before ≤ now → rank (view_tag tag) ≤ now
    → (slot : ℕ) → slot < place + 1 → rank (view_tag (listed list rest slot)) ≤ now
most_more list rest tag place before now so_far within is le more slot lt = elim (cases_lt slot place) [
  | inl less ↦ omega (arith, so_far slot less)
  | inr past ↦
      let e : slot ≡ place = omega arith in
      let there : listed list rest slot ≡ tag = ap (λ (s : ℕ). get_or list s rest) e ∙ get_or_default list place rest tag within ∙ sym is in
      subst (λ (t : code.Tag). rank (view_tag t) ≤ now) (sym there) more
]

-- all tags of a list, and the one behind it
pub most_all : (list : List code.Tag) (rest : code.Tag) (place most : ℕ) → length list ≤ place → rank (view_tag rest) ≤ most → ((slot : ℕ) → slot < place → rank (view_tag (listed list rest slot)) ≤ most) → (slot : ℕ) → rank (view_tag (listed list rest slot)) ≤ most
most_all list rest place most past behind all slot = elim (cases_lt slot place) [
  | inl lt ↦ all slot lt
  | inr le ↦ subst (λ (t : code.Tag). rank (view_tag t) ≤ most) (sym (get_or_past list slot rest (omega arith))) behind
]
