-- The tags of a tree, by slot.
use Rattle.std.specs.Prelude.{◌≡◌, ◌<◌, ◌≤◌, ℕ, zero, suc, ◌+◌, ◌-◌, ◌^◌, List, length, map, flat_map, get_or, nat_lt, if◌then◌else◌, Bool, ⊤}
use Rattle.std.specs.List.{range_with_len}
use Rattle.dj_frames.specs.Frames.{Tag as Seen, Top as NoValue, Int, Float, Double, Long, Null, UnbornThis, Object, Unborn, view_tag, view_tags, slots_of, is_unborn}
use Rattle.dj_frames.specs.declared.tag.Tag.{Tag}
use Rattle.dj_frames.specs.declared.tag.Tag.TheVariants.{Top}
use Rattle.dj_frames.specs.declared.tree.Tree.{Tree}
use Rattle.dj_frames.specs.declared.tree.Tree.TheVariants.{All, Leaf, Fork'}
use Rattle.dj_frames.specs.declared.unborn.Unborn as code_unborn
use Rattle.dj_frames.specs.declared.unborn.Unborn.TheVariants as unborn

-- the tag in a slot of a list behind which all have another one
abbrev pub listed : List Tag → Tag → ℕ → Tag
listed list rest slot = get_or list slot rest

-- the slots of two halves, of which the lower has so many
abbrev pub joined : ℕ → (ℕ → Tag) → (ℕ → Tag) → ℕ → Tag
joined half lower upper slot = if nat_lt slot half then lower slot else upper (slot - half)

-- the tag in a slot of a tree of this depth; no fork has depth 0
abbrev pub tag_in : ℕ → Tree → ℕ → Tag
tag_in depth (All tag) slot = tag
tag_in depth (Leaf run) slot = listed run.tags run.rest slot
tag_in zero (Fork' p lower q upper most) slot = tag_in zero lower slot
tag_in (suc depth) (Fork' p lower q upper most) slot = joined (2 ^ depth) (tag_in depth lower) (tag_in depth upper) slot

-- the slots with tags put over theirs, from one on
abbrev pub over : ℕ → List Tag → (ℕ → Tag) → ℕ → Tag
over start tags before slot = if nat_lt slot start then before slot else get_or tags (slot - start) (before slot)

-- the tags of the first slots
abbrev pub first_tags : ℕ → (ℕ → Tag) → List Tag
first_tags count at = map at (range_with_len 0 count)

-- the slots with Top from one on
abbrev pub cut : ℕ → (ℕ → Tag) → ℕ → Tag
cut from before slot = if nat_lt slot from then before slot else Top

-- the words of tags: as many as there are locals for them
abbrev pub words_in : List Tag → ℕ
words_in tags = length (flat_map slots_of (view_tags tags))

-- the slot of a tree has the object
abbrev pub unborn_in : code_unborn.Unborn → ℕ → Tree → ℕ → Bool
unborn_in unborn depth tree slot = is_unborn unborn (view_tag (tag_in depth tree slot))

-- ---- ranks

-- the rank of the object that a tag is of, by its `new`; 0 where the object is constructed or there is none
abbrev pub rank : Seen → ℕ
rank NoValue = 0
rank Int = 0
rank Float = 0
rank Double = 0
rank Long = 0
rank Null = 0
rank UnbornThis = 1
rank (Object type) = 0
rank (Unborn pc) = pc + 2

-- the rank of an object
abbrev pub rank_of : code_unborn.Unborn → ℕ
rank_of unborn.This = 1
rank_of (unborn.At pc) = pc + 2

-- no object in a tree has a greater rank
abbrev pub IsUnder : ℕ → Tree → Type 0
IsUnder most tree = (depth slot : ℕ) → rank (view_tag (tag_in depth tree slot)) ≤ most

-- each fork in a tree says a rank that no object in it exceeds
abbrev pub IsMarked : Tree → Type 0
IsMarked (All tag) = ⊤
IsMarked (Leaf run) = ⊤
IsMarked (Fork' p lower q upper most) = IsUnder most lower × IsUnder most upper × IsMarked lower × IsMarked upper

-- so many tags, of so many words, in the first slots of a tree
pub record IsFilled (depth count words : ℕ) (tree : Tree) : Type 0 where
  pub shallow : depth < 64
  pub room : count ≤ 2 ^ depth
  pub counted : words ≡ words_in (first_tags count (tag_in depth tree))
  pub marked : IsMarked tree
