-- The first slot that passes, of the first slots of a tree.
use Rattle.std.proofs.Common.{◌≡◌, ℕ, ◌<◌, Bool, List, length, get_or, Option, Some, None, sym, ap, ◌∙◌, arith}
use Rattle.std.proofs.lemmas.List.{get_or-map}
use Rattle.dj_frames.specs.declared.tag.Tag.{Tag}
use Rattle.dj_frames.specs.declared.tag.Tag.TheVariants.{Top}
use Rattle.dj_frames.specs.Frames as spec
use Rattle.dj_frames.specs.Frames.{view_tag, view_tags, IsFirst, IsNext}
use Rattle.dj_frames.specs.SlotTree.{first_tags}
use Rattle.dj_frames.proofs.SlotTags.{length_first, get_first}

-- ---- the same for tests that agree

first_same : (p q : ℕ → Bool) (start end end' place : ℕ) → end ≡ end' → ((s : ℕ) → s < end → p s ≡ q s) → IsFirst p start end place → IsFirst q start end' place
first_same p q start end end' place e same f = record {
  behind = f.behind;
  before = omega (arith, f.before);
  here = sym (same place f.before) ∙ f.here;
  first = λ other ge lt. sym (same other (omega (arith, f.before))) ∙ f.first other ge lt;
}

next_same : (p q : ℕ → Bool) (start end end' : ℕ) (found : Option ℕ) → end ≡ end' → ((s : ℕ) → s < end → p s ≡ q s) → IsNext p start end found → IsNext q start end' found
next_same p q start end end' None e same none = λ place ge lt. sym (same place (omega arith)) ∙ none place ge (omega arith)
next_same p q start end end' (Some place) e same f = first_same p q start end end' place e same f

-- the first slots of a tree, as a list
pub next_viewed : (test : spec.Tag → Bool) (count start : ℕ) (at : ℕ → Tag) (tags : List Tag) (found : Option ℕ) → first_tags count at ≡ tags → IsNext (λ slot. test (view_tag (at slot))) start count found → IsNext (λ slot. test (get_or (view_tags tags) slot spec.Top)) start (length tags) found
next_viewed test count start at tags found is next =
    next_same (λ slot. test (view_tag (at slot))) (λ slot. test (get_or (view_tags tags) slot spec.Top)) start count (length tags) found (sym (length_first count at) ∙ ap length is)
    (λ s lt. ap test (viewed s lt)) next
  where
    viewed : (s : ℕ) → s < count → view_tag (at s) ≡ get_or (view_tags tags) s spec.Top
    viewed s lt =
        let many = length_first count at in
        sym (ap (λ (l : List Tag). get_or (view_tags l) s spec.Top) (sym is) ∙ get_or-map view_tag (first_tags count at) s Top spec.Top (omega arith) ∙ ap view_tag (get_first count s at lt))
