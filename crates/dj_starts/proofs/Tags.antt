-- A local that a frame doesn't have.
use Rattle.std.proofs.Common.{◌≡◌, ℕ, zero, suc, List, [], ◌∷◌, None, refl}
use Rattle.std.specs.Prelude.{slice_get, slice_index_or}
use Rattle.std.proofs.lemmas.Option.{none-some}
use Rattle.dj_frames.specs.declared.tag.Tag as declared
use Rattle.dj_frames.specs.Frames.{Top, view_tags}

pub no_tag : (tags : List declared.Tag) (i : ℕ) → None ≡ slice_get tags i → slice_index_or (view_tags tags) i Top ≡ Top
no_tag [] i none = refl
no_tag (x ∷ tags) zero none = absurd (none-some x none)
no_tag (x ∷ tags) (suc i) none = no_tag tags i none
