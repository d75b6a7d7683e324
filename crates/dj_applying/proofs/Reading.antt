-- An element that is read from an array of references.
use Rattle.std.proofs.Common.{◌≡◌, ℕ, List, [], ◌∷◌, Some, None, false, slice_get, sym}
use Rattle.std.specs.Prelude.{IsSome}
use Rattle.std.proofs.lemmas.Bool.{false≢true}
use Rattle.dj_names.specs.declared.header.Header.{Header}
use Rattle.dj_frames.specs.declared.tag.Tag as code
use Rattle.dj_frames.specs.Frames.{Tag, Int, view_tag, view_tags}
use Rattle.dj_code.specs.MethodCode.{Code}
use Rattle.dj_tags.specs.Goes.{Assignability, Working}
use Rattle.dj_effects.specs.Works.{Of, Elements}
use Rattle.dj_effects.specs.Operands.{AreWanted, enough, there, HasElement, element_tag}
use Rattle.dj_applying.specs.Done.{Did}

pub has_index : (Goes : Assignability) (stack : List Tag) → HasElement stack → AreWanted Goes (Of Int ∷ []) stack
has_index Goes [] has = absurd has
has_index Goes (index ∷ []) has = absurd has
has_index Goes (index ∷ array ∷ below) has = there has.0 enough

pub none_array : (stack : List code.Tag) → None ≡ slice_get stack 1 → HasElement (view_tags stack) → ⊥
none_array [] none has = has
none_array (index ∷ []) none has = has
none_array (index ∷ array ∷ below) none has = absurd (cc)

pub no_element : (stack : List code.Tag) (array : code.Tag) → Some array ≡ slice_get stack 1 → None ≡ element_tag (view_tag array) → HasElement (view_tags stack) → ⊥
no_element [] array is none has = has
no_element (index ∷ []) array is none has = has
no_element (index ∷ other ∷ below) array is none has =
    let same : array ≡ other = cc in
    let some : IsSome (element_tag (view_tag array)) = rw same has.1 in
    let no : element_tag (view_tag array) ≡ None = sym none in
    absurd (cc)

pub not_done : (Goes : Assignability) (headers : List Header) (code : Code) (pc : ℕ) (old new : Working) → (HasElement old.stack → ⊥) → Did Goes headers code pc Elements old false new
not_done Goes headers code pc old new none = record { operands = (λ yes. absurd (false≢true yes), λ has. absurd (none has)); effect = λ yes. absurd (false≢true yes) }
