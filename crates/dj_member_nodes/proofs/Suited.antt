-- The tests of operands pass where frames say that they may stand.
use Rattle.std.proofs.Common.{◌≡◌, true, is_some, IsSome, List, [], ◌∷◌, refl}
use Rattle.std.proofs.lemmas.Bool.{and_from, false≢true}
use Rattle.dj_names.specs.declared.header.Header.{Header}
use Rattle.dj_names.specs.Types as types
use Rattle.dj_names.specs.Types.{JType, Boolean, Byte, Char, Short, Float, Double, Class, Array, StaticType, Of}
use Rattle.dj_names.specs.Assignable.{IsReference, IsSubtype}
use Rattle.dj_values.specs.Fits.{int_range}
use Rattle.dj_values.specs.Deciding.{is_type, is_reference}
use Rattle.dj_frames.specs.Frames as tag
use Rattle.dj_frames.specs.Frames.{Tag, tag_of}
use Rattle.dj_tags.specs.Goes.{LocalGoes}
use Rattle.dj_tags.specs.Laxly.{Strictly}
use Rattle.dj_meaning.specs.Calls.{is_assignable}
use Rattle.dj_loaded.specs.Loaded.{HasPlainRoots}
use Rattle.dj_rebuilding.specs.Pending.{Typed}
use Rattle.dj_members_shown.specs.Suits.{Suits, IsRooted}
use Rattle.dj_members_shown.specs.Suits as suits
use Rattle.dj_members_shown.proofs.Replies.{reference-true}
use Rattle.dj_members_shown.proofs.Suiting.{suits-assignable}
use Rattle.dj_member_nodes.specs.Going.{fits_in, all_fit}
use Rattle.dj_member_nodes.specs.Suited.{AreSuitedTo, SuitedOperandsFit}

module _ (world : List Header) (roots : HasPlainRoots world) where
  -- where an int goes an int is wanted
  int-wanted : (to : JType) → LocalGoes (Strictly world) tag.Int (tag_of to) → is_some (int_range to) ≡ true
  int-wanted Boolean goes = refl
  int-wanted Byte goes = refl
  int-wanted Char goes = refl
  int-wanted Short goes = refl
  int-wanted types.Int goes = refl
  int-wanted types.Long goes = absurd (cc)
  int-wanted Float goes = absurd (cc)
  int-wanted Double goes = absurd (cc)
  int-wanted (Class name) goes = absurd goes
  int-wanted (Array element) goes = absurd goes

  long-wanted : (to : JType) → LocalGoes (Strictly world) tag.Long (tag_of to) → is_type types.Long to ≡ true
  long-wanted Boolean goes = absurd (cc)
  long-wanted Byte goes = absurd (cc)
  long-wanted Char goes = absurd (cc)
  long-wanted Short goes = absurd (cc)
  long-wanted types.Int goes = absurd (cc)
  long-wanted types.Long goes = refl
  long-wanted Float goes = absurd (cc)
  long-wanted Double goes = absurd (cc)
  long-wanted (Class name) goes = absurd goes
  long-wanted (Array element) goes = absurd goes

  null-wanted : (to : JType) → LocalGoes (Strictly world) tag.Null (tag_of to) → is_reference to ≡ true
  null-wanted Boolean goes = absurd (cc)
  null-wanted Byte goes = absurd (cc)
  null-wanted Char goes = absurd (cc)
  null-wanted Short goes = absurd (cc)
  null-wanted types.Int goes = absurd (cc)
  null-wanted types.Long goes = absurd (cc)
  null-wanted Float goes = absurd (cc)
  null-wanted Double goes = absurd (cc)
  null-wanted (Class name) goes = refl
  null-wanted (Array element) goes = refl

  object-wanted : (middle to : JType) → LocalGoes (Strictly world) (tag.Object middle) (tag_of to) → IsReference to × IsSubtype world middle to
  object-wanted middle Boolean goes = absurd (cc)
  object-wanted middle Byte goes = absurd (cc)
  object-wanted middle Char goes = absurd (cc)
  object-wanted middle Short goes = absurd (cc)
  object-wanted middle types.Int goes = absurd (cc)
  object-wanted middle types.Long goes = absurd (cc)
  object-wanted middle Float goes = absurd (cc)
  object-wanted middle Double goes = absurd (cc)
  object-wanted middle (Class name) goes = (tt, goes)
  object-wanted middle (Array element) goes = (tt, goes)

  int-fits : (type to : JType) → IsSome (int_range type) → is_some (int_range to) ≡ true → fits_in world (Of type) to ≡ true
  int-fits Boolean to is wanted = wanted
  int-fits Byte to is wanted = wanted
  int-fits Char to is wanted = wanted
  int-fits Short to is wanted = wanted
  int-fits types.Int to is wanted = wanted
  int-fits types.Long to is wanted = absurd (false≢true is)
  int-fits Float to is wanted = absurd (false≢true is)
  int-fits Double to is wanted = absurd (false≢true is)
  int-fits (Class name) to is wanted = absurd (false≢true is)
  int-fits (Array element) to is wanted = absurd (false≢true is)

  object-fits : (from to : JType) → IsReference from → is_reference to ≡ true → is_assignable world (Of from) to ≡ true → fits_in world (Of from) to ≡ true
  object-fits (Class name) to is wanted goes = and_from (is_reference to) (is_assignable world (Of (Class name)) to) wanted goes
  object-fits (Array element) to is wanted goes = and_from (is_reference to) (is_assignable world (Of (Array element)) to) wanted goes
  object-fits Boolean to is wanted goes = absurd is
  object-fits Byte to is wanted goes = absurd is
  object-fits Char to is wanted goes = absurd is
  object-fits Short to is wanted goes = absurd is
  object-fits types.Int to is wanted goes = absurd is
  object-fits types.Long to is wanted goes = absurd is
  object-fits Float to is wanted goes = absurd is
  object-fits Double to is wanted goes = absurd is

  pub suited-fits : (from : StaticType) (held : Tag) (to : JType) → IsRooted world from → Suits world from held → LocalGoes (Strictly world) held (tag_of to) → fits_in world from to ≡ true
  suited-fits from held to rooted (suits.int {type = type} is) goes = int-fits type to is (int-wanted to goes)
  suited-fits from held to rooted suits.long goes = long-wanted to goes
  suited-fits from held to rooted suits.null goes = null-wanted to goes
  suited-fits from held to rooted (suits.null_object {to = middle}) goes = reference-true to (object-wanted middle to goes).0
  suited-fits from held to rooted (suits.object {from = lower} {to = middle} is low) goes =
      let wanted = object-wanted middle to goes in
      object-fits lower to is (reference-true to wanted.0) (suits-assignable world roots (Of lower) middle to rooted (suits.object is low) wanted.0 wanted.1)

  pub all-suited-fit : (are : List Typed) (tags : List Tag) (tos : List JType) → AreSuitedTo world are tags tos → all_fit world are tos ≡ true
  all-suited-fit [] [] [] h = refl
  all-suited-fit [] [] (to ∷ tos) h = absurd h
  all-suited-fit [] (held ∷ tags) tos h = absurd h
  all-suited-fit (first ∷ rest) [] tos h = absurd h
  all-suited-fit (first ∷ rest) (held ∷ tags) [] h = absurd h
  all-suited-fit (first ∷ rest) (held ∷ tags) (to ∷ tos) h =
      and_from (fits_in world first.0 to) (all_fit world rest tos) (suited-fits first.0 held to h.0.0 h.0.1 h.0.2) (all-suited-fit rest tags tos h.1)

pub suited-operands-fit : SuitedOperandsFit
suited-operands-fit world roots = (suited-fits world roots, all-suited-fit world roots)
