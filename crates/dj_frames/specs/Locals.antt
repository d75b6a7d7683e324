-- What is kept of the locals from frame to frame.
use Rattle.std.specs.Prelude.{◌≡◌, ℕ, List, [], ◌∷◌, ◌++◌, flat_map, Option, position}
use Rattle.dj_frames.specs.declared.tag.Tag.{Tag}
use Rattle.dj_frames.specs.Frames.{view_tags, slots_of, is_unborn_this}

-- values spread over their slots, and the place of the first that is UnbornThis
pub record IsSpread (values slots : List Tag) (unborn : Option ℕ) : Type 0 where
  pub spread : view_tags slots ≡ flat_map slots_of (view_tags values)
  pub first : unborn ≡ position is_unborn_this (view_tags values)

-- the values without the last one
pub record IsFront {A : Type 0} (front values : List A) : Type 0 where
  pub last : A
  pub is : values ≡ front ++ last ∷ []
