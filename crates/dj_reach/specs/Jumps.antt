-- Jumps: a break or a continue, with the label that it names (JLS 14.15, 14.16).
use Rattle.std.specs.Prelude.{ℕ, Bool, false, ◌||◌, ◌==◌, List, [], ◌∷◌}
use Rattle.dj_reach.specs.declared.jump.Jump.{Jump}
use Rattle.dj_reach.specs.declared.jump.Jump.TheVariants.{Break, Continue}

-- both are breaks, or both continues, and name one label
abbrev pub is_same_jump : Jump → Jump → Bool
is_same_jump (Break first) (Break second) = first == second
is_same_jump (Break first) (Continue second) = false
is_same_jump (Continue first) (Break second) = false
is_same_jump (Continue first) (Continue second) = first == second

-- it names this label
abbrev pub is_jump_to : ℕ → Jump → Bool
is_jump_to label (Break named) = named == label
is_jump_to label (Continue named) = named == label

-- it is one of these
abbrev pub is_one_of : Jump → List Jump → Bool
is_one_of wanted [] = false
is_one_of wanted (first ∷ rest) = is_same_jump first wanted || is_one_of wanted rest
