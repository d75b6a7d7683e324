-- The statements of a tree of one block: none holds other statements, none jumps, and none calls another constructor of its object.
use Rattle.std.specs.Prelude.{◌≡◌, ℕ, Bool, true, false, ◌&&◌, Some, None}
use Rattle.dj_syntax.specs.Trees.{Stm, Block, Labelled, Declare, Set, SetField, SetStatic, SetElement, Run, If, While, Switch, Break, Continue, Return, Throw, Rethrow, Try, Synchronized, Construct, Do, For, Finally, Stms, Empty, And}
use Rattle.dj_meaning.specs.Ways.{all_ways}
use Rattle.dj_places.specs.Constants.{Surroundings}
use Rattle.dj_blocks_shown.specs.Leaving.{Parts}
use Rattle.dj_declare.specs.Breaking.{list_lacks}
use Rattle.dj_declare.specs.Escapes.{HaveNoTry}
use Rattle.dj_declaring.specs.Returning.{opening_call}
use Rattle.dj_one_block.specs.OneBlock.{lone_tree}

-- a statement by itself: it declares, assigns, evaluates, returns or throws
abbrev pub is_flat : Stm → Bool
is_flat (Block list) = false
is_flat (Labelled label statement) = false
is_flat (Declare variable kind initial) = true
is_flat (Set variable new) = true
is_flat (SetField object name new) = true
is_flat (SetStatic class name new) = true
is_flat (SetElement array index new) = true
is_flat (Run call) = true
is_flat (If test first second) = false
is_flat (While test body) = false
is_flat (Switch on cases) = false
is_flat (Break label) = false
is_flat (Continue label) = false
is_flat (Return result) = true
is_flat (Throw exception) = true
is_flat (Rethrow variable) = false
is_flat (Try body clauses) = false
is_flat (Synchronized monitor body) = false
is_flat (Construct own arguments) = false
is_flat (Do body test) = false
is_flat (For test variable step body) = false
is_flat (Finally body last) = false

-- so is each of these
abbrev pub are_flat : Stms → Bool
are_flat Empty = true
are_flat (And first rest) = is_flat first && are_flat rest

-- a flat tree has no `try` and no label, calls no other constructor, and no jump leaves it
pub record IsFlatTree (tree : Stms) : Type 0 where
  pub flat : are_flat tree ≡ true
  pub quiet : HaveNoTry tree
  pub lacks : (label : ℕ) → list_lacks label tree ≡ true
  pub plain : opening_call tree ≡ None
  pub closed : (label : ℕ) → (all_ways tree).jumps label ≡ false

-- the trees of methods of one block are flat
abbrev pub LoneTreesAreFlat : Type 0
LoneTreesAreFlat = (known : Surroundings) (parts : Parts) (tree : Stms) → lone_tree known parts ≡ Some tree → IsFlatTree tree
