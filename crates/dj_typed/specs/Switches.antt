-- The groups of a switch (JLS 14.11): each has a label, and all but the last a statement; no label stands twice.
use Rattle.std.specs.Prelude.{ℤ, Bool, true, false, not, ◌&&◌, ◌||◌, List, [], ◌∷◌, ◌++◌, Option}
use Rattle.dj_syntax.specs.StmText.{is_empty}
use Rattle.dj_syntax.specs.Trees.{Groups, NoGroups, AndGroup}
use Rattle.dj_syntax.specs.WellFormedTrees.{has_no_group}
use Rattle.dj_meaning.specs.Statements.{has_label}

-- a group has a label
abbrev pub has_some : List (Option ℤ) → Bool
has_some [] = false
has_some (label ∷ rest) = true

-- so has each, and each but the last has a statement
abbrev pub are_formed : Groups → Bool
are_formed NoGroups = true
are_formed (AndGroup labels body rest) = has_some labels && (not (is_empty body) || has_no_group rest) && are_formed rest

-- the labels of a switch, in order
abbrev pub labels_of : Groups → List (Option ℤ)
labels_of NoGroups = []
labels_of (AndGroup labels body rest) = labels ++ labels_of rest

-- none of these stands twice
abbrev pub are_distinct : List (Option ℤ) → Bool
are_distinct [] = true
are_distinct (label ∷ rest) = not (has_label label rest) && are_distinct rest
