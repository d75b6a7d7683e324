-- Expressions of the program with their levels, seen as plain data.
use Rattle.dj_syntax.specs.Trees.{Exp, view_exp}
use Rattle.dj_pending.specs.declared.tree.Tree.{Tree}

-- a tree as its expression
abbrev pub view_tree : Tree → Exp
view_tree tree = view_exp tree.exp
