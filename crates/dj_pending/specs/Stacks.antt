-- The program's stack, which has its top last, seen from the top down.
use Rattle.std.specs.Prelude.{List, [], ◌∷◌, ◌++◌}
use Rattle.dj_rebuilding.specs.Pending.{Pending}
use Rattle.dj_pending.specs.declared.entry.Entry as code_entry
use Rattle.dj_pending.specs.declared.stack.Stack.{Stack}
use Rattle.dj_pending.specs.Entries.{view_entry}

-- entries from the top down, the last item being on top
abbrev pub top_down : List code_entry.Entry → List Pending
top_down [] = []
top_down (entry ∷ rest) = top_down rest ++ view_entry entry ∷ []

-- the entries of a stack, from the top down
abbrev pub stacked : Stack → List Pending
stacked stack = top_down stack.entries.items
