-- The ranges of the entries that have catchers, with the numbers of these (JVMS 2.10).
use Rattle.std.specs.Prelude.{ℕ, suc, Bool, ◌&&◌, nat_le, nat_lt, if◌then◌else◌, List, [], ◌∷◌, map, Option, Some, None, is_none}
use Rattle.dj_code.specs.declared.method_code.Handler.{Handler}
use Rattle.dj_code.specs.declared.method_code.Typed as code_typed
use Rattle.dj_code.specs.MethodCode.{view_typed}
use Rattle.dj_graph.specs.declared.graph.Catcher.{Catcher}
use Rattle.dj_graph.specs.declared.graph.Context.{Context}
use Rattle.dj_blocks_shown.specs.Leaving.{Parts}
use Rattle.dj_edges.specs.Split.{catcher_of}
use Rattle.dj_code_variables.specs.declared.vars.Vars as code_vars
use Rattle.dj_code_variables.specs.Views.{view_vars}
use Rattle.dj_split.specs.declared.catchers.Range.{Range}

-- a method's code by blocks, seen as plain data
abbrev pub parts_of : code_typed.Typed → List ℕ → code_vars.Vars → Parts
parts_of typed starts vars = record { typed = view_typed typed; starts = starts; vars = view_vars vars }

-- the range of an entry that has a catcher of this number, before those behind it
abbrev pub with_range : Option Catcher → Handler → ℕ → List Range → List Range
with_range None handler number rest = rest
with_range (Some catcher) handler number rest = record { start = handler.start; end = handler.end; all = is_none handler.class; catcher = number } ∷ rest

-- the number of the next catcher
abbrev pub number_behind : Option Catcher → ℕ → ℕ
number_behind None number = number
number_behind (Some catcher) number = suc number

-- those of entries, whose catchers have numbers from one on
abbrev pub ranges_of : Parts → List Handler → ℕ → List Range
ranges_of parts [] number = []
ranges_of parts (first ∷ rest) number = with_range (catcher_of parts first) first number (ranges_of parts rest (number_behind (catcher_of parts first) number))

-- whether a range has an offset
abbrev pub has : Range → ℕ → Bool
has range pc = nat_le range.start pc && nat_lt pc range.end

-- the catchers of what is thrown at an offset, up to and with the first that takes everything
abbrev pub numbers_at : List Range → ℕ → List ℕ
numbers_at [] pc = []
numbers_at (first ∷ rest) pc = if has first pc then first.catcher ∷ (if first.all then [] else numbers_at rest pc) else numbers_at rest pc

-- the handlers of contexts
abbrev pub handlers_of : List Context → List (List ℕ)
handlers_of = map (λ context. context.handlers.items)
