-- The program's stack, which has its top last, seen from the top down; and how shuffles change it.
use Rattle.std.specs.Prelude.{Bool, true, false, if◌then◌else◌, List, [], ◌∷◌, ◌++◌, Option, Some, None}
use Rattle.dj_values.specs.declared.value.Value as code_value
use Rattle.dj_values.specs.Values.{Value}
use Rattle.dj_values.specs.Views.{view_value}
use Rattle.dj_bytecode.specs.Shuffles.{Form, has_words, takes_gives}
use Rattle.dj_operands.specs.declared.shuffles.Form as code_form
use Rattle.dj_operands.specs.declared.stack.Stack.{Stack}

-- values from the top down, the last item being on top
abbrev pub top_down : List code_value.Value → List Value
top_down [] = []
top_down (value ∷ rest) = top_down rest ++ view_value value ∷ []

-- the values of a stack, from the top down
abbrev pub stacked : Stack → List Value
stacked stack = top_down stack.values.items

-- a form of the program
abbrev pub view_form : code_form.Form → Form
view_form form = takes_gives form.takes.now form.gives.now

-- the first form that fits a stack
abbrev pub form_of : List Form → List Value → Option Form
form_of [] stack = None
form_of (form ∷ forms) stack = if has_words form.takes stack then Some form else form_of forms stack

-- the stack, where values of it were moved
abbrev pub as_shuffled : Bool → List Value → Option (List Value)
as_shuffled true new = Some new
as_shuffled false new = None
