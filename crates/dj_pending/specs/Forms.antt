-- Forms of the program, and which fits a stack.
use Rattle.std.specs.Prelude.{Bool, true, false, if◌then◌else◌, List, [], ◌∷◌, Option, Some, None}
use Rattle.dj_bytecode.specs.Shuffles.{Form, takes_gives}
use Rattle.dj_rebuilding.specs.Pending.{Pending}
use Rattle.dj_rebuilt.specs.Moving.{have_words}
use Rattle.dj_pending.specs.declared.moving.Form as code_form

-- a form of the program
abbrev pub view_form : code_form.Form → Form
view_form form = takes_gives form.takes.now form.gives.now

-- the first form that fits a stack
abbrev pub form_of : List Form → List Pending → Option Form
form_of [] stack = None
form_of (form ∷ forms) stack = if have_words form.takes stack then Some form else form_of forms stack

-- the stack, where entries of it were moved
abbrev pub as_shuffled : Bool → List Pending → Option (List Pending)
as_shuffled true new = Some new
as_shuffled false new = None
