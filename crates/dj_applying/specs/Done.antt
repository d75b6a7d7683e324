-- What was done to a frame.
use Rattle.std.specs.Prelude.{◌≡◌, ◌↔◌, ℕ, List, Bool, true}
use Rattle.dj_names.specs.declared.header.Header.{Header}
use Rattle.dj_code.specs.MethodCode.{Code}
use Rattle.dj_tags.specs.Goes.{Assignability, Working}
use Rattle.dj_effects.specs.Works.{Form, Work}
use Rattle.dj_effects.specs.Operands.{HasOperands}
use Rattle.dj_effects.specs.Effects.{effect}
use Rattle.dj_applying.specs.declared.forms.Form as code_form

-- a form of the code, seen as plain data
abbrev pub view_form : code_form.Form → Form
view_form form = record { takes = form.takes.now; gives = form.gives.now }

-- what was done to a frame: whether the operands were there, and then the effect
pub record Did (Goes : Assignability) (headers : List Header) (code : Code) (pc : ℕ) (work : Work) (old : Working) (done : Bool) (new : Working) : Type 0 where
  pub operands : (done ≡ true) ↔ HasOperands Goes headers code pc work old
  pub effect : done ≡ true → new ≡ effect code pc work old
