-- Methods that answer an int.
use Rattle.std.specs.Prelude.{◌≡◌, Some}
use Rattle.dj_names.specs.Types.{Descriptor, Field, Method, Int}

-- the descriptor of a method with the result int
abbrev pub AnswersInt : Descriptor → Type 0
AnswersInt (Field kind) = ⊥
AnswersInt (Method parameters result) = result ≡ Some Int
