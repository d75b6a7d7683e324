-- What comes of an operator's left operand, and of both, by how the operator goes about its operands (JLS 15.7, 15.23, 15.24).
use Rattle.std.specs.Prelude.{◌≡◌, Bool, true, false, List, Option, Some, None, Result, Ok, Err, IfSome, if◌then◌else◌}
use Rattle.dj_names.specs.declared.header.Header.{Header}
use Rattle.dj_values.specs.Values.{Value}
use Rattle.dj_values.specs.Views.{view_value}
use Rattle.dj_values.specs.Outcomes.{More, Reply, Gives, then_on, outside}
use Rattle.dj_meaning.specs.Operators.{Operator, Strict, After, is_wanted, truth, truth_of}
use Rattle.dj_meaning.specs.Runs.{Meaning, pure, stop, ◌>>=◌}
use Rattle.dj_outside.specs.declared.stop.Stop as code_stop
use Rattle.dj_outside.specs.Runs.{stop_of}
use Rattle.dj_evaluating.specs.declared.operands.Left as code_left
use Rattle.dj_evaluating.specs.declared.operands.Left.TheVariants as lefts

-- the answer of the left operand after which the right one is wanted, of an operator that looks at it first
abbrev pub after_answer : Operator → Option Bool
after_answer (Strict operation) = None
after_answer (After wanted) = Some wanted

-- a boolean, as the value of the operator
abbrev pub as_truth : Value → Reply Value
as_truth value = then_on (truth_of value) (λ last. Gives (truth last))

-- what an operator makes of both its operands' values, where it wants the right one
abbrev pub operation_in : Operator → Value → Value → Reply Value
operation_in (Strict operation) left right = operation left right
operation_in (After wanted) left right = as_truth right

-- what comes behind the answer of the left operand
abbrev pub behind_answer : List Header → Bool → Meaning Value → Bool → Meaning Value
behind_answer headers wanted right answer = if is_wanted wanted answer then (right >>= λ other. outside headers (as_truth other)) else pure (truth answer)

-- what comes behind the value of an operator's left operand, which goes no further where it becomes a float or double
abbrev pub behind_left : List Header → Operator → Bool → Value → Meaning Value → Meaning Value
behind_left headers (Strict operation) true value right = stop More
behind_left headers (Strict operation) false value right = right >>= λ other. outside headers (operation value other)
behind_left headers (After wanted) floats value right = outside headers (truth_of value) >>= behind_answer headers wanted right

-- what comes of the value of the left operand: the operator's value, a stop, or that the right one is wanted besides
abbrev pub IsBehindLeft : Operator → Bool → Value → Result code_left.Left code_stop.Stop → Type 0
IsBehindLeft form floats value (Ok (lefts.Gives given)) = (headers : List Header) (right : Meaning Value) → behind_left headers form floats value right ≡ pure (view_value given)
IsBehindLeft form floats value (Ok (lefts.Wants first)) =
    (headers : List Header) (right : Meaning Value) → behind_left headers form floats value right ≡ (right >>= λ other. outside headers (operation_in form (view_value first) other))
IsBehindLeft form floats value (Err why) = IfSome (stop_of why) (λ it. (headers : List Header) (right : Meaning Value) → behind_left headers form floats value right ≡ stop it)
