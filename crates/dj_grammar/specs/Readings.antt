-- How far an expression is read (JLS 15).
use Rattle.std.specs.Prelude.{ℕ, List, [], ◌∷◌, Option, Some, None, option_map}
use Rattle.dj_names.specs.Types.{JType}
use Rattle.dj_syntax.specs.declared.variable.Var.{Var}
use Rattle.dj_syntax.specs.Trees.{Exp, InstanceOf, NewArray, exps_of}
use Rattle.dj_tokens.specs.Dotted.{DottedName, value_of, type_of_name}
use Rattle.dj_grammar.specs.Frames.{Callee, Joint, Negated, Pending, Joins, collapsed, called, testing}

-- How far an expression is read, with what is open around it, from the innermost out: an operand is wanted; it is
-- behind a minus sign; a parenthesis is to be passed over first; a name stands, or a name and a dot; a type with
-- brackets stands; a new array; a call; a declaration's type and variable; a value and a dot; a value; the words
-- before a call of the helper are passed over; or no expression has these words.
pub data Reading : Type 0 where
  Wanted : List Pending → Reading
  Negation : List Pending → Reading
  Head : List Pending → Reading
  Named : DottedName → List Pending → Reading
  Behind : DottedName → List Pending → Reading
  Typed : JType → List Pending → Reading
  Sized : JType → List Exp → ℕ → List Pending → Reading
  Called : Callee → List Exp → List Pending → Reading
  Declared : JType → Var → List Pending → Reading
  Selecting : Exp → List Pending → Reading
  Stands : Exp → List Pending → Reading
  Helping : List Pending → Reading
  Lost : Reading

-- what is open where an operand is wanted, with this in place of a minus sign
abbrev pub wanted : Joint → Reading → Option (List Pending)
wanted minus (Wanted pending) = Some pending
wanted minus (Negation pending) = Some (Joins minus ∷ pending)
wanted minus (Head pending) = None
wanted minus (Named name pending) = None
wanted minus (Behind name pending) = None
wanted minus (Typed kind pending) = None
wanted minus (Sized kind sizes more pending) = None
wanted minus (Called callee arguments pending) = None
wanted minus (Declared kind variable pending) = None
wanted minus (Selecting object pending) = None
wanted minus (Stands value pending) = None
wanted minus (Helping pending) = None
wanted minus Lost = None

-- the value of a name, or the type test that it ends
abbrev pub named_value : DottedName → List Pending → Option (Exp × List Pending) → Exp × List Pending
named_value name pending None = (value_of name, pending)
named_value name pending (Some (operand, outer)) = (InstanceOf operand (type_of_name name), outer)

-- the value that stands, where one does, and what is open around it
abbrev pub standing : Reading → Option (Exp × List Pending)
standing (Wanted pending) = None
standing (Negation pending) = None
standing (Head pending) = None
standing (Named name pending) = Some (named_value name pending (testing pending))
standing (Behind name pending) = None
standing (Typed kind pending) = option_map (λ test. (InstanceOf test.0 kind, test.1)) (testing pending)
standing (Sized kind sizes more pending) = Some (NewArray kind (exps_of sizes) more, pending)
standing (Called callee arguments pending) = Some (called callee (exps_of arguments), pending)
standing (Declared kind variable pending) = None
standing (Selecting object pending) = None
standing (Stands value pending) = Some (value, pending)
standing (Helping pending) = None
standing Lost = None

-- the expression that ends here, where one does, and what is open around it
abbrev pub ended : Reading → Option (Exp × List Pending)
ended reading = option_map (λ stands. collapsed stands.0 stands.1) (standing reading)

-- what is open where an operand is wanted
abbrev pub wanted_open : Reading → Option (List Pending)
wanted_open (Wanted pending) = Some pending
wanted_open (Negation pending) = None
wanted_open (Head pending) = None
wanted_open (Named name pending) = None
wanted_open (Behind name pending) = None
wanted_open (Typed kind pending) = None
wanted_open (Sized kind sizes more pending) = None
wanted_open (Called callee arguments pending) = None
wanted_open (Declared kind variable pending) = None
wanted_open (Selecting object pending) = None
wanted_open (Stands value pending) = None
wanted_open (Helping pending) = None
wanted_open Lost = None
