-- What statements declare, and where it is in scope (JLS 6.3, 6.4, 14.4, 14.20.1).
use Rattle.std.specs.Prelude.{is_some, Option, Some, None, if◌then◌else◌}
use Rattle.dj_names.specs.Types.{JType}
use Rattle.dj_syntax.specs.declared.variable.Var.{Var}
use Rattle.dj_syntax.specs.Trees.{Exp, Stm, Block, Labelled, Declare, Set, SetField, SetStatic, SetElement, Run, If, While, Switch, Throw, Rethrow, Try, Synchronized, Construct, Do, For, Finally, Stms, Empty, And}
use Rattle.dj_syntax.specs.Trees as trees
use Rattle.dj_values.specs.Values.{RefValue, Ref}
use Rattle.dj_meaning.specs.StaticTypes.{Context, Scope, with_type}
use Rattle.dj_meaning.specs.Runs.{Meaning, pure, stuck, ◌>>=◌, put, assigned, local}
use Rattle.dj_meaning.specs.Expressions.{value}
use Rattle.dj_meaning.specs.Completions.{Completion, Normal}

-- the variable that a statement of a list declares for the rest of it, and its type (6.3)
abbrev pub declared : Stm → Option (Var × JType)
declared (Block list) = None
declared (Labelled label statement) = None
declared (Declare variable kind initial) = Some (variable, kind)
declared (Set variable new) = None
declared (SetField object name new) = None
declared (SetStatic class name new) = None
declared (SetElement array index new) = None
declared (Run call) = None
declared (If test first second) = None
declared (While test body) = None
declared (Switch on cases) = None
declared (trees.Break label) = None
declared (trees.Continue label) = None
declared (trees.Return result) = None
declared (Throw exception) = None
declared (Rethrow variable) = None
declared (Try body clauses) = None
declared (Synchronized monitor body) = None
declared (Construct own arguments) = None
declared (Do body test) = None
declared (For test variable step body) = None
declared (Finally body last) = None

-- a scope with what is declared
abbrev pub within : Option (Var × JType) → Scope → Scope
within None scope = scope
within (Some one) scope = with_type one.0 one.1 scope

-- a scope as it is behind a list
abbrev pub behind : Stms → Scope → Scope
behind Empty scope = scope
behind (And first rest) scope = behind rest (within (declared first) scope)

-- two lists, one behind the other
abbrev pub joined : Stms → Stms → Stms
joined Empty second = second
joined (And first rest) second = And first (joined rest second)

-- what is declared is of this part alone
abbrev pub locally : Option (Var × JType) → Meaning Completion → Meaning Completion
locally None part = part
locally (Some one) part = local one.0 part

-- a variable that is declared has no value yet; one in scope isn't declared again (6.4)
abbrev pub opened : Scope → Var → Meaning (Unit {0})
opened scope variable = if is_some (scope variable) then stuck else put variable None

-- what a statement declares, where it is jumped over
abbrev pub passed_one : Scope → Option (Var × JType) → Meaning Completion → Meaning Completion
passed_one scope None next = next
passed_one scope (Some one) next = local one.0 (opened scope one.0 >>= λ done. next)

-- what a list declares, where it is jumped over
abbrev pub passed : Scope → Stms → Meaning Completion → Meaning Completion
passed scope Empty next = next
passed scope (And first rest) next = passed_one scope (declared first) (passed (within (declared first) scope) rest next)

-- the first value of a variable, evaluated in its own scope (6.3, 14.4)
abbrev pub initialised : Context → Scope → Var → Option Exp → Meaning Completion
initialised context scope variable None = pure Normal
initialised context scope variable (Some initial) = assigned context.headers scope variable (value context scope initial) >>= λ kept. pure Normal

-- a catch clause that takes an exception: its variable, which isn't in scope yet, has it (14.20.1)
abbrev pub caught : Scope → Var → RefValue → Meaning Completion → Meaning Completion
caught scope variable reference body = local variable (opened scope variable >>= λ done. put variable (Some (Ref reference)) >>= λ done. body)
