-- Values where types are wanted.
use Rattle.dj_names.specs.Types.{JType}
use Rattle.dj_syntax.specs.Trees.{Exp}
use Rattle.dj_values.specs.Values.{Value}
use Rattle.dj_meaning.specs.StaticTypes.{Context, Scope}
use Rattle.dj_meaning.specs.Runs.{Meaning, ◌>>=◌, fitted}
use Rattle.dj_meaning.specs.Expressions.{value}

-- the value of an expression where a type is wanted (JLS 5.2, 5.3)
abbrev pub value_to : Context → Scope → Exp → JType → Meaning Value
value_to context scope exp type = value context scope exp >>= fitted context.headers type
