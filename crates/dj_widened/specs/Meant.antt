-- What names mean in a class, where that class and those that are searched are whole.
use Rattle.std.specs.Prelude.{◌≡◌, List, [], ◌∷◌, true, Option, Some, None}
use Rattle.dj_names.specs.declared.header.Header.{Header}
use Rattle.dj_names.specs.Types.{JType, StaticType}
use Rattle.dj_kinds.specs.Choice.{Call}
use Rattle.dj_typing.specs.Sites.{is_whole, is_whole_type}
use Rattle.dj_typing.specs.Expressions.{is_whole_static}

-- the type that an expression goes through is whole, where there is one
abbrev pub IsThroughWhole : List Header → Option JType → Type 0
IsThroughWhole world None = Unit {0}
IsThroughWhole world (Some type) = is_whole_type world type ≡ true

-- each of these types is whole
abbrev pub AreAllWhole : List Header → List StaticType → Type 0
AreAllWhole world [] = Unit {0}
AreAllWhole world (first ∷ rest) = (is_whole_static world first ≡ true) × AreAllWhole world rest

-- a call stands in a whole class, searches one, and names whole classes by the types of its object and its arguments
pub record IsCallWhole (world : List Header) (call : Call) : Type 0 where
  pub from : is_whole world call.from ≡ true
  pub class : is_whole world call.class ≡ true
  pub through : IsThroughWhole world call.through
  pub arguments : AreAllWhole world call.arguments
