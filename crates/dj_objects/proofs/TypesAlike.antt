-- The types of expressions rest on the headers, the members and the class alone.
use Rattle.std.proofs.Common.{◌≡◌, refl, ap, ◌∙◌}
use Rattle.std.specs.Prelude.{option_and_then, option_map}
use Rattle.dj_syntax.specs.Trees.{Exp, Text, Truth, This, Variable, ClassOf, Field, Static, Element, Call, StaticCall, SuperCall, New, NewArray, Cast, InstanceOf, Negative, Not, Binary, Choice, Assign, Exps, NoExps, AndExp}
use Rattle.dj_syntax.specs.Trees as trees
use Rattle.dj_values.specs.Fits.{element_of}
use Rattle.dj_meaning.specs.Promotions.{promoted, typing_of, result_type}
use Rattle.dj_meaning.specs.Fields.{selected}
use Rattle.dj_meaning.specs.Targets.{result}
use Rattle.dj_meaning.specs.StaticTypes.{Context, Scope, plain, typed, and_type, choice_type, selection_type, object_target, class_target, super_target, type_of, types_of}
use Rattle.dj_static.specs.Views.{context_in}
use Rattle.dj_objects.specs.declared.run.Method.{Method}
use Rattle.dj_objects.specs.Runs.{context_of}

module _ (method : Method) (scope : Scope) where
  abbrev alone : Context
  alone = context_in method.classes

  abbrev whole : Context
  whole = context_of method

  mutual
    pub type_alike : (exp : Exp) → type_of alone scope exp ≡ type_of whole scope exp
    type_alike (trees.Int number) = refl
    type_alike (trees.Long number) = refl
    type_alike (Text units) = refl
    type_alike (Truth known) = refl
    type_alike trees.Null = refl
    type_alike This = refl
    type_alike (Variable variable) = refl
    type_alike (ClassOf kind) = refl
    type_alike (Field object name) = ap (λ found. typed (option_map selection_type (option_and_then (selected whole.headers whole.members whole.class name) (plain found)))) (type_alike object)
    type_alike (Static class name) = refl
    type_alike (Element array index) = ap (λ found. typed (option_and_then element_of (plain found))) (type_alike array)
    type_alike (Call object name arguments) =
        ap (λ found. typed (option_and_then result (object_target whole name (plain found) (types_of alone scope arguments)))) (type_alike object)
        ∙ ap (λ found. typed (option_and_then result (object_target whole name (plain (type_of whole scope object)) found))) (types_alike arguments)
    type_alike (StaticCall class name arguments) = ap (λ found. typed (option_and_then result (class_target whole class name found))) (types_alike arguments)
    type_alike (SuperCall above name arguments) = ap (λ found. typed (option_and_then result (super_target whole above name found))) (types_alike arguments)
    type_alike (New class arguments) = refl
    type_alike (NewArray kind sizes more) = refl
    type_alike (Cast kind operand) = refl
    type_alike (InstanceOf operand kind) = refl
    type_alike (Negative operand) = ap (λ found. typed (option_and_then promoted (plain found))) (type_alike operand)
    type_alike (Not operand) = refl
    type_alike (Binary operator left right) =
        ap (λ found. typed (result_type (typing_of operator) (plain found) (plain (type_of alone scope right)))) (type_alike left)
        ∙ ap (λ found. typed (result_type (typing_of operator) (plain (type_of whole scope left)) (plain found))) (type_alike right)
    type_alike (Choice test first second) =
        ap (λ found. choice_type found (type_of alone scope second)) (type_alike first) ∙ ap (λ found. choice_type (type_of whole scope first) found) (type_alike second)
    type_alike (Assign variable assigned) = refl

    pub types_alike : (exps : Exps) → types_of alone scope exps ≡ types_of whole scope exps
    types_alike NoExps = refl
    types_alike (AndExp first rest) =
        ap (λ found. and_type found (types_of alone scope rest)) (type_alike first) ∙ ap (λ found. and_type (type_of whole scope first) found) (types_alike rest)
