-- The definition of the text at worked examples, by computation: a wrong definition is refused here.
use Rattle.std.proofs.Common.{◌≡◌, List, [], ◌∷◌, ◌++◌, Some, None, refl}
use Rattle.std.specs.Prelude.{codes}
use Rattle.std.specs.Fmt.{digits}
use Rattle.dj_names.specs.Types.{Int, Method}
use Rattle.dj_syntax.specs.declared.operator.Op.TheVariants as op
use Rattle.dj_syntax.specs.declared.variable.VarKind.TheVariants as kind
use Rattle.dj_syntax.specs.Trees.{Exp, Variable, Binary, Return, Empty, And, CompilationUnit}
use Rattle.dj_syntax.specs.Trees as trees
use Rattle.dj_syntax.specs.UnitText.{unit_text}

-- the class `C` with these methods
abbrev class_c : List trees.MethodText → CompilationUnit
class_c methods = record {
  «package» = None;
  flags = 0x0001;
  name = codes "C";
  superclass = None;
  interfaces = [];
  fields = [];
  helper = None;
  methods = methods;
}

-- `p0 - p1`
abbrev difference : Exp
difference = Binary op.Sub (Variable (record { kind = kind.Param; number = 0 })) (Variable (record { kind = kind.Param; number = 1 }))

-- `static int f(int, int)` that returns an expression
abbrev method_f : Exp → trees.MethodText
method_f value = record {
  flags = 0x0008;
  name = codes "f";
  descriptor = Method (Int ∷ Int ∷ []) (Some Int);
  thrown = [];
  body = Some (record {
    class = codes "C";
    flags = 0x0008;
    name = codes "f";
    descriptor = Method (Int ∷ Int ∷ []) (Some Int);
    thrown = [];
    statements = And (Return (Some value)) Empty;
  });
}

-- a class with one straight method
a_difference : unit_text (class_c (method_f difference ∷ []))
    ≡ codes "public class C {" ++ 10 ∷ codes "    static int f(int p0, int p1) {" ++ 10 ∷ codes "        return p0 - p1;" ++ 10 ∷ codes "    }" ++ 10 ∷ codes "}" ++ 10 ∷ []
unfolding unit_text digits
a_difference = refl

-- a class without members
no_member : unit_text (class_c []) ≡ codes "public class C {" ++ 10 ∷ codes "}" ++ 10 ∷ []
unfolding unit_text digits
no_member = refl
