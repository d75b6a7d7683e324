-- The text of trees at worked examples, by computation: a wrong definition is refused here.
use Rattle.std.proofs.Common.{◌≡◌, ℕ, pos, negsuc, Bool, true, false, List, [], ◌∷◌, ◌++◌, map, Option, Some, None, refl}
use Rattle.std.specs.Prelude.{codes}
use Rattle.std.specs.Fmt.{digits}
use Rattle.dj_names.specs.Types.{JType, Class, Array}
use Rattle.dj_names.specs.Types as types
use Rattle.dj_syntax.specs.declared.operator.Op.TheVariants as op
use Rattle.dj_syntax.specs.declared.variable.Var.{Var}
use Rattle.dj_syntax.specs.declared.variable.VarKind.TheVariants as kind
use Rattle.dj_syntax.specs.Trees.{Exp, Int, Long, Text, Truth, Null, This, Variable, ClassOf, Field, Static, Element, Call, StaticCall, SuperCall, New, NewArray, Cast, InstanceOf, Negative, Not, Binary, Choice, Assign, exps_of, Stm, Block, Labelled, Declare, Set, SetField, SetStatic, SetElement, Run, If, While, Switch, Break, Continue, Return, Throw, Rethrow, Try, Synchronized, Construct, Do, For, Finally, stms_of, groups_of, catches_of}
use Rattle.dj_syntax.specs.Items.{render}
use Rattle.dj_syntax.specs.UnitText.{Spellings, dotted, exp_items, stms_items}

-- names in the class `a.C` with the helper `rethrow$0`
abbrev names : Spellings
names = record { class_name = dotted; own = codes "C"; class = codes "a/C"; helper = codes "rethrow$0" }

-- `p0`
abbrev p0 : Exp
p0 = Variable (record { kind = kind.Param; number = 0 })

-- `v12`
abbrev v12 : Var
v12 = record { kind = kind.Local; number = 12 }

-- `e0`
abbrev e0 : Var
e0 = record { kind = kind.Caught; number = 0 }

-- `1`
abbrev one : Exp
one = Int (pos 1)

-- `a.B.c`
abbrev static_field : Exp
static_field = Static (codes "a/B") (codes "c")

-- `p0 + 1`
abbrev sum : Exp
sum = Binary op.Add p0 one

-- the texts of expressions
abbrev texts : List Exp → List (List ℕ)
texts list = map (λ one. render (exp_items names one)) list

atoms : texts (Int (negsuc 4) ∷ Long (pos 5) ∷ Long (negsuc 0) ∷ Truth true ∷ Truth false ∷ Null ∷ This ∷ p0 ∷ ClassOf (Array types.Int) ∷ static_field ∷ [])
    ≡ codes "-5" ∷ codes "5L" ∷ codes "-1L" ∷ codes "true" ∷ codes "false" ∷ codes "null" ∷ codes "this" ∷ codes "p0" ∷ codes "int[].class" ∷ codes "a.B.c" ∷ []
unfolding digits
atoms = refl

-- escapes of string literals
quoted : texts (Text [] ∷ Text (8 ∷ 9 ∷ 10 ∷ 12 ∷ 13 ∷ 34 ∷ 92 ∷ []) ∷ Text (39 ∷ 32 ∷ 126 ∷ 127 ∷ 11 ∷ 0xdead ∷ []) ∷ [])
    ≡ (34 ∷ 34 ∷ []) ∷ (34 ∷ 92 ∷ 98 ∷ 92 ∷ 116 ∷ 92 ∷ 110 ∷ 92 ∷ 102 ∷ 92 ∷ 114 ∷ 92 ∷ 34 ∷ 92 ∷ 92 ∷ 34 ∷ [])
    ∷ (34 ∷ (codes "' ~" ++ 92 ∷ (codes "u007f" ++ 92 ∷ (codes "u000b" ++ 92 ∷ (codes "udead" ++ 34 ∷ []))))) ∷ []
unfolding digits
quoted = refl

-- what stands in front of a dot or of an index
receivers : texts (Field p0 (codes "f") ∷ Field static_field (codes "f") ∷ Field sum (codes "f") ∷ Element static_field one ∷ Element (Cast (Array types.Int) p0) sum
    ∷ Call static_field (codes "m") (exps_of []) ∷ Call This (codes "m") (exps_of (one ∷ sum ∷ [])) ∷ StaticCall (codes "a/B") (codes "m") (exps_of (one ∷ [])) ∷ [])
    ≡ codes "p0.f" ∷ codes "(a.B.c).f" ∷ codes "(p0 + 1).f" ∷ codes "a.B.c[1]" ∷ codes "((int[]) p0)[p0 + 1]"
    ∷ codes "(a.B.c).m()" ∷ codes "this.m(1, p0 + 1)" ∷ codes "a.B.m(1)" ∷ []
unfolding digits
receivers = refl

-- calls above, new objects and new arrays
created : texts (SuperCall None (codes "m") (exps_of []) ∷ SuperCall (Some (codes "a/I")) (codes "m") (exps_of (one ∷ [])) ∷ New (codes "a/B") (exps_of (sum ∷ Null ∷ []))
    ∷ Call (New (codes "a/B") (exps_of [])) (codes "m") (exps_of []) ∷ NewArray types.Byte (exps_of (one ∷ sum ∷ [])) 1 ∷ NewArray (Class (codes "a/B")) (exps_of (one ∷ [])) 0 ∷ [])
    ≡ codes "super.m()" ∷ codes "a.I.super.m(1)" ∷ codes "new a.B(p0 + 1, null)" ∷ codes "(new a.B()).m()" ∷ codes "new byte[1][p0 + 1][]" ∷ codes "new a.B[1]" ∷ []
unfolding digits
created = refl

-- operators and their operands
operators : texts (Cast types.Int sum ∷ Cast types.Long (Int (negsuc 4)) ∷ InstanceOf p0 (Class (codes "a/B")) ∷ InstanceOf (Assign v12 p0) (Array types.Char)
    ∷ Negative one ∷ Negative (Int (negsuc 4)) ∷ Negative (Long (pos 5)) ∷ Negative p0 ∷ Negative static_field ∷ Not (Truth true) ∷ Not (Not p0)
    ∷ Binary op.Mul (Int (negsuc 4)) sum ∷ Binary op.Ushr one p0 ∷ Choice p0 one sum ∷ Choice (Binary op.Lt p0 one) (Choice p0 one one) Null ∷ Assign v12 (Assign v12 one) ∷ [])
    ≡ codes "(int) (p0 + 1)" ∷ codes "(long) (-5)" ∷ codes "p0 instanceof a.B" ∷ codes "(v12 = p0) instanceof char[]"
    ∷ codes "-(1)" ∷ codes "-(-5)" ∷ codes "-(5L)" ∷ codes "-p0" ∷ codes "-a.B.c" ∷ codes "!true" ∷ codes "!(!p0)"
    ∷ codes "(-5) * (p0 + 1)" ∷ codes "1 >>> p0" ∷ codes "p0 ? 1 : (p0 + 1)" ∷ codes "(p0 < 1) ? (p0 ? 1 : 1) : null" ∷ codes "v12 = v12 = 1" ∷ []
unfolding digits
operators = refl

-- ---- statements

-- a list of statements at level 1 has this text, each line behind its end
abbrev Lines : List Stm → List (List ℕ) → Type 0
Lines list lines = render (stms_items names 1 (stms_of list)) ≡ text lines
  where
    text : List (List ℕ) → List ℕ
    text [] = []
    text (line ∷ rest) = 10 ∷ (line ++ text rest)

simple_statements : Lines
    (Declare v12 types.Int None ∷ Declare v12 (Array types.Int) (Some Null) ∷ Set v12 sum ∷ SetField p0 (codes "f") one ∷ SetField static_field (codes "f") one
    ∷ SetStatic (codes "a/B") (codes "c") one ∷ SetElement static_field p0 one ∷ Run (StaticCall (codes "a/B") (codes "m") (exps_of [])) ∷ Break 3 ∷ Continue 3
    ∷ Return None ∷ Return (Some sum) ∷ Throw p0 ∷ Rethrow e0 ∷ Construct true (exps_of (one ∷ p0 ∷ [])) ∷ Construct false (exps_of []) ∷ [])
    (codes "    int v12;" ∷ codes "    int[] v12 = null;" ∷ codes "    v12 = p0 + 1;" ∷ codes "    p0.f = 1;" ∷ codes "    (a.B.c).f = 1;"
    ∷ codes "    a.B.c = 1;" ∷ codes "    a.B.c[p0] = 1;" ∷ codes "    a.B.m();" ∷ codes "    break l3;" ∷ codes "    continue l3;"
    ∷ codes "    return;" ∷ codes "    return p0 + 1;" ∷ codes "    throw p0;" ∷ codes "    throw a.C.<java.lang.RuntimeException>rethrow$0(e0);" ∷ codes "    this(1, p0);" ∷ codes "    super();" ∷ [])
unfolding digits
simple_statements = refl

blocks : Lines
    (Block (stms_of []) ∷ Block (stms_of (Return None ∷ [])) ∷ Labelled 3 (While p0 (stms_of [])) ∷ If p0 (stms_of []) (stms_of [])
    ∷ If p0 (stms_of (Return None ∷ [])) (stms_of (Block (stms_of []) ∷ [])) ∷ If p0 (stms_of []) (stms_of (Return None ∷ [])) ∷ [])
    (codes "    {" ∷ codes "    }" ∷ codes "    {" ∷ codes "        return;" ∷ codes "    }" ∷ codes "    l3: while (p0) {" ∷ codes "    }" ∷ codes "    if (p0) {" ∷ codes "    }"
    ∷ codes "    if (p0) {" ∷ codes "        return;" ∷ codes "    } else {" ∷ codes "        {" ∷ codes "        }" ∷ codes "    }" ∷ codes "    if (p0) {" ∷ codes "    } else {" ∷ codes "        return;" ∷ codes "    }" ∷ [])
unfolding digits
blocks = refl

a_switch : Lines
    (Switch p0 (groups_of ((Some (negsuc 0) ∷ Some (pos 5) ∷ [], stms_of (Break 3 ∷ [])) ∷ (None ∷ [], stms_of []) ∷ [])) ∷ [])
    (codes "    switch (p0) {" ∷ codes "        case -1:" ∷ codes "        case 5:" ∷ codes "            break l3;" ∷ codes "        default:" ∷ codes "    }" ∷ [])
unfolding digits
a_switch = refl

handled : Lines
    (Try (stms_of (Return None ∷ [])) (catches_of ((codes "a/B", e0, stms_of (Throw (Variable e0) ∷ [])) ∷ (codes "X", e0, stms_of []) ∷ []))
    ∷ Finally (stms_of []) (stms_of (Return None ∷ [])) ∷ Synchronized This (stms_of (Return None ∷ [])) ∷ [])
    (codes "    try {" ∷ codes "        return;" ∷ codes "    } catch (a.B e0) {" ∷ codes "        throw e0;" ∷ codes "    } catch (X e0) {" ∷ codes "    }"
    ∷ codes "    try {" ∷ codes "    } finally {" ∷ codes "        return;" ∷ codes "    }" ∷ codes "    synchronized (this) {" ∷ codes "        return;" ∷ codes "    }" ∷ [])
unfolding digits
handled = refl

loops : Lines
    (Do (stms_of (Break 3 ∷ [])) (Binary op.Lt p0 one) ∷ Labelled 4 (For p0 v12 (Binary op.Add (Variable v12) one) (stms_of (Continue 4 ∷ []))) ∷ [])
    (codes "    do {" ∷ codes "        break l3;" ∷ codes "    } while (p0 < 1);" ∷ codes "    l4: for (; p0; v12 = v12 + 1) {" ∷ codes "        continue l4;" ∷ codes "    }" ∷ [])
unfolding digits
loops = refl
