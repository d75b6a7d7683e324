-- Trees as plain data, and the view of the code's trees (JLS 14, 15).
use Rattle.std.specs.Prelude.{ℕ, ℤ, Bool, true, false, List, [], ◌∷◌, map, Option, option_map}
use Rattle.dj_names.specs.Types.{JType, Descriptor, view_type, view_descriptor}
use Rattle.dj_syntax.specs.declared.operator.Op.{Op}
use Rattle.dj_syntax.specs.declared.variable.Var.{Var}
use Rattle.dj_syntax.specs.declared.expression.Exp as code_exp
use Rattle.dj_syntax.specs.declared.expression.Exp.TheOpen as exp_layers
use Rattle.dj_syntax.specs.declared.statement.Stm as code_stm
use Rattle.dj_syntax.specs.declared.statement.Stm.TheOpen as stm_layers
use Rattle.dj_syntax.specs.declared.statement.Group as code_group
use Rattle.dj_syntax.specs.declared.statement.Catch as code_catch
use Rattle.dj_syntax.specs.declared.unit.Unit as code_unit
use Rattle.dj_syntax.specs.declared.unit.FieldText as code_field
use Rattle.dj_syntax.specs.declared.unit.MethodText as code_method
use Rattle.dj_syntax.specs.declared.unit.Body as code_body

-- ---- expressions

mutual
  -- an expression; a field, an element or a call has its object or array first, a static one its class,
  -- a super call the interface before its `super`, where it has one; a new array the type of its innermost
  -- elements, its sizes and how many dimensions more it has
  pub data Exp : Type 0 where
    Int : ℤ → Exp
    Long : ℤ → Exp
    Text : List ℕ → Exp
    Truth : Bool → Exp
    Null : Exp
    This : Exp
    Variable : Var → Exp
    ClassOf : JType → Exp
    Field : Exp → List ℕ → Exp
    Static : List ℕ → List ℕ → Exp
    Element : Exp → Exp → Exp
    Call : Exp → List ℕ → Exps → Exp
    StaticCall : List ℕ → List ℕ → Exps → Exp
    SuperCall : Option (List ℕ) → List ℕ → Exps → Exp
    New : List ℕ → Exps → Exp
    NewArray : JType → Exps → ℕ → Exp
    Cast : JType → Exp → Exp
    InstanceOf : Exp → JType → Exp
    Negative : Exp → Exp
    Not : Exp → Exp
    Binary : Op → Exp → Exp → Exp
    Choice : Exp → Exp → Exp → Exp
    Assign : Var → Exp → Exp

  -- expressions, in order
  pub data Exps : Type 0 where
    NoExps : Exps
    AndExp : Exp → Exps → Exps

-- expressions of a list
abbrev pub exps_of : List Exp → Exps
exps_of [] = NoExps
exps_of (first ∷ rest) = AndExp first (exps_of rest)

-- one layer of an expression in the code, with its parts seen already
abbrev pub exp_layer : exp_layers.Exp-F Exp → Exp
exp_layer (exp_layers.Int value) = Int value
exp_layer (exp_layers.Long value) = Long value
exp_layer (exp_layers.Text units) = Text units
exp_layer (exp_layers.Bool value) = Truth value
exp_layer exp_layers.Null = Null
exp_layer exp_layers.This = This
exp_layer (exp_layers.Var variable) = Variable variable
exp_layer (exp_layers.ClassOf kind) = ClassOf (view_type kind)
exp_layer (exp_layers.Field object name) = Field object name
exp_layer (exp_layers.Static class name) = Static class name
exp_layer (exp_layers.Element array index) = Element array index
exp_layer (exp_layers.Call object name arguments) = Call object name (exps_of arguments)
exp_layer (exp_layers.StaticCall class name arguments) = StaticCall class name (exps_of arguments)
exp_layer (exp_layers.SuperCall above name arguments) = SuperCall above name (exps_of arguments)
exp_layer (exp_layers.New class arguments) = New class (exps_of arguments)
exp_layer (exp_layers.NewArray kind sizes more) = NewArray (view_type kind) (exps_of sizes) more
exp_layer (exp_layers.Cast kind operand) = Cast (view_type kind) operand
exp_layer (exp_layers.InstanceOf operand kind) = InstanceOf operand (view_type kind)
exp_layer (exp_layers.Negative operand) = Negative operand
exp_layer (exp_layers.Not operand) = Not operand
exp_layer (exp_layers.Binary op left right) = Binary op left right
exp_layer (exp_layers.Choice test first second) = Choice test first second
exp_layer (exp_layers.Assign variable value) = Assign variable value

-- an expression of the code, seen as plain data
abbrev pub view_exp : code_exp.Exp → Exp
view_exp = code_exp.fold-Exp Exp exp_layer

-- expressions of the code, in order
abbrev pub view_exps : List code_exp.Exp → Exps
view_exps list = exps_of (map view_exp list)

-- ---- statements

mutual
  -- a statement; a field store has its object, or its class, first; a `for` its test, the variable that it
  -- sets after each turn, and to what; a constructor call is that of this class, or of the one above
  pub data Stm : Type 0 where
    Block : Stms → Stm
    Labelled : ℕ → Stm → Stm
    Declare : Var → JType → Option Exp → Stm
    Set : Var → Exp → Stm
    SetField : Exp → List ℕ → Exp → Stm
    SetStatic : List ℕ → List ℕ → Exp → Stm
    SetElement : Exp → Exp → Exp → Stm
    Run : Exp → Stm
    If : Exp → Stms → Stms → Stm
    While : Exp → Stms → Stm
    Switch : Exp → Groups → Stm
    Break : ℕ → Stm
    Continue : ℕ → Stm
    Return : Option Exp → Stm
    Throw : Exp → Stm
    Rethrow : Var → Stm
    Try : Stms → Catches → Stm
    Synchronized : Exp → Stms → Stm
    Construct : Bool → Exps → Stm
    Do : Stms → Exp → Stm
    For : Exp → Var → Exp → Stms → Stm
    Finally : Stms → Stms → Stm

  -- statements, in order
  pub data Stms : Type 0 where
    Empty : Stms
    And : Stm → Stms → Stms

  -- the groups of a switch, each with its labels, None for `default`, and its statements
  pub data Groups : Type 0 where
    NoGroups : Groups
    AndGroup : List (Option ℤ) → Stms → Groups → Groups

  -- the catch clauses of a try, each with its class, its variable and its statements
  pub data Catches : Type 0 where
    NoCatches : Catches
    AndCatch : List ℕ → Var → Stms → Catches → Catches

-- a group by itself: its labels and its statements
abbrev pub Group : Type 0
Group = List (Option ℤ) × Stms

-- a catch clause by itself: its class, its variable and its statements
abbrev pub Catch : Type 0
Catch = List ℕ × Var × Stms

-- statements of a list
abbrev pub stms_of : List Stm → Stms
stms_of [] = Empty
stms_of (first ∷ rest) = And first (stms_of rest)

-- groups of a list
abbrev pub groups_of : List Group → Groups
groups_of [] = NoGroups
groups_of (first ∷ rest) = AndGroup first.0 first.1 (groups_of rest)

-- catch clauses of a list
abbrev pub catches_of : List Catch → Catches
catches_of [] = NoCatches
catches_of (first ∷ rest) = AndCatch first.0 first.1 first.2 (catches_of rest)

-- one layer of a statement in the code, with its parts seen already
abbrev pub stm_layer : stm_layers.Stm-F Stm Catch Group → Stm
stm_layer (stm_layers.Block list) = Block (stms_of list)
stm_layer (stm_layers.Labelled label statement) = Labelled label statement
stm_layer (stm_layers.Declare variable kind value) = Declare variable (view_type kind) (option_map view_exp value)
stm_layer (stm_layers.Set variable value) = Set variable (view_exp value)
stm_layer (stm_layers.SetField object name value) = SetField (view_exp object) name (view_exp value)
stm_layer (stm_layers.SetStatic class name value) = SetStatic class name (view_exp value)
stm_layer (stm_layers.SetElement array index value) = SetElement (view_exp array) (view_exp index) (view_exp value)
stm_layer (stm_layers.Run call) = Run (view_exp call)
stm_layer (stm_layers.If test first second) = If (view_exp test) (stms_of first) (stms_of second)
stm_layer (stm_layers.While test body) = While (view_exp test) (stms_of body)
stm_layer (stm_layers.Switch value groups) = Switch (view_exp value) (groups_of groups)
stm_layer (stm_layers.Break label) = Break label
stm_layer (stm_layers.Continue label) = Continue label
stm_layer (stm_layers.Return value) = Return (option_map view_exp value)
stm_layer (stm_layers.Throw value) = Throw (view_exp value)
stm_layer (stm_layers.Rethrow variable) = Rethrow variable
stm_layer (stm_layers.Try body catches) = Try (stms_of body) (catches_of catches)
stm_layer (stm_layers.Synchronized monitor body) = Synchronized (view_exp monitor) (stms_of body)
stm_layer (stm_layers.Construct own arguments) = Construct own (view_exps arguments)
stm_layer (stm_layers.Do body test) = Do (stms_of body) (view_exp test)
stm_layer (stm_layers.For test variable step body) = For (view_exp test) variable (view_exp step) (stms_of body)
stm_layer (stm_layers.Finally body last) = Finally (stms_of body) (stms_of last)

-- one layer of a group in the code, with its statements seen already
abbrev pub group_layer : stm_layers.Group-F Stm Catch Group → Group
group_layer group = (group.labels, stms_of group.body)

-- one layer of a catch clause in the code, with its statements seen already
abbrev pub catch_layer : stm_layers.Catch-F Stm Catch Group → Catch
catch_layer catch = (catch.class, catch.variable, stms_of catch.body)

-- a statement of the code, seen as plain data
abbrev pub view_stm : code_stm.Stm → Stm
view_stm = code_stm.fold-Stm Stm Catch Group stm_layer catch_layer group_layer

-- a group of the code, seen as plain data
abbrev pub view_group : code_group.Group → Group
view_group = code_group.fold-Group Stm Catch Group stm_layer catch_layer group_layer

-- a catch clause of the code, seen as plain data
abbrev pub view_catch : code_catch.Catch → Catch
view_catch = code_catch.fold-Catch Stm Catch Group stm_layer catch_layer group_layer

-- statements of the code, in order
abbrev pub view_stms : List code_stm.Stm → Stms
view_stms list = stms_of (map view_stm list)

-- groups of the code, in order
abbrev pub view_groups : List code_group.Group → Groups
view_groups list = groups_of (map view_group list)

-- catch clauses of the code, in order
abbrev pub view_catches : List code_catch.Catch → Catches
view_catches list = catches_of (map view_catch list)

-- ---- units

-- a body with the head of its method: class, flags, name, descriptor, thrown classes
pub record Body : Type 0 where
  pub class : List ℕ
  pub flags : ℕ
  pub name : List ℕ
  pub descriptor : Descriptor
  pub thrown : List (List ℕ)
  pub statements : Stms

-- a body of the code, seen as plain data
abbrev pub view_body : code_body.Body → Body
view_body body = record {
  class = body.class;
  flags = body.flags;
  name = body.name;
  descriptor = view_descriptor body.descriptor;
  thrown = body.thrown;
  statements = view_stms body.statements;
}

-- a field of a unit, with its value where the text has one
pub record FieldText : Type 0 where
  pub flags : ℕ
  pub kind : JType
  pub name : List ℕ
  pub value : Option Exp

-- a field of the code, seen as plain data
abbrev pub view_field : code_field.FieldText → FieldText
view_field field = record {
  flags = field.flags;
  kind = view_type field.kind;
  name = field.name;
  value = option_map view_exp field.value;
}

-- a method, constructor or static initialiser of a unit
pub record MethodText : Type 0 where
  pub flags : ℕ
  pub name : List ℕ
  pub descriptor : Descriptor
  pub thrown : List (List ℕ)
  pub body : Option Body

-- a method of the code, seen as plain data
abbrev pub view_method : code_method.MethodText → MethodText
view_method method = record {
  flags = method.flags;
  name = method.name;
  descriptor = view_descriptor method.descriptor;
  thrown = method.thrown;
  body = option_map view_body method.body;
}

-- a unit: its package, and its class or interface
pub record CompilationUnit : Type 0 where
  pub «package» : Option (List ℕ)
  pub flags : ℕ
  pub name : List ℕ
  pub superclass : Option (List ℕ)
  pub interfaces : List (List ℕ)
  pub fields : List FieldText
  pub helper : Option (List ℕ)
  pub methods : List MethodText

-- a unit of the code, seen as plain data
abbrev pub view_unit : code_unit.Unit → CompilationUnit
view_unit unit = record {
  «package» = unit.package;
  flags = unit.flags;
  name = unit.name;
  superclass = unit.superclass;
  interfaces = unit.interfaces;
  fields = map view_field unit.fields;
  helper = unit.helper;
  methods = map view_method unit.methods;
}
