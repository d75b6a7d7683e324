-- Which methods of a class are straight, where each other one breaks, and the body that a straight one is printed with.
use Rattle.std.specs.Prelude.{◌≡◌, ℕ, ◌≤◌, ◌==◌, Bool, false, not, IsTrue, IsBitSet, List, [], Some, None, replicate, bit_and}
use Rattle.std.specs.List.{Any}
use Rattle.dj_names.specs.Types.{JType, Int, Method, parameters_of}
use Rattle.dj_names.specs.Identifiers.{IsIdentifier}
use Rattle.dj_syntax.specs.Trees.{Exp, Return, And, Empty, Body, MethodText}
use Rattle.dj_syntax.specs.UnitText.{is_interface}
use Rattle.dj_syntax.specs.WellFormed.{held_method}
use Rattle.dj_class.specs.Described.{ClassOf, MethodOf}
use Rattle.dj_code.specs.MethodCode.{Code}
use Rattle.dj_code.specs.ReadCode.{SpellsCode}
use Rattle.dj_values.specs.Fits.{is_static}
use Rattle.dj_straight.specs.Straight.{Formula, exp_of, IsStraightCode, BreaksAt}

-- a method has this name and these parameter types, whatever its result (JLS 8.4.2)
pub record HasSignature (name : List ℕ) (parameters : List JType) (method : MethodOf) : Type 0 where
  pub same_name : method.name ≡ name
  pub same_parameters : parameters_of method.descriptor ≡ parameters

-- one of these methods has this name and these parameter types
abbrev pub IsDeclared : List MethodOf → List ℕ → List JType → Type 0
IsDeclared methods name parameters = Any (HasSignature name parameters) methods

-- code has no handlers and no frames, and a local for each parameter
pub record IsPlainCode (parameters : ℕ) (code : Code) : Type 0 where
  pub no_handler : code.handlers ≡ []
  pub no_frames : code.frames ≡ []
  pub locals : parameters ≤ code.max_locals

-- ACC_PUBLIC, 0x0001 (JVMS table 4.6-A)
abbrev pub is_public : ℕ → Bool
is_public flags = not (bit_and flags 0x0001 == 0)

-- What a method needs before its instructions are looked at, those before it in the file given. Java can say its
-- name, and none before it has its name and parameter types; it is static, public in an interface (JLS 9.4), and no
-- bridge, which would stand beside the method that it stands for (ACC_BRIDGE, 0x0040; JVMS 4.6); it takes so many
-- ints and answers an int.
pub record IsCandidate (class : ClassOf) (before : List MethodOf) (method : MethodOf) (parameters : ℕ) (code : Code) : Type 0 where
  pub name : IsIdentifier method.name
  pub static : IsTrue (is_static method.flags)
  pub public : IsTrue (is_interface class.flags) → IsTrue (is_public method.flags)
  pub no_bridge : ¬ IsBitSet method.flags 6
  pub thrown : method.thrown ≡ []
  pub first : ¬ IsDeclared before method.name (parameters_of method.descriptor)
  pub descriptor : method.descriptor ≡ Method (replicate parameters Int) (Some Int)
  pub plain : IsPlainCode parameters code

-- a candidate whose code is one expression that it returns
pub record IsStraightMethod (class : ClassOf) (before : List MethodOf) (method : MethodOf) (exp : Exp) : Type 0 where
  pub parameters : ℕ
  pub code : Code
  pub spelled : SpellsCode class method code
  pub candidate : IsCandidate class before method parameters code
  pub formula : Formula
  pub postfix : IsStraightCode parameters code.max_stack spelled.content.code code.instructions formula
  pub tree : exp ≡ exp_of formula

-- the offset at which a method isn't straight: 0 where it has no code or is no candidate, else where its code breaks
pub data IsNotYet (class : ClassOf) (before : List MethodOf) (method : MethodOf) : ℕ → Type 0 where
  no_code : method.code ≡ None → IsNotYet class before method 0
  no_candidate : {code : Code} → SpellsCode class method code → ((parameters : ℕ) → ¬ IsCandidate class before method parameters code) → IsNotYet class before method 0
  breaks : {parameters : ℕ} {code : Code} {pc : ℕ} → (spelled : SpellsCode class method code) → IsCandidate class before method parameters code
      → BreaksAt parameters code.max_stack spelled.content.code code.instructions pc → IsNotYet class before method pc

-- a method with a body, and all flags of its file
abbrev pub with_body : MethodOf → Body → MethodText
with_body method body = record { flags = method.flags; name = method.name; descriptor = method.descriptor; thrown = method.thrown; body = Some body }

-- the body of a straight method: the head of its method, with the flags that its text gives back, and one `return` of its expression
pub record IsBodyOf (owner : ClassOf) (method : MethodOf) (exp : Exp) (body : Body) : Type 0 where
  pub class : body.class ≡ owner.this_class
  pub flags : body.flags ≡ held_method (is_interface owner.flags) (with_body method body)
  pub name : body.name ≡ method.name
  pub descriptor : body.descriptor ≡ method.descriptor
  pub thrown : body.thrown ≡ method.thrown
  pub returns : body.statements ≡ And (Return (Some exp)) Empty
