-- Which body is printed of a method whose code is one block (JVMS 2.11, JLS 8.4, 14), and where or why none is had yet.
use Rattle.std.specs.Prelude.{◌≡◌, ◌≢◌, ◌↔◌, ℕ, ◌≤◌, Bool, true, false, ◌||◌, if◌then◌else◌, List, [], ◌∷◌, Option, Some, None, Contains, bit_and, bit_or, slice_get}
use Rattle.std.specs.List.{AllByRecursion}
use Rattle.dj_names.specs.MethodNames.{is_constructor}
use Rattle.dj_syntax.specs.Trees.{Body, MethodText}
use Rattle.dj_syntax.specs.UnitText.{is_initialiser, method_bits}
use Rattle.dj_syntax.specs.WellFormed.{HasMethodName, IsMethodDescriptor, IsQualified, AreWellFormedStms}
use Rattle.dj_class.specs.Described.{ClassOf, MethodOf}
use Rattle.dj_world.specs.Worlds.{WorldOf, IsWorld}
use Rattle.dj_instructions.specs.Instructions.{Instruction, Instructions}
use Rattle.dj_code.specs.declared.method_code.Handler.{Handler}
use Rattle.dj_code.specs.MethodCode.{Code, Typed}
use Rattle.dj_code.specs.ReadCode.{SpellsCode}
use Rattle.dj_tags.specs.Laxly.{Laxly}
use Rattle.dj_verify.specs.Verified.{IsTyped as IsTypedCode}
use Rattle.dj_starts.specs.declared.control.Control.{Control}
use Rattle.dj_starts.specs.declared.control.Control.TheVariants as leaves
use Rattle.dj_starts.specs.Control.{control_of}
use Rattle.dj_starts.specs.Starts.{in_range, IsBlockStart}
use Rattle.dj_places.specs.Rules.{Holds}
use Rattle.dj_thrown.specs.Bodies.{body_thrown}
use Rattle.dj_typed.specs.Bodies.{IsTyped}
use Rattle.dj_bytecode.specs.SameShows.{SameShows}
use Rattle.dj_method_causes.specs.Telling.{HasNoCause, IsUntold}
use Rattle.dj_vars.specs.Naming.{Vars, AreVars}
use Rattle.dj_blocks_shown.specs.Leaving.{Parts}
use Rattle.dj_one_block_shown.specs.Shown.{printed_lone}
use Rattle.dj_given.specs.Given.{CallsNoOwn}
use Rattle.dj_known_world.specs.Known.{is_known_world}

-- ---- what keeps code from being one block

-- an instruction that control leaves so is a jump, a switch, or one of monitors
abbrev pub is_jump : Control → Bool
is_jump leaves.On = false
is_jump leaves.OnOrThrown = false
is_jump leaves.Branch = true
is_jump leaves.Jump = true
is_jump leaves.Return = false
is_jump leaves.Throw = false
is_jump leaves.Enter = true
is_jump leaves.Exit = true

-- an instruction is one, or an exception range has it
abbrev pub is_barred : List Handler → ℕ × Instruction → Bool
is_barred handlers at = is_jump (control_of at.1) || in_range handlers at.0

-- the offset of the first such one
abbrev pub first_barred : List Handler → Instructions → Option ℕ
first_barred handlers [] = None
first_barred handlers (at ∷ rest) = if is_barred handlers at then Some at.0 else first_barred handlers rest

-- one block begins, at 0
abbrev pub IsOneBlock : Typed → Type 0
IsOneBlock typed = (pc : ℕ) → Contains (0 ∷ []) pc ↔ IsBlockStart typed pc

-- ---- the body

-- code that is one block, with its variables
abbrev pub lone_parts : Typed → Vars → Parts
lone_parts typed vars = record { typed = typed; starts = 0 ∷ []; vars = vars }

-- the flags that the text of a method with this code gives back
abbrev pub held_flags : Code → ℕ
held_flags code = if is_initialiser code.name then 0x0008 else bit_or (bit_and code.flags (method_bits code.interface)) (if code.interface then 0x0001 else 0)

-- a body with these
abbrev pub with_held_flags : Code → Body → Body
with_held_flags code body = record body { flags = held_flags code }

-- the text of a method with a body, which has its head
abbrev pub text_of : Body → MethodText
text_of body = record { flags = body.flags; name = body.name; descriptor = body.descriptor; thrown = body.thrown; body = Some body }

-- a body can be written, in a unit with a helper and in one without
pub record IsWritable (body : Body) : Type 0 where
  pub name : HasMethodName (text_of body)
  pub descriptor : IsMethodDescriptor body.descriptor
  pub thrown : AllByRecursion IsQualified body.thrown
  pub statements : (helper : Bool) → AreWellFormedStms helper body.statements

-- in a world of which enough is known, code has no instruction that is barred, catches nothing, isn't that of a constructor, and calls none on `this`
pub record IsCandidate (world : WorldOf) (typed : Typed) : Type 0 where
  pub known : is_known_world world.headers world.members ≡ true
  pub straight : first_barred typed.code.handlers typed.code.instructions ≡ None
  pub uncaught : typed.code.handlers ≡ []
  pub plain : is_constructor typed.code.name ≡ false
  pub unowned : CallsNoOwn typed
  pub locals : typed.code.max_locals ≤ 65535

-- the body that is printed of a method with such code, which is one block; what it throws may leave it, and it can be written
pub record IsDecompiled (world : WorldOf) (typed : Typed) (body : Body) : Type 0 where
  pub candidate : IsCandidate world typed
  pub one : IsOneBlock typed
  pub vars : Vars
  pub are : AreVars typed (0 ∷ []) vars
  pub made : Body
  pub printed : printed_lone world.headers world.members (lone_parts typed vars) ≡ Some made
  pub thrown : Holds (body_thrown world.headers world.members made)
  pub is : body ≡ with_held_flags typed.code made
  pub writable : IsWritable body

-- ---- where or why none is had yet

-- why there is none, where no instruction is barred
pub data IsOpen (world : WorldOf) (typed : Typed) : Type 0 where
  unknown : is_known_world world.headers world.members ≡ false → IsOpen world typed
  caught : typed.code.handlers ≢ [] → IsOpen world typed
  constructs : is_constructor typed.code.name ≡ true → IsOpen world typed
  owned : ¬ CallsNoOwn typed → IsOpen world typed
  blocks : ¬ IsOneBlock typed → IsOpen world typed
  treeless : (vars : Vars) → AreVars typed (0 ∷ []) vars → printed_lone world.headers world.members (lone_parts typed vars) ≡ None → IsOpen world typed
  throws : (vars : Vars) (made : Body) → AreVars typed (0 ∷ []) vars → printed_lone world.headers world.members (lone_parts typed vars) ≡ Some made → ¬ Holds (body_thrown world.headers world.members made) → IsOpen world typed
  unwritable : (vars : Vars) (made : Body) → AreVars typed (0 ∷ []) vars → printed_lone world.headers world.members (lone_parts typed vars) ≡ Some made → ¬ IsWritable (with_held_flags typed.code made) → IsOpen world typed

-- none is had yet: the first instruction that is barred stands at this offset, or none is, and the offset is 0
pub data IsNotYetAt (world : WorldOf) (typed : Typed) (pc : ℕ) : Type 0 where
  barred : first_barred typed.code.handlers typed.code.instructions ≡ Some pc → IsNotYetAt world typed pc
  plain : first_barred typed.code.handlers typed.code.instructions ≡ None → IsOpen world typed → pc ≡ 0 → IsNotYetAt world typed pc

-- ---- the law

-- a method at a place of a class, with code that is read from the class file and verified in the world, of which no cause is told
pub record IsJudgedFree (world : WorldOf) (class : ClassOf) (at : ℕ) (typed : Typed) : Type 0 where
  pub is_world : IsWorld world
  pub method : MethodOf
  pub here : slice_get class.methods at ≡ Some method
  pub spells : SpellsCode class method typed.code
  pub table : IsTypedCode (Laxly world.headers) world.headers typed
  pub untold : IsUntold world class at typed

-- a body shows what code shows, and is typed; the method has no cause
pub record IsProved (world : WorldOf) (class : ClassOf) (at : ℕ) (typed : Typed) (body : Body) : Type 0 where
  pub free : HasNoCause world class at typed
  pub shows : SameShows world.headers world.members typed.code body
  pub lawful : IsTyped world.headers world.members body

-- so does the one that is printed
abbrev pub DecompiledBodiesShow : Type 0
DecompiledBodiesShow = (world : WorldOf) (class : ClassOf) (at : ℕ) (typed : Typed) (body : Body) → IsJudgedFree world class at typed → IsDecompiled world typed body → IsProved world class at typed body
