-- When the content of a Code attribute is the code of a method, and which fault it has first (JVMS 4.7.3, 4.9.1).
use Rattle.std.specs.Prelude.{◌≡◌, ◌↔◌, ℕ, List, map, length, All, Some, IsTrue, IsBitSet, Result, Ok, Err, codes, ⊤}
use Rattle.dj_layout.specs.declared.fault.Fault.{Fault}
use Rattle.dj_layout.specs.Whole.{IsWhole}
use Rattle.dj_pool.specs.declared.entry.Entry.{Entry}
use Rattle.dj_pool.specs.Attributes.{contents}
use Rattle.dj_class.specs.Described.{MethodOf, ClassOf}
use Rattle.dj_instructions.specs.declared.kinds.BadKind.{BadKind}
use Rattle.dj_instructions.specs.declared.kinds.BadKind.TheVariants as kind
use Rattle.dj_instructions.specs.Instructions.{Instructions}
use Rattle.dj_instructions.specs.Listing.{IsListing, HasBadInstruction}
use Rattle.dj_frames.specs.Frames.{entry_values}
use Rattle.dj_stack_map.specs.StackMap.{AreFrames, BreaksFrames}
use Rattle.dj_code.specs.declared.content.CodeContent.{CodeContent}
use Rattle.dj_code.specs.declared.fault.CodeFault.{CodeFault}
use Rattle.dj_code.specs.declared.fault.CodeFault.TheVariants as fault
use Rattle.dj_code.specs.declared.method_code.Code as code_code
use Rattle.dj_code.specs.CodeContent as layouts
use Rattle.dj_code.specs.MethodCode.{Code, view_code}
use Rattle.dj_code.specs.Targets.{IsLeast, AllJumpRight, JumpsWrong, LeadsRight, RangesRight, StartsWrong, handler_of}

-- the method has a Code of this content (JVMS 4.7.3)
pub record HasContent (method : MethodOf) (content : CodeContent) : Type 0 where
  pub bytes : List ℕ
  pub body : method.code ≡ Some bytes
  pub laid_out : IsWhole layouts.content bytes content

-- what is asked of jumps, of handlers and of ranges
pub record PassesChecks (pool : List Entry) (content : CodeContent) (instructions : Instructions) : Type 0 where
  pub jumps : AllJumpRight instructions
  pub leads : All (LeadsRight instructions) content.handlers
  pub ranges : All (RangesRight pool instructions (length content.code)) content.handlers

-- the first of these that isn't as it is asked, at the least offset
pub data BreaksCheck (pool : List Entry) (content : CodeContent) (instructions : Instructions) : BadKind → ℕ → Type 0 where
  jump : {pc : ℕ} → IsLeast (JumpsWrong instructions) pc → BreaksCheck pool content instructions kind.Target pc
  handler : {pc : ℕ} → AllJumpRight instructions → IsLeast (StartsWrong (LeadsRight instructions) content.handlers) pc → BreaksCheck pool content instructions kind.Target pc
  range : {pc : ℕ} → AllJumpRight instructions → All (LeadsRight instructions) content.handlers
      → IsLeast (StartsWrong (RangesRight pool instructions (length content.code)) content.handlers) pc → BreaksCheck pool content instructions kind.Range pc

-- the contents of the StackMapTables among the attributes of a Code
abbrev pub tables_of : List Entry → CodeContent → List (List ℕ)
tables_of pool content = contents pool (codes "StackMapTable") content.attributes

-- the head of a method, and the limits of its code
pub record HasHead (class : ClassOf) (method : MethodOf) (content : CodeContent) (code : Code) : Type 0 where
  pub class_is : code.class ≡ class.this_class
  pub name : code.name ≡ method.name
  pub flags : code.flags ≡ method.flags
  pub interface : IsTrue code.interface ↔ IsBitSet class.flags 9
  pub descriptor : code.descriptor ≡ method.descriptor
  pub thrown : code.thrown ≡ method.thrown
  pub max_stack : code.max_stack ≡ content.max_stack
  pub max_locals : code.max_locals ≡ content.max_locals

-- the Code of the method is code, this one
pub record SpellsCode (class : ClassOf) (method : MethodOf) (code : Code) : Type 0 where
  pub content : CodeContent
  pub has : HasContent method content
  pub listed : IsListing class.pool content.code code.instructions
  pub checks : PassesChecks class.pool content code.instructions
  pub frames : AreFrames class.pool code.instructions (entry_values class.this_class method) (tables_of class.pool content) code.frames
  pub handlers : code.handlers ≡ map (handler_of class.pool) content.handlers
  pub head : HasHead class method content code

-- the fault of the first pass that has one: of the layout, of the instructions, of what is asked of them, of the frames
pub data FirstCodeFault (class : ClassOf) (method : MethodOf) : BadKind → ℕ → Type 0 where
  layout : ((content : CodeContent) → ¬ HasContent method content) → FirstCodeFault class method kind.CutOff 0
  instruction : {found : Fault BadKind} (content : CodeContent) → HasContent method content → HasBadInstruction class.pool content.code found → FirstCodeFault class method found.kind found.offset
  check : {bad : BadKind} {pc : ℕ} (content : CodeContent) (instructions : Instructions) → HasContent method content → IsListing class.pool content.code instructions
      → BreaksCheck class.pool content instructions bad pc → FirstCodeFault class method bad pc
  frame : {pc : ℕ} (content : CodeContent) (instructions : Instructions) → HasContent method content → IsListing class.pool content.code instructions → PassesChecks class.pool content instructions
      → BreaksFrames class.pool instructions (entry_values class.this_class method) (tables_of class.pool content) pc → FirstCodeFault class method kind.Frame pc

-- ---- what is answered

-- the fault is the first of the method's code, or memory ran out
abbrev pub IsCodeFault : ClassOf → MethodOf → CodeFault → Type 0
IsCodeFault class method (fault.BadCode pc bad) = FirstCodeFault class method bad pc
IsCodeFault class method (fault.Memory error) = ⊤

-- the answer is this code, unless memory ran out
abbrev pub GivesCode : Result code_code.Code CodeFault → Code → Type 0
GivesCode (Ok read) code = code ≡ view_code read
GivesCode (Err (fault.BadCode pc bad)) code = ⊥
GivesCode (Err (fault.Memory error)) code = ⊤

-- the answer is this fault, unless memory ran out
abbrev pub GivesCodeFault : Result code_code.Code CodeFault → BadKind → ℕ → Type 0
GivesCodeFault (Ok read) bad pc = ⊥
GivesCodeFault (Err (fault.BadCode at found)) bad pc = (found ≡ bad) × (at ≡ pc)
GivesCodeFault (Err (fault.Memory error)) bad pc = ⊤
