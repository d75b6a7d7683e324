-- What the functions that read code promise each other.
use Rattle.std.specs.Prelude.{◌≡◌, ◌⊎◌, ℕ, min, List, Option, Some, None, Result, Ok, Err, ⊤}
use Rattle.dj_layout.specs.declared.fault.Fault.{Fault}
use Rattle.dj_layout.specs.Whole.{IsWhole}
use Rattle.dj_pool.specs.declared.entry.Entry.{Entry}
use Rattle.dj_class.specs.Described.{MethodOf, ClassOf}
use Rattle.dj_instructions.specs.declared.kinds.BadKind.{BadKind}
use Rattle.dj_instructions.specs.declared.kinds.BadKind.TheVariants as kind
use Rattle.dj_instructions.specs.declared.instruction.Instruction as declared
use Rattle.dj_instructions.specs.Instructions.{Instructions, view_instructions}
use Rattle.dj_instructions.specs.Listing.{IsListing, HasBadInstruction}
use Rattle.dj_frames.specs.declared.frame.Frame as code_frame
use Rattle.dj_frames.specs.Frames.{view_frames}
use Rattle.dj_stack_map.specs.StackMap.{AreFrames, BreaksFrames}
use Rattle.dj_frames.specs.Frames.{Tag}
use Rattle.dj_code.specs.declared.content.CodeContent.{CodeContent}
use Rattle.dj_code.specs.declared.fault.CodeFault.{CodeFault}
use Rattle.dj_code.specs.declared.fault.CodeFault.TheVariants as fault
use Rattle.dj_code.specs.declared.method_code.Code as code_code
use Rattle.dj_code.specs.CodeContent as layouts
use Rattle.dj_code.specs.MethodCode.{view_code}
use Rattle.dj_code.specs.ReadCode.{PassesChecks, BreaksCheck, SpellsCode, IsCodeFault}

-- the lesser of two numbers, where there is a first one
abbrev pub lesser : Option ℕ → ℕ → Option ℕ
lesser None pc = Some pc
lesser (Some other) pc = Some (min other pc)

-- what the reader of the content answers
abbrev pub ReadsContent : List ℕ → Result CodeContent CodeFault → Type 0
ReadsContent bytes (Ok content) = IsWhole layouts.content bytes content
ReadsContent bytes (Err (fault.BadCode pc bad)) = (bad ≡ kind.CutOff) × (pc ≡ 0) × ((content : CodeContent) → IsWhole layouts.content bytes content → ⊥)
ReadsContent bytes (Err (fault.Memory error)) = ⊤

-- what the reader of the instructions answers
abbrev pub ReadsListing : List Entry → List ℕ → Result (List (ℕ × declared.Instruction)) CodeFault → Type 0
ReadsListing pool code (Ok found) = IsListing pool code (view_instructions found)
ReadsListing pool code (Err (fault.BadCode pc bad)) = (found : Fault BadKind) × HasBadInstruction pool code found × (bad ≡ found.kind) × (pc ≡ found.offset)
ReadsListing pool code (Err (fault.Memory error)) = ⊤

-- what the reader of the instructions that checks them answers
abbrev pub ReadsChecked : List Entry → CodeContent → Result (List (ℕ × declared.Instruction)) CodeFault → Type 0
ReadsChecked pool content (Ok found) = IsListing pool content.code (view_instructions found) × PassesChecks pool content (view_instructions found)
ReadsChecked pool content (Err (fault.BadCode pc bad)) =
    ((found : Fault BadKind) × HasBadInstruction pool content.code found × (bad ≡ found.kind) × (pc ≡ found.offset))
    ⊎ ((instructions : Instructions) × IsListing pool content.code instructions × BreaksCheck pool content instructions bad pc)
ReadsChecked pool content (Err (fault.Memory error)) = ⊤

-- what the reader of the frames answers
abbrev pub ReadsGiven : List Entry → Instructions → List Tag → List (List ℕ) → Result (List (ℕ × code_frame.Frame)) CodeFault → Type 0
ReadsGiven pool instructions values contents (Ok found) = AreFrames pool instructions values contents (view_frames found)
ReadsGiven pool instructions values contents (Err (fault.BadCode pc bad)) = (bad ≡ kind.Frame) × BreaksFrames pool instructions values contents pc
ReadsGiven pool instructions values contents (Err (fault.Memory error)) = ⊤

-- what the reader of the code answers
abbrev pub ReadsCode : ClassOf → MethodOf → Result code_code.Code CodeFault → Type 0
ReadsCode class method (Ok code) = SpellsCode class method (view_code code)
ReadsCode class method (Err why) = IsCodeFault class method why
