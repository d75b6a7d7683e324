-- What the functions that read a StackMapTable promise each other.
use Rattle.std.specs.Prelude.{◌≡◌, ℕ, ◌+◌, ◌≤◌, ◌^◌, List, [], ◌∷◌, ◌++◌, length, IsSome, Result, Ok, Err, ⊤}
use Rattle.std.specs.List.{AllZip}
use Rattle.dj_layout.specs.declared.fault.Stop.{Stop}
use Rattle.dj_layout.specs.declared.fault.Stop.TheVariants as stop
use Rattle.dj_layout.specs.Whole.{IsWhole}
use Rattle.dj_pool.specs.declared.entry.Entry.{Entry}
use Rattle.dj_instructions.specs.declared.kinds.BadKind.{BadKind}
use Rattle.dj_instructions.specs.declared.kinds.BadKind.TheVariants as kind
use Rattle.dj_instructions.specs.Instructions.{Instruction, Instructions, New, instruction_at}
use Rattle.dj_stack_map.specs.declared.written.Written.{Written}
use Rattle.dj_stack_map.specs.declared.follow.Listed.{Listed}
use Rattle.dj_frames.specs.Frames.{Tag, view_tags, view_frames, frame_of}
use Rattle.dj_stack_map.specs.StackMap.{RawFrame, Item, IsItemOf, form_of, changed, chopped, frames_from, least_behind, table, BreaksAt}

-- a frame as the code reads it, seen as plain data
abbrev pub view_written : Written → Item
view_written written = record { kind = written.kind; delta = written.delta; locals = view_tags written.locals; stack = view_tags written.stack }

-- the instruction is a `new`
pub record IsNew (instruction : Instruction) : Type 0 where
  pub class : List ℕ
  pub is : instruction ≡ New class

-- ---- one frame after the other

-- the frame stands at an instruction, and there are as many values as it chops
pub record CanFollow (instructions : Instructions) (listed : Listed) (written : Written) : Type 0 where
  pub starts : IsSome (instruction_at instructions (listed.least + written.delta))
  pub enough : chopped (form_of written.kind).change ≤ length listed.locals

-- what is listed with the frame behind it
pub record IsBehind (listed : Listed) (written : Written) (now : Listed) : Type 0 where
  pub frames : view_frames now.frames ≡ view_frames listed.frames ++ (listed.least + written.delta, frame_of (view_tags now.locals) (view_tags written.stack)) ∷ []
  pub locals : view_tags now.locals ≡ changed (form_of written.kind).change (view_tags listed.locals) (view_tags written.locals)
  pub least : now.least ≡ listed.least + written.delta + 1
  pub low : now.least ≤ 2 ^ 32

-- the values of the locals behind these frames
abbrev pub locals_behind : List Tag → List Item → List Tag
locals_behind values [] = values
locals_behind values (item ∷ items) = locals_behind (changed (form_of item.kind).change values item.locals) items

-- what is listed are these frames, behind an entry with these values
pub record IsListedTo (pool : List Entry) (instructions : Instructions) (values : List Tag) (raws : List RawFrame) (listed : Listed) : Type 0 where
  pub items : List Item
  pub meant : AllZip (IsItemOf pool instructions) raws items
  pub frames : view_frames listed.frames ≡ frames_from 0 values items
  pub locals : view_tags listed.locals ≡ locals_behind values items
  pub least : listed.least ≡ least_behind 0 raws
  pub low : listed.least ≤ 2 ^ 32

-- what the reader of a table answers
abbrev pub ReadsTable : List Entry → Instructions → List Tag → List ℕ → Result Listed (Stop BadKind) → Type 0
ReadsTable pool instructions values content (Ok listed) = (raws : List RawFrame) × IsWhole (table pool instructions (length values)) content raws × IsListedTo pool instructions values raws listed
ReadsTable pool instructions values content (Err stop.Memory) = ⊤
ReadsTable pool instructions values content (Err (stop.Fault fault)) = (fault.kind ≡ kind.Frame) × BreaksAt pool instructions (length values) content fault.offset
