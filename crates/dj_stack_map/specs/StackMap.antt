-- A StackMapTable as a layout, what is asked of its frames, and what they say (JVMS 4.7.4).
use Rattle.std.specs.Prelude.{◌≡◌, ◌≢◌, ◌⊎◌, ℕ, ◌+◌, ◌-◌, ◌≤◌, List, [], ◌∷◌, ◌++◌, length, take, Bool, ◌||◌, ◌==◌, nat_le, if◌then◌else◌, Option, Some, None, IsSome, Result, Ok, Err, ⊤}
use Rattle.std.specs.List.{AllZip}
use Rattle.dj_layout.specs.declared.fault.Fault.{Fault}
use Rattle.dj_layout.specs.declared.fault.Stop.{Stop}
use Rattle.dj_layout.specs.declared.fault.Stop.TheVariants as stop
use Rattle.dj_layout.specs.Layout.{Layout, Spells}
use Rattle.dj_layout.specs.Parts.{number, exactly, headed, times, tested, choice}
use Rattle.dj_layout.specs.Passes.{asked, sequence}
use Rattle.dj_layout.specs.Whole.{IsWhole}
use Rattle.dj_names.specs.Types.{JType}
use Rattle.dj_pool.specs.declared.entry.Entry.{Entry}
use Rattle.dj_instructions.specs.declared.kinds.BadKind as bad
use Rattle.dj_instructions.specs.declared.kinds.BadKind.TheVariants as kind
use Rattle.dj_instructions.specs.Instructions.{Instructions, New, instruction_at}
use Rattle.dj_stack_map.specs.declared.form.Count.{Count}
use Rattle.dj_stack_map.specs.declared.form.Count.TheVariants as count
use Rattle.dj_stack_map.specs.declared.form.Change.{Change}
use Rattle.dj_stack_map.specs.declared.form.Change.TheVariants as change
use Rattle.dj_stack_map.specs.declared.form.Form.{Form}
use Rattle.dj_instructions.specs.PoolNames.{NamesType}
use Rattle.dj_frames.specs.Frames.{Tag, Top, Int, Float, Double, Long, Null, UnbornThis, Object, Unborn, Frame, frame_of, view_frames}
use Rattle.dj_frames.specs.declared.frame.Frame as code_frame

-- ---- what is written

-- a verification type: its tag, and the number behind it, 0 where there is none
pub record RawTag : Type 0 where
  pub tag : ℕ
  pub number : ℕ

-- a frame: its kind, the delta of its offset, and the locals and stack entries that are written
pub record RawFrame : Type 0 where
  pub kind : ℕ
  pub delta : ℕ
  pub locals : List RawTag
  pub stack : List RawTag

-- a frame with the delta in its kind and the locals of the one before
abbrev pub near : ℕ → ℕ → Form
near delta stack = record { delta = Some delta; change = change.Keeps; locals = count.Given 0; stack = count.Given stack }

-- a frame with its delta in two bytes
abbrev pub far : Change → Count → Count → Form
far how locals stack = record { delta = None; change = how; locals = locals; stack = stack }

-- 128 to 246 are reserved
abbrev pub is_kind : ℕ → Bool
is_kind kind = nat_le kind 127 || nat_le 247 kind

-- how a frame of each kind is written
abbrev pub form_of : ℕ → Form
form_of kind =
    if nat_le kind 63 then near kind 0
    else (if nat_le kind 127 then near (kind - 64) 1
    else (if nat_le kind 247 then far change.Keeps (count.Given 0) (count.Given 1)
    else (if nat_le kind 250 then far (change.Chops (251 - kind)) (count.Given 0) (count.Given 0)
    else (if kind == 251 then far change.Keeps (count.Given 0) (count.Given 0)
    else (if nat_le kind 254 then far change.Appends (count.Given (kind - 251)) (count.Given 0)
    else far change.Replaces count.Counted count.Counted)))))

-- a byte of a frame
abbrev pub u1 : Layout bad.BadKind ℕ
u1 = number 1 kind.Frame

-- a number of two bytes of a frame
abbrev pub u2 : Layout bad.BadKind ℕ
u2 = number 2 kind.Frame

-- a verification type; Object and Unborn, 7 and 8, have a number behind them
abbrev pub raw_tag : Layout bad.BadKind RawTag
raw_tag =
    headed (λ t. t.tag) (tested u1 (λ tag. nat_le tag 8) kind.Frame) (λ tag.
    headed (λ t. t.number) (choice (nat_le 7 tag) u2 (exactly 0)) (λ behind.
    exactly (record { tag = tag; number = behind })))

-- as many items as a count says
abbrev pub many : {A : Type 0} → Count → Layout bad.BadKind A → Layout bad.BadKind (List A)
many (count.Given n) item = times n item
many count.Counted item = headed length u2 (λ n. times n item)

-- the delta of an offset, where the kind has it or in two bytes
abbrev pub delta : Option ℕ → Layout bad.BadKind ℕ
delta (Some given) = exactly given
delta None = u2

-- a frame of these tags
abbrev pub frame_with : Layout bad.BadKind RawTag → Layout bad.BadKind RawFrame
frame_with tag =
    headed (λ f. f.kind) (tested u1 is_kind kind.Frame) (λ of_kind.
    headed (λ f. f.delta) (delta (form_of of_kind).delta) (λ by.
    headed (λ f. f.locals) (many (form_of of_kind).locals tag) (λ locals.
    headed (λ f. f.stack) (many (form_of of_kind).stack tag) (λ stack.
    exactly (record { kind = of_kind; delta = by; locals = locals; stack = stack })))))

-- ---- what it means

-- the tag that stands for itself, None for those with a number behind them
abbrev pub plain_tag : ℕ → Option Tag
plain_tag tag =
    if tag == 0 then Some Top
    else (if tag == 1 then Some Int
    else (if tag == 2 then Some Float
    else (if tag == 3 then Some Double
    else (if tag == 4 then Some Long
    else (if tag == 5 then Some Null
    else (if tag == 6 then Some UnbornThis else None))))))

-- a `new` begins at this offset
pub record IsNewAt (instructions : Instructions) (pc : ℕ) : Type 0 where
  pub class : List ℕ
  pub here : instruction_at instructions pc ≡ Some (New class)

-- the tag that is meant: the number behind Object is the index of a Class entry, that behind Unborn the offset of a `new`
pub data IsTagOf (pool : List Entry) (instructions : Instructions) (raw : RawTag) (tag : Tag) : Type 0 where
  plain : plain_tag raw.tag ≡ Some tag → IsTagOf pool instructions raw tag
  object : (type : JType) → raw.tag ≡ 7 → NamesType pool raw.number type → tag ≡ Object type → IsTagOf pool instructions raw tag
  unborn : raw.tag ≡ 8 → IsNewAt instructions raw.number → tag ≡ Unborn raw.number → IsTagOf pool instructions raw tag

-- a tag that means something
pub record IsLawfulTag (pool : List Entry) (instructions : Instructions) (raw : RawTag) : Type 0 where
  pub meant : Tag
  pub is : IsTagOf pool instructions raw meant

-- a verification type that means something
abbrev pub tag : List Entry → Instructions → Layout bad.BadKind RawTag
tag pool instructions = asked raw_tag (IsLawfulTag pool instructions) kind.Frame

-- a frame as it is written, by what its tags mean
pub record Item : Type 0 where
  pub kind : ℕ
  pub delta : ℕ
  pub locals : List Tag
  pub stack : List Tag

-- the frame with its tags
pub record IsItemOf (pool : List Entry) (instructions : Instructions) (raw : RawFrame) (item : Item) : Type 0 where
  pub kind : item.kind ≡ raw.kind
  pub delta : item.delta ≡ raw.delta
  pub locals : AllZip (IsTagOf pool instructions) raw.locals item.locals
  pub stack : AllZip (IsTagOf pool instructions) raw.stack item.stack

-- the values of the locals in a frame, by those in the frame before and those that are written
abbrev pub changed : Change → List Tag → List Tag → List Tag
changed change.Keeps before written = before
changed (change.Chops n) before written = take (length before - n) before
changed change.Appends before written = before ++ written
changed change.Replaces before written = written

-- the frames that these items are, where the next one with delta 0 is at `least` and the locals before have these values
abbrev pub frames_from : ℕ → List Tag → List Item → List (ℕ × Frame)
frames_from least values [] = []
frames_from least values (item ∷ items) =
    let now = changed (form_of item.kind).change values item.locals in
    (least + item.delta, frame_of now item.stack) ∷ frames_from (least + item.delta + 1) now items

-- ---- what is asked of a frame behind others

-- how many values are chopped
abbrev pub chopped : Change → ℕ
chopped change.Keeps = 0
chopped (change.Chops n) = n
chopped change.Appends = 0
chopped change.Replaces = 0

-- how many values there are in a frame, by how many there were before and how many are written
abbrev pub count_changed : Change → ℕ → ℕ → ℕ
count_changed change.Keeps before written = before
count_changed (change.Chops n) before written = before - n
count_changed change.Appends before written = before + written
count_changed change.Replaces before written = written

-- how many values the locals have behind these frames
abbrev pub count_behind : ℕ → List RawFrame → ℕ
count_behind before [] = before
count_behind before (raw ∷ raws) = count_behind (count_changed (form_of raw.kind).change before (length raw.locals)) raws

-- where a frame with delta 0 is behind these frames: the first at 0, each other one behind the one before
abbrev pub least_behind : ℕ → List RawFrame → ℕ
least_behind least [] = least
least_behind least (raw ∷ raws) = least_behind (least + raw.delta + 1) raws

-- the offset of the last of these frames, 0 where there is none
abbrev pub last_offset : List RawFrame → ℕ
last_offset raws = least_behind 0 raws - 1

-- a frame stands at an instruction, and there are as many values as it chops
pub record Follows (instructions : Instructions) (entry : ℕ) (before : List RawFrame) (raw : RawFrame) : Type 0 where
  pub starts : IsSome (instruction_at instructions (least_behind 0 before + raw.delta))
  pub enough : chopped (form_of raw.kind).change ≤ count_behind entry before

-- ---- the table

-- any fault of a part, told as at this offset
abbrev pub told_at : {A : Type 0} → Layout bad.BadKind A → ℕ → Layout bad.BadKind A
told_at part offset = record {
  spell = part.spell;
  Fits = part.Fits;
  Halts = λ end bytes fault. (inner : Fault bad.BadKind) × part.Halts end bytes inner × (fault ≡ record { kind = kind.Frame; offset = offset });
}

-- a frame behind these, where the locals of the method's entry have so many values
abbrev pub frame_behind : List Entry → Instructions → ℕ → List RawFrame → Layout bad.BadKind RawFrame
frame_behind pool instructions entry before =
    told_at (asked (frame_with (tag pool instructions)) (Follows instructions entry before) kind.Frame) (last_offset before)

-- the one spelling of a frame
abbrev pub spell_frame : RawFrame → List ℕ
spell_frame = (frame_with raw_tag).spell

-- frames behind their number; a fault is told at the last frame that is right
abbrev pub table : List Entry → Instructions → ℕ → Layout bad.BadKind (List RawFrame)
table pool instructions entry =
    headed length (told_at u2 0) (λ n. sequence spell_frame (λ xs. length xs == n) (frame_behind pool instructions entry))

-- the frames of a table
pub record HasFrames (pool : List Entry) (instructions : Instructions) (values : List Tag) (content : List ℕ) (frames : List (ℕ × Frame)) : Type 0 where
  pub raws : List RawFrame
  pub laid_out : IsWhole (table pool instructions (length values)) content raws
  pub items : List Item
  pub meant : AllZip (IsItemOf pool instructions) raws items
  pub frames_are : frames ≡ frames_from 0 values items

-- a table breaks off behind a frame at this offset, or has bytes behind its last frame, at this offset
abbrev pub BreaksAt : List Entry → Instructions → ℕ → List ℕ → ℕ → Type 0
BreaksAt pool instructions entry content pc =
    (table pool instructions entry).Halts (length content) content (record { kind = kind.Frame; offset = pc })
    ⊎ ((raws : List RawFrame) × (rest : List ℕ) × Spells (table pool instructions entry) content raws rest × (rest ≢ []) × (pc ≡ last_offset raws))

-- the frames of a method whose StackMapTables have these contents: of the one that there may be
abbrev pub AreFrames : List Entry → Instructions → List Tag → List (List ℕ) → List (ℕ × Frame) → Type 0
AreFrames pool instructions values [] frames = frames ≡ []
AreFrames pool instructions values (content ∷ []) frames = HasFrames pool instructions values content frames
AreFrames pool instructions values (content ∷ second ∷ others) frames = ⊥

-- the first table breaks, or it is right and there is a second
pub data BreaksFrames (pool : List Entry) (instructions : Instructions) (values : List Tag) : List (List ℕ) → ℕ → Type 0 where
  broken : {content : List ℕ} {others : List (List ℕ)} {pc : ℕ} → BreaksAt pool instructions (length values) content pc → BreaksFrames pool instructions values (content ∷ others) pc
  second : {content other : List ℕ} {others : List (List ℕ)} {pc : ℕ} (raws : List RawFrame) → IsWhole (table pool instructions (length values)) content raws → pc ≡ last_offset raws
      → BreaksFrames pool instructions values (content ∷ other ∷ others) pc

-- the frames that the tables of these contents have, their fault, or that memory ran out
abbrev pub ReadsFrames : List Entry → Instructions → List Tag → List (List ℕ) → Result (List (ℕ × code_frame.Frame)) (Stop bad.BadKind) → Type 0
ReadsFrames pool instructions values contents (Ok found) = AreFrames pool instructions values contents (view_frames found)
ReadsFrames pool instructions values contents (Err stop.Memory) = ⊤
ReadsFrames pool instructions values contents (Err (stop.Fault fault)) = (fault.kind ≡ kind.Frame) × BreaksFrames pool instructions values contents fault.offset
