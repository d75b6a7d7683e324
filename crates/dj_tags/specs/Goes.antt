-- Which tags and frames go where, over a relation that says it of references (JVMS 4.10.1.2, 4.10.1.4).
use Rattle.std.specs.Prelude.{◌≡◌, ℕ, List, [], ◌∷◌, ◌++◌, length, Bool, true}
use Rattle.dj_names.specs.Types.{JType}
use Rattle.dj_frames.specs.Frames.{Tag, Top, Int, Float, Double, Long, Null, UnbornThis, Object, Unborn, Frame, slots_of}

-- which references may stand where which are wanted, both by their types
abbrev pub Assignability : Type 1
Assignability = JType → JType → Type 0

-- a value of the tag may stand where a reference of the type is wanted
abbrev pub ReferenceGoes : Assignability → Tag → JType → Type 0
ReferenceGoes Goes Top to = ⊥
ReferenceGoes Goes Int to = ⊥
ReferenceGoes Goes Float to = ⊥
ReferenceGoes Goes Double to = ⊥
ReferenceGoes Goes Long to = ⊥
ReferenceGoes Goes Null to = Unit {0}
ReferenceGoes Goes UnbornThis to = ⊥
ReferenceGoes Goes (Object from) to = Goes from to
ReferenceGoes Goes (Unborn pc) to = ⊥

-- a local of one tag may stand where the other is wanted: anything where nothing is
abbrev pub LocalGoes : Assignability → Tag → Tag → Type 0
LocalGoes Goes from Top = Unit {0}
LocalGoes Goes from Int = from ≡ Int
LocalGoes Goes from Float = from ≡ Float
LocalGoes Goes from Double = from ≡ Double
LocalGoes Goes from Long = from ≡ Long
LocalGoes Goes from Null = from ≡ Null
LocalGoes Goes from UnbornThis = from ≡ UnbornThis
LocalGoes Goes from (Object to) = ReferenceGoes Goes from to
LocalGoes Goes from (Unborn pc) = from ≡ Unborn pc

-- the words that a value takes: a long or a double two (JVMS 2.6.2)
abbrev pub words : Tag → ℕ
words tag = length (slots_of tag)

-- an entry of the stack may stand where another is wanted; none becomes narrower, so that only one word goes into Top
pub record EntryGoes (Goes : Assignability) (from to : Tag) : Type 0 where
  pub goes : LocalGoes Goes from to
  pub width : words from ≡ words to

-- entries one by one, and as many
abbrev pub EntriesGo : Assignability → List Tag → List Tag → Type 0
EntriesGo Goes [] [] = Unit {0}
EntriesGo Goes [] (to ∷ tos) = ⊥
EntriesGo Goes (from ∷ froms) [] = ⊥
EntriesGo Goes (from ∷ froms) (to ∷ tos) = EntryGoes Goes from to × EntriesGo Goes froms tos

-- locals one by one; nothing is known of those that aren't there
abbrev pub LocalsGo : Assignability → List Tag → List Tag → Type 0
LocalsGo Goes froms [] = Unit {0}
LocalsGo Goes [] (to ∷ tos) = LocalGoes Goes Top to × LocalsGo Goes [] tos
LocalsGo Goes (from ∷ froms) (to ∷ tos) = LocalGoes Goes from to × LocalsGo Goes froms tos

-- a frame that instructions work on: one whose stack is listed from the top down
pub record Working : Type 0 where
  pub locals : List Tag
  pub stack : List Tag
  pub unborn_this : Bool

-- a list from its other end
abbrev pub reversed : {A : Type 0} → List A → List A
reversed [] = []
reversed (first ∷ rest) = reversed rest ++ first ∷ []

-- a frame from the top of its stack down
abbrev pub top_down : Frame → Working
top_down frame = record { locals = frame.locals; stack = reversed frame.stack; unborn_this = frame.unborn_this }

-- a frame may stand where another is wanted; where `this` may be unborn it must be so there (JVMS 4.10.1.4, frameIsAssignable)
pub record FrameGoes (Goes : Assignability) (from to : Working) : Type 0 where
  pub locals : LocalsGo Goes from.locals to.locals
  pub stack : EntriesGo Goes from.stack to.stack
  pub flag : from.unborn_this ≡ true → to.unborn_this ≡ true
