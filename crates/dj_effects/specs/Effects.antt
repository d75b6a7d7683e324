-- What an instruction leaves of a frame in which its operands are (JVMS 4.10.1.9).
use Rattle.std.specs.Prelude.{ℕ, zero, suc, ◌+◌, ◌==◌, Bool, false, if◌then◌else◌, List, [], ◌∷◌, ◌++◌, map, length, take, drop, Option, Some, None, slice_get, slice_set}
use Rattle.std.specs.Option.{option_and_then}
use Rattle.dj_names.specs.Types.{JType, Class}
use Rattle.dj_instructions.specs.declared.kinds.Kind.{Kind}
use Rattle.dj_instructions.specs.declared.kinds.Kind.TheVariants as kind
use Rattle.dj_frames.specs.Frames.{Tag, Top, Int, Float, Double, Long, Null, UnbornThis, Object, Unborn, is_unborn_this, is_unborn_at}
use Rattle.dj_code.specs.MethodCode.{Code}
use Rattle.dj_tags.specs.Goes.{Working, words}
use Rattle.dj_effects.specs.Works.{Form, Work, Plain, Moves, Loads, Stores, Counts, Makes, Bears, Elements, Sets, Supers, Leaves, Never}
use Rattle.dj_effects.specs.Operands.{form_of, moved_words, under, element_tag}

-- ---- the stack

-- nothing is known of what isn't there
abbrev pub or_top : Option Tag → Tag
or_top None = Top
or_top (Some tag) = tag

-- an entry more, or none
abbrev pub pushed : {A : Type 0} → Option A → List A → List A
pushed None stack = stack
pushed (Some top) stack = top ∷ stack

-- the items at these places
abbrev pub picked : {A : Type 0} → List ℕ → List A → List A
picked [] list = []
picked (place ∷ places) list = take 1 (drop place list) ++ picked places list

-- a stack rearranged in this form
abbrev pub moved : {A : Type 0} → Option Form → List A → List A
moved None stack = stack
moved (Some form) stack = picked form.gives stack ++ drop (length form.takes) stack

-- ---- the locals

-- a long or a double that begins right below the slot is cut in half
abbrev pub cut_below : ℕ → List Tag → List Tag
cut_below zero locals = locals
cut_below (suc below) locals = if words (or_top (slice_get locals below)) == 2 then slice_set locals below Top else locals

-- the locals after a store; a long or a double takes the next slot too (JVMS 4.10.1.7)
abbrev pub stored : ℕ → Tag → List Tag → List Tag
stored slot tag locals =
    let there = slice_set (cut_below slot locals) slot tag in if words tag == 2 then slice_set there (slot + 1) Top else there

-- ---- objects that aren't constructed yet

-- a tag, or what takes its place where it passes the test (JVMS 4.10.1.9, substitute)
abbrev pub instead : (Tag → Bool) → Tag → Tag → Tag
instead test now tag = if test tag then now else tag

-- the frame with an object constructed, wherever it is held, and this stack
abbrev pub with_born : (Tag → Bool) → Tag → Bool → Working → List Tag → Working
with_born test now unborn_this frame stack = record { locals = map (instead test now) frame.locals; stack = map (instead test now) stack; unborn_this = unborn_this }

-- the frame behind the call of a constructor of this type on what is on top of this stack
abbrev pub borne : Code → JType → Working → List Tag → Working
borne code owner frame [] = frame
borne code owner frame (Top ∷ below) = frame
borne code owner frame (Int ∷ below) = frame
borne code owner frame (Float ∷ below) = frame
borne code owner frame (Double ∷ below) = frame
borne code owner frame (Long ∷ below) = frame
borne code owner frame (Null ∷ below) = frame
borne code owner frame (UnbornThis ∷ below) = with_born is_unborn_this (Object (Class code.class)) false frame below
borne code owner frame (Object type ∷ below) = frame
borne code owner frame (Unborn pc ∷ below) = with_born (is_unborn_at pc) (Object owner) frame.unborn_this frame below

-- ---- all works

-- the frame behind an instruction with this work at `pc`
abbrev pub effect : Code → ℕ → Work → Working → Working
effect code pc (Plain wants gives) frame = record frame { stack = pushed gives (under wants frame.stack) }
effect code pc (Moves forms) frame = record frame { stack = moved (form_of forms (map moved_words frame.stack)) frame.stack }
effect code pc (Loads kind slot) frame = record frame { stack = or_top (slice_get frame.locals slot) ∷ frame.stack }
effect code pc (Stores kind slot) frame = record frame { locals = stored slot (or_top (slice_get frame.stack 0)) frame.locals; stack = drop 1 frame.stack }
effect code pc (Counts slot) frame = frame
effect code pc Makes frame = record frame { locals = map (instead (is_unborn_at pc) Top) frame.locals; stack = Unborn pc ∷ frame.stack }
effect code pc (Bears wants owner) frame = borne code owner frame (under wants frame.stack)
effect code pc Elements frame = record frame { stack = or_top (option_and_then element_tag (slice_get frame.stack 1)) ∷ drop 2 frame.stack }
effect code pc (Sets type owner) frame = record frame { stack = drop 2 frame.stack }
effect code pc (Supers owner wants gives) frame = record frame { stack = pushed gives (under wants frame.stack) }
effect code pc Leaves frame = frame
effect code pc Never frame = frame

-- the words of a kind of values
abbrev pub kind_words : Kind → ℕ
kind_words kind.Int = 1
kind_words kind.Long = 2
kind_words kind.Float = 1
kind_words kind.Double = 2
kind_words kind.Ref = 1

-- the locals that a method must have for a store
abbrev pub locals_needed : Work → ℕ
locals_needed (Plain wants gives) = 0
locals_needed (Moves forms) = 0
locals_needed (Loads kind slot) = 0
locals_needed (Stores kind slot) = slot + kind_words kind
locals_needed (Counts slot) = 0
locals_needed Makes = 0
locals_needed (Bears wants owner) = 0
locals_needed Elements = 0
locals_needed (Sets type owner) = 0
locals_needed (Supers owner wants gives) = 0
locals_needed Leaves = 0
locals_needed Never = 0
