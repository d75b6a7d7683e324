-- What an instruction may do to a frame: the forms of the rows (JVMS 4.10.1.9).
use Rattle.std.specs.Prelude.{ℕ, List, [], ◌∷◌, Option}
use Rattle.dj_names.specs.Types.{JType}
use Rattle.dj_instructions.specs.declared.kinds.Kind.{Kind}
use Rattle.dj_frames.specs.Frames.{Tag}

-- what is wanted of an entry of the stack: that it may stand where this tag is, or that it is a reference, born or not; an array; or an array of bytes or booleans, null in each case too
pub data Want : Type 0 where
  Of : Tag → Want
  Reference : Want
  AnyArray : Want
  ByteArray : Want

-- one way to rearrange the top of the stack: the words of the entries that are taken, and which of them are put back, by their places among those; the top first in both
pub record Form : Type 0 where
  pub takes : List ℕ
  pub gives : List ℕ

-- what an instruction does: how it takes and gives, or what is special about it
pub data Work : Type 0 where
  -- it takes entries like these, the top first, and puts this one there
  Plain : List Want → Option Tag → Work
  -- it rearranges the stack in the first of these ways that fits
  Moves : List Form → Work
  -- it works on the local in a slot
  Loads : Kind → ℕ → Work
  Stores : Kind → ℕ → Work
  Counts : ℕ → Work
  -- it makes an object that isn't constructed yet, or calls a constructor of this type with these arguments
  Makes : Work
  Bears : List Want → JType → Work
  -- it reads an element of an array of references
  Elements : Work
  -- it sets a field of this type that an object of this owner has
  Sets : JType → JType → Work
  -- it takes and gives as Plain does, where the class itself may stand for this owner
  Supers : JType → List Want → Option Tag → Work
  -- it ends a method without a result
  Leaves : Work
  -- no opcode spells it, or it can't stand here
  Never : Work

-- ---- the ways in which the stack is rearranged (JVMS 6.5, `pop` to `swap`)

-- values of so many words each are taken, and these of them given back
abbrev pub form : List ℕ → List ℕ → Form
form takes gives = record { takes = takes; gives = gives }

-- one word off
abbrev pub pop_forms : List Form
pop_forms = form (1 ∷ []) [] ∷ []  -- pop

-- two words off, of one value or of two
abbrev pub pop2_forms : List Form
pop2_forms = form (1 ∷ 1 ∷ []) [] ∷ form (2 ∷ []) [] ∷ []  -- pop2

-- the top word twice
abbrev pub dup_forms : List Form
dup_forms = form (1 ∷ []) (0 ∷ 0 ∷ []) ∷ []  -- dup

-- the top word once more below the second
abbrev pub dup_x1_forms : List Form
dup_x1_forms = form (1 ∷ 1 ∷ []) (0 ∷ 1 ∷ 0 ∷ []) ∷ []  -- dup_x1

-- the top word once more below two words
abbrev pub dup_x2_forms : List Form
dup_x2_forms = form (1 ∷ 1 ∷ 1 ∷ []) (0 ∷ 1 ∷ 2 ∷ 0 ∷ []) ∷ form (1 ∷ 2 ∷ []) (0 ∷ 1 ∷ 0 ∷ []) ∷ []  -- dup_x2

-- the two top words twice
abbrev pub dup2_forms : List Form
dup2_forms = form (1 ∷ 1 ∷ []) (0 ∷ 1 ∷ 0 ∷ 1 ∷ []) ∷ form (2 ∷ []) (0 ∷ 0 ∷ []) ∷ []  -- dup2

-- the two top words once more below a third
abbrev pub dup2_x1_forms : List Form
dup2_x1_forms = form (1 ∷ 1 ∷ 1 ∷ []) (0 ∷ 1 ∷ 2 ∷ 0 ∷ 1 ∷ []) ∷ form (2 ∷ 1 ∷ []) (0 ∷ 1 ∷ 0 ∷ []) ∷ []  -- dup2_x1

-- the two top words once more below two others
abbrev pub dup2_x2_forms : List Form
dup2_x2_forms =  -- dup2_x2
    form (1 ∷ 1 ∷ 1 ∷ 1 ∷ []) (0 ∷ 1 ∷ 2 ∷ 3 ∷ 0 ∷ 1 ∷ []) ∷ form (2 ∷ 1 ∷ 1 ∷ []) (0 ∷ 1 ∷ 2 ∷ 0 ∷ [])
    ∷ form (1 ∷ 1 ∷ 2 ∷ []) (0 ∷ 1 ∷ 2 ∷ 0 ∷ 1 ∷ []) ∷ form (2 ∷ 2 ∷ []) (0 ∷ 1 ∷ 0 ∷ []) ∷ []

-- the two top words the other way round
abbrev pub swap_forms : List Form
swap_forms = form (1 ∷ 1 ∷ []) (1 ∷ 0 ∷ []) ∷ []  -- swap
