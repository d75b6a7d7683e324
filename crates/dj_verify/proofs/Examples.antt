-- Worked frames and places of small methods, by hand (JVMS 4.10.1.6).
use Rattle.std.proofs.Common.{◌≡◌, ℕ, List, [], ◌∷◌, None, Some, true, false, codes, refl, inl}
use Rattle.dj_names.specs.declared.header.Header.{Header}
use Rattle.dj_names.specs.Types as type
use Rattle.dj_names.specs.Types.{JType, Method}
use Rattle.dj_instructions.specs.Instructions.{Instructions, Nop, Goto, Return}
use Rattle.dj_frames.specs.Frames.{Tag, Top, Int, Long, UnbornThis, Frame}
use Rattle.dj_code.specs.MethodCode.{Code}
use Rattle.dj_tags.specs.Goes.{Assignability, Working}
use Rattle.dj_verify.specs.declared.rule.Rule.TheVariants.{NoFrame}
use Rattle.dj_verify.specs.Rules.{Place, entry, given, stack_words}
use Rattle.dj_verify.specs.Table.{frame_at, flow_behind, Keeps, rules, BreaksFirst}

-- code of a method of class C with these flags, this name, these parameters, instructions and frames
abbrev code : ℕ → List ℕ → List JType → Instructions → List (ℕ × Frame) → Code
code flags name parameters instructions frames = record { class = codes "C"; name = name; flags = flags; interface = false; descriptor = Method parameters None; thrown = []; max_stack = 1; max_locals = 3; instructions = instructions; handlers = []; frames = frames }

abbrev frame : List Tag → Working
frame locals = record { locals = locals; stack = []; unborn_this = false }

-- ---- frames from outside

-- a static method of a long, with a local more
static_entry : entry (code 9 (codes "f") (type.Long ∷ []) [] []) ≡ frame (Long ∷ Top ∷ Top ∷ [])
static_entry = refl

-- more parameters than locals
long_entry : entry (code 9 (codes "f") (type.Long ∷ type.Long ∷ []) [] []) ≡ frame (Long ∷ Top ∷ Long ∷ Top ∷ [])
long_entry = refl

-- a constructor
constructor_entry : entry (code 1 (codes "<init>") [] [] []) ≡ record { locals = UnbornThis ∷ Top ∷ Top ∷ []; stack = []; unborn_this = true }
constructor_entry = refl

-- of two frames at one offset the first one counts
first_given : given (code 9 (codes "f") [] [] ((4, record { locals = Int ∷ []; stack = []; unborn_this = false }) ∷ (4, record { locals = []; stack = []; unborn_this = false }) ∷ [])) 4 ≡ Some (frame (Int ∷ Top ∷ Top ∷ []))
first_given = refl

-- the words of a stack
two_and_one : stack_words (Long ∷ Int ∷ []) ≡ 3
two_and_one = refl

-- ---- a jump over an instruction: 0 goto 4, 3 nop, 4 return, with a frame at 4 alone

abbrev jump : Code
jump = code 9 (codes "f") [] ((0, Goto 4) ∷ (3, Nop) ∷ (4, Return None) ∷ []) ((4, record { locals = []; stack = []; unborn_this = false }) ∷ [])

abbrev at_start : Place
at_start = record { flow = Some (entry jump); pc = 0; instruction = Goto 4; rest = (3, Nop) ∷ (4, Return None) ∷ [] }

abbrev at_nop : Place
at_nop = record { flow = flow_behind jump at_start (entry jump); pc = 3; instruction = Nop; rest = (4, Return None) ∷ [] }

-- nothing flows out of the jump
no_flow : at_nop.flow ≡ None
no_flow = refl

no_frame : frame_at jump at_nop ≡ None
no_frame = refl

-- so that the first rule is broken there
module _ (Goes : Assignability) (headers : List Header) where
  breaks : BreaksFirst (Keeps Goes headers jump at_nop) rules NoFrame
  breaks = inl (refl, λ some. absurd (cc))
