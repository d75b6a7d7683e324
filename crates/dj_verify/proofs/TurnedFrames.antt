-- Frames from the tops of their stacks down, and from the bottoms up.
use Rattle.std.proofs.Common.{◌≡◌, List, [], ◌∷◌, map, length, refl, sym, ap, subst}
use Rattle.dj_names.specs.declared.header.Header.{Header}
use Rattle.dj_frames.specs.Frames.{Frame}
use Rattle.dj_code.specs.MethodCode.{Code}
use Rattle.dj_tags.specs.Goes.{Assignability, Working, reversed, top_down}
use Rattle.dj_effects.proofs.Stacking.{reversed_snoc}
use Rattle.dj_verify.specs.Table.{IsTableTo}
use Rattle.dj_verify.specs.Verified.{HasFrames}

turned_twice : {A : Type 0} (list : List A) → reversed (reversed list) ≡ list
turned_twice [] = refl
turned_twice (x ∷ list) = rw (reversed_snoc (reversed list) x) (ap (λ l. x ∷ l) (turned_twice list))

-- the frame of which this is what is seen from the top of its stack down
abbrev bottom_up : Working → Frame
bottom_up frame = record { locals = frame.locals; stack = reversed frame.stack; unborn_this = frame.unborn_this }

turned : (frame : Working) → top_down (bottom_up frame) ≡ frame
turned frame = rw (turned_twice frame.stack) refl

all_turned : (frames : List Working) → map top_down (map bottom_up frames) ≡ frames
all_turned [] = refl
all_turned (frame ∷ frames) = rw (turned frame, all_turned frames) refl

-- where there is a table so, there is one of frames
pub has_frames : (Goes : Assignability) (headers : List Header) (code : Code) (frames : List Working) → IsTableTo Goes headers code (length code.instructions) frames → HasFrames Goes headers code
has_frames Goes headers code frames table = record { frames = map bottom_up frames; table = subst (IsTableTo Goes headers code (length code.instructions)) (sym (all_turned frames)) table }
