-- Worked frames: kinds of frames, and tables by hand (JVMS 4.7.4).
use Rattle.std.proofs.Common.{◌≡◌, ℕ, List, [], ◌∷◌, true, false, refl}
use Rattle.dj_layout.specs.Parts.{number}
use Rattle.dj_frames.specs.Frames.{Tag, Top, Int, Long, Null, frame_of}
use Rattle.dj_stack_map.specs.declared.form.Count.TheVariants as count
use Rattle.dj_stack_map.specs.declared.form.Change.TheVariants as change
use Rattle.dj_stack_map.specs.StackMap.{RawFrame, Item, near, far, form_of, is_kind, frames_from, last_offset, spell_frame}

-- ---- kinds

one_entry : form_of 66 ≡ near 2 1
one_entry = refl

reserved : is_kind 246 ≡ false
reserved = refl

one_entry_far : form_of 247 ≡ far change.Keeps (count.Given 0) (count.Given 1)
one_entry_far = refl

chops_one : form_of 250 ≡ far (change.Chops 1) (count.Given 0) (count.Given 0)
chops_one = refl

same_far : form_of 251 ≡ far change.Keeps (count.Given 0) (count.Given 0)
same_far = refl

appends_three : form_of 254 ≡ far change.Appends (count.Given 3) (count.Given 0)
appends_three = refl

-- ---- tables

abbrev item : ℕ → ℕ → List Tag → List Tag → Item
item kind delta locals stack = record { kind = kind; delta = delta; locals = locals; stack = stack }

-- two frames of the kinds 0 and 10 stand at 0 and 11
two_frames : frames_from 0 (Int ∷ Int ∷ []) (item 0 0 [] [] ∷ item 10 10 [] [] ∷ []) ≡ (0, frame_of (Int ∷ Int ∷ []) []) ∷ (11, frame_of (Int ∷ Int ∷ []) []) ∷ []
two_frames = refl

-- a chopped long takes its two locals along
chopped_long : frames_from 0 (Int ∷ Long ∷ []) (item 250 4 [] [] ∷ []) ≡ (4, record { locals = Int ∷ []; stack = []; unborn_this = false }) ∷ []
chopped_long = refl

-- what is appended stands behind, what is full stands alone
appended_then_full : frames_from 0 (Int ∷ []) (item 252 0 (Long ∷ []) [] ∷ item 255 2 (Null ∷ []) (Int ∷ []) ∷ [])
    ≡ (0, record { locals = Int ∷ Long ∷ Top ∷ []; stack = []; unborn_this = false }) ∷ (3, record { locals = Null ∷ []; stack = Int ∷ []; unborn_this = false }) ∷ []
appended_then_full = refl

-- the last frame of none is at 0
no_last : last_offset [] ≡ 0
no_last = refl

-- a full frame as it is written: kind, delta, one local (Object 2), one entry (Int)
abbrev full : RawFrame
full = record { kind = 255; delta = 258; locals = record { tag = 7; number = 2 } ∷ []; stack = record { tag = 1; number = 0 } ∷ [] }

full_spelled : spell_frame full ≡ 255 ∷ 1 ∷ 2 ∷ 0 ∷ 1 ∷ 7 ∷ 0 ∷ 2 ∷ 0 ∷ 1 ∷ 1 ∷ []
unfolding number
full_spelled = refl
