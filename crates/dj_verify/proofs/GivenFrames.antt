-- Frames that are given, found by their places.
use Rattle.std.proofs.Common.{◌≡◌, ℕ, zero, suc, ◌+◌, ◌<◌, Bool, true, false, eqb, List, [], ◌∷◌, drop, length, get_or, slice_get, Option, Some, None, refl, ap, sym, ◌∙◌, arith, drop-cons, add-one}
use Rattle.std.specs.Prelude.{option_map}
use Rattle.std.specs.Option.{option_and_then}
use Rattle.std.specs.Ordering.{nat_cmp}
use Rattle.std.specs.BTreeMap as tree
use Rattle.std.specs.BTreeMap.{BTreeMap, Updates, is_at}
use Rattle.std.proofs.lemmas.Bool.{false_from_ne_true}
use Rattle.std.proofs.lemmas.Bool.Decides.{nat_tests}
use Rattle.std.proofs.lemmas.List.{drop_all}
use Rattle.std.proofs.lemmas.Map.Lookups.{exact_unsigned}
use Rattle.std.proofs.lemmas.Map.Views.{tells_apart}
use Rattle.std.proofs.lemmas.Option.{get_or_from_slice_get, slice_get_within}
use Rattle.dj_frames.specs.declared.frame.Frame as declared
use Rattle.dj_frames.specs.Frames.{Frame, view_frame, view_frames}
use Rattle.dj_verify.specs.Rules.{frame_in}
use Rattle.dj_verify.specs.Checking.{ArePlacesFrom}

-- the frame at a place
abbrev found : List (ℕ × Frame) → Option ℕ → Option Frame
found frames place = option_and_then (λ at. option_map (λ x. x.1) (slice_get frames at)) place

-- no frame is given behind the last one
pub none_behind : (frames : List (ℕ × Frame)) (places : BTreeMap ℕ ℕ) → ((pc : ℕ) → tree.get nat_cmp places pc ≡ None) → ArePlacesFrom (length frames) frames places
none_behind frames places none pc = rw (none pc, drop_all (length frames) frames (omega arith)) refl

eqb-is : (m n : ℕ) → eqb m n ≡ true → m ≡ n
eqb-is m n e = grind (arith, nat_tests)

eqb-apart : (m n : ℕ) → eqb m n ≡ false → m ≡ n → ⊥
eqb-apart m n e same = grind (arith, nat_tests)

-- one frame more
pub one_more : (frames : List (ℕ × Frame)) (from pc : ℕ) (frame : Frame) (places more : BTreeMap ℕ ℕ) → slice_get frames from ≡ Some (pc, frame) → ArePlacesFrom (from + 1) frames places → Updates nat_cmp places more pc (Some from) → ArePlacesFrom from frames more
one_more frames from pc frame places more is are updates asked = go (eqb pc asked) refl
  where
    within : from < length frames
    within = slice_get_within frames from (pc, frame) is

    there : drop from frames ≡ (pc, frame) ∷ drop (from + 1) frames
    there = drop-cons frames from (pc, frame) within ∙ ap (λ first. first ∷ drop (suc from) frames) (get_or_from_slice_get frames from (pc, frame) (pc, frame) is) ∙ rw add-one refl

    go : (b : Bool) → eqb pc asked ≡ b → found frames (tree.get nat_cmp more asked) ≡ frame_in asked (drop from frames)
    go true e =
        let here : tree.get nat_cmp more asked ≡ Some from = rw (← eqb-is pc asked e) updates.1 in
        rw (here, there, e) (ap (option_map (λ x. x.1)) is)
    go false e =
        let apart : is_at (nat_cmp pc) asked ≡ false = false_from_ne_true (is_at (nat_cmp pc) asked) (λ at. eqb-apart pc asked e (tells_apart exact_unsigned pc asked at)) in
        rw (updates.2 asked apart, there, e) (are asked)

pub place_is : (frames : List (ℕ × declared.Frame)) (place : ℕ) (item : ℕ × declared.Frame) → place < length frames → item ≡ get_or frames place item → slice_get (view_frames frames) place ≡ Some (item.0, view_frame item.1)
place_is [] place item within is = absurd (omega arith)
place_is (first ∷ rest) zero item within is = ap (λ (x : ℕ × declared.Frame). Some (x.0, view_frame x.1)) (sym is)
place_is (first ∷ rest) (suc place) item within is = place_is rest place item (omega arith) is
