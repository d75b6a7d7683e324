-- What the exception table and instructions ask for, one after another.
use Rattle.std.proofs.Common.{◌≡◌, ℕ, ◌+◌, ◌<◌, ◌≤◌, ◌⊎◌, Bool, List, [], ◌∷◌, length, map, drop, get_or, sym, subst, ◌∙◌, ap}
use Rattle.std.specs.List.{Contains}
use Rattle.std.proofs.lemmas.List.{drop_more, drop_all, drop-map, drop-drop}
use Rattle.dj_instructions.specs.declared.instruction.Instruction as declared
use Rattle.dj_instructions.specs.Instructions.{view_instruction, view_instructions}
use Rattle.dj_frames.specs.declared.frame.Frame as code_frame
use Rattle.dj_frames.specs.Frames.{Frame, view_frame, view_frames}
use Rattle.dj_code.specs.declared.method_code.Handler.{Handler}
use Rattle.dj_code.specs.Targets.{targets_of}
use Rattle.dj_starts.specs.Edges.{first_pc}
use Rattle.dj_starts.specs.Starts.{IsGiven, TableAsks, BeginsBehind, CodeAsks}
use Rattle.dj_starts.specs.Births.{IsBound}
use Rattle.dj_starts.specs.Marks.{MarksMore}
use Rattle.dj_starts.proofs.Marking.{none_more, both_more}

-- a list from a place on, by the item there
pub from_item : {X : Type 0} (xs : List X) (i : ℕ) (x : X) → i < length xs → x ≡ get_or xs i x → drop i xs ≡ x ∷ drop (i + 1) xs
from_item xs i x within is = drop_more xs i x within ∙ ap (λ y. y ∷ drop (i + 1) xs) (sym is)

-- one entry more
pub table_step : (handlers : List Handler) (i : ℕ) (x : Handler) → i < length handlers → x ≡ get_or handlers i x → (a b c d after : List Bool) → MarksMore a b (λ pc. pc ≡ x.start) → MarksMore b c (λ pc. pc ≡ x.end) → MarksMore c d (λ pc. pc ≡ x.target) → MarksMore d after (TableAsks (drop (i + 1) handlers)) → MarksMore a after (TableAsks (drop i handlers))
table_step handlers i x within is a b c d after start end target more =
    let rest = TableAsks (drop (i + 1) handlers) in
    subst (λ entries. MarksMore a after (TableAsks entries)) (sym (from_item handlers i x within is))
    (both_more a b after (λ pc. pc ≡ x.start) (λ pc. (pc ≡ x.end) ⊎ ((pc ≡ x.target) ⊎ rest pc)) start
    (both_more b c after (λ pc. pc ≡ x.end) (λ pc. (pc ≡ x.target) ⊎ rest pc) end
    (both_more c d after (λ pc. pc ≡ x.target) rest target more)))

-- behind the last entry nothing is asked for
pub table_end : (handlers : List Handler) (i : ℕ) (marks : List Bool) → length handlers ≤ i → MarksMore marks marks (TableAsks (drop i handlers))
table_end handlers i marks past = rw (drop_all i handlers past) (none_more marks (TableAsks []) (λ pc within asked. asked))

pub frames_step : (frames : List code_frame.Frame) (i : ℕ) → map view_frame (drop (i + 1) frames) ≡ drop 1 (map view_frame (drop i frames))
frames_step frames i = ap (map view_frame) (sym (drop-drop 1 i frames)) ∙ sym (drop-map view_frame 1 (drop i frames))

-- one instruction more
pub code_step : (handlers : List Handler) (all : List (ℕ × declared.Instruction)) (frames : List code_frame.Frame) (i : ℕ) (at : ℕ × declared.Instruction) → i < length all → at ≡ get_or all i at → (a b c after : List Bool) → MarksMore a b (Contains (targets_of (view_instruction at.1))) → MarksMore b c (BeginsBehind handlers at.0 (view_instruction at.1) (map view_frame (drop i frames)) (first_pc (view_instructions (drop (i + 1) all)))) → MarksMore c after (CodeAsks handlers (view_instructions (drop (i + 1) all)) (map view_frame (drop (i + 1) frames))) → MarksMore a after (CodeAsks handlers (view_instructions (drop i all)) (map view_frame (drop i frames)))
code_step handlers all frames i at within is a b c after targets behind more =
    let these = Contains (targets_of (view_instruction at.1)) in
    let next = BeginsBehind handlers at.0 (view_instruction at.1) (map view_frame (drop i frames)) (first_pc (view_instructions (drop (i + 1) all))) in
    let rest = λ (fs : List Frame). CodeAsks handlers (view_instructions (drop (i + 1) all)) fs in
    subst (λ l. MarksMore a after (CodeAsks handlers (view_instructions l) (map view_frame (drop i frames)))) (sym (from_item all i at within is))
    (subst (λ fs. MarksMore a after (λ pc. these pc ⊎ (next pc ⊎ rest fs pc))) (frames_step frames i)
    (both_more a b after these (λ pc. next pc ⊎ rest (map view_frame (drop (i + 1) frames)) pc) targets
    (both_more b c after next (rest (map view_frame (drop (i + 1) frames))) behind more)))

-- behind the last instruction nothing is asked for
pub code_end : (handlers : List Handler) (all : List (ℕ × declared.Instruction)) (frames : List Frame) (i : ℕ) (marks : List Bool) → length all ≤ i → MarksMore marks marks (CodeAsks handlers (view_instructions (drop i all)) frames)
code_end handlers all frames i marks past = rw (drop_all i all past) (none_more marks (CodeAsks handlers [] frames) (λ pc within asked. asked))

-- one given frame more
pub given_step : (frames : List (ℕ × code_frame.Frame)) (i : ℕ) (x : ℕ × code_frame.Frame) → i < length frames → x ≡ get_or frames i x → (a b after : List Bool) → MarksMore a b (λ pc. pc ≡ x.0) → MarksMore b after (IsGiven (view_frames (drop (i + 1) frames))) → MarksMore a after (IsGiven (view_frames (drop i frames)))
given_step frames i x within is a b after here more =
    subst (λ given. MarksMore a after (IsGiven (view_frames given))) (sym (from_item frames i x within is)) (both_more a b after (λ pc. pc ≡ x.0) (IsGiven (view_frames (drop (i + 1) frames))) here more)

pub given_end : (frames : List (ℕ × code_frame.Frame)) (i : ℕ) (marks : List Bool) → length frames ≤ i → MarksMore marks marks (IsGiven (view_frames (drop i frames)))
given_end frames i marks past = rw (drop_all i frames past) (none_more marks (IsGiven []) (λ pc within asked. asked))

-- one range more
pub bound_step : (handlers : List Handler) (i : ℕ) (x : Handler) → i < length handlers → x ≡ get_or handlers i x → (a b c after : List Bool) → MarksMore a b (λ pc. pc ≡ x.start) → MarksMore b c (λ pc. pc ≡ x.end) → MarksMore c after (IsBound (drop (i + 1) handlers)) → MarksMore a after (IsBound (drop i handlers))
bound_step handlers i x within is a b c after start end more =
    let rest = IsBound (drop (i + 1) handlers) in
    subst (λ entries. MarksMore a after (IsBound entries)) (sym (from_item handlers i x within is))
    (both_more a b after (λ pc. pc ≡ x.start) (λ pc. (pc ≡ x.end) ⊎ rest pc) start (both_more b c after (λ pc. pc ≡ x.end) rest end more))

pub bound_end : (handlers : List Handler) (i : ℕ) (marks : List Bool) → length handlers ≤ i → MarksMore marks marks (IsBound (drop i handlers))
bound_end handlers i marks past = rw (drop_all i handlers past) (none_more marks (IsBound []) (λ pc within asked. asked))
