-- Instructions by their places in code: in which order they stand, what stands before each, and the frame of each in a table.
use Rattle.std.proofs.Common.{◌≡◌, ℕ, zero, suc, ◌+◌, ◌<◌, ◌==◌, Bool, true, false, List, [], ◌∷◌, ◌++◌, drop, length, reverse, Contains, Option, Some, None, ◌⊎◌, inl, inr, refl, sym, ap, ◌∙◌, subst, arith, ne_eqb}
use Rattle.std.specs.Prelude.{if◌then◌else◌, slice_get, is_none, ◌&&◌}
use Rattle.std.proofs.lemmas.Bool.{cases_order, eq-eqb, eqb-true}
use Rattle.std.proofs.lemmas.List.{reverse-append}
use Rattle.dj_names.specs.declared.header.Header.{Header}
use Rattle.dj_names.specs.Types.{JType, parameters_of, result_of}
use Rattle.dj_names.specs.MethodNames.{is_constructor}
use Rattle.dj_instructions.specs.Instructions.{Instruction, Instructions, IsRising, IsRisingFrom, MethodRef, InvokeSpecial, instruction_at}
use Rattle.dj_frames.specs.Frames.{Tag, Top, Int, Float, Double, Long, Null, UnbornThis, Object, Unborn, Frame}
use Rattle.dj_code.specs.declared.method_code.Handler.{Handler}
use Rattle.dj_code.specs.MethodCode.{Code}
use Rattle.dj_code.specs.Targets.{targets_of}
use Rattle.dj_tags.specs.Goes.{Assignability, Working, reversed, top_down}
use Rattle.dj_effects.specs.Works.{Never}
use Rattle.dj_effects.specs.Spelled.{is_spelled}
use Rattle.dj_effects.specs.Operands.{HasOperands}
use Rattle.dj_effects.specs.Rows.{arguments, birth, super_call, work}
use Rattle.dj_starts.specs.declared.roles.Role.{Role}
use Rattle.dj_starts.specs.Births as births
use Rattle.dj_starts.specs.Births.{role_of, first_role, Between, constructed_by, unborn_of, ConstructsFirst, Meets}
use Rattle.dj_starts.specs.Edges.{first_pc}
use Rattle.dj_starts.specs.Starts.{CodeAsks, BeginsBehind}
use Rattle.dj_bytecode.specs.Machine.{code_from}
use Rattle.dj_verify.specs.Table.{flow_behind, AreFrames}
use Rattle.dj_rebuildable.specs.Walking.{atoms_behind}
use Rattle.dj_rebuildable.proofs.Strict.{many-arguments}
use Rattle.dj_blocks_shown.proofs.Walking.{at-least, rising-from}
use Rattle.dj_standing.specs.Standing.{pushed_before}
use Rattle.dj_standing.proofs.Tags.{first_of, Constructs}

nothing-is : {A P : Type 0} (first : A) (rest : List A) → [] ≡ first ∷ rest → P
nothing-is first rest e = absurd (no first rest e)
  where
    no : {A : Type 0} (first : A) (rest : List A) → [] ≡ first ∷ rest → ⊥
    no first rest e = cc

pub head-is : {A : Type 0} (one other : A) (more rest : List A) → one ∷ more ≡ other ∷ rest → one ≡ other
head-is one other more rest e = cc

pub tail-is : {A : Type 0} (one other : A) (more rest : List A) → one ∷ more ≡ other ∷ rest → more ≡ rest
tail-is one other more rest e = cc

pub some-same : {A : Type 0} (one other : A) → Some one ≡ Some other → one ≡ other
some-same one other e = cc

-- ---- order

later-place : (one : ℕ × Instruction) (more : Instructions) (other : ℕ × Instruction) (rest list : Instructions) (least place after : ℕ) → IsRisingFrom least list → drop place list ≡ one ∷ more → drop after list ≡ other ∷ rest → place < after → one.0 < other.0
later-place one more other rest [] least zero after rising e f less = nothing-is one more e
later-place one more other rest [] least (suc place) after rising e f less = nothing-is one more e
later-place one more other rest (first ∷ list) least zero zero rising e f less = absurd (omega (arith, less))
later-place one more other rest (first ∷ list) least zero (suc after) rising e f less =
    let above = at-least other rest list (first.0 + 1) after rising.1 f in
    let same : first.0 ≡ one.0 = ap (λ (at : ℕ × Instruction). at.0) (head-is first one list more e) in
    omega (arith, above, same)
later-place one more other rest (first ∷ list) least (suc place) zero rising e f less = absurd (omega (arith, less))
later-place one more other rest (first ∷ list) least (suc place) (suc after) rising e f less = later-place one more other rest list (first.0 + 1) place after rising.1 e f (omega (arith, less))

-- where one instruction stands before another by its offset
pub place-before : (one : ℕ × Instruction) (more : Instructions) (other : ℕ × Instruction) (rest list : Instructions) (place after : ℕ) → IsRising list → drop place list ≡ one ∷ more → drop after list ≡ other ∷ rest → one.0 < other.0 → place < after
place-before one more other rest list place after rising e f less = by (cases_order place after)
  where
    by : (place ≡ after) ⊎ ((place < after) ⊎ (after < place)) → place < after
    by (inl same) = absurd (
        let both : other ∷ rest ≡ one ∷ more = sym f ∙ ap (λ at. drop at list) (sym same) ∙ e in
        let at : other.0 ≡ one.0 = ap (λ (at : ℕ × Instruction). at.0) (head-is other one rest more both) in omega (arith, at, less))
    by (inr (inl before)) = before
    by (inr (inr after_it)) = absurd (let back = later-place other rest one more list 0 after place (rising-from list rising) f e after_it in omega (arith, back, less))

pub pc-before : (one : ℕ × Instruction) (more : Instructions) (other : ℕ × Instruction) (rest list : Instructions) (place after : ℕ) → IsRising list → drop place list ≡ one ∷ more → drop after list ≡ other ∷ rest → place < after → one.0 < other.0
pc-before one more other rest list place after rising e f less = later-place one more other rest list 0 place after (rising-from list rising) e f less

-- one offset is that of one place
pub one-place : (one : ℕ × Instruction) (more : Instructions) (other : ℕ × Instruction) (rest list : Instructions) (place after : ℕ) → IsRising list → drop place list ≡ one ∷ more → drop after list ≡ other ∷ rest → one.0 ≡ other.0 → place ≡ after
one-place one more other rest list place after rising e f same = by (cases_order place after)
  where
    by : (place ≡ after) ⊎ ((place < after) ⊎ (after < place)) → place ≡ after
    by (inl at) = at
    by (inr (inl before)) = absurd (let less = later-place one more other rest list 0 place after (rising-from list rising) e f before in omega (arith, less, same))
    by (inr (inr behind)) = absurd (let less = later-place other rest one more list 0 after place (rising-from list rising) f e behind in omega (arith, less, same))

-- the instruction at 0 is the first
pub first-place : (first : ℕ × Instruction) (rest list : Instructions) (place : ℕ) → IsRising list → drop place list ≡ first ∷ rest → first.0 ≡ 0 → place ≡ 0
first-place first rest [] zero rising e here = refl
first-place first rest [] (suc place) rising e here = nothing-is first rest e
first-place first rest (one ∷ more) zero rising e here = refl
first-place first rest (one ∷ more) (suc place) rising e here = let above = at-least first rest more 1 place rising.1 e in absurd (omega (arith, above, here))

-- the code from an instruction's offset on
here-from : (first : ℕ × Instruction) (rest list : Instructions) (least place : ℕ) → IsRisingFrom least list → drop place list ≡ first ∷ rest → code_from first.0 list ≡ first ∷ rest
here-from first rest [] least zero rising e = nothing-is first rest e
here-from first rest [] least (suc place) rising e = nothing-is first rest e
here-from first rest (one ∷ more) least zero rising e =
    ap (code_from first.0) e ∙ ap (λ (test : Bool). if test then first ∷ rest else code_from first.0 rest) (eq-eqb first.0 first.0 refl)
here-from first rest (one ∷ more) least (suc place) rising e =
    let above = at-least first rest more (one.0 + 1) place rising.1 e in
    ap (λ (test : Bool). if test then one ∷ more else code_from first.0 more) (ne_eqb one.0 first.0 (λ same. omega (arith, same, above))) ∙ here-from first rest more (one.0 + 1) place rising.1 e

pub code-here : (first : ℕ × Instruction) (rest list : Instructions) (place : ℕ) → IsRising list → drop place list ≡ first ∷ rest → code_from first.0 list ≡ first ∷ rest
code-here first rest list place rising e = here-from first rest list 0 place (rising-from list rising) e

-- the place of an instruction that stands at an offset
pub placed : (list : Instructions) (pc : ℕ) (instruction : Instruction) → instruction_at list pc ≡ Some instruction → (place : ℕ) × (rest : Instructions) × (drop place list ≡ (pc, instruction) ∷ rest)
placed [] pc instruction e = absurd (cc)
placed (first ∷ list) pc instruction e = by (first.0 == pc) refl e (placed list pc instruction)
  where
    by : (test : Bool) → first.0 == pc ≡ test → (if test then Some first.1 else instruction_at list pc) ≡ Some instruction → (instruction_at list pc ≡ Some instruction → (place : ℕ) × (rest : Instructions) × (drop place list ≡ (pc, instruction) ∷ rest))
        → (place : ℕ) × (rest : Instructions) × (drop place (first ∷ list) ≡ (pc, instruction) ∷ rest)
    by true at e later = (0, list, ap (λ (one : ℕ). (one, first.1) ∷ list) (eqb-true first.0 pc at) ∙ ap (λ (one : Instruction). (pc, one) ∷ list) (some-same first.1 instruction e))
    by false at e later = let found = later e in (suc found.0, found.1, found.2)

-- ---- what stands before

-- the role of what stands before a place
abbrev pub role_at : Role → Instructions → ℕ → Role
role_at before [] place = before
role_at before (first ∷ rest) zero = before
role_at before (first ∷ rest) (suc place) = role_at (role_of first.1) rest place

-- how many constants and loads do
abbrev pub pushed_at : ℕ → Instructions → ℕ → ℕ
pushed_at count [] place = count
pushed_at count (first ∷ rest) zero = count
pushed_at count (first ∷ rest) (suc place) = pushed_at (atoms_behind first.1 count) rest place

role-first : (before : Role) (list : Instructions) → role_at before list zero ≡ before
role-first before [] = refl
role-first before (first ∷ rest) = refl

pub role-next : (before : Role) (list : Instructions) (place : ℕ) (first : ℕ × Instruction) (rest : Instructions) → drop place list ≡ first ∷ rest → role_at before list (suc place) ≡ role_of first.1
role-next before [] zero first rest e = nothing-is first rest e
role-next before [] (suc place) first rest e = nothing-is first rest e
role-next before (one ∷ more) zero first rest e = role-first (role_of one.1) more ∙ ap (λ (at : ℕ × Instruction). role_of at.1) (head-is one first more rest e)
role-next before (one ∷ more) (suc place) first rest e = role-next (role_of one.1) more place first rest e

pushed-first : (count : ℕ) (list : Instructions) → pushed_at count list zero ≡ count
pushed-first count [] = refl
pushed-first count (first ∷ rest) = refl

pub pushed-next : (count : ℕ) (list : Instructions) (place : ℕ) (first : ℕ × Instruction) (rest : Instructions) → drop place list ≡ first ∷ rest → pushed_at count list (suc place) ≡ atoms_behind first.1 (pushed_at count list place)
pushed-next count [] zero first rest e = nothing-is first rest e
pushed-next count [] (suc place) first rest e = nothing-is first rest e
pushed-next count (one ∷ more) zero first rest e = pushed-first (atoms_behind one.1 count) more ∙ ap (λ (at : ℕ × Instruction). atoms_behind at.1 count) (head-is one first more rest e)
pushed-next count (one ∷ more) (suc place) first rest e = pushed-next (atoms_behind one.1 count) more place first rest e

pushed-from : (count : ℕ) (list : Instructions) (least place : ℕ) (first : ℕ × Instruction) (rest : Instructions) → IsRisingFrom least list → drop place list ≡ first ∷ rest → pushed_before count list first.0 ≡ pushed_at count list place
pushed-from count [] least zero first rest rising e = nothing-is first rest e
pushed-from count [] least (suc place) first rest rising e = nothing-is first rest e
pushed-from count (one ∷ more) least zero first rest rising e =
    ap (λ (test : Bool). if test then count else pushed_before (atoms_behind one.1 count) more first.0) (eq-eqb one.0 first.0 (ap (λ (at : ℕ × Instruction). at.0) (head-is one first more rest e)))
pushed-from count (one ∷ more) least (suc place) first rest rising e =
    let above = at-least first rest more (one.0 + 1) place rising.1 e in
    ap (λ (test : Bool). if test then count else pushed_before (atoms_behind one.1 count) more first.0) (ne_eqb one.0 first.0 (λ same. omega (arith, same, above)))
    ∙ pushed-from (atoms_behind one.1 count) more (one.0 + 1) place first rest rising.1 e

pub pushed-is : (list : Instructions) (place : ℕ) (first : ℕ × Instruction) (rest : Instructions) → IsRising list → drop place list ≡ first ∷ rest → pushed_before 0 list first.0 ≡ pushed_at 0 list place
pushed-is list place first rest rising e = pushed-from 0 list 0 place first rest (rising-from list rising) e

-- what is asked of an instruction between two offsets
pub between-at : (Asked : ℕ → Role → Role → Role → Type 0) (start end : ℕ) (before : Role) (list : Instructions) (place : ℕ) (first : ℕ × Instruction) (rest : Instructions) → Between Asked start end before list → drop place list ≡ first ∷ rest
    → start < first.0 → first.0 < end → Asked first.0 (role_at before list place) (role_of first.1) (first_role rest)
between-at Asked start end before [] zero first rest between e above below = nothing-is first rest e
between-at Asked start end before [] (suc place) first rest between e above below = nothing-is first rest e
between-at Asked start end before (one ∷ more) zero first rest between e above below =
    by (head-is one first more rest e) (tail-is one first more rest e)
  where
    by : one ≡ first → more ≡ rest → Asked first.0 before (role_of first.1) (first_role rest)
    by same_head same_tail =
        subst (λ (list : Instructions). Asked first.0 before (role_of first.1) (first_role list)) same_tail
        ((subst (λ (at : ℕ × Instruction). start < at.0 → at.0 < end → Asked at.0 before (role_of at.1) (first_role more)) same_head between.0) above below)
between-at Asked start end before (one ∷ more) (suc place) first rest between e above below = between-at Asked start end (role_of one.1) more place first rest between.1 e above below

-- ---- a table

-- a frame of a table, and those behind it
pub record FrameAt (Goes : Assignability) (world : List Header) (code : Code) (entering : Option Working) (frames : List Working) (place : ℕ) (first : ℕ × Instruction) (rest : Instructions) (frame : Working) : Type 0 where
  pub flow : Option Working
  pub enters : place ≡ 0 → flow ≡ entering
  pub others : List Working
  pub are : AreFrames Goes world code flow (first ∷ rest) (frame ∷ others)
  pub behind : drop place frames ≡ frame ∷ others

pub frame-at : (Goes : Assignability) (world : List Header) (code : Code) (flow : Option Working) (list : Instructions) (frames : List Working) → AreFrames Goes world code flow list frames
    → (place : ℕ) (first : ℕ × Instruction) (rest : Instructions) (frame : Working) → drop place list ≡ first ∷ rest → slice_get frames place ≡ Some frame → FrameAt Goes world code flow frames place first rest frame
frame-at Goes world code flow list [] are place first rest frame e f = absurd (cc)
frame-at Goes world code flow [] (head ∷ frames) are place first rest frame e f = absurd are
frame-at Goes world code flow (one ∷ more) (head ∷ frames) are zero first rest frame e f =
    by (some-same head frame f)
  where
    by : head ≡ frame → FrameAt Goes world code flow (head ∷ frames) zero first rest frame
    by same = record {
      flow = flow;
      enters = λ here. refl;
      others = frames;
      are = subst (λ (list : Instructions). AreFrames Goes world code flow list (frame ∷ frames)) e (subst (λ (one_frame : Working). AreFrames Goes world code flow (one ∷ more) (one_frame ∷ frames)) same are);
      behind = ap (λ (one_frame : Working). one_frame ∷ frames) same;
    }
frame-at Goes world code flow (one ∷ more) (head ∷ frames) are (suc place) first rest frame e f =
    let later = frame-at Goes world code (flow_behind code (record { flow = flow; pc = one.0; instruction = one.1; rest = more }) head) more frames are.2 place first rest frame e f in
    record { flow = later.flow; enters = λ here. absurd (omega (arith, here)); others = later.others; are = later.are; behind = later.behind }

pub get-next : {A : Type 0} (list : List A) (place : ℕ) (first : A) (rest : List A) → drop place list ≡ first ∷ rest → slice_get list (suc place) ≡ slice_get rest 0
get-next [] zero first rest e = nothing-is first rest e
get-next [] (suc place) first rest e = nothing-is first rest e
get-next (one ∷ more) zero first rest e = ap (λ done. slice_get done 0) (tail-is one first more rest e)
get-next (one ∷ more) (suc place) first rest e = get-next more place first rest e

-- an instruction of a list has a frame where there are as many
pub frame-there : {A B : Type 0} (list : List A) (frames : List B) (place : ℕ) (first : A) (rest : List A) → length frames ≡ length list → drop place list ≡ first ∷ rest → (frame : B) × (slice_get frames place ≡ Some frame)
frame-there [] frames zero first rest many e = nothing-is first rest e
frame-there [] frames (suc place) first rest many e = nothing-is first rest e
frame-there (one ∷ more) [] place first rest many e = absurd (omega (arith, many))
frame-there (one ∷ more) (head ∷ frames) zero first rest many e = (head, refl)
frame-there (one ∷ more) (head ∷ frames) (suc place) first rest many e = frame-there more frames place first rest (omega (arith, many)) e

-- ---- what code asks

-- the place of what asks that a block begins
pub asked-at : (handlers : List Handler) (list : Instructions) (frames : List Frame) (pc : ℕ) → CodeAsks handlers list frames pc
    → (place : ℕ) × (first : ℕ × Instruction) × (rest : Instructions) × (some_frames : List Frame) × (drop place list ≡ first ∷ rest) × (Contains (targets_of first.1) pc ⊎ BeginsBehind handlers first.0 first.1 some_frames (first_pc rest) pc)
asked-at handlers [] frames pc asks = absurd asks
asked-at handlers (first ∷ rest) frames pc (inl to) = (0, first, rest, frames, refl, inl to)
asked-at handlers (first ∷ rest) frames pc (inr (inl behind)) = (0, first, rest, frames, refl, inr behind)
asked-at handlers (first ∷ rest) frames pc (inr (inr later)) =
    let found = asked-at handlers rest (drop 1 frames) pc later in (suc found.0, found.1, found.2, found.3, found.4, found.5)

-- ---- calls of constructors

reversed-is : {A : Type 0} (list : List A) → reversed list ≡ reverse list
reversed-is [] = refl
reversed-is (first ∷ rest) = ap (λ done. done ++ first ∷ []) (reversed-is rest) ∙ sym (reverse-append (first ∷ []) rest)

-- what stands under so many is what a list begins with behind them
first-under : (tags : List Tag) (count : ℕ) → slice_get tags count ≡ first_of (drop count tags)
first-under [] zero = refl
first-under [] (suc count) = refl
first-under (first ∷ rest) zero = refl
first-under (first ∷ rest) (suc count) = first-under rest count

unborn-is : (found : Option Tag) (start : ℕ) → unborn_of found ≡ Some start → found ≡ Some (Unborn start)
unborn-is None start e = absurd (cc)
unborn-is (Some Top) start e = absurd (cc)
unborn-is (Some Int) start e = absurd (cc)
unborn-is (Some Float) start e = absurd (cc)
unborn-is (Some Double) start e = absurd (cc)
unborn-is (Some Long) start e = absurd (cc)
unborn-is (Some Null) start e = absurd (cc)
unborn-is (Some UnbornThis) start e = absurd (cc)
unborn-is (Some (Object type)) start e = absurd (cc)
unborn-is (Some (Unborn at)) start e = ap (λ one. Some (Unborn one)) (some-same at start e)

-- a method whose call constructs an object
pub record IsBearing (method : MethodRef) (frame : Frame) (start : ℕ) : Type 0 where
  pub constructs : is_constructor method.name ≡ true
  pub nothing : result_of method.descriptor ≡ None
  pub there : first_of (drop (length (parameters_of method.descriptor)) (reversed frame.stack)) ≡ Some (Unborn start)

pub bearing-is : (method : MethodRef) (frame : Frame) (start : ℕ) → constructed_by method frame ≡ Some start → IsBearing method frame start
bearing-is method frame start e = by (is_constructor method.name) refl (result_of method.descriptor) refl e
  where
    by : (test : Bool) → is_constructor method.name ≡ test → (result : Option JType) → result_of method.descriptor ≡ result
        → (if test && is_none result then unborn_of (births.under (length (parameters_of method.descriptor)) frame.stack) else None) ≡ Some start → IsBearing method frame start
    by false name result given e = absurd (cc)
    by true name (Some type) given e = absurd (cc)
    by true name None given e = record {
      constructs = name;
      nothing = given;
      there = sym (first-under (reversed frame.stack) (length (parameters_of method.descriptor)))
          ∙ ap (λ (stack : List Tag). slice_get stack (length (parameters_of method.descriptor))) (reversed-is frame.stack) ∙ unborn-is (births.under (length (parameters_of method.descriptor)) frame.stack) start e;
    }

-- the instruction's work constructs the object too
pub works-so : (Goes : Assignability) (world : List Header) (code : Code) (pc : ℕ) (method : MethodRef) (frame : Frame) (start : ℕ) → constructed_by method frame ≡ Some start → HasOperands Goes world code pc (work code (InvokeSpecial method)) (top_down frame)
    → Constructs (work code (InvokeSpecial method)) (top_down frame) start
works-so Goes world code pc method frame start e has = spelled (is_spelled (InvokeSpecial method)) has
  where
    bears : IsBearing method frame start
    bears = bearing-is method frame start e

    many : length (arguments (parameters_of method.descriptor)) ≡ length (parameters_of method.descriptor)
    many = let found = many-arguments (parameters_of method.descriptor) [] in let plain = ap length (append-nothing (arguments (parameters_of method.descriptor))) in omega (arith, found, plain)
      where
        append-nothing : {A : Type 0} (list : List A) → list ++ [] ≡ list
        append-nothing [] = refl
        append-nothing (first ∷ rest) = ap (λ done. first ∷ done) (append-nothing rest)

    borne_so : (result : Option JType) → result ≡ None → Constructs (birth method.descriptor method.owner result) (top_down frame) start
    borne_so None given = ap (λ count. first_of (drop count (reversed frame.stack))) many ∙ bears.there
    borne_so (Some type) given = absurd (cc)

    named : (test : Bool) → test ≡ true → Constructs (if test then birth method.descriptor method.owner (result_of method.descriptor) else super_call code method.descriptor method.owner) (top_down frame) start
    named true e = borne_so (result_of method.descriptor) bears.nothing
    named false e = absurd (cc)

    spelled : (test : Bool) → HasOperands Goes world code pc (if test then (if is_constructor method.name then birth method.descriptor method.owner (result_of method.descriptor) else super_call code method.descriptor method.owner) else Never) (top_down frame)
        → Constructs (if test then (if is_constructor method.name then birth method.descriptor method.owner (result_of method.descriptor) else super_call code method.descriptor method.owner) else Never) (top_down frame) start
    spelled true has = named (is_constructor method.name) bears.constructs
    spelled false has = absurd has

-- the place of the call that a birth meets
pub met-at : (list : Instructions) (frames : List Frame) (start call : ℕ) → Meets list frames start call → (place : ℕ) × (first : ℕ × Instruction) × (rest : Instructions) × (drop place list ≡ first ∷ rest) × (first.0 ≡ call) × ConstructsFirst first.1 (drop place frames) start
met-at [] frames start call meets = absurd meets
met-at (first ∷ rest) frames start call (inl here) = (0, first, rest, refl, here.0, here.1)
met-at (first ∷ rest) frames start call (inr later) = let found = met-at rest (drop 1 frames) start call later in (suc found.0, found.1, found.2, found.3, found.4, subst (λ (some : List Frame). ConstructsFirst found.1.1 some start) (drop-one frames found.0) found.5)
  where
    drop-one : (frames : List Frame) (place : ℕ) → drop place (drop 1 frames) ≡ drop (suc place) frames
    drop-one [] zero = refl
    drop-one [] (suc place) = refl
    drop-one (first ∷ rest) zero = refl
    drop-one (first ∷ rest) (suc place) = refl
