-- A value that nobody wants: a call becomes a statement.
use Rattle.std.proofs.Common.{◌≡◌, ℕ, Bool, true, false, List, [], ◌∷◌, ◌++◌, Option, Some, None, refl, sym, ap, ◌∙◌}
use mathlib.Core.Path.{fun_ext}
use Rattle.std.specs.Prelude.{is_some, ◌&&◌, ◌==◌, if◌then◌else◌}
use Rattle.std.proofs.lemmas.Option.{same_Some}
use Rattle.dj_names.specs.Types.{StaticType}
use Rattle.dj_syntax.specs.declared.variable.Var.{Var}
use Rattle.dj_syntax.specs.Trees.{Exp, Stm, Text, Truth, This, Variable, ClassOf, Field, Static, Element, Call, StaticCall, SuperCall, New, NewArray, Cast, InstanceOf, Negative, Not, Binary, Choice, Assign, Run}
use Rattle.dj_syntax.specs.Trees as trees
use Rattle.dj_rebuilding.specs.Pending.{Pending, Kept, Whole, Born, Again, none, sets, emit, call, static_call, super_call, birth}
use Rattle.dj_rebuilt.specs.Moving.{type_words}
use Rattle.dj_rebuilt.specs.Rebuilding.{Plain, dropped, drop_words}
use Rattle.dj_rebuilt.specs.Sorts.{drop_forms}
use Rattle.dj_pending.specs.declared.entry.Entry as code_entry
use Rattle.dj_pending.specs.Heights.{is_quiet}
use Rattle.dj_pending.specs.Entries.{view_entry}
use Rattle.dj_pending.specs.Stacks.{top_down}
use Rattle.dj_pending.specs.Shifts.{moved_built, dropped_whole, dropped_built, is_droppable, call_run}
use Rattle.dj_pending.proofs.Quiet.{quiet}
use Rattle.dj_pending.proofs.Spills.{IsQuietEntry, AreQuiet, quiet-entry}

-- entries of the program assign nothing
quiet-below : (stack : List Pending) (lowest : Pending) → AreQuiet stack → IsQuietEntry lowest → AreQuiet (stack ++ lowest ∷ [])
quiet-below [] lowest all one = (one, tt)
quiet-below (top ∷ below) lowest all one = (all.0, quiet-below below lowest all.1 one)

pub quiet-stack : (entries : List code_entry.Entry) → AreQuiet (top_down entries)
quiet-stack [] = tt
quiet-stack (first ∷ rest) = quiet-below (top_down rest) (view_entry first) (quiet-stack rest) (quiet-entry first)

-- a statement that assigns nothing
as-none : (n : ℕ) (below : List Pending) (exp : Exp) (assigned : Var → Bool) → ((variable : Var) → assigned variable ≡ false) → emit none n below (Run exp) ≡ emit assigned n below (Run exp)
as-none n below exp assigned nothing = ap (λ (one : Var → Bool). emit one n below (Run exp)) (fun_ext (λ variable. sym (nothing variable)))

as-plain : (n : ℕ) (below : List Pending) (first second : Plain) → Some first ≡ Some second → emit (sets first.1) n below first.0 ≡ emit (sets second.1) n below second.0
as-plain n below first second e = ap (λ (one : Plain). emit (sets one.1) n below one.0) (same_Some first second e)

run-is : (n : ℕ) (below : List Pending) (exp : Exp) (statement : Plain) → dropped exp ≡ Some statement → is_quiet exp ≡ true → emit none n below (Run exp) ≡ emit (sets statement.1) n below statement.0
run-is n below (trees.Int number) statement e h = absurd (cc)
run-is n below (trees.Long number) statement e h = absurd (cc)
run-is n below (Text units) statement e h = absurd (cc)
run-is n below (Truth known) statement e h = absurd (cc)
run-is n below trees.Null statement e h = absurd (cc)
run-is n below This statement e h = absurd (cc)
run-is n below (Variable variable) statement e h = absurd (cc)
run-is n below (ClassOf kind) statement e h = absurd (cc)
run-is n below (Field object name) statement e h = absurd (cc)
run-is n below (Static class name) statement e h = absurd (cc)
run-is n below (Element array index) statement e h = absurd (cc)
run-is n below (Call object name arguments) statement e h =
    as-none n below (Call object name arguments) (sets (call {object = object} {name = name} {arguments = arguments})) (λ variable. quiet variable (Call object name arguments) h)
    ∙ as-plain n below (Run (Call object name arguments), call) statement e
run-is n below (StaticCall class name arguments) statement e h =
    as-none n below (StaticCall class name arguments) (sets (static_call {class = class} {name = name} {arguments = arguments})) (λ variable. quiet variable (StaticCall class name arguments) h)
    ∙ as-plain n below (Run (StaticCall class name arguments), static_call) statement e
run-is n below (SuperCall above name arguments) statement e h =
    as-none n below (SuperCall above name arguments) (sets (super_call {above = above} {name = name} {arguments = arguments})) (λ variable. quiet variable (SuperCall above name arguments) h)
    ∙ as-plain n below (Run (SuperCall above name arguments), super_call) statement e
run-is n below (New class arguments) statement e h =
    as-none n below (New class arguments) (sets (birth {class = class} {arguments = arguments})) (λ variable. quiet variable (New class arguments) h)
    ∙ as-plain n below (Run (New class arguments), birth) statement e
run-is n below (NewArray kind sizes more) statement e h = absurd (cc)
run-is n below (Cast kind operand) statement e h = absurd (cc)
run-is n below (InstanceOf operand kind) statement e h = absurd (cc)
run-is n below (Negative operand) statement e h = absurd (cc)
run-is n below (Not operand) statement e h = absurd (cc)
run-is n below (Binary operator first second) statement e h = absurd (cc)
run-is n below (Choice test first second) statement e h = absurd (cc)
run-is n below (Assign variable new) statement e h = absurd (cc)

whole-run : (two : Bool) (n : ℕ) (type : StaticType) (exp : Exp) (below : List Pending) (found : Option Plain) → dropped exp ≡ found → is_quiet exp ≡ true → is_some found && type_words type == drop_words two ≡ true
    → emit none n below (Run exp) ≡ dropped_whole two n type exp below found
whole-run two n type exp below None is h test = absurd (cc)
whole-run two n type exp below (Some statement) is h test =
    run-is n below exp statement is h
    ∙ ap (λ (one : Bool). if one then emit (sets statement.1) n below statement.0 else moved_built n (Whole type exp ∷ below) (drop_forms two)) (sym test)

-- a call on top is run
pub dropped-run : (two : Bool) (n : ℕ) (stack : List Pending) (words : ℕ) → words ≡ drop_words two → AreQuiet stack → is_droppable words stack ≡ true → call_run n stack ≡ dropped_built two n stack
dropped-run two n [] words of all test = absurd (cc)
dropped-run two n (Kept type atom ∷ below) words of all test = absurd (cc)
dropped-run two n (Whole type exp ∷ below) words of all test =
    whole-run two n type exp below (dropped exp) refl all.0 (ap (λ (one : ℕ). is_some (dropped exp) && type_words type == one) (sym of) ∙ test)
dropped-run two n (Born class ∷ below) words of all test = absurd (cc)
dropped-run two n (Again ∷ below) words of all test = absurd (cc)

whole-words : (two : Bool) (n : ℕ) (type : StaticType) (exp : Exp) (below : List Pending) (found : Option Plain) → is_some found && type_words type == drop_words two ≡ false
    → moved_built n (Whole type exp ∷ below) (drop_forms two) ≡ dropped_whole two n type exp below found
whole-words two n type exp below None test = refl
whole-words two n type exp below (Some statement) test =
    ap (λ (one : Bool). if one then emit (sets statement.1) n below statement.0 else moved_built n (Whole type exp ∷ below) (drop_forms two)) (sym test)

-- and words go otherwise
pub dropped-words : (two : Bool) (n : ℕ) (stack : List Pending) (words : ℕ) → words ≡ drop_words two → is_droppable words stack ≡ false → moved_built n stack (drop_forms two) ≡ dropped_built two n stack
dropped-words two n [] words of test = refl
dropped-words two n (Kept type atom ∷ below) words of test = refl
dropped-words two n (Whole type exp ∷ below) words of test =
    whole-words two n type exp below (dropped exp) (ap (λ (one : ℕ). is_some (dropped exp) && type_words type == one) (sym of) ∙ test)
dropped-words two n (Born class ∷ below) words of test = refl
dropped-words two n (Again ∷ below) words of test = refl
