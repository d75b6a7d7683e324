-- A tree completes only in the ways of its form: by induction over statements.
use Rattle.std.proofs.Common.{ℕ, ◌≡◌, Bool, true, false, not, List, [], ◌∷◌, Option, Some, None, refl}
use Rattle.std.specs.Prelude.{◌&&◌, ◌||◌, if◌then◌else◌}
use Rattle.dj_names.specs.declared.header.Header.{Header}
use Rattle.dj_names.specs.Headers.{Name}
use Rattle.dj_names.specs.Types.{JType}
use Rattle.dj_syntax.specs.declared.variable.Var.{Var}
use Rattle.dj_syntax.specs.Trees.{Exp, Text, Truth, This, Variable, ClassOf, Field, Static, Element, Call, StaticCall, SuperCall, New, NewArray, Cast, InstanceOf, Negative, Not, Binary, Choice, Assign, Stms, Empty, And}
use Rattle.dj_syntax.specs.Trees as trees
use Rattle.dj_values.specs.Values.{Value, Int, Long, Null, Ref, Action, Answer, Given, Done, Thrown}
use Rattle.dj_values.specs.Deciding.{is_answer, is_throwable}
use Rattle.dj_values.specs.Outcomes.{Throws, More, Stuck, told, then_on, Reply, Gives, Halts, Asks, State, Stops, acted, answered, outside}
use Rattle.dj_meaning.specs.Fields.{Selection, Length, Member}
use Rattle.dj_meaning.specs.StaticTypes.{Context, Scope}
use Rattle.dj_meaning.specs.Objects.{with_object, field_written}
use Rattle.dj_meaning.specs.Runs.{Store, Meaning, pure, ◌>>=◌, fitted, assigned}
use Rattle.dj_meaning.specs.Expressions.{this_value, call_on, value, test}
use Rattle.dj_meaning.specs.Completions.{Completion, Normal, Break, Continue, Return, Misfit, thrown, returns_nothing, returns_value}
use Rattle.dj_meaning.specs.Declarations.{declared, within, locally, opened, passed_one, passed, initialised}
use Rattle.dj_meaning.specs.Targets.{Target}
use Rattle.dj_meaning.specs.Statements.{Place, First, Behind, Elsewhere, field_set, constructed}
use Rattle.dj_meaning.specs.Ways.{Ways, no_way, normally_if, both_of, repeated, is_true, ways, May, EndsSo}
use Rattle.dj_meaning.proofs.Ending.{EndsIn, ends-pure, ends-stop, ends-after, ends-either, ends-local, Leaves}

-- ---- lists

and_join : (one two three : Bool) → (one && (two && three)) ≡ true → ((one && two) && three) ≡ true
and_join true two three e = e
and_join false two three e = e

-- a way out of a part, or of one behind it, or of one behind both
or_join : (one falls two behind three : Bool) → (one || (falls && (two || (behind && three)))) ≡ true → ((one || (falls && two)) || ((falls && behind) && three)) ≡ true
or_join true falls two behind three e = e
or_join false true two behind three e = e
or_join false false two behind three e = e

pub join-way : (first second third : Ways) (completion : Completion) → May (both_of first (both_of second third)) completion → May (both_of (both_of first second) third) completion
join-way first second third Normal e = and_join first.falls second.falls third.falls e
join-way first second third (Break label) e = or_join (first.jumps label) first.falls (second.jumps label) second.falls (third.jumps label) e
join-way first second third (Continue label) e = or_join (first.goes_on label) first.falls (second.goes_on label) second.falls (third.goes_on label) e
join-way first second third (Return result) e = tt
join-way first second third Misfit e = tt

-- ---- replies without a result

-- whatever the answers
abbrev NeverGives : {A : Type 0} → Reply A → Type 0
NeverGives (Gives result) = ⊥
NeverGives (Halts why) = Unit {0}
NeverGives (Asks action next) = (answer : Answer) → NeverGives (next answer)

never-answered : (ways : Ways) (headers : List Header) (action : Action) (next : Answer → Meaning Completion) → ((answer : Answer) → EndsIn ways (next answer)) → (answers : List Answer) → EndsIn ways (answered headers action next answers)
never-answered ways headers action next h [] = record { ends = λ state. tt }
never-answered ways headers action next h (answer ∷ rest) = record { ends = λ state. fitted state (is_answer headers action answer) }
  where
    after : State Store → State Store
    after state = record { store = state.store; world = record { answers = rest; actions = state.world.actions } }

    fitted : (state : State Store) (test : Bool) → EndsSo ways (if test then next answer (after state) else Stops More state)
    fitted state true = (h answer).ends (after state)
    fitted state false = tt

ends-never : (ways : Ways) (headers : List Header) (reply : Reply Completion) → NeverGives reply → EndsIn ways (outside headers reply)
ends-never ways headers (Gives result) n = absurd n
ends-never ways headers (Halts why) n = ends-stop ways why
ends-never ways headers (Asks action next) n = record {
  ends = λ state.
      (never-answered ways headers action (λ answer. outside headers (next answer)) (λ answer. ends-never ways headers (next answer) (n answer)) state.world.answers).ends (acted action state);
}

never_told : (answer : Answer) → NeverGives (then_on {B = Completion} (told answer) (λ other. Halts Stuck))
never_told (Given one) = tt
never_told Done = tt
never_told (Thrown reference) = tt

never_thrown : (context : Context) (found : Value) → NeverGives (with_object {A = Completion} found (λ reference. Halts (if is_throwable context.headers reference then Throws reference else Stuck)))
never_thrown context (Int number) = tt
never_thrown context (Long number) = tt
never_thrown context Null = never_told
never_thrown context (Ref reference) = tt

pub ends-thrown : (context : Context) (found : Value) → EndsIn no_way (thrown context found)
ends-thrown context found = ends-never no_way context.headers (with_object found (λ reference. Halts (if is_throwable context.headers reference then Throws reference else Stuck))) (never_thrown context found)

-- ---- tests

leaves-any : (own : Option ℕ) (body : Ways) (falls : Bool) → falls ≡ true → (part : Meaning Bool) → Leaves own falls body part
leaves-any own body falls e part next h =
    ends-after (repeated own falls body) part (λ answer. ends-either (repeated own falls body) answer h (ends-pure (repeated own falls body) Normal e))

pub leaves-test : (context : Context) (scope : Scope) (own : Option ℕ) (body : Ways) (condition : Exp) → Leaves own (not (is_true condition)) body (test context scope condition)
leaves-test context scope own body (Truth true) next h = record { ends = h.ends }
leaves-test context scope own body (Truth false) next h = leaves-any own body true refl (test context scope (Truth false)) next h
leaves-test context scope own body (trees.Int number) next h = leaves-any own body true refl (test context scope (trees.Int number)) next h
leaves-test context scope own body (trees.Long number) next h = leaves-any own body true refl (test context scope (trees.Long number)) next h
leaves-test context scope own body (Text units) next h = leaves-any own body true refl (test context scope (Text units)) next h
leaves-test context scope own body trees.Null next h = leaves-any own body true refl (test context scope trees.Null) next h
leaves-test context scope own body This next h = leaves-any own body true refl (test context scope This) next h
leaves-test context scope own body (Variable variable) next h = leaves-any own body true refl (test context scope (Variable variable)) next h
leaves-test context scope own body (ClassOf kind) next h = leaves-any own body true refl (test context scope (ClassOf kind)) next h
leaves-test context scope own body (Field object name) next h = leaves-any own body true refl (test context scope (Field object name)) next h
leaves-test context scope own body (Static class name) next h = leaves-any own body true refl (test context scope (Static class name)) next h
leaves-test context scope own body (Element array index) next h = leaves-any own body true refl (test context scope (Element array index)) next h
leaves-test context scope own body (Call object name arguments) next h = leaves-any own body true refl (test context scope (Call object name arguments)) next h
leaves-test context scope own body (StaticCall class name arguments) next h = leaves-any own body true refl (test context scope (StaticCall class name arguments)) next h
leaves-test context scope own body (SuperCall above name arguments) next h = leaves-any own body true refl (test context scope (SuperCall above name arguments)) next h
leaves-test context scope own body (New class arguments) next h = leaves-any own body true refl (test context scope (New class arguments)) next h
leaves-test context scope own body (NewArray kind sizes more) next h = leaves-any own body true refl (test context scope (NewArray kind sizes more)) next h
leaves-test context scope own body (Cast kind operand) next h = leaves-any own body true refl (test context scope (Cast kind operand)) next h
leaves-test context scope own body (InstanceOf operand kind) next h = leaves-any own body true refl (test context scope (InstanceOf operand kind)) next h
leaves-test context scope own body (Negative operand) next h = leaves-any own body true refl (test context scope (Negative operand)) next h
leaves-test context scope own body (Not operand) next h = leaves-any own body true refl (test context scope (Not operand)) next h
leaves-test context scope own body (Binary operator left right) next h = leaves-any own body true refl (test context scope (Binary operator left right)) next h
leaves-test context scope own body (Choice one first second) next h = leaves-any own body true refl (test context scope (Choice one first second)) next h
leaves-test context scope own body (Assign variable new) next h = leaves-any own body true refl (test context scope (Assign variable new)) next h

-- ---- parts of statements

-- whatever comes before, it goes on
pub ends-normally : {A : Type 0} (part : Meaning A) → EndsIn (normally_if true) (part >>= λ dropped. pure Normal)
ends-normally part = ends-after (normally_if true) part (λ dropped. ends-pure (normally_if true) Normal refl)

pub ends-locally : (these : Ways) (one : Option (Var × JType)) {part : Meaning Completion} → EndsIn these part → EndsIn these (locally one part)
ends-locally these None h = h
ends-locally these (Some one) h = ends-local these one.0 h

ends-passed_one : (these : Ways) (scope : Scope) (one : Option (Var × JType)) {next : Meaning Completion} → EndsIn these next → EndsIn these (passed_one scope one next)
ends-passed_one these scope None h = h
ends-passed_one these scope (Some one) h = ends-local these one.0 (ends-after these (opened scope one.0) (λ done. h))

pub ends-passed : (these : Ways) (scope : Scope) (list : Stms) {next : Meaning Completion} → EndsIn these next → EndsIn these (passed scope list next)
ends-passed these scope Empty h = h
ends-passed these scope (And first rest) h = ends-passed_one these scope (declared first) (ends-passed these (within (declared first) scope) rest h)

pub ends-initialised : (context : Context) (scope : Scope) (variable : Var) (initial : Option Exp) → EndsIn (normally_if true) (initialised context scope variable initial)
ends-initialised context scope variable None = ends-pure (normally_if true) Normal refl
ends-initialised context scope variable (Some initial) = ends-normally (assigned context.headers scope variable (value context scope initial))

pub ends-field_set : (context : Context) (name : Name) (object new : Meaning Value) (selection : Selection) → EndsIn (normally_if true) (field_set context name object new selection)
ends-field_set context name object new Length = ends-stop (normally_if true) Stuck
ends-field_set context name object new (Member class field) =
    ends-after (normally_if true) object (λ found. ends-after (normally_if true) (new >>= fitted context.headers field.type) (λ kept.
    ends-normally (outside context.headers (field_written class name field found kept))))

pub ends-constructed : (context : Context) (place : Place) (asked : Option Target) (arguments : List JType → Meaning (List Value)) → EndsIn (normally_if true) (constructed context place asked arguments)
ends-constructed context First asked arguments =
    ends-either (normally_if true) context.constructs (ends-normally (call_on context asked (this_value context) arguments)) (ends-stop (normally_if true) Stuck)
ends-constructed context (Behind label) asked arguments = ends-stop (normally_if true) Stuck
ends-constructed context Elsewhere asked arguments = ends-stop (normally_if true) Stuck

pub ends-returns_nothing : (result : Option JType) → EndsIn no_way (returns_nothing result)
ends-returns_nothing None = ends-pure no_way (Return None) tt
ends-returns_nothing (Some type) = ends-pure no_way Misfit tt

pub ends-returns_value : (context : Context) (result : Option JType) (value : Value) → EndsIn no_way (returns_value context result value)
ends-returns_value context None value = ends-pure no_way Misfit tt
ends-returns_value context (Some type) value = ends-after no_way (fitted context.headers type value) (λ result. ends-pure no_way (Return (Some result)) tt)
