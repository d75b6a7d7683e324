-- Stores, constructor calls, monitors and switches: what statements are made of (JLS 8.8.7, 8.8.7.1, 14.11, 14.19, 15.26.1).
use Rattle.std.specs.Prelude.{ℕ, ℤ, Bool, true, false, ◌||◌, List, Option, Some, None, if◌then◌else◌}
use Rattle.std.specs.List.{list_any}
use Rattle.std.specs.Ordering.{int_eq}
use Rattle.dj_names.specs.Types.{JType}
use Rattle.dj_names.specs.Headers.{Name}
use Rattle.dj_syntax.specs.Trees.{Groups, NoGroups, AndGroup}
use Rattle.dj_values.specs.Values.{Value}
use Rattle.dj_values.specs.Outcomes.{Reply, Gives, outside}
use Rattle.dj_meaning.specs.Fields.{Selection, Length, Member}
use Rattle.dj_meaning.specs.Targets.{Target}
use Rattle.dj_meaning.specs.StaticTypes.{Context}
use Rattle.dj_meaning.specs.Objects.{with_int, with_object, field_written, element_written}
use Rattle.dj_meaning.specs.Runs.{Meaning, pure, stuck, ◌>>=◌, fitted}
use Rattle.dj_meaning.specs.Expressions.{this_value, call_on, value}
use Rattle.dj_meaning.specs.Completions.{Completion, Normal, holding}

-- where a statement stands: at the beginning of a body, right behind a label, or elsewhere
pub data Place : Type 0 where
  First : Place
  Behind : ℕ → Place
  Elsewhere : Place

-- the label right before a statement
abbrev pub label_at : Place → Option ℕ
label_at First = None
label_at (Behind label) = Some label
label_at Elsewhere = None

-- an operation that gives nothing, or whose result is dropped
abbrev pub does : Context → Reply (Option Value) → Meaning Completion
does context reply = outside context.headers reply >>= λ dropped. pure Normal

-- a store to what a name selects of an object; the length of an array isn't assigned
abbrev pub field_set : Context → Name → Meaning Value → Meaning Value → Selection → Meaning Completion
field_set context name object new Length = stuck
field_set context name object new (Member class field) =
    object >>= λ found. new >>= fitted context.headers field.type >>= λ kept. does context (field_written class name field found kept)

-- a store to an element, given the type of the array's elements
abbrev pub element_set : Context → Meaning Value → Meaning Value → Meaning Value → JType → Meaning Completion
element_set context array index new element =
    array >>= λ found. index >>= λ place. new >>= fitted context.headers element >>= λ kept. does context (element_written context.headers found place kept)

-- a call of another constructor on `this`, which stands at the beginning of a constructor's body alone (8.8.7, 8.8.7.1)
abbrev pub constructed : Context → Place → Option Target → (List JType → Meaning (List Value)) → Meaning Completion
constructed context First asked arguments =
    if context.constructs then (call_on context asked (this_value context) arguments >>= λ nothing. pure Normal) else stuck
constructed context (Behind label) asked arguments = stuck
constructed context Elsewhere asked arguments = stuck

-- a monitor that is no null, and a part that holds it
abbrev pub synchronized : Context → Meaning Completion → Value → Meaning Completion
synchronized context body monitor =
    outside context.headers (with_object monitor (λ reference. Gives reference)) >>= λ reference. holding context.headers reference body

-- ---- switches (14.11)

-- two labels are one, None for `default`
abbrev pub is_same_label : Option ℤ → Option ℤ → Bool
is_same_label None None = true
is_same_label None (Some second) = false
is_same_label (Some first) None = false
is_same_label (Some first) (Some second) = int_eq first second

-- a group has a label
abbrev pub has_label : Option ℤ → List (Option ℤ) → Bool
has_label wanted = list_any (is_same_label wanted)

-- some group has a label
abbrev pub is_labelled : Option ℤ → Groups → Bool
is_labelled wanted NoGroups = false
is_labelled wanted (AndGroup labels body rest) = has_label wanted labels || is_labelled wanted rest

-- the label that a number leads to: its own, or else `default`, or none
abbrev pub label_for : Groups → ℤ → Option (Option ℤ)
label_for groups number =
    if is_labelled (Some number) groups then Some (Some number) else if is_labelled None groups then Some None else None

-- the number that is switched on
abbrev pub number_of : Value → Reply ℤ
number_of value = with_int value Gives

-- on from where a number leads; where it leads nowhere the switch completes
abbrev pub switched : (Option ℤ → Meaning Completion) → Option (Option ℤ) → Meaning Completion
switched go None = pure Normal
switched go (Some label) = go label
