-- How the code's values, actions, answers and traces are seen as plain data.
use Rattle.std.specs.Prelude.{List, map, option_map}
use Rattle.dj_names.specs.Types.{view_type, view_descriptor}
use Rattle.dj_values.specs.declared.reference.RefId as code_id
use Rattle.dj_values.specs.declared.reference.RefId.TheVariants as ids
use Rattle.dj_values.specs.declared.reference.RefValue as code_reference
use Rattle.dj_values.specs.declared.value.Value as code_value
use Rattle.dj_values.specs.declared.value.Value.TheVariants as values
use Rattle.dj_values.specs.declared.action.InvokeKind as code_kind
use Rattle.dj_values.specs.declared.action.InvokeKind.TheVariants as kinds
use Rattle.dj_values.specs.declared.action.Action as code_action
use Rattle.dj_values.specs.declared.action.Action.TheVariants as actions
use Rattle.dj_values.specs.declared.answer.Answer as code_answer
use Rattle.dj_values.specs.declared.answer.Answer.TheVariants as answers
use Rattle.dj_values.specs.declared.show.End as code_end
use Rattle.dj_values.specs.declared.show.End.TheVariants as ends
use Rattle.dj_values.specs.declared.show.Show as code_show
use Rattle.dj_values.specs.Values.{RefId, Numbered, Text, RefValue, Value, Int, Long, Null, Ref, InvokeKind, Virtual, Interface, Static, Special, Action, New, NewArray, GetField, PutField, GetStatic, PutStatic, ArrayLoad, ArrayStore, Invoke, ClassConstant, Enter, Exit, Trap, Answer, Given, Done, Thrown, End, More, Return, Throw, Show}

-- what tells references apart
abbrev pub view_id : code_id.RefId → RefId
view_id (ids.Number number) = Numbered number
view_id (ids.Text units) = Text units

-- a reference
abbrev pub view_reference : code_reference.RefValue → RefValue
view_reference reference = record { id = view_id reference.id; class = view_type reference.class; length = reference.length }

-- a value
abbrev pub view_value : code_value.Value → Value
view_value (values.Int number) = Int number
view_value (values.Long number) = Long number
view_value values.Null = Null
view_value (values.Ref reference) = Ref (view_reference reference)

-- values in order
abbrev pub view_values : List code_value.Value → List Value
view_values = map view_value

-- how a call finds its method
abbrev pub view_kind : code_kind.InvokeKind → InvokeKind
view_kind kinds.Virtual = Virtual
view_kind kinds.Interface = Interface
view_kind kinds.Static = Static
view_kind kinds.Special = Special

-- an action
abbrev pub view_action : code_action.Action → Action
view_action (actions.New class) = New class
view_action (actions.NewArray kind sizes) = NewArray (view_type kind) sizes
view_action (actions.GetField object class name kind) = GetField (view_reference object) (view_type class) name (view_type kind)
view_action (actions.PutField object class name kind value) = PutField (view_reference object) (view_type class) name (view_type kind) (view_value value)
view_action (actions.GetStatic class name kind) = GetStatic (view_type class) name (view_type kind)
view_action (actions.PutStatic class name kind value) = PutStatic (view_type class) name (view_type kind) (view_value value)
view_action (actions.ArrayLoad array index) = ArrayLoad (view_reference array) index
view_action (actions.ArrayStore array index value) = ArrayStore (view_reference array) index (view_value value)
view_action (actions.Invoke kind owner name descriptor values) = Invoke (view_kind kind) (view_type owner) name (view_descriptor descriptor) (view_values values)
view_action (actions.ClassConstant kind) = ClassConstant (view_type kind)
view_action (actions.Enter object) = Enter (view_reference object)
view_action (actions.Exit object) = Exit (view_reference object)
view_action (actions.Trap class) = Trap class

-- an answer
abbrev pub view_answer : code_answer.Answer → Answer
view_answer (answers.Value value) = Given (view_value value)
view_answer answers.Done = Done
view_answer (answers.Thrown reference) = Thrown (view_reference reference)

-- how far a run has come
abbrev pub view_end : code_end.End → End
view_end ends.More = More
view_end (ends.Return value) = Return (option_map view_value value)
view_end (ends.Throw reference) = Throw (view_reference reference)

-- a trace
abbrev pub view_show : code_show.Show → Show
view_show show = record { actions = map view_action show.actions; end = view_end show.end }
