-- Whole expressions, by their parts.
use Rattle.std.proofs.Common.{◌≡◌, ◌+◌, ℕ, Bool, List, Some, replicate, sym, ap, ◌∙◌, subst}
use Rattle.std.specs.Prelude.{Result, Err, option_and_then}
use Rattle.dj_names.specs.Types as types
use Rattle.dj_names.specs.Types.{JType}
use Rattle.dj_syntax.specs.Trees.{Exp, Exps}
use Rattle.dj_syntax.specs.Trees as trees
use Rattle.dj_syntax.specs.declared.operator.Op.{Op}
use Rattle.dj_values.specs.declared.value.Value as code_value
use Rattle.dj_values.specs.Values.{Value}
use Rattle.dj_values.specs.Views.{view_value}
use Rattle.dj_values.specs.Fits.{element_of}
use Rattle.dj_values.specs.Outcomes.{Reply, State, Outcome, Is, bind, outside}
use Rattle.dj_meaning.specs.StaticTypes.{Context, Scope, count, array_of, plain, type_of}
use Rattle.dj_meaning.specs.Promotions.{typing_of, becomes_floating}
use Rattle.dj_meaning.specs.Objects.{element_read, array_made}
use Rattle.dj_meaning.specs.Operators.{operator_of}
use Rattle.dj_meaning.specs.Runs.{Store, Meaning, ◌>>=◌}
use Rattle.dj_meaning.specs.Expressions.{value, values, tested, either}
use Rattle.dj_outside.specs.declared.stop.Stop as code_stop
use Rattle.dj_outside.specs.Runs.{Ends}
use Rattle.dj_objects.proofs.Binding.{stops_bind}
use Rattle.dj_evaluating.specs.Operands.{behind_left, operation_in}
use Rattle.dj_evaluating.proofs.PartLemmas.{then_ends, then_stops, with_ends}
use Rattle.dj_evaluating.proofs.OperandLemmas.{operate_is}

module _ (context : Context) (scope : Scope) where
  abbrev of : Exp → Meaning Value
  of exp = value context scope exp

  -- ---- one operand

  module _ (operand : Exp) (operation : Value → Reply Value) (old middle : State Store) where
    abbrev pub operated : Meaning Value
    operated = of operand >>= λ found. outside context.headers (operation found)

    pub operand_ends : (result : Result code_value.Value code_stop.Stop) (found : Value) (reply : Reply Value) (new : State Store) → of operand old ≡ Is found middle → reply ≡ operation found → Ends view_value result new (outside context.headers reply middle) → Ends view_value result new (operated old)
    operand_ends result found reply new is replied ends =
        then_ends view_value view_value (of operand) (λ one. outside context.headers (operation one)) old middle result new found is (subst (λ one. Ends view_value result new (outside context.headers one middle)) replied ends)

    pub operand_stops : (stop : code_stop.Stop) → Ends view_value (Err stop) middle (of operand old) → Ends view_value (Err stop) middle (operated old)
    operand_stops stop ends = then_stops view_value view_value (of operand) (λ one. outside context.headers (operation one)) old middle stop ends

  -- ---- elements

  module _ (array index : Exp) (element : JType) (known : Some element ≡ option_and_then element_of (plain (type_of context scope array))) (old first : State Store) where
    abbrev at : Value → Value → Meaning Value
    at found place = outside context.headers (element_read found place)

    abbrev behind_array : Value → Meaning Value
    behind_array found = of index >>= at found

    within : {C : Type 0} (view : C → Value) (result : Result C code_stop.Stop) (new : State Store) → Ends view result new ((of array >>= behind_array) old) → Ends view result new (of (trees.Element array index) old)
    within view result new ends = with_ends view result (option_and_then element_of (plain (type_of context scope array))) element (λ one. of array >>= behind_array) old new known ends

    pub element_stops_array : (stop : code_stop.Stop) → Ends view_value (Err stop) first (of array old) → Ends view_value (Err stop) first (of (trees.Element array index) old)
    element_stops_array stop ends = within view_value (Err stop) first (then_stops view_value view_value (of array) behind_array old first stop ends)

    module _ (found : Value) (is : of array old ≡ Is found first) (second : State Store) where
      pub element_stops_index : (stop : code_stop.Stop) → Ends view_value (Err stop) second (of index first) → Ends view_value (Err stop) second (of (trees.Element array index) old)
      element_stops_index stop ends =
          within view_value (Err stop) second (then_ends view_value view_value (of array) behind_array old first (Err stop) second found is (then_stops view_value view_value (of index) (at found) first second stop ends))

      pub element_ends : (result : Result code_value.Value code_stop.Stop) (place : Value) (reply : Reply Value) (new : State Store) → of index first ≡ Is place second → reply ≡ element_read found place → Ends view_value result new (outside context.headers reply second)
          → Ends view_value result new (of (trees.Element array index) old)
      element_ends result place reply new so replied ends =
          within view_value result new (then_ends view_value view_value (of array) behind_array old first result new found is
          (then_ends view_value view_value (of index) (at found) first second result new place so (subst (λ one. Ends view_value result new (outside context.headers one second)) replied ends)))

  -- ---- new arrays

  module _ (sizes : Exps) (kind : JType) (more : ℕ) (kinds : List JType) (as_many : kinds ≡ replicate (count sizes) types.Int) (old middle : State Store) where
    abbrev made_of : List Value → Meaning Value
    made_of numbers = outside context.headers (array_made (array_of (count sizes + more) kind) numbers)

    pub array_stops : {A : Type 0} (view : A → List Value) (stop : code_stop.Stop) → Ends view (Err stop) middle (values context scope sizes kinds old) → Ends view_value (Err stop) middle (of (trees.NewArray kind sizes more) old)
    array_stops view stop ends =
        then_stops view view_value (values context scope sizes (replicate (count sizes) types.Int)) made_of old middle stop (subst (λ list. Ends view (Err stop) middle (values context scope sizes list old)) as_many ends)

    pub array_ends : (result : Result code_value.Value code_stop.Stop) (numbers : List Value) (array : JType) (reply : Reply Value) (new : State Store) → values context scope sizes kinds old ≡ Is numbers middle → array ≡ array_of (count sizes + more) kind → reply ≡ array_made array numbers
        → Ends view_value result new (outside context.headers reply middle) → Ends view_value result new (of (trees.NewArray kind sizes more) old)
    array_ends result numbers array reply new is typed replied ends =
        then_ends (λ (list : List Value). list) view_value (values context scope sizes (replicate (count sizes) types.Int)) made_of old middle result new numbers
        (ap (λ list. values context scope sizes list old) (sym as_many) ∙ is)
        (subst (λ one. Ends view_value result new (outside context.headers one middle)) (replied ∙ ap (λ one. array_made one numbers) typed) ends)

  -- ---- operators

  module _ (operator : Op) (left right : Exp) (floats : Bool) (becomes : floats ≡ becomes_floating (typing_of operator) (plain (type_of context scope left)) (plain (type_of context scope right))) (old first : State Store) where
    abbrev whole : Outcome Store Value
    whole = of (trees.Binary operator left right) old

    abbrev behind : Value → Meaning Value
    behind found = behind_left context.headers (operator_of operator) floats found (of right)

    whole_is : whole ≡ bind (of left old) behind
    whole_is =
        operate_is context.headers (of left) (of right) (plain (type_of context scope left)) (plain (type_of context scope right)) operator old
        ∙ ap (λ test. bind (of left old) (λ found. behind_left context.headers (operator_of operator) test found (of right))) (sym becomes)

    pub binary_stops_left : (stop : code_stop.Stop) → Ends view_value (Err stop) first (of left old) → Ends view_value (Err stop) first whole
    binary_stops_left stop ends = subst (λ run. Ends view_value (Err stop) first run) (sym whole_is) (stops_bind view_value view_value stop first (of left old) behind ends)

    module _ (found : Value) (is : of left old ≡ Is found first) where
      pub binary_behind : {C : Type 0} (view : C → Value) (result : Result C code_stop.Stop) (new : State Store) → Ends view result new (behind found first) → Ends view result new whole
      binary_behind view result new ends = subst (λ run. Ends view result new run) (sym (whole_is ∙ ap (λ run. bind run behind) is)) ends

      module _ (wanted : Value) (wants : behind found ≡ (of right >>= λ other. outside context.headers (operation_in (operator_of operator) wanted other))) (second : State Store) where
        pub binary_stops_right : (stop : code_stop.Stop) → Ends view_value (Err stop) second (of right first) → Ends view_value (Err stop) second whole
        binary_stops_right stop ends =
            binary_behind view_value (Err stop) second
            (subst (λ part. Ends view_value (Err stop) second (part first)) (sym wants)
            (then_stops view_value view_value (of right) (λ other. outside context.headers (operation_in (operator_of operator) wanted other)) first second stop ends))

        pub binary_ends : (result : Result code_value.Value code_stop.Stop) (other : Value) (reply : Reply Value) (new : State Store) → of right first ≡ Is other second → reply ≡ operation_in (operator_of operator) wanted other
            → Ends view_value result new (outside context.headers reply second) → Ends view_value result new whole
        binary_ends result other reply new so replied ends =
            binary_behind view_value result new
            (subst (λ part. Ends view_value result new (part first)) (sym wants)
            (then_ends view_value view_value (of right) (λ one. outside context.headers (operation_in (operator_of operator) wanted one)) first second result new other so
            (subst (λ one. Ends view_value result new (outside context.headers one second)) replied ends)))

  -- ---- `a ? b : c`

  module _ (condition first second : Exp) (old middle : State Store) where
    abbrev chosen : Bool → Meaning Value
    chosen answer = either answer (of first) (of second)

    abbrev choice : Outcome Store Value
    choice = of (trees.Choice condition first second) old

    pub choice_stops : (stop : code_stop.Stop) → Ends view_value (Err stop) middle (of condition old) → Ends view_value (Err stop) middle choice
    choice_stops stop ends =
        stops_bind (λ (answer : Bool). answer) view_value stop middle (bind (of condition old) (tested context)) chosen (stops_bind view_value (λ (answer : Bool). answer) stop middle (of condition old) (tested context) ends)

    module _ (found : Value) (is : of condition old ≡ Is found middle) where
      pub choice_no_truth : (stop : code_stop.Stop) → Ends (λ (answer : Bool). answer) (Err stop) middle (tested context found middle) → Ends view_value (Err stop) middle choice
      choice_no_truth stop ends =
          subst (λ run. Ends view_value (Err stop) middle (bind (bind run (tested context)) chosen)) (sym is) (stops_bind (λ (answer : Bool). answer) view_value stop middle (tested context found middle) chosen ends)

      pub choice_ends : (result : Result code_value.Value code_stop.Stop) (answer : Bool) (new : State Store) → tested context found middle ≡ Is answer middle → Ends view_value result new (either answer (of first) (of second) middle) → Ends view_value result new choice
      choice_ends result answer new so ends =
          subst (λ run. Ends view_value result new run) (sym (ap (λ run. bind (bind run (tested context)) chosen) is ∙ ap (λ run. bind run chosen) so)) ends
