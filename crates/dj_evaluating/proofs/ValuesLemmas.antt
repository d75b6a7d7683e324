-- Values of expressions where types are wanted, one after another.
use Rattle.std.proofs.Common.{arith, ◌≡◌, ℕ, ◌+◌, ◌-◌, ◌<◌, ◌≤◌, List, [], ◌∷◌, ◌++◌, length, map, take, drop, get_or, slice_index_or, refl, sym, ap, ◌∙◌, subst}
use Rattle.std.specs.Prelude.{Err}
use Rattle.std.proofs.Math.Seq.{take-length}
use Rattle.std.proofs.lemmas.List.{append-nil, append_assoc, map_push, drop_more, drop_all}
use Rattle.dj_names.specs.declared.types.JType as code_type
use Rattle.dj_names.specs.Types.{JType, view_type, view_types}
use Rattle.dj_syntax.specs.declared.expression.Exp as code_exp
use Rattle.dj_syntax.specs.Trees.{view_exp, view_exps}
use Rattle.dj_values.specs.declared.value.Value as code_value
use Rattle.dj_values.specs.Values.{Value}
use Rattle.dj_values.specs.Views.{view_value, view_values}
use Rattle.dj_values.specs.Outcomes.{Stuck, State, Outcome, Is, Stops, bind}
use Rattle.dj_meaning.specs.StaticTypes.{Context, Scope}
use Rattle.dj_meaning.specs.Runs.{Store, Meaning, ◌>>=◌, fitted}
use Rattle.dj_meaning.specs.Expressions.{value, values}
use Rattle.dj_outside.specs.declared.stop.Stop as code_stop
use Rattle.dj_outside.specs.Runs.{Ends}
use Rattle.dj_objects.proofs.Binding.{stops_bind}

-- types of which one is left begin with it
pub first_type : (kinds : List code_type.JType) (first : code_type.JType) → 1 ≤ length kinds → first ≡ slice_index_or kinds 0 first → view_types kinds ≡ view_type first ∷ view_types (take (length kinds - 1) (drop 1 kinds))
first_type [] first some is = elim some [ ]
first_type (kind ∷ rest) first some is = ap (λ it. view_type it ∷ map view_type rest) (sym is) ∙ ap (λ list. view_type first ∷ map view_type list) (sym (ap (λ count. take count rest) less ∙ take-length rest))
  where
    less : length (kind ∷ rest) - 1 ≡ length rest
    less = omega arith

-- values in front of those that an outcome has
abbrev pub in_front : List code_value.Value → Outcome Store (List Value) → Outcome Store (List Value)
in_front front outcome = bind outcome (λ more. Is (view_values front ++ more))

in_front-none : (outcome : Outcome Store (List Value)) → outcome ≡ in_front [] outcome
in_front-none (Is more state) = refl
in_front-none (Stops why state) = refl

in_front-push : (front : List code_value.Value) (one : code_value.Value) (outcome : Outcome Store (List Value)) → in_front front (bind outcome (λ more. Is (view_value one ∷ more))) ≡ in_front (front ++ one ∷ []) outcome
in_front-push front one (Stops why state) = refl
in_front-push front one (Is more state) =
    ap (λ list. Is list state) (sym (append_assoc (view_values front) (view_value one ∷ []) more) ∙ ap (λ list. list ++ more) (sym (map_push view_value front one)))

module _ (context : Context) (scope : Scope) (exps : List code_exp.Exp) where
  -- the values of the expressions from a place on
  abbrev pub left : ℕ → List JType → Meaning (List Value)
  left i types = values context scope (view_exps (drop i exps)) types

  left-more : (i : ℕ) (exp : code_exp.Exp) (type : JType) (types : List JType) (state : State Store) → i < length exps → exp ≡ get_or exps i exp
      → left i (type ∷ types) state ≡ bind ((value context scope (view_exp exp) >>= fitted context.headers type) state) (λ one. left (i + 1) types >>= λ more. Is (one ∷ more))
  left-more i exp type types state within is =
      ap (λ list. values context scope (view_exps list) (type ∷ types) state) (drop_more exps i exp within)
      ∙ ap (λ e. bind ((value context scope (view_exp e) >>= fitted context.headers type) state) (λ one. left (i + 1) types >>= λ more. Is (one ∷ more))) (sym is)

  pub values_begin : (outcome : Outcome Store (List Value)) → outcome ≡ in_front [] outcome
  values_begin = in_front-none

  pub values_more : (whole : Outcome Store (List Value)) (i : ℕ) (exp : code_exp.Exp) (front : List code_value.Value) (one : code_value.Value) (all : List JType) (type : JType) (types : List JType) (state after : State Store)
      → i < length exps → exp ≡ get_or exps i exp → all ≡ type ∷ types → (value context scope (view_exp exp) >>= fitted context.headers type) state ≡ Is (view_value one) after
      → whole ≡ in_front front (left i all state) → whole ≡ in_front (front ++ one ∷ []) (left (i + 1) types after)
  values_more whole i exp front one all type types state after within is begins evaluated so_far =
      so_far ∙ ap (λ list. in_front front (left i list state)) begins ∙ ap (in_front front) (left-more i exp type types state within is)
      ∙ ap (λ outcome. in_front front (bind outcome (λ one. left (i + 1) types >>= λ more. Is (one ∷ more)))) evaluated
      ∙ in_front-push front one (left (i + 1) types after)

  pub values_stop : (whole : Outcome Store (List Value)) (i : ℕ) (exp : code_exp.Exp) (front : List code_value.Value) (stop : code_stop.Stop) (all : List JType) (type : JType) (types : List JType) (state after : State Store)
      → i < length exps → exp ≡ get_or exps i exp → all ≡ type ∷ types → Ends view_value (Err stop) after ((value context scope (view_exp exp) >>= fitted context.headers type) state)
      → whole ≡ in_front front (left i all state) → Ends view_values (Err stop) after whole
  values_stop whole i exp front stop all type types state after within is begins evaluated so_far =
      subst (λ outcome. Ends view_values (Err stop) after outcome)
      (sym (so_far ∙ ap (λ list. in_front front (left i list state)) begins ∙ ap (in_front front) (left-more i exp type types state within is)))
      (stops_bind view_values view_values stop after (bind ((value context scope (view_exp exp) >>= fitted context.headers type) state) (λ one. left (i + 1) types >>= λ more. Is (one ∷ more))) (λ more. Is (view_values front ++ more))
      (stops_bind view_value view_values stop after ((value context scope (view_exp exp) >>= fitted context.headers type) state) (λ one. left (i + 1) types >>= λ more. Is (one ∷ more)) evaluated))

  -- no type for one more expression
  pub values_short : (whole : Outcome Store (List Value)) (i : ℕ) (exp : code_exp.Exp) (front : List code_value.Value) (all : List JType) (state : State Store) → i < length exps → all ≡ [] → whole ≡ in_front front (left i all state) → whole ≡ Stops Stuck state
  values_short whole i exp front all state within none so_far =
      so_far ∙ ap (λ list. in_front front (left i list state)) none ∙ ap (λ list. in_front front (values context scope (view_exps list) [] state)) (drop_more exps i exp within)

  -- no expression for one more type
  pub values_long : (whole : Outcome Store (List Value)) (i : ℕ) (front : List code_value.Value) (all : List JType) (state : State Store) → length exps ≤ i → 1 ≤ length all → whole ≡ in_front front (left i all state) → whole ≡ Stops Stuck state
  values_long whole i front [] state past some so_far = elim some [ ]
  values_long whole i front (type ∷ types) state past some so_far =
      so_far ∙ ap (λ list. in_front front (values context scope (view_exps list) (type ∷ types) state)) (drop_all i exps past)

  pub values_end : (whole : Outcome Store (List Value)) (i : ℕ) (front : List code_value.Value) (all : List JType) (state : State Store) → length exps ≤ i → all ≡ [] → whole ≡ in_front front (left i all state) → whole ≡ Is (view_values front) state
  values_end whole i front all state past none so_far =
      so_far ∙ ap (λ list. in_front front (left i list state)) none ∙ ap (λ list. in_front front (values context scope (view_exps list) [] state)) (drop_all i exps past)
      ∙ ap (λ list. Is list state) (append-nil (view_values front))
