-- What stands for calls on objects and of static methods does what they do.
use Rattle.std.proofs.Common.{◌≡◌, ℕ, Bool, true, false, ◌&&◌, length, List, [], ◌∷◌, map, Option, Some, refl, sym, ap, subst, ◌∙◌}
use Rattle.std.proofs.lemmas.Bool.{and_parts}
use Rattle.dj_names.specs.declared.header.Header.{Header}
use Rattle.dj_names.specs.Headers.{Name}
use Rattle.dj_names.specs.Types.{JType, Of, parameters_of}
use Rattle.dj_names.specs.Assignable.{IsReference}
use Rattle.dj_kinds.specs.Choice.{searched_class}
use Rattle.dj_syntax.specs.Trees.{Exp, Call}
use Rattle.dj_instructions.specs.Instructions.{MethodRef}
use Rattle.dj_values.specs.Values.{Value, InvokeKind, Static}
use Rattle.dj_values.specs.Deciding.{is_reference}
use Rattle.dj_values.specs.Outcomes.{State, bind, outside}
use Rattle.dj_bytecode.specs.Objects.{object_called}
use Rattle.dj_meaning.specs.Runs.{Store, present}
use Rattle.dj_meaning.specs.Expressions.{effect}
use Rattle.dj_meaning.specs.StaticTypes.{Context, Scope, typed}
use Rattle.dj_typing.specs.Sites.{is_whole_type}
use Rattle.dj_widened.specs.Meant.{AreAllWhole}
use Rattle.dj_loaded.specs.Loaded.{MayRun}
use Rattle.dj_places.specs.Constants.{Surroundings}
use Rattle.dj_rebuilding.specs.Pending.{Typed}
use Rattle.dj_rebuilt.specs.Standing.{AreOperands, IsNode}
use Rattle.dj_members_shown.specs.Sorts as raw
use Rattle.dj_members_shown.specs.Alone.{is_alone_in}
use Rattle.dj_members_shown.specs.Casts.{dressed}
use Rattle.dj_members_shown.specs.Meant.{IsOfObject}
use Rattle.dj_members_shown.specs.Operands as operand
use Rattle.dj_members_shown.specs.Operands.{all_dressed, dressed_types}
use Rattle.dj_members_shown.specs.Laws.{Runs}
use Rattle.dj_members_shown.proofs.Built.{object-built}
use Rattle.dj_members_shown.proofs.Calling.{with-value}
use Rattle.dj_blocks_formed.proofs.Blocks.{made-if}
use Rattle.dj_member_nodes.specs.Going as own
use Rattle.dj_member_nodes.specs.Going.{fits_in, all_fit, may_be_given, froms_of}
use Rattle.dj_member_nodes.specs.Nodes.{given_to, object_call}
use Rattle.dj_member_nodes.proofs.Fitting.{true-reference, all-fit-many, given-fit, given-whole}
use Rattle.dj_strict_entries.specs.Entries as strict
use Rattle.dj_strict_entries.specs.Replies.{GivesKept}
use Rattle.dj_member_nodes.proofs.Standing.{node-by}
use Rattle.dj_member_nodes.proofs.Operands.{same-exps, same-types, goes-where, all-go, typed-operands}

module _ (known : Surroundings) (context : Context) (runs : Runs known.headers context) (members : known.members ≡ context.members) (may : MayRun known.headers context.headers) (n : ℕ) (scope : Scope) where
  abbrev world : List Header
  world = known.headers

  -- no other method can be found through the class in which it is searched for
  abbrev only_in : MethodRef → Option Name → Bool
  only_in method searched = is_alone_in world context.members method.name searched (parameters_of method.descriptor)

  -- the arguments as the laws speak of them
  pub given-same : (method : MethodRef) (searched : Option Name) (are : List Typed) → given_to known method method.name searched are ≡ all_dressed world (only_in method searched) (strict.types_of are) (parameters_of method.descriptor) (strict.exps_of are)
  given-same method searched are =
      ap (λ found. all_dressed world (is_alone_in world found method.name searched (parameters_of method.descriptor)) (froms_of are) (parameters_of method.descriptor) (own.exps_of are)) members
      ∙ ap (λ froms. all_dressed world (only_in method searched) froms (parameters_of method.descriptor) (own.exps_of are)) (same-types are)
      ∙ ap (all_dressed world (only_in method searched) (strict.types_of are) (parameters_of method.descriptor)) (same-exps are)

  -- a call means what the instruction does
  pub object-means : (kind : InvokeKind) → ¬ (kind ≡ Static) → (method : MethodRef) → IsOfObject world context.members context.class kind method → is_whole_type world method.owner ≡ true → AreAllWhole world (map Of (parameters_of method.descriptor))
      → (object : Typed) (are : List Typed) → AreOperands context n scope (object ∷ are) → AreAllWhole world (froms_of are) → IsReference method.owner → all_fit world are (parameters_of method.descriptor) ≡ true
      → (state : State Store) → operand.AreOperands context scope (strict.exps_of (object ∷ are)) (strict.types_of (object ∷ are)) (method.owner ∷ parameters_of method.descriptor) state
      → effect context scope (Call (dressed world false object.0 method.owner object.1) method.name (given_to known method method.name (searched_class method.owner) are)) state
      ≡ bind (raw.operands context scope (strict.exps_of (object ∷ are)) state) (λ all. outside context.headers (object_called kind method.owner method all))
  object-means kind not_static method is owner_whole wanted object are typed whole reference fit state ops =
      ap (λ exps. effect context scope (Call (dressed world false object.0 method.owner object.1) method.name exps) state) (given-same method (searched_class method.owner) are)
      ∙ object-built world context scope runs.wide runs.paired runs.whole kind method object.1 object.0 (strict.exps_of are) (strict.types_of are) state not_static is reference owner_whole
      (subst (AreAllWhole world) (same-types are) whole) wanted (sym (ap length (same-types are)) ∙ all-fit-many world are (parameters_of method.descriptor) fit) typed.0.typed (typed-operands context n scope are typed.1) ops

  -- ---- where it gives a value

  pub object-node : (kind : InvokeKind) → ¬ (kind ≡ Static) → (method : MethodRef) → IsOfObject world context.members context.class kind method → is_whole_type world method.owner ≡ true → AreAllWhole world (map Of (parameters_of method.descriptor))
      → (type : JType) → ((all : List Value) → GivesKept context.headers (Of type) (object_called kind method.owner method all))
      → (are : List Typed) (exp : Exp) → object_call known method are ≡ Some exp → AreOperands context n scope are → IsNode context scope (object_called kind method.owner method) are (Of type) exp
  object-node kind not_static method is owner_whole wanted type kept [] exp e typed = absurd (cc)
  object-node kind not_static method is owner_whole wanted type kept (object ∷ are) exp e typed =
      let fits = fits_in world object.0 method.owner && may_be_given world are (parameters_of method.descriptor) in
      let node = Call (dressed world false object.0 method.owner object.1) method.name (given_to known method method.name (searched_class method.owner) are) in
      let m = made-if (is_reference method.owner && fits) (Some node) exp e in
      let a = and_parts (is_reference method.owner) fits m.0 in
      let b = and_parts (fits_in world object.0 method.owner) (may_be_given world are (parameters_of method.descriptor)) a.1 in
      let fit = given-fit world are (parameters_of method.descriptor) b.1 in
      let same : node ≡ exp = (let some = m.1 in cc) in
      subst (IsNode context scope (object_called kind method.owner method) (object ∷ are) (Of type)) same
      (node-by context scope world may (object ∷ are) (method.owner ∷ parameters_of method.descriptor) (goes-where world object.0 method.owner b.0, all-go world are (parameters_of method.descriptor) fit) (object_called kind method.owner method) (Of type) node
      (λ state ops. ap (λ run. bind run present) (object-means kind not_static method is owner_whole wanted object are typed (given-whole world are (parameters_of method.descriptor) b.1) (true-reference method.owner a.0) fit state ops)
      ∙ with-value context scope (raw.operands context scope (strict.exps_of (object ∷ are)) state) (raw.operands context scope (strict.exps_of (object ∷ are)) state) (object_called kind method.owner method) refl)
      (λ all k. kept all))
