-- What stands for calls of static methods does what they do.
use Rattle.std.proofs.Common.{◌≡◌, ℕ, true, length, List, map, Some, refl, sym, ap, subst, ◌∙◌}
use Rattle.dj_names.specs.declared.header.Header.{Header}
use Rattle.dj_names.specs.Types.{JType, Of, parameters_of}
use Rattle.dj_syntax.specs.Trees.{Exp, StaticCall}
use Rattle.dj_instructions.specs.Instructions.{MethodRef}
use Rattle.dj_values.specs.Values.{Value}
use Rattle.dj_values.specs.Fits.{class_of}
use Rattle.dj_values.specs.Outcomes.{State, bind, outside}
use Rattle.dj_bytecode.specs.Objects.{static_called}
use Rattle.dj_meaning.specs.Runs.{Store, present}
use Rattle.dj_meaning.specs.Expressions.{effect}
use Rattle.dj_meaning.specs.StaticTypes.{Context, Scope}
use Rattle.dj_typing.specs.Sites.{is_whole}
use Rattle.dj_widened.specs.Meant.{AreAllWhole}
use Rattle.dj_loaded.specs.Loaded.{MayRun}
use Rattle.dj_places.specs.Constants.{Surroundings}
use Rattle.dj_rebuilding.specs.Pending.{Typed, and_then}
use Rattle.dj_rebuilt.specs.Standing.{AreOperands, IsNode}
use Rattle.dj_members_shown.specs.Sorts as raw
use Rattle.dj_members_shown.specs.Meant.{IsOfClass}
use Rattle.dj_members_shown.specs.Operands as operand
use Rattle.dj_members_shown.specs.Laws.{Runs}
use Rattle.dj_members_shown.proofs.Built.{static-built}
use Rattle.dj_members_shown.proofs.Calling.{with-value}
use Rattle.dj_blocks_formed.proofs.Blocks.{made-if, both-are}
use Rattle.dj_member_nodes.specs.Going.{all_fit, may_be_given, froms_of}
use Rattle.dj_member_nodes.specs.Nodes.{given_to, class_call}
use Rattle.dj_member_nodes.proofs.Fitting.{all-fit-many, given-fit, given-whole}
use Rattle.dj_strict_entries.specs.Entries as strict
use Rattle.dj_strict_entries.specs.Replies.{GivesKept}
use Rattle.dj_member_nodes.proofs.Standing.{node-by}
use Rattle.dj_member_nodes.proofs.Operands.{same-types, all-go, typed-operands}
use Rattle.dj_member_nodes.proofs.CallsShown.{given-same}

module _ (known : Surroundings) (context : Context) (runs : Runs known.headers context) (members : known.members ≡ context.members) (may : MayRun known.headers context.headers) (n : ℕ) (scope : Scope) where
  abbrev world : List Header
  world = known.headers

  pub static-means : (method : MethodRef) (is : IsOfClass world context.members context.class method) → is_whole world is.class ≡ true → AreAllWhole world (map Of (parameters_of method.descriptor))
      → (are : List Typed) → AreOperands context n scope are → AreAllWhole world (froms_of are) → all_fit world are (parameters_of method.descriptor) ≡ true
      → (state : State Store) → operand.AreOperands context scope (strict.exps_of are) (strict.types_of are) (parameters_of method.descriptor) state
      → effect context scope (StaticCall is.class method.name (given_to known method method.name (Some is.class) are)) state ≡ bind (raw.operands context scope (strict.exps_of are) state) (λ all. outside context.headers (static_called method all))
  static-means method is class_whole wanted are typed whole fit state ops =
      ap (λ exps. effect context scope (StaticCall is.class method.name exps) state) (given-same known context runs members may n scope method (Some is.class) are)
      ∙ static-built world context scope runs.wide runs.paired runs.whole method is (strict.exps_of are) (strict.types_of are) state class_whole (subst (AreAllWhole world) (same-types are) whole) wanted
      (sym (ap length (same-types are)) ∙ all-fit-many world are (parameters_of method.descriptor) fit) (typed-operands context n scope are typed) ops

  pub static-call-node : (method : MethodRef) (is : IsOfClass world context.members context.class method) → is_whole world is.class ≡ true → AreAllWhole world (map Of (parameters_of method.descriptor))
      → (type : JType) → ((all : List Value) → GivesKept context.headers (Of type) (static_called method all))
      → (are : List Typed) (exp : Exp) → class_call known method are ≡ Some exp → AreOperands context n scope are → IsNode context scope (static_called method) are (Of type) exp
  static-call-node method is class_whole wanted type kept are exp e typed =
      let m = made-if (may_be_given world are (parameters_of method.descriptor)) (and_then (class_of method.owner) (λ class. Some (StaticCall class method.name (given_to known method method.name (Some class) are)))) exp e in
      let fit = given-fit world are (parameters_of method.descriptor) m.0 in
      let b = both-are (class_of method.owner) (λ class. Some (StaticCall class method.name (given_to known method method.name (Some class) are))) exp m.1 in
      let same : StaticCall b.one method.name (given_to known method method.name (Some b.one) are) ≡ exp = (let some = b.then_is in cc) in
      let class_is : is.class ≡ b.one = (let some : Some is.class ≡ Some b.one = sym (ap class_of is.owner) ∙ b.is in cc) in
      subst (IsNode context scope (static_called method) are (Of type)) same
      (subst (λ class. IsNode context scope (static_called method) are (Of type) (StaticCall class method.name (given_to known method method.name (Some class) are))) class_is
      (node-by context scope world may are (parameters_of method.descriptor) (all-go world are (parameters_of method.descriptor) fit) (static_called method) (Of type) (StaticCall is.class method.name (given_to known method method.name (Some is.class) are))
      (λ state ops. ap (λ run. bind run present) (static-means method is class_whole wanted are typed (given-whole world are (parameters_of method.descriptor) m.0) fit state ops)
      ∙ with-value context scope (raw.operands context scope (strict.exps_of are) state) (raw.operands context scope (strict.exps_of are) state) (static_called method) refl)
      (λ all k. kept all)))
