-- Calls on objects that give nothing stand alone as statements, and do what the instructions do.
use Rattle.std.proofs.Common.{◌≡◌, ℕ, Bool, true, false, ◌&&◌, List, [], ◌∷◌, map, Some, None, refl, sym, ap, subst, ◌∙◌, codes}
use Rattle.std.proofs.lemmas.Bool.{and_parts}
use Rattle.dj_names.specs.declared.header.Header.{Header}
use Rattle.dj_names.specs.Headers.{Name}
use Rattle.dj_names.specs.Types.{JType, Descriptor, Field, Method, Of, parameters_of, result_of}
use Rattle.dj_kinds.specs.Choice.{searched_class}
use Rattle.dj_syntax.specs.Trees.{Exp, Call, StaticCall, Run}
use Rattle.dj_instructions.specs.Instructions.{MethodRef}
use Rattle.dj_values.specs.Values.{Value, Int, Long, Null, Ref, InvokeKind, Static, Invoke, Given}
use Rattle.dj_values.specs.Fits.{class_of}
use Rattle.dj_values.specs.Deciding.{is_reference, is_answer}
use Rattle.dj_values.specs.Outcomes.{bind, outside, ask}
use Rattle.dj_bytecode.specs.Operands.{all_fitted}
use Rattle.dj_bytecode.specs.Objects.{object_called, static_called}
use Rattle.dj_meaning.specs.Completions.{Normal}
use Rattle.dj_meaning.specs.Runs.{pure}
use Rattle.dj_meaning.specs.StaticTypes.{Context, Scope}
use Rattle.dj_meaning.specs.Variables.{EachInExps, EachInStm}
use Rattle.dj_typing.specs.Sites.{is_whole, is_whole_type}
use Rattle.dj_widened.specs.Meant.{AreAllWhole}
use Rattle.dj_loaded.specs.Loaded.{MayRun}
use Rattle.dj_places.specs.Constants.{Surroundings}
use Rattle.dj_rebuilding.specs.Pending.{Typed, call, static_call, and_then}
use Rattle.dj_rebuilding.specs.Agreeing.{IsBelow}
use Rattle.dj_rebuilt.specs.Standing.{AreOperands, IsEffect}
use Rattle.dj_rebuilt.specs.Rebuilding.{Plain, dropped}
use Rattle.dj_members_shown.specs.Sorts as raw
use Rattle.dj_members_shown.specs.Casts.{dressed}
use Rattle.dj_members_shown.specs.Meant.{IsOfObject, IsOfClass}
use Rattle.dj_members_shown.specs.Operands.{all_dressed}
use Rattle.dj_members_shown.specs.Pushing.{GivesNothing}
use Rattle.dj_members_shown.specs.Laws.{Runs}
use Rattle.dj_members_shown.proofs.Binding.{bind-bind}
use Rattle.dj_blocks_formed.proofs.Blocks.{made-if, both-are}
use Rattle.dj_member_nodes.specs.Going as own
use Rattle.dj_member_nodes.specs.Going.{fits_in, may_be_given, froms_of}
use Rattle.dj_member_nodes.specs.Nodes.{given_to, object_call, class_call}
use Rattle.dj_member_nodes.proofs.Dressed.{dressed-small}
use Rattle.dj_member_nodes.proofs.Fitting.{true-reference, given-fit, given-whole}
use Rattle.dj_strict_entries.specs.Entries as strict
use Rattle.dj_member_nodes.proofs.Standing.{effect-by, nothing-again}
use Rattle.dj_member_nodes.proofs.Operands.{goes-where, all-go}
use Rattle.dj_member_nodes.proofs.CallsShown.{object-means}
use Rattle.dj_member_nodes.proofs.Statics.{static-means}
use Rattle.dj_member_nodes.proofs.Writes.{then-nothing, told-nothing, trap-nothing}

-- no value answers a call of a method without a result
no-value : (headers : List Header) (kind : InvokeKind) (owner : JType) (name : Name) (descriptor : Descriptor) (values : List Value) → result_of descriptor ≡ None → (one : Value) → is_answer headers (Invoke kind owner name descriptor values) (Given one) ≡ false
no-value headers kind owner name (Field type) values is one = refl
no-value headers kind owner name (Method parameters None) values is one = refl
no-value headers kind owner name (Method parameters (Some type)) values is one = absurd (cc)

-- what a call of a method without a result gives, whatever the operands
pub call-nothing : (headers : List Header) (kind : InvokeKind) (owner : JType) (method : MethodRef) → result_of method.descriptor ≡ None → (all : List Value) → GivesNothing headers (object_called kind owner method all)
call-nothing headers kind owner method is [] = tt
call-nothing headers kind owner method is (Int number ∷ rest) = tt
call-nothing headers kind owner method is (Long number ∷ rest) = tt
call-nothing headers kind owner method is (Null ∷ rest) = trap-nothing headers (codes "java/lang/NullPointerException")
call-nothing headers kind owner method is (Ref reference ∷ rest) =
    then-nothing headers (all_fitted (parameters_of method.descriptor) rest) (λ kept. ask (Invoke kind owner method.name method.descriptor (Ref reference ∷ kept)))
    (λ kept. told-nothing headers (Invoke kind owner method.name method.descriptor (Ref reference ∷ kept)) (no-value headers kind owner method.name method.descriptor (Ref reference ∷ kept) is))

static-nothing : (headers : List Header) (method : MethodRef) → result_of method.descriptor ≡ None → (all : List Value) → GivesNothing headers (static_called method all)
static-nothing headers method is all =
    then-nothing headers (all_fitted (parameters_of method.descriptor) all) (λ kept. ask (Invoke Static method.owner method.name method.descriptor kept))
    (λ kept. told-nothing headers (Invoke Static method.owner method.name method.descriptor kept) (no-value headers Static method.owner method.name method.descriptor kept is))

-- arguments that are dressed name what they named
pub all-small : (context : Context) (n : ℕ) (scope : Scope) (world : List Header) (alone : Bool) (are : List Typed) (tos : List JType) → AreOperands context n scope are → EachInExps (IsBelow n) (all_dressed world alone (froms_of are) tos (own.exps_of are))
all-small context n scope world alone [] tos typed = tt
all-small context n scope world alone (first ∷ rest) [] typed = tt
all-small context n scope world alone (first ∷ rest) (to ∷ tos) typed = (dressed-small (IsBelow n) world alone first.0 to first.1 typed.0.small, all-small context n scope world alone rest tos typed.1)

module _ (known : Surroundings) (context : Context) (runs : Runs known.headers context) (members : known.members ≡ context.members) (may : MayRun known.headers context.headers) (bound n : ℕ) (scope : Scope) where
  pub object-alone : (kind : InvokeKind) → ¬ (kind ≡ Static) → (method : MethodRef) → IsOfObject known.headers context.members context.class kind method → is_whole_type known.headers method.owner ≡ true → AreAllWhole known.headers (map Of (parameters_of method.descriptor))
      → result_of method.descriptor ≡ None → (are : List Typed) (exp : Exp) (found : Plain) → object_call known method are ≡ Some exp → dropped exp ≡ Some found → AreOperands context n scope are
      → IsEffect context bound scope (object_called kind method.owner method) are found.0 × EachInStm (IsBelow n) found.0
  object-alone kind not_static method is owner_whole wanted gives [] exp found e d typed = absurd (cc)
  object-alone kind not_static method is owner_whole wanted gives (object ∷ are) exp found e d typed =
      let fits = fits_in known.headers object.0 method.owner && may_be_given known.headers are (parameters_of method.descriptor) in
      let node = Call (dressed known.headers false object.0 method.owner object.1) method.name (given_to known method method.name (searched_class method.owner) are) in
      let m = made-if (is_reference method.owner && fits) (Some node) exp e in
      let a = and_parts (is_reference method.owner) fits m.0 in
      let b = and_parts (fits_in known.headers object.0 method.owner) (may_be_given known.headers are (parameters_of method.descriptor)) a.1 in
      let fit = given-fit known.headers are (parameters_of method.descriptor) b.1 in
      let same : node ≡ exp = (let some = m.1 in cc) in
      let stands : (Run node, call) ≡ found = (let some : Some (Run node, call) ≡ Some found = ap dropped same ∙ d in cc) in
      subst (λ (one : Plain). IsEffect context bound scope (object_called kind method.owner method) (object ∷ are) one.0 × EachInStm (IsBelow n) one.0) stands (
        effect-by context scope known.headers may bound (object ∷ are) (method.owner ∷ parameters_of method.descriptor) (goes-where known.headers object.0 method.owner b.0, all-go known.headers are (parameters_of method.descriptor) fit) (object_called kind method.owner method) (Run node)
            (λ all state. nothing-again context scope (object_called kind method.owner method all) (call-nothing context.headers kind method.owner method gives all) state)
            (λ state ops. ap (λ run. bind run (λ dropped. pure Normal)) (object-means known context runs members may n scope kind not_static method is owner_whole wanted object are typed (given-whole known.headers are (parameters_of method.descriptor) b.1) (true-reference method.owner a.0) fit state ops)
            ∙ bind-bind (raw.operands context scope (strict.exps_of (object ∷ are)) state) (λ all. outside context.headers (object_called kind method.owner method all)) (λ dropped. pure Normal)),
        (dressed-small (IsBelow n) known.headers false object.0 method.owner object.1 typed.0.small, all-small context n scope known.headers _ are (parameters_of method.descriptor) typed.1),
      )

  pub static-alone : (method : MethodRef) (is : IsOfClass known.headers context.members context.class method) → is_whole known.headers is.class ≡ true → AreAllWhole known.headers (map Of (parameters_of method.descriptor))
      → result_of method.descriptor ≡ None → (are : List Typed) (exp : Exp) (found : Plain) → class_call known method are ≡ Some exp → dropped exp ≡ Some found → AreOperands context n scope are
      → IsEffect context bound scope (static_called method) are found.0 × EachInStm (IsBelow n) found.0
  static-alone method is class_whole wanted gives are exp found e d typed =
      let m = made-if (may_be_given known.headers are (parameters_of method.descriptor)) (and_then (class_of method.owner) (λ class. Some (StaticCall class method.name (given_to known method method.name (Some class) are)))) exp e in
      let fit = given-fit known.headers are (parameters_of method.descriptor) m.0 in
      let b = both-are (class_of method.owner) (λ class. Some (StaticCall class method.name (given_to known method method.name (Some class) are))) exp m.1 in
      let same : StaticCall b.one method.name (given_to known method method.name (Some b.one) are) ≡ exp = (let some = b.then_is in cc) in
      let class_is : is.class ≡ b.one = (let some : Some is.class ≡ Some b.one = sym (ap class_of is.owner) ∙ b.is in cc) in
      let node = StaticCall is.class method.name (given_to known method method.name (Some is.class) are) in
      let whole_same : node ≡ exp = ap (λ class. StaticCall class method.name (given_to known method method.name (Some class) are)) class_is ∙ same in
      let stands : (Run node, static_call) ≡ found = (let some : Some (Run node, static_call) ≡ Some found = ap dropped whole_same ∙ d in cc) in
      subst (λ (one : Plain). IsEffect context bound scope (static_called method) are one.0 × EachInStm (IsBelow n) one.0) stands (
        effect-by context scope known.headers may bound are (parameters_of method.descriptor) (all-go known.headers are (parameters_of method.descriptor) fit) (static_called method) (Run node)
            (λ all state. nothing-again context scope (static_called method all) (static-nothing context.headers method gives all) state)
            (λ state ops. ap (λ run. bind run (λ dropped. pure Normal)) (static-means known context runs members may n scope method is class_whole wanted are typed (given-whole known.headers are (parameters_of method.descriptor) m.0) fit state ops)
            ∙ bind-bind (raw.operands context scope (strict.exps_of are) state) (λ all. outside context.headers (static_called method all)) (λ dropped. pure Normal)),
        all-small context n scope known.headers _ are (parameters_of method.descriptor) typed,
      )
