-- What stands for calls on objects and of static methods has the type of what the call gives, and does what the instruction does.
use Rattle.std.proofs.Common.{◌≡◌, ℕ, true, false, ◌&&◌, List, [], ◌∷◌, map, Some, sym, ap, subst, ◌∙◌}
use Rattle.std.proofs.lemmas.Bool.{and_parts}
use Rattle.dj_names.specs.declared.header.Header.{Header}
use Rattle.dj_names.specs.Types.{JType, Of, parameters_of, result_of}
use Rattle.dj_kinds.specs.Choice.{searched_class}
use Rattle.dj_syntax.specs.Trees.{Exp, Call, StaticCall}
use Rattle.dj_instructions.specs.Instructions.{MethodRef}
use Rattle.dj_values.specs.Values.{InvokeKind, Static}
use Rattle.dj_values.specs.Fits.{class_of}
use Rattle.dj_values.specs.Deciding.{is_reference}
use Rattle.dj_bytecode.specs.Objects.{static_called, object_called}
use Rattle.dj_meaning.specs.StaticTypes.{Context, Scope, type_of, typed}
use Rattle.dj_meaning.specs.Targets.{result}
use Rattle.dj_loaded.specs.Loaded.{MayRun}
use Rattle.dj_held.specs.Running.{AreMembers}
use Rattle.dj_places.specs.Constants.{Surroundings}
use Rattle.dj_typing.specs.Sites.{is_whole, is_whole_type}
use Rattle.dj_widened.specs.Meant.{AreAllWhole}
use Rattle.dj_rebuilding.specs.Pending.{Typed, and_then}
use Rattle.dj_rebuilding.specs.Agreeing.{IsBelow, IsEntry}
use Rattle.dj_rebuilt.specs.Standing.{AreOperands, IsNoded}
use Rattle.dj_blocks_formed.proofs.Blocks.{made-if, both-are}
use Rattle.dj_members_shown.specs.Casts.{dressed}
use Rattle.dj_members_shown.specs.Laws.{Runs}
use Rattle.dj_members_shown.specs.Meant.{asked_of, IsOfObject, IsOfClass}
use Rattle.dj_members_shown.proofs.Dressing.{pinned, dressed-has-type}
use Rattle.dj_members_shown.proofs.Kept.{object-meant, class-meant}
use Rattle.dj_members_shown.proofs.Suiting.{call-type, static-call-type}
use Rattle.dj_member_nodes.specs.Going.{fits_in, may_be_given}
use Rattle.dj_member_nodes.specs.Nodes.{given_to, object_call, class_call}
use Rattle.dj_member_nodes.proofs.Dressed.{dressed-small}
use Rattle.dj_member_nodes.proofs.CallsShown.{object-node}
use Rattle.dj_member_nodes.proofs.Statics.{static-call-node}
use Rattle.dj_member_ways.proofs.Given.{written, written_types, given-same, AreGiven, are-given}
use Rattle.dj_member_ways.proofs.Results.{target-gives, static-gives}

module _ (known : Surroundings) (context : Context) (runs : Runs known.headers context) (members : known.members ≡ context.members) (lawful : AreMembers known.headers context.members) (may : MayRun known.headers context.headers) (n : ℕ) (scope : Scope) where
  abbrev world : List Header
  world = known.headers

  -- ---- on objects

  abbrev object_exp : MethodRef → Typed → List Typed → Exp
  object_exp method object are = Call (dressed world false object.0 method.owner object.1) method.name (given_to known method method.name (searched_class method.owner) are)

  object-entry : (kind : InvokeKind) (method : MethodRef) → IsOfObject world context.members context.class kind method → is_whole_type world method.owner ≡ true → AreAllWhole world (map Of (parameters_of method.descriptor))
      → (object : Typed) (are : List Typed) → may_be_given world are (parameters_of method.descriptor) ≡ true → AreOperands context n scope (object ∷ are) → (type : JType) → result (asked_of kind method.owner method) ≡ Some type
      → IsEntry context n scope (Of type) (object_exp method object are)
  object-entry kind method is owner_whole wanted object are fit h type gives =
      let searched = searched_class method.owner in
      let first = dressed world false object.0 method.owner object.1 in
      let given : AreGiven known context members n scope method method.name searched are = are-given known context members n scope method method.name searched are wanted fit h.1 in
      let rest = written known context members n scope method method.name searched are in
      let types = written_types known context members n scope method method.name searched are in
      record {
        small = (dressed-small (IsBelow n) world false object.0 method.owner object.1 h.0.small, given.small);
        typed = ap (λ exps. type_of context scope (Call first method.name exps)) (given-same known context members n scope method method.name searched are)
            ∙ call-type context scope kind method first rest types (dressed-has-type world false context scope object.0 method.owner object.1 h.0.typed ∙ ap Some (pinned world object.0 method.owner)) given.written_as
            (object-meant world context.headers runs.wide context.members runs.paired context.class runs.whole types given.written_whole kind method is owner_whole given.alike)
            ∙ ap typed gives;
      }

  object-entered : (kind : InvokeKind) (method : MethodRef) → IsOfObject world context.members context.class kind method → is_whole_type world method.owner ≡ true → AreAllWhole world (map Of (parameters_of method.descriptor))
      → (are : List Typed) (exp : Exp) → object_call known method are ≡ Some exp → AreOperands context n scope are → (type : JType) → result (asked_of kind method.owner method) ≡ Some type → IsEntry context n scope (Of type) exp
  object-entered kind method is owner_whole wanted [] exp e h type gives = absurd (cc)
  object-entered kind method is owner_whole wanted (object ∷ are) exp e h type gives =
      let fits = fits_in world object.0 method.owner && may_be_given world are (parameters_of method.descriptor) in
      let m = made-if (is_reference method.owner && fits) (Some (object_exp method object are)) exp e in
      let a = and_parts (is_reference method.owner) fits m.0 in
      let b = and_parts (fits_in world object.0 method.owner) (may_be_given world are (parameters_of method.descriptor)) a.1 in
      let same : object_exp method object are ≡ exp = (let some = m.1 in cc) in
      subst (IsEntry context n scope (Of type)) same (object-entry kind method is owner_whole wanted object are b.1 h type gives)

  pub object-noded : (kind : InvokeKind) → ¬ (kind ≡ Static) → (method : MethodRef) → IsOfObject world context.members context.class kind method → is_whole_type world method.owner ≡ true → AreAllWhole world (map Of (parameters_of method.descriptor))
      → (are : List Typed) (exp : Exp) → object_call known method are ≡ Some exp → AreOperands context n scope are → (type : JType) → result (asked_of kind method.owner method) ≡ Some type → IsNoded context n scope (object_called kind method.owner method) are (Of type, exp)
  object-noded kind not_static method is owner_whole wanted are exp e h type gives = record {
    node = object-node known context runs members may n scope kind not_static method is owner_whole wanted type (target-gives world context.headers runs.wide context.members lawful context.class kind method is type gives) are exp e h;
    is = object-entered kind method is owner_whole wanted are exp e h type gives;
  }

  -- ---- of static methods

  abbrev static_exp : MethodRef → List ℕ → List Typed → Exp
  static_exp method class are = StaticCall class method.name (given_to known method method.name (Some class) are)

  static-entry : (method : MethodRef) (is : IsOfClass world context.members context.class method) → is_whole world is.class ≡ true → AreAllWhole world (map Of (parameters_of method.descriptor))
      → (are : List Typed) → may_be_given world are (parameters_of method.descriptor) ≡ true → AreOperands context n scope are → (type : JType) → result_of method.descriptor ≡ Some type
      → IsEntry context n scope (Of type) (static_exp method is.class are)
  static-entry method is class_whole wanted are fit h type gives =
      let given : AreGiven known context members n scope method method.name (Some is.class) are = are-given known context members n scope method method.name (Some is.class) are wanted fit h in
      let rest = written known context members n scope method method.name (Some is.class) are in
      let types = written_types known context members n scope method method.name (Some is.class) are in
      record {
        small = given.small;
        typed = ap (λ exps. type_of context scope (StaticCall is.class method.name exps)) (given-same known context members n scope method method.name (Some is.class) are)
            ∙ static-call-type context scope is.class method rest types given.written_as
            (class-meant world context.headers runs.wide context.members runs.paired context.class runs.whole types given.written_whole method is class_whole given.alike.alike)
            ∙ ap typed gives;
      }

  static-entered : (method : MethodRef) (is : IsOfClass world context.members context.class method) → is_whole world is.class ≡ true → AreAllWhole world (map Of (parameters_of method.descriptor))
      → (are : List Typed) (exp : Exp) → class_call known method are ≡ Some exp → AreOperands context n scope are → (type : JType) → result_of method.descriptor ≡ Some type → IsEntry context n scope (Of type) exp
  static-entered method is class_whole wanted are exp e h type gives =
      let m = made-if (may_be_given world are (parameters_of method.descriptor)) (and_then (class_of method.owner) (λ class. Some (static_exp method class are))) exp e in
      let b = both-are (class_of method.owner) (λ class. Some (static_exp method class are)) exp m.1 in
      let same : static_exp method b.one are ≡ exp = (let some = b.then_is in cc) in
      let class_is : is.class ≡ b.one = (let some : Some is.class ≡ Some b.one = sym (ap class_of is.owner) ∙ b.is in cc) in
      subst (IsEntry context n scope (Of type)) same
      (subst (λ class. IsEntry context n scope (Of type) (static_exp method class are)) class_is (static-entry method is class_whole wanted are m.0 h type gives))

  pub static-noded : (method : MethodRef) (is : IsOfClass world context.members context.class method) → is_whole world is.class ≡ true → AreAllWhole world (map Of (parameters_of method.descriptor))
      → (are : List Typed) (exp : Exp) → class_call known method are ≡ Some exp → AreOperands context n scope are → (type : JType) → result_of method.descriptor ≡ Some type → IsNoded context n scope (static_called method) are (Of type, exp)
  static-noded method is class_whole wanted are exp e h type gives = record {
    node = static-call-node known context runs members may n scope method is class_whole wanted type (static-gives context.headers method type gives) are exp e h;
    is = static-entered method is class_whole wanted are exp e h type gives;
  }
