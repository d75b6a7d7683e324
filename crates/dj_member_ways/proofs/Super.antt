-- What stands for calls behind `super` does what `invokespecial` does on `this`.
use Rattle.std.proofs.Common.{◌≡◌, ℕ, Bool, true, false, ◌&&◌, if◌then◌else◌, length, List, [], ◌∷◌, map, Option, Some, None, refl, sym, ap, subst, ◌∙◌}
use Rattle.std.proofs.lemmas.Bool.{and_parts, false≢true}
use Rattle.dj_names.specs.declared.header.Header.{Header}
use Rattle.dj_names.specs.Headers.{Name}
use Rattle.dj_names.specs.Types.{JType, Class, StaticType, Of, parameters_of, result_of}
use Rattle.dj_kinds.specs.Search.{header_of, superclass_in}
use Rattle.dj_syntax.specs.Trees.{Exp, Exps, This, SuperCall, AndExp, Run}
use Rattle.dj_instructions.specs.Instructions.{MethodRef}
use Rattle.dj_values.specs.Values.{Value, Special}
use Rattle.dj_values.specs.Fits.{class_of}
use Rattle.dj_values.specs.Outcomes.{Reply, State, bind, outside}
use Rattle.dj_bytecode.specs.Objects.{special_owner, object_called}
use Rattle.dj_meaning.specs.Completions.{Normal}
use Rattle.dj_meaning.specs.StaticTypes.{Context, Scope, type_of, types_of, typed}
use Rattle.dj_meaning.specs.Runs.{Store, present, pure}
use Rattle.dj_meaning.specs.Expressions.{value, effect}
use Rattle.dj_meaning.specs.Targets.{of_super}
use Rattle.dj_meaning.specs.Variables.{EachInStm}
use Rattle.dj_loaded.specs.Loaded.{MayRun}
use Rattle.dj_places.specs.Constants.{Surroundings}
use Rattle.dj_typing.specs.Sites.{is_whole}
use Rattle.dj_widened.specs.Meant.{AreAllWhole}
use Rattle.dj_rebuilding.specs.Pending.{Typed, super_call, and_then}
use Rattle.dj_rebuilding.specs.Agreeing.{IsBelow, IsEntry}
use Rattle.dj_rebuilt.specs.Rebuilding.{Plain, dropped}
use Rattle.dj_rebuilt.specs.Standing.{AreOperands, IsNoded, IsEffect}
use Rattle.dj_blocks_formed.proofs.Blocks.{made-if, both-are}
use Rattle.dj_blocks_formed.proofs.Spilled.{declared-goes}
use Rattle.dj_members_shown.specs.Sorts as raw
use Rattle.dj_members_shown.specs.Sorts.{OnIs}
use Rattle.dj_members_shown.specs.Alone.{is_alone_in}
use Rattle.dj_members_shown.specs.Choosing.{ChooseAlikeIn}
use Rattle.dj_members_shown.specs.Laws.{Runs}
use Rattle.dj_members_shown.specs.Meant.{asked_of, IsOfSuper, IsOfInterface}
use Rattle.dj_members_shown.specs.Operands as operand
use Rattle.dj_members_shown.specs.Operands.{IsOperand, all_dressed}
use Rattle.dj_members_shown.proofs.Binding.{bind-bind, on-weaker}
use Rattle.dj_members_shown.proofs.Built.{super-built, interface-built}
use Rattle.dj_members_shown.proofs.Calling.{with-value}
use Rattle.dj_members_shown.proofs.Kept.{super-meant, interface-meant}
use Rattle.dj_members_shown.proofs.Owners.{of-super, of-interface}
use Rattle.dj_members_shown.proofs.Suiting.{super-call-type}
use Rattle.dj_member_nodes.specs.Going.{may_be_given}
use Rattle.dj_member_nodes.specs.Nodes.{given_to, is_this, is_above}
use Rattle.dj_member_nodes.specs.Nodes as nodes
use Rattle.dj_member_nodes.proofs.Alone.{call-nothing}
use Rattle.dj_member_nodes.proofs.Standing.{node-by, effect-by, nothing-again}
use Rattle.dj_strict_entries.specs.Entries as strict
use Rattle.dj_strict_entries.specs.Entries.{AllGo}
use Rattle.dj_member_ways.proofs.Given.{written, written_types, given-same, AreGiven, are-given}
use Rattle.dj_member_ways.proofs.Results.{object-gives}

-- what tests as `this` is `this`
is-this : (exp : Exp) → is_this exp ≡ true → exp ≡ This
is-this This e = refl
is-this exp e = absurd (false≢true e)

module _ (known : Surroundings) (context : Context) (runs : Runs known.headers context) (members : known.members ≡ context.members) (may : MayRun known.headers context.headers) (n : ℕ) (scope : Scope) (method : MethodRef)
    (wanted : AreAllWhole known.headers (map Of (parameters_of method.descriptor))) where
  abbrev world : List Header
  world = known.headers

  abbrev tos : List JType
  tos = parameters_of method.descriptor

  -- what the instruction does
  abbrev pub operation : List Value → Reply (Option Value)
  operation all = object_called Special (special_owner context.headers context.class method) method all

  -- `this` as an operand
  abbrev itself : Typed
  itself = (Of (Class context.class), This)

  -- a call behind `super` whose method is searched for in a class means what the instruction does, whatever its arguments
  pub record IsSuper (above searched : Option Name) : Type 0 where
    pub owner : Name
    pub meant : (types : List StaticType) → AreAllWhole world types → ChooseAlikeIn world context.members method.name searched types tos → of_super context.headers context.members context.class above method.name types ≡ Some (asked_of Special (Class owner) method)
    pub means : (arguments : Exps) (froms : List StaticType) (state : State Store) → AreAllWhole world froms → length froms ≡ length tos → types_of context scope arguments ≡ Some froms
        → OnIs (λ one after. operand.AreOperands context scope arguments froms tos after) (value context scope This state)
        → effect context scope (SuperCall above method.name (all_dressed world (is_alone_in world context.members method.name searched tos) froms tos arguments)) state ≡ bind (raw.operands context scope (AndExp This arguments) state) (λ all. outside context.headers (operation all))

  pub class-super : IsOfSuper world context.members context.class method → IsSuper None (superclass_in (header_of world context.class))
  class-super is = record {
    owner = is.above;
    meant = λ types whole alike. super-meant world context.headers runs.wide context.members runs.paired context.class runs.whole types whole method is alike;
    means = λ arguments froms state whole many given are.
        super-built world context scope runs.wide runs.paired runs.whole method is arguments froms state whole wanted many given are
        ∙ ap (λ owner. bind (raw.operands context scope (AndExp This arguments) state) (λ all. outside context.headers (object_called Special owner method all))) (sym (of-super world context.headers runs.wide context.members runs.paired context.class runs.whole method is));
  }

  pub interface-super : (is : IsOfInterface world context.members context.class method) → is_whole world is.interface ≡ true → IsSuper (Some is.interface) (Some is.interface)
  interface-super is interface_whole = record {
    owner = is.interface;
    meant = λ types whole alike. interface-meant world context.headers runs.wide context.members runs.paired context.class runs.whole types whole method is interface_whole alike.alike;
    means = λ arguments froms state whole many given are.
        interface-built world context scope runs.wide runs.paired runs.whole method is arguments froms state interface_whole whole wanted many given are
        ∙ ap (λ owner. bind (raw.operands context scope (AndExp This arguments) state) (λ all. outside context.headers (object_called Special owner method all))) (sym (of-interface world context.headers runs.wide context.members runs.paired context.class runs.whole method is));
  }

  module _ (above searched : Option Name) (is : IsSuper above searched) where
    abbrev super_exp : List Typed → Exp
    super_exp are = SuperCall above method.name (given_to known method method.name searched are)

    arguments : (are : List Typed) → may_be_given world are tos ≡ true → AreOperands context n scope are → AreGiven known context members n scope method method.name searched are
    arguments are fit h = are-given known context members n scope method method.name searched are wanted fit h

    all-goes : (are : List Typed) → AreGiven known context members n scope method method.name searched are → AllGo world (itself ∷ are) (Class context.class ∷ tos)
    all-goes are given = (record { kind = tt; goes = λ reference. declared-goes world (Of (Class context.class)) }, given.go)

    does : (are : List Typed) → AreGiven known context members n scope method method.name searched are → (state : State Store) → operand.AreOperands context scope (strict.exps_of (itself ∷ are)) (strict.types_of (itself ∷ are)) (Class context.class ∷ tos) state
        → effect context scope (super_exp are) state ≡ bind (raw.operands context scope (strict.exps_of (itself ∷ are)) state) (λ all. outside context.headers (operation all))
    does are given state ops =
        ap (λ exps. effect context scope (SuperCall above method.name exps) state) (given-same known context members n scope method method.name searched are)
        ∙ is.means (strict.exps_of are) (strict.types_of are) state given.whole given.as_many given.types
        (on-weaker (λ one after. IsOperand context.headers (Of (Class context.class)) (Class context.class) one × operand.AreOperands context scope (strict.exps_of are) (strict.types_of are) tos after)
        (λ one after. operand.AreOperands context scope (strict.exps_of are) (strict.types_of are) tos after) (value context scope This state) ops.1 (λ one after holds. holds.1))

    super-noded : (are : List Typed) → may_be_given world are tos ≡ true → AreOperands context n scope are → (type : JType) → result_of method.descriptor ≡ Some type → IsNoded context n scope operation (itself ∷ are) (Of type, super_exp are)
    super-noded are fit h type gives =
        let given = arguments are fit h in
        record {
          node = node-by context scope world may (itself ∷ are) (Class context.class ∷ tos) (all-goes are given) operation (Of type) (super_exp are)
              (λ state ops. ap (λ run. bind run present) (does are given state ops)
              ∙ with-value context scope (raw.operands context scope (strict.exps_of (itself ∷ are)) state) (raw.operands context scope (strict.exps_of (itself ∷ are)) state) operation refl)
              (λ all kept. object-gives context.headers Special (special_owner context.headers context.class method) method type gives all);
          is = record {
            small = given.small;
            typed = ap (λ exps. type_of context scope (SuperCall above method.name exps)) (given-same known context members n scope method method.name searched are)
                ∙ super-call-type context scope above is.owner method (written known context members n scope method method.name searched are) (written_types known context members n scope method method.name searched are) given.written_as
                (is.meant (written_types known context members n scope method method.name searched are) given.written_whole given.alike)
                ∙ ap typed gives;
          };
        }

    super-alone : (bound : ℕ) (are : List Typed) → may_be_given world are tos ≡ true → AreOperands context n scope are → result_of method.descriptor ≡ None
        → IsEffect context bound scope operation (itself ∷ are) (Run (super_exp are)) × EachInStm (IsBelow n) (Run (super_exp are))
    super-alone bound are fit h gives =
        let given = arguments are fit h in (
          effect-by context scope world may bound (itself ∷ are) (Class context.class ∷ tos) (all-goes are given) operation (Run (super_exp are))
              (λ all state. nothing-again context scope (operation all) (call-nothing context.headers Special (special_owner context.headers context.class method) method gives all) state)
              (λ state ops. ap (λ run. bind run (λ dropped. pure Normal)) (does are given state ops)
              ∙ bind-bind (raw.operands context scope (strict.exps_of (itself ∷ are)) state) (λ all. outside context.headers (operation all)) (λ dropped. pure Normal)),
          given.small,
        )

  -- ---- as they are rebuilt

  -- an operand that is `this`
  itself-same : (object : Typed) → is_this object.1 ≡ true → IsEntry context n scope object.0 object.1 → itself ≡ object
  itself-same object e h = by object.0 object.1 (is-this object.1 e) h.typed
    where
      by : (type : StaticType) (exp : Exp) → exp ≡ This → type_of context scope exp ≡ Some type → ◌≡◌ {A = Typed} itself (type, exp)
      by type exp same typed_so =
          let at : Some (Of (Class context.class)) ≡ Some type = ap (type_of context scope) (sym same) ∙ typed_so in
          let type_is : Of (Class context.class) ≡ type = cc in
          ap {B = Typed} (λ one. (one, This)) type_is ∙ ap {B = Typed} (λ one. (type, one)) (sym same)

  -- what is made of a call behind `super`
  record IsMade (object : Typed) (are : List Typed) (exp : Exp) : Type 0 where
    this : itself ≡ object
    fit : may_be_given world are tos ≡ true
    above : Option Name
    searched : Option Name
    super : IsSuper above searched
    same : SuperCall above method.name (given_to known method method.name searched are) ≡ exp

  super-made : (is_above known method ≡ true → IsSuper None (superclass_in (header_of world known.class))) → (is_above known method ≡ false → (interface : Name) → class_of method.owner ≡ Some interface → IsSuper (Some interface) (Some interface))
      → (object : Typed) (are : List Typed) (exp : Exp) → nodes.super_call known method (object ∷ are) ≡ Some exp → AreOperands context n scope (object ∷ are) → IsMade object are exp
  super-made class interface object are exp e h = by (is_above known method) refl m.1
    where
      rest : Option Name → Exps
      rest searched = given_to known method method.name searched are

      chosen_way : Bool → Option Exp
      chosen_way test = if test then Some (SuperCall None method.name (rest (superclass_in (header_of world known.class)))) else and_then (class_of method.owner) (λ interface. Some (SuperCall (Some interface) method.name (rest (Some interface))))

      m : (is_this object.1 && may_be_given world are tos ≡ true) × (chosen_way (is_above known method) ≡ Some exp)
      m = made-if (is_this object.1 && may_be_given world are tos) (chosen_way (is_above known method)) exp e

      parts : (is_this object.1 ≡ true) × (may_be_given world are tos ≡ true)
      parts = and_parts (is_this object.1) (may_be_given world are tos) m.0

      by : (test : Bool) → is_above known method ≡ test → chosen_way test ≡ Some exp → IsMade object are exp
      by true at f = record { this = itself-same object parts.0 h.0; fit = parts.1; above = None; searched = superclass_in (header_of world known.class); super = class at; same = (let same : SuperCall None method.name (rest (superclass_in (header_of world known.class))) ≡ exp = cc in same) }
      by false at f =
          let b = both-are (class_of method.owner) (λ interface. Some (SuperCall (Some interface) method.name (rest (Some interface)))) exp f in
          record { this = itself-same object parts.0 h.0; fit = parts.1; above = Some b.one; searched = Some b.one; super = interface at b.one b.is; same = (let some = b.then_is in cc) }

  pub called-noded : (is_above known method ≡ true → IsSuper None (superclass_in (header_of world known.class))) → (is_above known method ≡ false → (interface : Name) → class_of method.owner ≡ Some interface → IsSuper (Some interface) (Some interface))
      → (are : List Typed) (exp : Exp) → nodes.super_call known method are ≡ Some exp → AreOperands context n scope are → (type : JType) → result_of method.descriptor ≡ Some type → IsNoded context n scope operation are (Of type, exp)
  called-noded class interface [] exp e h type gives = absurd (cc)
  called-noded class interface (object ∷ are) exp e h type gives =
      let made = super-made class interface object are exp e h in
      subst (λ one. IsNoded context n scope operation (one ∷ are) (Of type, exp)) made.this
      (subst (λ one. IsNoded context n scope operation (itself ∷ are) (Of type, one)) made.same (super-noded made.above made.searched made.super are made.fit h.1 type gives))

  pub called-alone : (is_above known method ≡ true → IsSuper None (superclass_in (header_of world known.class))) → (is_above known method ≡ false → (interface : Name) → class_of method.owner ≡ Some interface → IsSuper (Some interface) (Some interface))
      → (bound : ℕ) (are : List Typed) (exp : Exp) (found : Plain) → nodes.super_call known method are ≡ Some exp → dropped exp ≡ Some found → AreOperands context n scope are → result_of method.descriptor ≡ None
      → IsEffect context bound scope operation are found.0 × EachInStm (IsBelow n) found.0
  called-alone class interface bound [] exp found e d h gives = absurd (cc)
  called-alone class interface bound (object ∷ are) exp found e d h gives =
      let made = super-made class interface object are exp e h in
      let node = SuperCall made.above method.name (given_to known method method.name made.searched are) in
      let stands : (Run node, super_call) ≡ found = (let some : Some (Run node, super_call) ≡ Some found = ap dropped made.same ∙ d in cc) in
      subst (λ (one : Plain). IsEffect context bound scope operation (object ∷ are) one.0 × EachInStm (IsBelow n) one.0) stands
      (subst (λ one. IsEffect context bound scope operation (one ∷ are) (Run node) × EachInStm (IsBelow n) (Run node)) made.this (super-alone made.above made.searched made.super bound are made.fit h.1 gives))
