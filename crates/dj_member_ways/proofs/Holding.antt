-- What stands for each instruction does what it does, where no cause speaks against it.
use Rattle.std.proofs.Common.{◌≡◌, ℕ, Bool, true, false, inl, inr, ◌⊎◌, List, [], ◌∷◌, map, Option, Some, None, refl, sym, ap, subst, ◌∙◌, le_of_eq}
use Rattle.std.specs.Prelude.{if◌then◌else◌, Contains}
use Rattle.std.proofs.lemmas.Bool.{true≢false}
use Rattle.dj_names.specs.declared.header.Header.{Header}
use Rattle.dj_names.specs.Headers.{Name}
use Rattle.dj_names.specs.MethodNames.{is_constructor}
use Rattle.dj_names.specs.Types.{JType, Class, Array, Of, parameters_of, result_of}
use Rattle.dj_syntax.specs.Trees.{Exp}
use Rattle.dj_instructions.specs.Instructions.{FieldRef, MethodRef, Instruction}
use Rattle.dj_instructions.specs.Instructions as op
use Rattle.dj_code.specs.MethodCode.{Code}
use Rattle.dj_values.specs.Values.{Value, InvokeKind, Static, Virtual, Interface, Special}
use Rattle.dj_values.specs.Deciding.{is_array_clone}
use Rattle.dj_values.specs.Fits.{class_of}
use Rattle.dj_values.specs.Outcomes.{Reply}
use Rattle.dj_bytecode.specs.Meanings.{Family, Strict, Moves, Loads, Stores, Counts, Leads, Returns, NotRun, no_operand, meaning_of}
use Rattle.dj_bytecode.specs.Objects.{special_owner, object_called}
use Rattle.dj_meaning.specs.Members.{Members}
use Rattle.dj_meaning.specs.StaticTypes.{Context, Scope}
use Rattle.dj_meaning.specs.Targets.{result}
use Rattle.dj_meaning.specs.Variables.{EachInStm}
use Rattle.dj_loaded.proofs.Roots.{roots}
use Rattle.dj_places.specs.Constants.{Surroundings}
use Rattle.dj_typing.specs.Sites.{Site, is_whole, may_name_type}
use Rattle.dj_widened.specs.Widens.{Widens}
use Rattle.dj_widened.specs.Meant.{AreAllWhole}
use Rattle.dj_rebuilding.specs.Pending.{Typed, and_then}
use Rattle.dj_rebuilding.specs.Agreeing.{IsBelow, IsEntry}
use Rattle.dj_rebuilt.specs.Known.{own_nodes}
use Rattle.dj_rebuilt.specs.Rebuilding.{Plain, Ways, or_else, dropped}
use Rattle.dj_rebuilt.specs.Standing.{AreOperands, IsNoded, IsEffect, IsBirth}
use Rattle.dj_rebuilt.proofs.Known.{constants-hold, nodes-hold}
use Rattle.dj_blocks_formed.specs.Formed.{constants_of}
use Rattle.dj_blocks_formed.proofs.Blocks.{both-are}
use Rattle.dj_blocks_formed.proofs.Spilled.{named-whole}
use Rattle.dj_members_shown.specs.Laws.{Runs}
use Rattle.dj_members_shown.specs.Meant.{asked_of, Receiver, Made, IsField, IsOfObject, IsOfClass, IsOfInterface, IsLawful, lawful_new, lawful_construct, lawful_private, lawful_super, lawful_interface, HasMember, get_static, none}
use Rattle.dj_members_shown.proofs.Calling.{special-differs}
use Rattle.dj_members_shown.proofs.Owners.{of-private}
use Rattle.dj_member_nodes.specs.Nodes.{call_node, call_effect, object_call, class_call, special_call, birth_of, member_node, member_effect, member_birth, node_of}
use Rattle.dj_member_nodes.specs.Named as named_by
use Rattle.dj_member_nodes.specs.Named.{FieldIsNamed, MethodIsNamed, RootsAreNamed, IsAllowed}
use Rattle.dj_member_nodes.specs.Together.{AreMemberWays}
use Rattle.dj_member_nodes.proofs.Alone.{object-alone, static-alone}
use Rattle.dj_member_nodes.proofs.Classes.{cast-noded, instance-noded}
use Rattle.dj_member_nodes.proofs.Fields.{field-noded, static-noded}
use Rattle.dj_member_nodes.proofs.Lengths.{length-noded, class-noded}
use Rattle.dj_member_nodes.proofs.Rules.{field-of, virtual-of, interface-of, class-of, lawful-of, static-written, field-written, constructs-one}
use Rattle.dj_member_nodes.proofs.Writes.{field-done, static-done}
use Rattle.dj_strict_entries.proofs.Keeping.{strings, carried}
use Rattle.dj_strict_entries.proofs.Operating.{class-kept}
use Rattle.dj_member_ways.specs.Holding.{RunsIn, MembersHold, MemberWaysHold}
use Rattle.dj_member_ways.proofs.Births.{born-done}
use Rattle.dj_member_ways.proofs.Calls as calls
use Rattle.dj_member_ways.proofs.Elements.{element-noded, element-done, array-noded}
use Rattle.dj_member_ways.proofs.Special.{IsPrivate, IsBehind, special-way}
use Rattle.dj_member_ways.proofs.Super.{IsSuper, class-super, interface-super, called-noded, called-alone}

-- the operation of a strict instruction
abbrev operation_of : Family → List Value → Reply (Option Value)
operation_of (Strict count operation) = operation
operation_of (Moves forms) = no_operand
operation_of (Loads of_kind slot) = no_operand
operation_of (Stores of_kind slot) = no_operand
operation_of (Counts slot by) = no_operand
operation_of (Leads count choice) = no_operand
operation_of (Returns giving) = no_operand
operation_of NotRun = no_operand

virtual-differs : ¬ (Virtual ≡ Static)
virtual-differs e = absurd (cc)

interface-differs : ¬ (Interface ≡ Static)
interface-differs e = absurd (cc)

-- ---- wholeness by names

module _ (site : Site) where
  each-whole : (parameters : List JType) → named_by.AreNamed site parameters → AreAllWhole site.headers (map Of parameters)
  each-whole [] named = tt
  each-whole (first ∷ rest) named = (named-whole site first named.0, each-whole rest named.1)

  class-whole : (owner : JType) (class : Name) → owner ≡ Class class → may_name_type site owner ≡ true → is_whole site.headers class ≡ true
  class-whole owner class is named = named-whole site (Class class) (subst (λ type. may_name_type site type ≡ true) is named)

-- a static field that is read is no constant variable
static-plain : {world : List Header} {members : List Members} {from : Name} {may_set : Name → Name → Bool} {receiver : Receiver} (field : FieldRef) → HasMember world members from may_set receiver (op.GetStatic field)
    → (is : IsField world members from true field) × (is.known.constant ≡ None)
static-plain field (get_static is value) = (is, value)
static-plain field (none unnamed) = absurd (cc)

-- ---- calls

-- a call that gives a value
given-noded : (P : Typed → Type 0) (given : Option JType) (called : Option Exp) (found : Typed) → ((exp : Exp) (type : JType) → called ≡ Some exp → given ≡ Some type → P (Of type, exp)) → call_node given called ≡ Some found → P found
given-noded P given called found holds e =
    let b = both-are called (λ exp. and_then given (λ type. Some (Of type, exp))) found e in
    let c = both-are given (λ type. Some (Of type, b.one)) found b.then_is in
    let same : (Of c.one, b.one) ≡ found = (let some = c.then_is in cc) in
    subst P same (holds b.one c.one b.is c.is)

-- and one that stands alone
alone-done : (P : Plain → Type 0) (given : Option JType) (called : Option Exp) (found : Plain) → ((exp : Exp) → called ≡ Some exp → given ≡ None → dropped exp ≡ Some found → P found) → call_effect given called ≡ Some found → P found
alone-done P None called found holds e = let b = both-are called dropped found e in holds b.one b.is refl b.then_is
alone-done P (Some type) called found holds e = absurd (cc)

-- what gives nothing by its target gives nothing by its descriptor
none-given : (kind : InvokeKind) (method : MethodRef) → result (asked_of kind method.owner method) ≡ None → result_of method.descriptor ≡ None
none-given kind method e = by (is_array_clone method.owner method.name (parameters_of method.descriptor)) e
  where
    by : (test : Bool) → (if test then Some method.owner else result_of method.descriptor) ≡ None → result_of method.descriptor ≡ None
    by true e = absurd (cc)
    by false e = e

-- ---- where a body runs

module _ (site : Site) (context : Context) (run : RunsIn site context) where
  -- the context by the site's members and class
  abbrev with_members : List Members → Name → Context
  with_members members class = record { headers = context.headers; members = members; class = class; result = context.result; this = context.this; constructs = context.constructs }

  abbrev here : Context
  here = with_members site.members site.class

  here-same : here ≡ context
  here-same = ap (λ members. with_members members site.class) (sym run.members) ∙ ap (with_members context.members) (sym run.class)

  wide : Widens site.headers context.headers
  wide = record {
    others = run.may.others;
    first = run.may.first;
    distinct = run.may.loadable.distinct;
    no_circle = run.may.loadable.no_circle;
    roots = roots site.headers context.headers run.core run.may;
    object = run.core.object;
  }

  runs : Runs site.headers here
  runs = record { wide = wide; paired = le_of_eq run.lawful.paired; whole = run.whole }

  abbrev known : Surroundings
  known = constants_of site

  module _ (rooted : RootsAreNamed site) (receivers : ℕ → Receiver) (pc n : ℕ) (scope : Scope) where
    abbrev Noded : Instruction → List Typed → Typed → Type 0
    Noded instruction are found = IsNoded here n scope (operation_of (meaning_of here.headers here.class instruction)) are found

    abbrev Done : ℕ → Instruction → List Typed → Plain → Type 0
    Done bound instruction are found = IsEffect here bound scope (operation_of (meaning_of here.headers here.class instruction)) are found.0 × EachInStm (IsBelow n) found.0

    -- ---- calls on objects, and of static methods

    object-gives : (kind : InvokeKind) → ¬ (kind ≡ Static) → (method : MethodRef) → IsOfObject site.headers site.members site.class kind method → MethodIsNamed site method → (are : List Typed) (found : Typed)
        → call_node (result (asked_of kind method.owner method)) (object_call known method are) ≡ Some found → AreOperands here n scope are → IsNoded here n scope (object_called kind method.owner method) are found
    object-gives kind not_static method is named are found e h =
        given-noded (λ found. IsNoded here n scope (object_called kind method.owner method) are found) (result (asked_of kind method.owner method)) (object_call known method are) found
        (λ exp type made gives. calls.object-noded known here runs refl run.lawful run.may n scope kind not_static method is (named-whole site method.owner named.owner) (each-whole site (parameters_of method.descriptor) named.parameters) are exp made h type gives) e

    object-does : (bound : ℕ) (kind : InvokeKind) → ¬ (kind ≡ Static) → (method : MethodRef) → IsOfObject site.headers site.members site.class kind method → MethodIsNamed site method → (are : List Typed) (found : Plain)
        → call_effect (result (asked_of kind method.owner method)) (object_call known method are) ≡ Some found → AreOperands here n scope are → IsEffect here bound scope (object_called kind method.owner method) are found.0 × EachInStm (IsBelow n) found.0
    object-does bound kind not_static method is named are found e h =
        alone-done (λ found. IsEffect here bound scope (object_called kind method.owner method) are found.0 × EachInStm (IsBelow n) found.0) (result (asked_of kind method.owner method)) (object_call known method are) found
        (λ exp made gives drops. object-alone known here runs refl run.may bound n scope kind not_static method is (named-whole site method.owner named.owner) (each-whole site (parameters_of method.descriptor) named.parameters) (none-given kind method gives) are exp found made drops h) e

    static-gives : (method : MethodRef) → IsOfClass site.headers site.members site.class method → MethodIsNamed site method → (are : List Typed) (found : Typed)
        → call_node (result_of method.descriptor) (class_call known method are) ≡ Some found → AreOperands here n scope are → Noded (op.InvokeStatic method) are found
    static-gives method is named are found e h =
        given-noded (Noded (op.InvokeStatic method) are) (result_of method.descriptor) (class_call known method are) found
        (λ exp type made gives. calls.static-noded known here runs refl run.lawful run.may n scope method is (class-whole site method.owner is.class is.owner named.owner) (each-whole site (parameters_of method.descriptor) named.parameters) are exp made h type gives) e

    static-does : (bound : ℕ) (method : MethodRef) → IsOfClass site.headers site.members site.class method → MethodIsNamed site method → (are : List Typed) (found : Plain)
        → call_effect (result_of method.descriptor) (class_call known method are) ≡ Some found → AreOperands here n scope are → Done bound (op.InvokeStatic method) are found
    static-does bound method is named are found e h =
        alone-done (Done bound (op.InvokeStatic method) are) (result_of method.descriptor) (class_call known method are) found
        (λ exp made gives drops. static-alone known here runs refl run.may bound n scope method is (class-whole site method.owner is.class is.owner named.owner) (each-whole site (parameters_of method.descriptor) named.parameters) gives are exp found made drops h) e

    -- ---- `invokespecial`

    -- what a call behind `super` means
    behind-interface : (method : MethodRef) (named : MethodIsNamed site method) (interface : Name) → class_of method.owner ≡ Some interface → IsOfInterface site.headers site.members site.class method
        → IsSuper known here runs refl run.may n scope method (each-whole site (parameters_of method.descriptor) named.parameters) (Some interface) (Some interface)
    behind-interface method named interface at is =
        let same : is.interface ≡ interface = (let some : Some is.interface ≡ Some interface = sym (ap class_of is.owner) ∙ at in cc) in
        subst (λ one. IsSuper known here runs refl run.may n scope method (each-whole site (parameters_of method.descriptor) named.parameters) (Some one) (Some one)) same
        (interface-super known here runs refl run.may n scope method (each-whole site (parameters_of method.descriptor) named.parameters) is (class-whole site method.owner is.interface is.owner named.owner))

    private-result : (method : MethodRef) (owner : JType) (class : Name) → owner ≡ Class class → result (asked_of Special owner method) ≡ result_of method.descriptor
    private-result method owner class is = ap (λ type. if is_array_clone type method.name (parameters_of method.descriptor) then Some type else result_of method.descriptor) is

    private-owner : (method : MethodRef) → method.owner ≡ Class site.class → method.owner ≡ special_owner here.headers here.class method
    private-owner method owner = sym (of-private site.headers here.headers wide site.members runs.paired site.class run.whole method owner)

    special-gives : (receiver : Receiver) (method : MethodRef) → IsLawful site.headers site.members site.class method receiver → MethodIsNamed site method → (are : List Typed) (found : Typed)
        → call_node (result_of method.descriptor) (special_call known method are) ≡ Some found → AreOperands here n scope are → Noded (op.InvokeSpecial method) are found
    special-gives receiver method lawful named are found e h =
        given-noded (Noded (op.InvokeSpecial method) are) (result_of method.descriptor) (special_call known method are) found (λ exp type made gives. by exp type gives (special-way site rooted method receiver lawful are exp made)) e
      where
        by : (exp : Exp) (type : JType) → result_of method.descriptor ≡ Some type → IsPrivate site rooted method are exp ⊎ IsBehind site rooted method are exp → Noded (op.InvokeSpecial method) are (Of type, exp)
        by exp type gives (inl own) =
            subst (λ owner. IsNoded here n scope (object_called Special owner method) are (Of type, exp)) (private-owner method own.owner)
            (calls.object-noded known here runs refl run.lawful run.may n scope Special special-differs method own.is (named-whole site method.owner named.owner) (each-whole site (parameters_of method.descriptor) named.parameters) are exp own.made h type (private-result method method.owner site.class own.owner ∙ gives))
        by exp type gives (inr behind) =
            called-noded known here runs refl run.may n scope method (each-whole site (parameters_of method.descriptor) named.parameters)
            (λ above. class-super known here runs refl run.may n scope method (each-whole site (parameters_of method.descriptor) named.parameters) (behind.class above))
            (λ other interface at. behind-interface method named interface at (behind.interface other interface at)) are exp behind.made h type gives

    special-does : (bound : ℕ) (receiver : Receiver) (method : MethodRef) → IsLawful site.headers site.members site.class method receiver → MethodIsNamed site method → (are : List Typed) (found : Plain)
        → call_effect (result_of method.descriptor) (special_call known method are) ≡ Some found → AreOperands here n scope are → Done bound (op.InvokeSpecial method) are found
    special-does bound receiver method lawful named are found e h =
        alone-done (Done bound (op.InvokeSpecial method) are) (result_of method.descriptor) (special_call known method are) found (λ exp made gives drops. by exp gives drops (special-way site rooted method receiver lawful are exp made)) e
      where
        by : (exp : Exp) → result_of method.descriptor ≡ None → dropped exp ≡ Some found → IsPrivate site rooted method are exp ⊎ IsBehind site rooted method are exp → Done bound (op.InvokeSpecial method) are found
        by exp gives drops (inl own) =
            subst (λ owner. IsEffect here bound scope (object_called Special owner method) are found.0 × EachInStm (IsBelow n) found.0) (private-owner method own.owner)
            (object-alone known here runs refl run.may bound n scope Special special-differs method own.is (named-whole site method.owner named.owner) (each-whole site (parameters_of method.descriptor) named.parameters) gives are exp found own.made drops h)
        by exp gives drops (inr behind) =
            called-alone known here runs refl run.may n scope method (each-whole site (parameters_of method.descriptor) named.parameters)
            (λ above. class-super known here runs refl run.may n scope method (each-whole site (parameters_of method.descriptor) named.parameters) (behind.class above))
            (λ other interface at. behind-interface method named interface at (behind.interface other interface at)) bound are exp found behind.made drops h gives

    special-born : (method : MethodRef) → IsLawful site.headers site.members site.class method (receivers pc) → MethodIsNamed site method → (named_by.IsAllowed site receivers pc (op.InvokeSpecial method)) → (made : Name) (are : List Typed) (exp : Exp)
        → birth_of known method made are ≡ Some exp → AreOperands here n scope are → IsBirth here scope made (object_called Special (special_owner here.headers here.class method) method) are exp × IsEntry here n scope (Of (Class made)) exp
    special-born method lawful named allowed made are exp e h = by (receivers pc) (allowed.born method refl constructs) lawful
      where
        constructs : is_constructor method.name ≡ true
        constructs = constructs-one site rooted receivers pc n scope method made are exp e

        by : (receiver : Receiver) → receiver ≡ Made → IsLawful site.headers site.members site.class method receiver → IsBirth here scope made (object_called Special (special_owner here.headers here.class method) method) are exp × IsEntry here n scope (Of (Class made)) exp
        by receiver at (lawful_new is) = born-done known here runs refl run.may n scope method is (class-whole site method.owner is.class is.owner named.owner) (each-whole site (parameters_of method.descriptor) named.parameters) made are exp e h
        by receiver at (lawful_construct is) = absurd (cc)
        by receiver at (lawful_private owner plain_name is) = absurd (true≢false (sym constructs ∙ plain_name))
        by receiver at (lawful_super is) = absurd (true≢false (sym constructs ∙ is.plain))
        by receiver at (lawful_interface is) = absurd (true≢false (sym constructs ∙ is.plain))

    -- ---- each instruction

    member-noded : (instruction : Instruction) → IsAllowed site receivers pc instruction → (are : List Typed) (found : Typed) → member_node known instruction are ≡ Some found → AreOperands here n scope are → Noded instruction are found
    member-noded op.Nop allowed are found e h = absurd (cc)
    member-noded op.PushNull allowed are found e h = absurd (cc)
    member-noded (op.Push constant) allowed are found e h = absurd (cc)
    member-noded (op.PushClass type) allowed are found e h = class-noded site.headers here run.may n scope type (class-kept here.headers type) are found e h
    member-noded (op.PushHandle kind interface owner name descriptor) allowed are found e h = absurd (cc)
    member-noded (op.PushMethodType descriptor) allowed are found e h = absurd (cc)
    member-noded (op.Load kind slot) allowed are found e h = absurd (cc)
    member-noded (op.Store kind slot) allowed are found e h = absurd (cc)
    member-noded (op.ArrayLoad kind) allowed are found e h = element-noded site.headers here run.may n scope kind are found e h
    member-noded (op.ArrayStore kind) allowed are found e h = absurd (cc)
    member-noded op.Pop allowed are found e h = absurd (cc)
    member-noded op.Pop2 allowed are found e h = absurd (cc)
    member-noded op.Dup allowed are found e h = absurd (cc)
    member-noded op.DupX1 allowed are found e h = absurd (cc)
    member-noded op.DupX2 allowed are found e h = absurd (cc)
    member-noded op.Dup2 allowed are found e h = absurd (cc)
    member-noded op.Dup2X1 allowed are found e h = absurd (cc)
    member-noded op.Dup2X2 allowed are found e h = absurd (cc)
    member-noded op.Swap allowed are found e h = absurd (cc)
    member-noded (op.Calc operation kind) allowed are found e h = absurd (cc)
    member-noded (op.Iinc slot by) allowed are found e h = absurd (cc)
    member-noded (op.Convert from to) allowed are found e h = absurd (cc)
    member-noded (op.Compare kind greater) allowed are found e h = absurd (cc)
    member-noded (op.IfZero test target) allowed are found e h = absurd (cc)
    member-noded (op.IfInts test target) allowed are found e h = absurd (cc)
    member-noded (op.IfRefs equal target) allowed are found e h = absurd (cc)
    member-noded (op.IfNull null target) allowed are found e h = absurd (cc)
    member-noded (op.Goto target) allowed are found e h = absurd (cc)
    member-noded (op.TableSwitch low targets other) allowed are found e h = absurd (cc)
    member-noded (op.LookupSwitch cases other) allowed are found e h = absurd (cc)
    member-noded (op.Return kind) allowed are found e h = absurd (cc)
    member-noded (op.GetStatic field) allowed are found e h = let is = static-plain field allowed.member in static-noded site.headers here runs run.may n scope field is.0 is.1 (class-whole site field.owner is.0.class is.0.owner allowed.named.owner) are found e
    member-noded (op.PutStatic field) allowed are found e h = absurd (cc)
    member-noded (op.GetField field) allowed are found e h = let is = field-of site field allowed.member in field-noded site.headers here runs run.may n scope field is (class-whole site field.owner is.class is.owner allowed.named.owner) are found e h
    member-noded (op.PutField field) allowed are found e h = absurd (cc)
    member-noded (op.InvokeVirtual method) allowed are found e h = object-gives Virtual virtual-differs method (virtual-of site method allowed.member) allowed.named.0 are found e h
    member-noded (op.InvokeSpecial method) allowed are found e h = special-gives (receivers pc) method (lawful-of site method allowed.member) allowed.named are found e h
    member-noded (op.InvokeStatic method) allowed are found e h = static-gives method (class-of site method allowed.member) allowed.named.0 are found e h
    member-noded (op.InvokeInterface method) allowed are found e h = object-gives Interface interface-differs method (interface-of site method allowed.member) allowed.named.0 are found e h
    member-noded (op.InvokeDynamic bootstrap name descriptor) allowed are found e h = absurd (cc)
    member-noded (op.New name) allowed are found e h = absurd (cc)
    member-noded (op.NewArray element) allowed are found e h = array-noded site.headers here run.may n scope site (Array element) are found e h
    member-noded (op.MultiNewArray type sizes) allowed are found e h = array-noded site.headers here run.may n scope site type are found e h
    member-noded op.ArrayLength allowed are found e h = length-noded site.headers here run.may n scope are found e h
    member-noded op.Throw allowed are found e h = absurd (cc)
    member-noded (op.CheckCast type) allowed are found e h = cast-noded site.headers here run.may n scope type are found e h
    member-noded (op.InstanceOf type) allowed are found e h = instance-noded site.headers here run.may n scope type are found e h
    member-noded op.MonitorEnter allowed are found e h = absurd (cc)
    member-noded op.MonitorExit allowed are found e h = absurd (cc)

    member-done : (bound : ℕ) (instruction : Instruction) → IsAllowed site receivers pc instruction → (are : List Typed) (found : Plain) → member_effect known instruction are ≡ Some found → AreOperands here n scope are → Done bound instruction are found
    member-done bound op.Nop allowed are found e h = absurd (cc)
    member-done bound op.PushNull allowed are found e h = absurd (cc)
    member-done bound (op.Push constant) allowed are found e h = absurd (cc)
    member-done bound (op.PushClass type) allowed are found e h = absurd (cc)
    member-done bound (op.PushHandle kind interface owner name descriptor) allowed are found e h = absurd (cc)
    member-done bound (op.PushMethodType descriptor) allowed are found e h = absurd (cc)
    member-done bound (op.Load kind slot) allowed are found e h = absurd (cc)
    member-done bound (op.Store kind slot) allowed are found e h = absurd (cc)
    member-done bound (op.ArrayLoad kind) allowed are found e h = absurd (cc)
    member-done bound (op.ArrayStore kind) allowed are found e h = element-done site.headers here run.may n scope bound kind are found e h
    member-done bound op.Pop allowed are found e h = absurd (cc)
    member-done bound op.Pop2 allowed are found e h = absurd (cc)
    member-done bound op.Dup allowed are found e h = absurd (cc)
    member-done bound op.DupX1 allowed are found e h = absurd (cc)
    member-done bound op.DupX2 allowed are found e h = absurd (cc)
    member-done bound op.Dup2 allowed are found e h = absurd (cc)
    member-done bound op.Dup2X1 allowed are found e h = absurd (cc)
    member-done bound op.Dup2X2 allowed are found e h = absurd (cc)
    member-done bound op.Swap allowed are found e h = absurd (cc)
    member-done bound (op.Calc operation kind) allowed are found e h = absurd (cc)
    member-done bound (op.Iinc slot by) allowed are found e h = absurd (cc)
    member-done bound (op.Convert from to) allowed are found e h = absurd (cc)
    member-done bound (op.Compare kind greater) allowed are found e h = absurd (cc)
    member-done bound (op.IfZero test target) allowed are found e h = absurd (cc)
    member-done bound (op.IfInts test target) allowed are found e h = absurd (cc)
    member-done bound (op.IfRefs equal target) allowed are found e h = absurd (cc)
    member-done bound (op.IfNull null target) allowed are found e h = absurd (cc)
    member-done bound (op.Goto target) allowed are found e h = absurd (cc)
    member-done bound (op.TableSwitch low targets other) allowed are found e h = absurd (cc)
    member-done bound (op.LookupSwitch cases other) allowed are found e h = absurd (cc)
    member-done bound (op.Return kind) allowed are found e h = absurd (cc)
    member-done bound (op.GetStatic field) allowed are found e h = absurd (cc)
    member-done bound (op.PutStatic field) allowed are found e h = let written = static-written site field allowed.member in static-done site.headers here runs run.may bound n scope field written.is (class-whole site field.owner written.is.class written.is.owner allowed.named.owner) are found e h
    member-done bound (op.GetField field) allowed are found e h = absurd (cc)
    member-done bound (op.PutField field) allowed are found e h = let written = field-written site field allowed.member in field-done site.headers here runs run.may bound n scope field written.is (class-whole site field.owner written.is.class written.is.owner allowed.named.owner) are found e h
    member-done bound (op.InvokeVirtual method) allowed are found e h = object-does bound Virtual virtual-differs method (virtual-of site method allowed.member) allowed.named.0 are found e h
    member-done bound (op.InvokeSpecial method) allowed are found e h = special-does bound (receivers pc) method (lawful-of site method allowed.member) allowed.named are found e h
    member-done bound (op.InvokeStatic method) allowed are found e h = static-does bound method (class-of site method allowed.member) allowed.named.0 are found e h
    member-done bound (op.InvokeInterface method) allowed are found e h = object-does bound Interface interface-differs method (interface-of site method allowed.member) allowed.named.0 are found e h
    member-done bound (op.InvokeDynamic bootstrap name descriptor) allowed are found e h = absurd (cc)
    member-done bound (op.New name) allowed are found e h = absurd (cc)
    member-done bound (op.NewArray element) allowed are found e h = absurd (cc)
    member-done bound (op.MultiNewArray type sizes) allowed are found e h = absurd (cc)
    member-done bound op.ArrayLength allowed are found e h = absurd (cc)
    member-done bound op.Throw allowed are found e h = absurd (cc)
    member-done bound (op.CheckCast type) allowed are found e h = absurd (cc)
    member-done bound (op.InstanceOf type) allowed are found e h = absurd (cc)
    member-done bound op.MonitorEnter allowed are found e h = absurd (cc)
    member-done bound op.MonitorExit allowed are found e h = absurd (cc)

    member-born : (instruction : Instruction) → IsAllowed site receivers pc instruction → (made : Name) (are : List Typed) (exp : Exp) → member_birth known instruction made are ≡ Some exp → AreOperands here n scope are
        → IsBirth here scope made (operation_of (meaning_of here.headers here.class instruction)) are exp × IsEntry here n scope (Of (Class made)) exp
    member-born op.Nop allowed made are exp e h = absurd (cc)
    member-born op.PushNull allowed made are exp e h = absurd (cc)
    member-born (op.Push constant) allowed made are exp e h = absurd (cc)
    member-born (op.PushClass type) allowed made are exp e h = absurd (cc)
    member-born (op.PushHandle kind interface owner name descriptor) allowed made are exp e h = absurd (cc)
    member-born (op.PushMethodType descriptor) allowed made are exp e h = absurd (cc)
    member-born (op.Load kind slot) allowed made are exp e h = absurd (cc)
    member-born (op.Store kind slot) allowed made are exp e h = absurd (cc)
    member-born (op.ArrayLoad kind) allowed made are exp e h = absurd (cc)
    member-born (op.ArrayStore kind) allowed made are exp e h = absurd (cc)
    member-born op.Pop allowed made are exp e h = absurd (cc)
    member-born op.Pop2 allowed made are exp e h = absurd (cc)
    member-born op.Dup allowed made are exp e h = absurd (cc)
    member-born op.DupX1 allowed made are exp e h = absurd (cc)
    member-born op.DupX2 allowed made are exp e h = absurd (cc)
    member-born op.Dup2 allowed made are exp e h = absurd (cc)
    member-born op.Dup2X1 allowed made are exp e h = absurd (cc)
    member-born op.Dup2X2 allowed made are exp e h = absurd (cc)
    member-born op.Swap allowed made are exp e h = absurd (cc)
    member-born (op.Calc operation kind) allowed made are exp e h = absurd (cc)
    member-born (op.Iinc slot by) allowed made are exp e h = absurd (cc)
    member-born (op.Convert from to) allowed made are exp e h = absurd (cc)
    member-born (op.Compare kind greater) allowed made are exp e h = absurd (cc)
    member-born (op.IfZero test target) allowed made are exp e h = absurd (cc)
    member-born (op.IfInts test target) allowed made are exp e h = absurd (cc)
    member-born (op.IfRefs equal target) allowed made are exp e h = absurd (cc)
    member-born (op.IfNull null target) allowed made are exp e h = absurd (cc)
    member-born (op.Goto target) allowed made are exp e h = absurd (cc)
    member-born (op.TableSwitch low targets other) allowed made are exp e h = absurd (cc)
    member-born (op.LookupSwitch cases other) allowed made are exp e h = absurd (cc)
    member-born (op.Return kind) allowed made are exp e h = absurd (cc)
    member-born (op.GetStatic field) allowed made are exp e h = absurd (cc)
    member-born (op.PutStatic field) allowed made are exp e h = absurd (cc)
    member-born (op.GetField field) allowed made are exp e h = absurd (cc)
    member-born (op.PutField field) allowed made are exp e h = absurd (cc)
    member-born (op.InvokeVirtual method) allowed made are exp e h = absurd (cc)
    member-born (op.InvokeSpecial method) allowed made are exp e h = special-born method (lawful-of site method allowed.member) allowed.named allowed made are exp e h
    member-born (op.InvokeStatic method) allowed made are exp e h = absurd (cc)
    member-born (op.InvokeInterface method) allowed made are exp e h = absurd (cc)
    member-born (op.InvokeDynamic bootstrap name descriptor) allowed made are exp e h = absurd (cc)
    member-born (op.New name) allowed made are exp e h = absurd (cc)
    member-born (op.NewArray element) allowed made are exp e h = absurd (cc)
    member-born (op.MultiNewArray type sizes) allowed made are exp e h = absurd (cc)
    member-born op.ArrayLength allowed made are exp e h = absurd (cc)
    member-born op.Throw allowed made are exp e h = absurd (cc)
    member-born (op.CheckCast type) allowed made are exp e h = absurd (cc)
    member-born (op.InstanceOf type) allowed made are exp e h = absurd (cc)
    member-born op.MonitorEnter allowed made are exp e h = absurd (cc)
    member-born op.MonitorExit allowed made are exp e h = absurd (cc)

  -- ---- together

  module _ (rooted : RootsAreNamed site) (receivers : ℕ → Receiver) (code : Code) (of_class : code.class ≡ site.class) (allowed : (pc : ℕ) (instruction : Instruction) → Contains code.instructions (pc, instruction) → IsAllowed site receivers pc instruction)
      (bound : ℕ) (ways : Ways) (are_ways : AreMemberWays known ways) where
    -- what an instruction does, by the site's class
    operation-is : (instruction : Instruction) (count : ℕ) (operation : List Value → Reply (Option Value)) → meaning_of here.headers code.class instruction ≡ Strict count operation → operation_of (meaning_of here.headers site.class instruction) ≡ operation
    operation-is instruction count operation is = ap operation_of (ap (λ class. meaning_of here.headers class instruction) (sym of_class) ∙ is)

    here-hold : MembersHold here bound code ways
    here-hold = record {
      goes = λ static type goes reference kept. carried site.headers here.headers run.may static type (sym (are_ways.goes static type) ∙ goes) reference kept;
      constants = λ instruction found e count operation is. constants-hold here (strings here.headers) code.class instruction found (sym (are_ways.constant instruction) ∙ e) count operation is;
      nodes = λ pc instruction there are found e count operation is n inner h. nodes pc instruction there are found (sym (are_ways.node instruction are) ∙ e) count operation is n inner h;
      effects = λ pc instruction there are found e count operation is n inner h.
          subst (λ operation. IsEffect here bound inner operation are found.0 × EachInStm (IsBelow n) found.0) (operation-is instruction count operation is)
          (member-done rooted receivers pc n inner bound instruction (allowed pc instruction there) are found (sym (are_ways.effect instruction are) ∙ e) h);
      births = λ pc instruction there made are exp e count operation is n inner h.
          subst (λ operation. IsBirth here inner made operation are exp × IsEntry here n inner (Of (Class made)) exp) (operation-is instruction count operation is)
          (member-born rooted receivers pc n inner instruction (allowed pc instruction there) made are exp (sym (are_ways.birth instruction made are) ∙ e) h);
    }
      where
        nodes : (pc : ℕ) (instruction : Instruction) → Contains code.instructions (pc, instruction) → (are : List Typed) (found : Typed) → node_of known instruction are ≡ Some found → (count : ℕ) (operation : List Value → Reply (Option Value)) → meaning_of here.headers code.class instruction ≡ Strict count operation
            → (n : ℕ) (inner : Scope) → AreOperands here n inner are → IsNoded here n inner operation are found
        nodes pc instruction there are found e count operation is n inner h = by (own_nodes instruction are) refl e
          where
            by : (own : Option Typed) → own_nodes instruction are ≡ own → or_else own (member_node known instruction are) ≡ Some found → IsNoded here n inner operation are found
            by None at f = subst (λ operation. IsNoded here n inner operation are found) (operation-is instruction count operation is) (member-noded rooted receivers pc n inner instruction (allowed pc instruction there) are found f h)
            by (Some one) at f = nodes-hold here code.class instruction are found (at ∙ f) count operation is n inner h

pub member-ways-hold : MemberWaysHold
member-ways-hold site rooted receivers code of_class allowed context run bound ways are_ways =
    subst (λ one. MembersHold one bound code ways) (here-same site context run) (here-hold site context run rooted receivers code of_class allowed bound ways are_ways)
