-- What stands for each instruction keeps the rules, where the causes speak against none.
use Rattle.std.proofs.Common.{ℕ, ◌≡◌, Bool, true, false, List, [], ◌∷◌, Option, Some, None, is_some, refl, sym, ap, ◌∙◌, subst, codes}
use Rattle.std.specs.Prelude.{IfSome, ◌&&◌, ◌+◌}
use Rattle.std.proofs.lemmas.Bool.{and_parts, true≢false}
use Rattle.dj_names.specs.Headers.{Name}
use Rattle.dj_names.specs.MethodNames.{is_constructor}
use Rattle.dj_names.specs.Types as types
use Rattle.dj_names.specs.Types.{JType, Class, StaticType, Of, parameters_of, result_of}
use Rattle.dj_names.specs.declared.members.Constant.{Constant}
use Rattle.dj_names.specs.declared.members.Constant.TheVariants as constants
use Rattle.dj_syntax.specs.Trees.{Exp, Text, Truth, This, Variable, ClassOf, Field, Static, Element, Call, StaticCall, SuperCall, New, NewArray, Cast, InstanceOf, Negative, Not, Binary, Choice, Assign, Run}
use Rattle.dj_syntax.specs.Trees as trees
use Rattle.dj_instructions.specs.Instructions.{Instruction, FieldRef, MethodRef}
use Rattle.dj_instructions.specs.Instructions as op
use Rattle.dj_values.specs.Values.{Virtual, Interface}
use Rattle.dj_bytecode.specs.Meanings.{Family, Strict, Moves, Loads, Stores, Counts, Leads, Returns, NotRun, calculation, conversion}
use Rattle.dj_instructions.specs.declared.kinds.Kind.{Kind}
use Rattle.dj_instructions.specs.declared.kinds.Kind.TheVariants as kinds
use Rattle.dj_meaning.specs.Targets.{result}
use Rattle.dj_meaning.specs.StaticTypes.{Scope, typed, type_of}
use Rattle.dj_meaning.specs.Statements.{Elsewhere}
use Rattle.dj_places.specs.Rules.{Holds}
use Rattle.dj_typing.specs.Sites.{Site, context_of, may_name_type}
use Rattle.dj_typing.specs.Expressions.{effect_types}
use Rattle.dj_blocks_formed.specs.Stores.{may_assign}
use Rattle.dj_blocks_formed.specs.Statements.{Around, stm_types}
use Rattle.dj_blocks_formed.specs.Formed.{constants_of}
use Rattle.dj_members_shown.specs.Meant.{asked_of, Receiver, Made, IsField, IsOfObject, IsOfClass, IsOfNew, IsLawful, lawful_new, lawful_construct, lawful_private, lawful_super, lawful_interface, HasMember, get_static, put_static, get_field, put_field, invoke_virtual, invoke_interface, invoke_static, invoke_special, none, names_member}
use Rattle.dj_rebuilding.specs.Pending.{Atom, Nothing, Number, Wide, Units, Typed, exp_of, and_then, declared_type, call, static_call, super_call, birth}
use Rattle.dj_rebuilding.specs.Agreeing.{IsEntry}
use Rattle.dj_rebuilt.specs.Standing.{AreOperands}
use Rattle.dj_rebuilt.specs.Known.{atom_of_constant, constant_of, own_nodes, compare_nodes}
use Rattle.dj_rebuilt.specs.Rebuilding.{Plain, or_else, dropped}
use Rattle.dj_rebuilt.proofs.Arithmetic.{IsNodeOf, calc-noded, convert-noded-by}
use Rattle.dj_rebuilt.proofs.Known.{nodes-hold}
use Rattle.dj_blocks_formed.specs.Ruled.{IsRuled, AreRuledOperands}
use Rattle.dj_blocks_formed.proofs.Blocks.{made-if, both-are}
use Rattle.dj_blocks_formed.proofs.Spilled.{named-whole}
use Rattle.dj_values.specs.Deciding.{is_type}
use Rattle.dj_member_nodes.specs.Going.{may_be_given}
use Rattle.dj_member_nodes.specs.Nodes.{given_to, call_node, call_effect, object_call, class_call, special_call, birth_of, member_node, member_effect, member_birth, node_of}
use Rattle.dj_member_nodes.specs.Named.{FieldIsNamed, MethodIsNamed, IsNamed, RootsAreNamed, IsAllowed}
use Rattle.dj_member_nodes.specs.Laws.{ConstantsKeepRules, NodesKeepRules, EffectsKeepRules, BirthsKeepRules}
use Rattle.dj_member_nodes.proofs.Numbers.{IsOwn, calc-keeps, converts-keep, compares-keep}
use Rattle.dj_member_nodes.proofs.Members.{field-ruled, static-ruled, element-ruled, length-ruled, array-ruled, cast-ruled, instance-ruled, class-ruled}
use Rattle.dj_member_nodes.proofs.Effects.{field-done, static-done, element-done}
use Rattle.dj_member_nodes.proofs.Calls.{IsCall, asked-named, object-called, class-called, birth-ruled}
use Rattle.dj_member_nodes.proofs.Special.{special-called}

-- ---- constants

module _ (site : Site) (roots : RootsAreNamed site) (n : ℕ) (scope : Scope) where
  abbrev ConstantRuled : StaticType × Atom → Type 0
  ConstantRuled found = IsRuled site n scope found.0 (exp_of found.1)

  pushed-ruled : (constant : Constant) (found : StaticType × Atom) → atom_of_constant constant ≡ Some found → ConstantRuled found
  pushed-ruled (constants.Int number) found e =
      let same : (Of types.Int, Number number) ≡ found = cc in
      subst ConstantRuled same (record { entry = record { small = tt; typed = refl }; keeps = λ place. tt; named = refl })
  pushed-ruled (constants.Long number) found e =
      let same : (Of types.Long, Wide number) ≡ found = cc in
      subst ConstantRuled same (record { entry = record { small = tt; typed = refl }; keeps = λ place. tt; named = refl })
  pushed-ruled (constants.Text units) found e =
      let same : (Of (Class (codes "java/lang/String")), Units units) ≡ found = cc in
      subst ConstantRuled same (record { entry = record { small = tt; typed = refl }; keeps = λ place. named-whole site (Class (codes "java/lang/String")) roots.string; named = roots.string })
  pushed-ruled (constants.Float bits) found e = absurd (cc)
  pushed-ruled (constants.Double bits) found e = absurd (cc)

  null-ruled : (found : StaticType × Atom) → Some (types.Null, Nothing) ≡ Some found → ConstantRuled found
  null-ruled found e =
      let same : (types.Null, Nothing) ≡ found = cc in
      subst ConstantRuled same (record { entry = record { small = tt; typed = refl }; keeps = λ place. tt; named = roots.object })

  constant-ruled : (instruction : Instruction) (found : StaticType × Atom) → constant_of instruction ≡ Some found → ConstantRuled found
  constant-ruled op.Nop found e = absurd (cc)
  constant-ruled op.PushNull found e = null-ruled found e
  constant-ruled (op.Push constant) found e = pushed-ruled constant found e
  constant-ruled (op.PushClass type) found e = absurd (cc)
  constant-ruled (op.PushHandle kind interface owner name descriptor) found e = absurd (cc)
  constant-ruled (op.PushMethodType descriptor) found e = absurd (cc)
  constant-ruled (op.Load kind slot) found e = absurd (cc)
  constant-ruled (op.Store kind slot) found e = absurd (cc)
  constant-ruled (op.ArrayLoad kind) found e = absurd (cc)
  constant-ruled (op.ArrayStore kind) found e = absurd (cc)
  constant-ruled op.Pop found e = absurd (cc)
  constant-ruled op.Pop2 found e = absurd (cc)
  constant-ruled op.Dup found e = absurd (cc)
  constant-ruled op.DupX1 found e = absurd (cc)
  constant-ruled op.DupX2 found e = absurd (cc)
  constant-ruled op.Dup2 found e = absurd (cc)
  constant-ruled op.Dup2X1 found e = absurd (cc)
  constant-ruled op.Dup2X2 found e = absurd (cc)
  constant-ruled op.Swap found e = absurd (cc)
  constant-ruled (op.Calc operation kind) found e = absurd (cc)
  constant-ruled (op.Iinc slot by) found e = absurd (cc)
  constant-ruled (op.Convert from to) found e = absurd (cc)
  constant-ruled (op.Compare kind greater) found e = absurd (cc)
  constant-ruled (op.IfZero test target) found e = absurd (cc)
  constant-ruled (op.IfInts test target) found e = absurd (cc)
  constant-ruled (op.IfRefs equal target) found e = absurd (cc)
  constant-ruled (op.IfNull null target) found e = absurd (cc)
  constant-ruled (op.Goto target) found e = absurd (cc)
  constant-ruled (op.TableSwitch low targets other) found e = absurd (cc)
  constant-ruled (op.LookupSwitch cases other) found e = absurd (cc)
  constant-ruled (op.Return kind) found e = absurd (cc)
  constant-ruled (op.GetStatic field) found e = absurd (cc)
  constant-ruled (op.PutStatic field) found e = absurd (cc)
  constant-ruled (op.GetField field) found e = absurd (cc)
  constant-ruled (op.PutField field) found e = absurd (cc)
  constant-ruled (op.InvokeVirtual method) found e = absurd (cc)
  constant-ruled (op.InvokeSpecial method) found e = absurd (cc)
  constant-ruled (op.InvokeStatic method) found e = absurd (cc)
  constant-ruled (op.InvokeInterface method) found e = absurd (cc)
  constant-ruled (op.InvokeDynamic bootstrap name descriptor) found e = absurd (cc)
  constant-ruled (op.New name) found e = absurd (cc)
  constant-ruled (op.NewArray type) found e = absurd (cc)
  constant-ruled (op.MultiNewArray type sizes) found e = absurd (cc)
  constant-ruled op.ArrayLength found e = absurd (cc)
  constant-ruled op.Throw found e = absurd (cc)
  constant-ruled (op.CheckCast type) found e = absurd (cc)
  constant-ruled (op.InstanceOf type) found e = absurd (cc)
  constant-ruled op.MonitorEnter found e = absurd (cc)
  constant-ruled op.MonitorExit found e = absurd (cc)

pub constants-keep-rules : ConstantsKeepRules
constants-keep-rules site roots instruction found e n scope = constant-ruled site roots n scope instruction found e

-- ---- numbers

module _ (site : Site) (n : ℕ) (scope : Scope) where
  -- operands that keep the rules are ones of their types
  plain-operands : (are : List Typed) → AreRuledOperands site n scope are → AreOperands (context_of site) n scope are
  plain-operands [] h = tt
  plain-operands (first ∷ rest) h = (h.0.entry, plain-operands rest h.1)

  entry-of : (family : Family) (are : List Typed) (found : Typed) → IsNodeOf (context_of site) n scope family are found → IsEntry (context_of site) n scope found.0 found.1
  entry-of (Strict count operation) are found h = h.is
  entry-of (Moves forms) are found h = absurd h
  entry-of (Loads of_kind slot) are found h = absurd h
  entry-of (Stores of_kind slot) are found h = absurd h
  entry-of (Counts slot by) are found h = absurd h
  entry-of (Leads count choice) are found h = absurd h
  entry-of (Returns giving) are found h = absurd h
  entry-of NotRun are found h = absurd h

  own-ruled : (found : Typed) → IsEntry (context_of site) n scope found.0 found.1 → IsOwn site scope found → IsRuled site n scope found.0 found.1
  own-ruled found entry own = record { entry = entry; keeps = own.keeps; named = own.named }

  compare-ruled : (kind : Kind) (are : List Typed) (found : Typed) → compare_nodes kind are ≡ Some found → AreRuledOperands site n scope are → IsRuled site n scope found.0 found.1
  compare-ruled kinds.Int are found e h = absurd (cc)
  compare-ruled kinds.Long are found e h =
      own-ruled found (nodes-hold (context_of site) site.class (op.Compare kinds.Long false) are found e 2 _ refl n scope (plain-operands are h)).is (compares-keep site scope n kinds.Long are found e h)
  compare-ruled kinds.Float are found e h = absurd (cc)
  compare-ruled kinds.Double are found e h = absurd (cc)
  compare-ruled kinds.Ref are found e h = absurd (cc)

  own-node : (instruction : Instruction) (are : List Typed) (found : Typed) → own_nodes instruction are ≡ Some found → AreRuledOperands site n scope are → IsRuled site n scope found.0 found.1
  own-node op.Nop are found e h = absurd (cc)
  own-node op.PushNull are found e h = absurd (cc)
  own-node (op.Push constant) are found e h = absurd (cc)
  own-node (op.PushClass type) are found e h = absurd (cc)
  own-node (op.PushHandle kind interface owner name descriptor) are found e h = absurd (cc)
  own-node (op.PushMethodType descriptor) are found e h = absurd (cc)
  own-node (op.Load kind slot) are found e h = absurd (cc)
  own-node (op.Store kind slot) are found e h = absurd (cc)
  own-node (op.ArrayLoad kind) are found e h = absurd (cc)
  own-node (op.ArrayStore kind) are found e h = absurd (cc)
  own-node op.Pop are found e h = absurd (cc)
  own-node op.Pop2 are found e h = absurd (cc)
  own-node op.Dup are found e h = absurd (cc)
  own-node op.DupX1 are found e h = absurd (cc)
  own-node op.DupX2 are found e h = absurd (cc)
  own-node op.Dup2 are found e h = absurd (cc)
  own-node op.Dup2X1 are found e h = absurd (cc)
  own-node op.Dup2X2 are found e h = absurd (cc)
  own-node op.Swap are found e h = absurd (cc)
  own-node (op.Calc operation kind) are found e h = own-ruled found (entry-of (calculation operation kind) are found (calc-noded (context_of site) n scope operation kind are found (plain-operands are h) e)) (calc-keeps site scope n operation kind are found e h)
  own-node (op.Iinc slot by) are found e h = absurd (cc)
  own-node (op.Convert from to) are found e h = own-ruled found (entry-of (conversion from to) are found (convert-noded-by (context_of site) n scope from to are found (plain-operands are h) e)) (converts-keep site scope n from to are found e h)
  own-node (op.Compare kind greater) are found e h = compare-ruled kind are found e h
  own-node (op.IfZero test target) are found e h = absurd (cc)
  own-node (op.IfInts test target) are found e h = absurd (cc)
  own-node (op.IfRefs equal target) are found e h = absurd (cc)
  own-node (op.IfNull null target) are found e h = absurd (cc)
  own-node (op.Goto target) are found e h = absurd (cc)
  own-node (op.TableSwitch low targets other) are found e h = absurd (cc)
  own-node (op.LookupSwitch cases other) are found e h = absurd (cc)
  own-node (op.Return kind) are found e h = absurd (cc)
  own-node (op.GetStatic field) are found e h = absurd (cc)
  own-node (op.PutStatic field) are found e h = absurd (cc)
  own-node (op.GetField field) are found e h = absurd (cc)
  own-node (op.PutField field) are found e h = absurd (cc)
  own-node (op.InvokeVirtual method) are found e h = absurd (cc)
  own-node (op.InvokeSpecial method) are found e h = absurd (cc)
  own-node (op.InvokeStatic method) are found e h = absurd (cc)
  own-node (op.InvokeInterface method) are found e h = absurd (cc)
  own-node (op.InvokeDynamic bootstrap name descriptor) are found e h = absurd (cc)
  own-node (op.New name) are found e h = absurd (cc)
  own-node (op.NewArray type) are found e h = absurd (cc)
  own-node (op.MultiNewArray type sizes) are found e h = absurd (cc)
  own-node op.ArrayLength are found e h = absurd (cc)
  own-node op.Throw are found e h = absurd (cc)
  own-node (op.CheckCast type) are found e h = absurd (cc)
  own-node (op.InstanceOf type) are found e h = absurd (cc)
  own-node op.MonitorEnter are found e h = absurd (cc)
  own-node op.MonitorExit are found e h = absurd (cc)

  -- ---- calls

  -- a call that gives a value
  given-ruled : (given : Option JType) (called : Option Exp) (found : Typed) → (named : (type : JType) → given ≡ Some type → may_name_type site type ≡ true) → ((exp : Exp) → called ≡ Some exp → IsCall site n scope given exp) → call_node given called ≡ Some found → IsRuled site n scope found.0 found.1
  given-ruled given called found named is e =
      let b = both-are called (λ exp. and_then given (λ type. Some (Of type, exp))) found e in
      let c = both-are given (λ type. Some (Of type, b.one)) found b.then_is in
      let call = is b.one b.is in
      let same : (Of c.one, b.one) ≡ found = (let some = c.then_is in cc) in
      subst (λ (other : Typed). IsRuled site n scope other.0 other.1) same
      (record { entry = record { small = call.small; typed = call.typed ∙ ap typed c.is }; keeps = call.gives (ap is_some c.is); named = named c.one c.is })

  result-named : (given : Option JType) → IfSome given (λ type. may_name_type site type ≡ true) → (type : JType) → given ≡ Some type → may_name_type site type ≡ true
  result-named None named type e = absurd (cc)
  result-named (Some found) named type e = let same : found ≡ type = cc in subst (λ other. may_name_type site other ≡ true) same named

-- one that stands alone
dropped-holds : (around : Around) (scope : Scope) (exp : Exp) (found : Plain) → dropped exp ≡ Some found → ((place : ℕ) → Holds (effect_types around.site scope place exp)) → (place : ℕ) → Holds (stm_types around Elsewhere scope place found.0)
dropped-holds around scope (trees.Int number) found e does place = absurd (cc)
dropped-holds around scope (trees.Long number) found e does place = absurd (cc)
dropped-holds around scope (Text units) found e does place = absurd (cc)
dropped-holds around scope (Truth known) found e does place = absurd (cc)
dropped-holds around scope trees.Null found e does place = absurd (cc)
dropped-holds around scope This found e does place = absurd (cc)
dropped-holds around scope (Variable variable) found e does place = absurd (cc)
dropped-holds around scope (ClassOf kind) found e does place = absurd (cc)
dropped-holds around scope (Field object name) found e does place = absurd (cc)
dropped-holds around scope (Static class name) found e does place = absurd (cc)
dropped-holds around scope (Element array index) found e does place = absurd (cc)
dropped-holds around scope (Call object name arguments) found e does place =
    let same : (Run (Call object name arguments), call) ≡ found = cc in
    subst (λ (other : Plain). Holds (stm_types around Elsewhere scope place other.0)) same (refl, does (place + 1))
dropped-holds around scope (StaticCall class name arguments) found e does place =
    let same : (Run (StaticCall class name arguments), static_call) ≡ found = cc in
    subst (λ (other : Plain). Holds (stm_types around Elsewhere scope place other.0)) same (refl, does (place + 1))
dropped-holds around scope (SuperCall above name arguments) found e does place =
    let same : (Run (SuperCall above name arguments), super_call) ≡ found = cc in
    subst (λ (other : Plain). Holds (stm_types around Elsewhere scope place other.0)) same (refl, does (place + 1))
dropped-holds around scope (New class arguments) found e does place =
    let same : (Run (New class arguments), birth) ≡ found = cc in
    subst (λ (other : Plain). Holds (stm_types around Elsewhere scope place other.0)) same (refl, does (place + 1))
dropped-holds around scope (NewArray kind sizes more) found e does place = absurd (cc)
dropped-holds around scope (Cast kind operand) found e does place = absurd (cc)
dropped-holds around scope (InstanceOf operand kind) found e does place = absurd (cc)
dropped-holds around scope (Negative operand) found e does place = absurd (cc)
dropped-holds around scope (Not operand) found e does place = absurd (cc)
dropped-holds around scope (Binary operator first second) found e does place = absurd (cc)
dropped-holds around scope (Choice test first second) found e does place = absurd (cc)
dropped-holds around scope (Assign variable new) found e does place = absurd (cc)

alone-holds : (around : Around) (n : ℕ) (scope : Scope) (given : Option JType) (called : Option Exp) (found : Plain) → ((exp : Exp) → called ≡ Some exp → IsCall around.site n scope given exp) → call_effect given called ≡ Some found → (place : ℕ) → Holds (stm_types around Elsewhere scope place found.0)
alone-holds around n scope None called found is e =
    let b = both-are called dropped found e in
    dropped-holds around scope b.one found b.then_is (is b.one b.is).does
alone-holds around n scope (Some type) called found is e = absurd (cc)

-- ---- what members are

-- what is known of an instruction that names a member
pub static-of : (site : Site) {receiver : Receiver} (field : FieldRef) → HasMember site.headers site.members site.class (may_assign site) receiver (op.GetStatic field) → IsField site.headers site.members site.class true field
static-of site field (get_static is value) = is
static-of site field (none unnamed) = absurd (cc)

pub field-of : (site : Site) {receiver : Receiver} (field : FieldRef) → HasMember site.headers site.members site.class (may_assign site) receiver (op.GetField field) → IsField site.headers site.members site.class false field
field-of site field (get_field is) = is
field-of site field (none unnamed) = absurd (cc)

pub virtual-of : (site : Site) {receiver : Receiver} (method : MethodRef) → HasMember site.headers site.members site.class (may_assign site) receiver (op.InvokeVirtual method) → IsOfObject site.headers site.members site.class Virtual method
virtual-of site method (invoke_virtual is) = is
virtual-of site method (none unnamed) = absurd (cc)

pub interface-of : (site : Site) {receiver : Receiver} (method : MethodRef) → HasMember site.headers site.members site.class (may_assign site) receiver (op.InvokeInterface method) → IsOfObject site.headers site.members site.class Interface method
interface-of site method (invoke_interface is) = is
interface-of site method (none unnamed) = absurd (cc)

pub class-of : (site : Site) {receiver : Receiver} (method : MethodRef) → HasMember site.headers site.members site.class (may_assign site) receiver (op.InvokeStatic method) → IsOfClass site.headers site.members site.class method
class-of site method (invoke_static is) = is
class-of site method (none unnamed) = absurd (cc)

pub lawful-of : (site : Site) {receiver : Receiver} (method : MethodRef) → HasMember site.headers site.members site.class (may_assign site) receiver (op.InvokeSpecial method) → IsLawful site.headers site.members site.class method receiver
lawful-of site method (invoke_special is) = is
lawful-of site method (none unnamed) = absurd (cc)

-- a field that may be written
pub record IsWritten (site : Site) (static : Bool) (field : FieldRef) : Type 0 where
  pub is : IsField site.headers site.members site.class static field
  pub may : may_assign site is.class field.name ≡ true

pub static-written : (site : Site) {receiver : Receiver} (field : FieldRef) → HasMember site.headers site.members site.class (may_assign site) receiver (op.PutStatic field) → IsWritten site true field
static-written site field (put_static is may) = record { is = is; may = may }
static-written site field (none unnamed) = absurd (cc)

pub field-written : (site : Site) {receiver : Receiver} (field : FieldRef) → HasMember site.headers site.members site.class (may_assign site) receiver (op.PutField field) → IsWritten site false field
field-written site field (put_field is may) = record { is = is; may = may }
field-written site field (none unnamed) = absurd (cc)

-- ---- each instruction

module _ (site : Site) (roots : RootsAreNamed site) (receivers : ℕ → Receiver) (pc n : ℕ) (scope : Scope) where
  member-ruled : (instruction : Instruction) → IsAllowed site receivers pc instruction → (are : List Typed) (found : Typed) → member_node (constants_of site) instruction are ≡ Some found → AreRuledOperands site n scope are → IsRuled site n scope found.0 found.1
  member-ruled op.Nop allowed are found e h = absurd (cc)
  member-ruled op.PushNull allowed are found e h = absurd (cc)
  member-ruled (op.Push constant) allowed are found e h = absurd (cc)
  member-ruled (op.PushClass type) allowed are found e h = class-ruled site n scope roots type allowed.named are found e
  member-ruled (op.PushHandle kind interface owner name descriptor) allowed are found e h = absurd (cc)
  member-ruled (op.PushMethodType descriptor) allowed are found e h = absurd (cc)
  member-ruled (op.Load kind slot) allowed are found e h = absurd (cc)
  member-ruled (op.Store kind slot) allowed are found e h = absurd (cc)
  member-ruled (op.ArrayLoad kind) allowed are found e h = element-ruled site n scope roots kind are found e h
  member-ruled (op.ArrayStore kind) allowed are found e h = absurd (cc)
  member-ruled op.Pop allowed are found e h = absurd (cc)
  member-ruled op.Pop2 allowed are found e h = absurd (cc)
  member-ruled op.Dup allowed are found e h = absurd (cc)
  member-ruled op.DupX1 allowed are found e h = absurd (cc)
  member-ruled op.DupX2 allowed are found e h = absurd (cc)
  member-ruled op.Dup2 allowed are found e h = absurd (cc)
  member-ruled op.Dup2X1 allowed are found e h = absurd (cc)
  member-ruled op.Dup2X2 allowed are found e h = absurd (cc)
  member-ruled op.Swap allowed are found e h = absurd (cc)
  member-ruled (op.Calc operation kind) allowed are found e h = absurd (cc)
  member-ruled (op.Iinc slot by) allowed are found e h = absurd (cc)
  member-ruled (op.Convert from to) allowed are found e h = absurd (cc)
  member-ruled (op.Compare kind greater) allowed are found e h = absurd (cc)
  member-ruled (op.IfZero test target) allowed are found e h = absurd (cc)
  member-ruled (op.IfInts test target) allowed are found e h = absurd (cc)
  member-ruled (op.IfRefs equal target) allowed are found e h = absurd (cc)
  member-ruled (op.IfNull null target) allowed are found e h = absurd (cc)
  member-ruled (op.Goto target) allowed are found e h = absurd (cc)
  member-ruled (op.TableSwitch low targets other) allowed are found e h = absurd (cc)
  member-ruled (op.LookupSwitch cases other) allowed are found e h = absurd (cc)
  member-ruled (op.Return kind) allowed are found e h = absurd (cc)
  member-ruled (op.GetStatic field) allowed are found e h = static-ruled site n scope field (static-of site field allowed.member) allowed.named are found e
  member-ruled (op.PutStatic field) allowed are found e h = absurd (cc)
  member-ruled (op.GetField field) allowed are found e h = field-ruled site n scope field (field-of site field allowed.member) allowed.named are found e h
  member-ruled (op.PutField field) allowed are found e h = absurd (cc)
  member-ruled (op.InvokeVirtual method) allowed are found e h = given-ruled site n scope (result (asked_of Virtual method.owner method)) (object_call (constants_of site) method are) found (result-named site n scope (result (asked_of Virtual method.owner method)) (asked-named site n scope Virtual method allowed.named.0)) (λ exp is. object-called site n scope Virtual method (virtual-of site method allowed.member) allowed.named.0 allowed.named.1 are exp is h) e
  member-ruled (op.InvokeSpecial method) allowed are found e h = given-ruled site n scope (result_of method.descriptor) (special_call (constants_of site) method are) found (result-named site n scope (result_of method.descriptor) allowed.named.result) (λ exp is. special-called site n scope roots method allowed.named (allowed.concrete method refl) (receivers pc) (lawful-of site method allowed.member) are exp is h) e
  member-ruled (op.InvokeStatic method) allowed are found e h = given-ruled site n scope (result_of method.descriptor) (class_call (constants_of site) method are) found (result-named site n scope (result_of method.descriptor) allowed.named.0.result) (λ exp is. class-called site n scope method (class-of site method allowed.member) allowed.named.0 allowed.named.1 are exp is h) e
  member-ruled (op.InvokeInterface method) allowed are found e h = given-ruled site n scope (result (asked_of Interface method.owner method)) (object_call (constants_of site) method are) found (result-named site n scope (result (asked_of Interface method.owner method)) (asked-named site n scope Interface method allowed.named.0)) (λ exp is. object-called site n scope Interface method (interface-of site method allowed.member) allowed.named.0 allowed.named.1 are exp is h) e
  member-ruled (op.InvokeDynamic bootstrap name descriptor) allowed are found e h = absurd (cc)
  member-ruled (op.New name) allowed are found e h = absurd (cc)
  member-ruled (op.NewArray type) allowed are found e h = array-ruled site n scope (types.Array type) allowed.named are found e h
  member-ruled (op.MultiNewArray type sizes) allowed are found e h = array-ruled site n scope type allowed.named are found e h
  member-ruled op.ArrayLength allowed are found e h = length-ruled site n scope roots are found e h
  member-ruled op.Throw allowed are found e h = absurd (cc)
  member-ruled (op.CheckCast type) allowed are found e h = cast-ruled site n scope roots type allowed.named are found e h
  member-ruled (op.InstanceOf type) allowed are found e h = instance-ruled site n scope roots type allowed.named are found e h
  member-ruled op.MonitorEnter allowed are found e h = absurd (cc)
  member-ruled op.MonitorExit allowed are found e h = absurd (cc)

  node-ruled : (instruction : Instruction) → IsAllowed site receivers pc instruction → (are : List Typed) (found : Typed) → node_of (constants_of site) instruction are ≡ Some found → AreRuledOperands site n scope are → IsRuled site n scope found.0 found.1
  node-ruled instruction allowed are found e h = by (own_nodes instruction are) refl e
    where
      by : (own : Option Typed) → own_nodes instruction are ≡ own → or_else own (member_node (constants_of site) instruction are) ≡ Some found → IsRuled site n scope found.0 found.1
      by None is f = member-ruled instruction allowed are found f h
      by (Some one) is f = own-node site n scope instruction are found (is ∙ f) h

  pub constructs-one : (method : MethodRef) (class : Name) (are : List Typed) (exp : Exp) → birth_of (constants_of site) method class are ≡ Some exp → is_constructor method.name ≡ true
  constructs-one method class are exp e =
      (and_parts (is_constructor method.name) (is_type method.owner (Class class) && may_be_given site.headers are (parameters_of method.descriptor))
      (made-if (is_constructor method.name && (is_type method.owner (Class class) && may_be_given site.headers are (parameters_of method.descriptor))) (Some (New class (given_to (constants_of site) method (codes "<init>") (Some class) are))) exp e).0).0

  birth-by : (receiver : Receiver) (method : MethodRef) → MethodIsNamed site method → receiver ≡ Made → IsLawful site.headers site.members site.class method receiver → (class : Name) (are : List Typed) (exp : Exp) → birth_of (constants_of site) method class are ≡ Some exp → AreRuledOperands site n scope are → IsRuled site n scope (Of (Class class)) exp
  birth-by receiver method named made (lawful_new is) class are exp e h = birth-ruled site n scope method is named class are exp e h
  birth-by receiver method named made (lawful_construct is) class are exp e h = absurd (cc)
  birth-by receiver method named made (lawful_private owner plain_name is) class are exp e h = absurd (true≢false (sym (constructs-one method class are exp e) ∙ plain_name))
  birth-by receiver method named made (lawful_super is) class are exp e h = absurd (true≢false (sym (constructs-one method class are exp e) ∙ is.plain))
  birth-by receiver method named made (lawful_interface is) class are exp e h = absurd (true≢false (sym (constructs-one method class are exp e) ∙ is.plain))

  birth-member : (instruction : Instruction) → IsAllowed site receivers pc instruction → (class : Name) (are : List Typed) (exp : Exp) → member_birth (constants_of site) instruction class are ≡ Some exp → AreRuledOperands site n scope are → IsRuled site n scope (Of (Class class)) exp
  birth-member op.Nop allowed class are exp e h = absurd (cc)
  birth-member op.PushNull allowed class are exp e h = absurd (cc)
  birth-member (op.Push constant) allowed class are exp e h = absurd (cc)
  birth-member (op.PushClass type) allowed class are exp e h = absurd (cc)
  birth-member (op.PushHandle kind interface owner name descriptor) allowed class are exp e h = absurd (cc)
  birth-member (op.PushMethodType descriptor) allowed class are exp e h = absurd (cc)
  birth-member (op.Load kind slot) allowed class are exp e h = absurd (cc)
  birth-member (op.Store kind slot) allowed class are exp e h = absurd (cc)
  birth-member (op.ArrayLoad kind) allowed class are exp e h = absurd (cc)
  birth-member (op.ArrayStore kind) allowed class are exp e h = absurd (cc)
  birth-member op.Pop allowed class are exp e h = absurd (cc)
  birth-member op.Pop2 allowed class are exp e h = absurd (cc)
  birth-member op.Dup allowed class are exp e h = absurd (cc)
  birth-member op.DupX1 allowed class are exp e h = absurd (cc)
  birth-member op.DupX2 allowed class are exp e h = absurd (cc)
  birth-member op.Dup2 allowed class are exp e h = absurd (cc)
  birth-member op.Dup2X1 allowed class are exp e h = absurd (cc)
  birth-member op.Dup2X2 allowed class are exp e h = absurd (cc)
  birth-member op.Swap allowed class are exp e h = absurd (cc)
  birth-member (op.Calc operation kind) allowed class are exp e h = absurd (cc)
  birth-member (op.Iinc slot by) allowed class are exp e h = absurd (cc)
  birth-member (op.Convert from to) allowed class are exp e h = absurd (cc)
  birth-member (op.Compare kind greater) allowed class are exp e h = absurd (cc)
  birth-member (op.IfZero test target) allowed class are exp e h = absurd (cc)
  birth-member (op.IfInts test target) allowed class are exp e h = absurd (cc)
  birth-member (op.IfRefs equal target) allowed class are exp e h = absurd (cc)
  birth-member (op.IfNull null target) allowed class are exp e h = absurd (cc)
  birth-member (op.Goto target) allowed class are exp e h = absurd (cc)
  birth-member (op.TableSwitch low targets other) allowed class are exp e h = absurd (cc)
  birth-member (op.LookupSwitch cases other) allowed class are exp e h = absurd (cc)
  birth-member (op.Return kind) allowed class are exp e h = absurd (cc)
  birth-member (op.GetStatic field) allowed class are exp e h = absurd (cc)
  birth-member (op.PutStatic field) allowed class are exp e h = absurd (cc)
  birth-member (op.GetField field) allowed class are exp e h = absurd (cc)
  birth-member (op.PutField field) allowed class are exp e h = absurd (cc)
  birth-member (op.InvokeVirtual method) allowed class are exp e h = absurd (cc)
  birth-member (op.InvokeSpecial method) allowed class are exp e h = birth-by (receivers pc) method allowed.named (allowed.born method refl (constructs-one method class are exp e)) (lawful-of site method allowed.member) class are exp e h
  birth-member (op.InvokeStatic method) allowed class are exp e h = absurd (cc)
  birth-member (op.InvokeInterface method) allowed class are exp e h = absurd (cc)
  birth-member (op.InvokeDynamic bootstrap name descriptor) allowed class are exp e h = absurd (cc)
  birth-member (op.New name) allowed class are exp e h = absurd (cc)
  birth-member (op.NewArray type) allowed class are exp e h = absurd (cc)
  birth-member (op.MultiNewArray type sizes) allowed class are exp e h = absurd (cc)
  birth-member op.ArrayLength allowed class are exp e h = absurd (cc)
  birth-member op.Throw allowed class are exp e h = absurd (cc)
  birth-member (op.CheckCast type) allowed class are exp e h = absurd (cc)
  birth-member (op.InstanceOf type) allowed class are exp e h = absurd (cc)
  birth-member op.MonitorEnter allowed class are exp e h = absurd (cc)
  birth-member op.MonitorExit allowed class are exp e h = absurd (cc)

pub nodes-keep-rules : NodesKeepRules
nodes-keep-rules site roots receivers pc instruction allowed are found e n scope h = node-ruled site roots receivers pc n scope instruction allowed are found e h

pub births-keep-rules : BirthsKeepRules
births-keep-rules site roots receivers pc instruction allowed class are exp e n scope h = birth-member site roots receivers pc n scope instruction allowed class are exp e h

module _ (around : Around) (roots : RootsAreNamed around.site) (receivers : ℕ → Receiver) (pc n : ℕ) (scope : Scope) where
  effect-ruled : (instruction : Instruction) → IsAllowed around.site receivers pc instruction → (are : List Typed) (found : Plain) → member_effect (constants_of around.site) instruction are ≡ Some found → AreRuledOperands around.site n scope are → (place : ℕ) → Holds (stm_types around Elsewhere scope place found.0)
  effect-ruled op.Nop allowed are found e h = λ place. absurd (cc)
  effect-ruled op.PushNull allowed are found e h = λ place. absurd (cc)
  effect-ruled (op.Push constant) allowed are found e h = λ place. absurd (cc)
  effect-ruled (op.PushClass type) allowed are found e h = λ place. absurd (cc)
  effect-ruled (op.PushHandle kind interface owner name descriptor) allowed are found e h = λ place. absurd (cc)
  effect-ruled (op.PushMethodType descriptor) allowed are found e h = λ place. absurd (cc)
  effect-ruled (op.Load kind slot) allowed are found e h = λ place. absurd (cc)
  effect-ruled (op.Store kind slot) allowed are found e h = λ place. absurd (cc)
  effect-ruled (op.ArrayLoad kind) allowed are found e h = λ place. absurd (cc)
  effect-ruled (op.ArrayStore kind) allowed are found e h = element-done around n scope roots kind are found e h
  effect-ruled op.Pop allowed are found e h = λ place. absurd (cc)
  effect-ruled op.Pop2 allowed are found e h = λ place. absurd (cc)
  effect-ruled op.Dup allowed are found e h = λ place. absurd (cc)
  effect-ruled op.DupX1 allowed are found e h = λ place. absurd (cc)
  effect-ruled op.DupX2 allowed are found e h = λ place. absurd (cc)
  effect-ruled op.Dup2 allowed are found e h = λ place. absurd (cc)
  effect-ruled op.Dup2X1 allowed are found e h = λ place. absurd (cc)
  effect-ruled op.Dup2X2 allowed are found e h = λ place. absurd (cc)
  effect-ruled op.Swap allowed are found e h = λ place. absurd (cc)
  effect-ruled (op.Calc operation kind) allowed are found e h = λ place. absurd (cc)
  effect-ruled (op.Iinc slot by) allowed are found e h = λ place. absurd (cc)
  effect-ruled (op.Convert from to) allowed are found e h = λ place. absurd (cc)
  effect-ruled (op.Compare kind greater) allowed are found e h = λ place. absurd (cc)
  effect-ruled (op.IfZero test target) allowed are found e h = λ place. absurd (cc)
  effect-ruled (op.IfInts test target) allowed are found e h = λ place. absurd (cc)
  effect-ruled (op.IfRefs equal target) allowed are found e h = λ place. absurd (cc)
  effect-ruled (op.IfNull null target) allowed are found e h = λ place. absurd (cc)
  effect-ruled (op.Goto target) allowed are found e h = λ place. absurd (cc)
  effect-ruled (op.TableSwitch low targets other) allowed are found e h = λ place. absurd (cc)
  effect-ruled (op.LookupSwitch cases other) allowed are found e h = λ place. absurd (cc)
  effect-ruled (op.Return kind) allowed are found e h = λ place. absurd (cc)
  effect-ruled (op.GetStatic field) allowed are found e h = λ place. absurd (cc)
  effect-ruled (op.PutStatic field) allowed are found e h = static-done around n scope field (static-written around.site field allowed.member).is allowed.named (static-written around.site field allowed.member).may are found e h
  effect-ruled (op.GetField field) allowed are found e h = λ place. absurd (cc)
  effect-ruled (op.PutField field) allowed are found e h = field-done around n scope field (field-written around.site field allowed.member).is allowed.named (field-written around.site field allowed.member).may are found e h
  effect-ruled (op.InvokeVirtual method) allowed are found e h = alone-holds around n scope (result (asked_of Virtual method.owner method)) (object_call (constants_of around.site) method are) found (λ exp is. object-called around.site n scope Virtual method (virtual-of around.site method allowed.member) allowed.named.0 allowed.named.1 are exp is h) e
  effect-ruled (op.InvokeSpecial method) allowed are found e h = alone-holds around n scope (result_of method.descriptor) (special_call (constants_of around.site) method are) found (λ exp is. special-called around.site n scope roots method allowed.named (allowed.concrete method refl) (receivers pc) (lawful-of around.site method allowed.member) are exp is h) e
  effect-ruled (op.InvokeStatic method) allowed are found e h = alone-holds around n scope (result_of method.descriptor) (class_call (constants_of around.site) method are) found (λ exp is. class-called around.site n scope method (class-of around.site method allowed.member) allowed.named.0 allowed.named.1 are exp is h) e
  effect-ruled (op.InvokeInterface method) allowed are found e h = alone-holds around n scope (result (asked_of Interface method.owner method)) (object_call (constants_of around.site) method are) found (λ exp is. object-called around.site n scope Interface method (interface-of around.site method allowed.member) allowed.named.0 allowed.named.1 are exp is h) e
  effect-ruled (op.InvokeDynamic bootstrap name descriptor) allowed are found e h = λ place. absurd (cc)
  effect-ruled (op.New name) allowed are found e h = λ place. absurd (cc)
  effect-ruled (op.NewArray type) allowed are found e h = λ place. absurd (cc)
  effect-ruled (op.MultiNewArray type sizes) allowed are found e h = λ place. absurd (cc)
  effect-ruled op.ArrayLength allowed are found e h = λ place. absurd (cc)
  effect-ruled op.Throw allowed are found e h = λ place. absurd (cc)
  effect-ruled (op.CheckCast type) allowed are found e h = λ place. absurd (cc)
  effect-ruled (op.InstanceOf type) allowed are found e h = λ place. absurd (cc)
  effect-ruled op.MonitorEnter allowed are found e h = λ place. absurd (cc)
  effect-ruled op.MonitorExit allowed are found e h = λ place. absurd (cc)

pub effects-keep-rules : EffectsKeepRules
effects-keep-rules around roots receivers pc instruction allowed are found e n scope h = effect-ruled around roots receivers pc n scope instruction allowed are found e h
