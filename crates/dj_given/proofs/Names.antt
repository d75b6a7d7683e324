-- What code names can be said where no cause speaks against its names.
use Rattle.std.proofs.Common.{◌≡◌, ℕ, suc, Bool, true, false, not, ◌&&◌, ◌||◌, List, [], ◌∷◌, Contains, Option, Some, None, inl, inr, refl, ap, subst, ◌∙◌, arith}
use Rattle.std.specs.Prelude.{Any, IfSome, codes}
use Rattle.std.proofs.lemmas.Bool.{cases_Bool, both_ways}
use Rattle.dj_names.specs.Headers.{Name, names}
use Rattle.dj_names.specs.Identifiers.{IsIdentifier}
use Rattle.dj_names.specs.MethodNames.{is_constructor, is_initialiser}
use Rattle.dj_names.specs.Types as types
use Rattle.dj_names.specs.Types.{JType, Class, Array, Descriptor, Field, Method, parameters_of, result_of}
use Rattle.dj_headers.proofs.PathLemmas.{Implements-own}
use Rattle.dj_world.specs.Named.{class_of, NamesClass}
use Rattle.dj_world.specs.Worlds.{WorldOf}
use Rattle.dj_world.specs.Clashes.{IsLawful}
use Rattle.dj_instructions.specs.PoolMeanings.{is_plain_name}
use Rattle.dj_instructions.specs.Instructions.{FieldRef, MethodRef, Instruction}
use Rattle.dj_instructions.specs.Instructions as op
use Rattle.dj_code.specs.MethodCode.{Code}
use Rattle.dj_effects.specs.Spelled.{is_spelled, is_method_of}
use Rattle.dj_typing.specs.Sites.{Site, is_whole, may_name, may_name_type}
use Rattle.dj_typing.proofs.WordLemmas.{Decides-identifier}
use Rattle.dj_typed.specs.Bodies.{Writing, IsRight}
use Rattle.dj_checked.proofs.WholeLemmas.{Decides-whole}
use Rattle.dj_causes.specs.BareCauses.{IsMethodName}
use Rattle.dj_code_causes.specs.NamedIn.{IsInField, IsInMethod, IsInInstruction, IsInCode, of_class, in_descriptor, in_instruction, of_core, IsMissing, IsUnsaidIn, IsUnsaidMember, member_name}
use Rattle.dj_causes_given.proofs.Naming.{names_may_be_named}
use Rattle.dj_member_nodes.specs.Named.{AreNamed, FieldIsNamed, MethodIsNamed, IsNamed, RootsAreNamed}
use Rattle.dj_given.specs.Given.{site_of, AllIsNamed}
use Rattle.dj_given.proofs.Above.{never_own_super, never_own_interface, begins_here}

both_true : (one other : Bool) → one && other ≡ true → (one ≡ true) × (other ≡ true)
both_true true other e = (refl, e)
both_true false other e = absurd (cc)

plain_of : (constructs initialises : Bool) → not (constructs || initialises) ≡ true → (constructs ≡ false) × (initialises ≡ false)
plain_of true initialises e = absurd (cc)
plain_of false true e = absurd (cc)
plain_of false false e = (refl, refl)

module _ (world : WorldOf) (code : Code) (writing : Writing) (right : IsRight world.headers world.members code.class writing)
    (missing : (name : Name) → ¬ IsMissing world code name) (unsaid : (name : Name) → ¬ IsUnsaidIn world code name) where
  abbrev site : Site
  site = site_of writing world code

  -- ---- classes

  -- a class that is whole is in the world
  known : (name : Name) → is_whole world.headers name ≡ true → Contains (names world.headers) name
  known name whole = (Decides-whole world.headers name).0 whole name (Implements-own world.headers name)

  pub class_there : (name : Name) → IsInCode code name → Contains (names world.headers) name
  class_there name is = known name (names_may_be_named world code missing unsaid name is).whole

  pub class_named : (name : Name) → IsInCode code name → may_name site name ≡ true
  class_named name is =
      let may = names_may_be_named world code missing unsaid name is in
      elim (cases_Bool (writing.can_say name)) [
        | inl can ↦ ap (λ test. test && is_whole world.headers name) can ∙ may.whole
        | inr cannot ↦ absurd (may.said (λ said. both_ways (writing.can_say name) cannot ((right.says name).1 (known name may.whole, said))))
      ]

  type_named : (type : JType) → ((name : Name) → class_of type ≡ Some name → IsInCode code name) → may_name_type site type ≡ true
  type_named types.Boolean is = refl
  type_named types.Byte is = refl
  type_named types.Char is = refl
  type_named types.Short is = refl
  type_named types.Int is = refl
  type_named types.Long is = refl
  type_named types.Float is = refl
  type_named types.Double is = refl
  type_named (Class name) is = class_named name (is name refl)
  type_named (Array element) is = type_named element is

  types_named : (list : List JType) → ((name : Name) → Any (λ type. class_of type ≡ Some name) list → IsInCode code name) → AreNamed site list
  types_named [] is = tt
  types_named (first ∷ rest) is = (
    type_named first (λ name same. is name (0, first, omega arith, refl, same)),
    types_named rest (λ name (k, type, within, here, same). is name (suc k, type, omega (arith, within), here, same)),
  )

  result_named : (found : Option JType) → ((name : Name) (type : JType) → found ≡ Some type → class_of type ≡ Some name → IsInCode code name) → IfSome found (λ type. may_name_type site type ≡ true)
  result_named None is = tt
  result_named (Some type) is = type_named type (λ name same. is name type refl same)

  -- ---- descriptors

  parameter_in : (descriptor : Descriptor) (name : Name) → Any (λ type. class_of type ≡ Some name) (parameters_of descriptor) → NamesClass descriptor name
  parameter_in (Field type) name (k, one, within, is, same) = absurd (omega (arith, within))
  parameter_in (Method parameters result) name any = inl any

  result_in : (descriptor : Descriptor) (name : Name) (type : JType) → result_of descriptor ≡ Some type → class_of type ≡ Some name → NamesClass descriptor name
  result_in (Field kind) name type is same = subst (λ (one : JType). class_of one ≡ Some name) (some type kind is) same
    where
      some : (one other : JType) → Some other ≡ Some one → one ≡ other
      some one other e = cc
  result_in (Method parameters None) name type is same = absurd (cc)
  result_in (Method parameters (Some result)) name type is same = inr (subst (λ (one : JType). class_of one ≡ Some name) (some type result is) same)
    where
      some : (one other : JType) → Some other ≡ Some one → one ≡ other
      some one other e = cc

  -- ---- members

  identifier : (name : Name) → ¬ ¬ IsIdentifier name → writing.can_name name ≡ true
  identifier name denied = elim (cases_Bool (writing.can_name name)) [
    | inl can ↦ can
    | inr cannot ↦ absurd (denied (λ is. both_ways (writing.can_name name) cannot ((right.spells name).1 is)))
  ]

  module _ (pc : ℕ) (instruction : Instruction) (there : Contains code.instructions (pc, instruction)) where
    in_it : (name : Name) → IsInInstruction instruction name → IsInCode code name
    in_it name is = in_instruction (there.0, (pc, instruction), there.1, there.2, is)

    said_member : (name : Name) → ¬ IsUnsaidMember instruction name
    said_member name is = unsaid name (member_name (there.0, (pc, instruction), there.1, there.2, is))

    field_named : (field : FieldRef) → ((name : Name) → IsInField field name → IsInInstruction instruction name) → (¬ IsIdentifier field.name → IsUnsaidMember instruction field.name) → FieldIsNamed site field
    field_named field is says = record {
      owner = type_named field.owner (λ name same. in_it name (is name (inl same)));
      kind = type_named field.kind (λ name same. in_it name (is name (inr same)));
      name = identifier field.name (λ no. said_member field.name (says no));
    }

    method_named : (method : MethodRef) → ((name : Name) → IsInMethod method name → IsInInstruction instruction name) → (¬ IsMethodName method.name → IsUnsaidMember instruction method.name)
        → is_initialiser method.name ≡ false → MethodIsNamed site method
    method_named method is says plain = record {
      owner = type_named method.owner (λ name same. in_it name (is name (inl same)));
      parameters = types_named (parameters_of method.descriptor) (λ name any. in_it name (is name (inr (parameter_in method.descriptor name any))));
      result = result_named (result_of method.descriptor) (λ name type found same. in_it name (is name (inr (result_in method.descriptor name type found same))));
      name = λ no_constructor. identifier method.name (λ no. said_member method.name (says (λ named. elim named [
        | inl constructs ↦ both_ways (is_constructor method.name) no_constructor constructs
        | inr (inl initialises) ↦ both_ways (is_initialiser method.name) plain initialises
        | inr (inr is_identifier) ↦ no is_identifier
      ])));
    }

  -- ---- instructions

  instruction_named : (pc : ℕ) (instruction : Instruction) → Contains code.instructions (pc, instruction) → is_spelled instruction ≡ true → IsNamed site instruction
  instruction_named pc op.Nop there spelled = tt
  instruction_named pc op.PushNull there spelled = tt
  instruction_named pc (op.Push constant) there spelled = tt
  instruction_named pc (op.PushClass type) there spelled = type_named type (in_it pc (op.PushClass type) there)
  instruction_named pc (op.PushHandle kind interface owner name descriptor) there spelled = tt
  instruction_named pc (op.PushMethodType descriptor) there spelled = tt
  instruction_named pc (op.Load kind slot) there spelled = tt
  instruction_named pc (op.Store kind slot) there spelled = tt
  instruction_named pc (op.ArrayLoad kind) there spelled = tt
  instruction_named pc (op.ArrayStore kind) there spelled = tt
  instruction_named pc op.Pop there spelled = tt
  instruction_named pc op.Pop2 there spelled = tt
  instruction_named pc op.Dup there spelled = tt
  instruction_named pc op.DupX1 there spelled = tt
  instruction_named pc op.DupX2 there spelled = tt
  instruction_named pc op.Dup2 there spelled = tt
  instruction_named pc op.Dup2X1 there spelled = tt
  instruction_named pc op.Dup2X2 there spelled = tt
  instruction_named pc op.Swap there spelled = tt
  instruction_named pc (op.Calc operation kind) there spelled = tt
  instruction_named pc (op.Iinc slot by) there spelled = tt
  instruction_named pc (op.Convert from to) there spelled = tt
  instruction_named pc (op.Compare kind greater) there spelled = tt
  instruction_named pc (op.IfZero test target) there spelled = tt
  instruction_named pc (op.IfInts test target) there spelled = tt
  instruction_named pc (op.IfRefs equal target) there spelled = tt
  instruction_named pc (op.IfNull null target) there spelled = tt
  instruction_named pc (op.Goto target) there spelled = tt
  instruction_named pc (op.TableSwitch low targets other) there spelled = tt
  instruction_named pc (op.LookupSwitch cases other) there spelled = tt
  instruction_named pc (op.Return kind) there spelled = tt
  instruction_named pc (op.GetStatic field) there spelled = field_named pc (op.GetStatic field) there field (λ name is. is) (λ no. (no, refl))
  instruction_named pc (op.PutStatic field) there spelled = field_named pc (op.PutStatic field) there field (λ name is. is) (λ no. (no, refl))
  instruction_named pc (op.GetField field) there spelled = field_named pc (op.GetField field) there field (λ name is. is) (λ no. (no, refl))
  instruction_named pc (op.PutField field) there spelled = field_named pc (op.PutField field) there field (λ name is. is) (λ no. (no, refl))
  instruction_named pc (op.InvokeVirtual method) there spelled =
      let plain = plain_of (is_constructor method.name) (is_initialiser method.name) (both_true (is_method_of method) (is_plain_name method.name) (both_true (is_method_of method && is_plain_name method.name) (not method.interface) spelled).0).1 in
      (method_named pc (op.InvokeVirtual method) there method (λ name is. is) (λ no. (no, refl)) plain.1, plain.0)
  instruction_named pc (op.InvokeSpecial method) there spelled =
      method_named pc (op.InvokeSpecial method) there method (λ name is. is) (λ no. (no, refl)) (not_so (is_initialiser method.name) (both_true (is_method_of method) (not (is_initialiser method.name)) spelled).1)
    where
      not_so : (test : Bool) → not test ≡ true → test ≡ false
      not_so true e = absurd (cc)
      not_so false e = refl
  instruction_named pc (op.InvokeStatic method) there spelled =
      let plain = plain_of (is_constructor method.name) (is_initialiser method.name) (both_true (is_method_of method) (is_plain_name method.name) spelled).1 in
      (method_named pc (op.InvokeStatic method) there method (λ name is. is) (λ no. (no, refl)) plain.1, plain.0)
  instruction_named pc (op.InvokeInterface method) there spelled =
      let plain = plain_of (is_constructor method.name) (is_initialiser method.name) (both_true (is_method_of method) (is_plain_name method.name) (both_true (is_method_of method && is_plain_name method.name) method.interface spelled).0).1 in
      (method_named pc (op.InvokeInterface method) there method (λ name is. is) (λ no. (no, refl)) plain.1, plain.0)
  instruction_named pc (op.InvokeDynamic bootstrap name descriptor) there spelled = tt
  instruction_named pc (op.New name) there spelled = class_named name (in_it pc (op.New name) there name refl)
  instruction_named pc (op.NewArray type) there spelled = type_named type (in_it pc (op.NewArray type) there)
  instruction_named pc (op.MultiNewArray type sizes) there spelled = type_named type (in_it pc (op.MultiNewArray type sizes) there)
  instruction_named pc op.ArrayLength there spelled = tt
  instruction_named pc op.Throw there spelled = tt
  instruction_named pc (op.CheckCast type) there spelled = type_named type (in_it pc (op.CheckCast type) there)
  instruction_named pc (op.InstanceOf type) there spelled = type_named type (in_it pc (op.InstanceOf type) there)
  instruction_named pc op.MonitorEnter there spelled = tt
  instruction_named pc op.MonitorExit there spelled = tt

  -- ---- roots

  length_named : writing.can_name (codes "length") ≡ true
  length_named = (right.spells (codes "length")).1 ((Decides-identifier (codes "length")).0 refl)

  roots_named : IsLawful world.headers → RootsAreNamed site
  roots_named lawful = record {
    object = class_named _ (of_core (0, omega arith, refl));
    string = class_named _ (of_core (1, omega arith, refl));
    class = class_named _ (of_core (2, omega arith, refl));
    throwable = class_named _ (of_core (3, omega arith, refl));
    length = length_named;
    above = never_own_super world.headers lawful code.class;
    listed = never_own_interface world.headers lawful code.class;
    own = λ method owner. begins_here world.headers lawful code.class method owner;
  }

  pub all_named : IsLawful world.headers → ((pc : ℕ) (instruction : Instruction) → Contains code.instructions (pc, instruction) → is_spelled instruction ≡ true) → AllIsNamed writing world code
  all_named lawful spelled = record {
    instructions = λ pc instruction there. instruction_named pc instruction there (spelled pc instruction there);
    classes = class_named;
    class = class_named code.class (of_class refl);
    parameters = types_named (parameters_of code.descriptor) (λ name any. in_descriptor (parameter_in code.descriptor name any));
    result = result_named (result_of code.descriptor) (λ name type found same. in_descriptor (result_in code.descriptor name type found same));
    roots = roots_named lawful;
  }
