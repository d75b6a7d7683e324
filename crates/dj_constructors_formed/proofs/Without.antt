-- Where `this` may not be named, all else may be written that could be, and instructions are allowed that were.
use Rattle.std.proofs.Common.{◌≡◌, ℕ, true, false, List, [], ◌∷◌, Option, Some, None}
use Rattle.std.specs.Prelude.{IfSome}
use Rattle.dj_names.specs.Headers.{Name}
use Rattle.dj_names.specs.Types.{JType, Array, parameters_of, result_of}
use Rattle.dj_instructions.specs.Instructions.{FieldRef, MethodRef, Instruction}
use Rattle.dj_instructions.specs.Instructions as op
use Rattle.dj_typing.specs.Sites.{Site, may_name_type}
use Rattle.dj_typing.specs.Expressions.{means_abstract}
use Rattle.dj_typed.specs.Statements.{without_this}
use Rattle.dj_members_shown.specs.Meant.{exact, Receiver}
use Rattle.dj_member_nodes.specs.Named as behind_super
use Rattle.dj_member_nodes.specs.Named.{AreNamed, FieldIsNamed, MethodIsNamed, IsNamed, RootsAreNamed, IsBehindSuper, IsAllowed}

module _ (site : Site) where
  pub type-without : (type : JType) → may_name_type site type ≡ true → may_name_type (without_this site) type ≡ true
  type-without (Array of) named = type-without of named
  type-without type named = named

  result-without : (result : Option JType) → IfSome result (λ type. may_name_type site type ≡ true) → IfSome result (λ type. may_name_type (without_this site) type ≡ true)
  result-without None named = tt
  result-without (Some type) named = type-without type named

  pub types-without : (list : List JType) → AreNamed site list → AreNamed (without_this site) list
  types-without [] are = tt
  types-without (first ∷ rest) are = (type-without first are.0, types-without rest are.1)

  field-without : (field : FieldRef) → FieldIsNamed site field → FieldIsNamed (without_this site) field
  field-without field named = record { owner = type-without field.owner named.owner; kind = type-without field.kind named.kind; name = named.name }

  pub method-without : (method : MethodRef) → MethodIsNamed site method → MethodIsNamed (without_this site) method
  method-without method named = record {
    owner = type-without method.owner named.owner;
    parameters = types-without (parameters_of method.descriptor) named.parameters;
    result = result-without (result_of method.descriptor) named.result;
    name = named.name;
  }

  named-without : (instruction : Instruction) → IsNamed site instruction → IsNamed (without_this site) instruction
  named-without (op.PushClass type) named = type-without type named
  named-without (op.GetStatic field) named = field-without field named
  named-without (op.PutStatic field) named = field-without field named
  named-without (op.GetField field) named = field-without field named
  named-without (op.PutField field) named = field-without field named
  named-without (op.InvokeVirtual method) named = (method-without method named.0, named.1)
  named-without (op.InvokeSpecial method) named = method-without method named
  named-without (op.InvokeStatic method) named = (method-without method named.0, named.1)
  named-without (op.InvokeInterface method) named = (method-without method named.0, named.1)
  named-without (op.NewArray type) named = type-without type named
  named-without (op.MultiNewArray type sizes) named = type-without type named
  named-without (op.CheckCast type) named = type-without type named
  named-without instruction named = named

  pub roots-without : RootsAreNamed site → RootsAreNamed (without_this site)
  roots-without roots = record {
    object = roots.object;
    string = roots.string;
    class = roots.class;
    throwable = roots.throwable;
    length = roots.length;
    above = roots.above;
    listed = roots.listed;
    own = roots.own;
  }

  behind-with : (method : MethodRef) (above : Option Name) → IsBehindSuper (without_this site) method above → IsBehindSuper site method above
  behind-with method above (behind_super.class in_class superclass owner) = behind_super.class in_class superclass owner
  behind-with method above (behind_super.interface owner listed) = behind_super.interface owner listed

  abstract-without : (above : Option Name) (method : MethodRef) → means_abstract site above method.name (Some (exact (parameters_of method.descriptor))) ≡ false → means_abstract (without_this site) above method.name (Some (exact (parameters_of method.descriptor))) ≡ false
  abstract-without None method concrete = concrete
  abstract-without (Some interface) method concrete = concrete

  pub allowed-without : (receivers : ℕ → Receiver) (pc : ℕ) (instruction : Instruction) → IsAllowed site receivers pc instruction → IsAllowed (without_this site) receivers pc instruction
  allowed-without receivers pc instruction allowed = record {
    member = allowed.member;
    concrete = λ method is plain above behind. abstract-without above method (allowed.concrete method is plain above (behind-with method above behind));
    born = allowed.born;
    named = named-without instruction allowed.named;
  }
