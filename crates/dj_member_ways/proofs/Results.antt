-- What calls give passes the test of the result's type; constructors give nothing.
use Rattle.std.proofs.Common.{◌≡◌, Bool, true, false, not, ◌&&◌, IsSome, List, [], ◌∷◌, Option, Some, None, refl, sym, ap, subst, ◌∙◌, inl, inr, ◌⊎◌, codes}
use Rattle.std.specs.Prelude.{is_some, if◌then◌else◌}
use Rattle.std.proofs.lemmas.Bool.{and_parts, cases_Bool, false≢true, not-true}
use Rattle.dj_names.specs.declared.header.Header.{Header}
use Rattle.dj_names.specs.Headers.{Name}
use Rattle.dj_names.specs.MethodNames.{is_constructor}
use Rattle.dj_names.specs.Types.{JType, Class, Array, Descriptor, Field, Method, StaticType, Of, parameters_of, result_of}
use Rattle.dj_kinds.specs.Own.{is_false_constructor}
use Rattle.dj_instructions.specs.Instructions.{MethodRef}
use Rattle.dj_values.specs.Values.{Value, Int, Long, Null, Ref, Invoke, InvokeKind, Static, Special, Given, Done, Thrown}
use Rattle.dj_values.specs.Answers.{IsArrayClone}
use Rattle.dj_values.specs.Fits.{IsArray}
use Rattle.dj_values.specs.Deciding.{is_name, is_array_clone}
use Rattle.dj_values.specs.Outcomes.{Reply, Gives, Halts, Asks, then_on, ask, trap}
use Rattle.dj_bytecode.specs.Operands.{all_fitted}
use Rattle.dj_bytecode.specs.Objects.{called, static_called, object_called}
use Rattle.dj_meaning.specs.Members.{Members}
use Rattle.dj_meaning.specs.Visible.{members_of, methods_in}
use Rattle.dj_meaning.specs.Members as members_as
use Rattle.dj_meaning.specs.Calls.{is_seen}
use Rattle.dj_meaning.specs.Targets.{result}
use Rattle.dj_widened.specs.Widens.{Widens}
use Rattle.dj_widened.proofs.Paths.{contains_in}
use Rattle.dj_widened.proofs.Choice.{in_filter, chosen_found}
use Rattle.dj_widened.proofs.Asked.{IsAskedOf, object_asked, array_asked, new_asked}
use Rattle.dj_held.specs.Running.{AreMembers}
use Rattle.dj_held.proofs.Objects.{clone_is}
use Rattle.dj_members_shown.specs.Meant.{exact, asked_of, IsOfObject, IsOfNew}
use Rattle.dj_strict_entries.specs.Replies.{GivesKept}
use Rattle.dj_strict_entries.proofs.Operating.{object-called-kept, static-called-kept, clone-kept}

module _ (headers : List Header) where
  -- ---- a descriptor that is no method's: no answer fits a call of it

  kept-then : {A : Type 0} (type : StaticType) (reply : Reply A) (next : A → Reply (Option Value)) → ((one : A) → GivesKept headers type (next one)) → GivesKept headers type (then_on reply next)
  kept-then type (Gives one) next h = h one
  kept-then type (Halts stop) next h = tt
  kept-then type (Asks action after) next h = λ answer fits. kept-then type (after answer) next h

  trap-kept : (type : StaticType) (class : Name) → GivesKept headers type (trap class)
  trap-kept type class (Given one) fits = tt
  trap-kept type class Done fits = tt
  trap-kept type class (Thrown reference) fits = tt

  unanswered : (type : StaticType) (kind : InvokeKind) (owner : JType) (name : Name) (descriptor : Descriptor) (field : JType) (values : List Value) → descriptor ≡ Field field → GivesKept headers type (ask (Invoke kind owner name descriptor values))
  unanswered type kind owner name (Field other) field values is = λ answer fits. absurd fits
  unanswered type kind owner name (Method parameters given) field values is = absurd (cc)

  field-called-kept : (type : StaticType) (kind : InvokeKind) (owner : JType) (method : MethodRef) (field : JType) (receiver arguments : List Value) → method.descriptor ≡ Field field → GivesKept headers type (called kind owner method receiver arguments)
  field-called-kept type kind owner method field receiver arguments is =
      kept-then type (all_fitted (parameters_of method.descriptor) arguments) _ (λ kept. unanswered type kind owner method.name method.descriptor field _ is)

  field-object-kept : (type : StaticType) (kind : InvokeKind) (owner : JType) (method : MethodRef) (field : JType) → method.descriptor ≡ Field field → (all : List Value) → GivesKept headers type (object_called kind owner method all)
  field-object-kept type kind owner method field is [] = tt
  field-object-kept type kind owner method field is (Int number ∷ rest) = tt
  field-object-kept type kind owner method field is (Long number ∷ rest) = tt
  field-object-kept type kind owner method field is (Null ∷ rest) = trap-kept type (codes "java/lang/NullPointerException")
  field-object-kept type kind owner method field is (Ref reference ∷ rest) = field-called-kept type kind owner method field (Ref reference ∷ []) rest is

  -- ---- what is given by the descriptor

  pub object-gives : (kind : InvokeKind) (owner : JType) (method : MethodRef) (type : JType) → result_of method.descriptor ≡ Some type → (all : List Value) → GivesKept headers (Of type) (object_called kind owner method all)
  object-gives kind owner method type is all = by method.descriptor refl is
    where
      by : (descriptor : Descriptor) → method.descriptor ≡ descriptor → result_of descriptor ≡ Some type → GivesKept headers (Of type) (object_called kind owner method all)
      by (Field field) at e = field-object-kept (Of type) kind owner method field at all
      by (Method parameters given) at e = object-called-kept headers kind owner method parameters type all (at ∙ ap (Method parameters) e)

  pub static-gives : (method : MethodRef) (type : JType) → result_of method.descriptor ≡ Some type → (all : List Value) → GivesKept headers (Of type) (static_called method all)
  static-gives method type is all = by method.descriptor refl is
    where
      by : (descriptor : Descriptor) → method.descriptor ≡ descriptor → result_of descriptor ≡ Some type → GivesKept headers (Of type) (static_called method all)
      by (Field field) at e = field-called-kept (Of type) Static method.owner method field [] all at
      by (Method parameters given) at e = static-called-kept headers method parameters type all (at ∙ ap (Method parameters) e)

  -- `clone` of an array
  clone-gives : (kind : InvokeKind) (method : MethodRef) → IsArrayClone method.owner method.name (parameters_of method.descriptor) → IsSome (result_of method.descriptor) → (all : List Value) → GivesKept headers (Of method.owner) (object_called kind method.owner method all)
  clone-gives kind method clone some all = by method.descriptor refl clone some
    where
      by : (descriptor : Descriptor) → method.descriptor ≡ descriptor → IsArrayClone method.owner method.name (parameters_of descriptor) → IsSome (result_of descriptor) → GivesKept headers (Of method.owner) (object_called kind method.owner method all)
      by (Field field) at clone some = field-object-kept (Of method.owner) kind method.owner method field at all
      by (Method parameters None) at clone some = absurd (false≢true some)
      by (Method parameters (Some given)) at clone some = clone-kept headers kind method parameters given all at clone

-- ---- what is given by the target

module _ (world headers : List Header) (wide : Widens world headers) (members : List Members) (lawful : AreMembers world members) (from : Name) where
  clone-some : (kind : InvokeKind) (method : MethodRef) → IsOfObject world members from kind method → IsArrayClone method.owner method.name (parameters_of method.descriptor) → IsSome (result_of method.descriptor)
  clone-some kind method is clone = by method.owner (object_asked world members from (exact (parameters_of method.descriptor)) method.name method.owner (asked_of kind method.owner method) is.meant) clone.array
    where
      by : (owner : JType) → IsAskedOf world members from (exact (parameters_of method.descriptor)) method.name owner (asked_of kind method.owner method) → IsArray owner → IsSome (result_of method.descriptor)
      by (Array element) found array =
          let own = array_asked world headers wide members from (exact (parameters_of method.descriptor)) method.name element (asked_of kind method.owner method) found in
          subst (λ descriptor. IsSome (result_of descriptor)) (sym own.descriptor)
          (lawful.clones own.method (contains_in _ own.method own.there) (sym own.name ∙ clone.clone) (subst (λ descriptor. parameters_of descriptor ≡ []) own.descriptor clone.alone))
      by owner found array = absurd (false≢true array)

  pub target-gives : (kind : InvokeKind) (method : MethodRef) → IsOfObject world members from kind method → (type : JType) → result (asked_of kind method.owner method) ≡ Some type → (all : List Value) → GivesKept headers (Of type) (object_called kind method.owner method all)
  target-gives kind method is type given all = decided (cases_Bool (is_array_clone method.owner method.name (parameters_of method.descriptor)))
    where
      by : Bool → Option JType
      by test = if test then Some method.owner else result_of method.descriptor

      decided : (is_array_clone method.owner method.name (parameters_of method.descriptor) ≡ true) ⊎ (is_array_clone method.owner method.name (parameters_of method.descriptor) ≡ false) → GivesKept headers (Of type) (object_called kind method.owner method all)
      decided (inl clone) =
          let is_clone = clone_is headers method.owner method.name (parameters_of method.descriptor) clone in
          let same : method.owner ≡ type = (let some : Some method.owner ≡ Some type = sym (ap by clone) ∙ given in cc) in
          subst (λ one. GivesKept headers (Of one) (object_called kind method.owner method all)) same (clone-gives headers kind method is_clone (clone-some kind method is is_clone) all)
      decided (inr plain) = object-gives headers kind method.owner method type (sym (ap by plain) ∙ given) all

-- ---- constructors

pub constructor-nothing : (world : List Header) (members : List Members) (from : Name) (method : MethodRef) → IsOfNew world members from method → result_of method.descriptor ≡ None
constructor-nothing world members from method is =
    let asked = new_asked world members from (exact (parameters_of method.descriptor)) is.class (asked_of Special (Class is.class) method) is.meant in
    let found = chosen_found world members asked.call asked.one asked.is in
    let test = (λ (one : members_as.Method). is_name one.name asked.call.name && is_seen world asked.call.class asked.one.owner one) in
    let passed = (in_filter test (methods_in (members_of world members asked.one.owner)) asked.one.method found.method).0 in
    let seen = (and_parts (is_name asked.one.method.name asked.call.name) (is_seen world asked.call.class asked.one.owner asked.one.method) passed).1 in
    let lawful = not-true (is_false_constructor asked.one.method.name asked.one.method.descriptor) (and_parts _ (not (is_false_constructor asked.one.method.name asked.one.method.descriptor)) seen).1 in
    none (result_of method.descriptor) (sym (ap (λ test. test && is_some (result_of method.descriptor)) is.constructs) ∙ ap (λ name. is_constructor name && is_some (result_of method.descriptor)) asked.name ∙ ap (λ descriptor. is_constructor asked.one.method.name && is_some (result_of descriptor)) asked.descriptor ∙ lawful)
  where
    none : (given : Option JType) → is_some given ≡ false → given ≡ None
    none None e = refl
    none (Some type) e = absurd (cc)
