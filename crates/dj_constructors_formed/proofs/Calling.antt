-- The call of another constructor keeps the rules, in the scope of the parameters alone.
use Rattle.std.proofs.Common.{◌≡◌, ℕ, Bool, true, length, List, Option, Some, None, is_some, ap, ◌∙◌, subst, codes}
use Rattle.dj_names.specs.declared.header.Header.{Header}
use Rattle.dj_names.specs.Headers.{Name}
use Rattle.dj_names.specs.MethodNames.{is_constructor}
use Rattle.dj_names.specs.Types.{JType, Class, StaticType, parameters_of}
use Rattle.dj_syntax.specs.Trees.{Exps}
use Rattle.dj_instructions.specs.Instructions.{MethodRef, Instruction}
use Rattle.dj_instructions.specs.Instructions as op
use Rattle.dj_values.specs.Values.{Special}
use Rattle.dj_meaning.specs.Members.{Members}
use Rattle.dj_meaning.specs.StaticTypes.{Scope, construct_target}
use Rattle.dj_meaning.specs.Targets.{of_construct}
use Rattle.dj_places.specs.Rules.{Holds}
use Rattle.dj_typing.specs.Sites.{Site, context_of}
use Rattle.dj_typing.specs.Expressions.{is_meant, exps_types}
use Rattle.dj_typed.specs.Statements.{means_constructor, without_this}
use Rattle.dj_rebuilding.specs.Pending.{Typed}
use Rattle.dj_rebuilt.proofs.Rebuilt.{made-if}
use Rattle.dj_blocks_formed.specs.Formed.{constants_of}
use Rattle.dj_blocks_formed.specs.Ruled.{AreRuledOperands}
use Rattle.dj_members_shown.specs.Alone.{is_alone_in}
use Rattle.dj_members_shown.specs.Choosing.{ChooseAlikeIn}
use Rattle.dj_members_shown.specs.Meant.{asked_of, constructed_class, IsOfConstruct}
use Rattle.dj_members_shown.specs.Operands.{dressed_types}
use Rattle.dj_members_shown.proofs.Dressing.{dressed-choose}
use Rattle.dj_members_shown.proofs.Targets.{construct_alike}
use Rattle.dj_member_nodes.specs.Going.{may_be_given, froms_of}
use Rattle.dj_member_nodes.specs.Nodes.{given_to}
use Rattle.dj_member_nodes.specs.Named.{MethodIsNamed}
use Rattle.dj_member_nodes.proofs.Fitting.{all-fit-many, given-fit}
use Rattle.dj_member_nodes.proofs.Dressed.{all-dressed-ruled}
use Rattle.dj_constructors.specs.Opening.{constructor_in}

-- what a call of a constructor is
pub record IsSpecial (instruction : Instruction) (method : MethodRef) : Type 0 where
  pub is : instruction ≡ op.InvokeSpecial method
  pub constructs : is_constructor method.name ≡ true

pub constructor-is : (instruction : Instruction) (method : MethodRef) → constructor_in instruction ≡ Some method → IsSpecial instruction method
constructor-is (op.InvokeSpecial one) method e =
    let made = made-if (is_constructor one.name) (Some one) method e in
    let same : one ≡ method = (let some = made.1 in cc) in
    record { is = ap op.InvokeSpecial same; constructs = subst (λ (one : MethodRef). is_constructor one.name ≡ true) same made.0 }
constructor-is instruction method e = absurd (cc)

-- what arguments choose alike through a class, if there is one
choose-in : (world : List Header) (members : List Members) (searched : Option Name) (froms : List StaticType) (tos : List JType) → length froms ≡ length tos
    → ChooseAlikeIn world members (codes "<init>") searched (dressed_types world (is_alone_in world members (codes "<init>") searched tos) froms tos) tos
choose-in world members None froms tos same = record { alike = tt }
choose-in world members (Some class) froms tos same = record { alike = dressed-choose world members (codes "<init>") class froms tos same }

-- arguments that are right
pub record AreArguments (site : Site) (scope : Scope) (own : Bool) (arguments : Exps) : Type 0 where
  pub meant : means_constructor site scope own arguments ≡ true
  pub keeps : (place : ℕ) → Holds (exps_types (without_this site) scope place arguments)

pub arguments-are : (site : Site) (n : ℕ) (scope : Scope) (method : MethodRef) (is : IsOfConstruct site.headers site.members site.class method) → MethodIsNamed (without_this site) method → (are : List Typed)
    → may_be_given site.headers are (parameters_of method.descriptor) ≡ true → AreRuledOperands (without_this site) n scope are
    → AreArguments site scope is.own (given_to (constants_of site) method (codes "<init>") (constructed_class site.headers site.class is.own) are)
arguments-are site n scope method is named are given ruled =
    let searched = constructed_class site.headers site.class is.own in
    let tos = parameters_of method.descriptor in
    let alone = is_alone_in site.headers site.members (codes "<init>") searched tos in
    let fit = given-fit site.headers are tos given in
    let types = dressed_types site.headers alone (froms_of are) tos in
    let arguments = given_to (constants_of site) method (codes "<init>") searched are in
    let more = all-dressed-ruled (without_this site) n scope alone are tos ruled fit named.parameters in
    let meant : of_construct site.headers site.members site.class is.own types ≡ Some (asked_of Special (Class is.class) method) =
    construct_alike site.headers site.members site.class types tos is.own (choose-in site.headers site.members searched (froms_of are) tos (all-fit-many site.headers are tos fit)) ∙ is.meant in
    record {
      meant = ap (λ (found : Option (List StaticType)). is_meant found (construct_target (context_of site) is.own found)) more.typed ∙ ap is_some meant;
      keeps = more.keeps;
    }
