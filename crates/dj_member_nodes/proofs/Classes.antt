-- What stands for casts, `instanceof` and class constants does what they do.
use Rattle.std.proofs.Common.{◌≡◌, ℕ, Bool, true, false, ◌&&◌, List, [], ◌∷◌, Option, Some, None, refl, sym, subst, ◌∙◌}
use Rattle.std.specs.Prelude.{if◌then◌else◌}
use Rattle.std.proofs.lemmas.Bool.{and_parts, false≢true}
use Rattle.dj_names.specs.declared.header.Header.{Header}
use Rattle.dj_names.specs.Types as types
use Rattle.dj_names.specs.Types.{JType, Boolean, Byte, Char, Short, Float, Double, Class, Array, StaticType, Of}
use Rattle.dj_names.specs.Assignable.{IsReference, object_name}
use Rattle.dj_syntax.specs.Trees.{Cast, InstanceOf}
use Rattle.dj_values.specs.Values.{Value, Int, Long, Null, Ref}
use Rattle.dj_values.specs.Deciding.{is_reference}
use Rattle.dj_values.specs.Outcomes.{Reply, Gives, State}
use Rattle.dj_bytecode.specs.Operands.{with_one, with_reference}
use Rattle.dj_bytecode.specs.Objects.{cast_to, is_of, truth}
use Rattle.dj_meaning.specs.Runs.{Store}
use Rattle.dj_meaning.specs.Expressions.{value}
use Rattle.dj_meaning.specs.StaticTypes.{Context, Scope}
use Rattle.dj_typing.specs.Casting.{may_be, may_be_of, may_cast}
use Rattle.dj_loaded.specs.Loaded.{MayRun}
use Rattle.dj_rebuilding.specs.Pending.{Typed, is_kept, is_object as is_object_type}
use Rattle.dj_rebuilt.specs.Standing.{AreOperands, IsNoded}
use Rattle.dj_members_shown.specs.Sorts.{OnIs}
use Rattle.dj_members_shown.specs.Strict.{GoesAs}
use Rattle.dj_members_shown.specs.Casts.{is_object}
use Rattle.dj_members_shown.specs.Operands.{IsOperand}
use Rattle.dj_members_shown.proofs.Binding.{on-weaker}
use Rattle.dj_members_shown.proofs.Casting.{through-object, instance-through-object}
use Rattle.dj_members_shown.proofs.Reading.{cast-value, instance-value}
use Rattle.dj_blocks_formed.proofs.Blocks.{made-if}
use Rattle.dj_blocks_formed.proofs.Spilled.{declared-goes}
use Rattle.dj_member_nodes.specs.Going.{fits_in}
use Rattle.dj_member_nodes.specs.Nodes.{cast_node, instance_node}
use Rattle.dj_member_nodes.proofs.Fitting.{true-reference}
use Rattle.dj_strict_entries.specs.Entries.{GoesWhere}
use Rattle.dj_strict_entries.specs.Replies.{GivesKept}
use Rattle.dj_strict_entries.proofs.Operating.{cast-kept, instance-kept}
use Rattle.dj_member_nodes.proofs.Standing.{AreKept, node-by}
use Rattle.dj_member_nodes.proofs.Operands.{goes-where}

-- ---- operands that are references

-- the type that a reference has by itself, and null as Object
abbrev own_type : StaticType → JType
own_type types.Null = Class object_name
own_type (Of type) = type

module _ (world : List Header) where
  goes-itself : (from : StaticType) → is_object from ≡ true → GoesWhere world from (own_type from)
  goes-itself types.Null e = record { kind = tt; goes = λ is. refl }
  goes-itself (Of Boolean) e = absurd (cc)
  goes-itself (Of Byte) e = absurd (cc)
  goes-itself (Of Char) e = absurd (cc)
  goes-itself (Of Short) e = absurd (cc)
  goes-itself (Of types.Int) e = absurd (cc)
  goes-itself (Of types.Long) e = absurd (cc)
  goes-itself (Of Float) e = absurd (cc)
  goes-itself (Of Double) e = absurd (cc)
  goes-itself (Of (Class name)) e = record { kind = tt; goes = λ is. declared-goes world (Of (Class name)) }
  goes-itself (Of (Array element)) e = record { kind = tt; goes = λ is. declared-goes world (Of (Array element)) }

-- what is known of an operand where Object is wanted
operand-goes : (headers : List Header) (from : StaticType) (found : Value) → is_object from ≡ true → IsOperand headers from (Class object_name) found → GoesAs headers (Class object_name) found
operand-goes headers types.Null found e is = subst (GoesAs headers (Class object_name)) (sym is) tt
operand-goes headers (Of Boolean) found e is = absurd (cc)
operand-goes headers (Of Byte) found e is = absurd (cc)
operand-goes headers (Of Char) found e is = absurd (cc)
operand-goes headers (Of Short) found e is = absurd (cc)
operand-goes headers (Of types.Int) found e is = absurd (cc)
operand-goes headers (Of types.Long) found e is = absurd (cc)
operand-goes headers (Of Float) found e is = absurd (cc)
operand-goes headers (Of Double) found e is = absurd (cc)
operand-goes headers (Of (Class name)) found e is = is
operand-goes headers (Of (Array element)) found e is = is

-- null is kept by a reference type
null-kept : (to : JType) → IsReference to → is_object_type to ≡ true
null-kept (Class name) is = refl
null-kept (Array element) is = refl
null-kept to is = absurd is

-- a cast of what is kept by a reference type, or null, is kept
kept-cast : (headers : List Header) (from : StaticType) (to : JType) (one : Value) → is_object from ≡ true → IsReference to → is_kept headers from one ≡ true → GivesKept headers (Of to) (with_reference one (cast_to headers to))
kept-cast headers types.Null to (Int number) e wanted kept = tt
kept-cast headers types.Null to (Long number) e wanted kept = tt
kept-cast headers types.Null to Null e wanted kept = null-kept to wanted
kept-cast headers types.Null to (Ref reference) e wanted kept = absurd (false≢true kept)
kept-cast headers (Of Boolean) to one e wanted kept = absurd (cc)
kept-cast headers (Of Byte) to one e wanted kept = absurd (cc)
kept-cast headers (Of Char) to one e wanted kept = absurd (cc)
kept-cast headers (Of Short) to one e wanted kept = absurd (cc)
kept-cast headers (Of types.Int) to one e wanted kept = absurd (cc)
kept-cast headers (Of types.Long) to one e wanted kept = absurd (cc)
kept-cast headers (Of Float) to one e wanted kept = absurd (cc)
kept-cast headers (Of Double) to one e wanted kept = absurd (cc)
kept-cast headers (Of (Class name)) to one e wanted kept = cast-kept headers (Class name) to one tt wanted kept
kept-cast headers (Of (Array element)) to one e wanted kept = cast-kept headers (Array element) to one tt wanted kept

module _ (world : List Header) (context : Context) (may : MayRun world context.headers) (n : ℕ) (scope : Scope) where
  -- what `checkcast` does, and `instanceof`
  abbrev pub casts : JType → List Value → Reply (Option Value)
  casts type all = with_one all (λ one. with_reference one (cast_to context.headers type))

  abbrev pub tells : JType → List Value → Reply (Option Value)
  tells type all = with_one all (λ one. with_reference one (λ reference. Gives (Some (truth (is_of context.headers type reference)))))

  casts-kept : (one : Typed) (type : JType) → is_object one.0 ≡ true → IsReference type → (all : List Value) → AreKept context scope (one ∷ []) all → GivesKept context.headers (Of type) (casts type all)
  casts-kept one type object reference [] k = absurd k
  casts-kept one type object reference (found ∷ []) k = kept-cast context.headers one.0 type found object reference k.0
  casts-kept one type object reference (found ∷ second ∷ rest) k = absurd k.1

  tells-kept : (one : Typed) (type : JType) (all : List Value) → AreKept context scope (one ∷ []) all → GivesKept context.headers (Of Boolean) (tells type all)
  tells-kept one type [] k = absurd k
  tells-kept one type (found ∷ []) k = instance-kept context.headers type found
  tells-kept one type (found ∷ second ∷ rest) k = absurd k.1

  goes-as : (one : Typed) (state : State Store) → is_object one.0 ≡ true → OnIs (λ found after. IsOperand context.headers one.0 (Class object_name) found × Unit {0}) (value context scope one.1 state) → OnIs (λ found after. GoesAs context.headers (Class object_name) found) (value context scope one.1 state)
  goes-as one state object ops =
      on-weaker (λ found after. IsOperand context.headers one.0 (Class object_name) found × Unit {0}) (λ found after. GoesAs context.headers (Class object_name) found) (value context scope one.1 state) ops
      (λ found after holds. operand-goes context.headers one.0 found object holds.0)

  pub cast-noded : (type : JType) (are : List Typed) (found : Typed) → cast_node world type are ≡ Some found → AreOperands context n scope are → IsNoded context n scope (casts type) are found
  cast-noded type [] found e typed = absurd (cc)
  cast-noded type (one ∷ []) found e typed =
      let m = made-if (is_reference type && is_object one.0) (if may_cast world one.0 type then Some (Of type, Cast type one.1)
      else (if fits_in world one.0 (Class object_name) && may_be world (Class object_name) type then Some (Of type, Cast type (Cast (Class object_name) one.1)) else None)) found e in
      let parts = and_parts (is_reference type) (is_object one.0) m.0 in
      by (true-reference type parts.0) parts.1 (may_cast world one.0 type) m.1
    where
      by : IsReference type → is_object one.0 ≡ true → (test : Bool)
          → (if test then Some (Of type, Cast type one.1) else (if fits_in world one.0 (Class object_name) && may_be world (Class object_name) type then Some (Of type, Cast type (Cast (Class object_name) one.1)) else None)) ≡ Some found → IsNoded context n scope (casts type) (one ∷ []) found
      by reference object true f =
          let same : (Of type, Cast type one.1) ≡ found = cc in
          subst (IsNoded context n scope (casts type) (one ∷ [])) same (record {
            node = node-by context scope world may (one ∷ []) (own_type one.0 ∷ []) (goes-itself world one.0 object, tt) (casts type) (Of type) (Cast type one.1) (λ state ops. cast-value context scope type one.1 state reference) (casts-kept one type object reference);
            is = record { small = typed.0.small; typed = refl };
          })
      by reference object false f =
          let m = made-if (fits_in world one.0 (Class object_name) && may_be world (Class object_name) type) (Some (Of type, Cast type (Cast (Class object_name) one.1))) found f in
          let fit = (and_parts (fits_in world one.0 (Class object_name)) (may_be world (Class object_name) type) m.0).0 in
          let same : (Of type, Cast type (Cast (Class object_name) one.1)) ≡ found = (let some = m.1 in cc) in
          subst (IsNoded context n scope (casts type) (one ∷ [])) same (record {
            node = node-by context scope world may (one ∷ []) (Class object_name ∷ []) (goes-where world one.0 (Class object_name) fit, tt) (casts type) (Of type) (Cast type (Cast (Class object_name) one.1))
                (λ state ops. through-object context scope type one.1 state (goes-as one state object ops.1) ∙ cast-value context scope type one.1 state reference) (casts-kept one type object reference);
            is = record { small = typed.0.small; typed = refl };
          })
  cast-noded type (one ∷ second ∷ rest) found e typed = absurd (cc)

  pub instance-noded : (type : JType) (are : List Typed) (found : Typed) → instance_node world type are ≡ Some found → AreOperands context n scope are → IsNoded context n scope (tells type) are found
  instance-noded type [] found e typed = absurd (cc)
  instance-noded type (one ∷ []) found e typed =
      let m = made-if (is_reference type && is_object one.0) (if may_be_of world one.0 type then Some (Of Boolean, InstanceOf one.1 type)
      else (if fits_in world one.0 (Class object_name) && may_be world (Class object_name) type then Some (Of Boolean, InstanceOf (Cast (Class object_name) one.1) type) else None)) found e in
      by (and_parts (is_reference type) (is_object one.0) m.0).1 (may_be_of world one.0 type) m.1
    where
      by : is_object one.0 ≡ true → (test : Bool)
          → (if test then Some (Of Boolean, InstanceOf one.1 type) else (if fits_in world one.0 (Class object_name) && may_be world (Class object_name) type then Some (Of Boolean, InstanceOf (Cast (Class object_name) one.1) type) else None)) ≡ Some found → IsNoded context n scope (tells type) (one ∷ []) found
      by object true f =
          let same : (Of Boolean, InstanceOf one.1 type) ≡ found = cc in
          subst (IsNoded context n scope (tells type) (one ∷ [])) same (record {
            node = node-by context scope world may (one ∷ []) (own_type one.0 ∷ []) (goes-itself world one.0 object, tt) (tells type) (Of Boolean) (InstanceOf one.1 type) (λ state ops. instance-value context scope type one.1 state) (tells-kept one type);
            is = record { small = typed.0.small; typed = refl };
          })
      by object false f =
          let m = made-if (fits_in world one.0 (Class object_name) && may_be world (Class object_name) type) (Some (Of Boolean, InstanceOf (Cast (Class object_name) one.1) type)) found f in
          let fit = (and_parts (fits_in world one.0 (Class object_name)) (may_be world (Class object_name) type) m.0).0 in
          let same : (Of Boolean, InstanceOf (Cast (Class object_name) one.1) type) ≡ found = (let some = m.1 in cc) in
          subst (IsNoded context n scope (tells type) (one ∷ [])) same (record {
            node = node-by context scope world may (one ∷ []) (Class object_name ∷ []) (goes-where world one.0 (Class object_name) fit, tt) (tells type) (Of Boolean) (InstanceOf (Cast (Class object_name) one.1) type)
                (λ state ops. instance-through-object context scope type one.1 state (goes-as one state object ops.1) ∙ instance-value context scope type one.1 state) (tells-kept one type);
            is = record { small = typed.0.small; typed = refl };
          })
  instance-noded type (one ∷ second ∷ rest) found e typed = absurd (cc)
