-- What stands for the length of an array, and for a class constant, does what the instruction does.
use Rattle.std.proofs.Common.{◌≡◌, ℕ, false, refl, List, [], ◌∷◌, Some, option_and_then, subst, ap, ◌∙◌}
use Rattle.std.specs.Prelude.{codes, option_map}
use Rattle.dj_names.specs.declared.header.Header.{Header}
use Rattle.dj_names.specs.Headers.{Name}
use Rattle.dj_names.specs.Types as types
use Rattle.dj_names.specs.Types.{JType, Boolean, Byte, Char, Short, Float, Double, Class, Array, StaticType, Of}
use Rattle.dj_syntax.specs.Trees.{Field, ClassOf}
use Rattle.dj_instructions.specs.declared.kinds.Element.TheVariants as element
use Rattle.dj_values.specs.Values.{Value, Int, Long, Null, Ref, Given, Done, Thrown, ClassConstant}
use Rattle.dj_values.specs.Deciding.{is_reference}
use Rattle.dj_values.specs.Outcomes.{trap, ask}
use Rattle.dj_bytecode.specs.Objects.{length_read}
use Rattle.dj_meaning.specs.Fields.{selected}
use Rattle.dj_meaning.specs.Expressions.{value}
use Rattle.dj_meaning.specs.StaticTypes.{Context, Scope, plain, typed, selection_type, type_of}
use Rattle.dj_loaded.specs.Loaded.{MayRun}
use Rattle.dj_rebuilding.specs.Pending.{Typed}
use Rattle.dj_rebuilding.specs.Agreeing.{IsBelow}
use Rattle.dj_rebuilt.specs.Standing.{AreOperands, IsNoded}
use Rattle.dj_members_shown.specs.Casts.{dressed}
use Rattle.dj_members_shown.specs.Operands.{IsOperand}
use Rattle.dj_members_shown.proofs.Binding.{on-weaker}
use Rattle.dj_members_shown.proofs.Dressing.{pinned, dressed-has-type}
use Rattle.dj_members_shown.proofs.Stores.{length-read-built}
use Rattle.dj_members_shown.proofs.Reading.{class-value}
use Rattle.dj_blocks_formed.proofs.Blocks.{made-if, both-are}
use Rattle.dj_blocks_formed.proofs.Spilled.{declared-goes}
use Rattle.dj_member_nodes.specs.Nodes.{element_in, length_node, class_node}
use Rattle.dj_member_nodes.proofs.Dressed.{dressed-small}
use Rattle.dj_strict_entries.specs.Entries.{GoesWhere}
use Rattle.dj_strict_entries.specs.Replies.{GivesKept}
use Rattle.dj_member_nodes.proofs.Standing.{AreKept, node-by}

trap-kept : (headers : List Header) (class : Name) → GivesKept headers (Of types.Int) (trap class)
trap-kept headers class (Given one) fits = tt
trap-kept headers class Done fits = tt
trap-kept headers class (Thrown reference) fits = tt

length-kept : (headers : List Header) (array : Value) → GivesKept headers (Of types.Int) (length_read (array ∷ []))
length-kept headers (Int number) = tt
length-kept headers (Long number) = tt
length-kept headers Null = trap-kept headers (codes "java/lang/NullPointerException")
length-kept headers (Ref reference) = refl

-- an array goes where arrays of its elements are wanted, and null where any are
goes-array : (world : List Header) (from : StaticType) (type : JType) → element_in element.Int from ≡ Some type → GoesWhere world from (Array type)
goes-array world types.Null type e = record { kind = tt; goes = λ is. refl }
goes-array world (Of Boolean) type e = absurd (cc)
goes-array world (Of Byte) type e = absurd (cc)
goes-array world (Of Char) type e = absurd (cc)
goes-array world (Of Short) type e = absurd (cc)
goes-array world (Of types.Int) type e = absurd (cc)
goes-array world (Of types.Long) type e = absurd (cc)
goes-array world (Of Float) type e = absurd (cc)
goes-array world (Of Double) type e = absurd (cc)
goes-array world (Of (Class name)) type e = absurd (cc)
goes-array world (Of (Array own)) type e = let same : own ≡ type = cc in subst (λ one. GoesWhere world (Of (Array own)) (Array one)) same (record { kind = tt; goes = λ is. declared-goes world (Of (Array own)) })

module _ (world : List Header) (context : Context) (may : MayRun world context.headers) (n : ℕ) (scope : Scope) where
  length-exp : (array : Typed) (type : JType) → GoesWhere world array.0 (Array type) → AreOperands context n scope (array ∷ [])
      → IsNoded context n scope length_read (array ∷ []) (Of types.Int, Field (dressed world false array.0 (Array type) array.1) (codes "length"))
  length-exp array type goes are_typed =
      let exp = dressed world false array.0 (Array type) array.1 in
      let array_type : type_of context scope exp ≡ Some (Of (Array type)) = dressed-has-type world false context scope array.0 (Array type) array.1 are_typed.0.typed ∙ ap Some (pinned world array.0 (Array type)) in
      record {
        node = node-by context scope world may (array ∷ []) (Array type ∷ []) (goes, tt) length_read (Of types.Int) (Field exp (codes "length"))
            (λ state ops. length-read-built world context scope type array.1 array.0 state are_typed.0.typed ops.0
            (on-weaker (λ one after. IsOperand context.headers array.0 (Array type) one × Unit {0}) (λ one after. IsOperand context.headers array.0 (Array type) one) (value context scope array.1 state) ops.1 (λ one after holds. holds.0)))
            kept;
        is = record {
          small = dressed-small (IsBelow n) world false array.0 (Array type) array.1 are_typed.0.small;
          typed = ap (λ found. typed (option_map selection_type (option_and_then (selected context.headers context.members context.class (codes "length")) (plain found)))) array_type;
        };
      }
    where
      kept : (all : List Value) → AreKept context scope (array ∷ []) all → GivesKept context.headers (Of types.Int) (length_read all)
      kept [] k = absurd k
      kept (one ∷ []) k = length-kept context.headers one
      kept (one ∷ two ∷ more) k = absurd k.1

  pub length-noded : (are : List Typed) (found : Typed) → length_node world are ≡ Some found → AreOperands context n scope are → IsNoded context n scope length_read are found
  length-noded [] found e are_typed = absurd (cc)
  length-noded (array ∷ []) found e are_typed =
      let b = both-are (element_in element.Int array.0) (λ type. Some (Of types.Int, Field (dressed world false array.0 (Array type) array.1) (codes "length"))) found e in
      let same : (Of types.Int, Field (dressed world false array.0 (Array b.one) array.1) (codes "length")) ≡ found = (let some = b.then_is in cc) in
      subst (IsNoded context n scope length_read (array ∷ [])) same (length-exp array b.one (goes-array world array.0 b.one b.is) are_typed)
  length-noded (array ∷ second ∷ rest) found e are_typed = absurd (cc)

  -- ---- class constants

  pub class-noded : (type : JType) → GivesKept context.headers (Of (Class (codes "java/lang/Class"))) (ask (ClassConstant type)) → (are : List Typed) (found : Typed) → class_node type are ≡ Some found → AreOperands context n scope are
      → IsNoded context n scope (λ all. ask (ClassConstant type)) are found
  class-noded type kept [] found e are_typed =
      let m = made-if (is_reference type) (Some (Of (Class (codes "java/lang/Class")), ClassOf type)) found e in
      let same : (Of (Class (codes "java/lang/Class")), ClassOf type) ≡ found = (let some = m.1 in cc) in
      subst (IsNoded context n scope (λ all. ask (ClassConstant type)) []) same (record {
        node = node-by context scope world may [] [] tt (λ all. ask (ClassConstant type)) (Of (Class (codes "java/lang/Class"))) (ClassOf type) (λ state ops. class-value context scope type state) (λ all k. kept);
        is = record { small = tt; typed = refl };
      })
  class-noded type kept (first ∷ rest) found e are_typed = absurd (cc)
