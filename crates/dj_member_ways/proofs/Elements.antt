-- What stands for reads and writes of elements and for new arrays does what the instructions do.
use Rattle.std.proofs.Common.{◌≡◌, ℕ, Bool, true, false, ◌&&◌, if◌then◌else◌, int_le, int_lt, pos, length, List, [], ◌∷◌, Option, Some, None, refl, sym, ap, subst, ◌∙◌, codes}
use Rattle.std.specs.Prelude.{◌+◌}
use Rattle.std.proofs.lemmas.Bool.{and_parts, false≢true}
use Rattle.dj_names.specs.declared.header.Header.{Header}
use Rattle.dj_names.specs.Types as types
use Rattle.dj_names.specs.Types.{JType, Boolean, Byte, Char, Short, Float, Double, Class, Array, StaticType, Of}
use Rattle.dj_names.specs.Assignable.{IsReference, IsSubtype, own_type, wider_number, elements}
use Rattle.dj_syntax.specs.Trees.{Exp, NoExps, AndExp, Element, NewArray, SetElement}
use Rattle.dj_instructions.specs.declared.kinds.Element as kinds
use Rattle.dj_values.specs.Values.{Value, Int, Long, Null, Ref, RefValue, ArrayStore}
use Rattle.dj_values.specs.Fits.{element_of, innermost}
use Rattle.dj_values.specs.Deciding.{is_subtype}
use Rattle.dj_values.specs.Outcomes.{Reply, ask, State, Outcome, Is, bind, outside, then_on, there, trap}
use Rattle.dj_bytecode.specs.Operands.{fitted}
use Rattle.dj_bytecode.specs.Objects.{stored, element_read, element_written, array_made}
use Rattle.dj_meaning.specs.Completions.{Completion, Normal}
use Rattle.dj_meaning.specs.StaticTypes.{Context, Scope, type_of, array_of, count}
use Rattle.dj_meaning.specs.Runs.{Store}
use Rattle.dj_meaning.specs.Expressions.{value}
use Rattle.dj_meaning.specs.Statements.{Elsewhere}
use Rattle.dj_meaning.specs.Variables.{EachInStm}
use Rattle.dj_loaded.specs.Loaded.{MayRun}
use Rattle.dj_loaded.proofs.Going.{not-wider}
use Rattle.dj_typed_states.proofs.Shapes.{subtype_shape}
use Rattle.dj_typing.specs.Sites.{Site}
use Rattle.dj_rebuilding.specs.Pending.{Typed, and_then, set_element, is_kept}
use Rattle.dj_rebuilding.specs.Agreeing.{IsBelow}
use Rattle.dj_rebuilt.specs.Nodes.{is_whole, as_int}
use Rattle.dj_rebuilt.specs.Rebuilding.{Plain}
use Rattle.dj_rebuilt.specs.Standing.{AreOperands, IsNoded, IsEffect}
use Rattle.dj_rebuilt.proofs.Arithmetic.{int-small}
use Rattle.dj_blocks_formed.proofs.Blocks.{made-if, both-are}
use Rattle.dj_blocks_formed.proofs.Spilled.{declared-goes}
use Rattle.dj_members_shown.specs.Sorts.{OnIs, IsArrayFor}
use Rattle.dj_members_shown.specs.Casts.{dressed, stored_as}
use Rattle.dj_members_shown.specs.Operands.{IsOperand}
use Rattle.dj_members_shown.specs.Operands as operand
use Rattle.dj_members_shown.specs.Strict.{GoesAs}
use Rattle.dj_members_shown.specs.Pushing.{GivesNothing}
use Rattle.dj_members_shown.proofs.Binding.{bind-on, on-weaker}
use Rattle.dj_members_shown.proofs.Dressing.{pinned, dressed-has-type}
use Rattle.dj_members_shown.proofs.Reading.{two-operands, three-operands, array-value}
use Rattle.dj_members_shown.proofs.Stores.{element-read-built, element-written-built}
use Rattle.dj_members_shown.proofs.Suiting.{element-type}
use Rattle.dj_member_nodes.specs.Going.{fits_in}
use Rattle.dj_member_nodes.specs.Nodes.{element_in, works_on, element_node, element_effect, sizes_of, left_behind, array_node}
use Rattle.dj_member_nodes.proofs.Dressed.{dressed-small}
use Rattle.dj_member_nodes.proofs.Members.{array-again}
use Rattle.dj_member_nodes.proofs.Operands.{goes-where}
use Rattle.dj_member_nodes.proofs.Standing.{AreKept, node-by, effect-by, nothing-again}
use Rattle.dj_member_nodes.proofs.Writes.{then-nothing, told-nothing, trap-nothing}
use Rattle.dj_strict_entries.specs.Entries.{GoesWhere}
use Rattle.dj_strict_entries.specs.Replies.{GivesKept}
use Rattle.dj_strict_entries.proofs.Operating.{element-read-kept, array-made-kept}
use Rattle.dj_member_ways.proofs.Indexes.{goes-int, int-same, ints, are-sizes}

-- ---- arrays

-- an array by its static type goes where arrays of its elements are wanted, and null where any are; its values pass the test of that type
record IsArrayBy (world headers : List Header) (from : StaticType) (type : JType) : Type 0 where
  goes : GoesWhere world from (Array type)
  kept : (one : Value) → is_kept headers from one ≡ true → is_kept headers (Of (Array type)) one ≡ true

array-by : (world headers : List Header) (kind : kinds.Element) (from : StaticType) (type : JType) → element_in kind from ≡ Some type → IsArrayBy world headers from type
array-by world headers kind types.Null type e = record { goes = record { kind = tt; goes = λ is. refl }; kept = null }
  where
    null : (one : Value) → is_kept headers types.Null one ≡ true → is_kept headers (Of (Array type)) one ≡ true
    null (Int number) k = absurd (false≢true k)
    null (Long number) k = absurd (false≢true k)
    null Null k = refl
    null (Ref reference) k = absurd (false≢true k)
array-by world headers kind (Of Boolean) type e = absurd (cc)
array-by world headers kind (Of Byte) type e = absurd (cc)
array-by world headers kind (Of Char) type e = absurd (cc)
array-by world headers kind (Of Short) type e = absurd (cc)
array-by world headers kind (Of types.Int) type e = absurd (cc)
array-by world headers kind (Of types.Long) type e = absurd (cc)
array-by world headers kind (Of Float) type e = absurd (cc)
array-by world headers kind (Of Double) type e = absurd (cc)
array-by world headers kind (Of (Class name)) type e = absurd (cc)
array-by world headers kind (Of (Array own)) type e =
    let same : own ≡ type = cc in
    subst (IsArrayBy world headers (Of (Array own))) same (record { goes = record { kind = tt; goes = λ is. declared-goes world (Of (Array own)) }; kept = λ one k. k })

-- what goes to an array type is an array whose elements have the shape of the type's
going-array : (headers : List Header) (element : JType) (found : Value) → GoesAs headers (Array element) found → IsArrayFor element found
going-array headers element (Int number) goes = absurd goes
going-array headers element (Long number) goes = absurd goes
going-array headers element Null goes = tt
going-array headers element (Ref reference) goes = subtype_shape headers reference.class (Array element) (by reference.class goes) goes
  where
    by : (class : JType) → IsSubtype headers class (Array element) → IsReference class
    by class own_type = tt
    by class (wider_number within) = absurd (not-wider class (Array element) within tt)
    by class (elements reference goes) = tt

array-wanted : (headers world : List Header) (from : StaticType) (element : JType) (found : Value) → fits_in world from (Array element) ≡ true → IsOperand headers from (Array element) found → IsArrayFor element found
array-wanted headers world types.Null element found e is = subst (IsArrayFor element) (sym is) tt
array-wanted headers world (Of Boolean) element found e is = absurd (false≢true e)
array-wanted headers world (Of Byte) element found e is = absurd (false≢true e)
array-wanted headers world (Of Char) element found e is = absurd (false≢true e)
array-wanted headers world (Of Short) element found e is = absurd (false≢true e)
array-wanted headers world (Of types.Int) element found e is = absurd (false≢true e)
array-wanted headers world (Of types.Long) element found e is = absurd (false≢true e)
array-wanted headers world (Of Float) element found e is = absurd (false≢true e)
array-wanted headers world (Of Double) element found e is = absurd (false≢true e)
array-wanted headers world (Of (Class name)) element found e is = going-array headers element found is
array-wanted headers world (Of (Array own)) element found e is = going-array headers element found is

-- a write to an element gives nothing, whatever the operands
module _ (headers : List Header) where
  store-nothing : (array : RefValue) (index : _) (element : JType) (one : Value) → GivesNothing headers (stored headers array index element one)
  store-nothing array index element (Int number) = then-nothing headers (fitted element (Int number)) (λ kept. ask (ArrayStore array index kept)) (λ kept. told-nothing headers (ArrayStore array index kept) (λ one. refl))
  store-nothing array index element (Long number) = then-nothing headers (fitted element (Long number)) (λ kept. ask (ArrayStore array index kept)) (λ kept. told-nothing headers (ArrayStore array index kept) (λ one. refl))
  store-nothing array index element Null = then-nothing headers (fitted element Null) (λ kept. ask (ArrayStore array index kept)) (λ kept. told-nothing headers (ArrayStore array index kept) (λ one. refl))
  store-nothing array index element (Ref reference) = by (is_subtype headers reference.class element)
    where
      by : (test : Bool) → GivesNothing headers (if test then ask (ArrayStore array index (Ref reference)) else trap (codes "java/lang/ArrayStoreException"))
      by true = told-nothing headers (ArrayStore array index (Ref reference)) (λ one. refl)
      by false = trap-nothing headers (codes "java/lang/ArrayStoreException")

  write-nothing : (all : List Value) → GivesNothing headers (element_written headers all)
  write-nothing [] = tt
  write-nothing (array ∷ []) = tt
  write-nothing (array ∷ index ∷ []) = tt
  write-nothing (array ∷ Long number ∷ new ∷ []) = tt
  write-nothing (array ∷ Null ∷ new ∷ []) = tt
  write-nothing (array ∷ Ref reference ∷ new ∷ []) = tt
  write-nothing (Int other ∷ Int number ∷ new ∷ []) = tt
  write-nothing (Long other ∷ Int number ∷ new ∷ []) = tt
  write-nothing (Null ∷ Int number ∷ new ∷ []) = trap-nothing headers (codes "java/lang/NullPointerException")
  write-nothing (Ref array ∷ Int number ∷ new ∷ []) = by (int_le (pos 0) number && int_lt number (pos array.length))
    where
      next : JType → Reply (Option Value)
      next element = stored headers array number element new

      by : (test : Bool) → GivesNothing headers (if test then then_on (there (element_of array.class)) next else trap (codes "java/lang/ArrayIndexOutOfBoundsException"))
      by true = then-nothing headers (there (element_of array.class)) next (λ element. store-nothing array number element new)
      by false = trap-nothing headers (codes "java/lang/ArrayIndexOutOfBoundsException")
  write-nothing (array ∷ index ∷ new ∷ fourth ∷ rest) = tt

module _ (world : List Header) (context : Context) (may : MayRun world context.headers) (n : ℕ) (scope : Scope) where
  -- ---- reads

  read-exp : (kind : kinds.Element) (array index : Typed) (type : JType) → element_in kind array.0 ≡ Some type → is_whole index.0 ≡ true → AreOperands context n scope (array ∷ index ∷ [])
      → IsNoded context n scope element_read (array ∷ index ∷ []) (Of type, Element (dressed world false array.0 (Array type) array.1) (as_int index.0 index.1))
  read-exp kind array index type of whole h =
      let one = array-by world context.headers kind array.0 type of in
      let exp = dressed world false array.0 (Array type) array.1 in
      let place = as_int index.0 index.1 in
      let array_type : type_of context scope exp ≡ Some (Of (Array type)) = dressed-has-type world false context scope array.0 (Array type) array.1 h.0.typed ∙ ap Some (pinned world array.0 (Array type)) in
      record {
        node = node-by context scope world may (array ∷ index ∷ []) (Array type ∷ types.Int ∷ []) (one.goes, (goes-int world index.0 whole, tt)) element_read (Of type) (Element exp place)
            (λ state ops.
            element-read-built world context scope type array.1 place array.0 state h.0.typed ops.0 (on-weaker Behind (λ found after. IsOperand context.headers array.0 (Array type) found) (value context scope array.1 state) ops.1 (λ found after holds. holds.0))
            ∙ two-operands context scope array.1 place state done
            ∙ bind-on Behind (value context scope array.1 state) (λ one after. bind (value context scope place after) (λ two. done (one ∷ two ∷ []))) (λ one after. bind (value context scope index.1 after) (λ two. done (one ∷ two ∷ []))) ops.1
            (λ found after holds. ap (λ run. bind run (λ two. done (found ∷ two ∷ [])))
            (int-same context scope index.0 index.1 after whole (on-weaker (λ at behind. IsOperand context.headers index.0 types.Int at × Unit {0}) (λ at behind. IsOperand context.headers index.0 types.Int at) (value context scope index.1 after) holds.1.1 (λ at behind so. so.0))))
            ∙ sym (two-operands context scope array.1 index.1 state done))
            (λ all k. kept one all k);
        is = record { small = (dressed-small (IsBelow n) world false array.0 (Array type) array.1 h.0.small, int-small index.0 index.1 n h.1.0.small); typed = element-type context scope type exp place array_type };
      }
    where
      Behind : Value → State Store → Type 0
      Behind found after = IsOperand context.headers array.0 (Array type) found × operand.AreOperands context scope (AndExp index.1 NoExps) (index.0 ∷ []) (types.Int ∷ []) after

      done : List Value → State Store → Outcome Store Value
      done all = outside context.headers (then_on (element_read all) there)

      kept : IsArrayBy world context.headers array.0 type → (all : List Value) → AreKept context scope (array ∷ index ∷ []) all → GivesKept context.headers (Of type) (element_read all)
      kept by [] k = absurd k
      kept by (one ∷ []) k = absurd k.1
      kept by (one ∷ two ∷ []) k = element-read-kept context.headers may.loadable type one two (by.kept one k.0)
      kept by (one ∷ two ∷ three ∷ more) k = absurd k.1.1

  pub element-noded : (kind : kinds.Element) (are : List Typed) (found : Typed) → element_node world kind are ≡ Some found → AreOperands context n scope are → IsNoded context n scope element_read are found
  element-noded kind [] found e h = absurd (cc)
  element-noded kind (array ∷ []) found e h = absurd (cc)
  element-noded kind (array ∷ index ∷ []) found e h =
      let b = both-are (element_in kind array.0) (λ type. if works_on kind type && is_whole index.0 then Some (Of type, Element (dressed world false array.0 (Array type) array.1) (as_int index.0 index.1)) else None) found e in
      let m = made-if (works_on kind b.one && is_whole index.0) (Some (Of b.one, Element (dressed world false array.0 (Array b.one) array.1) (as_int index.0 index.1))) found b.then_is in
      let same : (Of b.one, Element (dressed world false array.0 (Array b.one) array.1) (as_int index.0 index.1)) ≡ found = (let some = m.1 in cc) in
      subst (IsNoded context n scope element_read (array ∷ index ∷ [])) same (read-exp kind array index b.one b.is (and_parts (works_on kind b.one) (is_whole index.0) m.0).1 h)
  element-noded kind (array ∷ index ∷ third ∷ rest) found e h = absurd (cc)

  -- ---- writes

  write-stands : (bound : ℕ) (array index new : Typed) (element : JType) → is_whole index.0 ≡ true → fits_in world array.0 (Array element) ≡ true → fits_in world new.0 element ≡ true → AreOperands context n scope (array ∷ index ∷ new ∷ [])
      → IsEffect context bound scope (element_written context.headers) (array ∷ index ∷ new ∷ []) (SetElement (dressed world false array.0 (Array element) array.1) (as_int index.0 index.1) (dressed world true new.0 element new.1))
      × EachInStm (IsBelow n) (SetElement (dressed world false array.0 (Array element) array.1) (as_int index.0 index.1) (dressed world true new.0 element new.1))
  write-stands bound array index new element whole fit fit_new h = (
    effect-by context scope world may bound (array ∷ index ∷ new ∷ []) (Array element ∷ types.Int ∷ element ∷ []) (goes-where world array.0 (Array element) fit, (goes-int world index.0 whole, (goes-where world new.0 element fit_new, tt))) (element_written context.headers)
        (SetElement (dressed world false array.0 (Array element) array.1) place (dressed world true new.0 element new.1))
        (λ all state. nothing-again context scope (element_written context.headers all) (write-nothing context.headers all) state)
        (λ state ops.
        element-written-built world context scope bound Elsewhere element array.1 place new.1 array.0 new.0 state h.0.typed h.1.1.0.typed ops.0 (goes-where world new.0 element fit_new).kind
        (on-weaker Behind Asked (value context scope array.1 state) ops.1 (λ found after holds. ((holds.0, array-wanted context.headers world array.0 element found fit holds.0), asked after holds.1)))
        ∙ three-operands context scope array.1 place new.1 state done
        ∙ bind-on Behind (value context scope array.1 state) (λ one after. bind (value context scope place after) (λ two behind. bind (value context scope new.1 behind) (λ three. done (one ∷ two ∷ three ∷ []))))
        (λ one after. bind (value context scope index.1 after) (λ two behind. bind (value context scope new.1 behind) (λ three. done (one ∷ two ∷ three ∷ [])))) ops.1
        (λ found after holds. ap (λ run. bind run (λ two behind. bind (value context scope new.1 behind) (λ three. done (found ∷ two ∷ three ∷ [])))) (itself after holds.1))
        ∙ sym (three-operands context scope array.1 index.1 new.1 state done)),
    (dressed-small (IsBelow n) world false array.0 (Array element) array.1 h.0.small, int-small index.0 index.1 n h.1.0.small, dressed-small (IsBelow n) world true new.0 element new.1 h.1.1.0.small),
  )
    where
      place : Exp
      place = as_int index.0 index.1

      Last : Value → State Store → Type 0
      Last at behind = IsOperand context.headers index.0 types.Int at × operand.AreOperands context scope (AndExp new.1 NoExps) (new.0 ∷ []) (element ∷ []) behind

      Behind : Value → State Store → Type 0
      Behind found after = IsOperand context.headers array.0 (Array element) found × operand.AreOperands context scope (AndExp index.1 (AndExp new.1 NoExps)) (index.0 ∷ new.0 ∷ []) (types.Int ∷ element ∷ []) after

      Asked : Value → State Store → Type 0
      Asked found after =
          (IsOperand context.headers array.0 (Array element) found × IsArrayFor element found)
          × OnIs (λ at behind. OnIs (λ kept last. IsOperand context.headers new.0 element kept) (value context scope new.1 behind)) (value context scope place after)

      done : List Value → State Store → Outcome Store Completion
      done all after = bind (outside context.headers (element_written context.headers all) after) (λ dropped. Is Normal)

      itself : (after : State Store) → operand.AreOperands context scope (AndExp index.1 (AndExp new.1 NoExps)) (index.0 ∷ new.0 ∷ []) (types.Int ∷ element ∷ []) after → value context scope place after ≡ value context scope index.1 after
      itself after ops = int-same context scope index.0 index.1 after whole (on-weaker Last (λ at behind. IsOperand context.headers index.0 types.Int at) (value context scope index.1 after) ops.1 (λ at behind so. so.0))

      asked : (after : State Store) → operand.AreOperands context scope (AndExp index.1 (AndExp new.1 NoExps)) (index.0 ∷ new.0 ∷ []) (types.Int ∷ element ∷ []) after
          → OnIs (λ at behind. OnIs (λ kept last. IsOperand context.headers new.0 element kept) (value context scope new.1 behind)) (value context scope place after)
      asked after ops =
          subst (OnIs (λ at behind. OnIs (λ kept last. IsOperand context.headers new.0 element kept) (value context scope new.1 behind))) (sym (itself after ops))
          (on-weaker Last (λ at behind. OnIs (λ kept last. IsOperand context.headers new.0 element kept) (value context scope new.1 behind)) (value context scope index.1 after) ops.1
          (λ at behind so. on-weaker (λ kept last. IsOperand context.headers new.0 element kept × Unit {0}) (λ kept last. IsOperand context.headers new.0 element kept) (value context scope new.1 behind) so.1.1 (λ kept last one. one.0)))

  pub element-done : (bound : ℕ) (kind : kinds.Element) (are : List Typed) (found : Plain) → element_effect world kind are ≡ Some found → AreOperands context n scope are → IsEffect context bound scope (element_written context.headers) are found.0 × EachInStm (IsBelow n) found.0
  element-done bound kind [] found e h = absurd (cc)
  element-done bound kind (array ∷ []) found e h = absurd (cc)
  element-done bound kind (array ∷ index ∷ []) found e h = absurd (cc)
  element-done bound kind (array ∷ index ∷ new ∷ []) found e h =
      let b = both-are (element_in kind array.0) (λ type. by_element type (stored_as world type array.0 new.0)) found e in
      by b.one b.then_is
    where
      by_element : JType → JType → Option Plain
      by_element type stored =
          if works_on kind type && (is_whole index.0 && (fits_in world array.0 (Array stored) && fits_in world new.0 stored))
          then Some (SetElement (dressed world false array.0 (Array stored) array.1) (as_int index.0 index.1) (dressed world true new.0 stored new.1), set_element)
          else None

      by : (type : JType) → by_element type (stored_as world type array.0 new.0) ≡ Some found → IsEffect context bound scope (element_written context.headers) (array ∷ index ∷ new ∷ []) found.0 × EachInStm (IsBelow n) found.0
      by type f =
          let stored = stored_as world type array.0 new.0 in
          let statement = SetElement (dressed world false array.0 (Array stored) array.1) (as_int index.0 index.1) (dressed world true new.0 stored new.1) in
          let fits = fits_in world array.0 (Array stored) && fits_in world new.0 stored in
          let m = made-if (works_on kind type && (is_whole index.0 && fits)) (Some (statement, set_element)) found f in
          let a = and_parts (works_on kind type) (is_whole index.0 && fits) m.0 in
          let b = and_parts (is_whole index.0) fits a.1 in
          let c = and_parts (fits_in world array.0 (Array stored)) (fits_in world new.0 stored) b.1 in
          let same : (statement, set_element) ≡ found = (let some = m.1 in cc) in
          subst (λ (one : Plain). IsEffect context bound scope (element_written context.headers) (array ∷ index ∷ new ∷ []) one.0 × EachInStm (IsBelow n) one.0) same (write-stands bound array index new stored b.0 c.0 c.1 h)
  element-done bound kind (array ∷ index ∷ new ∷ fourth ∷ rest) found e h = absurd (cc)

  -- ---- new arrays

  pub array-noded : (site : Site) (type : JType) (are : List Typed) (found : Typed) → array_node type are ≡ Some found → AreOperands context n scope are → IsNoded context n scope (array_made type) are found
  array-noded site type [] found e h = absurd (cc)
  array-noded site type (first ∷ rest) found e h =
      let are = first ∷ rest in
      let b = both-are (left_behind (length are) type) (λ more. and_then (sizes_of are) (λ sizes. Some (Of type, NewArray (innermost type) sizes more))) found e in
      let s = both-are (sizes_of are) (λ sizes. Some (Of type, NewArray (innermost type) sizes b.one)) found b.then_is in
      let same : (Of type, NewArray (innermost type) s.one b.one) ≡ found = (let some = s.then_is in cc) in
      let sizes = are-sizes context scope n are s.one s.is h in
      let again : array_of (count s.one + b.one) (innermost type) ≡ type = ap (λ many. array_of (many + b.one) (innermost type)) sizes.many ∙ array-again site n scope (length are) type b.one b.is in
      subst (IsNoded context n scope (array_made type) are) same (record {
        node = node-by context scope world may are (ints context scope are) (sizes.go world) (array_made type) (Of type) (NewArray (innermost type) s.one b.one)
            (λ state ops. array-value context scope (innermost type) type s.one b.one state again (sizes.sorted state ops)
            ∙ ap (λ run. bind run (λ all. outside context.headers (then_on (array_made type all) there))) (sizes.same state ops))
            (λ all k. array-made-kept context.headers type all);
        is = record { small = sizes.small; typed = ap (λ one. Some (Of one)) again };
      })
