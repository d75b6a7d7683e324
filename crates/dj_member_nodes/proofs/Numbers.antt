-- The expressions that stand for instructions on numbers keep the rules.
use Rattle.std.proofs.Common.{ℕ, ℤ, pos, negsuc, ◌+◌, ◌≡◌, Bool, true, false, ◌&&◌, ◌||◌, List, [], ◌∷◌, Option, Some, None, refl, sym, ap, ◌∙◌, subst, is_some}
use Rattle.std.specs.Prelude.{if◌then◌else◌}
use Rattle.dj_names.specs.Types as types
use Rattle.dj_names.specs.Types.{JType, Boolean, Byte, Char, Short, Float, Double, Class, Array, StaticType, Of}
use Rattle.dj_syntax.specs.declared.operator.Op.{Op}
use Rattle.dj_syntax.specs.declared.operator.Op.TheVariants as op
use Rattle.dj_syntax.specs.Trees.{Exp, Cast, Negative, Binary, Choice}
use Rattle.dj_syntax.specs.Trees as trees
use Rattle.dj_syntax.specs.Weight.{weight_of_exp}
use Rattle.dj_instructions.specs.declared.kinds.Kind.{Kind}
use Rattle.dj_instructions.specs.declared.kinds.Kind.TheVariants as kind
use Rattle.dj_instructions.specs.declared.kinds.Calc.{Calc}
use Rattle.dj_instructions.specs.declared.kinds.Calc.TheVariants as calc
use Rattle.dj_values.specs.Deciding.{is_type, is_some_and}
use Rattle.dj_meaning.specs.Promotions.{promoted, result_type}
use Rattle.dj_meaning.specs.StaticTypes.{Scope, plain, typed, type_of}
use Rattle.dj_places.specs.Rules.{Holds}
use Rattle.dj_typing.specs.Sites.{Site, context_of, may_name_type}
use Rattle.dj_typing.specs.Casting.{is_number, may_be, may_cast}
use Rattle.dj_typing.specs.Operands.{Numbers, Integers, Equals, Bits, Truths, Operands, is_of, is_boolean, is_integral, are_both, operands_of, takes, may_be_same, if_typed, if_both}
use Rattle.dj_typing.specs.Expressions.{is_condition, is_index, exp_types}
use Rattle.dj_rebuilding.specs.Pending.{Atom, Typed, declared_type}
use Rattle.dj_rebuilt.specs.Nodes.{is_whole, is_wide, as_int, int_node, long_node, shift_node, convert_node, cut_node, int_negative_node, long_negative_node, comparing, calc_nodes, int_nodes, long_nodes, convert_nodes, int_convert_nodes, long_convert_nodes}
use Rattle.dj_rebuilt.specs.Known.{atom_of, both_atoms, compare_node, compare_nodes}
use Rattle.dj_rebuilt.proofs.Arithmetic.{both-of, made}
use Rattle.dj_blocks_formed.specs.Ruled.{IsRuled, AreRuledOperands}
use Rattle.dj_blocks_formed.proofs.Stored.{Keeps}

-- an expression has the type of a number that is promoted to a type, and keeps the rules
pub record IsNumber (site : Site) (scope : Scope) (to : JType) (exp : Exp) : Type 0 where
  pub type : JType
  pub typed : type_of (context_of site) scope exp ≡ Some (Of type)
  pub goes : promoted type ≡ Some to
  pub keeps : Keeps site scope exp

-- an expression on numbers keeps the rules, and its type can be named
pub record IsOwn (site : Site) (scope : Scope) (found : Typed) : Type 0 where
  pub keeps : Keeps site scope found.1
  pub named : may_name_type site (declared_type found.0) ≡ true

module _ (site : Site) (scope : Scope) where
  pub whole-number : (from : StaticType) (exp : Exp) → is_whole from ≡ true → type_of (context_of site) scope exp ≡ Some from → Keeps site scope exp → IsNumber site scope types.Int (as_int from exp)
  whole-number types.Null exp e typed keeps = absurd (cc)
  whole-number (Of Boolean) exp e typed keeps = record { type = types.Int; typed = refl; goes = refl; keeps = λ place. (ap is_condition typed, (refl, (keeps (place + 1), (tt, tt)))) }
  whole-number (Of Byte) exp e typed keeps = record { type = Byte; typed = typed; goes = refl; keeps = keeps }
  whole-number (Of Char) exp e typed keeps = record { type = Char; typed = typed; goes = refl; keeps = keeps }
  whole-number (Of Short) exp e typed keeps = record { type = Short; typed = typed; goes = refl; keeps = keeps }
  whole-number (Of types.Int) exp e typed keeps = record { type = types.Int; typed = typed; goes = refl; keeps = keeps }
  whole-number (Of types.Long) exp e typed keeps = absurd (cc)
  whole-number (Of Float) exp e typed keeps = absurd (cc)
  whole-number (Of Double) exp e typed keeps = absurd (cc)
  whole-number (Of (Class name)) exp e typed keeps = absurd (cc)
  whole-number (Of (Array element)) exp e typed keeps = absurd (cc)

  pub wide-number : (from : StaticType) (exp : Exp) → is_wide from ≡ true → type_of (context_of site) scope exp ≡ Some from → Keeps site scope exp → IsNumber site scope types.Long exp
  wide-number types.Null exp e typed keeps = absurd (cc)
  wide-number (Of Boolean) exp e typed keeps = absurd (cc)
  wide-number (Of Byte) exp e typed keeps = absurd (cc)
  wide-number (Of Char) exp e typed keeps = absurd (cc)
  wide-number (Of Short) exp e typed keeps = absurd (cc)
  wide-number (Of types.Int) exp e typed keeps = absurd (cc)
  wide-number (Of types.Long) exp e typed keeps = record { type = types.Long; typed = typed; goes = refl; keeps = keeps }
  wide-number (Of Float) exp e typed keeps = absurd (cc)
  wide-number (Of Double) exp e typed keeps = absurd (cc)
  wide-number (Of (Class name)) exp e typed keeps = absurd (cc)
  wide-number (Of (Array element)) exp e typed keeps = absurd (cc)

  whole-ruled : (n : ℕ) (one : Typed) → is_whole one.0 ≡ true → IsRuled site n scope one.0 one.1 → IsNumber site scope types.Int (as_int one.0 one.1)
  whole-ruled n one e is = whole-number one.0 one.1 e is.entry.typed is.keeps

  wide-ruled : (n : ℕ) (one : Typed) → is_wide one.0 ≡ true → IsRuled site n scope one.0 one.1 → IsNumber site scope types.Long one.1
  wide-ruled n one e is = wide-number one.0 one.1 e is.entry.typed is.keeps

  -- an index, or a size
  pub number-indexes : (exp : Exp) → IsNumber site scope types.Int exp → is_index (type_of (context_of site) scope exp) ≡ true
  number-indexes exp is = ap is_index is.typed ∙ ap (λ found. is_some_and found (λ number. is_type number types.Int)) is.goes

  -- ---- operators

  is-number : (type to : JType) → promoted type ≡ Some to → is_number type ≡ true
  is-number type to e = ap is_some e

  is-integral : (type to : JType) → promoted type ≡ Some to → (is_type to types.Int || is_type to types.Long) ≡ true → is_integral type ≡ true
  is-integral type to e is = ap (λ found. is_some_and found (λ number. is_type number types.Int || is_type number types.Long)) e ∙ is

  both : (first second : Bool) → first ≡ true → second ≡ true → (first && second) ≡ true
  both true second e f = f
  both false second e f = absurd (cc)

  first-of : (first second : Bool) → first ≡ true → (first || second) ≡ true
  first-of true second e = refl
  first-of false second e = absurd (cc)

  -- operators on numbers take numbers
  abbrev AreIntegral : JType → Type 0
  AreIntegral to = (is_type to types.Int || is_type to types.Long) ≡ true

  abbrev on_numbers : Operands → Bool
  on_numbers Numbers = true
  on_numbers Integers = true
  on_numbers Equals = true
  on_numbers Bits = true
  on_numbers Truths = false

  number-takes : (how : Operands) → on_numbers how ≡ true → (first second to too : JType) → promoted first ≡ Some to → promoted second ≡ Some too → AreIntegral to → AreIntegral too → takes site.headers how (Of first) (Of second) ≡ true
  number-takes Numbers on first second to too p q i j = both (is_number first) (is_number second) (is-number first to p) (is-number second too q)
  number-takes Integers on first second to too p q i j = both (is_integral first) (is_integral second) (is-integral first to p i) (is-integral second too q j)
  number-takes Equals on first second to too p q i j =
      first-of (are_both is_number (Of first) (Of second) || are_both is_boolean (Of first) (Of second)) (may_be_same site.headers (Of first) (Of second))
      (first-of (are_both is_number (Of first) (Of second)) (are_both is_boolean (Of first) (Of second)) (both (is_number first) (is_number second) (is-number first to p) (is-number second too q)))
  number-takes Bits on first second to too p q i j =
      first-of (are_both is_integral (Of first) (Of second)) (are_both is_boolean (Of first) (Of second)) (both (is_integral first) (is_integral second) (is-integral first to p i) (is-integral second too q j))
  number-takes Truths on first second to too p q i j = absurd (cc)

  pub binary-keeps : (operator : Op) → on_numbers (operands_of operator) ≡ true → (left right : Exp) (to too : JType) → IsNumber site scope to left → IsNumber site scope too right → AreIntegral to → AreIntegral too → Keeps site scope (Binary operator left right)
  binary-keeps operator on left right to too l r i j place = (
    ap (λ found. if_both found (type_of (context_of site) scope right) (takes site.headers (operands_of operator))) l.typed
        ∙ ap (λ found. if_both (Some (Of l.type)) found (takes site.headers (operands_of operator))) r.typed ∙ number-takes (operands_of operator) on l.type r.type to too l.goes r.goes i j,
    (l.keeps (place + 1), r.keeps (place + 1 + weight_of_exp left)),
  )

  -- ---- nodes

  found-keeps : (one found : Typed) → one ≡ found → may_name_type site (declared_type one.0) ≡ true → Keeps site scope one.1 → IsOwn site scope found
  found-keeps one found e named keeps = subst (IsOwn site scope) e (record { keeps = keeps; named = named })

  int-keeps : (n : ℕ) (operator : Op) → on_numbers (operands_of operator) ≡ true → (are : List Typed) (found : Typed) → int_node operator are ≡ Some found → AreRuledOperands site n scope are → IsOwn site scope found
  int-keeps n operator on [] found e h = absurd (cc)
  int-keeps n operator on (first ∷ []) found e h = absurd (cc)
  int-keeps n operator on (first ∷ second ∷ []) found e h =
      let m = made (is_whole first.0 && is_whole second.0) (Of types.Int, Binary operator (as_int first.0 first.1) (as_int second.0 second.1)) found e in
      let w = both-of (is_whole first.0) (is_whole second.0) m.0 in
      found-keeps (Of types.Int, Binary operator (as_int first.0 first.1) (as_int second.0 second.1)) found m.1 refl
      (binary-keeps operator on (as_int first.0 first.1) (as_int second.0 second.1) types.Int types.Int (whole-ruled n first w.0 h.0) (whole-ruled n second w.1 h.1.0) refl refl)
  int-keeps n operator on (first ∷ second ∷ third ∷ rest) found e h = absurd (cc)

  long-keeps : (n : ℕ) (operator : Op) → on_numbers (operands_of operator) ≡ true → (are : List Typed) (found : Typed) → long_node operator are ≡ Some found → AreRuledOperands site n scope are → IsOwn site scope found
  long-keeps n operator on [] found e h = absurd (cc)
  long-keeps n operator on (first ∷ []) found e h = absurd (cc)
  long-keeps n operator on (first ∷ second ∷ []) found e h =
      let m = made (is_wide first.0 && is_wide second.0) (Of types.Long, Binary operator first.1 second.1) found e in
      let w = both-of (is_wide first.0) (is_wide second.0) m.0 in
      found-keeps (Of types.Long, Binary operator first.1 second.1) found m.1 refl (binary-keeps operator on first.1 second.1 types.Long types.Long (wide-ruled n first w.0 h.0) (wide-ruled n second w.1 h.1.0) refl refl)
  long-keeps n operator on (first ∷ second ∷ third ∷ rest) found e h = absurd (cc)

  shift-keeps : (n : ℕ) (operator : Op) → on_numbers (operands_of operator) ≡ true → (are : List Typed) (found : Typed) → shift_node operator are ≡ Some found → AreRuledOperands site n scope are → IsOwn site scope found
  shift-keeps n operator on [] found e h = absurd (cc)
  shift-keeps n operator on (first ∷ []) found e h = absurd (cc)
  shift-keeps n operator on (first ∷ second ∷ []) found e h =
      let m = made (is_wide first.0 && is_whole second.0) (Of types.Long, Binary operator first.1 (as_int second.0 second.1)) found e in
      let w = both-of (is_wide first.0) (is_whole second.0) m.0 in
      found-keeps (Of types.Long, Binary operator first.1 (as_int second.0 second.1)) found m.1 refl (binary-keeps operator on first.1 (as_int second.0 second.1) types.Long types.Int (wide-ruled n first w.0 h.0) (whole-ruled n second w.1 h.1.0) refl refl)
  shift-keeps n operator on (first ∷ second ∷ third ∷ rest) found e h = absurd (cc)

  -- a conversion between numbers
  cast-number : (from to : JType) (exp : Exp) → is_number to ≡ true → IsNumber site scope from exp → if_typed (type_of (context_of site) scope exp) (λ type. may_cast site.headers type to) ≡ true
  cast-number from to exp number is =
      ap (λ found. if_typed found (λ type. may_cast site.headers type to)) is.typed ∙ first-of (is_number is.type && is_number to) (may_be site.headers is.type to) (both (is_number is.type) (is_number to) (is-number is.type from is.goes) number)

  negative-keeps : (to : JType) (exp : Exp) → IsNumber site scope to exp → Keeps site scope (Negative exp)
  negative-keeps to exp is place = (ap (λ found. if_typed found (is_of is_number)) is.typed ∙ is-number is.type to is.goes, is.keeps (place + 1))

  int-negative-keeps : (n : ℕ) (are : List Typed) (found : Typed) → int_negative_node are ≡ Some found → AreRuledOperands site n scope are → IsOwn site scope found
  int-negative-keeps n [] found e h = absurd (cc)
  int-negative-keeps n (first ∷ []) found e h =
      let m = made (is_whole first.0) (Of types.Int, Negative (as_int first.0 first.1)) found e in
      found-keeps (Of types.Int, Negative (as_int first.0 first.1)) found m.1 refl (negative-keeps types.Int (as_int first.0 first.1) (whole-ruled n first m.0 h.0))
  int-negative-keeps n (first ∷ second ∷ rest) found e h = absurd (cc)

  long-negative-keeps : (n : ℕ) (are : List Typed) (found : Typed) → long_negative_node are ≡ Some found → AreRuledOperands site n scope are → IsOwn site scope found
  long-negative-keeps n [] found e h = absurd (cc)
  long-negative-keeps n (first ∷ []) found e h =
      let m = made (is_wide first.0) (Of types.Long, Negative first.1) found e in
      found-keeps (Of types.Long, Negative first.1) found m.1 refl (negative-keeps types.Long first.1 (wide-ruled n first m.0 h.0))
  long-negative-keeps n (first ∷ second ∷ rest) found e h = absurd (cc)

  ints-keep : (n : ℕ) (operation : Calc) (are : List Typed) (found : Typed) → int_nodes operation are ≡ Some found → AreRuledOperands site n scope are → IsOwn site scope found
  ints-keep n calc.Add are found e h = int-keeps n op.Add refl are found e h
  ints-keep n calc.Sub are found e h = int-keeps n op.Sub refl are found e h
  ints-keep n calc.Mul are found e h = int-keeps n op.Mul refl are found e h
  ints-keep n calc.Div are found e h = int-keeps n op.Div refl are found e h
  ints-keep n calc.Rem are found e h = int-keeps n op.Rem refl are found e h
  ints-keep n calc.Neg are found e h = int-negative-keeps n are found e h
  ints-keep n calc.Shl are found e h = int-keeps n op.Shl refl are found e h
  ints-keep n calc.Shr are found e h = int-keeps n op.Shr refl are found e h
  ints-keep n calc.Ushr are found e h = int-keeps n op.Ushr refl are found e h
  ints-keep n calc.And are found e h = int-keeps n op.And refl are found e h
  ints-keep n calc.Or are found e h = int-keeps n op.Or refl are found e h
  ints-keep n calc.Xor are found e h = int-keeps n op.Xor refl are found e h

  longs-keep : (n : ℕ) (operation : Calc) (are : List Typed) (found : Typed) → long_nodes operation are ≡ Some found → AreRuledOperands site n scope are → IsOwn site scope found
  longs-keep n calc.Add are found e h = long-keeps n op.Add refl are found e h
  longs-keep n calc.Sub are found e h = long-keeps n op.Sub refl are found e h
  longs-keep n calc.Mul are found e h = long-keeps n op.Mul refl are found e h
  longs-keep n calc.Div are found e h = long-keeps n op.Div refl are found e h
  longs-keep n calc.Rem are found e h = long-keeps n op.Rem refl are found e h
  longs-keep n calc.Neg are found e h = long-negative-keeps n are found e h
  longs-keep n calc.Shl are found e h = shift-keeps n op.Shl refl are found e h
  longs-keep n calc.Shr are found e h = shift-keeps n op.Shr refl are found e h
  longs-keep n calc.Ushr are found e h = shift-keeps n op.Ushr refl are found e h
  longs-keep n calc.And are found e h = long-keeps n op.And refl are found e h
  longs-keep n calc.Or are found e h = long-keeps n op.Or refl are found e h
  longs-keep n calc.Xor are found e h = long-keeps n op.Xor refl are found e h

  pub calc-keeps : (n : ℕ) (operation : Calc) (of : Kind) (are : List Typed) (found : Typed) → calc_nodes operation of are ≡ Some found → AreRuledOperands site n scope are → IsOwn site scope found
  calc-keeps n operation kind.Int are found e h = ints-keep n operation are found e h
  calc-keeps n operation kind.Long are found e h = longs-keep n operation are found e h
  calc-keeps n operation kind.Float are found e h = absurd (cc)
  calc-keeps n operation kind.Double are found e h = absurd (cc)
  calc-keeps n operation kind.Ref are found e h = absurd (cc)

  convert-keeps : (n : ℕ) (to : JType) → is_number to ≡ true → may_name_type site to ≡ true → (are : List Typed) (found : Typed) → convert_node to are ≡ Some found → AreRuledOperands site n scope are → IsOwn site scope found
  convert-keeps n to number named [] found e h = absurd (cc)
  convert-keeps n to number named (first ∷ []) found e h =
      let m = made (is_whole first.0) (Of to, Cast to (as_int first.0 first.1)) found e in
      let is = whole-ruled n first m.0 h.0 in
      found-keeps (Of to, Cast to (as_int first.0 first.1)) found m.1 named (λ place. (named, (cast-number types.Int to (as_int first.0 first.1) number is, is.keeps (place + 1))))
  convert-keeps n to number named (first ∷ second ∷ rest) found e h = absurd (cc)

  cut-keeps : (n : ℕ) (are : List Typed) (found : Typed) → cut_node are ≡ Some found → AreRuledOperands site n scope are → IsOwn site scope found
  cut-keeps n [] found e h = absurd (cc)
  cut-keeps n (first ∷ []) found e h =
      let m = made (is_wide first.0) (Of types.Int, Cast types.Int first.1) found e in
      let is = wide-ruled n first m.0 h.0 in
      found-keeps (Of types.Int, Cast types.Int first.1) found m.1 refl (λ place. (refl, (cast-number types.Long types.Int first.1 refl is, is.keeps (place + 1))))
  cut-keeps n (first ∷ second ∷ rest) found e h = absurd (cc)

  int-converts-keep : (n : ℕ) (to : JType) (are : List Typed) (found : Typed) → int_convert_nodes to are ≡ Some found → AreRuledOperands site n scope are → IsOwn site scope found
  int-converts-keep n Boolean are found e h = absurd (cc)
  int-converts-keep n Byte are found e h = convert-keeps n Byte refl refl are found e h
  int-converts-keep n Char are found e h = convert-keeps n Char refl refl are found e h
  int-converts-keep n Short are found e h = convert-keeps n Short refl refl are found e h
  int-converts-keep n types.Int are found e h = absurd (cc)
  int-converts-keep n types.Long are found e h = convert-keeps n types.Long refl refl are found e h
  int-converts-keep n Float are found e h = absurd (cc)
  int-converts-keep n Double are found e h = absurd (cc)
  int-converts-keep n (Class name) are found e h = absurd (cc)
  int-converts-keep n (Array element) are found e h = absurd (cc)

  long-converts-keep : (n : ℕ) (to : JType) (are : List Typed) (found : Typed) → long_convert_nodes to are ≡ Some found → AreRuledOperands site n scope are → IsOwn site scope found
  long-converts-keep n Boolean are found e h = absurd (cc)
  long-converts-keep n Byte are found e h = absurd (cc)
  long-converts-keep n Char are found e h = absurd (cc)
  long-converts-keep n Short are found e h = absurd (cc)
  long-converts-keep n types.Int are found e h = cut-keeps n are found e h
  long-converts-keep n types.Long are found e h = absurd (cc)
  long-converts-keep n Float are found e h = absurd (cc)
  long-converts-keep n Double are found e h = absurd (cc)
  long-converts-keep n (Class name) are found e h = absurd (cc)
  long-converts-keep n (Array element) are found e h = absurd (cc)

  pub converts-keep : (n : ℕ) (from : Kind) (to : JType) (are : List Typed) (found : Typed) → convert_nodes from to are ≡ Some found → AreRuledOperands site n scope are → IsOwn site scope found
  converts-keep n kind.Int to are found e h = int-converts-keep n to are found e h
  converts-keep n kind.Long to are found e h = long-converts-keep n to are found e h
  converts-keep n kind.Float to are found e h = absurd (cc)
  converts-keep n kind.Double to are found e h = absurd (cc)
  converts-keep n kind.Ref to are found e h = absurd (cc)

  comparing-keeps : (first second : Exp) → IsNumber site scope types.Long first → IsNumber site scope types.Long second → Keeps site scope (comparing first second)
  comparing-keeps first second l r place =
      let less = binary-keeps op.Lt refl first second types.Long types.Long l r refl refl in
      let same = binary-keeps op.Eq refl first second types.Long types.Long l r refl refl in
      (refl, (refl, (less (place + 1), (tt, (refl, (refl, (same _, (tt, tt))))))))

  compare-keeps : (n : ℕ) (are : List Typed) (found : Typed) → compare_node are ≡ Some found → AreRuledOperands site n scope are → IsOwn site scope found
  compare-keeps n [] found e h = absurd (cc)
  compare-keeps n (first ∷ []) found e h = absurd (cc)
  compare-keeps n (first ∷ second ∷ []) found e h = by (atom_of first.1) (atom_of second.1) e
    where
      by : (one other : Option Atom) → both_atoms first second one other ≡ Some found → IsOwn site scope found
      by None other f = absurd (cc)
      by (Some one) None f = absurd (cc)
      by (Some one) (Some other) f =
          let m = made (is_wide first.0 && is_wide second.0) (Of types.Int, comparing first.1 second.1) found f in
          let w = both-of (is_wide first.0) (is_wide second.0) m.0 in
          found-keeps (Of types.Int, comparing first.1 second.1) found m.1 refl (comparing-keeps first.1 second.1 (wide-ruled n first w.0 h.0) (wide-ruled n second w.1 h.1.0))
  compare-keeps n (first ∷ second ∷ third ∷ rest) found e h = absurd (cc)

  pub compares-keep : (n : ℕ) (of : Kind) (are : List Typed) (found : Typed) → compare_nodes of are ≡ Some found → AreRuledOperands site n scope are → IsOwn site scope found
  compares-keep n kind.Int are found e h = absurd (cc)
  compares-keep n kind.Long are found e h = compare-keeps n are found e h
  compares-keep n kind.Float are found e h = absurd (cc)
  compares-keep n kind.Double are found e h = absurd (cc)
  compares-keep n kind.Ref are found e h = absurd (cc)
