-- Each instruction leads on from a state that the frame before it describes.
use Rattle.std.proofs.Common.{◌≡◌, ℕ, ℤ, pos, zero, suc, ◌+◌, Bool, true, false, not, List, [], ◌∷◌, ◌++◌, length, map, replicate, drop, All, Contains, codes, Option, Some, None, option_map, IsSome, inl, inr, refl, sym, subst, arith}
use Rattle.std.specs.Prelude.{if◌then◌else◌, slice_get, int_le, unsigned_abs, ◌-ℤ◌}
use Rattle.std.specs.Option.{option_and_then}
use Rattle.std.specs.Int.{w32, w64, int_wrap, int_wrapping_neg}
use Rattle.std.specs.Ordering.{int_eq}
use Rattle.std.proofs.lemmas.Bool.{false≢true}
use Rattle.std.proofs.lemmas.List.{length-replicate}
use Rattle.std.proofs.lemmas.List.Elements.{All-head, All-tail, All-cons}
use Rattle.dj_names.specs.declared.header.Header.{Header}
use Rattle.dj_names.specs.Types as types
use Rattle.dj_names.specs.Types.{JType, Boolean, Byte, Char, Short, Float, Double, Class, Array, Descriptor, parameters_of, result_of}
use Rattle.dj_names.specs.MethodNames.{is_constructor}
use Rattle.dj_names.specs.Assignable.{object_name}
use Rattle.dj_names.specs.declared.members.Constant.{Constant}
use Rattle.dj_names.specs.declared.members.Constant.TheVariants as constant
use Rattle.dj_values.specs.Values.{RefValue, Value, Int, Long, Null, Ref, InvokeKind, Virtual, Interface, Special, ClassConstant, New as NewAction}
use Rattle.dj_values.specs.Outcomes.{Reply, Gives, ask}
use Rattle.dj_instructions.specs.declared.kinds.Kind.{Kind}
use Rattle.dj_instructions.specs.declared.kinds.Kind.TheVariants as kind
use Rattle.dj_instructions.specs.declared.kinds.Calc.{Calc}
use Rattle.dj_instructions.specs.declared.kinds.Calc.TheVariants as calc
use Rattle.dj_instructions.specs.declared.kinds.Element.{Element}
use Rattle.dj_instructions.specs.declared.kinds.Element.TheVariants as element
use Rattle.dj_instructions.specs.Instructions.{Instruction, Instructions, FieldRef, MethodRef}
use Rattle.dj_instructions.specs.Instructions as op
use Rattle.dj_frames.specs.Frames as tag
use Rattle.dj_frames.specs.Frames.{Tag, tag_of, is_unborn_this, is_unborn_at}
use Rattle.dj_code.specs.MethodCode.{Code}
use Rattle.dj_code.specs.Targets.{targets_of}
use Rattle.dj_tags.specs.Goes.{Assignability, Working}
use Rattle.dj_effects.specs.Works.{Want, Of, Reference, AnyArray, ByteArray, Work, Plain, Bears, Elements, Sets, Supers, Leaves, Never}
use Rattle.dj_effects.specs.Works as works
use Rattle.dj_effects.specs.Spelled.{is_spelled, is_kind}
use Rattle.dj_effects.specs.Rows.{kind_of, birth, super_call, leave, row, work}
use Rattle.dj_effects.specs.Rows as rows
use Rattle.dj_effects.specs.Operands.{HasOperands, HasKind, AreWanted, there, HasElement, element_tag, CanBeBorn, CanSet, born as is_born, unborn as is_unborn, under}
use Rattle.dj_effects.specs.Effects.{or_top, effect, borne, instead}
use Rattle.dj_bytecode.specs.Operands.{with_one, with_two, with_int, with_reference, of_kind, narrowed, fitted}
use Rattle.dj_bytecode.specs.Calculations.{calculated, long_calculated, on_int, on_long, on_ints, on_longs, on_long_and_int, compared, holds, led, in_table, in_cases, target_at}
use Rattle.dj_bytecode.specs.Objects.{static_read, static_written, field_read, field_written, element_read, element_written, length_read, array_made, special_owner, static_called, object_called, cast_to, is_of, truth, is_same_reference, text_reference, thrown_out, entered, left}
use Rattle.dj_bytecode.specs.Meanings.{Strict, Leads, meaning_of, constant_pushed, returned_nothing, returned_value, return_of, calculation, conversion, comparison, arguments_of}
use Rattle.dj_verify.specs.Rules.{falls}
use Rattle.dj_typed_states.specs.Shapes.{HasShape}
use Rattle.dj_typed_states.specs.Facts.{Facts, AreKept}
use Rattle.dj_typed_states.specs.Held.{IsHeld, int, long, null, AllAre, none, more, AreLocals}
use Rattle.dj_typed_states.specs.Wanted.{IsAnyReference, IsMeant, Meets, met, top}
use Rattle.dj_typed_states.proofs.Replies.{Replies, replies-then, replies-trap}
use Rattle.dj_typed_states.proofs.Holding.{object_reference, this_reference, reference_held, wanted_meant}
use Rattle.dj_typed_states.proofs.Taking.{meets, meets_more, onto, onto_call, onto_arguments, arguments_many, IsGiven}
use Rattle.dj_typed_states.proofs.Slots.{born_this, born_at, lost_locals, changed_locals, changed_stack}
use Rattle.dj_typed_states.proofs.Operations.{Any, no_float, no_double, int_replies, reference_replies, kind_replies, fitted_replies, static_read_replies, static_written_replies, field_read_replies, field_written_replies, element_read_replies, element_written_replies, plain_storable, reference_storable, length_read_replies, onto_ints, replicated_ints, array_made_replies, static_called_replies, object_called_replies, class_replies, text_given, new_replies, cast_replies, instance_replies, thrown_replies, entered_replies, left_replies, int_given, ints_given, longs_given, shift_given, long_given, calculated_replies, long_calculated_replies}
use Rattle.dj_typed_states.proofs.Stepping.{Site, Ready, CanLead, Steps, does, Does, strict_steps, plain_steps, plain_none, plain_one, plain_two, plain_three, moves_steps, loads_steps, stores_steps, counts_steps, jump_steps, returns_steps, throws_steps}

-- no value is wanted of a kind that none has
no_wanted : {Goes : Assignability} {headers : List Header} {code : Code} {facts : Facts} (kept : AreKept Goes headers code facts) (wanted : Tag) {wants : List Want} {tags : List Tag} {stack : List Value} → ((value : Value) → IsHeld facts wanted value → ⊥) → AreWanted Goes (Of wanted ∷ wants) tags → AllAre (IsHeld facts) tags stack → ⊥
no_wanted kept wanted never (there {top = found} is rest) (more {other = value} held are) = never value (wanted_meant kept (Of wanted) found is held)

same_kind : (first second : Kind) → is_kind first second ≡ true → first ≡ second
same_kind kind.Int kind.Int is = refl
same_kind kind.Long kind.Long is = refl
same_kind kind.Float kind.Float is = refl
same_kind kind.Double kind.Double is = refl
same_kind kind.Ref kind.Ref is = refl
same_kind first second is = absurd (false≢true is)

tag_has_kind : (type : JType) → HasKind (kind_of type) (tag_of type)
tag_has_kind Boolean = refl
tag_has_kind type = refl

-- what lies below what is wanted, with its tags changed
meets_changed : {facts : Facts} (change : Tag → Tag) (top_stays : change tag.Top ≡ tag.Top) → ((held : Tag) (value : Value) → IsHeld facts held value → IsHeld facts (change held) value) → {wants : List Want} {tags : List Tag} {stack : List Value} → Meets facts wants tags stack → Meets facts wants (map change tags) stack
meets_changed change top_stays f (met are) = met (changed_stack change top_stays f are)
meets_changed change top_stays f (top is rest) = top is (meets_changed change top_stays f rest)

-- ---- operations on operands, by headers

module _ {Goes : Assignability} {headers : List Header} {code : Code} {facts : Facts} (kept : AreKept Goes headers code facts) where
  -- a wanted receiver is a reference
  any_receiver : (type : JType) (value : Value) → IsMeant facts (Of (tag.Object type)) value → IsAnyReference value
  any_receiver type value held = object_reference kept held

  any_unborn : (value : Value) → IsMeant facts (Of tag.UnbornThis) value → IsAnyReference value
  any_unborn value held = this_reference kept held

  byte_read : {array index : Value} → IsMeant facts ByteArray array → IsHeld facts tag.Int index → Replies facts headers (IsGiven facts (Some tag.Int)) (element_read (array ∷ index ∷ []))
  byte_read (inl held) place = element_read_replies kept Boolean held place
  byte_read (inr held) place = element_read_replies kept Byte held place

  byte_written : {array index value : Value} → IsMeant facts ByteArray array → IsHeld facts tag.Int index → IsHeld facts tag.Int value → Replies facts headers (IsGiven facts None) (element_written headers (array ∷ index ∷ value ∷ []))
  byte_written {value = value} (inl held) place stored = element_written_replies kept Boolean value (plain_storable kept Boolean value (λ found shape. shape) stored) held place
  byte_written {value = value} (inr held) place stored = element_written_replies kept Byte value (plain_storable kept Byte value (λ found shape. shape) stored) held place

  -- operands of a call on an object
  object_operands : (kind : InvokeKind) (owner : JType) (method : MethodRef) (receiver : Want) → ((value : Value) → IsMeant facts receiver value → IsAnyReference value) → (operands : List Value) → AllAre (IsMeant facts) (onto (rows.arguments (parameters_of method.descriptor) ++ receiver ∷ []) []) operands
      → Replies facts headers (IsGiven facts (option_map tag_of (result_of method.descriptor))) (object_called kind owner method operands)
  object_operands kind owner method receiver f operands are =
      object_called_replies kept kind owner method receiver f (subst (λ wants. AllAre (IsMeant facts) wants operands) (onto_call (map (λ type. Of (tag_of type)) (parameters_of method.descriptor)) receiver) are)

-- as many operands as a call on an object takes
one_more : (method : MethodRef) (receiver : Want) → arguments_of method.descriptor + 1 ≡ length (rows.arguments (parameters_of method.descriptor) ++ receiver ∷ [])
one_more method receiver = arguments_many (λ type. Of (tag_of type)) (parameters_of method.descriptor) (receiver ∷ [])

-- a reply leads on from a site
abbrev LeadsFrom : Site → Reply (Option ℕ) → Type 0
LeadsFrom site reply = Replies site.facts site.headers (CanLead site) reply

led_replies : (site : Site) (test : Bool) (target : ℕ) → site.falls ≡ true → site.Target target → LeadsFrom site (led test target)
led_replies site true target is leads = leads
led_replies site false target is leads = is

module _ (Target : ℕ → Type 0) where
  -- the targets of switches are among theirs
  table_leads : (targets : List ℕ) (other place : ℕ) → All Target (other ∷ targets) → Target (target_at (slice_get targets place) other)
  table_leads [] other place all = All-head Target other [] all
  table_leads (first ∷ targets) other zero all = All-head Target first targets (All-tail Target other (first ∷ targets) all)
  table_leads (first ∷ targets) other (suc place) all =
      table_leads targets other place (All-cons Target other targets (All-head Target other (first ∷ targets) all) (All-tail Target first targets (All-tail Target other (first ∷ targets) all)))

  in_table_leads : (low : ℤ) (targets : List ℕ) (other : ℕ) (number : ℤ) → All Target (other ∷ targets) → Target (in_table low targets other number)
  in_table_leads low targets other number all = go (int_le low number)
    where
      go : (test : Bool) → Target (if test then target_at (slice_get targets (unsigned_abs (number -ℤ low))) other else other)
      go true = table_leads targets other (unsigned_abs (number -ℤ low)) all
      go false = All-head Target other targets all

  in_cases_leads : (cases : List (ℤ × ℕ)) (other : ℕ) (number : ℤ) → Target other → All Target (map (λ x. x.1) cases) → Target (in_cases cases other number)
  in_cases_leads [] other number leads all = leads
  in_cases_leads (case ∷ cases) other number leads all = go (int_eq case.0 number) (in_cases_leads cases other number leads (All-tail Target case.1 (map (λ x. x.1) cases) all))
    where
      go : (test : Bool) → Target (in_cases cases other number) → Target (if test then case.1 else in_cases cases other number)
      go true later = All-head Target case.1 (map (λ x. x.1) cases) all
      go false later = later

-- ---- returns

module _ (site : Site) where
  nothing_returned : (result : Option JType) → HasOperands site.Goes site.world site.code site.pc (leave result None) site.frame → Replies site.facts site.headers Any (returned_nothing result site.stack)
  nothing_returned None has = tt
  nothing_returned (Some type) has = absurd has

  value_returned : (of : Kind) (kept : AreKept site.Goes site.headers site.code site.facts) (result : Option JType) (tags : List Tag) {values : List Value} → HasOperands site.Goes site.world site.code site.pc (leave result (Some of)) (record { locals = site.frame.locals; stack = tags; unborn_this = site.frame.unborn_this }) → AllAre (IsHeld site.facts) tags values → Replies site.facts site.headers Any (returned_value of result values)
  value_returned of kept None tags has are = absurd has
  value_returned of kept (Some type) tags {values} has are = by (is_kind (kind_of type) of) refl has
    where
      top_returned : {tags : List Tag} {values : List Value} → HasKind of (tag_of type) → AreWanted site.Goes (Of (tag_of type) ∷ []) tags → AllAre (IsHeld site.facts) tags values → Replies site.facts site.headers Any (returned_value of (Some type) values)
      top_returned kind_is (there {top = found} wanted others) (more {other = value} held are) =
          let meant : IsHeld site.facts (tag_of type) value = wanted_meant kept (Of (tag_of type)) found wanted held in
          replies-then site.facts site.headers (λ given. IsHeld site.facts (tag_of type) given) Any (of_kind of value) _ (kind_replies kept of (tag_of type) kind_is meant)
          (λ given is. replies-then site.facts site.headers Any Any (fitted type given) _ (fitted_replies kept type is) (λ kept any. tt))

      by : (same : Bool) → is_kind (kind_of type) of ≡ same → HasOperands site.Goes site.world site.code site.pc (if same then Plain (Of (tag_of type) ∷ []) None else Never) (record { locals = site.frame.locals; stack = tags; unborn_this = site.frame.unborn_this }) → Replies site.facts site.headers Any (returned_value of (Some type) values)
      by true same has = top_returned (subst (λ k. HasKind k (tag_of type)) (same_kind (kind_of type) of same) (tag_has_kind type)) has are
      by false same has = absurd has

-- ---- instructions

module _ {site : Site} where
  float_never : {wants : List Want} {gives : Option Tag} → Ready site (Plain (Of tag.Float ∷ wants) gives) → ⊥
  float_never r = no_wanted r.kept tag.Float (λ value held. no_float held) r.operands r.describes.on_stack

  double_never : {wants : List Want} {gives : Option Tag} → Ready site (Plain (Of tag.Double ∷ wants) gives) → ⊥
  double_never r = no_wanted r.kept tag.Double (λ value held. no_double held) r.operands r.describes.on_stack

  -- ---- arithmetic

  int_binary : (operation : Calc) → site.falls ≡ true → (operation ≡ calc.Neg → ⊥) → (r : Ready site (Plain (Of tag.Int ∷ Of tag.Int ∷ []) (Some tag.Int))) → Does site (Plain (Of tag.Int ∷ Of tag.Int ∷ []) (Some tag.Int)) (Strict 2 (on_ints (calculated w32 operation)))
  int_binary operation is two r =
      plain_two (Of tag.Int) (Of tag.Int) (Some tag.Int) (on_ints (calculated w32 operation)) is r (λ first second left right. ints_given r.kept (calculated w32 operation) (calculated_replies r.kept w32 operation two) left right)

  int_calculation_steps : (operation : Calc) → site.falls ≡ true → (r : Ready site (row site.code (op.Calc operation kind.Int))) → Does site (row site.code (op.Calc operation kind.Int)) (calculation operation kind.Int)
  int_calculation_steps calc.Add is r = int_binary calc.Add is (λ e. cc) r
  int_calculation_steps calc.Sub is r = int_binary calc.Sub is (λ e. cc) r
  int_calculation_steps calc.Mul is r = int_binary calc.Mul is (λ e. cc) r
  int_calculation_steps calc.Div is r = int_binary calc.Div is (λ e. cc) r
  int_calculation_steps calc.Rem is r = int_binary calc.Rem is (λ e. cc) r
  int_calculation_steps calc.Neg is r = plain_one (Of tag.Int) (Some tag.Int) (on_int (λ number. Gives (Int (int_wrapping_neg w32 number)))) is r (λ value held. int_given r.kept tag.Int (λ number. Gives (Int (int_wrapping_neg w32 number))) (λ number. int) held)
  int_calculation_steps calc.Shl is r = int_binary calc.Shl is (λ e. cc) r
  int_calculation_steps calc.Shr is r = int_binary calc.Shr is (λ e. cc) r
  int_calculation_steps calc.Ushr is r = int_binary calc.Ushr is (λ e. cc) r
  int_calculation_steps calc.And is r = int_binary calc.And is (λ e. cc) r
  int_calculation_steps calc.Or is r = int_binary calc.Or is (λ e. cc) r
  int_calculation_steps calc.Xor is r = int_binary calc.Xor is (λ e. cc) r

  long_binary : (operation : Calc) → site.falls ≡ true → (operation ≡ calc.Neg → ⊥) → (r : Ready site (Plain (Of tag.Long ∷ Of tag.Long ∷ []) (Some tag.Long))) → Does site (Plain (Of tag.Long ∷ Of tag.Long ∷ []) (Some tag.Long)) (Strict 2 (on_longs (long_calculated operation)))
  long_binary operation is two r =
      plain_two (Of tag.Long) (Of tag.Long) (Some tag.Long) (on_longs (long_calculated operation)) is r (λ first second left right. longs_given r.kept tag.Long (long_calculated operation) (long_calculated_replies r.kept operation two) left right)

  long_shift : (operation : Calc) → site.falls ≡ true → (operation ≡ calc.Neg → ⊥) → (r : Ready site (Plain (Of tag.Int ∷ Of tag.Long ∷ []) (Some tag.Long))) → Does site (Plain (Of tag.Int ∷ Of tag.Long ∷ []) (Some tag.Long)) (Strict 2 (on_long_and_int (calculated w64 operation)))
  long_shift operation is two r =
      plain_two (Of tag.Int) (Of tag.Long) (Some tag.Long) (on_long_and_int (calculated w64 operation)) is r (λ first second left right. shift_given r.kept (calculated w64 operation) (calculated_replies r.kept w64 operation two) left right)

  long_calculation_steps : (operation : Calc) → site.falls ≡ true → (r : Ready site (row site.code (op.Calc operation kind.Long))) → Does site (row site.code (op.Calc operation kind.Long)) (calculation operation kind.Long)
  long_calculation_steps calc.Add is r = long_binary calc.Add is (λ e. cc) r
  long_calculation_steps calc.Sub is r = long_binary calc.Sub is (λ e. cc) r
  long_calculation_steps calc.Mul is r = long_binary calc.Mul is (λ e. cc) r
  long_calculation_steps calc.Div is r = long_binary calc.Div is (λ e. cc) r
  long_calculation_steps calc.Rem is r = long_binary calc.Rem is (λ e. cc) r
  long_calculation_steps calc.Neg is r = plain_one (Of tag.Long) (Some tag.Long) (on_long (λ number. Gives (Long (int_wrapping_neg w64 number)))) is r (λ value held. long_given r.kept tag.Long (λ number. Gives (Long (int_wrapping_neg w64 number))) (λ number. long) held)
  long_calculation_steps calc.Shl is r = long_shift calc.Shl is (λ e. cc) r
  long_calculation_steps calc.Shr is r = long_shift calc.Shr is (λ e. cc) r
  long_calculation_steps calc.Ushr is r = long_shift calc.Ushr is (λ e. cc) r
  long_calculation_steps calc.And is r = long_binary calc.And is (λ e. cc) r
  long_calculation_steps calc.Or is r = long_binary calc.Or is (λ e. cc) r
  long_calculation_steps calc.Xor is r = long_binary calc.Xor is (λ e. cc) r

  float_calculation_never : (operation : Calc) → is_spelled (op.Calc operation kind.Float) ≡ true → Ready site (row site.code (op.Calc operation kind.Float)) → ⊥
  float_calculation_never calc.Shl spelled r = false≢true spelled
  float_calculation_never calc.Shr spelled r = false≢true spelled
  float_calculation_never calc.Ushr spelled r = false≢true spelled
  float_calculation_never operation spelled r = float_never r

  double_calculation_never : (operation : Calc) → is_spelled (op.Calc operation kind.Double) ≡ true → Ready site (row site.code (op.Calc operation kind.Double)) → ⊥
  double_calculation_never calc.Shl spelled r = false≢true spelled
  double_calculation_never calc.Shr spelled r = false≢true spelled
  double_calculation_never calc.Ushr spelled r = false≢true spelled
  double_calculation_never operation spelled r = double_never r

  calculation_steps : (operation : Calc) (of : Kind) → site.falls ≡ true → is_spelled (op.Calc operation of) ≡ true → (r : Ready site (row site.code (op.Calc operation of))) → Does site (row site.code (op.Calc operation of)) (calculation operation of)
  calculation_steps operation kind.Int is spelled r = int_calculation_steps operation is r
  calculation_steps operation kind.Long is spelled r = long_calculation_steps operation is r
  calculation_steps operation kind.Float is spelled r = absurd (float_calculation_never operation spelled r)
  calculation_steps operation kind.Double is spelled r = absurd (double_calculation_never operation spelled r)
  calculation_steps operation kind.Ref is spelled r = absurd r.operands

  -- ---- conversions and comparisons

  int_to : (to : JType) (operation : ℤ → Reply Value) → site.falls ≡ true → ((number : ℤ) → Replies site.facts site.headers (λ given. IsHeld site.facts (tag_of to) given) (operation number)) → (r : Ready site (Plain (Of tag.Int ∷ []) (Some (tag_of to)))) → Does site (Plain (Of tag.Int ∷ []) (Some (tag_of to))) (Strict 1 (on_int operation))
  int_to to operation is h r = plain_one (Of tag.Int) (Some (tag_of to)) (on_int operation) is r (λ value held. int_given r.kept (tag_of to) operation h held)

  int_conversion_steps : (to : JType) → site.falls ≡ true → is_spelled (op.Convert kind.Int to) ≡ true → (r : Ready site (row site.code (op.Convert kind.Int to))) → Does site (row site.code (op.Convert kind.Int to)) (conversion kind.Int to)
  int_conversion_steps Byte is spelled r = int_to Byte (narrowed Byte) is (λ number. int) r
  int_conversion_steps Char is spelled r = int_to Char (narrowed Char) is (λ number. int) r
  int_conversion_steps Short is spelled r = int_to Short (narrowed Short) is (λ number. int) r
  int_conversion_steps types.Long is spelled r = int_to types.Long (λ number. Gives (Long number)) is (λ number. long) r
  int_conversion_steps Float is spelled r = tt
  int_conversion_steps Double is spelled r = tt
  int_conversion_steps to is spelled r = absurd (false≢true spelled)

  long_conversion_steps : (to : JType) → site.falls ≡ true → is_spelled (op.Convert kind.Long to) ≡ true → (r : Ready site (row site.code (op.Convert kind.Long to))) → Does site (row site.code (op.Convert kind.Long to)) (conversion kind.Long to)
  long_conversion_steps types.Int is spelled r = plain_one (Of tag.Long) (Some tag.Int) (on_long (λ number. Gives (Int (int_wrap w32 number)))) is r (λ value held. long_given r.kept tag.Int (λ number. Gives (Int (int_wrap w32 number))) (λ number. int) held)
  long_conversion_steps Float is spelled r = tt
  long_conversion_steps Double is spelled r = tt
  long_conversion_steps to is spelled r = absurd (false≢true spelled)

  conversion_steps : (from : Kind) (to : JType) → site.falls ≡ true → is_spelled (op.Convert from to) ≡ true → (r : Ready site (row site.code (op.Convert from to))) → Does site (row site.code (op.Convert from to)) (conversion from to)
  conversion_steps kind.Int to is spelled r = int_conversion_steps to is spelled r
  conversion_steps kind.Long to is spelled r = long_conversion_steps to is spelled r
  conversion_steps kind.Float to is spelled r = absurd (float_never r)
  conversion_steps kind.Double to is spelled r = absurd (double_never r)
  conversion_steps kind.Ref to is spelled r = absurd r.operands

  comparison_steps : (of : Kind) (greater : Bool) → site.falls ≡ true → is_spelled (op.Compare of greater) ≡ true → (r : Ready site (row site.code (op.Compare of greater))) → Does site (row site.code (op.Compare of greater)) (comparison of)
  comparison_steps kind.Int greater is spelled r = absurd (false≢true spelled)
  comparison_steps kind.Long greater is spelled r = plain_two (Of tag.Long) (Of tag.Long) (Some tag.Int) (on_longs compared) is r (λ first second left right. longs_given r.kept tag.Int compared (λ left right. int) left right)
  comparison_steps kind.Float greater is spelled r = absurd (float_never r)
  comparison_steps kind.Double greater is spelled r = absurd (double_never r)
  comparison_steps kind.Ref greater is spelled r = absurd r.operands

  -- ---- arrays

  plain_read : (type : JType) → site.falls ≡ true → (r : Ready site (Plain (Of tag.Int ∷ rows.array_of type ∷ []) (Some (tag_of type)))) → Does site (Plain (Of tag.Int ∷ rows.array_of type ∷ []) (Some (tag_of type))) (Strict 2 element_read)
  plain_read type is r = plain_two (Of tag.Int) (rows.array_of type) (Some (tag_of type)) element_read is r (λ array index held place. element_read_replies r.kept type held place)

  -- an element of an array of references; the array's tag says which
  references_read : (tags : List Tag) (values : List Value) (after : Working) → site.falls ≡ true → Ready site Elements → AreLocals site.facts after.locals site.state.store → HasElement tags → AllAre (IsHeld site.facts) tags values → values ≡ site.stack → after.stack ≡ or_top (option_and_then element_tag (slice_get tags 1)) ∷ drop 2 tags
      → Steps site after (does site (Strict 2 element_read))
  references_read [] values after is r locals has are same stacked = absurd has
  references_read (index ∷ []) values after is r locals has are same stacked = absurd has
  references_read (index ∷ array ∷ tags) values after is r locals has are same stacked = of_array array has.1 (subst (λ t. AllAre (IsHeld site.facts) (t ∷ array ∷ tags) site.stack) has.0 (subst (AllAre (IsHeld site.facts) (index ∷ array ∷ tags)) same are)) stacked
    where
      Reads : Tag → Type 0
      Reads array = IsSome (element_tag array) → AllAre (IsHeld site.facts) (tag.Int ∷ array ∷ tags) site.stack → after.stack ≡ or_top (element_tag array) ∷ tags → Steps site after (does site (Strict 2 element_read))

      reads : (element : JType) → AllAre (IsHeld site.facts) (tag.Int ∷ tag.Object (Array element) ∷ tags) site.stack → after.stack ≡ tag_of element ∷ tags → Steps site after (does site (Strict 2 element_read))
      reads element are stacked =
          strict_steps (Of tag.Int ∷ Of (tag.Object (Array element)) ∷ []) (Some (tag_of element)) tags after 2 element_read is r refl (both are) stacked locals two
        where
          both : {values : List Value} → AllAre (IsHeld site.facts) (tag.Int ∷ tag.Object (Array element) ∷ tags) values → Meets site.facts (Of tag.Int ∷ Of (tag.Object (Array element)) ∷ []) tags values
          both (more place (more held below)) = top place (top held (met below))

          two : (operands : List Value) → AllAre (IsMeant site.facts) (Of (tag.Object (Array element)) ∷ Of tag.Int ∷ []) operands → Replies site.facts site.headers (IsGiven site.facts (Some (tag_of element))) (element_read operands)
          two operands (more held (more place none)) = element_read_replies r.kept element held place

      null_read : AllAre (IsHeld site.facts) (tag.Int ∷ tag.Null ∷ tags) site.stack → after.stack ≡ tag.Null ∷ tags → Steps site after (does site (Strict 2 element_read))
      null_read are stacked = strict_steps (Of tag.Int ∷ Of tag.Null ∷ []) (Some tag.Null) tags after 2 element_read is r refl (both are) stacked locals two
        where
          both : {values : List Value} → AllAre (IsHeld site.facts) (tag.Int ∷ tag.Null ∷ tags) values → Meets site.facts (Of tag.Int ∷ Of tag.Null ∷ []) tags values
          both (more place (more held below)) = top place (top held (met below))

          two : (operands : List Value) → AllAre (IsMeant site.facts) (Of tag.Null ∷ Of tag.Int ∷ []) operands → Replies site.facts site.headers (IsGiven site.facts (Some tag.Null)) (element_read operands)
          two operands (more null (more int none)) = replies-trap site.facts site.headers r.kept.thrown (IsGiven site.facts (Some tag.Null)) (codes "java/lang/NullPointerException")

      of_object : (type : JType) → Reads (tag.Object type)
      of_object (Array (Class name)) some are stacked = reads (Class name) are stacked
      of_object (Array (Array element)) some are stacked = reads (Array element) are stacked
      of_object type some are stacked = absurd (false≢true some)

      of_array : (array : Tag) → Reads array
      of_array tag.Null some are stacked = null_read are stacked
      of_array (tag.Object type) some are stacked = of_object type some are stacked
      of_array array some are stacked = absurd (false≢true some)

  array_read_steps : (of : Element) → site.falls ≡ true → (r : Ready site (row site.code (op.ArrayLoad of))) → Does site (row site.code (op.ArrayLoad of)) (Strict 2 element_read)
  array_read_steps element.Int is r = plain_read types.Int is r
  array_read_steps element.Long is r = plain_read types.Long is r
  array_read_steps element.Float is r = plain_read Float is r
  array_read_steps element.Double is r = plain_read Double is r
  array_read_steps element.Ref is r = references_read site.frame.stack site.stack (effect site.code site.pc Elements site.frame) is r r.describes.in_locals r.operands r.describes.on_stack refl refl
  array_read_steps element.Byte is r = plain_two (Of tag.Int) ByteArray (Some tag.Int) element_read is r (λ array index held place. byte_read r.kept held place)
  array_read_steps element.Char is r = plain_read Char is r
  array_read_steps element.Short is r = plain_read Short is r

  plain_write : (type : JType) → ((found : JType) → HasShape type found → found ≡ type) → site.falls ≡ true → (r : Ready site (Plain (Of (tag_of type) ∷ Of tag.Int ∷ rows.array_of type ∷ []) None)) → Does site (Plain (Of (tag_of type) ∷ Of tag.Int ∷ rows.array_of type ∷ []) None) (Strict 3 (element_written site.headers))
  plain_write type same is r =
      plain_three (Of (tag_of type)) (Of tag.Int) (rows.array_of type) None (element_written site.headers) is r (λ array index value held place kept. element_written_replies r.kept type value (plain_storable r.kept type value same kept) held place)

  array_write_steps : (of : Element) → site.falls ≡ true → (r : Ready site (row site.code (op.ArrayStore of))) → Does site (row site.code (op.ArrayStore of)) (Strict 3 (element_written site.headers))
  array_write_steps element.Int is r = plain_write types.Int (λ found shape. shape) is r
  array_write_steps element.Long is r = plain_write types.Long (λ found shape. shape) is r
  array_write_steps element.Float is r = plain_write Float (λ found shape. shape) is r
  array_write_steps element.Double is r = plain_write Double (λ found shape. shape) is r
  array_write_steps element.Ref is r =
      plain_three (Of (tag.Object (Class object_name))) (Of tag.Int) (rows.array_of (Class object_name)) None (element_written site.headers) is r (λ array index value held place kept. element_written_replies r.kept (Class object_name) value (reference_storable r.kept object_name (object_reference r.kept kept)) held place)
  array_write_steps element.Byte is r = plain_three (Of tag.Int) (Of tag.Int) ByteArray None (element_written site.headers) is r (λ array index value held place kept. byte_written r.kept held place kept)
  array_write_steps element.Char is r = plain_write Char (λ found shape. shape) is r
  array_write_steps element.Short is r = plain_write Short (λ found shape. shape) is r

  -- ---- fields that are set

  set_steps : (field : FieldRef) → site.falls ≡ true → (r : Ready site (Sets field.kind field.owner)) → Does site (Sets field.kind field.owner) (Strict 2 (field_written field))
  set_steps field is r = by r.operands
    where
      sets : (receiver : Want) → ((value : Value) → IsMeant site.facts receiver value → IsAnyReference value) → AreWanted site.Goes (Of (tag_of field.kind) ∷ receiver ∷ []) site.frame.stack → Does site (Sets field.kind field.owner) (Strict 2 (field_written field))
      sets receiver f wanted =
          strict_steps (Of (tag_of field.kind) ∷ receiver ∷ []) None (drop 2 site.frame.stack) (effect site.code site.pc (Sets field.kind field.owner) site.frame) 2 (field_written field) is r refl (meets r.kept wanted r.describes.on_stack) refl r.describes.in_locals two
        where
          two : (operands : List Value) → AllAre (IsMeant site.facts) (receiver ∷ Of (tag_of field.kind) ∷ []) operands → Replies site.facts site.headers (IsGiven site.facts None) (field_written field operands)
          two operands (more {other = first} held (more {other = second} kept none)) = field_written_replies r.kept field (f first held) kept

      by : CanSet site.Goes site.code field.kind field.owner site.frame.stack → Does site (Sets field.kind field.owner) (Strict 2 (field_written field))
      by (is_born wanted) = sets (Of (tag.Object field.owner)) (any_receiver r.kept field.owner) wanted
      by (is_unborn constructor same wanted) = sets (Of tag.UnbornThis) (any_unborn r.kept) wanted

  -- ---- calls

  static_steps : (method : MethodRef) → site.falls ≡ true → (r : Ready site (rows.call method.descriptor [])) → Does site (rows.call method.descriptor []) (Strict (arguments_of method.descriptor) (static_called method))
  static_steps method is r =
      plain_steps (rows.arguments (parameters_of method.descriptor) ++ []) (option_map tag_of (result_of method.descriptor)) (arguments_of method.descriptor) (static_called method) is
      (let many = arguments_many (λ type. Of (tag_of type)) (parameters_of method.descriptor) [] in omega arith) r
      (λ operands are. static_called_replies r.kept method (subst (λ wants. AllAre (IsMeant site.facts) wants operands) (onto_arguments (map (λ type. Of (tag_of type)) (parameters_of method.descriptor))) are))

  call_steps : (kind : InvokeKind) (owner : JType) (method : MethodRef) (receiver : Want) → ((value : Value) → IsMeant site.facts receiver value → IsAnyReference value) → site.falls ≡ true → (r : Ready site (rows.call method.descriptor (receiver ∷ [])))
      → Does site (rows.call method.descriptor (receiver ∷ [])) (Strict (arguments_of method.descriptor + 1) (object_called kind owner method))
  call_steps kind owner method receiver f is r =
      plain_steps (rows.arguments (parameters_of method.descriptor) ++ receiver ∷ []) (option_map tag_of (result_of method.descriptor)) (arguments_of method.descriptor + 1) (object_called kind owner method) is (one_more method receiver) r (object_operands r.kept kind owner method receiver f)

  super_steps : (owner : JType) (method : MethodRef) → site.falls ≡ true → (r : Ready site (super_call site.code method.descriptor method.owner)) → Does site (super_call site.code method.descriptor method.owner) (Strict (arguments_of method.descriptor + 1) (object_called Special owner method))
  super_steps owner method is r =
      let wants : List Want = rows.arguments (parameters_of method.descriptor) ++ Of (rows.object site.code.class) ∷ [] in
      strict_steps wants (option_map tag_of (result_of method.descriptor)) (under wants site.frame.stack) (effect site.code site.pc (super_call site.code method.descriptor method.owner) site.frame) (arguments_of method.descriptor + 1) (object_called Special owner method) is r
      (one_more method (Of (rows.object site.code.class))) (meets r.kept r.operands.1 r.describes.on_stack) refl r.describes.in_locals (object_operands r.kept Special owner method (Of (rows.object site.code.class)) (any_receiver r.kept (Class site.code.class)))

  -- the call of a constructor, on an object that isn't born yet
  birth_steps : (owner : JType) (method : MethodRef) → result_of method.descriptor ≡ None → site.falls ≡ true → (r : Ready site (Bears (rows.arguments (parameters_of method.descriptor)) method.owner))
      → Does site (Bears (rows.arguments (parameters_of method.descriptor)) method.owner) (Strict (arguments_of method.descriptor + 1) (object_called Special owner method))
  birth_steps owner method nothing is r = on (under wants site.frame.stack) r.operands.1 (meets r.kept r.operands.0 r.describes.on_stack)
    where
      wants : List Want
      wants = rows.arguments (parameters_of method.descriptor)

      Born : List Tag → Type 0
      Born tags = Steps site (borne site.code method.owner site.frame tags) (does site (Strict (arguments_of method.descriptor + 1) (object_called Special owner method)))

      called : (receiver : Want) → ((value : Value) → IsMeant site.facts receiver value → IsAnyReference value) → (operands : List Value) → AllAre (IsMeant site.facts) (onto (wants ++ receiver ∷ []) []) operands → Replies site.facts site.headers (IsGiven site.facts None) (object_called Special owner method operands)
      called receiver f operands are =
          subst (λ result. Replies site.facts site.headers (IsGiven site.facts (option_map tag_of result)) (object_called Special owner method operands)) nothing (object_operands r.kept Special owner method receiver f operands are)

      born : (receiver : Want) (change : Tag → Tag) (flag : Bool) (found : Tag) (tags : List Tag) → ((value : Value) → IsMeant site.facts receiver value → IsAnyReference value) → ((value : Value) → IsHeld site.facts found value → IsMeant site.facts receiver value)
          → change tag.Top ≡ tag.Top → ((held : Tag) (value : Value) → IsHeld site.facts held value → IsHeld site.facts (change held) value) → Meets site.facts wants (found ∷ tags) site.stack
          → Steps site (record { locals = map change site.frame.locals; stack = map change tags; unborn_this = flag }) (does site (Strict (arguments_of method.descriptor + 1) (object_called Special owner method)))
      born receiver change flag found tags f g top_stays h meet =
          strict_steps (wants ++ receiver ∷ []) None (map change tags) (record { locals = map change site.frame.locals; stack = map change tags; unborn_this = flag }) (arguments_of method.descriptor + 1) (object_called Special owner method) is r
          (one_more method receiver) (meets_changed change top_stays h (meets_more receiver g meet)) refl (changed_locals change top_stays h site.frame.locals site.state.store r.describes.in_locals) (called receiver f)

      on : (tags : List Tag) → CanBeBorn site.world site.code method.owner tags → Meets site.facts wants tags site.stack → Born tags
      on (tag.UnbornThis ∷ tags) can meet =
          born (Of tag.UnbornThis) (instead is_unborn_this (tag.Object (Class site.code.class))) false tag.UnbornThis tags (any_unborn r.kept) (λ value held. held) refl (born_this site.code.class r.kept.this_born) meet
      on (tag.Unborn at ∷ tags) can meet =
          born Reference (instead (is_unborn_at at) (tag.Object method.owner)) site.frame.unborn_this (tag.Unborn at) tags (λ value held. held) (λ value held. reference_held r.kept refl held) refl
          (born_at at method.owner (λ one made. r.kept.born at method.owner one can made)) meet
      on tags can meet = absurd can

  special_steps : (owner : JType) (method : MethodRef) → site.falls ≡ true → (constructs : Bool) → (r : Ready site (if constructs then birth method.descriptor method.owner (result_of method.descriptor) else super_call site.code method.descriptor method.owner))
      → Does site (if constructs then birth method.descriptor method.owner (result_of method.descriptor) else super_call site.code method.descriptor method.owner) (Strict (arguments_of method.descriptor + 1) (object_called Special owner method))
  special_steps owner method is true r = by (result_of method.descriptor) refl r
    where
      by : (result : Option JType) → result_of method.descriptor ≡ result → Ready site (birth method.descriptor method.owner result) → Does site (birth method.descriptor method.owner result) (Strict (arguments_of method.descriptor + 1) (object_called Special owner method))
      by None nothing r = birth_steps owner method nothing is r
      by (Some type) some r = absurd r.operands
  special_steps owner method is false r = super_steps owner method is r

  -- ---- jumps

  jump_one : (want : Want) (choice : List Value → Reply (Option ℕ)) → (r : Ready site (Plain (want ∷ []) None)) → ((value : Value) → IsMeant site.facts want value → LeadsFrom site (choice (value ∷ []))) → Does site (Plain (want ∷ []) None) (Leads 1 choice)
  jump_one want choice r h = jump_steps (want ∷ []) 1 choice refl r one_there
    where
      one_there : (operands : List Value) → AllAre (IsMeant site.facts) (want ∷ []) operands → LeadsFrom site (choice operands)
      one_there operands (more {other = value} is none) = h value is

  jump_two : (want : Want) (choice : List Value → Reply (Option ℕ)) → (r : Ready site (Plain (want ∷ want ∷ []) None)) → ((first second : Value) → IsMeant site.facts want first → IsMeant site.facts want second → LeadsFrom site (choice (first ∷ second ∷ []))) → Does site (Plain (want ∷ want ∷ []) None) (Leads 2 choice)
  jump_two want choice r h = jump_steps (want ∷ want ∷ []) 2 choice refl r two_there
    where
      two_there : (operands : List Value) → AllAre (IsMeant site.facts) (want ∷ want ∷ []) operands → LeadsFrom site (choice operands)
      two_there operands (more {other = first} is (more {other = second} also none)) = h first second is also

  -- a jump by the int on top
  int_jump : (choice : ℤ → Reply (Option ℕ)) → (r : Ready site (Plain (Of tag.Int ∷ []) None)) → ((number : ℤ) → LeadsFrom site (choice number)) → Does site (Plain (Of tag.Int ∷ []) None) (Leads 1 (λ operands. with_one operands (λ value. with_int value choice)))
  int_jump choice r h = jump_one (Of tag.Int) (λ operands. with_one operands (λ value. with_int value choice)) r (λ value held. int_replies r.kept (CanLead site) choice held h)

  ints_jump : (choice : ℤ → ℤ → Reply (Option ℕ)) → (r : Ready site (Plain (Of tag.Int ∷ Of tag.Int ∷ []) None)) → ((left right : ℤ) → LeadsFrom site (choice left right))
      → Does site (Plain (Of tag.Int ∷ Of tag.Int ∷ []) None) (Leads 2 (λ operands. with_two operands (λ first second. with_int first (λ left. with_int second (λ right. choice left right)))))
  ints_jump choice r h =
      jump_two (Of tag.Int) (λ operands. with_two operands (λ first second. with_int first (λ left. with_int second (λ right. choice left right)))) r
      (λ first second left right. int_replies r.kept (CanLead site) (λ l. with_int second (λ n. choice l n)) left (λ l. int_replies r.kept (CanLead site) (λ n. choice l n) right (λ n. h l n)))

  -- a jump by references, None for null
  reference_jump : (choice : Option RefValue → Reply (Option ℕ)) → (r : Ready site (Plain (Reference ∷ []) None)) → ((reference : Option RefValue) → LeadsFrom site (choice reference)) → Does site (Plain (Reference ∷ []) None) (Leads 1 (λ operands. with_one operands (λ value. with_reference value choice)))
  reference_jump choice r h =
      jump_one Reference (λ operands. with_one operands (λ value. with_reference value choice)) r (λ value held. reference_replies r.kept (CanLead site) choice held (h None) (λ reference is. h (Some reference)))

  references_jump : (choice : Option RefValue → Option RefValue → Reply (Option ℕ)) → (r : Ready site (Plain (Reference ∷ Reference ∷ []) None)) → ((left right : Option RefValue) → LeadsFrom site (choice left right))
      → Does site (Plain (Reference ∷ Reference ∷ []) None) (Leads 2 (λ operands. with_two operands (λ first second. with_reference first (λ left. with_reference second (λ right. choice left right)))))
  references_jump choice r h =
      jump_two Reference (λ operands. with_two operands (λ first second. with_reference first (λ left. with_reference second (λ right. choice left right)))) r
      (λ first second left right. by_reference (λ l. with_reference second (λ n. choice l n)) left (λ l. by_reference (λ n. choice l n) right (λ n. h l n)))
    where
      by_reference : (next : Option RefValue → Reply (Option ℕ)) {value : Value} → IsAnyReference value → ((reference : Option RefValue) → LeadsFrom site (next reference)) → LeadsFrom site (with_reference value next)
      by_reference next held k = reference_replies r.kept (CanLead site) next held (k None) (λ reference is. k (Some reference))

  -- ---- returns

  return_steps : (of : Option Kind) → (r : Ready site (row site.code (op.Return of))) → Does site (row site.code (op.Return of)) (return_of of)
  return_steps None r = returns_steps (effect site.code site.pc (row site.code (op.Return None)) site.frame) returned_nothing r (nothing_returned site (result_of site.code.descriptor) r.operands)
  return_steps (Some of) r = returns_steps (effect site.code site.pc (row site.code (op.Return (Some of))) site.frame) (returned_value of) r (value_returned site of r.kept (result_of site.code.descriptor) site.frame.stack r.operands r.describes.on_stack)

  -- ---- each instruction

  push_steps : (constant : Constant) → site.falls ≡ true → (r : Ready site (row site.code (op.Push constant))) → Does site (row site.code (op.Push constant)) (constant_pushed constant)
  push_steps (constant.Int number) is r = plain_none (Some tag.Int) (λ operands. Gives (Some (Int number))) is r int
  push_steps (constant.Long number) is r = plain_none (Some tag.Long) (λ operands. Gives (Some (Long number))) is r long
  push_steps (constant.Text units) is r = plain_none (Some (rows.object (codes "java/lang/String"))) (λ operands. Gives (Some (Ref (text_reference units)))) is r (text_given r.kept units)
  push_steps (constant.Float bits) is r = tt
  push_steps (constant.Double bits) is r = tt

  -- the table of instructions against what they do
  pub instruction_steps : (instruction : Instruction) → Contains site.code.instructions (site.pc, instruction) → site.falls ≡ falls instruction → is_spelled instruction ≡ true → All site.Target (targets_of instruction) → (r : Ready site (row site.code instruction)) → Does site (row site.code instruction) (meaning_of site.headers site.code.class instruction)
  instruction_steps op.Nop has is spelled targets r = plain_none None (λ operands. Gives None) is r tt
  instruction_steps op.PushNull has is spelled targets r = plain_none (Some tag.Null) (λ operands. Gives (Some Null)) is r null
  instruction_steps (op.Push constant) has is spelled targets r = push_steps constant is r
  instruction_steps (op.PushClass type) has is spelled targets r = plain_none (Some (rows.object (codes "java/lang/Class"))) (λ operands. ask (ClassConstant type)) is r (class_replies r.kept type)
  instruction_steps (op.PushHandle of interface owner name descriptor) has is spelled targets r = tt
  instruction_steps (op.PushMethodType descriptor) has is spelled targets r = tt
  instruction_steps (op.Load of slot) has is spelled targets r = loads_steps of slot is r
  instruction_steps (op.Store of slot) has is spelled targets r = stores_steps of slot is r
  instruction_steps (op.ArrayLoad of) has is spelled targets r = array_read_steps of is r
  instruction_steps (op.ArrayStore of) has is spelled targets r = array_write_steps of is r
  instruction_steps op.Pop has is spelled targets r = moves_steps works.pop_forms is refl r
  instruction_steps op.Pop2 has is spelled targets r = moves_steps works.pop2_forms is refl r
  instruction_steps op.Dup has is spelled targets r = moves_steps works.dup_forms is refl r
  instruction_steps op.DupX1 has is spelled targets r = moves_steps works.dup_x1_forms is refl r
  instruction_steps op.DupX2 has is spelled targets r = moves_steps works.dup_x2_forms is refl r
  instruction_steps op.Dup2 has is spelled targets r = moves_steps works.dup2_forms is refl r
  instruction_steps op.Dup2X1 has is spelled targets r = moves_steps works.dup2_x1_forms is refl r
  instruction_steps op.Dup2X2 has is spelled targets r = moves_steps works.dup2_x2_forms is refl r
  instruction_steps op.Swap has is spelled targets r = moves_steps works.swap_forms is refl r
  instruction_steps (op.Calc operation of) has is spelled targets r = calculation_steps operation of is spelled r
  instruction_steps (op.Iinc slot by) has is spelled targets r = counts_steps slot by is r
  instruction_steps (op.Convert from to) has is spelled targets r = conversion_steps from to is spelled r
  instruction_steps (op.Compare of greater) has is spelled targets r = comparison_steps of greater is spelled r
  instruction_steps (op.IfZero test target) has is spelled targets r =
      int_jump (λ number. led (holds test number (pos 0)) target) r (λ number. led_replies site (holds test number (pos 0)) target is (All-head site.Target target [] targets))
  instruction_steps (op.IfInts test target) has is spelled targets r =
      ints_jump (λ left right. led (holds test left right) target) r (λ left right. led_replies site (holds test left right) target is (All-head site.Target target [] targets))
  instruction_steps (op.IfRefs true target) has is spelled targets r =
      references_jump (λ left right. led (is_same_reference left right) target) r (λ left right. led_replies site (is_same_reference left right) target is (All-head site.Target target [] targets))
  instruction_steps (op.IfRefs false target) has is spelled targets r =
      references_jump (λ left right. led (not (is_same_reference left right)) target) r (λ left right. led_replies site (not (is_same_reference left right)) target is (All-head site.Target target [] targets))
  instruction_steps (op.IfNull true target) has is spelled targets r =
      reference_jump (λ reference. led (is_same_reference reference None) target) r (λ reference. led_replies site (is_same_reference reference None) target is (All-head site.Target target [] targets))
  instruction_steps (op.IfNull false target) has is spelled targets r =
      reference_jump (λ reference. led (not (is_same_reference reference None)) target) r (λ reference. led_replies site (not (is_same_reference reference None)) target is (All-head site.Target target [] targets))
  instruction_steps (op.Goto target) has is spelled targets r = jump_steps [] 0 (λ operands. Gives (Some target)) refl r (λ operands are. All-head site.Target target [] targets)
  instruction_steps (op.TableSwitch low places other) has is spelled targets r = int_jump (λ number. Gives (Some (in_table low places other number))) r (λ number. in_table_leads site.Target low places other number targets)
  instruction_steps (op.LookupSwitch cases other) has is spelled targets r =
      int_jump (λ number. Gives (Some (in_cases cases other number))) r (λ number. in_cases_leads site.Target cases other number (All-head site.Target other (map (λ x. x.1) cases) targets) (All-tail site.Target other (map (λ x. x.1) cases) targets))
  instruction_steps (op.Return of) has is spelled targets r = return_steps of r
  instruction_steps (op.GetStatic field) has is spelled targets r = plain_none (Some (tag_of field.kind)) (static_read field) is r (static_read_replies r.kept field)
  instruction_steps (op.PutStatic field) has is spelled targets r = plain_one (Of (tag_of field.kind)) None (static_written field) is r (λ value held. static_written_replies r.kept field held)
  instruction_steps (op.GetField field) has is spelled targets r =
      plain_one (Of (tag.Object field.owner)) (Some (tag_of field.kind)) (field_read field) is r (λ value held. field_read_replies r.kept field (any_receiver r.kept field.owner value held))
  instruction_steps (op.PutField field) has is spelled targets r = set_steps field is r
  instruction_steps (op.InvokeVirtual method) has is spelled targets r = call_steps Virtual method.owner method (Of (tag.Object method.owner)) (any_receiver r.kept method.owner) is r
  instruction_steps (op.InvokeSpecial method) has is spelled targets r = special_steps (special_owner site.headers site.code.class method) method is (is_constructor method.name) r
  instruction_steps (op.InvokeStatic method) has is spelled targets r = static_steps method is r
  instruction_steps (op.InvokeInterface method) has is spelled targets r = call_steps Interface method.owner method (Of (tag.Object method.owner)) (any_receiver r.kept method.owner) is r
  instruction_steps (op.InvokeDynamic bootstrap name descriptor) has is spelled targets r = tt
  instruction_steps (op.New class) has is spelled targets r =
      strict_steps [] (Some (tag.Unborn site.pc)) site.frame.stack (effect site.code site.pc works.Makes site.frame) 0 (λ operands. ask (NewAction class)) is r refl (met r.describes.on_stack) refl (lost_locals site.pc site.frame.locals site.state.store r.describes.in_locals) (λ operands are. new_replies r.kept class site.pc has)
  instruction_steps (op.NewArray type) has is spelled targets r =
      plain_one (Of tag.Int) (Some (tag.Object (Array type))) (array_made (Array type)) is r (λ value held. array_made_replies r.kept (Array type) (Of tag.Int ∷ []) (refl, tt) (more held none))
  instruction_steps (op.MultiNewArray type sizes) has is spelled targets r =
      plain_steps (replicate sizes (Of tag.Int)) (Some (tag.Object type)) sizes (array_made type) is (sym (length-replicate sizes (Of tag.Int))) r
      (λ operands are. array_made_replies r.kept type (onto (replicate sizes (Of tag.Int)) []) (onto_ints r.kept (replicate sizes (Of tag.Int)) [] (replicated_ints r.kept sizes) tt) are)
  instruction_steps op.ArrayLength has is spelled targets r = plain_one AnyArray (Some tag.Int) length_read is r (λ value held. length_read_replies r.kept held)
  instruction_steps op.Throw has is spelled targets r = throws_steps (Of (rows.object rows.throwable_name)) thrown_out _ r (λ value held. thrown_replies r.kept (λ given. ⊥) held)
  instruction_steps (op.CheckCast type) has is spelled targets r =
      plain_one (Of (rows.object object_name)) (Some (tag.Object type)) (λ operands. with_one operands (λ value. with_reference value (cast_to site.headers type))) is r (λ value held. cast_replies r.kept (Class object_name) type held)
  instruction_steps (op.InstanceOf type) has is spelled targets r =
      plain_one (Of (rows.object object_name)) (Some tag.Int) (λ operands. with_one operands (λ value. with_reference value (λ reference. Gives (Some (truth (is_of site.headers type reference)))))) is r (λ value held. instance_replies r.kept type (object_reference r.kept held))
  instruction_steps op.MonitorEnter has is spelled targets r = plain_one Reference None entered is r (λ value held. entered_replies r.kept held)
  instruction_steps op.MonitorExit has is spelled targets r = plain_one Reference None left is r (λ value held. left_replies r.kept held)

  -- an instruction with the work that the checker knows of it
  pub work_steps : (instruction : Instruction) → Contains site.code.instructions (site.pc, instruction) → site.falls ≡ falls instruction → All site.Target (targets_of instruction) → (r : Ready site (work site.code instruction)) → Does site (work site.code instruction) (meaning_of site.headers site.code.class instruction)
  work_steps instruction has is targets r = go (is_spelled instruction) refl r
    where
      go : (spelled : Bool) → is_spelled instruction ≡ spelled → (r : Ready site (if spelled then row site.code instruction else Never)) → Does site (if spelled then row site.code instruction else Never) (meaning_of site.headers site.code.class instruction)
      go true spelled r = instruction_steps instruction has is spelled targets r
      go false spelled r = absurd r.operands
