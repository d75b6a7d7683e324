-- Each class that the frames of a table speak of can be named, where each can that the code names.
use Rattle.std.proofs.Common.{◌≡◌, ℕ, zero, suc, ◌-◌, ◌+◌, ◌==◌, Bool, true, false, List, [], ◌∷◌, ◌++◌, length, map, drop, take, replicate, Option, Some, None, refl, sym, ap, ◌∙◌, subst, arith}
use Rattle.std.specs.Prelude.{if◌then◌else◌, nat_lt, option_map, slice_get, slice_set, bit_and, IfSome, codes, Contains}
use Rattle.std.specs.List.{flat_map}
use Rattle.std.specs.Option.{option_and_then}
use Rattle.dj_names.specs.declared.header.Header.{Header}
use Rattle.dj_names.specs.declared.members.Constant.{Constant}
use Rattle.dj_names.specs.declared.members.Constant.TheVariants as constant
use Rattle.dj_names.specs.Types as type
use Rattle.dj_names.specs.Types.{JType, Class, Array, Descriptor, parameters_of, result_of}
use Rattle.dj_names.specs.Headers.{Name}
use Rattle.dj_names.specs.Assignable.{object_name}
use Rattle.dj_names.specs.MethodNames.{is_constructor}
use Rattle.dj_class.specs.Described.{MethodOf}
use Rattle.dj_instructions.specs.declared.kinds.Kind.{Kind}
use Rattle.dj_instructions.specs.declared.kinds.Kind.TheVariants as kind
use Rattle.dj_instructions.specs.declared.kinds.Element.{Element}
use Rattle.dj_instructions.specs.declared.kinds.Element.TheVariants as element
use Rattle.dj_instructions.specs.Instructions.{Instruction, Instructions, Nop, PushNull, Push, PushClass, PushHandle, PushMethodType, Load, Store, ArrayLoad, ArrayStore, Pop, Pop2, Dup, DupX1, DupX2, Dup2, Dup2X1, Dup2X2, Swap, Calc, Iinc, Convert, Compare, IfZero, IfInts, IfRefs, IfNull, Goto, TableSwitch, LookupSwitch, Return, GetStatic, PutStatic, GetField, PutField, InvokeVirtual, InvokeSpecial, InvokeStatic, InvokeInterface, InvokeDynamic, New, NewArray, MultiNewArray, ArrayLength, Throw, CheckCast, InstanceOf, MonitorEnter, MonitorExit}
use Rattle.dj_frames.specs.Frames.{Tag, Top, Int, Float, Double, Long, Null, UnbornThis, Object, Unborn, slots_of, is_unborn_this, is_unborn_at, tag_of, has_unborn_this, this_of, receiver_of, entry_values}
use Rattle.dj_code.specs.MethodCode.{Code}
use Rattle.dj_tags.specs.Goes.{Assignability, Working, words}
use Rattle.dj_effects.specs.Works.{Of, Form, Work, Plain, Moves, Loads, Stores, Counts, Makes, Bears, Elements, Sets, Supers, Leaves, Never}
use Rattle.dj_effects.specs.Spelled.{is_spelled, is_kind, has_conversion}
use Rattle.dj_effects.specs.Operands.{form_of, moved_words, under, element_tag}
use Rattle.dj_effects.specs.Effects.{or_top, pushed, picked, moved, cut_below, stored, instead, borne, effect}
use Rattle.dj_effects.specs.Rows.{number_tag, constant_tag, kind_of, birth, super_call, of_number, operands, read, write, leave, row, work}
use Rattle.dj_verify.specs.Rules as rules_of
use Rattle.dj_verify.specs.Rules.{padded, head_of, entry, given, falls, effect_at}
use Rattle.dj_verify.specs.Table.{or_else, flow_behind, AreFrames}
use Rattle.dj_vars.specs.Slots.{from_bottom, slot_tag, type_of_tag}
use Rattle.dj_typing.specs.Sites.{Site, may_name, may_name_type}
use Rattle.dj_code_causes.specs.Dynamics.{is_dynamic}
use Rattle.dj_member_nodes.specs.Named.{RootsAreNamed, AreNamed, IsNamed}

never : false ≡ true → ⊥
never e = cc

one-type : (first second : JType) → Some first ≡ Some second → first ≡ second
one-type first second e = cc

module _ (site : Site) where
  -- an object that a tag speaks of is of a class that can be named
  abbrev pub IsSaid : Tag → Type 0
  IsSaid Top = Unit {0}
  IsSaid Int = Unit {0}
  IsSaid Float = Unit {0}
  IsSaid Double = Unit {0}
  IsSaid Long = Unit {0}
  IsSaid Null = Unit {0}
  IsSaid UnbornThis = Unit {0}
  IsSaid (Object type) = may_name_type site type ≡ true
  IsSaid (Unborn pc) = Unit {0}

  -- and each that tags speak of
  abbrev pub AreSaid : List Tag → Type 0
  AreSaid [] = Unit {0}
  AreSaid (first ∷ rest) = IsSaid first × AreSaid rest

  -- and each that a frame speaks of
  pub record SaysWell (frame : Working) : Type 0 where
    pub locals : AreSaid frame.locals
    pub stack : AreSaid frame.stack

  -- ---- lists

  said-get : (tags : List Tag) (slot : ℕ) → AreSaid tags → IsSaid (or_top (slice_get tags slot))
  said-get [] slot are = tt
  said-get (first ∷ rest) zero are = are.0
  said-get (first ∷ rest) (suc slot) are = said-get rest slot are.1

  said-drop : (tags : List Tag) (count : ℕ) → AreSaid tags → AreSaid (drop count tags)
  said-drop [] zero are = tt
  said-drop [] (suc count) are = tt
  said-drop (first ∷ rest) zero are = are
  said-drop (first ∷ rest) (suc count) are = said-drop rest count are.1

  said-first : (tags : List Tag) → AreSaid tags → AreSaid (take 1 tags)
  said-first [] are = tt
  said-first (first ∷ rest) are = (are.0, tt)

  pub said-append : (tags others : List Tag) → AreSaid tags → AreSaid others → AreSaid (tags ++ others)
  said-append [] others are those = those
  said-append (first ∷ rest) others are those = (are.0, said-append rest others are.1 those)

  said-set : (tags : List Tag) (slot : ℕ) (tag : Tag) → AreSaid tags → IsSaid tag → AreSaid (slice_set tags slot tag)
  said-set [] slot tag are is = tt
  said-set (first ∷ rest) zero tag are is = (is, are.1)
  said-set (first ∷ rest) (suc slot) tag are is = (are.0, said-set rest slot tag are.1 is)

  said-if : (test : Bool) (first second : List Tag) → AreSaid first → AreSaid second → AreSaid (if test then first else second)
  said-if true first second are those = are
  said-if false first second are those = those

  said-instead : (test : Tag → Bool) (now : Tag) (tags : List Tag) → IsSaid now → AreSaid tags → AreSaid (map (instead test now) tags)
  said-instead test now [] is are = tt
  said-instead test now (first ∷ rest) is are = (one (test first), said-instead test now rest is are.1)
    where
      one : (passes : Bool) → IsSaid (if passes then now else first)
      one true = is
      one false = are.0

  pub said-tops : (count : ℕ) → AreSaid (replicate count Top)
  said-tops zero = tt
  said-tops (suc count) = (tt, said-tops count)

  said-from_bottom : (tags : List Tag) (place : ℕ) (tag : Tag) → AreSaid tags → from_bottom tags place ≡ Some tag → IsSaid tag
  said-from_bottom [] place tag are e = absurd (no tag e)
    where
      no : (tag : Tag) → None ≡ Some tag → ⊥
      no tag e = cc
  said-from_bottom (first ∷ rest) place tag are e = one (place == length rest) e (said-from_bottom rest place tag are.1)
    where
      one : (test : Bool) → (if test then Some first else from_bottom rest place) ≡ Some tag → (from_bottom rest place ≡ Some tag → IsSaid tag) → IsSaid tag
      one true e later = subst IsSaid (same e) are.0
        where
          same : Some first ≡ Some tag → first ≡ tag
          same e = cc
      one false e later = later e

  -- ---- works

  -- what is pushed, if anything is
  abbrev SaidIf : Option Tag → Type 0
  SaidIf None = Unit {0}
  SaidIf (Some tag) = IsSaid tag

  -- what a work gives by itself
  abbrev GivesWell : Work → Type 0
  GivesWell (Plain wants gives) = SaidIf gives
  GivesWell (Moves forms) = Unit {0}
  GivesWell (Loads kind slot) = Unit {0}
  GivesWell (Stores kind slot) = Unit {0}
  GivesWell (Counts slot) = Unit {0}
  GivesWell Makes = Unit {0}
  GivesWell (Bears wants owner) = may_name_type site owner ≡ true
  GivesWell Elements = Unit {0}
  GivesWell (Sets type owner) = Unit {0}
  GivesWell (Supers owner wants gives) = SaidIf gives
  GivesWell Leaves = Unit {0}
  GivesWell Never = Unit {0}

  said-pushed : (gives : Option Tag) (tags : List Tag) → SaidIf gives → AreSaid tags → AreSaid (pushed gives tags)
  said-pushed None tags is are = are
  said-pushed (Some tag) tags is are = (is, are)

  said-picked : (places : List ℕ) (tags : List Tag) → AreSaid tags → AreSaid (picked places tags)
  said-picked [] tags are = tt
  said-picked (place ∷ places) tags are = said-append (take 1 (drop place tags)) (picked places tags) (said-first (drop place tags) (said-drop tags place are)) (said-picked places tags are)

  said-moved : (form : Option Form) (tags : List Tag) → AreSaid tags → AreSaid (moved form tags)
  said-moved None tags are = are
  said-moved (Some form) tags are = said-append (picked form.gives tags) (drop (length form.takes) tags) (said-picked form.gives tags are) (said-drop tags (length form.takes) are)

  said-cut : (slot : ℕ) (tags : List Tag) → AreSaid tags → AreSaid (cut_below slot tags)
  said-cut zero tags are = are
  said-cut (suc below) tags are = said-if (words (or_top (slice_get tags below)) == 2) (slice_set tags below Top) tags (said-set tags below Top are tt) are

  said-stored : (slot : ℕ) (tag : Tag) (tags : List Tag) → IsSaid tag → AreSaid tags → AreSaid (stored slot tag tags)
  said-stored slot tag tags is are =
      let there = said-set (cut_below slot tags) slot tag (said-cut slot tags are) is in
      said-if (words tag == 2) (slice_set (slice_set (cut_below slot tags) slot tag) (slot + 1) Top) (slice_set (cut_below slot tags) slot tag)
      (said-set (slice_set (cut_below slot tags) slot tag) (slot + 1) Top there tt) there

  -- what is read from an array of references
  said-element : (tag : Option Tag) → IsSaid (or_top tag) → IsSaid (or_top (option_and_then element_tag tag))
  said-element None is = tt
  said-element (Some Top) is = tt
  said-element (Some Int) is = tt
  said-element (Some Float) is = tt
  said-element (Some Double) is = tt
  said-element (Some Long) is = tt
  said-element (Some Null) is = tt
  said-element (Some UnbornThis) is = tt
  said-element (Some (Unborn pc)) is = tt
  said-element (Some (Object type.Boolean)) is = tt
  said-element (Some (Object type.Byte)) is = tt
  said-element (Some (Object type.Char)) is = tt
  said-element (Some (Object type.Short)) is = tt
  said-element (Some (Object type.Int)) is = tt
  said-element (Some (Object type.Long)) is = tt
  said-element (Some (Object type.Float)) is = tt
  said-element (Some (Object type.Double)) is = tt
  said-element (Some (Object (Class name))) is = tt
  said-element (Some (Object (Array type.Boolean))) is = tt
  said-element (Some (Object (Array type.Byte))) is = tt
  said-element (Some (Object (Array type.Char))) is = tt
  said-element (Some (Object (Array type.Short))) is = tt
  said-element (Some (Object (Array type.Int))) is = tt
  said-element (Some (Object (Array type.Long))) is = tt
  said-element (Some (Object (Array type.Float))) is = tt
  said-element (Some (Object (Array type.Double))) is = tt
  said-element (Some (Object (Array (Class name)))) is = is
  said-element (Some (Object (Array (Array element)))) is = is

  says-borne : (code : Code) (owner : JType) (frame : Working) (tags : List Tag) → may_name_type site (Class code.class) ≡ true → may_name_type site owner ≡ true → SaysWell frame → AreSaid tags → SaysWell (borne code owner frame tags)
  says-borne code owner frame [] own is says are = says
  says-borne code owner frame (Top ∷ below) own is says are = says
  says-borne code owner frame (Int ∷ below) own is says are = says
  says-borne code owner frame (Float ∷ below) own is says are = says
  says-borne code owner frame (Double ∷ below) own is says are = says
  says-borne code owner frame (Long ∷ below) own is says are = says
  says-borne code owner frame (Null ∷ below) own is says are = says
  says-borne code owner frame (UnbornThis ∷ below) own is says are = record {
    locals = said-instead is_unborn_this (Object (Class code.class)) frame.locals own says.locals;
    stack = said-instead is_unborn_this (Object (Class code.class)) below own are.1;
  }
  says-borne code owner frame (Object one ∷ below) own is says are = says
  says-borne code owner frame (Unborn pc ∷ below) own is says are = record {
    locals = said-instead (is_unborn_at pc) (Object owner) frame.locals is says.locals;
    stack = said-instead (is_unborn_at pc) (Object owner) below is are.1;
  }

  says-effect : (code : Code) → may_name_type site (Class code.class) ≡ true → (pc : ℕ) (work : Work) (frame : Working) → GivesWell work → SaysWell frame → SaysWell (effect code pc work frame)
  says-effect code own pc (Plain wants gives) frame is says = record { locals = says.locals; stack = said-pushed gives (under wants frame.stack) is (said-drop frame.stack (length wants) says.stack) }
  says-effect code own pc (Moves forms) frame is says = record { locals = says.locals; stack = said-moved (form_of forms (map moved_words frame.stack)) frame.stack says.stack }
  says-effect code own pc (Loads kind slot) frame is says = record { locals = says.locals; stack = (said-get frame.locals slot says.locals, says.stack) }
  says-effect code own pc (Stores kind slot) frame is says = record {
    locals = said-stored slot (or_top (slice_get frame.stack 0)) frame.locals (said-get frame.stack 0 says.stack) says.locals;
    stack = said-drop frame.stack 1 says.stack;
  }
  says-effect code own pc (Counts slot) frame is says = says
  says-effect code own pc Makes frame is says = record { locals = said-instead (is_unborn_at pc) Top frame.locals tt says.locals; stack = (tt, says.stack) }
  says-effect code own pc (Bears wants owner) frame is says = says-borne code owner frame (under wants frame.stack) own is says (said-drop frame.stack (length wants) says.stack)
  says-effect code own pc Elements frame is says = record { locals = says.locals; stack = (said-element (slice_get frame.stack 1) (said-get frame.stack 1 says.stack), said-drop frame.stack 2 says.stack) }
  says-effect code own pc (Sets one owner) frame is says = record { locals = says.locals; stack = said-drop frame.stack 2 says.stack }
  says-effect code own pc (Supers owner wants gives) frame is says = record { locals = says.locals; stack = said-pushed gives (under wants frame.stack) is (said-drop frame.stack (length wants) says.stack) }
  says-effect code own pc Leaves frame is says = says
  says-effect code own pc Never frame is says = says

  -- ---- rows

  said-tag_of : (one : JType) → may_name_type site one ≡ true → IsSaid (tag_of one)
  said-tag_of type.Boolean is = tt
  said-tag_of type.Byte is = tt
  said-tag_of type.Char is = tt
  said-tag_of type.Short is = tt
  said-tag_of type.Int is = tt
  said-tag_of type.Long is = tt
  said-tag_of type.Float is = tt
  said-tag_of type.Double is = tt
  said-tag_of (Class name) is = is
  said-tag_of (Array element) is = is

  said-result : (result : Option JType) → IfSome result (λ type. may_name_type site type ≡ true) → SaidIf (option_map tag_of result)
  said-result None is = tt
  said-result (Some one) is = said-tag_of one is

  said-constant : (one : Constant) → may_name site (codes "java/lang/String") ≡ true → IsSaid (constant_tag one)
  said-constant (constant.Int number) string = tt
  said-constant (constant.Long number) string = tt
  said-constant (constant.Text units) string = string
  said-constant (constant.Float bits) string = tt
  said-constant (constant.Double bits) string = tt

  gives-read : (of : Element) → GivesWell (read of)
  gives-read element.Int = tt
  gives-read element.Long = tt
  gives-read element.Float = tt
  gives-read element.Double = tt
  gives-read element.Ref = tt
  gives-read element.Byte = tt
  gives-read element.Char = tt
  gives-read element.Short = tt

  gives-write : (of : Element) → GivesWell (write of)
  gives-write element.Int = tt
  gives-write element.Long = tt
  gives-write element.Float = tt
  gives-write element.Double = tt
  gives-write element.Ref = tt
  gives-write element.Byte = tt
  gives-write element.Char = tt
  gives-write element.Short = tt

  -- a work on numbers, by the tag of their kind
  gives-number : (of : Kind) (made : Tag → Work) → GivesWell (made Int) → GivesWell (made Long) → GivesWell (made Float) → GivesWell (made Double) → GivesWell (of_number (number_tag of) made)
  gives-number kind.Int made ints longs floats doubles = ints
  gives-number kind.Long made ints longs floats doubles = longs
  gives-number kind.Float made ints longs floats doubles = floats
  gives-number kind.Double made ints longs floats doubles = doubles
  gives-number kind.Ref made ints longs floats doubles = tt

  gives-leave : (result : Option JType) (of : Option Kind) → GivesWell (leave result of)
  gives-leave None None = tt
  gives-leave None (Some of) = tt
  gives-leave (Some result) None = tt
  gives-leave (Some result) (Some of) = by (is_kind (kind_of result) of)
    where
      by : (test : Bool) → GivesWell (if test then Plain (Of (tag_of result) ∷ []) None else Never)
      by true = tt
      by false = tt

  gives-birth : (descriptor : Descriptor) (owner : JType) (result : Option JType) → may_name_type site owner ≡ true → GivesWell (birth descriptor owner result)
  gives-birth descriptor owner None is = is
  gives-birth descriptor owner (Some result) is = tt

  gives-special : (code : Code) (descriptor : Descriptor) (owner : JType) (test : Bool) → may_name_type site owner ≡ true → IfSome (result_of descriptor) (λ type. may_name_type site type ≡ true) → GivesWell (if test then birth descriptor owner (result_of descriptor) else super_call code descriptor owner)
  gives-special code descriptor owner true is result = gives-birth descriptor owner (result_of descriptor) is
  gives-special code descriptor owner false is result = said-result (result_of descriptor) result

  -- what numbers are converted to
  said-number : (from : Kind) (one : JType) → has_conversion from one ≡ true → IsSaid (tag_of one)
  said-number from type.Boolean is = tt
  said-number from type.Byte is = tt
  said-number from type.Char is = tt
  said-number from type.Short is = tt
  said-number from type.Int is = tt
  said-number from type.Long is = tt
  said-number from type.Float is = tt
  said-number from type.Double is = tt
  said-number from (Class name) is = absurd (never is)
  said-number from (Array element) is = absurd (never is)

  gives-row : (code : Code) (instruction : Instruction) → RootsAreNamed site → IsNamed site instruction → is_dynamic instruction ≡ false → is_spelled instruction ≡ true → GivesWell (row code instruction)
  gives-row code Nop roots is plain e = tt
  gives-row code PushNull roots is plain e = tt
  gives-row code (Push one) roots is plain e = said-constant one roots.string
  gives-row code (PushClass class) roots is plain e = roots.class
  gives-row code (PushHandle kind interface owner name descriptor) roots is plain e = absurd (never (sym plain))
  gives-row code (PushMethodType descriptor) roots is plain e = absurd (never (sym plain))
  gives-row code (Load kind slot) roots is plain e = tt
  gives-row code (Store kind slot) roots is plain e = tt
  gives-row code (ArrayLoad of) roots is plain e = gives-read of
  gives-row code (ArrayStore of) roots is plain e = gives-write of
  gives-row code Pop roots is plain e = tt
  gives-row code Pop2 roots is plain e = tt
  gives-row code Dup roots is plain e = tt
  gives-row code DupX1 roots is plain e = tt
  gives-row code DupX2 roots is plain e = tt
  gives-row code Dup2 roots is plain e = tt
  gives-row code Dup2X1 roots is plain e = tt
  gives-row code Dup2X2 roots is plain e = tt
  gives-row code Swap roots is plain e = tt
  gives-row code (Calc operation of) roots is plain e = gives-number of (λ tag. Plain (operands operation tag) (Some tag)) tt tt tt tt
  gives-row code (Iinc slot by) roots is plain e = tt
  gives-row code (Convert from to) roots is plain e = gives-number from (λ tag. Plain (Of tag ∷ []) (Some (tag_of to))) (said-number from to e) (said-number from to e) (said-number from to e) (said-number from to e)
  gives-row code (Compare of greater) roots is plain e = gives-number of (λ tag. Plain (Of tag ∷ Of tag ∷ []) (Some Int)) tt tt tt tt
  gives-row code (IfZero test target) roots is plain e = tt
  gives-row code (IfInts test target) roots is plain e = tt
  gives-row code (IfRefs equal target) roots is plain e = tt
  gives-row code (IfNull null target) roots is plain e = tt
  gives-row code (Goto target) roots is plain e = tt
  gives-row code (TableSwitch low targets other) roots is plain e = tt
  gives-row code (LookupSwitch cases other) roots is plain e = tt
  gives-row code (Return of) roots is plain e = gives-leave (result_of code.descriptor) of
  gives-row code (GetStatic field) roots is plain e = said-tag_of field.kind is.kind
  gives-row code (PutStatic field) roots is plain e = tt
  gives-row code (GetField field) roots is plain e = said-tag_of field.kind is.kind
  gives-row code (PutField field) roots is plain e = tt
  gives-row code (InvokeVirtual method) roots is plain e = said-result (result_of method.descriptor) is.0.result
  gives-row code (InvokeSpecial method) roots is plain e = gives-special code method.descriptor method.owner (is_constructor method.name) is.owner is.result
  gives-row code (InvokeStatic method) roots is plain e = said-result (result_of method.descriptor) is.0.result
  gives-row code (InvokeInterface method) roots is plain e = said-result (result_of method.descriptor) is.0.result
  gives-row code (InvokeDynamic bootstrap name descriptor) roots is plain e = absurd (never (sym plain))
  gives-row code (New class) roots is plain e = tt
  gives-row code (NewArray of) roots is plain e = is
  gives-row code (MultiNewArray class sizes) roots is plain e = is
  gives-row code ArrayLength roots is plain e = tt
  gives-row code Throw roots is plain e = tt
  gives-row code (CheckCast class) roots is plain e = is
  gives-row code (InstanceOf class) roots is plain e = tt
  gives-row code MonitorEnter roots is plain e = tt
  gives-row code MonitorExit roots is plain e = tt

  gives-work : (code : Code) (instruction : Instruction) → RootsAreNamed site → IsNamed site instruction → is_dynamic instruction ≡ false → GivesWell (work code instruction)
  gives-work code instruction roots is plain = by (is_spelled instruction) refl
    where
      by : (test : Bool) → is_spelled instruction ≡ test → GivesWell (if test then row code instruction else Never)
      by true e = gives-row code instruction roots is plain e
      by false e = tt

  -- ---- tables

  some-same : (first second : Working) → Some first ≡ Some second → first ≡ second
  some-same first second e = cc

  -- what flows in, if anything does
  abbrev FlowsWell : Option Working → Type 0
  FlowsWell None = Unit {0}
  FlowsWell (Some frame) = SaysWell frame

  module _ (Goes : Assignability) (headers : List Header) (code : Code) (named : may_name_type site (Class code.class) ≡ true) (roots : RootsAreNamed site) (gives : (pc : ℕ) (frame : Working) → given code pc ≡ Some frame → SaysWell frame) where
    here-well : (pc : ℕ) (found flow : Option Working) (frame : Working) → given code pc ≡ found → FlowsWell flow → or_else found flow ≡ Some frame → SaysWell frame
    here-well pc (Some one) flow frame e flows is = gives pc frame (e ∙ is)
    here-well pc None (Some one) frame e flows is = subst SaysWell (some-same one frame is) flows
    here-well pc None None frame e flows is = absurd (no frame is)
      where
        no : (frame : Working) → None ≡ Some frame → ⊥
        no frame e = cc

    behind-well : (place : rules_of.Place) (frame : Working) → IsNamed site place.instruction → is_dynamic place.instruction ≡ false → SaysWell frame → FlowsWell (flow_behind code place frame)
    behind-well place frame is plain says = by (falls place.instruction)
      where
        by : (test : Bool) → FlowsWell (if test then Some (effect_at code place frame) else None)
        by true = says-effect code named place.pc (work code place.instruction) frame (gives-work code place.instruction roots is plain) says
        by false = tt

    pub table-well : (flow : Option Working) (part : Instructions) (frames : List Working) → FlowsWell flow → ((one : ℕ × Instruction) → Contains part one → IsNamed site one.1 × (is_dynamic one.1 ≡ false)) → AreFrames Goes headers code flow part frames → (place : ℕ) (frame : Working) → slice_get frames place ≡ Some frame → SaysWell frame
    table-well flow part [] flows all are place frame e = absurd (no frame e)
      where
        no : (frame : Working) → None ≡ Some frame → ⊥
        no frame e = cc
    table-well flow [] (first ∷ frames) flows all are place frame e = absurd are
    table-well flow (first ∷ rest) (head ∷ frames) flows all are zero frame e = subst SaysWell (some-same head frame e) (here-well first.0 (given code first.0) flow head refl flows are.0)
    table-well flow (first ∷ rest) (head ∷ frames) flows all are (suc place) frame e =
        let at : rules_of.Place = record { flow = flow; pc = first.0; instruction = first.1; rest = rest } in
        let here = all first (0, omega arith, refl) in
        table-well (flow_behind code at head) rest frames (behind-well at head here.0 here.1 (here-well first.0 (given code first.0) flow head refl flows are.0))
        (λ one h. all one (suc h.0, omega (arith, h.1), h.2)) are.2 place frame e

  -- ---- the first frame

  said-slots : (tag : Tag) → IsSaid tag → AreSaid (slots_of tag)
  said-slots Top is = (tt, tt)
  said-slots Int is = (tt, tt)
  said-slots Float is = (tt, tt)
  said-slots Double is = (tt, (tt, tt))
  said-slots Long is = (tt, (tt, tt))
  said-slots Null is = (tt, tt)
  said-slots UnbornThis is = (tt, tt)
  said-slots (Object one) is = (is, tt)
  said-slots (Unborn pc) is = (tt, tt)

  said-values : (tags : List Tag) → AreSaid tags → AreSaid (flat_map slots_of tags)
  said-values [] are = tt
  said-values (first ∷ rest) are = said-append (slots_of first) (flat_map slots_of rest) (said-slots first are.0) (said-values rest are.1)

  said-parameters : (parameters : List JType) → AreNamed site parameters → AreSaid (map tag_of parameters)
  said-parameters [] are = tt
  said-parameters (first ∷ rest) are = (said-tag_of first are.0, said-parameters rest are.1)

  said-this : (class : Name) (method : MethodOf) → may_name_type site (Class class) ≡ true → IsSaid (this_of class method)
  said-this class method named = by (has_unborn_this class method.name)
    where
      by : (test : Bool) → IsSaid (if test then UnbornThis else Object (Class class))
      by true = tt
      by false = named

  said-receiver : (class : Name) (method : MethodOf) → may_name_type site (Class class) ≡ true → AreSaid (receiver_of class method)
  said-receiver class method named = by (bit_and method.flags 8 == 0)
    where
      by : (test : Bool) → AreSaid (if test then this_of class method ∷ [] else [])
      by true = (said-this class method named, tt)
      by false = tt

  said-entry : (class : Name) (method : MethodOf) → may_name_type site (Class class) ≡ true → AreNamed site (parameters_of method.descriptor) → AreSaid (entry_values class method)
  said-entry class method named are = said-append (receiver_of class method) (map tag_of (parameters_of method.descriptor)) (said-receiver class method named) (said-parameters (parameters_of method.descriptor) are)

  pub entry-well : (code : Code) → may_name_type site (Class code.class) ≡ true → AreNamed site (parameters_of code.descriptor) → SaysWell (entry code)
  entry-well code named are = record {
    locals = said-append (flat_map slots_of (entry_values code.class (head_of code))) (replicate (code.max_locals - length (flat_map slots_of (entry_values code.class (head_of code)))) Top)
        (said-values (entry_values code.class (head_of code)) (said-entry code.class (head_of code) named are))
        (said-tops (code.max_locals - length (flat_map slots_of (entry_values code.class (head_of code)))));
    stack = tt;
  }

  -- ---- slots

  pub said-slot : (code : Code) (frame : Working) (slot : ℕ) (tag : Tag) → SaysWell frame → slot_tag code frame slot ≡ Some tag → IsSaid tag
  said-slot code frame slot tag says e = by (nat_lt slot code.max_locals) e
    where
      by : (test : Bool) → (if test then slice_get frame.locals slot else from_bottom frame.stack (slot - code.max_locals)) ≡ Some tag → IsSaid tag
      by true e = subst IsSaid (ap or_top e) (said-get frame.locals slot says.locals)
      by false e = said-from_bottom frame.stack (slot - code.max_locals) tag says.stack e

  -- the type of a variable that holds what a tag speaks of
  pub type-said : (tag : Tag) (one : JType) → may_name site object_name ≡ true → IsSaid tag → type_of_tag tag ≡ Some one → may_name_type site one ≡ true
  type-said Top one object is e = absurd (cc)
  type-said Int one object is e = subst (λ found. may_name_type site found ≡ true) (one-type type.Int one e) refl
  type-said Float one object is e = subst (λ found. may_name_type site found ≡ true) (one-type type.Float one e) refl
  type-said Double one object is e = subst (λ found. may_name_type site found ≡ true) (one-type type.Double one e) refl
  type-said Long one object is e = subst (λ found. may_name_type site found ≡ true) (one-type type.Long one e) refl
  type-said Null one object is e = subst (λ found. may_name_type site found ≡ true) (one-type (Class object_name) one e) object
  type-said UnbornThis one object is e = absurd (cc)
  type-said (Object spoken) one object is e = subst (λ found. may_name_type site found ≡ true) (one-type spoken one e) is
  type-said (Unborn pc) one object is e = absurd (cc)
