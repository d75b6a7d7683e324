-- Objects that aren't born among the tags of a frame, and what an instruction leaves of them.
use Rattle.std.proofs.Common.{◌≡◌, ℕ, zero, suc, ◌-◌, ◌+◌, ◌==◌, Bool, true, false, List, [], ◌∷◌, ◌++◌, length, map, drop, take, replicate, Option, Some, None, refl, sym, ◌∙◌, subst}
use Rattle.std.specs.Prelude.{if◌then◌else◌, option_map, slice_get, slice_set, bit_and, ◌||◌}
use Rattle.std.specs.List.{flat_map}
use Rattle.std.specs.Option.{option_and_then}
use Rattle.std.proofs.lemmas.Bool.{eq-eqb}
use Rattle.dj_names.specs.declared.members.Constant.{Constant}
use Rattle.dj_names.specs.declared.members.Constant.TheVariants as constant
use Rattle.dj_names.specs.Types as type
use Rattle.dj_names.specs.Types.{JType, Class, Array, Descriptor, parameters_of, result_of}
use Rattle.dj_names.specs.MethodNames.{is_constructor}
use Rattle.dj_instructions.specs.declared.kinds.Kind.{Kind}
use Rattle.dj_instructions.specs.declared.kinds.Kind.TheVariants as kind
use Rattle.dj_instructions.specs.declared.kinds.Element.{Element}
use Rattle.dj_instructions.specs.declared.kinds.Element.TheVariants as element
use Rattle.dj_instructions.specs.Instructions.{Instruction, Nop, PushNull, Push, PushClass, PushHandle, PushMethodType, Load, Store, ArrayLoad, ArrayStore, Pop, Pop2, Dup, DupX1, DupX2, Dup2, Dup2X1, Dup2X2, Swap, Calc, Iinc, Convert, Compare, IfZero, IfInts, IfRefs, IfNull, Goto, TableSwitch, LookupSwitch, Return, GetStatic, PutStatic, GetField, PutField, InvokeVirtual, InvokeSpecial, InvokeStatic, InvokeInterface, InvokeDynamic, New, NewArray, MultiNewArray, ArrayLength, Throw, CheckCast, InstanceOf, MonitorEnter, MonitorExit}
use Rattle.dj_frames.specs.Frames.{Tag, Top, Int, Float, Double, Long, Null, UnbornThis, Object, Unborn, slots_of, is_unborn_this, is_unborn_at, tag_of, has_unborn_this, this_of, receiver_of, entry_values}
use Rattle.dj_code.specs.MethodCode.{Code}
use Rattle.dj_tags.specs.Goes.{Assignability, Working, words, LocalGoes, EntriesGo, LocalsGo, FrameGoes}
use Rattle.dj_effects.specs.Works.{Of, Form, Work, Plain, Moves, Loads, Stores, Counts, Makes, Bears, Elements, Sets, Supers, Leaves, Never}
use Rattle.dj_effects.specs.Spelled.{is_spelled, is_kind}
use Rattle.dj_effects.specs.Operands.{form_of, moved_words, under, element_tag}
use Rattle.dj_effects.specs.Effects.{or_top, pushed, picked, moved, cut_below, stored, instead, borne, effect}
use Rattle.dj_effects.specs.Rows.{number_tag, constant_tag, kind_of, birth, super_call, of_number, operands, read, write, leave, row, work}
use Rattle.dj_verify.specs.Rules.{head_of, entry}
use Rattle.dj_rebuildable.specs.Beside.{is_unborn, is_open}

-- ---- what is asked of objects that aren't born

-- nothing but this of an object that isn't born: of `this` the one, of one that a `new` made the other, by its offset
abbrev pub Fine : Type 0 → (ℕ → Type 0) → Tag → Type 0
Fine U Q Top = Unit {0}
Fine U Q Int = Unit {0}
Fine U Q Float = Unit {0}
Fine U Q Double = Unit {0}
Fine U Q Long = Unit {0}
Fine U Q Null = Unit {0}
Fine U Q UnbornThis = U
Fine U Q (Object type) = Unit {0}
Fine U Q (Unborn pc) = Q pc

abbrev pub AllFine : Type 0 → (ℕ → Type 0) → List Tag → Type 0
AllFine U Q [] = Unit {0}
AllFine U Q (first ∷ rest) = Fine U Q first × AllFine U Q rest

-- none that a `new` made
abbrev pub Nowhere : ℕ → Type 0
Nowhere start = ⊥

-- what a frame says: in locals no object that a `new` made is unborn
pub record IsFine (U : Type 0) (Q : ℕ → Type 0) (frame : Working) : Type 0 where
  pub locals : AllFine U Nowhere frame.locals
  pub stack : AllFine U Q frame.stack

pub fine-wider : (U V : Type 0) (Q R : ℕ → Type 0) → (U → V) → ((start : ℕ) → Q start → R start) → (tag : Tag) → Fine U Q tag → Fine V R tag
fine-wider U V Q R u h Top is = tt
fine-wider U V Q R u h Int is = tt
fine-wider U V Q R u h Float is = tt
fine-wider U V Q R u h Double is = tt
fine-wider U V Q R u h Long is = tt
fine-wider U V Q R u h Null is = tt
fine-wider U V Q R u h UnbornThis is = u is
fine-wider U V Q R u h (Object type) is = tt
fine-wider U V Q R u h (Unborn pc) is = h pc is

pub all-wider : (U V : Type 0) (Q R : ℕ → Type 0) → (U → V) → ((start : ℕ) → Q start → R start) → (tags : List Tag) → AllFine U Q tags → AllFine V R tags
all-wider U V Q R u h [] are = tt
all-wider U V Q R u h (first ∷ rest) are = (fine-wider U V Q R u h first are.0, all-wider U V Q R u h rest are.1)

-- two things of each
fine-both : (U V : Type 0) (Q R : ℕ → Type 0) → (tag : Tag) → Fine U Q tag → Fine V R tag → Fine V (λ start. Q start × R start) tag
fine-both U V Q R Top is so = tt
fine-both U V Q R Int is so = tt
fine-both U V Q R Float is so = tt
fine-both U V Q R Double is so = tt
fine-both U V Q R Long is so = tt
fine-both U V Q R Null is so = tt
fine-both U V Q R UnbornThis is so = so
fine-both U V Q R (Object type) is so = tt
fine-both U V Q R (Unborn pc) is so = (is, so)

pub all-both : (U V : Type 0) (Q R : ℕ → Type 0) → (tags : List Tag) → AllFine U Q tags → AllFine V R tags → AllFine V (λ start. Q start × R start) tags
all-both U V Q R [] are those = tt
all-both U V Q R (first ∷ rest) are those = (fine-both U V Q R first are.0 those.0, all-both U V Q R rest are.1 those.1)

-- no object is unborn where none is open
born-fine : (Q : ℕ → Type 0) → (tag : Tag) → is_unborn tag ≡ false → Fine ⊥ Q tag
born-fine Q Top e = tt
born-fine Q Int e = tt
born-fine Q Float e = tt
born-fine Q Double e = tt
born-fine Q Long e = tt
born-fine Q Null e = tt
born-fine Q UnbornThis e = cc
born-fine Q (Object type) e = tt
born-fine Q (Unborn pc) e = absurd (cc)

pub closed-fine : (Q : ℕ → Type 0) → (tags : List Tag) → is_open tags ≡ false → AllFine ⊥ Q tags
closed-fine Q [] e = tt
closed-fine Q (first ∷ rest) e = by (is_unborn first) refl e (closed-fine Q rest)
  where
    by : (test : Bool) → is_unborn first ≡ test → (test || is_open rest) ≡ false → (is_open rest ≡ false → AllFine ⊥ Q rest) → AllFine ⊥ Q (first ∷ rest)
    by true is e below = absurd (cc)
    by false is e below = (born-fine Q first is, below e)

-- and one that a `new` made is, where some is open
pub open-one : (Q : ℕ → Type 0) → (tags : List Tag) → AllFine ⊥ Q tags → is_open tags ≡ true → (start : ℕ) × Q start
open-one Q [] are e = absurd (cc)
open-one Q (Top ∷ rest) are e = open-one Q rest are.1 e
open-one Q (Int ∷ rest) are e = open-one Q rest are.1 e
open-one Q (Float ∷ rest) are e = open-one Q rest are.1 e
open-one Q (Double ∷ rest) are e = open-one Q rest are.1 e
open-one Q (Long ∷ rest) are e = open-one Q rest are.1 e
open-one Q (Null ∷ rest) are e = open-one Q rest are.1 e
open-one Q (UnbornThis ∷ rest) are e = absurd are.0
open-one Q (Object type ∷ rest) are e = open-one Q rest are.1 e
open-one Q (Unborn pc ∷ rest) are e = (pc, are.0)

-- each says that some is open
pub opens : (Q : ℕ → Type 0) → (tags : List Tag) → AllFine ⊥ Q tags → AllFine ⊥ (λ start. is_open tags ≡ true) tags
opens Q [] are = tt
opens Q (Top ∷ rest) are = (tt, opens Q rest are.1)
opens Q (Int ∷ rest) are = (tt, opens Q rest are.1)
opens Q (Float ∷ rest) are = (tt, opens Q rest are.1)
opens Q (Double ∷ rest) are = (tt, opens Q rest are.1)
opens Q (Long ∷ rest) are = (tt, opens Q rest are.1)
opens Q (Null ∷ rest) are = (tt, opens Q rest are.1)
opens Q (UnbornThis ∷ rest) are = absurd are.0
opens Q (Object type ∷ rest) are = (tt, opens Q rest are.1)
opens Q (Unborn pc ∷ rest) are = (refl, all-wider ⊥ ⊥ Q (λ start. true ≡ true) (λ none. none) (λ start is. refl) rest are.1)

pub none-open : (tags : List Tag) → AllFine ⊥ Nowhere tags → is_open tags ≡ false
none-open [] are = refl
none-open (Top ∷ rest) are = none-open rest are.1
none-open (Int ∷ rest) are = none-open rest are.1
none-open (Float ∷ rest) are = none-open rest are.1
none-open (Double ∷ rest) are = none-open rest are.1
none-open (Long ∷ rest) are = none-open rest are.1
none-open (Null ∷ rest) are = none-open rest are.1
none-open (UnbornThis ∷ rest) are = absurd are.0
none-open (Object type ∷ rest) are = none-open rest are.1
none-open (Unborn pc ∷ rest) are = absurd are.0

-- ---- lists

module _ (U : Type 0) (Q : ℕ → Type 0) where
  pub fine-get : (tags : List Tag) (slot : ℕ) → AllFine U Q tags → Fine U Q (or_top (slice_get tags slot))
  fine-get [] slot are = tt
  fine-get (first ∷ rest) zero are = are.0
  fine-get (first ∷ rest) (suc slot) are = fine-get rest slot are.1

  pub fine-drop : (tags : List Tag) (count : ℕ) → AllFine U Q tags → AllFine U Q (drop count tags)
  fine-drop [] zero are = tt
  fine-drop [] (suc count) are = tt
  fine-drop (first ∷ rest) zero are = are
  fine-drop (first ∷ rest) (suc count) are = fine-drop rest count are.1

  fine-first : (tags : List Tag) → AllFine U Q tags → AllFine U Q (take 1 tags)
  fine-first [] are = tt
  fine-first (first ∷ rest) are = (are.0, tt)

  fine-append : (tags others : List Tag) → AllFine U Q tags → AllFine U Q others → AllFine U Q (tags ++ others)
  fine-append [] others are those = those
  fine-append (first ∷ rest) others are those = (are.0, fine-append rest others are.1 those)

  fine-set : (tags : List Tag) (slot : ℕ) (tag : Tag) → AllFine U Q tags → Fine U Q tag → AllFine U Q (slice_set tags slot tag)
  fine-set [] slot tag are is = tt
  fine-set (first ∷ rest) zero tag are is = (is, are.1)
  fine-set (first ∷ rest) (suc slot) tag are is = (are.0, fine-set rest slot tag are.1 is)

  fine-if : (test : Bool) (first second : List Tag) → AllFine U Q first → AllFine U Q second → AllFine U Q (if test then first else second)
  fine-if true first second are those = are
  fine-if false first second are those = those

  fine-instead : (test : Tag → Bool) (now : Tag) (tags : List Tag) → Fine U Q now → AllFine U Q tags → AllFine U Q (map (instead test now) tags)
  fine-instead test now [] is are = tt
  fine-instead test now (first ∷ rest) is are = (one (test first), fine-instead test now rest is are.1)
    where
      one : (passes : Bool) → Fine U Q (if passes then now else first)
      one true = is
      one false = are.0

  fine-tops : (count : ℕ) → AllFine U Q (replicate count Top)
  fine-tops zero = tt
  fine-tops (suc count) = (tt, fine-tops count)

  fine-picked : (places : List ℕ) (tags : List Tag) → AllFine U Q tags → AllFine U Q (picked places tags)
  fine-picked [] tags are = tt
  fine-picked (place ∷ places) tags are = fine-append (take 1 (drop place tags)) (picked places tags) (fine-first (drop place tags) (fine-drop tags place are)) (fine-picked places tags are)

  fine-moved : (form : Option Form) (tags : List Tag) → AllFine U Q tags → AllFine U Q (moved form tags)
  fine-moved None tags are = are
  fine-moved (Some form) tags are = fine-append (picked form.gives tags) (drop (length form.takes) tags) (fine-picked form.gives tags are) (fine-drop tags (length form.takes) are)

  fine-cut : (slot : ℕ) (tags : List Tag) → AllFine U Q tags → AllFine U Q (cut_below slot tags)
  fine-cut zero tags are = are
  fine-cut (suc below) tags are = fine-if (words (or_top (slice_get tags below)) == 2) (slice_set tags below Top) tags (fine-set tags below Top are tt) are

  fine-stored : (slot : ℕ) (tag : Tag) (tags : List Tag) → Fine U Q tag → AllFine U Q tags → AllFine U Q (stored slot tag tags)
  fine-stored slot tag tags is are =
      let there = fine-set (cut_below slot tags) slot tag (fine-cut slot tags are) is in
      fine-if (words tag == 2) (slice_set (slice_set (cut_below slot tags) slot tag) (slot + 1) Top) (slice_set (cut_below slot tags) slot tag)
      (fine-set (slice_set (cut_below slot tags) slot tag) (slot + 1) Top there tt) there

  -- what is read from an array of references
  fine-element : (tag : Option Tag) → Fine U Q (or_top (option_and_then element_tag tag))
  fine-element None = tt
  fine-element (Some Top) = tt
  fine-element (Some Int) = tt
  fine-element (Some Float) = tt
  fine-element (Some Double) = tt
  fine-element (Some Long) = tt
  fine-element (Some Null) = tt
  fine-element (Some UnbornThis) = tt
  fine-element (Some (Unborn pc)) = tt
  fine-element (Some (Object type.Boolean)) = tt
  fine-element (Some (Object type.Byte)) = tt
  fine-element (Some (Object type.Char)) = tt
  fine-element (Some (Object type.Short)) = tt
  fine-element (Some (Object type.Int)) = tt
  fine-element (Some (Object type.Long)) = tt
  fine-element (Some (Object type.Float)) = tt
  fine-element (Some (Object type.Double)) = tt
  fine-element (Some (Object (Class name))) = tt
  fine-element (Some (Object (Array type.Boolean))) = tt
  fine-element (Some (Object (Array type.Byte))) = tt
  fine-element (Some (Object (Array type.Char))) = tt
  fine-element (Some (Object (Array type.Short))) = tt
  fine-element (Some (Object (Array type.Int))) = tt
  fine-element (Some (Object (Array type.Long))) = tt
  fine-element (Some (Object (Array type.Float))) = tt
  fine-element (Some (Object (Array type.Double))) = tt
  fine-element (Some (Object (Array (Class name)))) = tt
  fine-element (Some (Object (Array (Array element)))) = tt

  fine-tag_of : (one : JType) → Fine U Q (tag_of one)
  fine-tag_of type.Boolean = tt
  fine-tag_of type.Byte = tt
  fine-tag_of type.Char = tt
  fine-tag_of type.Short = tt
  fine-tag_of type.Int = tt
  fine-tag_of type.Long = tt
  fine-tag_of type.Float = tt
  fine-tag_of type.Double = tt
  fine-tag_of (Class name) = tt
  fine-tag_of (Array element) = tt

  -- ---- what works give

  abbrev FineIf : Option Tag → Type 0
  FineIf None = Unit {0}
  FineIf (Some tag) = Fine U Q tag

  fine-pushed : (gives : Option Tag) (tags : List Tag) → FineIf gives → AllFine U Q tags → AllFine U Q (pushed gives tags)
  fine-pushed None tags is are = are
  fine-pushed (Some tag) tags is are = (is, are)

  abbrev Gives : Work → Type 0
  Gives (Plain wants gives) = FineIf gives
  Gives (Moves forms) = Unit {0}
  Gives (Loads kind slot) = Unit {0}
  Gives (Stores kind slot) = Unit {0}
  Gives (Counts slot) = Unit {0}
  Gives Makes = Unit {0}
  Gives (Bears wants owner) = Unit {0}
  Gives Elements = Unit {0}
  Gives (Sets type owner) = Unit {0}
  Gives (Supers owner wants gives) = FineIf gives
  Gives Leaves = Unit {0}
  Gives Never = Unit {0}

  gives-result : (result : Option JType) → FineIf (option_map tag_of result)
  gives-result None = tt
  gives-result (Some one) = fine-tag_of one

  gives-constant : (one : Constant) → Fine U Q (constant_tag one)
  gives-constant (constant.Int number) = tt
  gives-constant (constant.Long number) = tt
  gives-constant (constant.Text units) = tt
  gives-constant (constant.Float bits) = tt
  gives-constant (constant.Double bits) = tt

  gives-read : (of : Element) → Gives (read of)
  gives-read element.Int = tt
  gives-read element.Long = tt
  gives-read element.Float = tt
  gives-read element.Double = tt
  gives-read element.Ref = tt
  gives-read element.Byte = tt
  gives-read element.Char = tt
  gives-read element.Short = tt

  gives-write : (of : Element) → Gives (write of)
  gives-write element.Int = tt
  gives-write element.Long = tt
  gives-write element.Float = tt
  gives-write element.Double = tt
  gives-write element.Ref = tt
  gives-write element.Byte = tt
  gives-write element.Char = tt
  gives-write element.Short = tt

  gives-number : (of : Kind) (made : Tag → Work) → Gives (made Int) → Gives (made Long) → Gives (made Float) → Gives (made Double) → Gives (of_number (number_tag of) made)
  gives-number kind.Int made ints longs floats doubles = ints
  gives-number kind.Long made ints longs floats doubles = longs
  gives-number kind.Float made ints longs floats doubles = floats
  gives-number kind.Double made ints longs floats doubles = doubles
  gives-number kind.Ref made ints longs floats doubles = tt

  gives-leave : (result : Option JType) (of : Option Kind) → Gives (leave result of)
  gives-leave None None = tt
  gives-leave None (Some of) = tt
  gives-leave (Some result) None = tt
  gives-leave (Some result) (Some of) = by (is_kind (kind_of result) of)
    where
      by : (test : Bool) → Gives (if test then Plain (Of (tag_of result) ∷ []) None else Never)
      by true = tt
      by false = tt

  gives-birth : (descriptor : Descriptor) (owner : JType) (result : Option JType) → Gives (birth descriptor owner result)
  gives-birth descriptor owner None = tt
  gives-birth descriptor owner (Some result) = tt

  gives-special : (code : Code) (descriptor : Descriptor) (owner : JType) (test : Bool) → Gives (if test then birth descriptor owner (result_of descriptor) else super_call code descriptor owner)
  gives-special code descriptor owner true = gives-birth descriptor owner (result_of descriptor)
  gives-special code descriptor owner false = gives-result (result_of descriptor)

  gives-row : (code : Code) (instruction : Instruction) → Gives (row code instruction)
  gives-row code Nop = tt
  gives-row code PushNull = tt
  gives-row code (Push one) = gives-constant one
  gives-row code (PushClass class) = tt
  gives-row code (PushHandle kind interface owner name descriptor) = tt
  gives-row code (PushMethodType descriptor) = tt
  gives-row code (Load kind slot) = tt
  gives-row code (Store kind slot) = tt
  gives-row code (ArrayLoad of) = gives-read of
  gives-row code (ArrayStore of) = gives-write of
  gives-row code Pop = tt
  gives-row code Pop2 = tt
  gives-row code Dup = tt
  gives-row code DupX1 = tt
  gives-row code DupX2 = tt
  gives-row code Dup2 = tt
  gives-row code Dup2X1 = tt
  gives-row code Dup2X2 = tt
  gives-row code Swap = tt
  gives-row code (Calc operation of) = gives-number of (λ tag. Plain (operands operation tag) (Some tag)) tt tt tt tt
  gives-row code (Iinc slot by) = tt
  gives-row code (Convert from to) = gives-number from (λ tag. Plain (Of tag ∷ []) (Some (tag_of to))) (fine-tag_of to) (fine-tag_of to) (fine-tag_of to) (fine-tag_of to)
  gives-row code (Compare of greater) = gives-number of (λ tag. Plain (Of tag ∷ Of tag ∷ []) (Some Int)) tt tt tt tt
  gives-row code (IfZero test target) = tt
  gives-row code (IfInts test target) = tt
  gives-row code (IfRefs equal target) = tt
  gives-row code (IfNull null target) = tt
  gives-row code (Goto target) = tt
  gives-row code (TableSwitch low targets other) = tt
  gives-row code (LookupSwitch cases other) = tt
  gives-row code (Return of) = gives-leave (result_of code.descriptor) of
  gives-row code (GetStatic field) = fine-tag_of field.kind
  gives-row code (PutStatic field) = tt
  gives-row code (GetField field) = fine-tag_of field.kind
  gives-row code (PutField field) = tt
  gives-row code (InvokeVirtual method) = gives-result (result_of method.descriptor)
  gives-row code (InvokeSpecial method) = gives-special code method.descriptor method.owner (is_constructor method.name)
  gives-row code (InvokeStatic method) = gives-result (result_of method.descriptor)
  gives-row code (InvokeInterface method) = gives-result (result_of method.descriptor)
  gives-row code (InvokeDynamic bootstrap name descriptor) = gives-result (result_of descriptor)
  gives-row code (New class) = tt
  gives-row code (NewArray of) = tt
  gives-row code (MultiNewArray class sizes) = tt
  gives-row code ArrayLength = tt
  gives-row code Throw = tt
  gives-row code (CheckCast class) = tt
  gives-row code (InstanceOf class) = tt
  gives-row code MonitorEnter = tt
  gives-row code MonitorExit = tt

  gives-work : (code : Code) (instruction : Instruction) → Gives (work code instruction)
  gives-work code instruction = by (is_spelled instruction)
    where
      by : (test : Bool) → Gives (if test then row code instruction else Never)
      by true = gives-row code instruction
      by false = tt

-- ---- effects

-- what a list begins with
abbrev pub first_of : List Tag → Option Tag
first_of [] = None
first_of (first ∷ rest) = Some first

-- a work constructs the object of a `new`
abbrev pub Constructs : Work → Working → ℕ → Type 0
Constructs (Plain wants gives) frame start = ⊥
Constructs (Moves forms) frame start = ⊥
Constructs (Loads kind slot) frame start = ⊥
Constructs (Stores kind slot) frame start = ⊥
Constructs (Counts slot) frame start = ⊥
Constructs Makes frame start = ⊥
Constructs (Bears wants owner) frame start = first_of (under wants frame.stack) ≡ Some (Unborn start)
Constructs Elements frame start = ⊥
Constructs (Sets type owner) frame start = ⊥
Constructs (Supers owner wants gives) frame start = ⊥
Constructs Leaves frame start = ⊥
Constructs Never frame start = ⊥

-- behind the call of its constructor no object of a `new` is unborn
born-instead : (U : Type 0) (Q R : ℕ → Type 0) (owner : JType) (pc : ℕ) → ((start : ℕ) → Q start → ((Some (Unborn pc) ≡ Some (Unborn start)) → ⊥) → R start) → (tags : List Tag) → AllFine U Q tags → AllFine U R (map (instead (is_unborn_at pc) (Object owner)) tags)
born-instead U Q R owner pc keep [] are = tt
born-instead U Q R owner pc keep (first ∷ rest) are = (one first are.0, born-instead U Q R owner pc keep rest are.1)
  where
    same-start : (start : ℕ) → Some (Unborn pc) ≡ Some (Unborn start) → start ≡ pc
    same-start start e = cc

    never : false ≡ true → ⊥
    never e = cc

    other : (start : ℕ) → Q start → (test : Bool) → start == pc ≡ test → Fine U R (if test then Object owner else Unborn start)
    other start is true e = tt
    other start is false e = keep start is (λ same. never (sym e ∙ eq-eqb start pc (same-start start same)))

    one : (tag : Tag) → Fine U Q tag → Fine U R (instead (is_unborn_at pc) (Object owner) tag)
    one Top is = tt
    one Int is = tt
    one Float is = tt
    one Double is = tt
    one Long is = tt
    one Null is = tt
    one UnbornThis is = is
    one (Object type) is = tt
    one (Unborn start) is = other start is (start == pc) refl

module _ (U : Type 0) (Q R : ℕ → Type 0) (code : Code) (pc : ℕ) (frame : Working) (fine : IsFine U Q frame) where
  -- a tag that isn't an object of a `new`
  same-tag : (one : Tag) (start : ℕ) → Some one ≡ Some (Unborn start) → one ≡ Unborn start
  same-tag one start e = cc

  as-it-is : ((start : ℕ) → Q start → R start) → IsFine U R frame
  as-it-is keep = record { locals = fine.locals; stack = all-wider U U Q R (λ u. u) keep frame.stack fine.stack }

  fine-borne : (owner : JType) (tags : List Tag) → AllFine U Q tags → ((start : ℕ) → Q start → (first_of tags ≡ Some (Unborn start) → ⊥) → R start) → IsFine U R (borne code owner frame tags)
  fine-borne owner [] are keep = as-it-is (λ start is. keep start is (λ e. absurd (cc)))
  fine-borne owner (Top ∷ below) are keep = as-it-is (λ start is. keep start is (λ e. absurd (cc)))
  fine-borne owner (Int ∷ below) are keep = as-it-is (λ start is. keep start is (λ e. absurd (cc)))
  fine-borne owner (Float ∷ below) are keep = as-it-is (λ start is. keep start is (λ e. absurd (cc)))
  fine-borne owner (Double ∷ below) are keep = as-it-is (λ start is. keep start is (λ e. absurd (cc)))
  fine-borne owner (Long ∷ below) are keep = as-it-is (λ start is. keep start is (λ e. absurd (cc)))
  fine-borne owner (Null ∷ below) are keep = as-it-is (λ start is. keep start is (λ e. absurd (cc)))
  fine-borne owner (UnbornThis ∷ below) are keep = record {
    locals = fine-instead U Nowhere is_unborn_this (Object (Class code.class)) frame.locals tt fine.locals;
    stack = fine-instead U R is_unborn_this (Object (Class code.class)) below tt (all-wider U U Q R (λ u. u) (λ start is. keep start is (λ e. absurd (cc))) below are.1);
  }
  fine-borne owner (Object type ∷ below) are keep = as-it-is (λ start is. keep start is (λ e. absurd (cc)))
  fine-borne owner (Unborn start ∷ below) are keep = record { locals = fine-instead U Nowhere (is_unborn_at start) (Object owner) frame.locals tt fine.locals; stack = born-instead U Q R owner start keep below are.1 }

  -- what an instruction leaves: objects that were unborn before it, but for that which it constructs, and that which a `new` makes
  fine-work : (work : Work) → Gives U R work → ((start : ℕ) → Q start → (Constructs work frame start → ⊥) → R start) → (work ≡ Makes → R pc) → ((kind : Kind) (slot : ℕ) → work ≡ Stores kind slot → Fine U Nowhere (or_top (slice_get frame.stack 0)))
      → IsFine U R (effect code pc work frame)
  fine-work (Plain wants gives) is keep made stores = record { locals = fine.locals; stack = fine-pushed U R gives (under wants frame.stack) is (fine-drop U R frame.stack (length wants) (all-wider U U Q R (λ u. u) (λ start q. keep start q (λ no. no)) frame.stack fine.stack)) }
  fine-work (Moves forms) is keep made stores = record { locals = fine.locals; stack = fine-moved U R (form_of forms (map moved_words frame.stack)) frame.stack (all-wider U U Q R (λ u. u) (λ start q. keep start q (λ no. no)) frame.stack fine.stack) }
  fine-work (Loads kind slot) is keep made stores = record {
    locals = fine.locals;
    stack = (fine-get U R frame.locals slot (all-wider U U Nowhere R (λ u. u) (λ start none. absurd none) frame.locals fine.locals), all-wider U U Q R (λ u. u) (λ start q. keep start q (λ no. no)) frame.stack fine.stack);
  }
  fine-work (Stores kind slot) is keep made stores = record {
    locals = fine-stored U Nowhere slot (or_top (slice_get frame.stack 0)) frame.locals (stores kind slot refl) fine.locals;
    stack = fine-drop U R frame.stack 1 (all-wider U U Q R (λ u. u) (λ start q. keep start q (λ no. no)) frame.stack fine.stack);
  }
  fine-work (Counts slot) is keep made stores = as-it-is (λ start q. keep start q (λ no. no))
  fine-work Makes is keep made stores = record { locals = fine-instead U Nowhere (is_unborn_at pc) Top frame.locals tt fine.locals; stack = (made refl, all-wider U U Q R (λ u. u) (λ start q. keep start q (λ no. no)) frame.stack fine.stack) }
  fine-work (Bears wants owner) is keep made stores = fine-borne owner (under wants frame.stack) (fine-drop U Q frame.stack (length wants) fine.stack) keep
  fine-work Elements is keep made stores = record { locals = fine.locals; stack = (fine-element U R (slice_get frame.stack 1), fine-drop U R frame.stack 2 (all-wider U U Q R (λ u. u) (λ start q. keep start q (λ no. no)) frame.stack fine.stack)) }
  fine-work (Sets one owner) is keep made stores = record { locals = fine.locals; stack = fine-drop U R frame.stack 2 (all-wider U U Q R (λ u. u) (λ start q. keep start q (λ no. no)) frame.stack fine.stack) }
  fine-work (Supers owner wants gives) is keep made stores = record { locals = fine.locals; stack = fine-pushed U R gives (under wants frame.stack) is (fine-drop U R frame.stack (length wants) (all-wider U U Q R (λ u. u) (λ start q. keep start q (λ no. no)) frame.stack fine.stack)) }
  fine-work Leaves is keep made stores = as-it-is (λ start q. keep start q (λ no. no))
  fine-work Never is keep made stores = as-it-is (λ start q. keep start q (λ no. no))

  pub fine-effect : (instruction : Instruction) → ((start : ℕ) → Q start → (Constructs (work code instruction) frame start → ⊥) → R start) → (work code instruction ≡ Makes → R pc)
      → ((kind : Kind) (slot : ℕ) → work code instruction ≡ Stores kind slot → Fine U Nowhere (or_top (slice_get frame.stack 0))) → IsFine U R (effect code pc (work code instruction) frame)
  fine-effect instruction keep made stores = fine-work (work code instruction) (gives-work U R code instruction) keep made stores

-- ---- where a frame goes

module _ (U : Type 0) (Q : ℕ → Type 0) (Goes : Assignability) where
  fine-goes : (from to : Tag) → LocalGoes Goes from to → Fine U Q from → Fine U Q to
  fine-goes from Top goes is = tt
  fine-goes from Int goes is = tt
  fine-goes from Float goes is = tt
  fine-goes from Double goes is = tt
  fine-goes from Long goes is = tt
  fine-goes from Null goes is = tt
  fine-goes from UnbornThis goes is = subst (Fine U Q) goes is
  fine-goes from (Object to) goes is = tt
  fine-goes from (Unborn pc) goes is = subst (Fine U Q) goes is

  entries-go : (from to : List Tag) → EntriesGo Goes from to → AllFine U Q from → AllFine U Q to
  entries-go [] [] goes are = tt
  entries-go [] (to ∷ tos) goes are = absurd goes
  entries-go (from ∷ froms) [] goes are = tt
  entries-go (from ∷ froms) (to ∷ tos) goes are = (fine-goes from to goes.0.goes are.0, entries-go froms tos goes.1 are.1)

  locals-go : (from to : List Tag) → LocalsGo Goes from to → AllFine U Q from → AllFine U Q to
  locals-go from [] goes are = tt
  locals-go [] (to ∷ tos) goes are = (fine-goes Top to goes.0 tt, locals-go [] tos goes.1 tt)
  locals-go (from ∷ froms) (to ∷ tos) goes are = (fine-goes from to goes.0 are.0, locals-go froms tos goes.1 are.1)

pub frame-goes : (U : Type 0) (Q : ℕ → Type 0) (Goes : Assignability) (from to : Working) → FrameGoes Goes from to → IsFine U Q from → IsFine U Q to
frame-goes U Q Goes from to goes is = record { locals = locals-go U Nowhere Goes from.locals to.locals goes.locals is.locals; stack = entries-go U Q Goes from.stack to.stack goes.stack is.stack }

-- ---- the first frame

fine-slots : (U : Type 0) (Q : ℕ → Type 0) (tag : Tag) → Fine U Q tag → AllFine U Q (slots_of tag)
fine-slots U Q Top is = (tt, tt)
fine-slots U Q Int is = (tt, tt)
fine-slots U Q Float is = (tt, tt)
fine-slots U Q Double is = (tt, (tt, tt))
fine-slots U Q Long is = (tt, (tt, tt))
fine-slots U Q Null is = (tt, tt)
fine-slots U Q UnbornThis is = (is, tt)
fine-slots U Q (Object one) is = (tt, tt)
fine-slots U Q (Unborn pc) is = (is, tt)

fine-values : (U : Type 0) (Q : ℕ → Type 0) (tags : List Tag) → AllFine U Q tags → AllFine U Q (flat_map slots_of tags)
fine-values U Q [] are = tt
fine-values U Q (first ∷ rest) are = fine-append U Q (slots_of first) (flat_map slots_of rest) (fine-slots U Q first are.0) (fine-values U Q rest are.1)

fine-parameters : (U : Type 0) (Q : ℕ → Type 0) (parameters : List JType) → AllFine U Q (map tag_of parameters)
fine-parameters U Q [] = tt
fine-parameters U Q (first ∷ rest) = (fine-tag_of U Q first, fine-parameters U Q rest)

-- a method begins with nothing unborn but `this`
pub entry-fine : (U : Type 0) (Q : ℕ → Type 0) (code : Code) → (has_unborn_this code.class code.name ≡ true → U) → IsFine U Q (entry code)
entry-fine U Q code own = record {
  locals = fine-append U Nowhere (flat_map slots_of (entry_values code.class (head_of code))) (replicate (code.max_locals - length (flat_map slots_of (entry_values code.class (head_of code)))) Top)
      (fine-values U Nowhere (entry_values code.class (head_of code)) (fine-append U Nowhere (receiver_of code.class (head_of code)) (map tag_of (parameters_of code.descriptor)) (receiver (bit_and code.flags 8 == 0)) (fine-parameters U Nowhere (parameters_of code.descriptor))))
      (fine-tops U Nowhere (code.max_locals - length (flat_map slots_of (entry_values code.class (head_of code)))));
  stack = tt;
}
  where
    itself : (test : Bool) → has_unborn_this code.class code.name ≡ test → Fine U Nowhere (if test then UnbornThis else Object (Class code.class))
    itself true e = own e
    itself false e = tt

    receiver : (test : Bool) → AllFine U Nowhere (if test then this_of code.class (head_of code) ∷ [] else [])
    receiver true = (itself (has_unborn_this code.class code.name) refl, tt)
    receiver false = tt
