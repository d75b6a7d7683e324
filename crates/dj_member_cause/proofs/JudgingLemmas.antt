-- What is told of instructions, by what was found of their members.
use Rattle.std.proofs.Common.{◌≡◌, ◌↔◌, Bool, true, false, not, IsTrue, Some, ℕ, refl, sym, subst, ◌∙◌, inl, inr}
use Rattle.std.specs.Prelude.{⊤}
use Rattle.std.proofs.lemmas.Bool.{false≢true, true≢false}
use Rattle.dj_names.specs.MethodNames.{is_constructor}
use Rattle.dj_values.specs.Values.{Virtual, Interface}
use Rattle.dj_instructions.specs.Instructions.{FieldRef, MethodRef, Instruction, GetStatic, PutStatic, GetField, PutField, InvokeVirtual, InvokeSpecial, InvokeStatic, InvokeInterface}
use Rattle.dj_frames.specs.Frames.{UnbornThis, Unborn, Frame}
use Rattle.dj_static.specs.declared.classes.Classes.{Classes}
use Rattle.dj_meant.specs.Meant.{names_member, IsOfClass, IsOfNew}
use Rattle.dj_member_cause.specs.declared.judging.Judgement.{Judgement}
use Rattle.dj_member_cause.specs.declared.judging.Judgement.TheVariants as judgement
use Rattle.dj_member_cause.specs.Lawful as lawful
use Rattle.dj_member_cause.specs.Lawful.{HasMember, IsLawful, made, begun, own, above, beside, receiver_tag}
use Rattle.dj_member_cause.specs.Deciding.{members_in, ReadsStatic, Writes, NamesField, CallsObject, CallsAbove, Constructs, made_new, begun_here, IsOwn, HasWhere, judged_of, IsJudged}

module _ (classes : Classes) (frame : Frame) where
  -- one that has its member or lacks it
  pub judged_by : {P : Type 0} (instruction : Instruction) (has : Bool) → IsTrue has ↔ P → (P → HasWhere ⊥ classes frame instruction) → (HasWhere ⊤ classes frame instruction → P) → IsJudged classes frame instruction (judged_of has)
  judged_by instruction true told to back = to (told.0 refl)
  judged_by instruction false told to back = λ has. false≢true (told.1 (back has))

  -- of an instruction that is this one
  pub judged_so : (instruction other : Instruction) (answer : Judgement) (has : Bool) → instruction ≡ other → answer ≡ judged_of has → IsJudged classes frame other (judged_of has) → IsJudged classes frame instruction answer
  judged_so instruction other answer has is told judged = subst (λ i. IsJudged classes frame i answer) (sym is) (subst (IsJudged classes frame other) (sym told) judged)

  pub judged_read : (field : FieldRef) (has : Bool) → IsTrue has ↔ ReadsStatic classes field → IsJudged classes frame (GetStatic field) (judged_of has)
  judged_read field has told = judged_by (GetStatic field) has told (λ reads. lawful.get_static reads.is reads.plain) back
    where
      back : HasWhere ⊤ classes frame (GetStatic field) → ReadsStatic classes field
      back (lawful.get_static is plain) = record { is = is; plain = plain }
      back (lawful.none none) = absurd (true≢false none)

  pub judged_write : (field : FieldRef) (has : Bool) → IsTrue has ↔ Writes classes true field → IsJudged classes frame (PutStatic field) (judged_of has)
  judged_write field has told = judged_by (PutStatic field) has told (λ writes. lawful.put_static writes.is writes.may) back
    where
      back : HasWhere ⊤ classes frame (PutStatic field) → Writes classes true field
      back (lawful.put_static is may) = record { is = is; may = may }
      back (lawful.none none) = absurd (true≢false none)

  pub judged_get : (field : FieldRef) (has : Bool) → IsTrue has ↔ NamesField classes false field → IsJudged classes frame (GetField field) (judged_of has)
  judged_get field has told = judged_by (GetField field) has told (λ is. lawful.get_field is) back
    where
      back : HasWhere ⊤ classes frame (GetField field) → NamesField classes false field
      back (lawful.get_field is) = is
      back (lawful.none none) = absurd (true≢false none)

  pub judged_put : (field : FieldRef) (has : Bool) → IsTrue has ↔ Writes classes false field → IsJudged classes frame (PutField field) (judged_of has)
  judged_put field has told = judged_by (PutField field) has told (λ writes. lawful.put_field writes.is writes.may) back
    where
      back : HasWhere ⊤ classes frame (PutField field) → Writes classes false field
      back (lawful.put_field is may) = record { is = is; may = may }
      back (lawful.none none) = absurd (true≢false none)

  pub judged_virtual : (method : MethodRef) (has : Bool) → IsTrue has ↔ CallsObject classes Virtual method → IsJudged classes frame (InvokeVirtual method) (judged_of has)
  judged_virtual method has told = judged_by (InvokeVirtual method) has told (λ is. lawful.invoke_virtual is) back
    where
      back : HasWhere ⊤ classes frame (InvokeVirtual method) → CallsObject classes Virtual method
      back (lawful.invoke_virtual is) = is
      back (lawful.none none) = absurd (true≢false none)

  pub judged_interface : (method : MethodRef) (has : Bool) → IsTrue has ↔ CallsObject classes Interface method → IsJudged classes frame (InvokeInterface method) (judged_of has)
  judged_interface method has told = judged_by (InvokeInterface method) has told (λ is. lawful.invoke_interface is) back
    where
      back : HasWhere ⊤ classes frame (InvokeInterface method) → CallsObject classes Interface method
      back (lawful.invoke_interface is) = is
      back (lawful.none none) = absurd (true≢false none)

  pub judged_class : (method : MethodRef) (has : Bool) → IsTrue has ↔ IsOfClass classes.headers.now (members_in classes) classes.from.now method → IsJudged classes frame (InvokeStatic method) (judged_of has)
  judged_class method has told = judged_by (InvokeStatic method) has told (λ is. lawful.invoke_static is) back
    where
      back : HasWhere ⊤ classes frame (InvokeStatic method) → IsOfClass classes.headers.now (members_in classes) classes.from.now method
      back (lawful.invoke_static is) = is
      back (lawful.none none) = absurd (true≢false none)

  -- ---- `invokespecial`

  lawful_of : {OnThis : Type 0} (method : MethodRef) → HasWhere OnThis classes frame (InvokeSpecial method) → IsLawful classes.headers.now (members_in classes) classes.from.now method (receiver_tag method frame) OnThis
  lawful_of method (lawful.invoke_special is) = is
  lawful_of method (lawful.none none) = absurd (true≢false none)

  pub judged_constructor : (method : MethodRef) → is_constructor method.name ≡ true → (has : Bool) → IsTrue has ↔ Constructs classes frame method → IsJudged classes frame (InvokeSpecial method) (judged_of has)
  judged_constructor method constructs has told = judged_by (InvokeSpecial method) has told to (λ has. back (lawful_of method has))
    where
      to : Constructs classes frame method → HasWhere ⊥ classes frame (InvokeSpecial method)
      to (made_new tag is) = lawful.invoke_special (made tag is)
      to (begun_here tag is) = lawful.invoke_special (begun tag is)

      back : IsLawful classes.headers.now (members_in classes) classes.from.now method (receiver_tag method frame) ⊤ → Constructs classes frame method
      back (made tag is) = made_new tag is
      back (begun tag is) = begun_here tag is
      back (own owner plain is) = absurd (true≢false (sym constructs ∙ plain))
      back (above on is) = absurd (true≢false (sym constructs ∙ is.plain))
      back (beside on is) = absurd (true≢false (sym constructs ∙ is.plain))

  pub constructs_new : {pc : ℕ} (method : MethodRef) → receiver_tag method frame ≡ Some (Unborn pc) → (answer : Bool) → IsTrue answer ↔ IsOfNew classes.headers.now (members_in classes) classes.from.now method
      → IsTrue answer ↔ Constructs classes frame method
  constructs_new {pc} method tag answer told = (λ yes. made_new tag (told.0 yes), λ constructs. told.1 (back constructs))
    where
      back : Constructs classes frame method → IsOfNew classes.headers.now (members_in classes) classes.from.now method
      back (made_new other is) = is
      back (begun_here other is) = absurd (let e : Some UnbornThis ≡ Some (Unborn pc) = sym other ∙ tag in cc)

  module _ (method : MethodRef) (plain : is_constructor method.name ≡ false) where
    no_constructor : is_constructor method.name ≡ true → ⊥
    no_constructor constructs = true≢false (sym constructs ∙ plain)

    pub judged_own : IsOwn classes method → IsJudged classes frame (InvokeSpecial method) judgement.Has
    judged_own is = lawful.invoke_special (own is.0 plain is.1)

    pub judged_above : ¬ IsOwn classes method → CallsAbove classes method → IsJudged classes frame (InvokeSpecial method) judgement.OnThis
    judged_above none calls = (lawful.invoke_special (to calls), λ has. back (lawful_of method has))
      where
        to : CallsAbove classes method → IsLawful classes.headers.now (members_in classes) classes.from.now method (receiver_tag method frame) ⊤
        to (inl is) = above tt is
        to (inr is) = beside tt is

        back : IsLawful classes.headers.now (members_in classes) classes.from.now method (receiver_tag method frame) ⊥ → ⊥
        back (made tag is) = no_constructor is.constructs
        back (begun tag is) = no_constructor is.constructs
        back (own owner plain is) = none (owner, is)
        back (above on is) = absurd on
        back (beside on is) = absurd on

    pub judged_lacks : ¬ IsOwn classes method → ¬ CallsAbove classes method → IsJudged classes frame (InvokeSpecial method) judgement.Lacks
    judged_lacks none no_calls = λ has. back (lawful_of method has)
      where
        back : IsLawful classes.headers.now (members_in classes) classes.from.now method (receiver_tag method frame) ⊤ → ⊥
        back (made tag is) = no_constructor is.constructs
        back (begun tag is) = no_constructor is.constructs
        back (own owner plain is) = none (owner, is)
        back (above on is) = no_calls (inl is)
        back (beside on is) = no_calls (inr is)

  -- one that names no member
  pub judged_nothing : (instruction : Instruction) → names_member instruction ≡ false → IsJudged classes frame instruction judgement.Has
  judged_nothing instruction none = lawful.none none

-- ---- where the receiver is `this`, or isn't

module _ (classes : Classes) (frame : Frame) (OnThis : MethodRef → Type 0) where
  abbrev Lawful : Type 0 → MethodRef → Type 0
  Lawful On method = IsLawful classes.headers.now (members_in classes) classes.from.now method (receiver_tag method frame) On

  other_receiver : (First Second : Type 0) → (First → Second) → (method : MethodRef) → Lawful First method → Lawful Second method
  other_receiver First Second goes method (made tag is) = made tag is
  other_receiver First Second goes method (begun tag is) = begun tag is
  other_receiver First Second goes method (own owner plain is) = own owner plain is
  other_receiver First Second goes method (above on is) = above (goes on) is
  other_receiver First Second goes method (beside on is) = beside (goes on) is

  pub has_so : (First Second : MethodRef → Type 0) → (instruction : Instruction) → ((method : MethodRef) → instruction ≡ InvokeSpecial method → First method → Second method)
      → HasMember classes.headers.now (members_in classes) classes.from.now First frame instruction → HasMember classes.headers.now (members_in classes) classes.from.now Second frame instruction
  has_so First Second (GetStatic field) goes (lawful.get_static is plain) = lawful.get_static is plain
  has_so First Second (PutStatic field) goes (lawful.put_static is may) = lawful.put_static is may
  has_so First Second (GetField field) goes (lawful.get_field is) = lawful.get_field is
  has_so First Second (PutField field) goes (lawful.put_field is may) = lawful.put_field is may
  has_so First Second (InvokeVirtual method) goes (lawful.invoke_virtual is) = lawful.invoke_virtual is
  has_so First Second (InvokeInterface method) goes (lawful.invoke_interface is) = lawful.invoke_interface is
  has_so First Second (InvokeStatic method) goes (lawful.invoke_static is) = lawful.invoke_static is
  has_so First Second (InvokeSpecial method) goes (lawful.invoke_special is) = lawful.invoke_special (other_receiver (First method) (Second method) (goes method refl) method is)
  has_so First Second instruction goes (lawful.none none) = lawful.none none

  -- it has its member, or lacks it, whatever the receiver is
  pub has_it : (instruction : Instruction) → IsJudged classes frame instruction judgement.Has → HasMember classes.headers.now (members_in classes) classes.from.now OnThis frame instruction
  has_it instruction has = has_so (λ method. ⊥) OnThis instruction (λ method is on. absurd on) has

  pub lacks_it : (instruction : Instruction) → IsJudged classes frame instruction judgement.Lacks → ¬ HasMember classes.headers.now (members_in classes) classes.from.now OnThis frame instruction
  lacks_it instruction lacks has = lacks (has_so OnThis (λ method. ⊤) instruction (λ method is on. tt) has)

  -- one that has it where the receiver is `this`
  pub lacks_by_this : (instruction : Instruction) → IsJudged classes frame instruction judgement.OnThis → (is : Bool) → ((method : MethodRef) → instruction ≡ InvokeSpecial method → IsTrue is ↔ OnThis method)
      → IsTrue (not is) ↔ (¬ HasMember classes.headers.now (members_in classes) classes.from.now OnThis frame instruction)
  lacks_by_this instruction told true on = (λ never. absurd (false≢true never), λ lacks. absurd (lacks (has_so (λ method. ⊤) OnThis instruction (λ method is any. (on method is).0 refl) told.0)))
  lacks_by_this instruction told false on = (
    λ any has. told.1 (has_so OnThis (λ method. ⊥) instruction (λ method is this. false≢true ((on method is).1 this)) has),
    λ lacks. refl,
  )
