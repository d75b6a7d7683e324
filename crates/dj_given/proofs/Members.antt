-- The receivers with which each instruction has its member, where no cause speaks against it.
use Rattle.std.proofs.Common.{◌≡◌, ◌⊎◌, ℕ, true, false, ◌&&◌, List, Option, Some, inl, inr, refl, ap, subst, ◌∙◌}
use Rattle.std.specs.Prelude.{IsTrue}
use Rattle.std.proofs.lemmas.Bool.{both_ways, and_parts}
use Rattle.dj_names.specs.declared.header.Header.{Header}
use Rattle.dj_names.specs.Headers.{Name}
use Rattle.dj_names.specs.MethodNames.{is_constructor}
use Rattle.dj_instructions.specs.Instructions.{MethodRef, Instruction, GetStatic, PutStatic, GetField, PutField, InvokeVirtual, InvokeSpecial, InvokeStatic, InvokeInterface}
use Rattle.dj_frames.specs.Frames.{Tag, UnbornThis, Unborn, Frame}
use Rattle.dj_meaning.specs.Members.{Members}
use Rattle.dj_meant.specs.Meant as meant
use Rattle.dj_meant.specs.Meant.{Receiver, Made, Begun, This, IsOfConstruct}
use Rattle.dj_members_shown.proofs.Telling.{told-member}
use Rattle.dj_receivers.specs.OwnCalls.{calls_own, is_on_begun, is_some_begun}
use Rattle.dj_member_cause.specs.Lawful as lawful
use Rattle.dj_member_cause.specs.Lawful.{receiver_tag, may_set, HasMember, IsLawful, made, begun, own, above, beside}

one_method : (first second : MethodRef) → InvokeSpecial first ≡ InvokeSpecial second → first ≡ second
one_method first second same = cc

-- the instruction is no call of another constructor on `this`
abbrev pub IsNoOwnCall : Frame → Instruction → Type 0
IsNoOwnCall frame instruction = (method : MethodRef) → instruction ≡ InvokeSpecial method → is_constructor method.name ≡ true → ¬ (receiver_tag method frame ≡ Some UnbornThis)

pub no_own_call : (instruction : Instruction) (frame : Frame) → ¬ IsTrue (calls_own instruction frame) → IsNoOwnCall frame instruction
no_own_call instruction frame none method same constructs tag =
    none (ap (λ (one : Instruction). calls_own one frame) same ∙ ap (λ test. test && is_some_begun (receiver_tag method frame)) constructs ∙ ap is_some_begun tag)

-- what source means by the call of another constructor on `this` that isn't constructed yet
module _ (world : List Header) (members : List Members) (from : Name) (method : MethodRef) (constructs : is_constructor method.name ≡ true) where
  begun_means : meant.IsLawful world members from method Begun → IsOfConstruct world members from method
  begun_means (meant.lawful_construct is) = is
  begun_means (meant.lawful_private owner plain is) = absurd (both_ways (is_constructor method.name) plain constructs)

  begun_lawful : meant.HasMember world members from (may_set world members from) Begun (InvokeSpecial method) → meant.IsLawful world members from method Begun
  begun_lawful (meant.invoke_special is) = is
  begun_lawful (meant.none named) = absurd (cc)

  pub own_means : meant.HasMember world members from (may_set world members from) Begun (InvokeSpecial method) → IsOfConstruct world members from method
  own_means has = begun_means (begun_lawful has)

module _ (world : List Header) (members : List Members) (from : Name) (OnThis : MethodRef → Type 0) (frame : Frame) where
  abbrev Has : Receiver → Instruction → Type 0
  Has receiver instruction = meant.HasMember world members from (may_set world members from) receiver instruction

  -- a call by `invokespecial` is on what `new` made, or as good as on `this`; one of a constructor is on what `new` made
  special : (method : MethodRef) → IsNoOwnCall frame (InvokeSpecial method) → IsLawful world members from method (receiver_tag method frame) (OnThis method)
      → Has Made (InvokeSpecial method) ⊎ ((is_constructor method.name ≡ false) × Has This (InvokeSpecial method))
  special method not_own (made tag is) = inl (meant.invoke_special (meant.lawful_new is))
  special method not_own (begun tag is) = absurd (not_own method refl is.constructs tag)
  special method not_own (own owner plain is) = inl (meant.invoke_special (meant.lawful_private owner plain is))
  special method not_own (above on is) = inr (is.plain, meant.invoke_special (meant.lawful_super is))
  special method not_own (beside on is) = inr (is.plain, meant.invoke_special (meant.lawful_interface is))

  -- a constructor isn't called so
  abbrev IsPlain : Instruction → Type 0
  IsPlain instruction = (method : MethodRef) → instruction ≡ InvokeSpecial method → is_constructor method.name ≡ false

  ways : (instruction : Instruction) → IsNoOwnCall frame instruction → HasMember world members from OnThis frame instruction → Has Made instruction ⊎ (IsPlain instruction × Has This instruction)
  ways (GetStatic field) not_own (lawful.get_static is plain) = inl (meant.get_static is plain)
  ways (PutStatic field) not_own (lawful.put_static is may) = inl (meant.put_static is may)
  ways (GetField field) not_own (lawful.get_field is) = inl (meant.get_field is)
  ways (PutField field) not_own (lawful.put_field is may) = inl (meant.put_field is may)
  ways (InvokeVirtual method) not_own (lawful.invoke_virtual is) = inl (meant.invoke_virtual is)
  ways (InvokeInterface method) not_own (lawful.invoke_interface is) = inl (meant.invoke_interface is)
  ways (InvokeStatic method) not_own (lawful.invoke_static is) = inl (meant.invoke_static is)
  ways (InvokeSpecial method) not_own (lawful.invoke_special is) = elim (special method not_own is) [
    | inl on_made ↦ inl on_made
    | inr on_this ↦ inr (λ other same. subst (λ (one : MethodRef). is_constructor one.name ≡ false) (one_method method other same) on_this.0, on_this.1)
  ]
  ways instruction not_own (lawful.none none) = inl (meant.none none)

  -- a receiver with which the instruction has its member, what `new` made where it calls a constructor
  pub record IsServed (instruction : Instruction) : Type 0 where
    pub receiver : Receiver
    pub has : Has receiver instruction
    pub born : (method : MethodRef) → instruction ≡ InvokeSpecial method → is_constructor method.name ≡ true → receiver ≡ Made

  pub served : (instruction : Instruction) → IsNoOwnCall frame instruction → ¬ ¬ HasMember world members from OnThis frame instruction → IsServed instruction
  served instruction not_own denied = elim (told-member world members from (may_set world members from) Made instruction) [
    | inl on_made ↦ record { receiver = Made; has = on_made; born = λ method same constructs. refl }
    | inr not_made ↦ elim (told-member world members from (may_set world members from) This instruction) [
      | inl on_this ↦ record {
        receiver = This;
        has = on_this;
        born = λ method same constructs. absurd (denied (λ has. elim (ways instruction not_own has) [ inl on_made ↦ not_made on_made | inr both ↦ both_ways (is_constructor method.name) (both.0 method same) constructs ]));
      }
      | inr not_this ↦ absurd (denied (λ has. elim (ways instruction not_own has) [ inl on_made ↦ not_made on_made | inr both ↦ not_this both.1 ]))
    ]
  ]

  -- ---- the call of another constructor on `this`

  not_made : (tag : Option Tag) → is_some_begun tag ≡ true → ¬ ((pc : ℕ) × (tag ≡ Some (Unborn pc)))
  not_made tag same (pc, fresh) = both_ways (is_some_begun tag) (ap is_some_begun fresh) same

  begun_special : (method : MethodRef) → IsTrue (calls_own (InvokeSpecial method) frame) → IsLawful world members from method (receiver_tag method frame) (OnThis method) → Has Begun (InvokeSpecial method)
  begun_special method calls (made {pc} tag is) = absurd (not_made (receiver_tag method frame) (and_parts (is_constructor method.name) (is_on_begun method frame) calls).1 (pc, tag))
  begun_special method calls (begun tag is) = meant.invoke_special (meant.lawful_construct is)
  begun_special method calls (lawful.own owner plain is) = absurd (both_ways (is_constructor method.name) plain (and_parts (is_constructor method.name) (is_on_begun method frame) calls).0)
  begun_special method calls (above on is) = absurd (both_ways (is_constructor method.name) is.plain (and_parts (is_constructor method.name) (is_on_begun method frame) calls).0)
  begun_special method calls (beside on is) = absurd (both_ways (is_constructor method.name) is.plain (and_parts (is_constructor method.name) (is_on_begun method frame) calls).0)

  begun_has : (instruction : Instruction) → IsTrue (calls_own instruction frame) → HasMember world members from OnThis frame instruction → Has Begun instruction
  begun_has (GetStatic field) calls (lawful.get_static is plain) = meant.get_static is plain
  begun_has (PutStatic field) calls (lawful.put_static is may) = meant.put_static is may
  begun_has (GetField field) calls (lawful.get_field is) = meant.get_field is
  begun_has (PutField field) calls (lawful.put_field is may) = meant.put_field is may
  begun_has (InvokeVirtual method) calls (lawful.invoke_virtual is) = meant.invoke_virtual is
  begun_has (InvokeInterface method) calls (lawful.invoke_interface is) = meant.invoke_interface is
  begun_has (InvokeStatic method) calls (lawful.invoke_static is) = meant.invoke_static is
  begun_has (InvokeSpecial method) calls (lawful.invoke_special is) = begun_special method calls is
  begun_has instruction calls (lawful.none none) = meant.none none

  pub own_served : (instruction : Instruction) → IsTrue (calls_own instruction frame) → ¬ ¬ HasMember world members from OnThis frame instruction → Has Begun instruction
  own_served instruction calls denied = elim (told-member world members from (may_set world members from) Begun instruction) [
    | inl has ↦ has
    | inr none ↦ absurd (denied (λ has. none (begun_has instruction calls has)))
  ]
