-- An instruction that has its member has it as the laws on members ask.
use Rattle.std.proofs.Common.{◌≡◌, List, subst}
use Rattle.dj_names.specs.declared.header.Header.{Header}
use Rattle.dj_names.specs.Headers.{Name}
use Rattle.dj_instructions.specs.Instructions.{MethodRef, Instruction, GetStatic, PutStatic, GetField, PutField, InvokeVirtual, InvokeSpecial, InvokeStatic, InvokeInterface}
use Rattle.dj_frames.specs.Frames.{Frame}
use Rattle.dj_meaning.specs.Members.{Members}
use Rattle.dj_meant.specs.Meant as meant
use Rattle.dj_meant.specs.Meant.{Made, Begun, This, Other, names_member}
use Rattle.dj_member_cause.specs.Lawful as lawful
use Rattle.dj_member_cause.specs.Lawful.{HasMember, IsLawful, made, begun, own, above, beside, receiver_tag}
use Rattle.dj_member_cause.specs.Shown.{IsReceiver, as_made, as_begun, as_this, as_other, IsShown}

one_method : (first second : MethodRef) → InvokeSpecial first ≡ InvokeSpecial second → first ≡ second
one_method first second same = cc

module _ (world : List Header) (members : List Members) (from : Name) (OnThis : MethodRef → Type 0) (frame : Frame) where
  special_shown : (method : MethodRef) → IsLawful world members from method (receiver_tag method frame) (OnThis method) → IsShown world members from OnThis frame (InvokeSpecial method)
  special_shown method (made is new) = record { receiver = Made; is = λ other same. subst (λ m. IsReceiver (receiver_tag m frame) (OnThis m) Made) (one_method method other same) (as_made is); has = meant.invoke_special (meant.lawful_new new) }
  special_shown method (begun is construct) = record { receiver = Begun; is = λ other same. subst (λ m. IsReceiver (receiver_tag m frame) (OnThis m) Begun) (one_method method other same) (as_begun is); has = meant.invoke_special (meant.lawful_construct construct) }
  special_shown method (own owner plain calls) = record { receiver = Other; is = λ other same. as_other; has = meant.invoke_special (meant.lawful_private owner plain calls) }
  special_shown method (above on is) = record { receiver = This; is = λ other same. subst (λ m. IsReceiver (receiver_tag m frame) (OnThis m) This) (one_method method other same) (as_this on); has = meant.invoke_special (meant.lawful_super is) }
  special_shown method (beside on is) = record { receiver = This; is = λ other same. subst (λ m. IsReceiver (receiver_tag m frame) (OnThis m) This) (one_method method other same) (as_this on); has = meant.invoke_special (meant.lawful_interface is) }

  pub member_shown : (instruction : Instruction) → HasMember world members from OnThis frame instruction → IsShown world members from OnThis frame instruction
  member_shown (GetStatic field) (lawful.get_static is plain) = record { receiver = Other; is = λ method same. as_other; has = meant.get_static is plain }
  member_shown (PutStatic field) (lawful.put_static is may) = record { receiver = Other; is = λ method same. as_other; has = meant.put_static is may }
  member_shown (GetField field) (lawful.get_field is) = record { receiver = Other; is = λ method same. as_other; has = meant.get_field is }
  member_shown (PutField field) (lawful.put_field is may) = record { receiver = Other; is = λ method same. as_other; has = meant.put_field is may }
  member_shown (InvokeVirtual method) (lawful.invoke_virtual is) = record { receiver = Other; is = λ other same. as_other; has = meant.invoke_virtual is }
  member_shown (InvokeInterface method) (lawful.invoke_interface is) = record { receiver = Other; is = λ other same. as_other; has = meant.invoke_interface is }
  member_shown (InvokeStatic method) (lawful.invoke_static is) = record { receiver = Other; is = λ other same. as_other; has = meant.invoke_static is }
  member_shown (InvokeSpecial method) (lawful.invoke_special is) = special_shown method is
  member_shown instruction (lawful.none none) = record { receiver = Other; is = λ method same. as_other; has = meant.none none }
