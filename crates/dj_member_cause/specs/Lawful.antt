-- Which instruction has a member that Java names as the instruction does, with its receiver (JLS 6.6, 8.8, 15.9.3, 15.11, 15.12; JVMS 6.5 invokespecial).
use Rattle.std.specs.Prelude.{◌≡◌, ℕ, Bool, true, false, not, List, length, Option, Some, None}
use Rattle.dj_names.specs.declared.header.Header.{Header}
use Rattle.dj_names.specs.Headers.{Name}
use Rattle.dj_names.specs.Types.{Class, parameters_of}
use Rattle.dj_names.specs.MethodNames.{is_constructor}
use Rattle.dj_values.specs.Values.{Virtual, Interface, Special}
use Rattle.dj_values.specs.Deciding.{is_some_and}
use Rattle.dj_meaning.specs.Members.{Members}
use Rattle.dj_meaning.specs.Fields.{own_field}
use Rattle.dj_instructions.specs.Instructions.{FieldRef, MethodRef, Instruction, GetStatic, PutStatic, GetField, PutField, InvokeVirtual, InvokeSpecial, InvokeStatic, InvokeInterface}
use Rattle.dj_frames.specs.Frames.{Tag, UnbornThis, Unborn, Frame}
use Rattle.dj_starts.specs.Births.{under}
use Rattle.dj_typed.specs.Stores.{owner_of, is_fixed}
use Rattle.dj_meant.specs.Meant.{names_member, IsField, IsOfObject, IsOfClass, IsOfNew, IsOfConstruct, IsOfSuper, IsOfInterface}

-- what stands on the stack under the arguments of a call, by the frame before it
abbrev pub receiver_tag : MethodRef → Frame → Option Tag
receiver_tag method frame = under (length (parameters_of method.descriptor)) frame.stack

module _ (world : List Header) (members : List Members) (from : Name) where
  -- the field that a name means in a class may be assigned: a final one in its own class alone, and a constant variable nowhere (JLS 8.3.1.2)
  abbrev pub may_set : Name → Name → Bool
  may_set class name =
      is_some_and (owner_of world members class name) (λ owner.
      is_some_and (own_field world members name owner) (λ field. not (is_fixed from owner field)))

  -- the lawful kinds of `invokespecial`: by what stands under its arguments, and by whether that is `this` on each way
  pub data IsLawful (method : MethodRef) (tag : Option Tag) (OnThis : Type 0) : Type 0 where
    -- a constructor, on what `new` made, or on `this`
    made : {pc : ℕ} → tag ≡ Some (Unborn pc) → IsOfNew world members from method → IsLawful method tag OnThis
    begun : tag ≡ Some UnbornThis → IsOfConstruct world members from method → IsLawful method tag OnThis
    -- a private method of this class
    own : method.owner ≡ Class from → is_constructor method.name ≡ false → IsOfObject world members from Special method → IsLawful method tag OnThis
    -- a method of a superclass on `this`, and a default method of a direct interface
    above : OnThis → IsOfSuper world members from method → IsLawful method tag OnThis
    beside : OnThis → IsOfInterface world members from method → IsLawful method tag OnThis

  -- an instruction has its member, where it names one
  pub data HasMember (OnThis : MethodRef → Type 0) (frame : Frame) : Instruction → Type 0 where
    get_static : {field : FieldRef} (is : IsField world members from true field) → is.known.constant ≡ None → HasMember OnThis frame (GetStatic field)
    put_static : {field : FieldRef} (is : IsField world members from true field) → may_set is.class field.name ≡ true → HasMember OnThis frame (PutStatic field)
    get_field : {field : FieldRef} → IsField world members from false field → HasMember OnThis frame (GetField field)
    put_field : {field : FieldRef} (is : IsField world members from false field) → may_set is.class field.name ≡ true → HasMember OnThis frame (PutField field)
    invoke_virtual : {method : MethodRef} → IsOfObject world members from Virtual method → HasMember OnThis frame (InvokeVirtual method)
    invoke_interface : {method : MethodRef} → IsOfObject world members from Interface method → HasMember OnThis frame (InvokeInterface method)
    invoke_static : {method : MethodRef} → IsOfClass world members from method → HasMember OnThis frame (InvokeStatic method)
    invoke_special : {method : MethodRef} → IsLawful method (receiver_tag method frame) (OnThis method) → HasMember OnThis frame (InvokeSpecial method)
    none : {instruction : Instruction} → names_member instruction ≡ false → HasMember OnThis frame instruction
