-- A method begins in a state that its first frame describes.
use Rattle.std.proofs.Common.{◌≡◌, ◌-◌, ◌==◌, Bool, true, false, not, List, [], ◌∷◌, ◌++◌, length, map, replicate, Option, None, refl, arith}
use Rattle.std.specs.Prelude.{flat_map, bit_and, if◌then◌else◌}
use Rattle.std.proofs.lemmas.List.{length-append, length-replicate}
use Rattle.dj_names.specs.declared.header.Header.{Header}
use Rattle.dj_names.specs.Types.{JType, Boolean, Class, parameters_of}
use Rattle.dj_names.specs.Headers.{Name}
use Rattle.dj_values.specs.Values.{Value, Int, Long, Null, Ref}
use Rattle.dj_values.specs.Fits.{AreValuesOf, IsThis, AreArguments}
use Rattle.dj_frames.specs.Frames as tag
use Rattle.dj_frames.specs.Frames.{Tag, slots_of, tag_of, has_unborn_this, this_of, receiver_of, entry_values}
use Rattle.dj_code.specs.MethodCode.{Code}
use Rattle.dj_bytecode.specs.Machine.{Locals, first_locals}
use Rattle.dj_bytecode.specs.Machine as machine
use Rattle.dj_bytecode.specs.SameShows.{AreArgumentsOf}
use Rattle.dj_verify.specs.Rules.{head_of, entry}
use Rattle.dj_tags.specs.Goes.{Assignability}
use Rattle.dj_typed_states.specs.Facts.{Facts, AreKept}
use Rattle.dj_typed_states.specs.Held.{IsHeld, unknown, int, long, null, unborn_this, no_object, object, unborn, IsLocal, anything, known, AllAre, none, more, Describes}
use Rattle.dj_typed_states.proofs.Holding.{value_held}
use Rattle.dj_typed_states.proofs.Slots.{first_locals_are}

-- a value and others, in their slots
slots_known : {facts : Facts} {held : Tag} {value : Value} (tags : List Tag) (values : List Value) → (held ≡ tag.Top → ⊥) → IsHeld facts held value → AllAre (IsLocal facts) (flat_map slots_of tags) (machine.slots_of values) → AllAre (IsLocal facts) (flat_map slots_of (held ∷ tags)) (machine.slots_of (value ∷ values))
slots_known tags values known_tag unknown are = absurd (known_tag refl)
slots_known tags values known_tag int are = more (known int) are
slots_known tags values known_tag long are = more (known long) (more anything are)
slots_known tags values known_tag null are = more (known null) are
slots_known tags values known_tag (unborn_this is) are = more (known (unborn_this is)) are
slots_known tags values known_tag no_object are = more (known no_object) are
slots_known tags values known_tag (object is) are = more (known (object is)) are
slots_known tags values known_tag (unborn is) are = more (known (unborn is)) are

never_top : (type : JType) → tag_of type ≡ tag.Top → ⊥
never_top Boolean is = cc
never_top type is = cc

module _ {Goes : Assignability} {headers : List Header} {code : Code} {facts : Facts} (kept : AreKept Goes headers code facts) where
  values_known : (types : List JType) (values : List Value) → AreValuesOf headers types values → AllAre (IsLocal facts) (flat_map slots_of (map tag_of types)) (machine.slots_of values)
  values_known [] [] are = none
  values_known [] (value ∷ values) are = absurd are
  values_known (type ∷ types) [] are = absurd are
  values_known (type ∷ types) (value ∷ values) are = slots_known (map tag_of types) values (never_top type) (value_held kept type value are.0) (values_known types values are.1)

  -- `this`, born or not
  this_known : (unborn_yet : Bool) (this : Value) → IsThis headers code.class this → IsHeld facts (if unborn_yet then tag.UnbornThis else tag.Object (Class code.class)) this
  this_known unborn_yet (Int number) is = absurd is
  this_known unborn_yet (Long number) is = absurd is
  this_known unborn_yet Null is = absurd is
  this_known true (Ref reference) is = unborn_this (kept.this_fits reference is)
  this_known false (Ref reference) is = object (kept.fits (Class code.class) reference is)

  this_never_top : (class : Name) (unborn_yet : Bool) → (if unborn_yet then tag.UnbornThis else tag.Object (Class class)) ≡ tag.Top → ⊥
  this_never_top class true is = cc
  this_never_top class false is = cc

  arguments_known : (unborn_yet no_flag : Bool) (types : List JType) (arguments : List Value) → AreArguments headers code.class (not no_flag) types arguments
      → AllAre (IsLocal facts) (flat_map slots_of ((if no_flag then (if unborn_yet then tag.UnbornThis else tag.Object (Class code.class)) ∷ [] else []) ++ map tag_of types)) (machine.slots_of arguments)
  arguments_known unborn_yet false types arguments are = values_known types arguments are
  arguments_known unborn_yet true types [] are = absurd are
  arguments_known unborn_yet true types (this ∷ arguments) are = slots_known (map tag_of types) arguments (this_never_top code.class unborn_yet) (this_known unborn_yet this are.0) (values_known types arguments are.1)

  -- the frame that a method begins with describes how it begins
  pub entry_describes : (arguments : List Value) → AreArgumentsOf headers code arguments → Describes facts code (entry code) [] (first_locals code.max_locals arguments)
  entry_describes arguments are =
      let tags : List Tag = flat_map slots_of (entry_values code.class (head_of code)) in
      let locals : Locals = machine.slots_of arguments in
      let known_are : AllAre (IsLocal facts) tags locals = arguments_known (has_unborn_this code.class code.name) (bit_and code.flags 8 == 0) (parameters_of code.descriptor) arguments are in
      let many = length-append locals (replicate (code.max_locals - length locals) None) in
      let rest = length-replicate {A = Option Value} (code.max_locals - length locals) None in
      record {
        on_stack = none;
        in_locals = first_locals_are (code.max_locals - length tags) (replicate (code.max_locals - length locals) None) known_are;
        room = omega arith;
      }
