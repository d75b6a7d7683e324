-- What instructions on members build is what the definition builds.
use Rattle.std.proofs.Common.{◌≡◌, ℕ, zero, suc, ◌+◌, Bool, true, false, List, [], ◌∷◌, Option, Some, None, refl, sym, ap, ◌∙◌, arith}
use Rattle.std.specs.Prelude.{if◌then◌else◌}
use Rattle.dj_names.specs.declared.header.Header.{Header}
use Rattle.dj_names.specs.Headers.{Name}
use Rattle.dj_names.specs.Types.{JType, Array, result_of}
use Rattle.dj_syntax.specs.Trees.{Exp}
use Rattle.dj_instructions.specs.Instructions.{MethodRef, Instruction}
use Rattle.dj_instructions.specs.Instructions as op
use Rattle.dj_values.specs.Values.{Value, Virtual, Interface}
use Rattle.dj_values.specs.Outcomes.{Reply, Gives}
use Rattle.dj_bytecode.specs.Meanings.{Strict, arguments_of}
use Rattle.dj_meaning.specs.Targets.{result}
use Rattle.dj_places.specs.Constants.{Surroundings}
use Rattle.dj_members_shown.specs.Meant.{asked_of}
use Rattle.dj_rebuilding.specs.Pending.{Pending, Kept, Whole, Born, Again, Built, Typed, sets, emit, and_then, with_operands, exp_of}
use Rattle.dj_rebuilt.specs.Sorts.{sort_of}
use Rattle.dj_rebuilt.specs.Known.{constant_of}
use Rattle.dj_rebuilt.specs.Rebuilding.{Names, Ways, Plain, under, strictly_built, strict_step, or_else, dropped, born_again, born_built, ended_birth, advance}
use Rattle.dj_member_nodes.specs.Nodes.{call_node, call_effect, node_of, member_effect, object_call, class_call, special_call, field_node, static_node, field_effect, static_effect, class_node, cast_node, instance_node, element_node, element_effect, length_node, array_node}
use Rattle.dj_member_nodes.specs.Together.{AreMemberWays}
use Rattle.dj_pending.specs.Strict.{put_built}
use Rattle.dj_member_trees.specs.Calling.{effect_put, result_built, called_built, is_birth_at, again_ended, birth_ended, special_built, object_called, class_called, special_called, birth_called}
use Rattle.dj_member_trees.specs.Stepping.{is_member, member_built}
use Rattle.dj_member_trees.proofs.Taking.{Make, together, operands-taken, made-alike}
use Rattle.dj_member_trees.proofs.Members.{node_make, effect_make, field-read, static-read, field-written, static-written, class-pushed, object-cast, object-tested, element-read, length-built, element-written, array-built}
use Rattle.dj_member_trees.proofs.CallLemmas.{object-called, class-called, special-called, birth-called}

-- ---- what an instruction builds that takes operands

put-is : (n : ℕ) (below : List Pending) (found : Option Typed) → strictly_built n below None found None ≡ put_built n below found
put-is n below None = refl
put-is n below (Some found) = refl

effect-is : (n : ℕ) (below : List Pending) (found : Option Plain) → strictly_built n below None None found ≡ effect_put n below found
effect-is n below None = refl
effect-is n below (Some found) = refl

call-is : (n : ℕ) (below : List Pending) (given : Option JType) (called : Option Exp) → strictly_built n below None (call_node given called) (call_effect given called) ≡ and_then called (result_built n below given)
call-is n below None None = refl
call-is n below None (Some exp) = effect-is n below (dropped exp)
call-is n below (Some type) None = refl
call-is n below (Some type) (Some exp) = refl

module _ (known : Surroundings) (ways : Ways) (are_ways : AreMemberWays known ways) (instruction : Instruction) where
  -- what is built of operands, as the definition says
  abbrev strict_make : ℕ → Make
  strict_make n are below = strictly_built n below (ways.constant instruction) (ways.node instruction are) (ways.effect instruction are)

  make-is : (n : ℕ) (are : List Typed) (below : List Pending) → strict_make n are below ≡ strictly_built n below (constant_of instruction) (node_of known instruction are) (member_effect known instruction are)
  make-is n are below =
      ap (λ one. strictly_built n below one (ways.node instruction are) (ways.effect instruction are)) (are_ways.constant instruction)
      ∙ ap (λ one. strictly_built n below (constant_of instruction) one (ways.effect instruction are)) (are_ways.node instruction are)
      ∙ ap (λ one. strictly_built n below (constant_of instruction) (node_of known instruction are) one) (are_ways.effect instruction are)

  pub strict-is : (count n : ℕ) (operation : List Value → Reply (Option Value)) (stack : List Pending) (make : Make)
      → ((are : List Typed) (below : List Pending) → strictly_built n below (constant_of instruction) (node_of known instruction are) (member_effect known instruction are) ≡ make are below)
      → together count [] stack make ≡ strict_step ways instruction n stack (Strict count operation)
  strict-is count n operation stack make is =
      sym (operands-taken count [] stack (strict_make n) ∙ made-alike count [] stack (strict_make n) make (λ are below. make-is n are below ∙ is are below))

-- ---- `invokespecial`

-- where a birth has begun at a place, no so many operands lie on top of it and with it
no-more : (count : ℕ) (behind : List Typed) (stack : List Pending) (make : Make) → is_birth_at count stack ≡ true → together (suc count) behind stack make ≡ None
no-more count behind [] make is = refl
no-more zero behind (Kept type atom ∷ below) make is = absurd (cc)
no-more zero behind (Whole type exp ∷ below) make is = absurd (cc)
no-more zero behind (Born class ∷ below) make is = refl
no-more zero behind (Again ∷ below) make is = refl
no-more (suc count) behind (Kept type atom ∷ below) make is = no-more count ((type, exp_of atom) ∷ behind) below make is
no-more (suc count) behind (Whole type exp ∷ below) make is = no-more count ((type, exp) ∷ behind) below make is
no-more (suc count) behind (Born class ∷ below) make is = refl
no-more (suc count) behind (Again ∷ below) make is = refl

module _ (known : Surroundings) (method : MethodRef) where
  no-birth : (count n : ℕ) (behind : List Typed) (stack : List Pending) → is_birth_at count stack ≡ false → together count behind stack (birth_ended known method n) ≡ None
  no-birth zero n behind [] is = refl
  no-birth zero n behind (Kept type atom ∷ below) is = refl
  no-birth zero n behind (Whole type exp ∷ below) is = refl
  no-birth zero n behind (Born class ∷ below) is = absurd (cc)
  no-birth zero n behind (Again ∷ below) is = absurd (cc)
  no-birth (suc count) n behind [] is = refl
  no-birth (suc count) n behind (Kept type atom ∷ below) is = no-birth count n ((type, exp_of atom) ∷ behind) below is
  no-birth (suc count) n behind (Whole type exp ∷ below) is = no-birth count n ((type, exp) ∷ behind) below is
  no-birth (suc count) n behind (Born class ∷ below) is = refl
  no-birth (suc count) n behind (Again ∷ below) is = refl

  module _ (ways : Ways) (are_ways : AreMemberWays known ways) where
    birth-is : (class : Name) (are : List Typed) → ways.birth (op.InvokeSpecial method) class are ≡ birth_called known method class are
    birth-is class are = are_ways.birth (op.InvokeSpecial method) class are ∙ sym (birth-called known method class are)

    by-dropped : (n : ℕ) (below : List Pending) (found : Option Plain) → and_then found (λ statement. emit (sets statement.1) n below statement.0) ≡ effect_put n below found
    by-dropped n below None = refl
    by-dropped n below (Some found) = refl

    by-birth : (n : ℕ) (below : List Pending) (found : Option Exp) → and_then found (λ exp. and_then (dropped exp) (λ statement. emit (sets statement.1) n below statement.0)) ≡ and_then found (result_built n below None)
    by-birth n below None = refl
    by-birth n below (Some exp) = by-dropped n below (dropped exp)

    born-again : (n : ℕ) (are : List Typed) (below : List Pending) → born_again ways (op.InvokeSpecial method) n are below ≡ again_ended known method n are below
    born-again n are [] = refl
    born-again n are (Kept type atom ∷ below) = refl
    born-again n are (Whole type exp ∷ below) = refl
    born-again n are (Born class ∷ below) = ap (ended_birth n class below) (birth-is class are)
    born-again n are (Again ∷ below) = refl

    born-is : (n : ℕ) (are : List Typed) (below : List Pending) → born_built ways (op.InvokeSpecial method) n are below ≡ birth_ended known method n are below
    born-is n are [] = refl
    born-is n are (Kept type atom ∷ below) = refl
    born-is n are (Whole type exp ∷ below) = refl
    born-is n are (Born class ∷ below) =
        ap (λ (found : Option Exp). and_then found (λ exp. and_then (dropped exp) (λ statement. emit (sets statement.1) n below statement.0))) (birth-is class are) ∙ by-birth n below (birth_called known method class are)
    born-is n are (Again ∷ below) = born-again n are below

    births-are : (count n : ℕ) (stack : List Pending) → with_operands count [] stack (λ are below. born_built ways (op.InvokeSpecial method) n are below) ≡ together count [] stack (birth_ended known method n)
    births-are count n stack = operands-taken count [] stack (born_built ways (op.InvokeSpecial method) n) ∙ made-alike count [] stack (born_built ways (op.InvokeSpecial method) n) (birth_ended known method n) (born-is n)

    call-step : (operation : List Value → Reply (Option Value)) (n : ℕ) (stack : List Pending)
        → called_built (arguments_of method.descriptor + 1) (special_called known method) (result_of method.descriptor) n stack ≡ strict_step ways (op.InvokeSpecial method) n stack (Strict (arguments_of method.descriptor + 1) operation)
    call-step operation n stack =
        strict-is known ways are_ways (op.InvokeSpecial method) (arguments_of method.descriptor + 1) n operation stack (λ are below. and_then (special_called known method are) (result_built n below (result_of method.descriptor)))
        (λ are below. call-is n below (result_of method.descriptor) (special_call known method are) ∙ ap (λ (one : Option Exp). and_then one (result_built n below (result_of method.descriptor))) (sym (special-called known method are)))

    none-else : (found : Option Built) → or_else found None ≡ found
    none-else None = refl
    none-else (Some built) = refl

    pub special-step : (operation : List Value → Reply (Option Value)) (n : ℕ) (stack : List Pending)
        → special_built known method n stack
        ≡ or_else (with_operands (arguments_of method.descriptor) [] stack (λ are below. born_built ways (op.InvokeSpecial method) n are below)) (strict_step ways (op.InvokeSpecial method) n stack (Strict (arguments_of method.descriptor + 1) operation))
    special-step operation n stack = by-test (is_birth_at count stack) refl ∙ ap (λ (one : Option Built). or_else one calls) (sym (births-are count n stack)) ∙ ap (or_else (with_operands count [] stack (λ are below. born_built ways (op.InvokeSpecial method) n are below))) (call-step operation n stack)
      where
        count : ℕ
        count = arguments_of method.descriptor

        calls : Option Built
        calls = called_built (count + 1) (special_called known method) (result_of method.descriptor) n stack

        make : Make
        make are below = and_then (special_called known method are) (result_built n below (result_of method.descriptor))

        one-more : count + 1 ≡ suc count
        one-more = omega arith

        by-test : (test : Bool) → is_birth_at count stack ≡ test → (if test then together count [] stack (birth_ended known method n) else calls) ≡ or_else (together count [] stack (birth_ended known method n)) calls
        by-test true is = sym (ap (or_else (together count [] stack (birth_ended known method n))) (ap (λ (one : ℕ). together one [] stack make) one-more ∙ no-more count [] stack make is) ∙ none-else (together count [] stack (birth_ended known method n)))
        by-test false is = ap (λ (one : Option Built). or_else one calls) (sym (no-birth count n [] stack is))

-- ---- all

-- what is built of operands says nothing of the machine's operation
abbrev any_reply : List Value → Reply (Option Value)
any_reply operands = Gives None

module _ (known : Surroundings) (ways : Ways) (are_ways : AreMemberWays known ways) (headers : List Header) (class : Name) (names : Names) (pc n : ℕ) (stack : List Pending) where
  -- a node, an effect or a call
  node-step : (instruction : Instruction) (count : ℕ) (operation : List Value → Reply (Option Value)) (node : List Typed → Option Typed) → constant_of instruction ≡ None → ((are : List Typed) → node_of known instruction are ≡ node are)
      → ((are : List Typed) → member_effect known instruction are ≡ None) → together count [] stack (node_make n node) ≡ strict_step ways instruction n stack (Strict count operation)
  node-step instruction count operation node none is lacks =
      strict-is known ways are_ways instruction count n operation stack (node_make n node)
      (λ are below. ap (λ one. strictly_built n below one (node_of known instruction are) (member_effect known instruction are)) none ∙ ap (λ one. strictly_built n below None one (member_effect known instruction are)) (is are) ∙ ap (strictly_built n below None (node are)) (lacks are)
      ∙ put-is n below (node are))

  effect-step : (instruction : Instruction) (count : ℕ) (operation : List Value → Reply (Option Value)) (effect : List Typed → Option Plain) → constant_of instruction ≡ None → ((are : List Typed) → node_of known instruction are ≡ None)
      → ((are : List Typed) → member_effect known instruction are ≡ effect are) → together count [] stack (effect_make n effect) ≡ strict_step ways instruction n stack (Strict count operation)
  effect-step instruction count operation effect none lacks is =
      strict-is known ways are_ways instruction count n operation stack (effect_make n effect)
      (λ are below. ap (λ one. strictly_built n below one (node_of known instruction are) (member_effect known instruction are)) none ∙ ap (λ one. strictly_built n below None one (member_effect known instruction are)) (lacks are) ∙ ap (strictly_built n below None None) (is are)
      ∙ effect-is n below (effect are))

  called-step : (instruction : Instruction) (count : ℕ) (operation : List Value → Reply (Option Value)) (given : Option JType) (called call : List Typed → Option Exp) → ((are : List Typed) → called are ≡ call are) → constant_of instruction ≡ None
      → ((are : List Typed) → node_of known instruction are ≡ call_node given (call are)) → ((are : List Typed) → member_effect known instruction are ≡ call_effect given (call are))
      → called_built count called given n stack ≡ strict_step ways instruction n stack (Strict count operation)
  called-step instruction count operation given called call same none node effect =
      strict-is known ways are_ways instruction count n operation stack (λ are below. and_then (called are) (result_built n below given))
      (λ are below. ap (λ one. strictly_built n below one (node_of known instruction are) (member_effect known instruction are)) none ∙ ap (λ one. strictly_built n below None one (member_effect known instruction are)) (node are) ∙ ap (strictly_built n below None (call_node given (call are))) (effect are)
      ∙ call-is n below given (call are) ∙ ap (λ one. and_then one (result_built n below given)) (sym (same are)))

  step-is : (instruction : Instruction) → is_member instruction ≡ true → under names (member_built known instruction n stack) ≡ advance headers class ways names pc instruction n stack (sort_of instruction)
  step-is op.Nop is = absurd (cc)
  step-is op.PushNull is = absurd (cc)
  step-is (op.Push constant) is = absurd (cc)
  step-is (op.PushClass type) is = ap (under names) (class-pushed type n stack ∙ node-step (op.PushClass type) 0 any_reply (class_node type) refl (λ are. refl) (λ are. refl))
  step-is (op.PushHandle kind interface owner name descriptor) is = absurd (cc)
  step-is (op.PushMethodType descriptor) is = absurd (cc)
  step-is (op.Load kind slot) is = absurd (cc)
  step-is (op.Store kind slot) is = absurd (cc)
  step-is (op.ArrayLoad kind) is = ap (under names) (element-read known.headers kind n stack ∙ node-step (op.ArrayLoad kind) 2 any_reply (element_node known.headers kind) refl (λ are. refl) (λ are. refl))
  step-is (op.ArrayStore kind) is = ap (under names) (element-written known.headers kind n stack ∙ effect-step (op.ArrayStore kind) 3 any_reply (element_effect known.headers kind) refl (λ are. refl) (λ are. refl))
  step-is op.Pop is = absurd (cc)
  step-is op.Pop2 is = absurd (cc)
  step-is op.Dup is = absurd (cc)
  step-is op.DupX1 is = absurd (cc)
  step-is op.DupX2 is = absurd (cc)
  step-is op.Dup2 is = absurd (cc)
  step-is op.Dup2X1 is = absurd (cc)
  step-is op.Dup2X2 is = absurd (cc)
  step-is op.Swap is = absurd (cc)
  step-is (op.Calc operation kind) is = absurd (cc)
  step-is (op.Iinc slot by) is = absurd (cc)
  step-is (op.Convert from to) is = absurd (cc)
  step-is (op.Compare kind greater) is = absurd (cc)
  step-is (op.IfZero test target) is = absurd (cc)
  step-is (op.IfInts test target) is = absurd (cc)
  step-is (op.IfRefs equal target) is = absurd (cc)
  step-is (op.IfNull null target) is = absurd (cc)
  step-is (op.Goto target) is = absurd (cc)
  step-is (op.TableSwitch low targets other) is = absurd (cc)
  step-is (op.LookupSwitch cases other) is = absurd (cc)
  step-is (op.Return kind) is = absurd (cc)
  step-is (op.GetStatic field) is = ap (under names) (static-read field n stack ∙ node-step (op.GetStatic field) 0 any_reply (static_node field) refl (λ are. refl) (λ are. refl))
  step-is (op.PutStatic field) is = ap (under names) (static-written known.headers field n stack ∙ effect-step (op.PutStatic field) 1 any_reply (static_effect known.headers field) refl (λ are. refl) (λ are. refl))
  step-is (op.GetField field) is = ap (under names) (field-read known.headers field n stack ∙ node-step (op.GetField field) 1 any_reply (field_node known.headers field) refl (λ are. refl) (λ are. refl))
  step-is (op.PutField field) is = ap (under names) (field-written known.headers field n stack ∙ effect-step (op.PutField field) 2 any_reply (field_effect known.headers field) refl (λ are. refl) (λ are. refl))
  step-is (op.InvokeVirtual method) is =
      ap (under names) (called-step (op.InvokeVirtual method) (arguments_of method.descriptor + 1) any_reply (result (asked_of Virtual method.owner method)) (object_called known method) (object_call known method) (object-called known method) refl (λ are. refl) (λ are. refl))
  step-is (op.InvokeSpecial method) is = ap (under names) (special-step known method ways are_ways any_reply n stack)
  step-is (op.InvokeStatic method) is =
      ap (under names) (called-step (op.InvokeStatic method) (arguments_of method.descriptor) any_reply (result_of method.descriptor) (class_called known method) (class_call known method) (class-called known method) refl (λ are. refl) (λ are. refl))
  step-is (op.InvokeInterface method) is =
      ap (under names) (called-step (op.InvokeInterface method) (arguments_of method.descriptor + 1) any_reply (result (asked_of Interface method.owner method)) (object_called known method) (object_call known method) (object-called known method) refl (λ are. refl) (λ are. refl))
  step-is (op.InvokeDynamic bootstrap name descriptor) is = absurd (cc)
  step-is (op.New name) is = absurd (cc)
  step-is (op.NewArray type) is = ap (under names) (array-built (Array type) 1 n stack ∙ node-step (op.NewArray type) 1 any_reply (array_node (Array type)) refl (λ are. refl) (λ are. refl))
  step-is (op.MultiNewArray type sizes) is = ap (under names) (array-built type sizes n stack ∙ node-step (op.MultiNewArray type sizes) sizes any_reply (array_node type) refl (λ are. refl) (λ are. refl))
  step-is op.ArrayLength is = ap (under names) (length-built known.headers n stack ∙ node-step op.ArrayLength 1 any_reply (length_node known.headers) refl (λ are. refl) (λ are. refl))
  step-is op.Throw is = absurd (cc)
  step-is (op.CheckCast type) is = ap (under names) (object-cast known.headers type n stack ∙ node-step (op.CheckCast type) 1 any_reply (cast_node known.headers type) refl (λ are. refl) (λ are. refl))
  step-is (op.InstanceOf type) is = ap (under names) (object-tested known.headers type n stack ∙ node-step (op.InstanceOf type) 1 any_reply (instance_node known.headers type) refl (λ are. refl) (λ are. refl))
  step-is op.MonitorEnter is = absurd (cc)
  step-is op.MonitorExit is = absurd (cc)

  -- what an instruction on members, arrays or classes builds is what the definition of rebuilding builds
  pub member-advance : (instruction : Instruction) → is_member instruction ≡ true → advance headers class ways names pc instruction n stack (sort_of instruction) ≡ under names (member_built known instruction n stack)
  member-advance instruction is = sym (step-is instruction is)
