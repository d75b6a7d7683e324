-- The call with which code begins is the same whichever classes run.
use Rattle.std.proofs.Common.{◌≡◌, ℕ, ◌==◌, Bool, true, false, List, [], ◌∷◌, Option, None, refl, ap}
use Rattle.std.specs.Prelude.{◌&&◌, not, if◌then◌else◌}
use Rattle.dj_names.specs.declared.header.Header.{Header}
use Rattle.dj_names.specs.Headers.{Name}
use Rattle.dj_instructions.specs.Instructions as op
use Rattle.dj_instructions.specs.Instructions.{Instruction, Instructions}
use Rattle.dj_values.specs.Values.{Value}
use Rattle.dj_values.specs.Outcomes.{Reply}
use Rattle.dj_bytecode.specs.Machine.{pc_of}
use Rattle.dj_bytecode.specs.Meanings.{Family, Strict, meaning_of}
use Rattle.dj_rebuilding.specs.Pending.{Pending, with_operands, and_then}
use Rattle.dj_rebuilt.specs.Sorts.{Sort, Loading, Storing, Counting, Moving, Doubling, Dropping, Making, Calling, Throwing, Idle, Other, sort_of}
use Rattle.dj_rebuilt.specs.Rebuilding.{Names, Ways, under, or_else, born_built, strict_step, first_spilled, then_spilled, advance, advance_one, continues}
use Rattle.dj_constructors.specs.Opening.{is_still, quiet_step, called_at, opened}

-- what instructions do is of one form, where it takes as many operands
data SameForm : Family → Family → Type 0 where
  same : {family : Family} → SameForm family family
  strict : {count : ℕ} {one other : List Value → Reply (Option Value)} → SameForm (Strict count one) (Strict count other)

same-form : (headers others : List Header) (class : Name) (instruction : Instruction) → SameForm (meaning_of headers class instruction) (meaning_of others class instruction)
same-form headers others class op.Nop = same
same-form headers others class op.PushNull = same
same-form headers others class (op.Push constant) = same
same-form headers others class (op.PushClass type) = same
same-form headers others class (op.PushHandle kind interface owner name descriptor) = same
same-form headers others class (op.PushMethodType descriptor) = same
same-form headers others class (op.Load kind slot) = same
same-form headers others class (op.Store kind slot) = same
same-form headers others class (op.ArrayLoad element) = same
same-form headers others class (op.ArrayStore element) = strict
same-form headers others class op.Pop = same
same-form headers others class op.Pop2 = same
same-form headers others class op.Dup = same
same-form headers others class op.DupX1 = same
same-form headers others class op.DupX2 = same
same-form headers others class op.Dup2 = same
same-form headers others class op.Dup2X1 = same
same-form headers others class op.Dup2X2 = same
same-form headers others class op.Swap = same
same-form headers others class (op.Calc operation kind) = same
same-form headers others class (op.Iinc slot by) = same
same-form headers others class (op.Convert from to) = same
same-form headers others class (op.Compare kind greater) = same
same-form headers others class (op.IfZero test target) = same
same-form headers others class (op.IfInts test target) = same
same-form headers others class (op.IfRefs true target) = same
same-form headers others class (op.IfRefs false target) = same
same-form headers others class (op.IfNull true target) = same
same-form headers others class (op.IfNull false target) = same
same-form headers others class (op.Goto target) = same
same-form headers others class (op.TableSwitch low targets other) = same
same-form headers others class (op.LookupSwitch cases other) = same
same-form headers others class (op.Return kind) = same
same-form headers others class (op.GetStatic field) = same
same-form headers others class (op.PutStatic field) = same
same-form headers others class (op.GetField field) = same
same-form headers others class (op.PutField field) = same
same-form headers others class (op.InvokeVirtual method) = same
same-form headers others class (op.InvokeSpecial method) = strict
same-form headers others class (op.InvokeStatic method) = same
same-form headers others class (op.InvokeInterface method) = same
same-form headers others class (op.InvokeDynamic bootstrap name descriptor) = same
same-form headers others class (op.New name) = same
same-form headers others class (op.NewArray element) = same
same-form headers others class (op.MultiNewArray type sizes) = same
same-form headers others class op.ArrayLength = same
same-form headers others class op.Throw = same
same-form headers others class (op.CheckCast type) = strict
same-form headers others class (op.InstanceOf type) = strict
same-form headers others class op.MonitorEnter = same
same-form headers others class op.MonitorExit = same

strict-alike : (ways : Ways) (instruction : Instruction) (n : ℕ) (stack : List Pending) {one other : Family} → SameForm one other → strict_step ways instruction n stack one ≡ strict_step ways instruction n stack other
strict-alike ways instruction n stack same = refl
strict-alike ways instruction n stack strict = refl

continues-alike : (sort : Sort) {one other : Family} → SameForm one other → continues sort one ≡ continues sort other
continues-alike (Loading of slot) same = refl
continues-alike (Loading of slot) strict = refl
continues-alike (Storing of slot) same = refl
continues-alike (Storing of slot) strict = refl
continues-alike (Counting slot by) same = refl
continues-alike (Counting slot by) strict = refl
continues-alike (Moving forms) same = refl
continues-alike (Moving forms) strict = refl
continues-alike Doubling same = refl
continues-alike Doubling strict = refl
continues-alike (Dropping two) same = refl
continues-alike (Dropping two) strict = refl
continues-alike (Making class) same = refl
continues-alike (Making class) strict = refl
continues-alike (Calling count) same = refl
continues-alike (Calling count) strict = refl
continues-alike Throwing same = refl
continues-alike Throwing strict = refl
continues-alike Idle same = refl
continues-alike Idle strict = refl
continues-alike Other same = refl
continues-alike Other strict = refl

module _ (headers others : List Header) (class : Name) (ways : Ways) where
  advance-alike : (names : Names) (pc : ℕ) (instruction : Instruction) (n : ℕ) (stack : List Pending) (sort : Sort) → advance headers class ways names pc instruction n stack sort ≡ advance others class ways names pc instruction n stack sort
  advance-alike names pc instruction n stack (Loading of slot) = refl
  advance-alike names pc instruction n stack (Storing of slot) = refl
  advance-alike names pc instruction n stack (Counting slot by) = refl
  advance-alike names pc instruction n stack (Moving forms) = refl
  advance-alike names pc instruction n stack Doubling = refl
  advance-alike names pc instruction n stack (Dropping two) = refl
  advance-alike names pc instruction n stack (Making made) = refl
  advance-alike names pc instruction n stack (Calling count) =
      ap (λ found. under names (or_else (with_operands count [] stack (λ are below. born_built ways instruction n are below)) found)) (strict-alike ways instruction n stack (same-form headers others class instruction))
  advance-alike names pc instruction n stack Throwing = refl
  advance-alike names pc instruction n stack Idle = refl
  advance-alike names pc instruction n stack Other = ap (under names) (strict-alike ways instruction n stack (same-form headers others class instruction))

  one-alike : (names : Names) (pc : ℕ) (instruction : Instruction) (n : ℕ) (stack : List Pending) → advance_one headers class ways names pc instruction n stack ≡ advance_one others class ways names pc instruction n stack
  one-alike names pc instruction n stack = λ i.
      and_then (first_spilled (ways.before instruction stack) n stack (λ from entries. advance-alike names pc instruction from entries (sort_of instruction) i)) (λ step. then_spilled (ways.after step.0.stack) step)

  pub opened-alike : (starts : ℕ → Bool) (own n : ℕ) (names : Names) (stack : List Pending) (list : Instructions) → opened headers class ways starts own n names stack list ≡ opened others class ways starts own n names stack list
  opened-alike starts own n names stack [] = refl
  opened-alike starts own n names stack (first ∷ rest) = λ i.
      if first.0 == own then called_at headers class ways starts own n first rest stack else
      and_then (if continues-alike (sort_of first.1) (same-form headers others class first.1) i && (is_still (sort_of first.1) && not (starts (pc_of rest))) then quiet_step n (one-alike names first.0 first.1 n stack i) else None)
      (λ step. opened-alike starts own n step.1 step.0.stack rest i)
