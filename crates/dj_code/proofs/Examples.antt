-- Worked code: a jump to no instruction, and a handler inside one (JVMS 4.9.1).
use Rattle.std.proofs.Common.{◌≡◌, ◌<◌, ◌≤◌, ℕ, zero, suc, List, [], ◌∷◌, length, slice_index_or, Some, refl, ap, arith}
use Rattle.std.proofs.lemmas.Bool.{false≢true}
use Rattle.std.proofs.lemmas.List.Elements.{All-cons, All-nil}
use Rattle.dj_pool.specs.declared.entry.Entry.{Entry}
use Rattle.dj_instructions.specs.declared.kinds.Kind.TheVariants as kind
use Rattle.dj_instructions.specs.declared.kinds.BadKind.TheVariants as bad
use Rattle.dj_instructions.specs.Instructions.{Instruction, Instructions, Load, Goto, Return}
use Rattle.dj_code.specs.declared.content.RawHandler.{RawHandler}
use Rattle.dj_code.specs.declared.content.CodeContent.{CodeContent}
use Rattle.dj_code.specs.Targets.{IsStart, JumpsRight, AllJumpRight}
use Rattle.dj_code.specs.ReadCode.{BreaksCheck, jump, handler}

abbrev content : List ℕ → List RawHandler → CodeContent
content code handlers = record { max_stack = 1; max_locals = 1; code = code; handlers = handlers; attributes = [] }

-- 0 goto 1, where none begins
abbrev astray : Instructions
astray = (0, Goto 1) ∷ []

jumps_astray : (pool : List Entry) → BreaksCheck pool (content (167 ∷ 0 ∷ 1 ∷ []) []) astray bad.Target 0
jumps_astray pool = jump (record { here = (0, (0, Goto 1), omega arith, refl, (refl, λ right. false≢true (right 0 0 (omega arith)))); least = λ other here. omega arith })

-- 0 iload 0, 2 ireturn
abbrev plain : Instructions
plain = (0, Load kind.Int 0) ∷ (2, Return (Some kind.Int)) ∷ []

plain_jumps : AllJumpRight plain
plain_jumps =
    let Right : ℕ × Instruction → Type 0 = λ at. JumpsRight plain at.1 in
    All-cons Right (0, Load kind.Int 0) ((2, Return (Some kind.Int)) ∷ []) (All-nil (IsStart plain)) (All-cons Right (2, Return (Some kind.Int)) [] (All-nil (IsStart plain)) (All-nil Right))

-- from 2 to 3 everything is handled at 1, the operand of the load
abbrev inside : RawHandler
inside = record { start = 2; end = 3; target = 1; class = 0 }

-- the one entry starts at 2
only : (k : ℕ) (x : RawHandler) (other : ℕ) → k < length (inside ∷ []) → slice_index_or (inside ∷ []) k x ≡ x → x.start ≡ other → 2 ≤ other
only zero x other within at starts = let same : 2 ≡ x.start = ap (λ (h : RawHandler). h.start) at in omega arith
only (suc k) x other within at starts = absurd (omega arith)

handled_inside : (pool : List Entry) → BreaksCheck pool (content (21 ∷ 0 ∷ 172 ∷ []) (inside ∷ [])) plain bad.Target 2
handled_inside pool = handler plain_jumps (record {
  here = (0, inside, omega arith, refl, (refl, λ right. false≢true right));
  least = λ other (k, x, within, at, both). only k x other within at both.0;
})
