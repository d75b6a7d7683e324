-- The laws, in full.
use Rattle.std.specs.Prelude.{◌≡◌, ℕ, ◌+◌, ◌*◌, ◌≤◌, Bool, List, length, Some}
use Rattle.dj_names.specs.declared.header.Header.{Header}
use Rattle.dj_names.specs.Headers.{Name}
use Rattle.dj_syntax.specs.Trees.{Stms}
use Rattle.dj_instructions.specs.Instructions.{Instructions}
use Rattle.dj_rebuilding.specs.Pending.{Pending}
use Rattle.dj_rebuilt.specs.Rebuilding.{Names, Ways, rebuilt}
use Rattle.dj_exits.specs.Numbers.{EachDeclaredIn, IsBetween, AreCalm, loose, KeepNumbers}

-- each variable that a block's statements declare has a number from the first fresh one on, and there are no more than the block's entries need, and six for each instruction
abbrev pub NumbersStay : Type 0
NumbersStay =
    (base : ℕ) (headers : List Header) (class : Name) (ways : Ways) (starts : ℕ → Bool) → KeepNumbers base ways
    → (names : Names) (n : ℕ) (stack : List Pending) (instructions : Instructions) (statements : Stms) → rebuilt headers class ways starts names n stack instructions ≡ Some statements → base ≤ n → AreCalm stack
    → EachDeclaredIn (IsBetween n (n + loose base stack + 6 * length instructions)) statements

-- the numbers of a block are its own, where no block has more than 65,535 entries and 65,535 instructions (JVMS 4.7.3, 4.9.1)
abbrev pub BlocksStayApart : Type 0
BlocksStayApart =
    (base block : ℕ) (headers : List Header) (class : Name) (ways : Ways) (starts : ℕ → Bool) → KeepNumbers base ways
    → (names : Names) (stack : List Pending) (instructions : Instructions) (statements : Stms) → rebuilt headers class ways starts names (base + 1048576 * block) stack instructions ≡ Some statements
    → AreCalm stack → length stack ≤ 65535 → length instructions ≤ 65535 → EachDeclaredIn (IsBetween (base + 1048576 * block) (base + 1048576 * (block + 1))) statements
