-- Two lists of statements run one behind the other, in the scope that the first one leaves.
use Rattle.std.proofs.Common.{ℕ, ◌≡◌, refl, ap}
use Rattle.dj_syntax.specs.Trees.{Stms, Empty, And}
use Rattle.dj_meaning.specs.StaticTypes.{Context, Scope}
use Rattle.dj_meaning.specs.Runs.{Meaning, ◌>>=◌}
use Rattle.dj_meaning.specs.Completions.{Completion, sequence}
use Rattle.dj_meaning.specs.Declarations.{declared, within, behind, locally, joined}
use Rattle.dj_meaning.specs.Statements.{Elsewhere}
use Rattle.dj_meaning.specs.Meaning.{run, run_then}

pub joined-runs : (context : Context) (scope : Scope) (bound : ℕ) (first second : Stms) (next : Meaning Completion)
    → run_then context scope bound (joined first second) next ≡ run_then context scope bound first (run_then context (behind first scope) bound second next)
joined-runs context scope bound Empty second next = refl
joined-runs context scope bound (And first rest) second next =
    ap (λ part. locally (declared first) (run context scope bound Elsewhere first >>= sequence part)) (joined-runs context (within (declared first) scope) bound rest second next)
