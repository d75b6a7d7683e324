-- What a rewrite keeps at a worked example: the call of another constructor stands in the list of a body alone, and is stuck in each block.
use Rattle.std.proofs.Common.{true, false, [], ◌∷◌, Some, None, refl, ap, arith}
use Rattle.std.specs.Prelude.{pos, codes, length}
use Rattle.dj_syntax.specs.Trees.{NoExps, StaticCall, Stms, And, Block, Run, Construct}
use Rattle.dj_values.specs.Values.{Int, Ref, Given, Done}
use Rattle.dj_values.specs.Outcomes.{State, actions_of}
use Rattle.dj_meaning.specs.StaticTypes.{Context, Scope}
use Rattle.dj_meaning.specs.Runs.{Store}
use Rattle.dj_meaning.specs.Statements.{Place, First, Behind, Elsewhere}
use Rattle.dj_meaning.specs.Meaning.{run_statements}
use Rattle.dj_meaning.specs.Preserving.{IsStart, Preserves, IsBodyStart, Keeps}
use Rattle.dj_meaning.proofs.ExampleWorld.{headers, members, this, start, int, one, only}

-- `super(); C.t(5);`, and that without the call
abbrev whole : Stms
whole = And (Construct false NoExps) (only (Run (StaticCall (codes "C") (codes "t") (one (int 5)))))

abbrev cut : Stms
cut = only (Construct false NoExps)

-- no run of the block begins
no_start : (context : Context) (scope : Scope) (place : Place) (state : State Store) → IsStart context scope place (Block whole) state → ⊥
no_start context scope First state begins = begins.free 0
no_start context scope (Behind label) state begins = begins.free 0
no_start context scope Elsewhere state begins = begins.free 0

-- so as a statement any block may stand for it
as_a_statement : (list : Stms) → Preserves (Block whole) (Block list)
as_a_statement list = record {
  declares = refl;
  forth = λ context scope place state begins. absurd (no_start context scope place state begins);
  back = λ context scope place state begins. absurd (no_start context scope place state begins);
}

-- in a constructor of C, without variables
abbrev context : Context
context = record { headers = headers; members = members; class = codes "C"; result = None; this = Some (Ref this); constructs = true }

abbrev nothing : Scope
nothing variable = None

abbrev answered : State Store
answered = start (Done ∷ Given (Int (pos 0)) ∷ [])

begins : IsBodyStart context nothing whole answered
begins = record { typed = λ variable type value has is. absurd (cc); free = λ bound. tt }

-- but a body's list may not lose what stands behind `super()`
as_a_body : ¬ Keeps (Block whole) (Block cut)
as_a_body keeps =
    let behind = (keeps.body whole cut refl refl).back context nothing answered begins 0 in
    absurd (omega (arith, ap (λ outcome. length (actions_of outcome)) behind.1))
