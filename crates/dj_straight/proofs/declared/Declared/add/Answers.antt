use Rattle.std.proofs.Common.{replicate}
use Rattle.dj_names.specs.Types.{Int}
use Rattle.dj_straight.specs.StraightMethod.{HasSignature}
use Rattle.dj_straight.proofs.DeclaredLemmas.{first_tells, holds_more}
use Rattle.dj_straight.proofs.declared.Declared.add.Goals as goal

pub returns-clause-first : goal.returns-clause-first
returns-clause-first c = λ before holds.
    rw c.as_slice.ensures.units at (first_tells c.args.self.now before c.args.ints c.as_slice.result c.in_ok-insert.field-0 holds c.in_ok-insert.ensures.added)

pub returns-clause-added : goal.returns-clause-added
returns-clause-added c = λ before method holds has.
    let here : HasSignature c.as_slice.result.now (replicate c.args.ints Int) method = rw c.as_slice.ensures.units has in
    holds_more c.args.self.now (record { entries = c.insert.new.self }) before method c.args.ints c.as_slice.result holds here c.in_ok-insert.ensures.updates.0
