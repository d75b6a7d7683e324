use Rattle.std.proofs.Common.{ap, ◌∙◌}
use Rattle.dj_names.specs.Types.{Class, Of}
use Rattle.dj_meaning.specs.Calls.{is_assignable}
use Rattle.dj_body_types.proofs.ClauseLemmas.{not_thrown, thrown_more}
use Rattle.dj_body_types.proofs.clauses.are_all_exceptions.Goals as goal

pub returns-then-not-thrown : goal.returns-then-not-thrown
returns-then-not-thrown c = record {
  exceptions = not_thrown c.args.headers.now c.args.catches.now c.loop-catch.catch-index c.catch-item.result c.in_ok-thrown.thrown c.loop-catch-test.true c.catch-item.is
      (c.in_ok-thrown.ensures.exception ∙ ap (is_assignable c.args.headers.now (Of (Class c.catch-item.result.class))) c.requires.throwable) c.if-not-thrown.true c.loop-catch.invariant.exceptions;
}

pub loop-catch-preserved : goal.loop-catch-preserved
loop-catch-preserved c = record {
  exceptions = thrown_more c.args.headers.now c.args.catches.now c.loop-catch.catch-index c.catch-item.result c.in_ok-thrown.thrown c.loop-catch-test.true c.catch-item.is
      (c.in_ok-thrown.ensures.exception ∙ ap (is_assignable c.args.headers.now (Of (Class c.catch-item.result.class))) c.requires.throwable) c.if-not-thrown.false c.loop-catch.invariant.exceptions;
}
