use Rattle.dj_static.specs.Scopes.{scope_of}
use Rattle.dj_checked.specs.Sites.{site_of}
use Rattle.dj_body_types.proofs.ClauseLemmas.{not_new, new_more}
use Rattle.dj_body_types.proofs.clauses.are_new_catches.Goals as goal

pub returns-then-not-new : goal.returns-then-not-new
returns-then-not-new c = record {
  new = not_new (site_of c.args.site.now) (scope_of c.args.scope.now) c.args.catches.now c.loop-catch.catch-index c.catch-item.result c.in_ok-new.new c.loop-catch-test.true c.catch-item.is c.in_ok-new.ensures.new c.if-not-new.true c.loop-catch.invariant.new;
}

pub loop-catch-preserved : goal.loop-catch-preserved
loop-catch-preserved c = record {
  new = new_more (site_of c.args.site.now) (scope_of c.args.scope.now) c.args.catches.now c.loop-catch.catch-index c.catch-item.result c.in_ok-new.new c.loop-catch-test.true c.catch-item.is c.in_ok-new.ensures.new c.if-not-new.false c.loop-catch.invariant.new;
}
