use Rattle.std.proofs.Common.{length, refl, sym, ap, ◌∙◌, arith}
use Rattle.std.proofs.lemmas.Bool.{both_ways, false≢true}
use Rattle.std.proofs.lemmas.Slice.Eq.{bytes_eq-Decides}
use Rattle.dj_kinds.proofs.InheritLemmas.{walk_start, walk_ends, walk_leaves, walk_stops, walk_on, walk_over}
use Rattle.dj_static.proofs.visible.inherits_in_package.Goals as goal

pub loop-init : goal.loop-init
loop-init c = walk_start c.args.headers.now c.args.owner.now c.args.class.now

pub returns-then-eq : goal.returns-then-eq
returns-then-eq c = record {
  inherits = (
    λ is. walk_ends c.args.headers.now c.args.owner.now c.args.class.now c.loop.at.now c.loop.counter c.loop.invariant ((bytes_eq-Decides c.loop.at.now c.args.owner.now).0 (sym c.eq.ensures ∙ c.if-eq.true)),
    λ h. refl,
  );
}

pub returns-then-not-is_same_package : goal.returns-then-not-is_same_package
returns-then-not-is_same_package c = record {
  inherits = (
    λ is. absurd (false≢true is),
    λ h. absurd (walk_leaves c.args.headers.now c.args.owner.now c.args.class.now c.loop.at.now c.loop.counter c.loop.invariant (λ same. both_ways c.eq.result c.if-eq.false (c.eq.ensures ∙ (bytes_eq-Decides c.loop.at.now c.args.owner.now).1 same))
        (λ same. both_ways c.is_same_package.result c.if-not-is_same_package.true (c.is_same_package.ensures.same.1 same)) h),
  );
}

pub returns-in-None : goal.returns-in-None
returns-in-None c = record {
  inherits = (
    λ is. absurd (false≢true is),
    λ h. absurd (walk_stops c.args.headers.now c.args.owner.now c.args.class.now c.loop.at.now c.loop.counter c.loop.invariant (λ same. both_ways c.eq.result c.if-eq.false (c.eq.ensures ∙ (bytes_eq-Decides c.loop.at.now c.args.owner.now).1 same)) c.as_slice.ensures.distinct c.in-None.ensures.superclass h),
  );
}

pub loop-preserved : goal.loop-preserved
loop-preserved c =
    walk_on c.args.headers.now c.args.owner.now c.args.class.now c.loop.at.now c.loop.counter c.loop.invariant (λ same. both_ways c.eq.result c.if-eq.false (c.eq.ensures ∙ (bytes_eq-Decides c.loop.at.now c.args.owner.now).1 same)) c.as_slice.ensures.distinct c.in-Some.superclass.now c.in-Some.ensures.superclass
    (c.is_same_package.ensures.same.0 c.if-not-is_same_package.false)

pub returns : goal.returns
returns c = record {
  inherits = (
    λ is. absurd (false≢true is),
    λ h. absurd (walk_over c.args.headers.now c.args.owner.now c.args.class.now c.loop.at.now c.loop.counter c.loop.invariant (omega (arith, ap length c.as_slice.ensures.headers)) h),
  );
}
