use Rattle.std.proofs.Common.{◌≡◌, length, ap, subst, arith}
use Rattle.dj_tags.proofs.Superclasses.{IsWalk, walk_more, walk_known, walk_ends, walk_done}
use Rattle.dj_tags.proofs.relations.has_unknown_above.Goals as goal

pub returns-in-None : goal.returns-in-None
returns-in-None c =
    let headers = c.args.headers.now in
    let start = c.args.class.now in
    let now = c.loop.upper.now in
    record {
      unknown = (
        λ yes. walk_known headers start now c.loop.index c.loop.invariant (c.is_unknown.ensures.unknown.0 yes),
        λ above. c.is_unknown.ensures.unknown.1 (walk_ends headers start now c.loop.index c.loop.invariant c.in-None.ensures.one above),
      );
    }

pub loop-preserved : goal.loop-preserved
loop-preserved c = walk_more c.args.headers.now c.args.class.now c.loop.upper.now c.in-Some.next.now c.loop.index c.loop.invariant c.in-Some.ensures.named c.in-Some.ensures.one

pub returns : goal.returns
returns c =
    let headers = c.args.headers.now in
    let start = c.args.class.now in
    let now = c.loop.upper.now in
    let same = ap length c.as_slice-items.ensures.headers in
    let all : c.loop.index ≡ length headers = let low = c.loop.auto.index-end in let past = c.loop-test.false in omega arith in
    record {
      unknown = (
        λ yes. walk_known headers start now c.loop.index c.loop.invariant (c.is_unknown-2.ensures.unknown.0 yes),
        λ above. c.is_unknown-2.ensures.unknown.1 (walk_done headers start now (subst (IsWalk headers start now) all c.loop.invariant) above),
      );
    }
