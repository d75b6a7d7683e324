use Rattle.std.proofs.Common.{◌<◌, length, refl, arith}
use Rattle.std.specs.Prelude.{replicate}
use Rattle.std.proofs.lemmas.Bool.{false≢true, both_ways}
use Rattle.dj_frames.specs.Frames.{Int, view_tags}
use Rattle.dj_effects.specs.Works.{Of}
use Rattle.dj_applying.proofs.Wanting.{AreMet, met_more, not_wanted, are_wanted, many_same, same_at}
use Rattle.dj_applying.proofs.taking.has_ints.Goals as goal

pub returns-then-not-has_at : goal.returns-then-not-has_at
returns-then-not-has_at g c =
    let Goes = g.G.Goes.relation c.args.goes.now in
    let wants = replicate c.args.count (Of Int) in
    let test = c.loop-depth-test.true in
    let within : c.loop-depth.depth < length wants = let m = many_same c.args.count (Of Int) in omega arith in
    record {
      wanted = (
        λ yes. absurd (false≢true yes),
        λ all. absurd (not_wanted Goes wants (view_tags c.args.stack.now) c.loop-depth.depth (Of Int) within (same_at c.args.count c.loop-depth.depth (Of Int) test) (λ has. both_ways c.has_at.result c.if-not-has_at.true (c.has_at.ensures.has.1 (rw c.from.ensures has))) all),
      );
    }

pub loop-depth-preserved : goal.loop-depth-preserved
loop-depth-preserved g c =
    let Goes = g.G.Goes.relation c.args.goes.now in
    let wants = replicate c.args.count (Of Int) in
    met_more Goes wants (view_tags c.args.stack.now) c.loop-depth.depth (Of Int) (same_at c.args.count c.loop-depth.depth (Of Int) c.loop-depth-test.true) c.loop-depth.invariant (rw (← c.from.ensures) (c.has_at.ensures.has.0 c.if-not-has_at.false))

pub returns : goal.returns
returns g c =
    let Goes = g.G.Goes.relation c.args.goes.now in
    let wants = replicate c.args.count (Of Int) in
    let met : AreMet Goes wants (view_tags c.args.stack.now) (length wants) = record { each = λ k within. c.loop-depth.invariant.each k (let m = many_same c.args.count (Of Int) in let t = c.loop-depth-test.false in omega arith) } in
    record { wanted = (λ yes. are_wanted Goes wants (view_tags c.args.stack.now) met, λ all. refl) }
