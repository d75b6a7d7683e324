use Rattle.std.proofs.Common.{◌≡◌, ◌<◌, length, refl, arith, Some, slice_get}
use Rattle.std.proofs.lemmas.Bool.{false≢true, both_ways}
use Rattle.std.proofs.lemmas.List.{length-map}
use Rattle.dj_frames.specs.Frames.{view_tags}
use Rattle.dj_effects.specs.Doing.{view_want, view_wants}
use Rattle.dj_applying.proofs.Wanting.{AreMet, met_more, not_wanted, are_wanted, seen_at}
use Rattle.dj_applying.proofs.taking.has_wanted.Goals as goal

pub returns-then-not-has_at : goal.returns-then-not-has_at
returns-then-not-has_at g c =
    let Goes = g.G.Goes.relation c.args.goes.now in
    let wants = c.args.wants.now in
    let want = c.index-wants-depth.result in
    let within : c.loop-depth.depth < length (view_wants wants) = let e = length-map wants view_want in let t = c.loop-depth-test.true in omega arith in
    let here : slice_get (view_wants wants) c.loop-depth.depth ≡ Some (view_want want) = seen_at view_want wants c.loop-depth.depth want c.loop-depth-test.true c.index-wants-depth.is in
    record {
      wanted = (
        λ yes. absurd (false≢true yes),
        λ all. absurd (not_wanted Goes (view_wants wants) (view_tags c.args.stack.now) c.loop-depth.depth (view_want want) within here (λ has. both_ways c.has_at.result c.if-not-has_at.true (c.has_at.ensures.has.1 has)) all),
      );
    }

pub loop-depth-preserved : goal.loop-depth-preserved
loop-depth-preserved g c =
    let Goes = g.G.Goes.relation c.args.goes.now in
    let wants = c.args.wants.now in
    let want = c.index-wants-depth.result in
    let here : slice_get (view_wants wants) c.loop-depth.depth ≡ Some (view_want want) = seen_at view_want wants c.loop-depth.depth want c.loop-depth-test.true c.index-wants-depth.is in
    met_more Goes (view_wants wants) (view_tags c.args.stack.now) c.loop-depth.depth (view_want want) here c.loop-depth.invariant (c.has_at.ensures.has.0 c.if-not-has_at.false)

pub returns : goal.returns
returns g c =
    let Goes = g.G.Goes.relation c.args.goes.now in
    let wants = c.args.wants.now in
    let met : AreMet Goes (view_wants wants) (view_tags c.args.stack.now) (length (view_wants wants)) = record { each = λ k within. c.loop-depth.invariant.each k (let e = length-map wants view_want in let t = c.loop-depth-test.false in omega arith) } in
    record { wanted = (λ yes. are_wanted Goes (view_wants wants) (view_tags c.args.stack.now) met, λ all. refl) }
