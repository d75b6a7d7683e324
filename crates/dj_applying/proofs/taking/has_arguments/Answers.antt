use Rattle.std.proofs.Common.{◌≡◌, ◌-◌, ◌<◌, length, refl, arith, Some, slice_get}
use Rattle.std.proofs.lemmas.Bool.{false≢true, both_ways}
use Rattle.std.proofs.lemmas.List.{length-map}
use Rattle.dj_names.specs.Types.{view_type, view_types}
use Rattle.dj_frames.specs.Frames.{view_tags, tag_of}
use Rattle.dj_effects.specs.Works.{Of}
use Rattle.dj_effects.specs.Rows.{arguments}
use Rattle.dj_applying.proofs.Wanting.{AreMet, met_more, not_wanted, are_wanted, seen_at, argument_at, many_arguments}
use Rattle.dj_applying.proofs.taking.has_arguments.Goals as goal

pub returns-then-not-has_at : goal.returns-then-not-has_at
returns-then-not-has_at g c =
    let Goes = g.G.Goes.relation c.args.goes.now in
    let types = view_types c.args.parameters.now in
    let type = c.index-parameters-parameters.result in
    let depth = c.loop-depth.depth in
    let e = length-map c.args.parameters.now view_type in
    let t = c.loop-depth-test.true in
    let inside : depth < length types = omega arith in
    let within : depth < length (arguments types) = let m = many_arguments types in omega arith in
    let place : slice_get types (length types - 1 - depth) ≡ Some (view_type type) = rw e (seen_at view_type c.args.parameters.now (length c.args.parameters.now - 1 - depth) type (omega arith) c.index-parameters-parameters.is) in
    record {
      wanted = (
        λ yes. absurd (false≢true yes),
        λ all. absurd (not_wanted Goes (arguments types) (view_tags c.args.stack.now) depth (Of (tag_of (view_type type))) within (argument_at types depth (view_type type) inside place) (λ has. both_ways c.has_at.result c.if-not-has_at.true (c.has_at.ensures.has.1 has)) all),
      );
    }

pub loop-depth-preserved : goal.loop-depth-preserved
loop-depth-preserved g c =
    let Goes = g.G.Goes.relation c.args.goes.now in
    let types = view_types c.args.parameters.now in
    let type = c.index-parameters-parameters.result in
    let depth = c.loop-depth.depth in
    let e = length-map c.args.parameters.now view_type in
    let t = c.loop-depth-test.true in
    let inside : depth < length types = omega arith in
    let place : slice_get types (length types - 1 - depth) ≡ Some (view_type type) = rw e (seen_at view_type c.args.parameters.now (length c.args.parameters.now - 1 - depth) type (omega arith) c.index-parameters-parameters.is) in
    met_more Goes (arguments types) (view_tags c.args.stack.now) depth (Of (tag_of (view_type type))) (argument_at types depth (view_type type) inside place) c.loop-depth.invariant (c.has_at.ensures.has.0 c.if-not-has_at.false)

pub returns : goal.returns
returns g c =
    let Goes = g.G.Goes.relation c.args.goes.now in
    let types = view_types c.args.parameters.now in
    let met : AreMet Goes (arguments types) (view_tags c.args.stack.now) (length (arguments types)) = record { each = λ k within. c.loop-depth.invariant.each k (let e = length-map c.args.parameters.now view_type in let m = many_arguments types in let t = c.loop-depth-test.false in omega arith) } in
    record { wanted = (λ yes. are_wanted Goes (arguments types) (view_tags c.args.stack.now) met, λ all. refl) }
