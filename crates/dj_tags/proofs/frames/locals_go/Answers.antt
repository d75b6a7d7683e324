use Rattle.std.proofs.Common.{◌<◌, ◌≤◌, length, refl, arith}
use Rattle.std.proofs.lemmas.Bool.{false≢true, both_ways}
use Rattle.std.proofs.lemmas.List.{length-map}
use Rattle.dj_frames.specs.Frames.{view_tag, view_tags}
use Rattle.dj_tags.proofs.SlotLemmas.{locals_each, locals_go, local_more}
use Rattle.dj_tags.proofs.frames.locals_go.Goals as goal

pub returns-then-not-local_at_goes : goal.returns-then-not-local_at_goes
returns-then-not-local_at_goes g c =
    let Goes = g.G.Goes.relation c.args.goes.now in
    let froms = view_tags c.args.from.now in
    let tos = view_tags c.args.to.now in
    let within : c.loop-slot.slot < length tos = let e = length-map c.args.to.now view_tag in let n = c.len-slot-end.ensures.len in let t = c.loop-slot-test.true in omega arith in
    record { go = (λ yes. absurd (false≢true yes), λ go. let there = (locals_each Goes froms tos go).each c.loop-slot.slot within in absurd (both_ways c.local_at_goes.result c.if-not-local_at_goes.true (c.local_at_goes.ensures.goes.1 there))) }

pub loop-slot-preserved : goal.loop-slot-preserved
loop-slot-preserved g c =
    local_more (g.G.Goes.relation c.args.goes.now) (view_tags c.args.from.now) (view_tags c.args.to.now) c.loop-slot.slot c.loop-slot.invariant (c.local_at_goes.ensures.goes.0 c.if-not-local_at_goes.false)

pub returns : goal.returns
returns g c =
    let Goes = g.G.Goes.relation c.args.goes.now in
    let froms = view_tags c.args.from.now in
    let tos = view_tags c.args.to.now in
    let all : length tos ≤ c.loop-slot.slot = let e = length-map c.args.to.now view_tag in let n = c.len-slot-end.ensures.len in let t = c.loop-slot-test.false in omega arith in
    record { go = (λ yes. locals_go Goes froms tos (record { each = λ k within. c.loop-slot.invariant.each k (omega arith) }), λ go. refl) }
