use Rattle.std.proofs.Common.{◌≡◌, ◌<◌, ◌≤◌, length, refl, arith}
use Rattle.std.proofs.lemmas.Bool.{false≢true, both_ways}
use Rattle.std.proofs.lemmas.List.{length-map}
use Rattle.dj_frames.specs.Frames.{view_tag, view_tags}
use Rattle.dj_tags.proofs.SlotLemmas.{reversed_many, entries_each, entries_go, entry_more}
use Rattle.dj_tags.proofs.frames.entries_go.Goals as goal

pub returns-then-len : goal.returns-then-len
returns-then-len g c =
    let f = length-map c.args.from.now view_tag in
    let t = length-map c.args.to.now view_tag in
    let one = c.len.ensures.len in
    let other = c.len-2.ensures.len in
    let differ = c.if-len.true in
    record { go = (λ yes. absurd (false≢true yes), λ go. let many = reversed_many (g.G.Goes.relation c.args.goes.now) (view_tags c.args.from.now) (view_tags c.args.to.now) go in absurd (omega arith)) }

pub returns-then-not-place_goes : goal.returns-then-not-place_goes
returns-then-not-place_goes g c =
    let Goes = g.G.Goes.relation c.args.goes.now in
    let froms = view_tags c.args.from.now in
    let tos = view_tags c.args.to.now in
    let t = length-map c.args.to.now view_tag in
    let n = c.len-place-end.ensures.len in
    let test = c.loop-place-test.true in
    let within : c.loop-place.place < length tos = omega arith in
    record {
      go = (
        λ yes. absurd (false≢true yes),
        λ go. let there = (entries_each Goes froms tos (reversed_many Goes froms tos go) go).each c.loop-place.place within in absurd (both_ways c.place_goes.result c.if-not-place_goes.true (c.place_goes.ensures.goes.1 there)),
      );
    }

pub loop-place-preserved : goal.loop-place-preserved
loop-place-preserved g c =
    entry_more (g.G.Goes.relation c.args.goes.now) (view_tags c.args.from.now) (view_tags c.args.to.now) c.loop-place.place c.loop-place.invariant (c.place_goes.ensures.goes.0 c.if-not-place_goes.false)

pub returns : goal.returns
returns g c =
    let Goes = g.G.Goes.relation c.args.goes.now in
    let froms = view_tags c.args.from.now in
    let tos = view_tags c.args.to.now in
    let f = length-map c.args.from.now view_tag in
    let t = length-map c.args.to.now view_tag in
    let one = c.len.ensures.len in
    let other = c.len-2.ensures.len in
    let n = c.len-place-end.ensures.len in
    let same = c.if-len.false in
    let test = c.loop-place-test.false in
    let many : length froms ≡ length tos = omega arith in
    let all : length tos ≤ c.loop-place.place = omega arith in
    record { go = (λ yes. entries_go Goes froms tos many (record { each = λ k within. c.loop-place.invariant.each k (omega arith) }), λ go. refl) }
