use Rattle.std.proofs.Common.{◌≡◌, ◌<◌, ◌∙◌, get_or, length, subst, sym, ap, arith}
use Rattle.std.proofs.lemmas.List.{length-map}
use Rattle.dj_instructions.specs.Instructions.{view_instruction, view_instructions}
use Rattle.dj_code.specs.MethodCode.{view_code}
use Rattle.dj_code.proofs.TargetLists.{viewed, viewed_at}
use Rattle.dj_effects.specs.Doing.{view_working}
use Rattle.dj_verify.specs.Checking.{flow_of}
use Rattle.dj_verify.proofs.PlaceSteps.{begun_none, loop_more, loop_breaks}
use Rattle.dj_verify.proofs.verifying.check_all.Goals as goal

pub loop-i-init : goal.loop-i-init
loop-i-init g c =
    begun_none (g.K.Keeping.keeps c.args.kept.now) (g.G.Goes.relation c.args.goes.now) (g.G.Goes.known c.args.goes.now) (view_code c.args.subject.now.code.now) (view_working c.args.first) c.requires.none c.requires.entry

pub returns-in-Some-clause-unverified : goal.returns-in-Some-clause-unverified
returns-in-Some-clause-unverified g c =
    let R = g.G.Goes.relation c.args.goes.now in
    let K = g.G.Goes.known c.args.goes.now in
    let code = view_code c.args.subject.now.code.now in
    let xs = c.args.subject.now.code.now.instructions in
    let at = c.at-item.result in
    let long = length-map xs viewed in
    let in_code : c.loop-i.i < length xs = subst (λ list. c.loop-i.i < length list) c.as_slice-at-items.ensures c.loop-i-test.true in
    let is : at ≡ get_or xs c.loop-i.i at = subst (λ list. at ≡ get_or list c.loop-i.i at) c.as_slice-at-items.ensures c.at-item.is in
    loop_breaks R K code c.loop-i.i (at.0, view_instruction at.1) (viewed_at xs c.loop-i.i at in_code is) (g.K.Keeping.keeps c.loop-i.kept) (g.K.Keeping.keeps c.check_place.new.kept) (flow_of c.loop-i.flow) c.loop-i.invariant (omega (arith, in_code, long)) c.len-count.result (c.len-count.ensures ∙ sym long) (flow_of c.check_place.new.flow) c.in_ok-broken.broken c.in_ok-broken.ensures.checked c.in-Some.rule c.in-Some.is

pub loop-i-preserved : goal.loop-i-preserved
loop-i-preserved g c =
    let R = g.G.Goes.relation c.args.goes.now in
    let K = g.G.Goes.known c.args.goes.now in
    let code = view_code c.args.subject.now.code.now in
    let xs = c.args.subject.now.code.now.instructions in
    let at = c.at-item.result in
    let long = length-map xs viewed in
    let in_code : c.loop-i.i < length xs = subst (λ list. c.loop-i.i < length list) c.as_slice-at-items.ensures c.loop-i-test.true in
    let is : at ≡ get_or xs c.loop-i.i at = subst (λ list. at ≡ get_or list c.loop-i.i at) c.as_slice-at-items.ensures c.at-item.is in
    loop_more R K code c.loop-i.i (at.0, view_instruction at.1) (viewed_at xs c.loop-i.i at in_code is) (g.K.Keeping.keeps c.loop-i.kept) (g.K.Keeping.keeps c.check_place.new.kept) (flow_of c.loop-i.flow) c.loop-i.invariant (omega (arith, in_code, long)) c.len-count.result (c.len-count.ensures ∙ sym long) (flow_of c.check_place.new.flow) c.in_ok-broken.broken c.in_ok-broken.ensures.checked c.in_default.is

pub returns : goal.returns
returns g c =
    let xs = c.args.subject.now.code.now.instructions in
    let long = length-map xs viewed in
    let all : length c.as_slice-at-items.result.now ≡ length xs = ap length c.as_slice-at-items.ensures in
    let ends : c.loop-i.i ≡ length (view_instructions xs) = let low = c.loop-i-test.false in let high = c.loop-i.auto.i-end in omega (arith, low, high, long, all) in
    let begun = c.loop-i.invariant in
    record {
      table = record { frames = begun.frames; holds = begun.holds; table = record { number = begun.begun.number ∙ ends; are = begun.begun.are } };
      unverified = tt;
    }
