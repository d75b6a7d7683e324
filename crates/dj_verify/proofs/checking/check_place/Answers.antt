use Rattle.std.proofs.Common.{List, refl, [], ◌∷◌, ◌++◌, ap, ◌∙◌, subst}
use Rattle.dj_instructions.specs.Instructions.{view_instruction}
use Rattle.dj_code.specs.MethodCode.{view_code}
use Rattle.dj_tags.specs.Goes.{Working}
use Rattle.dj_effects.specs.Doing.{view_working}
use Rattle.dj_verify.specs.Rules.{Place}
use Rattle.dj_verify.specs.Checking.{flow_of, IsFrameChecked, IsPlaced}
use Rattle.dj_verify.proofs.PlaceSteps.{none_placed, placed_checked}
use Rattle.dj_verify.proofs.checking.check_place.Goals as goal

pub returns-then-not-branch : goal.returns-then-not-branch
returns-then-not-branch g c =
    let R = g.G.Goes.relation c.args.goes.now in
    let K = g.G.Goes.known c.args.goes.now in
    let code = view_code c.args.subject.now.code.now in
    record {
      checked = λ rest last.
          let place : Place = record { flow = flow_of c.args.flow.now; pc = c.args.at.now.0; instruction = view_instruction c.args.at.now.1; rest = rest } in
          subst (IsPlaced R K code place (flow_of c.place_frame.new.flow)) c.if-not-branch.true (c.in_ok-place_frame.ensures.placed (view_instruction c.args.at.now.1) rest);
    }

pub returns-in_default : goal.returns-in_default
returns-in_default g c =
    let R = g.G.Goes.relation c.args.goes.now in
    let K = g.G.Goes.known c.args.goes.now in
    let code = view_code c.args.subject.now.code.now in
    record {
      checked = λ rest last.
          let place : Place = record { flow = flow_of c.args.flow.now; pc = c.args.at.now.0; instruction = view_instruction c.args.at.now.1; rest = rest } in
          let placed = subst (IsPlaced R K code place (flow_of c.place_frame.new.flow)) c.if-not-branch.false (c.in_ok-place_frame.ensures.placed (view_instruction c.args.at.now.1) rest) in
          none_placed R K code place (placed.0 ∙ ap flow_of c.in_default.is);
    }

pub returns-then-not-falls : goal.returns-then-not-falls
returns-then-not-falls g c =
    let R = g.G.Goes.relation c.args.goes.now in
    let K = g.G.Goes.known c.args.goes.now in
    let code = view_code c.args.subject.now.code.now in
    let after = view_working c.check_frame.new.frame in
    let Holds : Working → Type 0 = λ frame. (frames : List Working) → g.K.Keeping.keeps c.args.kept.now frames → g.K.Keeping.keeps c.keep.new.self (frames ++ frame ∷ []) in
    record {
      checked = λ rest last.
          let place : Place = record { flow = flow_of c.args.flow.now; pc = c.args.at.now.0; instruction = view_instruction c.args.at.now.1; rest = rest } in
          let placed = subst (IsPlaced R K code place (flow_of c.place_frame.new.flow)) c.if-not-branch.false (c.in_ok-place_frame.ensures.placed (view_instruction c.args.at.now.1) rest) in
          placed_checked R K code place Holds (view_working c.in-Some.frame) after _ c.in_ok-broken.broken c.in_ok-keep.ensures.more (placed.0 ∙ ap flow_of c.in-Some.is) placed.1 (rw (← c.falls.ensures.falls, c.if-not-falls.true) refl)
          (subst (λ frame. IsFrameChecked R K code place frame after c.in_ok-broken.broken) c.in_ok-keep.ensures.same (c.in_ok-broken.ensures.checked (flow_of c.args.flow.now) rest (record { flow_fits = c.flow_fits-fits.ensures.fits; at_end = last })));
    }

pub returns-else-not-falls : goal.returns-else-not-falls
returns-else-not-falls g c =
    let R = g.G.Goes.relation c.args.goes.now in
    let K = g.G.Goes.known c.args.goes.now in
    let code = view_code c.args.subject.now.code.now in
    let after = view_working c.check_frame.new.frame in
    let Holds : Working → Type 0 = λ frame. (frames : List Working) → g.K.Keeping.keeps c.args.kept.now frames → g.K.Keeping.keeps c.keep.new.self (frames ++ frame ∷ []) in
    record {
      checked = λ rest last.
          let place : Place = record { flow = flow_of c.args.flow.now; pc = c.args.at.now.0; instruction = view_instruction c.args.at.now.1; rest = rest } in
          let placed = subst (IsPlaced R K code place (flow_of c.place_frame.new.flow)) c.if-not-branch.false (c.in_ok-place_frame.ensures.placed (view_instruction c.args.at.now.1) rest) in
          placed_checked R K code place Holds (view_working c.in-Some.frame) after _ c.in_ok-broken.broken c.in_ok-keep.ensures.more (placed.0 ∙ ap flow_of c.in-Some.is) placed.1 (rw (← c.falls.ensures.falls, c.if-not-falls.false) refl)
          (subst (λ frame. IsFrameChecked R K code place frame after c.in_ok-broken.broken) c.in_ok-keep.ensures.same (c.in_ok-broken.ensures.checked (flow_of c.args.flow.now) rest (record { flow_fits = c.flow_fits-fits.ensures.fits; at_end = last })));
    }
