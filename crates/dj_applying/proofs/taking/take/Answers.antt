use Rattle.std.proofs.Common.{◌≡◌, ap, drop, length, refl, sym, ◌∙◌}
use Rattle.std.proofs.lemmas.Bool.{false≢true, both_ways}
use Rattle.std.proofs.lemmas.List.{length-map, length-append}
use Rattle.dj_names.specs.Types.{view_type, view_types}
use Rattle.dj_frames.specs.Frames.{view_tags}
use Rattle.dj_effects.specs.Rows.{arguments}
use Rattle.dj_effects.specs.Doing.{view_want, view_wants}
use Rattle.dj_applying.proofs.Wanting.{left_behind, wanted_split, drop_twice, many_arguments}
use Rattle.dj_applying.proofs.taking.take.Goals as goal

pub returns-then-not-has_arguments-clause-wanted : goal.returns-then-not-has_arguments-clause-wanted
returns-then-not-has_arguments-clause-wanted g c =
    let split = wanted_split (g.G.Goes.relation c.args.goes.now) (arguments (view_types c.args.parameters.now)) (view_wants c.args.wants.now) (view_tags c.args.stack.now) in
    (λ yes. absurd (false≢true yes), λ all. absurd (both_ways c.has_arguments.result c.if-not-has_arguments.true (c.has_arguments.ensures.wanted.1 (split.0 all).0)))

pub returns-then-not-has_wanted-clause-wanted : goal.returns-then-not-has_wanted-clause-wanted
returns-then-not-has_wanted-clause-wanted g c =
    let Goes = g.G.Goes.relation c.args.goes.now in
    let front = arguments (view_types c.args.parameters.now) in
    let split = wanted_split Goes front (view_wants c.args.wants.now) (view_tags c.args.stack.now) in
    let count : length c.args.parameters.now ≡ length front = sym (many_arguments (view_types c.args.parameters.now) ∙ length-map c.args.parameters.now view_type) in
    let left : view_tags c.remove.new.self ≡ drop (length front) (view_tags c.args.stack.now) = left_behind c.args.stack.now c.remove.new.self (length c.args.parameters.now) (length front) count c.remove.ensures.rest in
    (λ yes. absurd (false≢true yes), λ all. absurd (both_ways c.has_wanted.result c.if-not-has_wanted.true (c.has_wanted.ensures.wanted.1 (rw left (split.0 all).1))))

pub returns-clause-wanted : goal.returns-clause-wanted
returns-clause-wanted g c =
    let Goes = g.G.Goes.relation c.args.goes.now in
    let front = arguments (view_types c.args.parameters.now) in
    let split = wanted_split Goes front (view_wants c.args.wants.now) (view_tags c.args.stack.now) in
    let count : length c.args.parameters.now ≡ length front = sym (many_arguments (view_types c.args.parameters.now) ∙ length-map c.args.parameters.now view_type) in
    let left : view_tags c.remove.new.self ≡ drop (length front) (view_tags c.args.stack.now) = left_behind c.args.stack.now c.remove.new.self (length c.args.parameters.now) (length front) count c.remove.ensures.rest in
    (λ yes. split.1 (c.has_arguments.ensures.wanted.0 c.if-not-has_arguments.false, rw (← left) (c.has_wanted.ensures.wanted.0 c.if-not-has_wanted.false)), λ all. refl)

pub returns-clause-left : goal.returns-clause-left
returns-clause-left g c = λ yes.
    let front = arguments (view_types c.args.parameters.now) in
    let wants = view_wants c.args.wants.now in
    let count : length c.args.parameters.now ≡ length front = sym (many_arguments (view_types c.args.parameters.now) ∙ length-map c.args.parameters.now view_type) in
    let left : view_tags c.remove.new.self ≡ drop (length front) (view_tags c.args.stack.now) = left_behind c.args.stack.now c.remove.new.self (length c.args.parameters.now) (length front) count c.remove.ensures.rest in
    let both : view_tags c.remove-2.new.self ≡ drop (length wants) (view_tags c.remove.new.self) = left_behind c.remove.new.self c.remove-2.new.self (length c.args.wants.now) (length wants) (sym (length-map c.args.wants.now view_want)) c.remove-2.ensures.rest in
    both ∙ ap (drop (length wants)) left ∙ drop_twice (length front) (length wants) (view_tags c.args.stack.now) ∙ ap (λ n. drop n (view_tags c.args.stack.now)) (sym (length-append front wants))
