use Rattle.std.proofs.Common.{◌≡◌, ◌∙◌, Some, None, false, ap, sym, length}
use Rattle.std.proofs.lemmas.Bool.{false≢true}
use Rattle.std.proofs.lemmas.List.{length-map}
use Rattle.dj_names.specs.Types.{view_type, view_types}
use Rattle.dj_frames.specs.Frames.{view_tags}
use Rattle.dj_code.specs.MethodCode.{view_code}
use Rattle.dj_frames.specs.declared.unborn.Unborn.TheVariants.{This, At}
use Rattle.dj_effects.specs.Rows.{arguments}
use Rattle.dj_effects.specs.Operands.{under}
use Rattle.dj_effects.specs.Doing.{view_working}
use Rattle.dj_applying.proofs.Wanting.{left_behind, many_arguments}
use Rattle.dj_applying.proofs.Constructing.{born_did}
use Rattle.dj_applying.proofs.births.bear.Goals as goal

pub returns-in_ok-done-in-Some-This : goal.returns-in_ok-done-in-Some-This
returns-in_ok-done-in-Some-This g c =
    let types = view_types c.args.parameters.now in
    let count : length c.args.parameters.now ≡ length (arguments types) = sym (many_arguments types ∙ length-map c.args.parameters.now view_type) in
    let left : view_tags c.remove.new.self ≡ under (arguments types) (view_tags c.args.frame.now.stack) = left_behind c.args.frame.now.stack c.remove.new.self (length c.args.parameters.now) (length (arguments types)) count c.remove.ensures.rest in
    record {
      did = born_did (g.G.Goes.relation c.args.goes.now) (g.G.Goes.known c.args.goes.now) (view_code c.args.code.now) c.args._pc types (view_type c.args.owner.now) (view_working c.args.frame.now) (view_working c.bear_this.new.frame) c.in_ok-done-in-Some-This.done (Some This) (view_tags c.remove.new.self)
          (c.has_arguments.ensures.wanted.0 c.if-not-has_arguments.false) left (ap Some (sym c.in-Some-This.field-0-is) ∙ sym c.in-Some-This.is ∙ c.unborn_on.ensures.unborn) c.in_ok-done-in-Some-This.ensures.may c.in_ok-done-in-Some-This.ensures.born;
    }

pub returns-in_ok-done-in-Some-At : goal.returns-in_ok-done-in-Some-At
returns-in_ok-done-in-Some-At g c =
    let types = view_types c.args.parameters.now in
    let count : length c.args.parameters.now ≡ length (arguments types) = sym (many_arguments types ∙ length-map c.args.parameters.now view_type) in
    let left : view_tags c.remove.new.self ≡ under (arguments types) (view_tags c.args.frame.now.stack) = left_behind c.args.frame.now.stack c.remove.new.self (length c.args.parameters.now) (length (arguments types)) count c.remove.ensures.rest in
    record {
      did = born_did (g.G.Goes.relation c.args.goes.now) (g.G.Goes.known c.args.goes.now) (view_code c.args.code.now) c.args._pc types (view_type c.args.owner.now) (view_working c.args.frame.now) (view_working c.bear_at.new.frame) c.in_ok-done-in-Some-At.done (Some (At c.in-Some-At.at)) (view_tags c.remove.new.self)
          (c.has_arguments.ensures.wanted.0 c.if-not-has_arguments.false) left (ap Some (sym c.in-Some-At.field-0-is) ∙ sym c.in-Some-At.is ∙ c.unborn_on.ensures.unborn) c.in_ok-done-in-Some-At.ensures.may c.in_ok-done-in-Some-At.ensures.born;
    }

pub returns-in-None : goal.returns-in-None
returns-in-None g c =
    let types = view_types c.args.parameters.now in
    let count : length c.args.parameters.now ≡ length (arguments types) = sym (many_arguments types ∙ length-map c.args.parameters.now view_type) in
    let left : view_tags c.remove.new.self ≡ under (arguments types) (view_tags c.args.frame.now.stack) = left_behind c.args.frame.now.stack c.remove.new.self (length c.args.parameters.now) (length (arguments types)) count c.remove.ensures.rest in
    record {
      did = born_did (g.G.Goes.relation c.args.goes.now) (g.G.Goes.known c.args.goes.now) (view_code c.args.code.now) c.args._pc types (view_type c.args.owner.now) (view_working c.args.frame.now) (view_working _) false None (view_tags c.remove.new.self)
          (c.has_arguments.ensures.wanted.0 c.if-not-has_arguments.false) left (sym c.in-None.is ∙ c.unborn_on.ensures.unborn) (λ yes. false≢true yes, λ none. absurd none) (λ yes. absurd (false≢true yes));
    }
