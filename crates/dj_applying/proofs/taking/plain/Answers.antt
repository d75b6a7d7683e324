use Rattle.std.proofs.Common.{◌≡◌, ◌∙◌, ap, length, sym}
use Rattle.std.proofs.lemmas.List.{length-map}
use Rattle.std.specs.Option.{option_map}
use Rattle.dj_frames.specs.Frames.{view_tag, view_tags}
use Rattle.dj_code.specs.MethodCode.{view_code}
use Rattle.dj_effects.specs.Operands.{under}
use Rattle.dj_effects.specs.Effects.{pushed}
use Rattle.dj_effects.specs.Doing.{view_want, view_wants, view_working}
use Rattle.dj_applying.proofs.Giving.{plain_did}
use Rattle.dj_applying.proofs.Wanting.{left_behind}
use Rattle.dj_applying.proofs.taking.plain.Goals as goal

pub returns : goal.returns
returns g c =
    let wants = view_wants c.args.wants.now in
    let gives = option_map view_tag c.args.gives in
    let left : view_tags c.remove.new.self ≡ under wants (view_tags c.args.frame.now.stack) = left_behind c.args.frame.now.stack c.remove.new.self (length c.args.wants.now) (length wants) (sym (length-map c.args.wants.now view_want)) c.remove.ensures.rest in
    record {
      did = plain_did (g.G.Goes.relation c.args.goes.now) (g.G.Goes.known c.args.goes.now) (view_code c.args.code.now) c.args._pc wants gives (view_working c.args.frame.now) (view_tags c.give.new.stack)
          (c.has_wanted.ensures.wanted.0 c.if-not-has_wanted.false) (c.in_ok-give.ensures.ok ∙ ap (pushed gives) left);
    }
