use Rattle.std.proofs.Common.{◌≡◌, ◌∙◌, Some, ap, length, sym}
use Rattle.std.specs.Prelude.{replicate}
use Rattle.dj_frames.specs.Frames.{Int, view_tag, view_tags}
use Rattle.dj_code.specs.MethodCode.{view_code}
use Rattle.dj_effects.specs.Works.{Of}
use Rattle.dj_effects.specs.Operands.{under}
use Rattle.dj_effects.specs.Effects.{pushed}
use Rattle.dj_effects.specs.Doing.{view_working}
use Rattle.dj_applying.proofs.Giving.{plain_did}
use Rattle.dj_applying.proofs.Wanting.{left_behind, many_same}
use Rattle.dj_applying.proofs.taking.takes_ints.Goals as goal

pub returns : goal.returns
returns g c =
    let wants = replicate c.args.count (Of Int) in
    let gives = Some (view_tag c.args.gives) in
    let left : view_tags c.remove.new.self ≡ under wants (view_tags c.args.frame.now.stack) = left_behind c.args.frame.now.stack c.remove.new.self c.from.result (length wants) (c.from.ensures ∙ sym (many_same c.args.count (Of Int))) c.remove.ensures.rest in
    record {
      did = plain_did (g.G.Goes.relation c.args.goes.now) (g.G.Goes.known c.args.goes.now) (view_code c.args.code.now) c.args._pc wants gives (view_working c.args.frame.now) (view_tags c.push.new.self)
          (c.has_ints.ensures.wanted.0 c.if-not-has_ints.false) (ap view_tags c.in_ok-push.ensures.ok ∙ ap (pushed gives) left);
    }
