use Rattle.std.proofs.Common.{[]}
use Rattle.std.specs.Option.{option_map}
use Rattle.dj_frames.specs.Frames.{view_tag, view_tags}
use Rattle.dj_code.specs.MethodCode.{view_code}
use Rattle.dj_effects.specs.Operands.{enough}
use Rattle.dj_effects.specs.Doing.{view_working}
use Rattle.dj_applying.proofs.Giving.{plain_did}
use Rattle.dj_applying.proofs.taking.takes_none.Goals as goal

pub returns : goal.returns
returns g c =
    record {
      did = plain_did (g.G.Goes.relation c.args._goes.now) (g.G.Goes.known c.args._goes.now) (view_code c.args.code.now) c.args._pc [] (option_map view_tag c.args.gives) (view_working c.args.frame.now) (view_tags c.give.new.stack) enough c.in_ok-give.ensures.ok;
    }
