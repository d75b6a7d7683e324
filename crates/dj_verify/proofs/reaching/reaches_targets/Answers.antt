use Rattle.std.proofs.Common.{refl}
use Rattle.dj_code.specs.MethodCode.{view_code}
use Rattle.dj_code.proofs.TargetLists.{all_behind}
use Rattle.dj_verify.specs.Rules.{Reaches}
use Rattle.dj_verify.specs.Frames.{working_of}
use Rattle.dj_verify.proofs.reaching.reaches_targets.Goals as goal

pub returns-then-reaches : goal.returns-then-reaches
returns-then-reaches g c =
    let P = Reaches (g.G.Goes.relation c.args.goes.now) (view_code c.args.subject.now.code.now) (working_of c.args.frame.now) in
    record { reaches = all_behind P c.args.other c.args.targets.now c.reaches_all.result (c.if-reaches.ensures.reaches.0 refl) c.reaches_all.ensures.reaches }
