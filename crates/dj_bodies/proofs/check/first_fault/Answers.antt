use Rattle.std.proofs.Common.{sym, ap, subst, ◌∙◌}
use Rattle.dj_syntax.specs.Trees.{view_body}
use Rattle.dj_places.specs.Rules.{◌and◌}
use Rattle.dj_faults.specs.Faults.{lower}
use Rattle.dj_faults.specs.FirstFault.{Tells}
use Rattle.dj_faults.proofs.FaultLemmas.{tells_lower}
use Rattle.dj_reach.specs.Bodies.{body_reach}
use Rattle.dj_assigned.specs.Bodies.{body_reads}
use Rattle.dj_thrown.specs.Bodies.{body_thrown}
use Rattle.dj_typed.specs.Bodies.{body_types, body_rules}
use Rattle.dj_body_types.specs.Views.{writing_of}
use Rattle.dj_bodies.proofs.KindLemmas.{of_reach, of_reads}
use Rattle.dj_bodies.proofs.check.first_fault.Goals as goal

pub returns : goal.returns
returns c =
    let headers = c.args.headers.now in
    let members = c.args.members.now in
    let body = view_body c.args.body.now in
    let writing = writing_of c.args.said.now in
    let types = c.in_ok-types.types in
    let reach = c.in_ok-reach.reach in
    let reads = c.in_ok-reads.reads in
    let thrown = c.in_ok-thrown.thrown in
    let by_types = body_types writing headers members body in
    let by_reach = body_reach headers members body in
    let by_reads = body_reads headers members body in
    let by_thrown = body_thrown headers members body in
    let last = tells_lower by_reads by_thrown reads thrown
    (c.in_ok-reads.ensures.tells by_reads (of_reads headers members body) c.check_assigned.ensures.kept c.check_assigned.ensures.unassigned)
    (c.in_ok-thrown.ensures.tells by_thrown c.check_thrown.ensures.kept c.check_thrown.ensures.broken) in
    let flow = tells_lower by_reach (by_reads and by_thrown) reach (lower reads thrown)
    (c.in_ok-reach.ensures.tells by_reach (of_reach headers members body) c.check_reach.ensures.kept c.check_reach.ensures.unreached) last in
    let all = tells_lower by_types (by_reach and by_reads and by_thrown) types (lower reach (lower reads thrown))
    (c.in_ok-types.ensures.tells by_types c.check_types.ensures.kept c.check_types.ensures.broken) flow in
    record {
      tells = subst (Tells (body_rules writing headers members body))
          (sym (c.lower-3.ensures.lower ∙ ap (lower types) (c.lower-2.ensures.lower ∙ ap (lower reach) c.lower.ensures.lower))) all;
    }
