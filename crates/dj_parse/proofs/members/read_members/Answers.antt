use Rattle.std.proofs.Common.{◌∙◌}
use Rattle.dj_parse.specs.Views.{view_members, view_place}
use Rattle.dj_parse.proofs.MembersLemmas.{members_go_on}
use Rattle.dj_parse.proofs.members.read_members.Goals as goal

pub loop-preserved : goal.loop-preserved
loop-preserved c =
    members_go_on (view_place c.args.place.now) c.args.most c.loop.counter (view_members c.loop.members) (view_members c.read_member.new.members) c.loop.reader c.read_member.new.reader c.loop-test.true c.if-ends_members.ensures.ends c.in_ok-read_member.ensures.read
    ∙ c.loop.invariant
