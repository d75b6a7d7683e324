use Rattle.std.proofs.Common.{arith, ◌≡◌, slice_get}
use Rattle.dj_core.specs.CoreTable.{core_classes}
use Rattle.dj_world.specs.declared.fault.AddFault.TheVariants as refused
use Rattle.dj_world.proofs.FillLemmas.{takes_added, takes_clash, least_of, made_few}
use Rattle.dj_world.proofs.world.World.fill_one.Goals as goal

pub try_push-requires-clause-methods : goal.try_push-requires-clause-methods
try_push-requires-clause-methods c =
    let made = c.in_ok-header.field-0 in
    omega (arith, made_few c.args.at made.header made.members c.in_ok-header.ensures.made)

pub returns-in-Ok-clause-taken : goal.returns-in-Ok-clause-taken
returns-in-Ok-clause-taken c =
    let made = c.in_ok-header.field-0 in
    takes_added (slice_get core_classes c.args.at) made.header made.members c.args.self.now c.try_push.new.self c.in_ok-header.ensures.made c.in-Ok.ensures.added

pub returns-in-Err-Clash-clause-taken : goal.returns-in-Err-Clash-clause-taken
returns-in-Err-Clash-clause-taken c =
    let made = c.in_ok-header.field-0 in
    let why = c.in-Err-Clash in
    let is : why.field-0 ≡ refused.Clash why.field-0-0 = cc in
    takes_clash (slice_get core_classes c.args.at) made.header made.members c.args.self.now c.try_push.new.self why.field-0-0 c.in_ok-header.ensures.made
    (least_of c.args.self.now.headers made.header why.field-0 why.field-0-0 is why.ensures.clash) why.ensures.kept
