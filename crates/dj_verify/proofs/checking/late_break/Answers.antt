use Rattle.std.proofs.Common.{sym, ◌∙◌}
use Rattle.std.proofs.lemmas.Bool.{false≢true}
use Rattle.dj_instructions.specs.Instructions.{view_instruction}
use Rattle.dj_code.specs.MethodCode.{view_code}
use Rattle.dj_effects.specs.Doing.{view_working}
use Rattle.dj_verify.proofs.PlaceSteps.{breaks_handler, breaks_room, breaks_target}
use Rattle.dj_verify.proofs.checking.late_break.Goals as goal

pub returns-then-not-keeps_room-clause-broken : goal.returns-then-not-keeps_room-clause-broken
returns-then-not-keeps_room-clause-broken g c = λ flow rest frame told asked is_after.
    breaks_room (g.G.Goes.relation c.args.goes.now) (g.G.Goes.known c.args.goes.now) (view_code c.args.subject.now.code.now) flow c.args.site.now.pc (view_instruction c.args.site.now.instruction.now) rest frame (view_working c.args.after.now) c.args.site.now.fits c.args.site.now.is_last told is_after (λ has. false≢true (c.if-not-keeps_room.ensures.room.1 (asked.room.1 has.0, has.1, has.2, has.3)))

pub returns-then-not-branch-clause-broken : goal.returns-then-not-branch-clause-broken
returns-then-not-branch-clause-broken g c = λ flow rest frame told asked is_after.
    let rooms = c.keeps_room.ensures.room.0 c.if-not-keeps_room.false in
    breaks_target (g.G.Goes.relation c.args.goes.now) (g.G.Goes.known c.args.goes.now) (view_code c.args.subject.now.code.now) flow c.args.site.now.pc (view_instruction c.args.site.now.instruction.now) rest frame (view_working c.args.after.now) c.args.site.now.fits c.args.site.now.is_last told is_after (asked.room.0 rooms.0, rooms.1, rooms.2, rooms.3) (λ jumps. false≢true (sym c.if-not-branch.true ∙ c.in_ok-jumps.ensures.jumps.1 jumps))

pub returns-then-not-before-clause-broken : goal.returns-then-not-before-clause-broken
returns-then-not-before-clause-broken g c = λ flow rest frame told asked is_after.
    let rooms = c.keeps_room.ensures.room.0 c.if-not-keeps_room.false in
    breaks_handler (g.G.Goes.relation c.args.goes.now) (g.G.Goes.known c.args.goes.now) (view_code c.args.subject.now.code.now) flow c.args.site.now.pc (view_instruction c.args.site.now.instruction.now) rest frame (view_working c.args.after.now) c.args.site.now.fits c.args.site.now.is_last told is_after (asked.room.0 rooms.0, rooms.1, rooms.2, rooms.3) (c.in_ok-jumps.ensures.jumps.0 c.if-not-branch.false) (λ taken. false≢true (sym c.if-not-before.true ∙ asked.taken.1 taken))
