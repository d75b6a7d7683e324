use Rattle.std.proofs.Common.{map}
use Rattle.dj_class.specs.Views.{view_class, view_method}
use Rattle.dj_world.specs.Worlds.{IsWorld}
use Rattle.dj_syntax.specs.Trees.{view_body, view_exp}
use Rattle.dj_frames.specs.Frames.{view_frame}
use Rattle.dj_instructions.proofs.ListingReading.{listing_rises}
use Rattle.dj_code.specs.MethodCode.{view_code}
use Rattle.dj_cli.proofs.FindingLemmas.{finds_straight, finds_decompiled, finds_not_yet}
use Rattle.dj_cli.proofs.methods.find_untold.Goals as goal

pub decompile_method-requires : goal.decompile_method-requires
decompile_method-requires c =
    let class = view_class c.args.class.now in
    let code = view_code c.args.typed.now.code in
    let spelled = c.requires.spelled in
    record {
      known = rw (c.headers-headers.ensures.headers, c.member_table-members.ensures.members) c.args.basis.now.known_is;
      rising = listing_rises class.pool spelled.content.code code.instructions spelled.listed;
    }

pub returns-in-Straight-clause-found : goal.returns-in-Straight-clause-found
returns-in-Straight-clause-found c = λ before here table untold holds.
    let is_world : IsWorld c.args.basis.now.world.now = record { lawful = c.headers-headers.ensures.lawful; paired = c.member_table-members.ensures.paired } in
    finds_straight c.args.basis.now.world.now (view_class c.args.class.now) before (view_method c.args.method.now) (view_code c.args.typed.now.code) (map view_frame c.args.typed.now.frames) c.requires.spelled table
    is_world here untold (view_exp c.in-Straight.exp) (rw c.in-Straight.is at (c.in_ok-exp.ensures.judged before holds)) (rw c.in-Straight.is at c.in_ok-exp.ensures.fits)

pub returns-in-Body-clause-found : goal.returns-in-Body-clause-found
returns-in-Body-clause-found c = λ before here table untold holds.
    let is_world : IsWorld c.args.basis.now.world.now = record { lawful = c.headers-headers.ensures.lawful; paired = c.member_table-members.ensures.paired } in
    let decompiled = rw (c.in-Body.is, c.headers-headers.ensures.headers, c.member_table-members.ensures.members) at c.in_ok-body-in-NotYet.ensures.decompiled in
    finds_decompiled c.args.basis.now.world.now (view_class c.args.class.now) before (view_method c.args.method.now) (view_code c.args.typed.now.code) (map view_frame c.args.typed.now.frames) c.requires.spelled table
    is_world here untold (view_body c.in-Body.body) decompiled

pub returns-in-NotYet-2-clause-found : goal.returns-in-NotYet-2-clause-found
returns-in-NotYet-2-clause-found c = λ before here table untold holds.
    let is_world : IsWorld c.args.basis.now.world.now = record { lawful = c.headers-headers.ensures.lawful; paired = c.member_table-members.ensures.paired } in
    let decompiled = rw (c.in-NotYet-2.is, c.headers-headers.ensures.headers, c.member_table-members.ensures.members) at c.in_ok-body-in-NotYet.ensures.decompiled in
    finds_not_yet c.args.basis.now.world.now (view_class c.args.class.now) before (view_method c.args.method.now) (view_code c.args.typed.now.code) (map view_frame c.args.typed.now.frames) c.requires.spelled table
    is_world here untold c.in-NotYet.field-0 (rw c.in-NotYet.is at (c.in_ok-exp.ensures.judged before holds)) c.in-NotYet-2.pc decompiled
