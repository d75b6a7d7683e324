use Rattle.std.proofs.Common.{◌∙◌, ◌<◌, sym, ap, arith, length}
use Rattle.std.proofs.lemmas.List.{get_or-map, length-map}
use Rattle.std.proofs.lemmas.List.Elements.{All-get_or}
use Rattle.dj_class.specs.Members.{member}
use Rattle.dj_pool.specs.SharedParts.{u2}
use Rattle.dj_write.specs.Files.{HasRoomForMember, view_member, view_members}
use Rattle.dj_write.proofs.Spelled.{all_items, item_more}
use Rattle.dj_write.proofs.members.put_members.Goals as goal

pub put_member-requires : goal.put_member-requires
put_member-requires c =
    let members = c.args.members.now in
    let i = c.loop-member.member-index in
    let one = c.member-item.result in
    let inside : i < length members = omega arith in
    let is = sym (get_or-map view_member members i one (view_member one) inside ∙ ap view_member (sym c.member-item.is)) in
    record { room = rw is (All-get_or HasRoomForMember (view_members members) i (view_member one) (rw length-map inside) c.requires.room) }

pub loop-member-preserved : goal.loop-member-preserved
loop-member-preserved c =
    let members = c.args.members.now in
    let i = c.loop-member.member-index in
    let one = c.member-item.result in
    let inside : i < length members = omega arith in
    let is = sym (get_or-map view_member members i one (view_member one) inside ∙ ap view_member (sym c.member-item.is)) in
    item_more member.spell (view_members members) i (view_member one) _ _ _ (rw length-map inside) is c.loop-member.invariant c.in_ok-put_member.ensures.put

pub returns : goal.returns
returns c =
    let members = c.args.members.now in
    let all = view_members members in
    record {
      put = all_items member.spell all c.loop-member.member-index c.args.out.now.items (u2.spell (length all)) c.put_u16.new.out.items c.loop-member.out.items (rw length-map (omega arith)) (rw length-map c.in_ok-put_u16.ensures.put) c.loop-member.invariant;
    }
