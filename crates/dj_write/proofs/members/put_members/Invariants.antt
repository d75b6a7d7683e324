use Rattle.std.proofs.Common.{◌≡◌, ◌++◌, flat_map, take}
use Rattle.dj_class.specs.Members.{member}
use Rattle.dj_write.specs.Files.{view_members}
use Rattle.dj_write.proofs.members.put_members.Given as goal

abbrev pub invariant-loop-member : goal.invariant-loop-member
invariant-loop-member l = l.out.items ≡ l.initial.out.items ++ flat_map member.spell (take l.member-index (view_members l.members))
