use Rattle.std.proofs.Common.{[], arith}
use Rattle.dj_core.specs.Rows.{group_lines}
use Rattle.dj_core.proofs.LineLemmas.{part_spelled, adds_items}
use Rattle.dj_core.proofs.make.heads_of.Goals as goal

pub push_group-requires : goal.push_group-requires
push_group-requires c = record { spellings = part_spelled group_lines c.args.groups.now c.loop-group.group-index _ (omega arith) c.requires.spellings }

pub loop-group-preserved : goal.loop-group-preserved
loop-group-preserved c =
    adds_items c.args.groups.now c.loop-group.group-index _ (omega arith) group_lines [] c.loop-group.heads c.push_group.new.heads c.loop-group.invariant c.in_ok-push_group.ensures.lines
