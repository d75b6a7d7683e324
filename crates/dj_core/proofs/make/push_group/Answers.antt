use Rattle.std.proofs.Common.{arith}
use Rattle.dj_core.specs.Rows.{line}
use Rattle.dj_core.proofs.LineLemmas.{item_spelled, adds_item}
use Rattle.dj_core.proofs.make.push_group.Goals as goal

pub head_of-requires : goal.head_of-requires
head_of-requires c = record { spelling = item_spelled (line c.args.group.now) c.args.group.now.methods.now c.loop-name.name-index _ (omega arith) c.requires.spellings }

pub loop-name-preserved : goal.loop-name-preserved
loop-name-preserved c =
    adds_item c.args.group.now.methods.now c.loop-name.name-index _ (omega arith) (line c.args.group.now) c.args.heads.now c.loop-name.heads c.push.new.self c.in_ok-head_of.field-0 c.loop-name.invariant
    c.in_ok-head_of.ensures.line c.in_ok-head_of.ensures.sound c.in_ok-push.ensures.ok
