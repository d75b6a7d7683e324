use Rattle.std.proofs.Common.{◌+◌, ◌≡◌, [], take, get_or}
use Rattle.std.specs.List.{Contains}
use Rattle.dj_starts.proofs.Marking.{none_more, both_more, said_more, contains_none, contains_first, contains_more, contains_all, contained_all}
use Rattle.dj_starts.proofs.marks.mark_all.Goals as goal

pub loop-pc-init : goal.loop-pc-init
loop-pc-init c = none_more c.args.marks.now (Contains []) (λ pc within asked. contains_none pc asked)

pub loop-pc-preserved : goal.loop-pc-preserved
loop-pc-preserved c =
    let xs = c.args.pcs.now in
    let i = c.loop-pc.pc-index in
    said_more c.args.marks.now c.mark.new.marks _ (Contains (take (i + 1) xs))
    (λ pc asked. contains_more xs pc i 0 c.loop-pc-test.true asked)
    (λ pc asked. contains_first xs pc pc i 0 c.loop-pc-test.true asked)
    (both_more c.args.marks.now c.loop-pc.marks c.mark.new.marks (Contains (take i xs)) (λ pc. pc ≡ get_or xs i 0) c.loop-pc.invariant c.mark.ensures.more)

pub returns : goal.returns
returns c = record {
  more = said_more c.args.marks.now c.loop-pc.marks (Contains (take c.loop-pc.pc-index c.args.pcs.now)) (Contains c.args.pcs.now)
      (λ pc asked. contains_all c.args.pcs.now pc c.loop-pc.pc-index c.loop-pc-test.false asked)
      (λ pc asked. contained_all c.args.pcs.now pc c.loop-pc.pc-index c.loop-pc-test.false asked)
      c.loop-pc.invariant;
}
