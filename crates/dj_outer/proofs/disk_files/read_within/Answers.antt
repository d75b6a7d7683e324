use Rattle.std.proofs.Common.{rules, ◌++◌, take, length, arith, length-append, length-take, ◌≤◌, ◌+◌}
use Rattle.std.proofs.KnownBytes.{Consumes-trans}
use Rattle.dj_outer.proofs.disk_files.read_within.Goals as goal

pub returns-clause-front : goal.returns-clause-front
returns-clause-front g c = (c.loop-bytes.bytes.items, c.loop-bytes.invariant.1, c.loop-bytes.invariant.0)

pub returns-then-count-eq0-clause-front : goal.returns-then-count-eq0-clause-front
returns-then-count-eq0-clause-front g c =
    let both = length-append c.loop-bytes.bytes.items (take c.in-Ok.count c.read.new.buf) in
    let front = length-take c.in-Ok.count c.read.new.buf in
    (c.loop-bytes.bytes.items ++ take c.in-Ok.count c.read.new.buf, omega (arith, both, front, c.if-count-eq0.true, c.loop-bytes.invariant.1), Consumes-trans _ _ _ _ _ c.loop-bytes.invariant.0 c.in-Ok.ensures.bytes.0)

short : (g : _) (c : goal.After-drop-bytes-in_err-extend_from_slice g) → length (c.loop-bytes.bytes.items ++ take c.in-Ok.count c.read.new.buf) ≤ c.args.limit + 1
short g c = search (rules, arith, length-append, length-take)

pub returns-in_err-extend_from_slice-clause-front : goal.returns-in_err-extend_from_slice-clause-front
returns-in_err-extend_from_slice-clause-front g c =
    let both = length-append c.loop-bytes.bytes.items (take c.in-Ok.count c.read.new.buf) in
    let front = length-take c.in-Ok.count c.read.new.buf in
    (c.loop-bytes.bytes.items ++ take c.in-Ok.count c.read.new.buf, short g c, Consumes-trans _ _ _ _ _ c.loop-bytes.invariant.0 c.in-Ok.ensures.bytes.0)
