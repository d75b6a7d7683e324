use Rattle.dj_code.specs.MethodCode.{view_typed}
use Rattle.dj_starts.proofs.Beginning.{block_exact}
use Rattle.dj_starts.proofs.starts.block_starts.Goals as goal

pub returns-clause-exact : goal.returns-clause-exact
returns-clause-exact c =
    block_exact (view_typed c.args.typed.now) c.in_ok-begins.begins c.mark.new.marks c.mark_given.new.begins c.mark_table.new.begins c.mark_code.new.begins
    (rw c.as_slice-instructions.ensures at c.in_ok-begins.ensures.room) c.in_ok-begins.ensures.none c.mark.ensures.more
    (rw c.as_slice.ensures at c.mark_given.ensures.more)
    (rw c.as_slice-handlers.ensures at c.mark_table.ensures.more)
    (rw (c.as_slice-handlers.ensures, c.as_slice-instructions.ensures, c.as_slice-2.ensures) at c.in_ok-mark_code.ensures.more)
    c.in_ok-seen.seen c.in_ok-starts.starts c.in_ok-seen.ensures.exact
    (rw (c.as_slice-instructions.ensures, c.as_slice-3.ensures, c.as_slice-4.ensures) at c.in_ok-starts.ensures.exact)
