use Rattle.dj_syntax.specs.Trees.{view_stms}
use Rattle.dj_pending.specs.Stacks.{stacked}
use Rattle.dj_pending.specs.Building.{view_built, as_built}
use Rattle.dj_member_trees.specs.Writing.{view_written, view_put}
use Rattle.dj_member_trees.proofs.ElementLemmas.{write-no-put, write-put}
use Rattle.dj_member_trees.proofs.elements.write_element.Goals as goal

pub returns-in_default-2 : goal.returns-in_default-2
returns-in_default-2 c = record {
  built = write-no-put c.args.headers.now c.args.element (view_stms c.args.built.now.emitted) c.args.built.now.next (stacked c.args.built.now.stack) (view_written c.in-Some.written) (stacked c.take_written.new.stack)
      (rw c.in-Some.is at c.in_ok-written.ensures.taken) (rw c.in_default-2.is at c.in_ok-put.ensures.put);
}

pub returns : goal.returns
returns c = record {
  built = write-put c.args.headers.now c.args.element (view_stms c.args.built.now.emitted) c.args.built.now.next (stacked c.args.built.now.stack) (view_written c.in-Some.written) (stacked c.take_written.new.stack) (view_put c.in-Some-2.put)
      (as_built c.in_ok-done.done (view_built c.put_element.new.built)) (rw c.in-Some.is at c.in_ok-written.ensures.taken) (rw c.in-Some-2.is at c.in_ok-put.ensures.put) c.in_ok-done.ensures.built;
}
