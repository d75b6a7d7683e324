use Rattle.dj_code.specs.MethodCode.{view_typed}
use Rattle.dj_receivers.specs.Walks.{IsSound, IsClosed, Keeps, work}
use Rattle.dj_receivers.proofs.calls.finish.Given as goal

abbrev pub invariant-loop-pc : goal.invariant-loop-pc
invariant-loop-pc l = record {
  keeps : Keeps l.fn.marking l.marking;
  sound : IsSound (view_typed l.fn.typed) l.marking;
  closed : IsClosed (view_typed l.fn.typed) l.fn.joins l.marking;
}

abbrev pub decreases-loop-pc : goal.decreases-loop-pc
decreases-loop-pc l = work (view_typed l.fn.typed) l.marking
