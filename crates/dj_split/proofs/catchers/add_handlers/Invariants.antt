use Rattle.std.proofs.Common.{◌≡◌, ◌++◌, length, drop}
use Rattle.dj_edges.specs.Split.{catchers_of}
use Rattle.dj_split.specs.Ranges.{parts_of, ranges_of}
use Rattle.dj_split.proofs.catchers.add_handlers.Given as goal

abbrev pub invariant-loop-handler : goal.invariant-loop-handler
invariant-loop-handler l = record {
  catchers : l.catchers.items ++ catchers_of (parts_of l.typed l.starts l.vars) (drop l.handler-index l.typed.code.handlers) ≡ l.initial.catchers.items ++ catchers_of (parts_of l.typed l.starts l.vars) l.typed.code.handlers;
  ranges : l.ranges ++ ranges_of (parts_of l.typed l.starts l.vars) (drop l.handler-index l.typed.code.handlers) (length l.catchers.items) ≡ l.initial.ranges ++ ranges_of (parts_of l.typed l.starts l.vars) l.typed.code.handlers (length l.initial.catchers.items);
}
