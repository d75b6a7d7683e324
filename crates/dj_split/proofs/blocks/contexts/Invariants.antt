use Rattle.std.proofs.Common.{◌≡◌, [], map, take}
use Rattle.dj_split.specs.Ranges.{numbers_at, handlers_of}
use Rattle.dj_split.proofs.blocks.contexts.Given as goal

abbrev pub invariant-loop-start : goal.invariant-loop-start
invariant-loop-start l = record {
  handlers : handlers_of l.contexts.items ≡ map (numbers_at l.ranges) (take l.start-index l.starts);
  free : map (λ context. context.monitors.items) l.contexts.items ≡ map (λ start. []) (take l.start-index l.starts);
}
