use Rattle.std.proofs.Common.{Contains, take}
use Rattle.dj_sayable.specs.Gathering.{HasJust, Gains}
use Rattle.dj_code_causes.proofs.named.Named.include_all.Given as goal

abbrev pub invariant-loop-name : goal.invariant-loop-name
invariant-loop-name l = record {
  paired : HasJust l.self.known l.self.names;
  gains : Gains l.initial.self.names l.self.names (Contains (take l.name-index l.names));
}
