use Rattle.std.proofs.Common.{◌≡◌, ◌++◌, ℕ, List, Ok, take}
use Rattle.dj_outer.specs.Sink.{Puts}
use Rattle.dj_cli.specs.Lines.{lines_bytes}
use Rattle.dj_cli.proofs.endings.put_lines.Given as goal

abbrev pub invariant-loop-line : goal.invariant-loop-line
invariant-loop-line g l = record {
  front : List ℕ;
  puts : Puts (Ok tt) (g.P.Sink.taken l.initial.report) (g.P.Sink.taken l.report) (g.P.Sink.faults l.initial.report) (g.P.Sink.faults l.report) front;
  both : front ++ l.gathered.bytes.items ≡ lines_bytes l.class (take l.line-index l.lines);
}
