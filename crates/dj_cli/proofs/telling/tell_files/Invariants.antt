use Rattle.std.proofs.Common.{◌≡◌, ◌≤◌, ◌*◌}
use Rattle.dj_load.specs.Loading.{finds_of}
use Rattle.dj_cli.specs.Telling.{Tallies, source_of}
use Rattle.dj_cli.proofs.telling.tell_files.Given as goal

abbrev pub invariant-loop-place : goal.invariant-loop-place
invariant-loop-place g l = record {
  text_falls : g.T.Sink.faults l.initial.text ≤ g.T.Sink.faults l.text;
  report_falls : g.P.Sink.faults l.initial.report ≤ g.P.Sink.faults l.report;
  text_calm : g.T.Sink.faults l.text ≡ g.T.Sink.faults l.initial.text;
  report_calm : g.P.Sink.faults l.report ≡ g.P.Sink.faults l.initial.report;
  few_printed : l.tally.printed ≤ 4294967296 * l.place;
  few_refused : l.tally.refused ≤ 4294967296 * l.place;
  told : Tallies l.place l.tally (g.T.Sink.taken l.initial.text) (g.T.Sink.taken l.text) (g.P.Sink.taken l.initial.report) (g.P.Sink.taken l.report) (source_of l.named l.made) (finds_of l.files) l.files.world;
}
