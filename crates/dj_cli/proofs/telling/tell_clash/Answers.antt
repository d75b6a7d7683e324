use Rattle.std.proofs.Common.{[], ◌++◌, codes, refl}
use Rattle.dj_names.specs.Shown.{show_units}
use Rattle.dj_report.specs.Report.{Clash, clash_text, line_text, path_units}
use Rattle.dj_load.specs.HeldFiles.{IsClash}
use Rattle.dj_cli.specs.Output.{IsFilePiece}
use Rattle.dj_cli.proofs.TellingLemmas.{back-some, cuts-line, tells-line}
use Rattle.dj_cli.proofs.telling.tell_clash.Goals as goal

pub returns-in-Ok-clause-told : goal.returns-in-Ok-clause-told
returns-in-Ok-clause-told g c = λ world text.
    let path = c.args.path.now in
    let kind = c.args.kind in
    let some = back-some (show_units (path_units path) ++ codes " clash " ++ clash_text kind) 10 [] in
    tells-line (IsFilePiece world path (IsClash kind)) (line_text (Clash path kind)) 0 refl text c.line_tally.ensures.tally some (rw (c.as_slice.ensures.value, c.in_ok-line.ensures.line) at c.in-Ok.ensures.puts)

pub returns-clause-stopped : goal.returns-clause-stopped
returns-clause-stopped g c = λ world text.
    let path = c.args.path.now in
    let kind = c.args.kind in
    cuts-line (IsFilePiece world path (IsClash kind)) (line_text (Clash path kind)) 0 refl text (rw (c.as_slice.ensures.value, c.in_ok-line.ensures.line) at c.in-Err.ensures.puts)
