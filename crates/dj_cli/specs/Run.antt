-- How a run ends whose last line is put.
use Rattle.std.specs.Prelude.{◌≡◌, ◌⊎◌}
use Rattle.dj_report.specs.declared.status.Status.{Status}
use Rattle.dj_report.specs.declared.status.Status.TheVariants.{ReportFault}

-- with the status, and then the line is put; or with a fault of the report
abbrev pub EndsSo : Status → Status → Type 0 → Type 0 → Type 0
EndsSo ended status put cut = ((ended ≡ status) × put) ⊎ ((ended ≡ ReportFault) × cut)
