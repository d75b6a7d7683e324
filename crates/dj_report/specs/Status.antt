-- How a run of the program ends.
use Rattle.std.specs.Prelude.{ℕ, Result, Ok, Err, OnErr, ⊤}
use Rattle.std.specs.declared.alloc.AllocError.{AllocError}
use Rattle.dj_words.specs.declared.order.UsageKind.{UsageKind}
use Rattle.dj_report.specs.declared.status.Status.{Status}
use Rattle.dj_report.specs.declared.status.Status.TheVariants.{Clean, Refused, Usage, ReadFault, TextFault, ReportFault, TooMuch}

-- the exit status of a run that ended so
abbrev pub exit_code_of : Status → ℕ
exit_code_of Clean = 0
exit_code_of Refused = 1
exit_code_of (Usage kind) = 2
exit_code_of (ReadFault place) = 3
exit_code_of TextFault = 4
exit_code_of ReportFault = 5
exit_code_of (TooMuch place) = 6

-- a fact for each answer of a run; want of memory is free
abbrev pub MatchEnd : Result Status AllocError → Type 0 → Type 0 → (UsageKind → Type 0) → (ℕ → Type 0) → Type 0 → Type 0 → (ℕ → Type 0) → Type 0
MatchEnd (Ok Clean) clean refused Usages Reads text report Much = clean
MatchEnd (Ok Refused) clean refused Usages Reads text report Much = refused
MatchEnd (Ok (Usage kind)) clean refused Usages Reads text report Much = Usages kind
MatchEnd (Ok (ReadFault place)) clean refused Usages Reads text report Much = Reads place
MatchEnd (Ok TextFault) clean refused Usages Reads text report Much = text
MatchEnd (Ok ReportFault) clean refused Usages Reads text report Much = report
MatchEnd (Ok (TooMuch place)) clean refused Usages Reads text report Much = Much place
MatchEnd (Err error) clean refused Usages Reads text report Much = ⊤

-- a fact of a run that printed everything
abbrev pub OnClean : Result Status AllocError → Type 0 → Type 0
OnClean result P = MatchEnd result P ⊤ (λ _. ⊤) (λ _. ⊤) ⊤ ⊤ (λ _. ⊤)

-- a fact of a run whose report has a line
abbrev pub OnRefused : Result Status AllocError → Type 0 → Type 0
OnRefused result P = MatchEnd result ⊤ P (λ _. ⊤) (λ _. ⊤) ⊤ ⊤ (λ _. ⊤)

-- a fact of what is wrong with the words
abbrev pub IfUsage : Result Status AllocError → (UsageKind → Type 0) → Type 0
IfUsage result P = MatchEnd result ⊤ ⊤ P (λ _. ⊤) ⊤ ⊤ (λ _. ⊤)

-- a fact of the place of the load that failed
abbrev pub IfReadFault : Result Status AllocError → (ℕ → Type 0) → Type 0
IfReadFault result P = MatchEnd result ⊤ ⊤ (λ _. ⊤) P ⊤ ⊤ (λ _. ⊤)

-- a fact of a run whose text could not be written
abbrev pub OnTextFault : Result Status AllocError → Type 0 → Type 0
OnTextFault result P = MatchEnd result ⊤ ⊤ (λ _. ⊤) (λ _. ⊤) P ⊤ (λ _. ⊤)

-- a fact of a run whose report could not be written
abbrev pub OnReportFault : Result Status AllocError → Type 0 → Type 0
OnReportFault result P = MatchEnd result ⊤ ⊤ (λ _. ⊤) (λ _. ⊤) ⊤ P (λ _. ⊤)

-- a fact of the place of the file that is too large
abbrev pub IfTooMuch : Result Status AllocError → (ℕ → Type 0) → Type 0
IfTooMuch result P = MatchEnd result ⊤ ⊤ (λ _. ⊤) (λ _. ⊤) ⊤ ⊤ P

-- a fact of a run that got to the texts: it wrote all of its output, or stopped in a text
abbrev pub OnLoaded : Result Status AllocError → Type 0 → Type 0
OnLoaded result P = MatchEnd result P P (λ _. ⊤) (λ _. ⊤) P ⊤ (λ _. ⊤)

-- a fact of a run that read each file it came to, and whose report could be written
abbrev pub UnlessReadFault : Result Status AllocError → Type 0 → Type 0
UnlessReadFault result P = MatchEnd result P P (λ _. P) (λ _. ⊤) P ⊤ (λ _. P)

-- a fact of each run, where memory is wanting too, but one whose text could not be written
abbrev pub UnlessTextFault : Result Status AllocError → Type 0 → Type 0
UnlessTextFault result P = MatchEnd result P P (λ _. P) (λ _. P) ⊤ P (λ _. P) × OnErr result P

-- a fact of each run, where memory is wanting too, but one whose report could not be written
abbrev pub UnlessReportFault : Result Status AllocError → Type 0 → Type 0
UnlessReportFault result P = MatchEnd result P P (λ _. P) (λ _. P) P ⊤ (λ _. P) × OnErr result P
