-- What the settings of a command without help and version make of it.
use Rattle.std.proofs.Common.{◌≡◌, ◌∙◌, true, ap, codes}
use Rattle.clap.specs.declared.builder.command.Command.{Command}
use Rattle.clap.specs.declared.builder.command.Command.TheViews.{out-Command}
use Rattle.clap.specs.Simple.{App, Shape, app_of, app_of_fields, new_app, on_top}
use Rattle.dj_words.specs.Command.{bare_command}

-- the command of this name without help
abbrev helpless : App
helpless = on_top (λ (shape : Shape). record shape { disable_help_flag = true }) (new_app (codes "decompile"))

pub without_help : (before after : Command) → out-Command after ≡ record (out-Command before) { disable_help_flag = true }
    → app_of before ≡ new_app (codes "decompile") → app_of after ≡ helpless
without_help before after set is = ap app_of_fields set ∙ ap (on_top (λ (shape : Shape). record shape { disable_help_flag = true })) is

pub without_version : (before after : Command) → out-Command after ≡ record (out-Command before) { disable_version_flag = true }
    → app_of before ≡ helpless → app_of after ≡ bare_command
without_version before after set is = ap app_of_fields set ∙ ap (on_top (λ (shape : Shape). record shape { disable_version_flag = true })) is
