use Rattle.std.proofs.Common.{◌≡◌, ◌∙◌, true, ap, ap₂}
use Rattle.std.proofs.lemmas.Result.{IfOk-weaker}
use Rattle.clap.specs.Simple.{app_of, on_top, with_rule}
use Rattle.dj_words.specs.Command.{bare_command, class_rule, make_rule, world_rule}
use Rattle.dj_words.proofs.Bare.{without_help, without_version}
use Rattle.dj_words.proofs.command.command.Goals as goal

pub returns : goal.returns
returns c =
    let bare : app_of c.disable_version_flag.result ≡ bare_command =
    without_version _ _ c.disable_version_flag.ensures (without_help _ _ c.disable_help_flag.ensures c.new.ensures.app) in
    let one : app_of c.in_ok-arg.field-0 ≡ with_rule bare_command class_rule =
    c.in_ok-arg.ensures.shape c.class_argument.ensures.local ∙ ap₂ with_rule bare c.class_argument.ensures.rule in
    let two : app_of c.in_ok-arg-2.field-0 ≡ with_rule (with_rule bare_command class_rule) world_rule =
    c.in_ok-arg-2.ensures.shape c.world_option.ensures.local ∙ ap₂ with_rule one c.world_option.ensures.rule in
    let three : app_of c.in_ok-arg-3.field-0 ≡ with_rule (with_rule (with_rule bare_command class_rule) world_rule) make_rule =
    c.in_ok-arg-3.ensures.shape c.make_option.ensures.local ∙ ap₂ with_rule two c.make_option.ensures.rule in
    record {
      command = IfOk-weaker c.arg-4.result _ _ (λ made h. h.shape c.raw_flag.ensures.local ∙ ap₂ with_rule three c.raw_flag.ensures.rule) c.arg-4.ensures;
    }
