use Rattle.std.proofs.Common.{Some, subst, sym, ap, ◌∙◌}
use Rattle.dj_write.specs.Found.{IsLed, key_at}
use Rattle.dj_write.proofs.Finding.{key_led, key_leads}
use Rattle.dj_write.proofs.index.Index.constant.Goals as goal

pub by_key-requires : goal.by_key-requires
by_key-requires c = record { there = subst (IsLed (key_at c.args.self.now)) (sym c.in_ok-key.ensures.key) (key_led c.args.self.now c.args.constant.now c.requires.there) }

pub returns : goal.returns
returns c =
    let led = c.by_key.ensures.leads in
    record { leads = record { small = led.small; leads = key_leads c.args.self.now c.by_key.result c.args.constant.now (led.leads ∙ ap Some c.in_ok-key.ensures.key) } }
