use Rattle.std.proofs.Common.{◌≡◌, true, refl, rules}
use Rattle.dj_words.specs.Orders.{is_plain_number}
use Rattle.dj_words.proofs.Numbers.{too_large}
use Rattle.dj_words.proofs.number.number_of.Goals as goal

pub returns-in_default-2 : goal.returns-in_default-2
returns-in_default-2 c =
    let plain : is_plain_number c.args.text.now ≡ true = search rules in
    record { number = rw (too_large c.args.text.now c.in_default.field-0 c.in_default.ensures.value.0 plain) refl }
