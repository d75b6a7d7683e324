-- What is wrong with words that the command took isn't that it didn't.
use Rattle.std.proofs.Common.{◌≡◌, ◌∙◌, ℕ, Bool, true, false, List, Option, Some, None, Result, Ok, Err, ap, if◌then◌else◌}
use Rattle.std.specs.Option.{option_map_or}
use Rattle.clap.specs.Walk.{Row, is_empty}
use Rattle.std.specs.Str.Parse.{digits_value}
use Rattle.dj_words.specs.declared.order.UsageKind.{UsageKind}
use Rattle.dj_words.specs.declared.order.UsageKind.TheVariants as kind
use Rattle.dj_words.specs.declared.order.Order.{Order}
use Rattle.dj_words.specs.declared.order.WordsFault.{WordsFault}
use Rattle.dj_words.specs.declared.order.WordsFault.TheVariants as fault
use Rattle.dj_words.specs.Orders.{Answers, Asked, asks_for_files, classes, filed, is_number, made, make, order_in}
use Rattle.dj_words.specs.Grammar.{TookWords}

file_or_none : (b : Bool) (x : Asked) → (if b then Err kind.NoFile else Ok x) ≡ Err kind.Words → ⊥
file_or_none true x e = cc
file_or_none false x e = cc

number_or_none : (b : Bool) (x : Asked) → (if b then Ok x else Err kind.Number) ≡ Err kind.Words → ⊥
number_or_none true x e = cc
number_or_none false x e = cc

one_order_or_two : (b c : Bool) (x : Asked) → (if b then Err kind.TwoOrders else (if c then Ok x else Err kind.Number)) ≡ Err kind.Words → ⊥
one_order_or_two true c x e = cc
one_order_or_two false c x e = number_or_none c x e

of_make : (rows : List Row) (text : Option (List ℕ)) → option_map_or (made rows) text (filed rows) ≡ Err kind.Words → ⊥
of_make rows None e = file_or_none _ _ e
of_make rows (Some text) e = one_order_or_two _ _ _ e

pub took_words : (result : Result Order WordsFault) (rows : List Row) → Answers result (order_in rows) → TookWords result
took_words (Ok order) rows h = tt
took_words (Err (fault.Usage found)) rows h = λ e. of_make rows (make rows) (h ∙ ap (λ (k : UsageKind). Err k) e)
took_words (Err (fault.Memory error)) rows h = tt
