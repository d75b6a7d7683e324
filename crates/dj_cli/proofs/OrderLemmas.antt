-- How many files words order to be made.
use Rattle.std.proofs.Common.{◌≡◌, ℕ, ◌≤◌, ◌&&◌, Bool, true, false, List, Option, Some, None, Result, Ok, Err, nat_le, subst, inl, inr}
use Rattle.std.specs.Prelude.{⊤, if◌then◌else◌}
use Rattle.std.specs.Option.{option_map_or}
use Rattle.std.specs.Str.Parse.{digits_value}
use Rattle.std.proofs.lemmas.Bool.Decides.{leb_tells}
use Rattle.dj_words.specs.Command.{found, is_taken}
use Rattle.dj_words.specs.declared.order.UsageKind.{UsageKind}
use Rattle.dj_words.specs.declared.order.UsageKind.TheVariants as kind
use Rattle.dj_words.specs.Orders.{Asked, Files, Make, asks_for_files, classes, filed, is_plain_number, made, make, order_in, order_of, raw, world}

-- an order to make files, of 1,000 at most
abbrev IsFew : Result Asked UsageKind → Type 0
IsFew (Ok (Files named list raw)) = ⊤
IsFew (Ok (Make number)) = number ≤ 1000
IsFew (Err why) = ⊤

few-either : (test : Bool) (first second : Result Asked UsageKind) → IsFew first → IsFew second → IsFew (if test then first else second)
few-either true first second few others = few
few-either false first second few others = others

few-number : (plain : Bool) (number : ℕ) → IsFew (if plain && nat_le number 1000 then Ok (Make number) else Err kind.Number)
few-number false number = tt
few-number true number = elim (leb_tells number 1000) [ inl w ↦ rw w.0 w.1 | inr w ↦ rw w.0 tt ]

few-value : (words : List (List ℕ)) (value : Option (List ℕ)) → IsFew (option_map_or (made (found words)) value (filed (found words)))
few-value words None = few-either _ (Err kind.NoFile) (Ok (Files (classes (found words)) (world (found words)) (raw (found words)))) tt tt
few-value words (Some text) = few-either (asks_for_files (found words)) (Err kind.TwoOrders) _ tt (few-number (is_plain_number text) (digits_value 10 text))

-- words order 1,000 files to be made at most
pub few_made : (words : List (List ℕ)) (number : ℕ) → order_of words ≡ Ok (Make number) → number ≤ 1000
few_made words number is =
    subst IsFew is (few-either (is_taken words) (order_in (found words)) (Err kind.Words) (few-value words (make (found words))) tt)
