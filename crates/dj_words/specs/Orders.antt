-- The order that words give, or what is wrong with them.
use Rattle.std.specs.Prelude.{◌≡◌, ◌==◌, ◌&&◌, ◌||◌, ℕ, Bool, true, false, not, if◌then◌else◌, nat_le, List, [], ◌∷◌, map, Option, Some, None, is_some, option_map, unwrap_or, Result, Ok, Err, ⊤, codes, string_bytes}
use Rattle.std.specs.Option.{option_map_or}
use Rattle.std.specs.List.{list_all}
use Rattle.std.specs.Char.{is_ascii_digit}
use Rattle.std.specs.Str.{bytes_eq}
use Rattle.std.specs.Str.Parse.{digits_value}
use Rattle.clap.specs.Walk.{Row, all_of, first_of, is_empty}
use Rattle.dj_words.specs.Command.{found, is_taken}
use Rattle.dj_words.specs.declared.order.UsageKind.{UsageKind}
use Rattle.dj_words.specs.declared.order.UsageKind.TheVariants as kind
use Rattle.dj_words.specs.declared.order.Order.{Order}
use Rattle.dj_words.specs.declared.order.Order.TheVariants as order
use Rattle.dj_words.specs.declared.order.WordsFault.{WordsFault}
use Rattle.dj_words.specs.declared.order.WordsFault.TheVariants as fault

-- the CLASS words among what was found
abbrev pub classes : List Row → List (List ℕ)
classes rows = unwrap_or (all_of (codes "CLASS") rows) []

-- the value of `--world`
abbrev pub world : List Row → Option (List ℕ)
world rows = first_of (codes "world") rows

-- the value of `--make`
abbrev pub make : List Row → Option (List ℕ)
make rows = first_of (codes "make") rows

-- `--raw` was given: `clap` tells it by the text `true`
abbrev pub raw : List Row → Bool
raw rows = option_map_or (λ text. bytes_eq text (codes "true")) (first_of (codes "raw") rows) false

-- decimal digits without a leading zero
abbrev pub is_plain_number : List ℕ → Bool
is_plain_number [] = false
is_plain_number (first ∷ rest) = not (first == 48) && list_all is_ascii_digit (first ∷ rest)

-- 1 to 1,000 in decimal digits, without a leading zero
abbrev pub is_number : List ℕ → Bool
is_number text = is_plain_number text && nat_le (digits_value 10 text) 1000

-- an order: files to print, with the list of library files, and whether bodies stay raw; or classes to make
pub data Asked : Type 0 where
  Files : List (List ℕ) → Option (List ℕ) → Bool → Asked
  Make : ℕ → Asked

-- something asks for files
abbrev pub asks_for_files : List Row → Bool
asks_for_files rows = not (is_empty (classes rows)) || (is_some (world rows) || raw rows)

-- the order where `--make` has this value
abbrev pub made : List Row → List ℕ → Result Asked UsageKind
made rows text = if asks_for_files rows then Err kind.TwoOrders
    else (if is_number text then Ok (Make (digits_value 10 text)) else Err kind.Number)

-- the order without `--make`
abbrev pub filed : List Row → Result Asked UsageKind
filed rows = if is_empty (classes rows) then Err kind.NoFile
    else Ok (Files (classes rows) (world rows) (raw rows))

-- the order that what was found gives: there is neither a CLASS word nor `--make`, there is `--make` beside what
-- asks for files, or its value is no number of classes
abbrev pub order_in : List Row → Result Asked UsageKind
order_in rows = option_map_or (made rows) (make rows) (filed rows)

-- the order that the words give, the first of which is the program's name, or what is wrong with them
abbrev pub order_of : List (List ℕ) → Result Asked UsageKind
order_of words = if is_taken words then order_in (found words) else Err kind.Words

-- an order as definitions see it
abbrev pub view_order : Order → Asked
view_order (order.Files named list raw) = Files (map string_bytes named.items) (option_map string_bytes list) raw
view_order (order.Make number) = Make number

-- what a reader of words answered is this order or fault, unless memory ran out
abbrev pub Answers : Result Order WordsFault → Result Asked UsageKind → Type 0
Answers (Ok order) wanted = wanted ≡ Ok (view_order order)
Answers (Err (fault.Usage kind)) wanted = wanted ≡ Err kind
Answers (Err (fault.Memory error)) wanted = ⊤
