use Rattle.std.proofs.Common.{◌≡◌, ◌∙◌, ℕ, List, None, ap, arith, codes, option_map, sym}
use Rattle.std.specs.Borrow.{Bor}
use Rattle.clap.specs.Matches.{found_of}
use Rattle.clap.specs.Walk.{rows_of}
use Rattle.clap.proofs.WalkLemmas.{first_value-rows}
use Rattle.dj_words.specs.Orders.{world}
use Rattle.dj_words.proofs.Reading.{only_raw}
use Rattle.dj_words.proofs.order.asks_for_files.Goals as goal

pub returns-in-None : goal.returns-in-None
returns-in-None c =
    let found = found_of c.args.matches.now in
    let no_world : world (rows_of found) ≡ None =
    sym (first_value-rows found (codes "world")) ∙ (sym c.get_str.ensures ∙ ap (option_map (λ (text : Bor (List ℕ)). text.now)) c.in-None.is) in
    record { asks = only_raw (rows_of found) c.classes.result.now c.is_raw.result c.classes.ensures.classes (omega arith) no_world c.is_raw.ensures.raw }
