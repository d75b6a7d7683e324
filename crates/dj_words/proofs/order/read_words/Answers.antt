use Rattle.std.proofs.Common.{◌≡◌, ◌∙◌, ◌⊎◌, true, List, [], refl, sym, ap, map, string_bytes}
use Rattle.clap.specs.Kinds.{IsAmong}
use Rattle.clap.specs.Matches.{found_of}
use Rattle.clap.specs.Walk.{rows_of}
use Rattle.clap.specs.Simple.{App, app_of, is_simple, matches_of}
use Rattle.clap.specs.Faults.{fault_of, is_simple_and_free}
use Rattle.clap.specs.declared.error.kind.ErrorKind.TheVariants.{OutOfMemory}
use Rattle.dj_words.specs.Command.{command, found, is_taken}
use Rattle.dj_words.proofs.Grammatical.{grammatical_lines_are_taken}
use Rattle.dj_words.proofs.Reading.{its_free, its_simple, refused_order, refused_taken, taken_order}
use Rattle.dj_words.proofs.Taken.{took_words}
use Rattle.dj_words.proofs.order.read_words.Goals as goal

pub returns-in-Ok : goal.returns-in-Ok
returns-in-Ok c =
    let app : app_of c.in_ok-command.field-0 ≡ command = c.in_ok-command.ensures.command in
    let words = map string_bytes c.args.words.now in
    let passes : fault_of command words ≡ [] = ap (λ (a : App). fault_of a words) (sym app) ∙ c.in-Ok.ensures.kinds (ap is_simple_and_free app ∙ its_free) in
    let rows : rows_of (found_of c.in-Ok.matches) ≡ found words = (c.in-Ok.ensures.matches (ap is_simple app ∙ its_simple)).0 ∙ ap (λ (a : App). matches_of a words) app in
    record {
      order = taken_order words (rows_of (found_of c.in-Ok.matches)) c.order_in.result passes rows c.order_in.ensures.order;
      taken = λ program line g is. took_words c.order_in.result (rows_of (found_of c.in-Ok.matches)) c.order_in.ensures.order;
    }

pub returns-in-Err : goal.returns-in-Err
returns-in-Err c =
    let app : app_of c.in_ok-command.field-0 ≡ command = c.in_ok-command.ensures.command in
    let words = map string_bytes c.args.words.now in
    let told : (c.kind.result ≡ OutOfMemory) ⊎ IsAmong c.kind.result (fault_of command words) =
    rw (c.kind.ensures, ← ap (λ (a : App). fault_of a words) app) (c.in-Err.ensures.kinds (ap is_simple_and_free app ∙ its_free)) in
    record {
      order = refused_order words c.kind.result c.refused.result told c.refused.ensures.memory c.refused.ensures.words;
      taken = λ program line g is. refused_taken words c.kind.result c.refused.result told c.refused.ensures.memory (ap is_taken is ∙ grammatical_lines_are_taken program line g);
    }
