use Rattle.std.proofs.Common.{◌<◌, ◌-◌, length, sym, subst, arith}
use Rattle.std.proofs.lemmas.Bool.{ltb-true}
use Rattle.dj_starts.proofs.PcLemmas.{past_last, from_start}
use Rattle.dj_starts.proofs.marks.room.Goals as goal

pub returns-in-Some : goal.returns-in-Some
returns-in-Some c =
    let xs = c.args.instructions.now in
    let item = c.in-Some.ensures.item in
    let some : 0 < length xs = ltb-true 0 (length xs) (sym item.0) in
    record { room = record { within = λ pc past. past_last xs 0 (length xs - 1) pc c.in-Some.at.now (from_start xs c.requires.rising) (omega arith) (subst (λ y. y.0 < pc) item.1 (omega arith)) } }
