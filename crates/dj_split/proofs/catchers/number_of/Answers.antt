use Rattle.std.proofs.Common.{sym, arith}
use Rattle.dj_split.proofs.Numbers.{number-found, number-none-found}
use Rattle.dj_split.proofs.catchers.number_of.Goals as goal

pub overflow_cast-number : goal.overflow_cast-number
overflow_cast-number c =
    let found = number-found c.args.starts.now c.in-Ok.place c.args.pc c.requires.rise c.in-Ok.ensures.position in
    let low = found.low in
    let fits = c.ranges.pc.fits in
    omega (arith, low, fits)

pub returns-in-Ok : goal.returns-in-Ok
returns-in-Ok c = record { number = sym (number-found c.args.starts.now c.in-Ok.place c.args.pc c.requires.rise c.in-Ok.ensures.position).is }

pub returns-in-Err : goal.returns-in-Err
returns-in-Err c = record { number = sym (number-none-found c.args.starts.now c.in-Err.field-0 c.args.pc c.requires.rise c.in-Err.ensures.position) }
