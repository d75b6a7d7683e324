use Rattle.std.proofs.Common.{◌≡◌, ◌≤◌, ◌-◌, length, take}
use Rattle.dj_frames.proofs.locals.Locals.chop.Given as goal

abbrev pub invariant-loop : goal.invariant-loop
invariant-loop l = record { enough : l.counter ≤ length l.fn.self; first : l.self ≡ take (length l.fn.self - l.counter) l.fn.self }
