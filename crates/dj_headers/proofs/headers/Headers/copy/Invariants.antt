use Rattle.std.proofs.Common.{◌≡◌, take}
use Rattle.dj_headers.proofs.headers.Headers.copy.Given as goal

abbrev pub invariant-loop-header : goal.invariant-loop-header
invariant-loop-header l = l.headers ≡ take l.header-index l.header-items
