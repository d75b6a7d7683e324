use Rattle.std.proofs.Common.{◌≡◌, length, map}
use Rattle.std.specs.String.{string_bytes}
use Rattle.dj_making.specs.MadeFiles.{made_names}
use Rattle.dj_making.proofs.making.made_names.Given as goal

abbrev pub invariant-loop-k : goal.invariant-loop-k
invariant-loop-k l = record {
  names : map string_bytes l.names.items ≡ made_names l.k-counter;
  number : length l.names.items ≡ l.k-counter;
}
