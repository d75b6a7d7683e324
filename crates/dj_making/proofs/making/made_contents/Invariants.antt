use Rattle.std.proofs.Common.{◌≡◌, length}
use Rattle.dj_load.specs.Loading.{contents_of}
use Rattle.dj_making.specs.MadeFiles.{made_contents}
use Rattle.dj_making.proofs.making.made_contents.Given as goal

abbrev pub invariant-loop-k : goal.invariant-loop-k
invariant-loop-k l = record {
  contents : contents_of l.contents.items ≡ made_contents l.k;
  number : length l.contents.items ≡ l.k;
}
