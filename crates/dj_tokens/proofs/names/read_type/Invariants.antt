use Rattle.std.proofs.Common.{◌≡◌, true, codes, length}
use Rattle.dj_names.specs.Types.{view_type}
use Rattle.dj_tokens.specs.Words.{comes}
use Rattle.dj_tokens.specs.Names.{IsWhole, more_type}
use Rattle.dj_tokens.proofs.names.read_type.Given as goal

abbrev pub invariant-loop-reader : goal.invariant-loop-reader
invariant-loop-reader l = record {
  same : more_type (view_type l.kind) l.reader ≡ more_type (view_type l.initial.kind) l.initial.reader;
  whole : comes (codes ".") l.reader ≡ true → IsWhole (view_type l.kind);
}

abbrev pub decreases-loop-reader : goal.decreases-loop-reader
decreases-loop-reader l = length l.reader
