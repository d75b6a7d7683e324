use Rattle.std.proofs.Common.{◌≡◌, drop}
use Rattle.std.specs.List.{list_all}
use Rattle.dj_typing.specs.Sites.{has_header}
use Rattle.dj_checked.proofs.whole.have_headers.Given as goal

abbrev pub invariant-loop-class : goal.invariant-loop-class
invariant-loop-class l = list_all (has_header l.headers) (drop l.class-index l.classes) ≡ list_all (has_header l.headers) l.classes
