use Rattle.std.proofs.Common.{◌≡◌, not, drop}
use Rattle.std.specs.List.{list_any}
use Rattle.dj_thrown.specs.Catching.{may_escape}
use Rattle.dj_escaping.proofs.escaping.is_one_kept.Given as goal

abbrev pub invariant-loop-class : goal.invariant-loop-class
invariant-loop-class l =
    list_any (λ class. not (may_escape l.headers l.declared class)) (drop l.class-index l.listed) ≡ list_any (λ class. not (may_escape l.headers l.declared class)) l.listed
