use Rattle.std.proofs.Common.{◌≡◌, ◌++◌, inl, inr}
use Rattle.std.specs.Prelude.{codes}
use Rattle.dj_kinds.specs.Access.{package_of}
use Rattle.dj_causes.proofs.ClassCauseLemmas.{simple_is}
use Rattle.dj_causes.proofs.class_causes.describes_package.Goals as goal

pub returns : goal.returns
returns c =
    let class = c.args.class.now in
    let simple = c.simple_name.result.now in
    let parts : package_of class ++ simple ≡ class = rw (← c.as_slice.ensures.units) c.simple_name.ensures.simple in
    let word = c.is_package_word.ensures.word in
    record {
      describes = (
        λ yes. elim (word.0 yes) [
          | inl is ↦ inl ((simple_is class simple (codes "package-info") parts).0 is)
          | inr is ↦ inr ((simple_is class simple (codes "module-info") parts).0 is)
        ],
        λ describes. word.1 (elim describes [
          | inl is ↦ inl ((simple_is class simple (codes "package-info") parts).1 is)
          | inr is ↦ inr ((simple_is class simple (codes "module-info") parts).1 is)
        ]),
      );
    }
