use Rattle.std.proofs.Common.{◌≡◌, refl}
use Rattle.std.proofs.lemmas.Bool.{false≢true}
use Rattle.std.proofs.lemmas.List.Elements.{All-from_recursion, recursion_from_All}
use Rattle.dj_names.specs.Types.{Int, view_type}
use Rattle.dj_straight.proofs.StraightMethodLemmas.{ints_are, are_ints}
use Rattle.dj_straight.proofs.ints.int_count.Goals as goal

pub returns-then-are_ints-clause-some : goal.returns-then-are_ints-clause-some
returns-then-are_ints-clause-some c =
    ints_are c.args.parameters.now (recursion_from_All (λ kind. view_type kind ≡ Int) c.args.parameters.now ((rw c.if-are_ints.true at c.are_ints.ensures.ints).0 refl))

pub returns-else-are_ints-clause-none : goal.returns-else-are_ints-clause-none
returns-else-are_ints-clause-none c = λ count same.
    let all = All-from_recursion (λ kind. view_type kind ≡ Int) c.args.parameters.now (are_ints count c.args.parameters.now same) in
    false≢true ((rw c.if-are_ints.false at c.are_ints.ensures.ints).1 all)
