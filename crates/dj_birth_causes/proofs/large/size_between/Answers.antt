use Rattle.std.proofs.Common.{arith}
use Rattle.dj_birth_causes.proofs.Sizes.{size_is, start_of, no_start}
use Rattle.dj_birth_causes.proofs.large.size_between.Goals as goal

pub returns-in_default : goal.returns-in_default
returns-in_default c = record { size = λ starts. no_start c.args.instructions.now c.args.start c.in_default.ensures.absent starts.from }

pub returns-in_default-place_of : goal.returns-in_default-place_of
returns-in_default-place_of c = record { size = λ starts. no_start c.args.instructions.now c.args.end c.in_default-place_of.ensures.absent starts.to }

pub overflow_sub-result : goal.overflow_sub-result
overflow_sub-result c =
    (size_is c.args.instructions.now c.args.start c.args.end c.in-Ok.first c.in-Ok-place_of.last c.requires.rising c.in-Ok.ensures.found c.in-Ok-place_of.ensures.found c.requires.order).0

pub returns : goal.returns
returns c =
    let sizes = size_is c.args.instructions.now c.args.start c.args.end c.in-Ok.first c.in-Ok-place_of.last c.requires.rising c.in-Ok.ensures.found c.in-Ok-place_of.ensures.found c.requires.order in
    let order = sizes.0 in
    let size = sizes.1 in
    record {
      size = (
        record {
          from = start_of c.args.instructions.now c.args.start c.in-Ok.first c.requires.rising c.in-Ok.ensures.found;
          to = start_of c.args.instructions.now c.args.end c.in-Ok-place_of.last c.requires.rising c.in-Ok-place_of.ensures.found;
        },
        omega (arith, order, size),
      );
    }
