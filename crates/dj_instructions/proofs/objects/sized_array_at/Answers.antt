use Rattle.std.specs.Option.{option_map}
use Rattle.dj_names.specs.Types.{view_type}
use Rattle.dj_instructions.specs.Instructions.{view_instruction}
use Rattle.dj_instructions.specs.PoolMeanings.{sized_array}
use Rattle.dj_instructions.proofs.Meant.{type_meant}
use Rattle.dj_instructions.proofs.objects.sized_array_at.Goals as goal

pub returns-in-Some : goal.returns-in-Some
returns-in-Some c =
    let names = rw c.in-Some.is at c.in_ok-kind.ensures.named in
    record { meant = type_meant c.args.pool.now c.args.index (sized_array c.args.sizes) (view_type c.in-Some.kind) (option_map view_instruction c.sized_array.result) names c.sized_array.ensures.made }
