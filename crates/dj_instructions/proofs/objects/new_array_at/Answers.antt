use Rattle.std.specs.Option.{option_map}
use Rattle.dj_names.specs.Types.{view_type}
use Rattle.dj_instructions.specs.Instructions.{view_instruction}
use Rattle.dj_instructions.specs.PoolMeanings.{array_of}
use Rattle.dj_instructions.proofs.Meant.{type_meant}
use Rattle.dj_instructions.proofs.objects.new_array_at.Goals as goal

pub returns-in-Some : goal.returns-in-Some
returns-in-Some c =
    let names = rw c.in-Some.is at c.in_ok-element.ensures.named in
    record { meant = type_meant c.args.pool.now c.args.index array_of (view_type c.in-Some.element) (option_map view_instruction c.array_of.result) names c.array_of.ensures.made }
