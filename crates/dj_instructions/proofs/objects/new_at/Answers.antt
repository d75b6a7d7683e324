use Rattle.std.specs.Option.{option_map}
use Rattle.dj_names.specs.Types.{view_type}
use Rattle.dj_instructions.specs.Instructions.{view_instruction}
use Rattle.dj_instructions.specs.PoolMeanings.{new_object}
use Rattle.dj_instructions.proofs.Meant.{type_meant}
use Rattle.dj_instructions.proofs.objects.new_at.Goals as goal

pub returns-in-Some : goal.returns-in-Some
returns-in-Some c =
    let names = rw c.in-Some.is at c.in_ok-kind.ensures.named in
    record { meant = type_meant c.args.pool.now c.args.index new_object (view_type c.in-Some.kind) (option_map view_instruction c.new_object.result) names c.new_object.ensures.made }
