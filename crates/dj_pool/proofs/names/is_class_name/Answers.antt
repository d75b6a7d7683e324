use Rattle.dj_pool.proofs.NameTests.{class_name_by_segments, segments_of_class_name}
use Rattle.dj_pool.proofs.names.is_class_name.Goals as goal

pub returns : goal.returns
returns c =
    let name = c.args.name.now in
    record { name = (λ yes. class_name_by_segments name (c.are_unqualified.ensures.unqualified.0 yes), λ is. c.are_unqualified.ensures.unqualified.1 (segments_of_class_name name is)) }
