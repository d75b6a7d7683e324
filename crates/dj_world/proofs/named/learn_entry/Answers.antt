use Rattle.dj_world.specs.Named.{IsInClassEntry, IsInNameAndType}
use Rattle.dj_world.proofs.LearningLemmas.{learns_then}
use Rattle.dj_world.proofs.named.learn_entry.Goals as goal

pub returns : goal.returns
returns c =
    let pool = c.args.pool.now in
    let entry = c.args.entry.now in
    record {
      learns =
          learns_then c.args.names.now c.learn_class_entry.new.names c.learn_name_and_type.new.names (IsInClassEntry pool entry) (IsInNameAndType pool entry) c.in_ok-learn_class_entry.ensures.learns
          c.in_ok-learn_name_and_type.ensures.learns;
    }
