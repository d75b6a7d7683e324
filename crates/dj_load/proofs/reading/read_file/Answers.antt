use Rattle.dj_load.proofs.ReadingLemmas.{few_fields, few_methods}
use Rattle.dj_load.proofs.reading.read_file.Goals as goal

pub add_class-requires-clause-fields : goal.add_class-requires-clause-fields
add_class-requires-clause-fields c = few_fields c.args.oldest c.args.bytes.now c.in-Ok.class c.in-Ok.ensures.read

pub add_class-requires-clause-methods : goal.add_class-requires-clause-methods
add_class-requires-clause-methods c = few_methods c.args.oldest c.args.bytes.now c.in-Ok.class c.in-Ok.ensures.read
