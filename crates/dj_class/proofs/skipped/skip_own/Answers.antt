use Rattle.dj_class.proofs.RestParts.{own_spelled}
use Rattle.dj_class.proofs.skipped.skip_own.Goals as goal

pub returns : goal.returns
returns c = record { reads = record { value = record { flags = c.in_ok-_flags._flags; this_class = c.in_ok-_this_class._this_class; super_class = c.in_ok-_super_class._super_class }; spells = own_spelled c.args.bytes.now c.in_ok-_flags.rest.now c.in_ok-_this_class.rest.now c.in_ok-_super_class.rest.now c.in_ok-_flags._flags c.in_ok-_this_class._this_class c.in_ok-_super_class._super_class c.in_ok-_flags.ensures.reads c.in_ok-_this_class.ensures.reads c.in_ok-_super_class.ensures.reads } }
