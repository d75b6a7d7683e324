use Rattle.dj_class.proofs.RestParts.{attribute_spelled}
use Rattle.dj_class.proofs.skipped.skip_attribute.Goals as goal

pub returns : goal.returns
returns c = record { reads = record { value = record { name = c.in_ok-_name._name; content = c.in_ok-_content._content.now }; spells = attribute_spelled c.args.bytes.now c.in_ok-_name.rest.now c.in_ok-len.rest.now c.in_ok-_content.rest.now c.in_ok-_name._name c.in_ok-len.len c.in_ok-_content._content.now c.in_ok-_name.ensures.reads c.in_ok-len.ensures.reads c.in_ok-_content.ensures.reads } }
