use Rattle.std.proofs.Common.{arith, length, rules}
use Rattle.dj_pool.specs.SharedParts.{attribute, u2}
use Rattle.dj_write.proofs.Spelled.{all_items, item_more}
use Rattle.dj_write.proofs.members.put_attributes.Goals as goal

pub loop-attribute-preserved : goal.loop-attribute-preserved
loop-attribute-preserved c =
    item_more attribute.spell c.args.attributes.now c.loop-attribute.attribute-index c.attribute-item.result _ _ _ (omega arith) c.attribute-item.is c.loop-attribute.invariant
    c.in_ok-put_attribute.ensures.put

pub returns : goal.returns
returns c = record {
  put = all_items attribute.spell c.args.attributes.now c.loop-attribute.attribute-index _ (u2.spell (length c.args.attributes.now)) _ _ (omega arith) (search rules) c.loop-attribute.invariant;
}
