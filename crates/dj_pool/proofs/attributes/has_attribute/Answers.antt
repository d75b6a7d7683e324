use Rattle.std.proofs.Common.{refl, ◌∙◌}
use Rattle.std.proofs.lemmas.Bool.{false≢true}
use Rattle.dj_pool.proofs.AttributeContents.{taken_other, named_is_there}
use Rattle.dj_pool.proofs.attributes.has_attribute.Goals as goal

pub returns-then-is_name : goal.returns-then-is_name
returns-then-is_name c =
    let there = named_is_there c.args.pool.now c.args.name.now c.args.attributes.now c.loop-attribute.attribute-index c.attribute-item.result c.loop-attribute-test.true c.attribute-item.is (c.if-is_name.ensures.exact.0 refl) c.loop-attribute.invariant in
    record { exact = λ none. cc }

pub loop-attribute-preserved : goal.loop-attribute-preserved
loop-attribute-preserved c =
    taken_other c.args.pool.now c.args.name.now c.args.attributes.now c.loop-attribute.attribute-index c.attribute-item.result c.loop-attribute-test.true c.attribute-item.is (λ is. false≢true (c.if-is_name.ensures.exact.1 is)) ∙ c.loop-attribute.invariant
