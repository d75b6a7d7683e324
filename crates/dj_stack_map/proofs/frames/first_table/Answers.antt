use Rattle.std.proofs.Common.{◌≡◌, ◌+◌, ◌-◌, refl, ◌∙◌, codes, length, take, drop, arith, length-drop}
use Rattle.std.proofs.lemmas.List.{take_all}
use Rattle.std.proofs.lemmas.Bool.{false≢true}
use Rattle.dj_pool.proofs.AttributeContents.{taken_other, named_is_there}
use Rattle.dj_stack_map.proofs.frames.first_table.Goals as goal

pub loop-place-preserved : goal.loop-place-preserved
loop-place-preserved c =
    taken_other c.args.pool.now (codes "StackMapTable") c.args.attributes.now c.loop-place.place c.index-attributes-place.result c.loop-place-test.true c.index-attributes-place.is (λ is. false≢true (c.if-is_name.ensures.exact.1 is)) ∙ c.loop-place.invariant

pub returns-then-is_name : goal.returns-then-is_name
returns-then-is_name c =
    let xs = c.args.attributes.now in
    let there = named_is_there c.args.pool.now (codes "StackMapTable") xs c.loop-place.place c.index-attributes-place.result c.loop-place-test.true c.index-attributes-place.is (c.if-is_name.ensures.exact.0 refl) c.loop-place.invariant in
    let all : take (length xs - (c.loop-place.place + 1)) (drop (c.loop-place.place + 1) xs) ≡ drop (c.loop-place.place + 1) xs = take_all (length xs - (c.loop-place.place + 1)) (drop (c.loop-place.place + 1) xs) (omega (arith, length-drop (c.loop-place.place + 1) xs)) in
    record { first = rw (all, c.as_slice.ensures) there }
