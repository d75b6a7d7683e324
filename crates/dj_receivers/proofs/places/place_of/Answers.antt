use Rattle.std.proofs.Common.{rules}
use Rattle.std.proofs.lemmas.List.Sorted.{answers_always}
use Rattle.dj_instructions.proofs.PlaceLemmas.{searched}
use Rattle.dj_receivers.proofs.places.place_of.Goals as goal

pub returns : goal.returns
returns c =
    let facts = c.binary_search_by_key.ensures in
    let by_key = facts.position (λ x. x.0) (answers_always _ _ _ (λ f a r g called. search rules)) in
    searched c.args.instructions.now c.requires.rising c.args.pc _ facts.bound by_key
