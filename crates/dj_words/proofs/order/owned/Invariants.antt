use Rattle.std.proofs.Common.{◌≡◌, map, string_bytes, take}
use Rattle.dj_words.proofs.order.owned.Given as goal

abbrev pub invariant-loop-word : goal.invariant-loop-word
invariant-loop-word l = map string_bytes l.owned.items ≡ take l.word-index (map (λ word. word.now) l.words)
