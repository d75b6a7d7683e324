use Rattle.std.proofs.Common.{◌≡◌, ◌+◌, take}
use Rattle.dj_frames.specs.SlotTree.{words_in}
use Rattle.dj_frames.proofs.slots.with_words.Given as goal

abbrev pub invariant-loop-tag : goal.invariant-loop-tag
invariant-loop-tag l = l.words ≡ l.before + words_in (take l.tag-index l.tags)
