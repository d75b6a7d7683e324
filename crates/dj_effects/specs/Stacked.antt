-- The operand stack as the code keeps it.
use Rattle.std.specs.Prelude.{List, ◌++◌, map}
use Rattle.dj_frames.specs.declared.tag.Tag.{Tag}
use Rattle.dj_tags.specs.Goes.{reversed}
use Rattle.dj_effects.specs.declared.stack.Entry.{Entry}

-- the tags of entries
abbrev pub tags_of : List Entry → List Tag
tags_of = map (λ entry. entry.tag)

-- entries that were pushed, on a stack that is listed from the bottom up: the whole from the top down
abbrev pub stacked : List Tag → List Entry → List Tag
stacked below pushed = reversed (tags_of pushed) ++ reversed below
