-- How deep the trees are, at most, that a parser makes of the words of a text (JLS 14, 15).
--
-- A tree has another in it by a word that counts: an expression by one of its own (`.`, `[`, `(`, `?`, `=`, an operator,
-- `new`, `instanceof`), a labelled statement by its colon, and a list of statements by its brace. No expression has
-- statements in it. What is read in a parenthesis or bracket is made, by the words that count there, of what has closed in
-- it; so it is no higher than these words and the highest of those. So no tree is deeper than the braces that are open
-- around a word, the labels before them, the words that count around the innermost parenthesis, and the height in it. A
-- brace and a label count two, since a statement takes more of the stack than an expression does.
use Rattle.std.specs.Prelude.{ℕ, ◌+◌, ◌*◌, ◌<◌, nat_le, max, Bool, if◌then◌else◌, List, [], ◌∷◌, length, take}
use Rattle.dj_tokens.specs.declared.tokens.Token.{Token}
use Rattle.dj_tokens.specs.declared.tokens.Token.TheVariants as token
use Rattle.dj_tokens.specs.Words.{Words, words}
use Rattle.dj_tokens.specs.Tokens.{token_of}
use Rattle.dj_depth.specs.declared.effects.Effect.{Effect}
use Rattle.dj_depth.specs.declared.effects.Effect.TheVariants as effect
use Rattle.dj_depth.specs.declared.effects.Behind.{Behind}
use Rattle.dj_depth.specs.declared.effects.Behind.TheVariants as behind
use Rattle.dj_depth.specs.declared.level.Level.{Level}

-- what a word does to the depth
abbrev pub effect_of : Token → Effect
effect_of token.Open = effect.Wraps
effect_of token.Close = effect.Unwraps
effect_of token.OpenBracket = effect.Brackets
effect_of token.CloseBracket = effect.Unwraps
effect_of token.Comma = effect.Parts
effect_of token.Dot = effect.Joins
effect_of token.Colon = effect.Labels
effect_of token.Question = effect.Counts
effect_of token.Semicolon = effect.Ends
effect_of token.OpenBrace = effect.Opens
effect_of token.CloseBrace = effect.Closes
effect_of token.Assigns = effect.Counts
effect_of token.Bang = effect.Counts
effect_of (token.Operator operator) = effect.Counts
effect_of token.Number = effect.Passes
effect_of token.Text = effect.Passes
effect_of token.True = effect.Passes
effect_of token.False = effect.Passes
effect_of token.Null = effect.Passes
effect_of token.This = effect.Passes
effect_of token.New = effect.Counts
effect_of token.InstanceOf = effect.Counts
effect_of token.Class = effect.Passes
effect_of token.Name = effect.Passes
effect_of token.Return = effect.Passes
effect_of token.If = effect.Passes
effect_of token.Else = effect.Starts
effect_of token.While = effect.Passes
effect_of token.Do = effect.Passes
effect_of token.For = effect.Passes
effect_of token.Switch = effect.Passes
effect_of token.Case = effect.Ends
effect_of token.Default = effect.Ends
effect_of token.Break = effect.Passes
effect_of token.Continue = effect.Passes
effect_of token.Throw = effect.Passes
effect_of token.Try = effect.Passes
effect_of token.Catch = effect.Starts
effect_of token.Finally = effect.Starts
effect_of token.Synchronized = effect.Passes

-- ---- a statement, or a parenthesis or bracket in it

-- nothing is read in it
abbrev pub empty : Level
empty = record { ended = 0; words = 0; inner = 0 }

-- how high what is read in it is, at most
abbrev pub height : Level → ℕ
height level = max level.ended (level.words + level.inner)

-- a word that counts
abbrev pub with_word : Level → Level
with_word level = record { ended = level.ended; words = level.words + 1; inner = level.inner }

-- a parenthesis or bracket in it closes, in which what was read is so high
abbrev pub with_inner : ℕ → Level → Level
with_inner high level = record { ended = level.ended; words = level.words; inner = max level.inner high }

-- a comma ends what was read
abbrev pub parted : Level → Level
parted level = record { ended = height level; words = 0; inner = 0 }

-- how many words count in these
abbrev pub words_of : List Level → ℕ
words_of [] = 0
words_of (level ∷ levels) = words_of levels + level.words

-- ---- words

-- How far words nest: what the labels before a statement of the innermost list count, at most; the same of the lists
-- around it, from the innermost out; what is read of a statement of it in the innermost parenthesis or bracket, and in
-- those around that, from it out; which label of its statement the next colon ends, from 1 on, and 0 where it ends none;
-- and whether the last word was a dot or an opening bracket, behind which a name or a type goes on with any word.
pub record Nesting : Type 0 where
  pub labels : ℕ
  pub outer : List ℕ
  pub level : Level
  pub around : List Level
  pub next_label : ℕ
  pub last : Behind

-- a statement begins, in lists with such labels
abbrev pub begun : ℕ → List ℕ → Nesting
begun labels outer = record { labels = labels; outer = outer; level = empty; around = []; next_label = 1; last = behind.Other }

-- no words
abbrev pub no_words : Nesting
no_words = begun 0 []

-- a word behind which this is read
abbrev pub onward : Level → List Level → ℕ → Behind → Nesting → Nesting
onward level around next_label last nesting =
    record { labels = nesting.labels; outer = nesting.outer; level = level; around = around; next_label = next_label; last = last }

-- a word that counts nothing
abbrev pub passed : Nesting → Nesting
passed nesting = onward nesting.level nesting.around nesting.next_label behind.Other nesting

-- a word that counts, behind which a colon ends no label
abbrev pub counted : Nesting → Nesting
counted nesting = onward (with_word nesting.level) nesting.around 0 behind.Other nesting

-- a body is open, in which a dot may stand in an expression: a class's list and a method's are around
abbrev pub is_in_body : List ℕ → Bool
is_in_body outer = nat_le 2 (length outer)

-- a dot
abbrev pub joined : Nesting → Nesting
joined nesting =
    onward (if is_in_body nesting.outer then with_word nesting.level else nesting.level) nesting.around nesting.next_label behind.Dot nesting

-- a parenthesis opens, behind which a colon ends no label
abbrev pub wrapped : Nesting → Nesting
wrapped nesting = onward empty (with_word nesting.level ∷ nesting.around) 0 behind.Other nesting

-- a bracket opens
abbrev pub bracketed : Nesting → Nesting
bracketed nesting = onward empty (with_word nesting.level ∷ nesting.around) nesting.next_label behind.Bracket nesting

-- a parenthesis or bracket closes, where one is open
abbrev pub unwrapped : List Level → Nesting → Nesting
unwrapped [] nesting = passed nesting
unwrapped (level ∷ around) nesting = onward (with_inner (height nesting.level) level) around nesting.next_label behind.Other nesting

-- a comma
abbrev pub separated : Nesting → Nesting
separated nesting = onward (parted nesting.level) nesting.around nesting.next_label behind.Other nesting

-- a colon, which may end a label
abbrev pub labelled : Nesting → Nesting
labelled nesting =
    record {
      labels = max nesting.labels (nesting.next_label * 2);
      outer = nesting.outer;
      level = nesting.level;
      around = nesting.around;
      next_label = nesting.next_label + 1;
      last = behind.Other;
    }

-- a statement goes on with another, which may have labels
abbrev pub restarted : Nesting → Nesting
restarted nesting = onward nesting.level nesting.around 1 behind.Other nesting

-- a statement ends
abbrev pub ended : Nesting → Nesting
ended nesting = begun nesting.labels nesting.outer

-- a list opens
abbrev pub opened : Nesting → Nesting
opened nesting = begun 0 (nesting.labels ∷ nesting.outer)

-- a list may open, in what goes on
abbrev pub opened_within : Nesting → Nesting
opened_within nesting =
    record { labels = 0; outer = nesting.labels ∷ nesting.outer; level = nesting.level; around = nesting.around; next_label = 1; last = behind.Other }

-- a list closes, where one is open
abbrev pub closed : List ℕ → Nesting → Nesting
closed [] nesting = ended nesting
closed (labels ∷ outer) nesting = begun labels outer

-- what comes of a word behind another than a dot or an opening bracket
abbrev pub after_word : Effect → Nesting → Nesting
after_word effect.Passes nesting = passed nesting
after_word effect.Counts nesting = counted nesting
after_word effect.Joins nesting = joined nesting
after_word effect.Wraps nesting = wrapped nesting
after_word effect.Brackets nesting = bracketed nesting
after_word effect.Unwraps nesting = unwrapped nesting.around nesting
after_word effect.Parts nesting = separated nesting
after_word effect.Labels nesting = labelled nesting
after_word effect.Starts nesting = restarted nesting
after_word effect.Opens nesting = opened nesting
after_word effect.Closes nesting = closed nesting.outer nesting
after_word effect.Ends nesting = ended nesting

-- what comes of a word behind a dot: no expression goes on with any but a name, and a name or a type goes on with each
abbrev pub after_dot : Effect → Nesting → Nesting
after_dot effect.Passes nesting = passed nesting
after_dot effect.Counts nesting = passed nesting
after_dot effect.Joins nesting = passed nesting
after_dot effect.Wraps nesting = passed nesting
after_dot effect.Brackets nesting = passed nesting
after_dot effect.Unwraps nesting = passed nesting
after_dot effect.Parts nesting = passed nesting
after_dot effect.Labels nesting = labelled nesting
after_dot effect.Starts nesting = restarted nesting
after_dot effect.Opens nesting = opened_within nesting
after_dot effect.Closes nesting = restarted nesting
after_dot effect.Ends nesting = restarted nesting

-- what comes of a word behind an opening bracket: an index begins with it, or a type goes on
abbrev pub after_bracket : Effect → Nesting → Nesting
after_bracket effect.Passes nesting = passed nesting
after_bracket effect.Counts nesting = counted nesting
after_bracket effect.Joins nesting = passed nesting
after_bracket effect.Wraps nesting = wrapped nesting
after_bracket effect.Brackets nesting = passed nesting
after_bracket effect.Unwraps nesting = unwrapped nesting.around nesting
after_bracket effect.Parts nesting = passed nesting
after_bracket effect.Labels nesting = labelled nesting
after_bracket effect.Starts nesting = restarted nesting
after_bracket effect.Opens nesting = opened_within nesting
after_bracket effect.Closes nesting = restarted nesting
after_bracket effect.Ends nesting = restarted nesting

-- what comes of a word
abbrev pub after_last : Behind → Effect → Nesting → Nesting
after_last behind.Other effect nesting = after_word effect nesting
after_last behind.Dot effect nesting = after_dot effect nesting
after_last behind.Bracket effect nesting = after_bracket effect nesting

-- what comes of a word, by the word before it
abbrev pub after : Effect → Nesting → Nesting
after effect nesting = after_last nesting.last effect nesting

-- what comes of words, one after another
abbrev pub read : Nesting → Words → Nesting
read nesting [] = nesting
read nesting (word ∷ rest) = read (after (effect_of (token_of word)) nesting) rest

-- how deep lists nest
abbrev pub depth_of : List ℕ → ℕ
depth_of [] = 0
depth_of (labels ∷ outer) = depth_of outer + (labels + 2)

-- how deep words nest
abbrev pub depth : Nesting → ℕ
depth nesting = depth_of nesting.outer + nesting.labels + (words_of nesting.around + height nesting.level)

-- the depth above which a text is deep: 2,000 statements in one another are not, and a stack of 8 MB holds as many trees
abbrev pub most_depth : ℕ
most_depth = 10240

-- some first words, behind these, nest too deep
abbrev pub GoesDeep : Nesting → Words → Type 0
GoesDeep nesting list = (n : ℕ) × (most_depth < depth (read nesting (take n list)))

-- a text nests too deep: some first words of it do
abbrev pub IsDeep : List ℕ → Type 0
IsDeep text = GoesDeep no_words (words text)
