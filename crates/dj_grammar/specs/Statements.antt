-- Statements read a word at a time (JLS 14), with what is open around them kept from the innermost out. The reading is
-- liberal: what no statement has is read somehow, since the text of what was read is compared afterwards.
use Rattle.std.specs.Prelude.{ℕ, Bool, false, if◌then◌else◌, List, [], ◌∷◌, None, codes}
use Rattle.dj_syntax.specs.Trees.{Stm}
use Rattle.dj_tokens.specs.declared.tokens.Token.{Token}
use Rattle.dj_tokens.specs.declared.tokens.Token.TheVariants as token
use Rattle.dj_tokens.specs.Words.{Words, is_word}
use Rattle.dj_tokens.specs.Tokens.{token_of}
use Rattle.dj_grammar.specs.Readings.{Wanted, Head}
use Rattle.dj_grammar.specs.Steps.{read_word}
use Rattle.dj_grammar.specs.Open.{Frame, Clause, Simple, ReturnOf, ThrowOf, BreakOf, ContinueOf, IfOf, ElseOf, WhileOf, SwitchOf, CaseOf, DefaultOf, TryOf, CatchOf, FinallyOf, SynchronizedOf, DoOf, DoTest, ForOf, ForTest, ForStep, flushed}
pub use Rattle.dj_grammar.specs.Blocks.{Blocks, beginning, ready, no_blocks, completed, completed_or, label_list, labels_of, begin}
pub use Rattle.dj_grammar.specs.StatementEnds.{store, end_opener, end_opened, end_value, constructed, end_start, end_call, end_simple, value_in, rethrown, is_helper, thrown, label_in, to_step, to_test, end_clause}
pub use Rattle.dj_grammar.specs.Braces.{opens, opens_or, for_of, for_opened, for_value, catch_type, catch_of, switch_of, open_brace, with_group, with_catch, ended_kind, behind_brace, close_brace}
pub use Rattle.dj_grammar.specs.LastStatements.{reopened_if, reopened_try, goes_on, last_goes_on, else_of, catch_clause, finally_of, are_none, is_none_read, label_switch, label_kind, label_outer, case_number, case_of}

-- ---- words

-- a word of an expression
abbrev pub pass : Blocks → List ℕ → Blocks
pass blocks word =
    record { outer = blocks.outer; list = blocks.list; clause = blocks.clause; labels = blocks.labels; reading = read_word blocks.reading word }

-- a colon, of a label of a switch or of an expression
abbrev pub colon_of : Blocks → List ℕ → Clause → Blocks
colon_of blocks word Simple = pass blocks word
colon_of blocks word ReturnOf = pass blocks word
colon_of blocks word ThrowOf = pass blocks word
colon_of blocks word BreakOf = pass blocks word
colon_of blocks word ContinueOf = pass blocks word
colon_of blocks word IfOf = pass blocks word
colon_of blocks word (ElseOf test first) = pass blocks word
colon_of blocks word WhileOf = pass blocks word
colon_of blocks word SwitchOf = pass blocks word
colon_of blocks word CaseOf = case_of blocks (value_in blocks.reading)
colon_of blocks word DefaultOf = label_outer blocks blocks.outer None
colon_of blocks word TryOf = pass blocks word
colon_of blocks word (CatchOf body clauses) = pass blocks word
colon_of blocks word (FinallyOf body) = pass blocks word
colon_of blocks word SynchronizedOf = pass blocks word
colon_of blocks word DoOf = pass blocks word
colon_of blocks word (DoTest body) = pass blocks word
colon_of blocks word ForOf = pass blocks word
colon_of blocks word ForTest = pass blocks word
colon_of blocks word (ForStep test) = pass blocks word

-- `while`, of a loop or behind the statements of a `do`
abbrev pub while_of : Blocks → Clause → Blocks
while_of blocks Simple = begin blocks WhileOf (Head [])
while_of blocks ReturnOf = begin blocks WhileOf (Head [])
while_of blocks ThrowOf = begin blocks WhileOf (Head [])
while_of blocks BreakOf = begin blocks WhileOf (Head [])
while_of blocks ContinueOf = begin blocks WhileOf (Head [])
while_of blocks IfOf = begin blocks WhileOf (Head [])
while_of blocks (ElseOf test first) = begin blocks WhileOf (Head [])
while_of blocks WhileOf = begin blocks WhileOf (Head [])
while_of blocks SwitchOf = begin blocks WhileOf (Head [])
while_of blocks CaseOf = begin blocks WhileOf (Head [])
while_of blocks DefaultOf = begin blocks WhileOf (Head [])
while_of blocks TryOf = begin blocks WhileOf (Head [])
while_of blocks (CatchOf body clauses) = begin blocks WhileOf (Head [])
while_of blocks (FinallyOf body) = begin blocks WhileOf (Head [])
while_of blocks SynchronizedOf = begin blocks WhileOf (Head [])
while_of blocks DoOf = begin blocks WhileOf (Head [])
while_of blocks (DoTest body) = blocks
while_of blocks ForOf = begin blocks WhileOf (Head [])
while_of blocks ForTest = begin blocks WhileOf (Head [])
while_of blocks (ForStep test) = begin blocks WhileOf (Head [])

-- a word more, given what it is
abbrev pub read_as : Token → List ℕ → Blocks → Blocks
read_as token.Open word blocks = pass blocks word
read_as token.Close word blocks = pass blocks word
read_as token.OpenBracket word blocks = pass blocks word
read_as token.CloseBracket word blocks = pass blocks word
read_as token.Comma word blocks = pass blocks word
read_as token.Dot word blocks = pass blocks word
read_as token.Colon word blocks = colon_of blocks word blocks.clause
read_as token.Question word blocks = pass blocks word
read_as token.Semicolon word blocks = end_clause blocks blocks.clause
read_as token.OpenBrace word blocks = open_brace blocks blocks.clause
read_as token.CloseBrace word blocks = close_brace blocks blocks.outer
read_as token.Assigns word blocks = pass blocks word
read_as token.Bang word blocks = pass blocks word
read_as (token.Operator operator) word blocks = pass blocks word
read_as token.Number word blocks = pass blocks word
read_as token.Text word blocks = pass blocks word
read_as token.True word blocks = pass blocks word
read_as token.False word blocks = pass blocks word
read_as token.Null word blocks = pass blocks word
read_as token.This word blocks = pass blocks word
read_as token.New word blocks = pass blocks word
read_as token.InstanceOf word blocks = pass blocks word
read_as token.Class word blocks = pass blocks word
read_as token.Name word blocks = pass blocks word
read_as token.Return word blocks = begin blocks ReturnOf (Wanted [])
read_as token.If word blocks = begin blocks IfOf (Head [])
read_as token.Else word blocks = last_goes_on blocks else_of blocks.list.last
read_as token.While word blocks = while_of blocks blocks.clause
read_as token.Do word blocks = begin blocks DoOf (Head [])
read_as token.For word blocks = begin blocks ForOf (Head [])
read_as token.Switch word blocks = begin blocks SwitchOf (Head [])
read_as token.Case word blocks = begin blocks CaseOf (Wanted [])
read_as token.Default word blocks = begin blocks DefaultOf (Wanted [])
read_as token.Break word blocks = begin blocks BreakOf (Wanted [])
read_as token.Continue word blocks = begin blocks ContinueOf (Wanted [])
read_as token.Throw word blocks = begin blocks ThrowOf (Wanted [])
read_as token.Try word blocks = begin blocks TryOf (Head [])
read_as token.Catch word blocks = last_goes_on blocks catch_clause blocks.list.last
read_as token.Finally word blocks = last_goes_on blocks finally_of blocks.list.last
read_as token.Synchronized word blocks = begin blocks SynchronizedOf (Head [])

-- a word more of a body
abbrev pub read_more : Blocks → List ℕ → Blocks
read_more blocks word = read_as (token_of word) word blocks

-- whether the word ends the body: a brace where none is open
abbrev pub ends_body : List Frame → List ℕ → Bool
ends_body [] word = is_word word (codes "}")
ends_body (frame ∷ outer) word = false

-- the statements up to the brace that ends a body, and the words behind it
abbrev pub read_statements : Blocks → Words → List Stm × Words
read_statements blocks [] = (flushed blocks.list, [])
read_statements blocks (word ∷ rest) =
    if ends_body blocks.outer word then (flushed blocks.list, rest) else read_statements (read_more blocks word) rest
