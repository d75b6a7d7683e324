-- What a word is in Java's grammar (JLS 3.8 to 3.12).
use Rattle.std.specs.Prelude.{ℕ, if◌then◌else◌, List, [], ◌∷◌, Option, Some, None, codes, nat_eq}
use Rattle.dj_syntax.specs.declared.operator.Op.{Op}
use Rattle.dj_syntax.specs.declared.operator.Op.TheVariants as op
use Rattle.dj_tokens.specs.declared.tokens.Token.{Token}
use Rattle.dj_tokens.specs.declared.tokens.Token.TheVariants as token
use Rattle.dj_tokens.specs.Words.{is_word, is_digit, is_letter, is_operator, is_quote}

-- a separator, or another single character
abbrev pub separator_of : ℕ → Token
separator_of character =
    if nat_eq character 40 then token.Open
    else if nat_eq character 41 then token.Close
    else if nat_eq character 91 then token.OpenBracket
    else if nat_eq character 93 then token.CloseBracket
    else if nat_eq character 44 then token.Comma
    else if nat_eq character 46 then token.Dot
    else if nat_eq character 58 then token.Colon
    else if nat_eq character 63 then token.Question
    else if nat_eq character 59 then token.Semicolon
    else if nat_eq character 123 then token.OpenBrace
    else if nat_eq character 125 then token.CloseBrace
    else token.Name

-- the binary operator that a word spells
abbrev pub operator_of : List ℕ → Op
operator_of word =
    if is_word word (codes "*") then op.Mul
    else if is_word word (codes "/") then op.Div
    else if is_word word (codes "%") then op.Rem
    else if is_word word (codes "+") then op.Add
    else if is_word word (codes "-") then op.Sub
    else if is_word word (codes "<<") then op.Shl
    else if is_word word (codes ">>") then op.Shr
    else if is_word word (codes ">>>") then op.Ushr
    else if is_word word (codes "<") then op.Lt
    else if is_word word (codes "<=") then op.Le
    else if is_word word (codes ">") then op.Gt
    else if is_word word (codes ">=") then op.Ge
    else if is_word word (codes "==") then op.Eq
    else if is_word word (codes "!=") then op.Ne
    else if is_word word (codes "&") then op.And
    else if is_word word (codes "^") then op.Xor
    else if is_word word (codes "|") then op.Or
    else if is_word word (codes "&&") then op.AndAlso
    else op.OrElse

-- a word of operator characters
abbrev pub sign_of : List ℕ → Token
sign_of word =
    if is_word word (codes "=") then token.Assigns
    else if is_word word (codes "!") then token.Bang
    else token.Operator (operator_of word)

-- a keyword of statements, where the word is one
abbrev pub statement_of : List ℕ → Option Token
statement_of word =
    if is_word word (codes "return") then Some token.Return
    else if is_word word (codes "if") then Some token.If
    else if is_word word (codes "else") then Some token.Else
    else if is_word word (codes "while") then Some token.While
    else if is_word word (codes "do") then Some token.Do
    else if is_word word (codes "for") then Some token.For
    else if is_word word (codes "switch") then Some token.Switch
    else if is_word word (codes "case") then Some token.Case
    else if is_word word (codes "default") then Some token.Default
    else if is_word word (codes "break") then Some token.Break
    else if is_word word (codes "continue") then Some token.Continue
    else if is_word word (codes "throw") then Some token.Throw
    else if is_word word (codes "try") then Some token.Try
    else if is_word word (codes "catch") then Some token.Catch
    else if is_word word (codes "finally") then Some token.Finally
    else if is_word word (codes "synchronized") then Some token.Synchronized
    else None

-- a keyword of expressions, or a name; `super` and the primitive types count as names
abbrev pub name_of : List ℕ → Token
name_of word =
    if is_word word (codes "true") then token.True
    else if is_word word (codes "false") then token.False
    else if is_word word (codes "null") then token.Null
    else if is_word word (codes "this") then token.This
    else if is_word word (codes "new") then token.New
    else if is_word word (codes "instanceof") then token.InstanceOf
    else if is_word word (codes "class") then token.Class
    else token.Name

-- this token, where there is one, or else the other
abbrev pub token_or : Option Token → Token → Token
token_or None other = other
token_or (Some found) other = found

-- what a word of letters is: a keyword, or a name
abbrev pub word_of : List ℕ → Token
word_of word = token_or (statement_of word) (name_of word)

-- what a word is
abbrev pub token_of : List ℕ → Token
token_of [] = token.Name
token_of (first ∷ rest) =
    if is_digit first then token.Number
    else if is_letter first then word_of (first ∷ rest)
    else if is_operator first then sign_of (first ∷ rest)
    else if is_quote first then token.Text
    else separator_of first
