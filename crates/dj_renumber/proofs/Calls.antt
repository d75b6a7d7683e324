-- Trees that begin with the call of another constructor, and trees that don't.
use Rattle.std.proofs.Common.{Bool, true, false, Option, Some, None, is_some, ◌≡◌, refl, sym}
use Rattle.std.proofs.lemmas.Bool.{false≢true}
use Rattle.dj_syntax.specs.Trees.{Exps, Stm, Block, Labelled, Declare, Set, SetField, SetStatic, SetElement, Run, If, While, Switch, Break, Continue, Return, Throw, Rethrow, Try, Synchronized, Construct, Do, For, Finally, Stms, Empty, And}
use Rattle.dj_renaming.specs.Renaming.{Names, all_renamed}
use Rattle.dj_declaring.specs.Returning.{call_in, opening_call}
use Rattle.dj_parameters.specs.Parameters.{behind_opening}
use Rattle.dj_renumber.specs.Views.{renamed_behind}

pub opened : (names : Names) (tree : Stms) → is_some (opening_call tree) ≡ true → renamed_behind names tree ≡ behind_opening names tree (opening_call tree)
opened names Empty e = absurd (false≢true e)
opened names (And first rest) e = go first e
  where
    go : (statement : Stm) → is_some (call_in statement) ≡ true → And statement (all_renamed names rest) ≡ behind_opening names (And statement rest) (call_in statement)
    go (Block list) e = absurd (false≢true e)
    go (Labelled label inner) e = absurd (false≢true e)
    go (Declare variable type initial) e = absurd (false≢true e)
    go (Set variable new) e = absurd (false≢true e)
    go (SetField object name new) e = absurd (false≢true e)
    go (SetStatic class name new) e = absurd (false≢true e)
    go (SetElement array index new) e = absurd (false≢true e)
    go (Run call) e = absurd (false≢true e)
    go (If test first second) e = absurd (false≢true e)
    go (While test body) e = absurd (false≢true e)
    go (Switch on arms) e = absurd (false≢true e)
    go (Break label) e = absurd (false≢true e)
    go (Continue label) e = absurd (false≢true e)
    go (Return result) e = absurd (false≢true e)
    go (Throw exception) e = absurd (false≢true e)
    go (Rethrow variable) e = absurd (false≢true e)
    go (Try body clauses) e = absurd (false≢true e)
    go (Synchronized monitor body) e = absurd (false≢true e)
    go (Construct own arguments) e = refl
    go (Do body test) e = absurd (false≢true e)
    go (For test variable step body) e = absurd (false≢true e)
    go (Finally body last) e = absurd (false≢true e)

pub closed : (names : Names) (tree : Stms) → is_some (opening_call tree) ≡ false → all_renamed names tree ≡ behind_opening names tree (opening_call tree)
closed names tree e = go (opening_call tree) e
  where
    go : (call : Option (Bool × Exps)) → is_some call ≡ false → all_renamed names tree ≡ behind_opening names tree call
    go None e = refl
    go (Some call) e = absurd (false≢true (sym e))
