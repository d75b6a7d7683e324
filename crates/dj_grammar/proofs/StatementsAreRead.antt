-- Statements are read from their words, whatever follows (JLS 14).
use Rattle.std.proofs.Common.{◌≡◌, Bool, true, [], ◌∷◌, ◌++◌, refl, ap, ◌∙◌, append_assoc}
use Rattle.std.specs.Prelude.{codes}
use Rattle.dj_syntax.specs.Trees.{Stm, Block, Labelled, Declare, Set, SetField, SetStatic, SetElement, Run, If, While, Switch, Break, Continue, Return, Throw, Rethrow, Try, Synchronized, Construct, Do, For, Finally, Stms, Empty, And, Groups, NoGroups, AndGroup, Catches, NoCatches, AndCatch}
use Rattle.dj_syntax.specs.Trees as trees
use Rattle.dj_syntax.specs.UnitText.{Spellings}
use Rattle.dj_syntax.specs.WellFormed.{IsQualified, IsWellFormedStm, AreWellFormedStms, AreWellFormedGroups, AreWellFormedCatches}
use Rattle.dj_tokens.specs.declared.tokens.Token.TheVariants as token
use Rattle.dj_tokens.specs.Words.{Words}
use Rattle.dj_tokens.specs.Tokens.{token_of}
use Rattle.dj_grammar.specs.Frames.{called}
use Rattle.dj_grammar.specs.Open.{no_statements}
use Rattle.dj_grammar.specs.Statements.{ready, no_blocks, read_statements}
use Rattle.dj_grammar.proofs.StatementWords.{stm_words, stms_words}
use Rattle.dj_grammar.proofs.StatementLists.{added, list_of, flushed-all_added}
use Rattle.dj_grammar.proofs.StatementParts.{IsReadAs, AreReadAs}
use Rattle.dj_grammar.proofs.SimpleStatementsAreRead.{return_is_read, throw_is_read, run_is_read, store_is_read, set_is_read, declare_is_read, break_is_read, continue_is_read, label_is_read, construct_is_read, rethrow_is_read}
use Rattle.dj_grammar.proofs.BracedStatementsAreRead.{block_is_read, while_is_read, synchronized_is_read, if_is_read, do_is_read, for_is_read, finally_is_read, AreCatchesRead, try_is_read}
use Rattle.dj_grammar.proofs.SwitchesAreRead.{AreGroupsRead, switch_is_read}

-- ---- statements

-- how a unit whose statements are read spells its class, and its helper where it has one
pub record CanBeRead (names : Spellings) (helper : Bool) : Type 0 where
  pub class : IsQualified names.class
  pub called : helper ≡ true → token_of names.helper ≡ token.Name

mutual
  -- a well formed statement is read from its words
  pub stm_read : (names : Spellings) (helper : Bool) → CanBeRead names helper → (s : Stm) → IsWellFormedStm helper s → IsReadAs names s
  stm_read names helper can (Block list) well = block_is_read names list (stms_read names helper can list well)
  stm_read names helper can (Labelled label statement) well = label_is_read names label statement well.0 (stm_read names helper can statement well.2)
  stm_read names helper can (Declare variable kind value) well = declare_is_read names variable kind value well.0 well.1 well.2
  stm_read names helper can (Set variable value) well = set_is_read names variable value well.0 well.1
  stm_read names helper can (SetField object name value) well = λ outer list labels rest. store_is_read outer list labels (trees.Field object name) value (SetField object name value) rest (well.0, well.1) refl refl well.2 refl
  stm_read names helper can (SetStatic class name value) well = λ outer list labels rest. store_is_read outer list labels (trees.Static class name) value (SetStatic class name value) rest (well.0, well.1) refl refl well.2 refl
  stm_read names helper can (SetElement array index value) well = λ outer list labels rest. store_is_read outer list labels (trees.Element array index) value (SetElement array index value) rest (well.0, well.1) refl refl well.2 refl
  stm_read names helper can (Run call) well = run_is_read names call well.1 well.0
  stm_read names helper can (If test first second) well = if_is_read names test first second well.0 (stms_read names helper can first well.1) (stms_read names helper can second well.2)
  stm_read names helper can (While test body) well = while_is_read names test body well.0 (stms_read names helper can body well.1)
  stm_read names helper can (Switch value groups) well = switch_is_read names value groups well.0 well.1 (groups_read names helper can groups well.2)
  stm_read names helper can (Break label) well = break_is_read names label well
  stm_read names helper can (Continue label) well = continue_is_read names label well
  stm_read names helper can (Return value) well = return_is_read names value well
  stm_read names helper can (Throw value) well = throw_is_read names value well
  stm_read names helper can (Rethrow variable) well = rethrow_is_read names variable can.class (can.called well.0) well.1
  stm_read names helper can (Try body catches) well = try_is_read names body catches (stms_read names helper can body well.0) (catches_read names helper can catches well.2)
  stm_read names helper can (Synchronized monitor body) well = synchronized_is_read names monitor body well.0 (stms_read names helper can body well.1)
  stm_read names helper can (Construct own arguments) well = construct_is_read names own arguments well
  stm_read names helper can (Do body test) well = do_is_read names body test (stms_read names helper can body well.0) well.1
  stm_read names helper can (For test variable e body) well = for_is_read names test variable e body well.0 well.1 well.2 (stms_read names helper can body well.3)
  stm_read names helper can (Finally body last) well = finally_is_read names body last (stms_read names helper can body well.0) (stms_read names helper can last well.1)

  -- well formed statements are read from their words
  pub stms_read : (names : Spellings) (helper : Bool) → CanBeRead names helper → (list : Stms) → AreWellFormedStms helper list → AreReadAs names list
  stms_read names helper can Empty well = λ outer list rest. refl
  stms_read names helper can (And first others) well = λ outer list rest.
      ap (read_statements (ready outer list)) (append_assoc (stm_words names first) (stms_words names others) rest)
      ∙ stm_read names helper can first well.0 outer list [] (stms_words names others ++ rest)
      ∙ stms_read names helper can others well.1 outer (added first [] list) rest

  groups_read : (names : Spellings) (helper : Bool) → CanBeRead names helper → (groups : Groups) → AreWellFormedGroups helper groups → AreGroupsRead names groups
  groups_read names helper can NoGroups well = tt
  groups_read names helper can (AndGroup labels body rest) well = (well.0, well.1, well.2, stms_read names helper can body well.3, groups_read names helper can rest well.4)

  catches_read : (names : Spellings) (helper : Bool) → CanBeRead names helper → (catches : Catches) → AreWellFormedCatches helper catches → AreCatchesRead names catches
  catches_read names helper can NoCatches well = tt
  catches_read names helper can (AndCatch class variable body rest) well = (well.0, well.1, stms_read names helper can body well.2, catches_read names helper can rest well.3)

-- a body is read up to its brace
pub body_read : (names : Spellings) (helper : Bool) → CanBeRead names helper → (list : Stms) (rest : Words) → AreWellFormedStms helper list → read_statements no_blocks (stms_words names list ++ codes "}" ∷ rest) ≡ (list_of list, rest)
body_read names helper can list rest well =
    stms_read names helper can list well [] no_statements (codes "}" ∷ rest)
    ∙ ap (λ inside. (inside, rest)) (flushed-all_added list no_statements)
