-- Lists of statements as they are read: the last one is kept apart with its labels (JLS 14.2, 14.7).
use Rattle.std.proofs.Common.{◌≡◌, ℕ, List, [], ◌∷◌, ◌++◌, refl, sym, ap, ◌∙◌, append_assoc, append-nil}
use Rattle.dj_syntax.specs.Trees.{Stm, Block, Labelled, Declare, Set, SetField, SetStatic, SetElement, Run, If, While, Switch, Break, Continue, Return, Throw, Rethrow, Try, Synchronized, Construct, Do, For, Finally, Stms, Empty, And, stms_of}
use Rattle.dj_grammar.specs.Open.{Frame, Listed, Simple, wrapped, flushed, with_last}
use Rattle.dj_grammar.specs.Statements.{Blocks, beginning}
use Rattle.dj_grammar.proofs.PlainWordsPass.{within, step}

-- where a statement with these labels begins
abbrev pub begun : List Frame → Listed → List ℕ → Blocks
begun outer list labels = within outer list Simple [] (beginning labels)

-- a statement, with its labels, where the labels in front of it join them
abbrev pub bare : Stm → List ℕ → Stm × List ℕ
bare (Block list) labels = (Block list, labels)
bare (Labelled label statement) labels = bare statement (label ∷ labels)
bare (Declare variable kind value) labels = (Declare variable kind value, labels)
bare (Set variable value) labels = (Set variable value, labels)
bare (SetField object name value) labels = (SetField object name value, labels)
bare (SetStatic class name value) labels = (SetStatic class name value, labels)
bare (SetElement array index value) labels = (SetElement array index value, labels)
bare (Run call) labels = (Run call, labels)
bare (If test first second) labels = (If test first second, labels)
bare (While test body) labels = (While test body, labels)
bare (Switch value cases) labels = (Switch value cases, labels)
bare (Break label) labels = (Break label, labels)
bare (Continue label) labels = (Continue label, labels)
bare (Return value) labels = (Return value, labels)
bare (Throw value) labels = (Throw value, labels)
bare (Rethrow variable) labels = (Rethrow variable, labels)
bare (Try body clauses) labels = (Try body clauses, labels)
bare (Synchronized monitor body) labels = (Synchronized monitor body, labels)
bare (Construct own arguments) labels = (Construct own arguments, labels)
bare (Do body test) labels = (Do body test, labels)
bare (For test variable step body) labels = (For test variable step body, labels)
bare (Finally body last) labels = (Finally body last, labels)

wrapped-bare : (s : Stm) (labels : List ℕ) → wrapped (bare s labels).0 (bare s labels).1 ≡ wrapped s labels
wrapped-bare (Block list) labels = refl
wrapped-bare (Labelled label statement) labels = wrapped-bare statement (label ∷ labels)
wrapped-bare (Declare variable kind value) labels = refl
wrapped-bare (Set variable value) labels = refl
wrapped-bare (SetField object name value) labels = refl
wrapped-bare (SetStatic class name value) labels = refl
wrapped-bare (SetElement array index value) labels = refl
wrapped-bare (Run call) labels = refl
wrapped-bare (If test first second) labels = refl
wrapped-bare (While test body) labels = refl
wrapped-bare (Switch value cases) labels = refl
wrapped-bare (Break label) labels = refl
wrapped-bare (Continue label) labels = refl
wrapped-bare (Return value) labels = refl
wrapped-bare (Throw value) labels = refl
wrapped-bare (Rethrow variable) labels = refl
wrapped-bare (Try body clauses) labels = refl
wrapped-bare (Synchronized monitor body) labels = refl
wrapped-bare (Construct own arguments) labels = refl
wrapped-bare (Do body test) labels = refl
wrapped-bare (For test variable step body) labels = refl
wrapped-bare (Finally body last) labels = refl

-- a list with a statement more
abbrev pub added : Stm → List ℕ → Listed → Listed
added s labels list = with_last (flushed list) (bare s labels).0 (bare s labels).1

-- a list with statements more
abbrev pub all_added : Stms → Listed → Listed
all_added Empty list = list
all_added (And first rest) list = all_added rest (added first [] list)

-- statements as a list
abbrev pub list_of : Stms → List Stm
list_of Empty = []
list_of (And first rest) = first ∷ list_of rest

-- statements are those of their list
pub stms_of-list_of : (list : Stms) → stms_of (list_of list) ≡ list
stms_of-list_of Empty = refl
stms_of-list_of (And first rest) = ap (And first) (stms_of-list_of rest)

pub flushed-all_added : (more : Stms) (list : Listed) → flushed (all_added more list) ≡ flushed list ++ list_of more
flushed-all_added Empty list = sym (append-nil (flushed list))
flushed-all_added (And first rest) list =
    flushed-all_added rest (added first [] list)
    ∙ ap (λ last. (flushed list ++ last ∷ []) ++ list_of rest) (wrapped-bare first [])
    ∙ append_assoc (flushed list) (first ∷ []) (list_of rest)
