-- Switches are read from their words (JLS 14.11).
use Rattle.std.proofs.Common.{◌≡◌, ◌≢◌, ℕ, suc, Bool, true, false, List, [], ◌∷◌, ◌++◌, refl, sym, ap, ◌∙◌, append_assoc, append-nil}
use Rattle.std.specs.Prelude.{codes, ℤ, pos, negsuc, Option, Some, None, IsTrue, not, ◌||◌, FitsSigned}
use Rattle.std.specs.Int.{w32}
use Rattle.std.specs.Fmt.{decimal}
use Rattle.std.specs.List.{AllByRecursion, flat_map}
use Rattle.std.proofs.lemmas.Bool.{false≢true}
use Rattle.dj_syntax.specs.Trees.{Exp, Stm, Switch, Stms, Empty, And, stms_of, Group, Groups, NoGroups, AndGroup, groups_of}
use Rattle.dj_syntax.specs.Trees as trees
use Rattle.dj_syntax.specs.UnitText.{Spellings, is_empty}
use Rattle.dj_syntax.specs.WellFormed.{IsWellFormedExp, has_no_group, IsCase}
use Rattle.dj_tokens.specs.declared.tokens.Token.{Token}
use Rattle.dj_tokens.specs.declared.tokens.Token.TheVariants as token
use Rattle.dj_tokens.specs.Words.{Words}
use Rattle.dj_tokens.specs.Tokens.{token_of}
use Rattle.dj_grammar.specs.Readings.{Wanted, Negation, Head, Stands}
use Rattle.dj_grammar.specs.Steps.{read_words}
use Rattle.dj_tokens.proofs.Runs.{decimal_run, run_differs}
use Rattle.dj_grammar.proofs.TokensAreRead.{number_token}
use Rattle.dj_grammar.proofs.ExpressionWords.{enclosed, int_words, exp_words}
use Rattle.dj_grammar.specs.Open.{InSwitch, Frame, Listed, SwitchOf, CaseOf, flushed, no_statements, with_last}
use Rattle.dj_grammar.specs.Statements.{Blocks, ready, is_none_read, label_switch, label_outer, case_of, read_as, read_more, read_statements}
use Rattle.dj_grammar.proofs.StatementWords.{braced_words, case_words, stms_words, groups_words}
use Rattle.dj_grammar.proofs.PlainWordsPass.{within, step}
use Rattle.dj_grammar.proofs.StatementLists.{begun, added, all_added, stms_of-list_of, flushed-all_added}
use Rattle.dj_grammar.proofs.StatementParts.{head_is_read, IsReadAs, AreReadAs}
use Rattle.dj_grammar.proofs.SimpleStatementsAreRead.{value_of_whole, whole_at}

-- ---- groups of a switch

-- a switch that is open
abbrev switching : List Frame → Exp → List Group → List (Option ℤ) → List ℕ → List Stm → List Frame
switching outer value groups cases labels before = record { kind = InSwitch value groups cases; labels = labels; before = before } ∷ outer

-- a word that is this is read as this
word_as : (found : Token) (blocks : Blocks) (word : List ℕ) → token_of word ≡ found → read_more blocks word ≡ read_as found word blocks
word_as found blocks word is = ap (λ found. read_as found word blocks) is

-- the number of a `case` is read up to its colon
case_number_is_read : (outer : List Frame) (list : Listed) (number : ℤ) (rest : Words) → FitsSigned w32 number
    → read_statements (within outer list CaseOf [] (Wanted [])) ((int_words number ++ codes ":" ∷ []) ++ rest) ≡ read_statements (label_outer (within outer list CaseOf [] (read_words (Wanted []) (int_words number))) outer (Some number)) rest
case_number_is_read outer list (pos n) rest fits =
    let word = decimal n in
    let reading = read_words (Wanted []) (int_words (pos n)) in
    step (within outer list CaseOf [] (Wanted [])) word (codes ":" ∷ rest) (run_differs word (codes "}") (decimal_run n) refl)
    ∙ ap (λ blocks. read_statements blocks (codes ":" ∷ rest)) (word_as token.Number (within outer list CaseOf [] (Wanted [])) word (number_token n))
    ∙ step (within outer list CaseOf [] reading) (codes ":") rest refl
    ∙ ap (λ value. read_statements (case_of (within outer list CaseOf [] reading) value) rest) (value_of_whole (trees.Int (pos n)) reading (whole_at (trees.Int (pos n)) [] fits (refl, refl) refl refl))
case_number_is_read outer list (negsuc n) rest fits =
    let word = decimal (suc n) in
    let reading = read_words (Wanted []) (int_words (negsuc n)) in
    step (within outer list CaseOf [] (Wanted [])) (codes "-") (word ∷ codes ":" ∷ rest) refl
    ∙ step (within outer list CaseOf [] (Negation [])) word (codes ":" ∷ rest) (run_differs word (codes "}") (decimal_run (suc n)) refl)
    ∙ ap (λ blocks. read_statements blocks (codes ":" ∷ rest)) (word_as token.Number (within outer list CaseOf [] (Negation [])) word (number_token (suc n)))
    ∙ step (within outer list CaseOf [] reading) (codes ":") rest refl
    ∙ ap (λ value. read_statements (case_of (within outer list CaseOf [] reading) value) rest) (value_of_whole (trees.Int (negsuc n)) reading (whole_at (trees.Int (negsuc n)) [] fits (refl, refl) refl refl))

-- a label of a switch
case_is_read : (outer : List Frame) (value : Exp) (groups : List Group) (cases : List (Option ℤ)) (labels : List ℕ) (before : List Stm) (list : Listed) (label : Option ℤ) (rest : Words) → IsCase label
    → read_statements (ready (switching outer value groups cases labels before) list) (case_words label ++ rest)
    ≡ read_statements (label_switch (ready (switching outer value groups cases labels before) list) (record { kind = InSwitch value groups cases; labels = labels; before = before }) outer label value groups cases (is_none_read list)) rest
case_is_read outer value groups cases labels before list None rest fits = refl
case_is_read outer value groups cases labels before list (Some number) rest fits = case_number_is_read (switching outer value groups cases labels before) list number rest fits

-- further labels of a group
more_cases_are_read : (outer : List Frame) (value : Exp) (groups : List Group) (cases : List (Option ℤ)) (labels : List ℕ) (before : List Stm) (more : List (Option ℤ)) (rest : Words) → AllByRecursion IsCase more
    → read_statements (ready (switching outer value groups cases labels before) no_statements) (flat_map case_words more ++ rest) ≡ read_statements (ready (switching outer value groups (cases ++ more) labels before) no_statements) rest
more_cases_are_read outer value groups cases labels before [] rest fit =
    ap (λ cases. read_statements (ready (switching outer value groups cases labels before) no_statements) rest) (sym (append-nil cases))
more_cases_are_read outer value groups cases labels before (first ∷ others) rest (here, there) =
    ap (read_statements (ready (switching outer value groups cases labels before) no_statements)) (append_assoc (case_words first) (flat_map case_words others) rest)
    ∙ case_is_read outer value groups cases labels before no_statements first (flat_map case_words others ++ rest) here
    ∙ more_cases_are_read outer value groups (cases ++ first ∷ []) labels before others rest there
    ∙ ap (λ cases. read_statements (ready (switching outer value groups cases labels before) no_statements) rest) (append_assoc cases (first ∷ []) others)

some_read : (more : Stms) (list : Listed) → is_none_read list ≡ false → is_none_read (all_added more list) ≡ false
some_read Empty list some = some
some_read (And first rest) list some = some_read rest (added first [] list) refl

body_read_none : (body : Stms) → is_empty body ≡ false → is_none_read (all_added body no_statements) ≡ false
body_read_none Empty some = absurd (false≢true (sym some))
body_read_none (And first rest) some = some_read rest (added first [] no_statements) refl

-- what is asked of each group
abbrev pub AreGroupsRead : Spellings → Groups → Type 0
AreGroupsRead names NoGroups = Unit {0}
AreGroupsRead names (AndGroup labels body rest) =
    (labels ≢ []) × AllByRecursion IsCase labels × IsTrue (not (is_empty body) || has_no_group rest) × AreReadAs names body × AreGroupsRead names rest

-- groups as a list
abbrev group_list : Groups → List Group
group_list NoGroups = []
group_list (AndGroup labels body rest) = (labels, body) ∷ group_list rest

groups_of-group_list : (groups : Groups) → groups_of (group_list groups) ≡ groups
groups_of-group_list NoGroups = refl
groups_of-group_list (AndGroup labels body rest) = ap (AndGroup labels body) (groups_of-group_list rest)

body_or_last : (empty last : Bool) → IsTrue (not empty || last) → last ≡ false → empty ≡ false
body_or_last true last is other = absurd (false≢true (sym other ∙ is))
body_or_last false last is other = refl

-- groups behind one whose labels and statements were read, and the brace that ends them
abbrev GroupsGoOn : Spellings → Groups → Type 0
GroupsGoOn names more =
    (outer : List Frame) (value : Exp) (groups : List Group) (cases : List (Option ℤ)) (labels : List ℕ) (before : List Stm) (list : Listed) (rest : Words) → (has_no_group more ≡ false → is_none_read list ≡ false)
    → read_statements (ready (switching outer value groups cases labels before) list) (groups_words names more ++ codes "}" ∷ rest)
    ≡ read_statements (ready outer (with_last before (Switch value (groups_of ((groups ++ (cases, stms_of (flushed list)) ∷ []) ++ group_list more))) labels)) rest

-- a group behind its first label
group_goes_on : (names : Spellings) (further : List (Option ℤ)) (body : Stms) (others : Groups) → AllByRecursion IsCase further → IsTrue (not (is_empty body) || has_no_group others) → AreReadAs names body → GroupsGoOn names others
    → (outer : List Frame) (value : Exp) (groups : List Group) (cases : List (Option ℤ)) (labels : List ℕ) (before : List Stm) (rest : Words)
    → read_statements (ready (switching outer value groups cases labels before) no_statements) (flat_map case_words further ++ ((stms_words names body ++ groups_words names others) ++ codes "}" ∷ rest))
    ≡ read_statements (ready outer (with_last before (Switch value (groups_of ((groups ++ (cases ++ further, body) ∷ []) ++ group_list others))) labels)) rest
group_goes_on names further body others fit last are next outer value groups cases labels before rest =
    let frames = switching outer value groups (cases ++ further) labels before in
    let inside = all_added body no_statements in
    more_cases_are_read outer value groups cases labels before further ((stms_words names body ++ groups_words names others) ++ codes "}" ∷ rest) fit
    ∙ ap (read_statements (ready frames no_statements)) (append_assoc (stms_words names body) (groups_words names others) (codes "}" ∷ rest))
    ∙ are frames no_statements (groups_words names others ++ codes "}" ∷ rest)
    ∙ next outer value groups (cases ++ further) labels before inside rest (λ some. body_read_none body (body_or_last (is_empty body) (has_no_group others) last some))
    ∙ ap (λ body. read_statements (ready outer (with_last before (Switch value (groups_of ((groups ++ (cases ++ further, body) ∷ []) ++ group_list others))) labels)) rest)
    (ap stms_of (flushed-all_added body no_statements) ∙ stms_of-list_of body)

groups_go_on : (names : Spellings) (more : Groups) → AreGroupsRead names more → GroupsGoOn names more
groups_go_on names NoGroups read outer value groups cases labels before list rest some =
    ap (λ groups. read_statements (ready outer (with_last before (Switch value (groups_of groups)) labels)) rest) (sym (append-nil (groups ++ (cases, stms_of (flushed list)) ∷ [])))
groups_go_on names (AndGroup [] body others) read outer value groups cases labels before list rest some = absurd (read.0 refl)
groups_go_on names (AndGroup (first ∷ further) body others) (nonempty, fit, last, are, read) outer value groups cases labels before list rest some =
    let made = groups ++ (cases, stms_of (flushed list)) ∷ [] in
    let tail = stms_words names body ++ groups_words names others in
    let frame : Frame = record { kind = InSwitch value groups cases; labels = labels; before = before } in
    ap (read_statements (ready (switching outer value groups cases labels before) list))
    (append_assoc (case_words first ++ flat_map case_words further) tail (codes "}" ∷ rest) ∙ append_assoc (case_words first) (flat_map case_words further) (tail ++ codes "}" ∷ rest))
    ∙ case_is_read outer value groups cases labels before list first (flat_map case_words further ++ (tail ++ codes "}" ∷ rest)) fit.0
    ∙ ap (λ none. read_statements (label_switch (ready (switching outer value groups cases labels before) list) frame outer first value groups cases none) (flat_map case_words further ++ (tail ++ codes "}" ∷ rest))) (some refl)
    ∙ group_goes_on names further body others fit.1 last are (groups_go_on names others read) outer value made (first ∷ []) labels before rest
    ∙ ap (λ groups. read_statements (ready outer (with_last before (Switch value (groups_of groups)) labels)) rest) (append_assoc made ((first ∷ further, body) ∷ []) (group_list others))

-- all groups of a switch, and the brace that ends it
groups_are_read : (names : Spellings) (groups : Groups) → has_no_group groups ≡ false → AreGroupsRead names groups → (outer : List Frame) (value : Exp) (labels : List ℕ) (before : List Stm) (rest : Words)
    → read_statements (ready (switching outer value [] [] labels before) no_statements) (groups_words names groups ++ codes "}" ∷ rest) ≡ read_statements (ready outer (with_last before (Switch value groups) labels)) rest
groups_are_read names NoGroups some read outer value labels before rest = absurd (false≢true (sym some))
groups_are_read names (AndGroup [] body others) some read outer value labels before rest = absurd (read.0 refl)
groups_are_read names (AndGroup (first ∷ further) body others) some (nonempty, fit, last, are, read) outer value labels before rest =
    let tail = stms_words names body ++ groups_words names others in
    ap (read_statements (ready (switching outer value [] [] labels before) no_statements))
    (append_assoc (case_words first ++ flat_map case_words further) tail (codes "}" ∷ rest) ∙ append_assoc (case_words first) (flat_map case_words further) (tail ++ codes "}" ∷ rest))
    ∙ case_is_read outer value [] [] labels before no_statements first (flat_map case_words further ++ (tail ++ codes "}" ∷ rest)) fit.0
    ∙ group_goes_on names further body others fit.1 last are (groups_go_on names others read) outer value [] (first ∷ []) labels before rest
    ∙ ap (λ groups. read_statements (ready outer (with_last before (Switch value (AndGroup (first ∷ further) body groups)) labels)) rest) (groups_of-group_list others)

pub switch_is_read : (names : Spellings) (e : Exp) (groups : Groups) → IsWellFormedExp e → has_no_group groups ≡ false → AreGroupsRead names groups → IsReadAs names (Switch e groups)
switch_is_read names e groups well some read outer list labels rest =
    let inside = groups_words names groups ++ codes "}" ∷ [] in
    step (begun outer list labels) (codes "switch") ((enclosed (exp_words e) ++ braced_words (groups_words names groups)) ++ rest) refl
    ∙ ap (read_statements (within outer list SwitchOf labels (Head []))) (append_assoc (enclosed (exp_words e)) (braced_words (groups_words names groups)) rest)
    ∙ head_is_read outer list SwitchOf labels e (codes "{" ∷ (inside ++ rest)) well refl
    ∙ step (within outer list SwitchOf labels (Stands e [])) (codes "{") (inside ++ rest) refl
    ∙ ap (read_statements (ready (switching outer e [] [] labels (flushed list)) no_statements)) (append_assoc (groups_words names groups) (codes "}" ∷ []) rest)
    ∙ groups_are_read names groups some read outer e labels (flushed list) rest
