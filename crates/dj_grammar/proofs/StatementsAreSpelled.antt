-- The text of well formed statements falls into their words.
use Rattle.std.proofs.Common.{◌≡◌, ℕ, zero, suc, ◌*◌, Bool, true, false, List, [], ◌∷◌, ◌++◌, refl, ap, ◌∙◌, append_assoc}
use Rattle.std.specs.Prelude.{codes, ℤ, Option, Some, None, IfSome, replicate, if◌then◌else◌}
use Rattle.std.specs.List.{flat_map}
use Rattle.dj_names.specs.Types.{JType}
use Rattle.dj_syntax.specs.declared.variable.Var.{Var}
use Rattle.dj_syntax.specs.Items.{Item, Space, Line, item_text, render}
use Rattle.dj_syntax.specs.Trees.{CompilationUnit, Exp, Exps, Stm, Block, Labelled, Declare, Set, SetField, SetStatic, SetElement, Run, If, While, Switch, Break, Continue, Return, Throw, Rethrow, Try, Synchronized, Construct, Do, For, Finally, Stms, Empty, And, Groups, NoGroups, AndGroup, Catches, NoCatches, AndCatch}
use Rattle.dj_syntax.specs.Trees as trees
use Rattle.dj_syntax.specs.UnitText.{full_names, word, sign, dotted, variable_name, label_name, type_items, exp_items, arguments_items, parenthesised, int_items, stored_items, value_items, answer_items, braced, headed, is_empty, else_items, case_items, rethrow_items, stm_items, stms_items, groups_items, catches_items}
use Rattle.dj_syntax.specs.StmText.{deeper}
use Rattle.dj_syntax.specs.WellFormed.{IsQualified, IsWellFormedExp, IsWellFormedStm, AreWellFormedStms, AreWellFormedGroups, AreWellFormedCatches}
use Rattle.dj_tokens.specs.Words.{Words, words, begins, is_letter, is_operator}
use Rattle.dj_tokens.proofs.WordsLemmas.{IsRun}
use Rattle.dj_tokens.proofs.Runs.{variable_run, label_run, run_no_operator}
use Rattle.dj_grammar.proofs.NamesAreRead.{name_words}
use Rattle.dj_grammar.proofs.TypesAreRead.{type_words}
use Rattle.dj_grammar.proofs.NamesAreSpelled.{name_is_spelled, type_is_spelled}
use Rattle.dj_grammar.proofs.ExpressionWords.{enclosed, int_words, exp_words, arguments_words}
use Rattle.dj_grammar.proofs.Pieces.{Piece, IsApart, and_then, name_then, name_alone, operator_then, in_parentheses}
use Rattle.dj_grammar.proofs.ExpressionsAreSpelled.{int_is_spelled, exp_is_spelled, arguments_are_spelled}
use Rattle.dj_grammar.proofs.StatementWords.{stored_words, value_words, answer_words, braced_words, headed_words, else_words, case_words, runtime_words, rethrow_words, stm_words, stms_words, groups_words, catches_words}

-- ---- lines and braces

spaces_text : (n : ℕ) (text : List ℕ) → words (replicate n 32 ++ text) ≡ words text
spaces_text zero text = refl
spaces_text (suc n) text = spaces_text n text

-- the end of a line and the indentation of the next one are no words
pub line_text : (depth : ℕ) (text : List ℕ) → words (item_text (Line depth) ++ text) ≡ words text
line_text depth text = spaces_text (4 * depth) text

-- a piece on a line of its own
pub on_line : (depth : ℕ) (items : List Item) (list : Words) → Piece items list → Piece (Line depth ∷ items) list
on_line depth items list piece text ends =
    ap words (append_assoc (item_text (Line depth)) (render items) text) ∙ line_text depth (render items ++ text) ∙ piece text ends

-- a sign at the end
semicolon : Piece (sign (codes ";") ∷ []) (codes ";" ∷ [])
semicolon text ends = refl

-- lines in braces
pub in_braces : (depth : ℕ) (lines : List Item) (inside : Words) → Piece lines inside → Piece (braced depth lines) (braced_words inside)
in_braces depth lines inside piece text ends =
    ap (λ found. codes "{" ∷ found)
    (and_then lines (Line depth ∷ sign (codes "}") ∷ []) inside (codes "}" ∷ []) piece (λ text ends. refl) (on_line depth (sign (codes "}") ∷ []) (codes "}" ∷ []) (λ text ends. refl)) text ends)

-- a piece and a semicolon
ended_piece : (items : List Item) (list : Words) → Piece items list → Piece (items ++ sign (codes ";") ∷ []) (list ++ codes ";" ∷ [])
ended_piece items list piece = and_then items (sign (codes ";") ∷ []) list (codes ";" ∷ []) piece (λ text ends. refl) semicolon

-- a keyword and a piece behind a space
keyword_then : (keyword : List ℕ) (more : List Item) (after : Words) → IsRun is_letter keyword → Piece more after → Piece (word keyword ∷ Space ∷ more) (keyword ∷ after)
keyword_then keyword more after is next = name_then keyword (Space ∷ more) after is (λ text ends. refl) next

stored_piece : (unit : CompilationUnit) (e : Exp) → IsWellFormedExp e → Piece (stored_items (full_names unit) e) (stored_words e)
stored_piece unit e well =
    operator_then (codes "=") (Space ∷ (exp_items (full_names unit) e ++ sign (codes ";") ∷ [])) (exp_words e ++ codes ";" ∷ []) (refl, tt) (λ text ends. refl)
    (ended_piece (exp_items (full_names unit) e) (exp_words e) (exp_is_spelled unit e well))

value_piece : (unit : CompilationUnit) (value : Option Exp) → IfSome value IsWellFormedExp → Piece (value_items (full_names unit) value) (value_words value)
value_piece unit None well = semicolon
value_piece unit (Some e) well = stored_piece unit e well

value_apart : (unit : CompilationUnit) (value : Option Exp) → IsApart (value_items (full_names unit) value)
value_apart unit None text ends = refl
value_apart unit (Some e) text ends = refl

answer_piece : (unit : CompilationUnit) (value : Option Exp) → IfSome value IsWellFormedExp → Piece (answer_items (full_names unit) value) (answer_words value)
answer_piece unit None well = semicolon
answer_piece unit (Some e) well = ended_piece (exp_items (full_names unit) e) (exp_words e) (exp_is_spelled unit e well)

answer_apart : (unit : CompilationUnit) (value : Option Exp) → IsApart (answer_items (full_names unit) value)
answer_apart unit None text ends = refl
answer_apart unit (Some e) text ends = refl

-- an expression in parentheses, and lines in braces
headed_piece : (unit : CompilationUnit) (keyword : List ℕ) (e : Exp) (depth : ℕ) (lines : List Item) (inside : Words) → IsRun is_letter keyword → IsWellFormedExp e → Piece lines inside → Piece (headed (full_names unit) keyword e depth lines) (headed_words keyword e inside)
headed_piece unit keyword e depth lines inside is well piece =
    keyword_then keyword (parenthesised (exp_items (full_names unit) e) ++ Space ∷ braced depth lines) (enclosed (exp_words e) ++ braced_words inside) is
    (and_then (parenthesised (exp_items (full_names unit) e)) (Space ∷ braced depth lines) (enclosed (exp_words e)) (braced_words inside)
    (in_parentheses (exp_items (full_names unit) e) (exp_words e) (exp_is_spelled unit e well)) (λ text ends. refl) (in_braces depth lines inside piece))

else_piece : (none : Bool) (depth : ℕ) (lines : List Item) (inside : Words) → Piece lines inside → Piece (else_items none depth lines) (else_words none inside)
else_piece true depth lines inside piece = λ text ends. refl
else_piece false depth lines inside piece = keyword_then (codes "else") (braced depth lines) (braced_words inside) (refl, (refl, (refl, (refl, tt)))) (in_braces depth lines inside piece)

else_apart : (none : Bool) (depth : ℕ) (lines : List Item) → IsApart (else_items none depth lines)
else_apart true depth lines = λ text ends. ends
else_apart false depth lines = λ text ends. refl

case_piece : (depth : ℕ) (label : Option ℤ) → Piece (case_items depth label) (case_words label)
case_piece depth None =
    on_line depth (word (codes "default") ∷ sign (codes ":") ∷ []) (codes "default" ∷ codes ":" ∷ [])
    (name_then (codes "default") (sign (codes ":") ∷ []) (codes ":" ∷ []) (refl, (refl, (refl, (refl, (refl, (refl, (refl, tt))))))) (λ text ends. refl) (λ text ends. refl))
case_piece depth (Some number) =
    on_line depth (word (codes "case") ∷ Space ∷ (int_items number ++ sign (codes ":") ∷ [])) (codes "case" ∷ (int_words number ++ codes ":" ∷ []))
    (keyword_then (codes "case") (int_items number ++ sign (codes ":") ∷ []) (int_words number ++ codes ":" ∷ []) (refl, (refl, (refl, (refl, tt))))
    (and_then (int_items number) (sign (codes ":") ∷ []) (int_words number) (codes ":" ∷ []) (int_is_spelled number) (λ text ends. refl) (λ text ends. refl)))

cases_apart : (depth : ℕ) (labels : List (Option ℤ)) (more : List Item) → IsApart more → IsApart (flat_map (case_items depth) labels ++ more)
cases_apart depth [] more apart = apart
cases_apart depth (None ∷ rest) more apart = λ text ends. refl
cases_apart depth (Some number ∷ rest) more apart = λ text ends. refl

cases_alone_apart : (depth : ℕ) (labels : List (Option ℤ)) → IsApart (flat_map (case_items depth) labels)
cases_alone_apart depth [] = λ text ends. ends
cases_alone_apart depth (None ∷ rest) = λ text ends. refl
cases_alone_apart depth (Some number ∷ rest) = λ text ends. refl

cases_piece : (depth : ℕ) (labels : List (Option ℤ)) → Piece (flat_map (case_items depth) labels) (flat_map case_words labels)
cases_piece depth [] = λ text ends. refl
cases_piece depth (first ∷ rest) =
    and_then (case_items depth first) (flat_map (case_items depth) rest) (case_words first) (flat_map case_words rest) (case_piece depth first) (cases_alone_apart depth rest) (cases_piece depth rest)

-- ---- statements

-- how the spellings of a unit are words
pub record AreSpelled (unit : CompilationUnit) (helper : Bool) : Type 0 where
  pub class : IsQualified (full_names unit).class
  pub called : helper ≡ true → IsRun is_letter (full_names unit).helper

own_run : (own : Bool) → IsRun is_letter (if own then codes "this" else codes "super")
own_run true = (refl, (refl, (refl, (refl, tt))))
own_run false = (refl, (refl, (refl, (refl, (refl, tt)))))

stms_apart : (unit : CompilationUnit) (depth : ℕ) (list : Stms) → IsApart (stms_items (full_names unit) depth list)
stms_apart unit depth Empty text ends = ends
stms_apart unit depth (And first rest) text ends = refl

catches_apart : (unit : CompilationUnit) (depth : ℕ) (catches : Catches) → IsApart (catches_items (full_names unit) depth catches)
catches_apart unit depth NoCatches text ends = ends
catches_apart unit depth (AndCatch class variable body rest) text ends = refl

stms_groups_apart : (unit : CompilationUnit) (depth inner : ℕ) (body : Stms) (groups : Groups) → IsApart (groups_items (full_names unit) depth groups) → IsApart (stms_items (full_names unit) inner body ++ groups_items (full_names unit) depth groups)
stms_groups_apart unit depth inner Empty groups apart = apart
stms_groups_apart unit depth inner (And first rest) groups apart = λ text ends. refl

groups_apart : (unit : CompilationUnit) (depth : ℕ) (groups : Groups) → IsApart (groups_items (full_names unit) depth groups)
groups_apart unit depth NoGroups = λ text ends. ends
groups_apart unit depth (AndGroup labels body rest) =
    cases_apart depth labels (stms_items (full_names unit) (deeper depth) body ++ groups_items (full_names unit) depth rest)
    (stms_groups_apart unit depth (deeper depth) body rest (groups_apart unit depth rest))

-- a throw through the helper
rethrow_piece : (unit : CompilationUnit) (variable : Var) → IsQualified (full_names unit).class → IsRun is_letter (full_names unit).helper → Piece (rethrow_items (full_names unit) variable) (rethrow_words (full_names unit) variable)
rethrow_piece unit variable class helper =
    let last = parenthesised (word (variable_name variable) ∷ []) ++ sign (codes ";") ∷ [] in
    let last_words = enclosed (variable_name variable ∷ []) ++ codes ";" ∷ [] in
    let named = word (full_names unit).helper ∷ last in
    let named_words = (full_names unit).helper ∷ last_words in
    let typed = dotted (codes "java/lang/RuntimeException") ++ sign (codes ">") ∷ named in
    let typed_words = runtime_words ++ codes ">" ∷ named_words in
    keyword_then (codes "throw") (dotted (full_names unit).class ++ sign (codes ".") ∷ sign (codes "<") ∷ typed) (name_words (full_names unit).class ++ codes "." ∷ codes "<" ∷ typed_words) (refl, (refl, (refl, (refl, (refl, tt)))))
    (and_then (dotted (full_names unit).class) (sign (codes ".") ∷ sign (codes "<") ∷ typed) (name_words (full_names unit).class) (codes "." ∷ codes "<" ∷ typed_words)
    (name_is_spelled (full_names unit).class class) (λ text ends. refl)
    (λ text ends. ap (λ found. codes "." ∷ found)
    (operator_then (codes "<") typed typed_words (refl, tt) (λ text ends. refl)
    (λ text ends. ap (λ found. codes "java" ∷ codes "." ∷ codes "lang" ∷ codes "." ∷ codes "RuntimeException" ∷ found)
    (operator_then (codes ">") named named_words (refl, tt) (λ text ends. ap (begins is_operator) (append_assoc (full_names unit).helper (render last) text) ∙ run_no_operator (full_names unit).helper (render last ++ text) helper)
    (name_then (full_names unit).helper last last_words helper (λ text ends. refl)
    (ended_piece (parenthesised (word (variable_name variable) ∷ [])) (enclosed (variable_name variable ∷ []))
    (in_parentheses (word (variable_name variable) ∷ []) (variable_name variable ∷ []) (name_alone (variable_name variable) (variable_run variable))))) text ends)) text ends)))

mutual
  -- a statement from its first word on is spelled as its words
  pub stm_is_spelled : (unit : CompilationUnit) (helper : Bool) → AreSpelled unit helper → (depth : ℕ) (s : Stm) → IsWellFormedStm helper s → Piece (stm_items (full_names unit) depth s) (stm_words (full_names unit) s)
  stm_is_spelled unit helper can depth (Block list) well = in_braces depth (stms_items (full_names unit) (deeper depth) list) (stms_words (full_names unit) list) (stms_are_spelled unit helper can (deeper depth) list well)
  stm_is_spelled unit helper can depth (Labelled label statement) well =
      name_then (label_name label) (sign (codes ":") ∷ Space ∷ stm_items (full_names unit) depth statement) (codes ":" ∷ stm_words (full_names unit) statement) (label_run label) (λ text ends. refl)
      (λ text ends. ap (λ found. codes ":" ∷ found) (stm_is_spelled unit helper can depth statement well.2 text ends))
  stm_is_spelled unit helper can depth (Declare variable kind value) well =
      and_then (type_items (full_names unit) kind) (Space ∷ word (variable_name variable) ∷ value_items (full_names unit) value) (type_words kind) (variable_name variable ∷ value_words value)
      (type_is_spelled unit kind well.1) (λ text ends. refl)
      (name_then (variable_name variable) (value_items (full_names unit) value) (value_words value) (variable_run variable) (value_apart unit value) (value_piece unit value well.2))
  stm_is_spelled unit helper can depth (Set variable value) well =
      name_then (variable_name variable) (stored_items (full_names unit) value) (stored_words value) (variable_run variable) (λ text ends. refl) (stored_piece unit value well.1)
  stm_is_spelled unit helper can depth (SetField object name value) well =
      and_then (exp_items (full_names unit) (trees.Field object name)) (stored_items (full_names unit) value) (exp_words (trees.Field object name)) (stored_words value)
      (exp_is_spelled unit (trees.Field object name) (well.0, well.1)) (λ text ends. refl) (stored_piece unit value well.2)
  stm_is_spelled unit helper can depth (SetStatic class name value) well =
      and_then (exp_items (full_names unit) (trees.Static class name)) (stored_items (full_names unit) value) (exp_words (trees.Static class name)) (stored_words value)
      (exp_is_spelled unit (trees.Static class name) (well.0, well.1)) (λ text ends. refl) (stored_piece unit value well.2)
  stm_is_spelled unit helper can depth (SetElement array index value) well =
      and_then (exp_items (full_names unit) (trees.Element array index)) (stored_items (full_names unit) value) (exp_words (trees.Element array index)) (stored_words value)
      (exp_is_spelled unit (trees.Element array index) (well.0, well.1)) (λ text ends. refl) (stored_piece unit value well.2)
  stm_is_spelled unit helper can depth (Run call) well = ended_piece (exp_items (full_names unit) call) (exp_words call) (exp_is_spelled unit call well.1)
  stm_is_spelled unit helper can depth (If test first second) well =
      and_then (headed (full_names unit) (codes "if") test depth (stms_items (full_names unit) (deeper depth) first)) (else_items (is_empty second) depth (stms_items (full_names unit) (deeper depth) second))
      (headed_words (codes "if") test (stms_words (full_names unit) first)) (else_words (is_empty second) (stms_words (full_names unit) second))
      (headed_piece unit (codes "if") test depth (stms_items (full_names unit) (deeper depth) first) (stms_words (full_names unit) first) (refl, (refl, tt)) well.0 (stms_are_spelled unit helper can (deeper depth) first well.1))
      (else_apart (is_empty second) depth (stms_items (full_names unit) (deeper depth) second))
      (else_piece (is_empty second) depth (stms_items (full_names unit) (deeper depth) second) (stms_words (full_names unit) second) (stms_are_spelled unit helper can (deeper depth) second well.2))
  stm_is_spelled unit helper can depth (While test body) well =
      headed_piece unit (codes "while") test depth (stms_items (full_names unit) (deeper depth) body) (stms_words (full_names unit) body) (refl, (refl, (refl, (refl, (refl, tt))))) well.0 (stms_are_spelled unit helper can (deeper depth) body well.1)
  stm_is_spelled unit helper can depth (Switch value groups) well =
      headed_piece unit (codes "switch") value depth (groups_items (full_names unit) (deeper depth) groups) (groups_words (full_names unit) groups) (refl, (refl, (refl, (refl, (refl, (refl, tt)))))) well.0 (groups_are_spelled unit helper can (deeper depth) groups well.2)
  stm_is_spelled unit helper can depth (Break label) well =
      keyword_then (codes "break") (word (label_name label) ∷ sign (codes ";") ∷ []) (label_name label ∷ codes ";" ∷ []) (refl, (refl, (refl, (refl, (refl, tt)))))
      (name_then (label_name label) (sign (codes ";") ∷ []) (codes ";" ∷ []) (label_run label) (λ text ends. refl) semicolon)
  stm_is_spelled unit helper can depth (Continue label) well =
      keyword_then (codes "continue") (word (label_name label) ∷ sign (codes ";") ∷ []) (label_name label ∷ codes ";" ∷ []) (refl, (refl, (refl, (refl, (refl, (refl, (refl, (refl, tt))))))))
      (name_then (label_name label) (sign (codes ";") ∷ []) (codes ";" ∷ []) (label_run label) (λ text ends. refl) semicolon)
  stm_is_spelled unit helper can depth (Return value) well =
      name_then (codes "return") (answer_items (full_names unit) value) (answer_words value) (refl, (refl, (refl, (refl, (refl, (refl, tt)))))) (answer_apart unit value) (answer_piece unit value well)
  stm_is_spelled unit helper can depth (Throw value) well =
      keyword_then (codes "throw") (exp_items (full_names unit) value ++ sign (codes ";") ∷ []) (exp_words value ++ codes ";" ∷ []) (refl, (refl, (refl, (refl, (refl, tt)))))
      (ended_piece (exp_items (full_names unit) value) (exp_words value) (exp_is_spelled unit value well))
  stm_is_spelled unit helper can depth (Rethrow variable) well = rethrow_piece unit variable can.class (can.called well.0)
  stm_is_spelled unit helper can depth (Try body catches) well =
      keyword_then (codes "try") (braced depth (stms_items (full_names unit) (deeper depth) body) ++ catches_items (full_names unit) depth catches) (braced_words (stms_words (full_names unit) body) ++ catches_words (full_names unit) catches) (refl, (refl, (refl, tt)))
      (and_then (braced depth (stms_items (full_names unit) (deeper depth) body)) (catches_items (full_names unit) depth catches) (braced_words (stms_words (full_names unit) body)) (catches_words (full_names unit) catches)
      (in_braces depth (stms_items (full_names unit) (deeper depth) body) (stms_words (full_names unit) body) (stms_are_spelled unit helper can (deeper depth) body well.0)) (catches_apart unit depth catches)
      (catches_are_spelled unit helper can depth catches well.2))
  stm_is_spelled unit helper can depth (Synchronized monitor body) well =
      headed_piece unit (codes "synchronized") monitor depth (stms_items (full_names unit) (deeper depth) body) (stms_words (full_names unit) body) (refl, (refl, (refl, (refl, (refl, (refl, (refl, (refl, (refl, (refl, (refl, (refl, tt)))))))))))) well.0 (stms_are_spelled unit helper can (deeper depth) body well.1)
  stm_is_spelled unit helper can depth (Construct own arguments) well =
      name_then (if own then codes "this" else codes "super") (parenthesised (arguments_items (full_names unit) arguments) ++ sign (codes ";") ∷ []) (enclosed (arguments_words arguments) ++ codes ";" ∷ []) (own_run own) (λ text ends. refl)
      (ended_piece (parenthesised (arguments_items (full_names unit) arguments)) (enclosed (arguments_words arguments)) (in_parentheses (arguments_items (full_names unit) arguments) (arguments_words arguments) (arguments_are_spelled unit arguments well)))
  stm_is_spelled unit helper can depth (Do body test) well =
      let tail = parenthesised (exp_items (full_names unit) test) ++ sign (codes ";") ∷ [] in
      keyword_then (codes "do") (braced depth (stms_items (full_names unit) (deeper depth) body) ++ Space ∷ word (codes "while") ∷ Space ∷ tail) (braced_words (stms_words (full_names unit) body) ++ codes "while" ∷ (enclosed (exp_words test) ++ codes ";" ∷ [])) (refl, (refl, tt))
      (and_then (braced depth (stms_items (full_names unit) (deeper depth) body)) (Space ∷ word (codes "while") ∷ Space ∷ tail) (braced_words (stms_words (full_names unit) body)) (codes "while" ∷ (enclosed (exp_words test) ++ codes ";" ∷ []))
      (in_braces depth (stms_items (full_names unit) (deeper depth) body) (stms_words (full_names unit) body) (stms_are_spelled unit helper can (deeper depth) body well.0)) (λ text ends. refl)
      (keyword_then (codes "while") tail (enclosed (exp_words test) ++ codes ";" ∷ []) (refl, (refl, (refl, (refl, (refl, tt)))))
      (ended_piece (parenthesised (exp_items (full_names unit) test)) (enclosed (exp_words test)) (in_parentheses (exp_items (full_names unit) test) (exp_words test) (exp_is_spelled unit test well.1)))))
  stm_is_spelled unit helper can depth (For test variable e body) well =
      let braces = braced depth (stms_items (full_names unit) (deeper depth) body) in
      let braces_words = braced_words (stms_words (full_names unit) body) in
      let closing = sign (codes ")") ∷ Space ∷ braces in
      let closing_words = codes ")" ∷ braces_words in
      let assigned = word (variable_name variable) ∷ Space ∷ sign (codes "=") ∷ Space ∷ (exp_items (full_names unit) e ++ closing) in
      let assigned_words = variable_name variable ∷ codes "=" ∷ (exp_words e ++ closing_words) in
      keyword_then (codes "for") (sign (codes "(") ∷ sign (codes ";") ∷ Space ∷ (exp_items (full_names unit) test ++ sign (codes ";") ∷ Space ∷ assigned)) (codes "(" ∷ codes ";" ∷ (exp_words test ++ codes ";" ∷ assigned_words)) (refl, (refl, (refl, tt)))
      (λ text ends. ap (λ found. codes "(" ∷ codes ";" ∷ found)
      (and_then (exp_items (full_names unit) test) (sign (codes ";") ∷ Space ∷ assigned) (exp_words test) (codes ";" ∷ assigned_words) (exp_is_spelled unit test well.0) (λ text ends. refl)
      (λ text ends. ap (λ found. codes ";" ∷ found)
      (name_then (variable_name variable) (Space ∷ sign (codes "=") ∷ Space ∷ (exp_items (full_names unit) e ++ closing)) (codes "=" ∷ (exp_words e ++ closing_words)) (variable_run variable) (λ text ends. refl)
      (operator_then (codes "=") (Space ∷ (exp_items (full_names unit) e ++ closing)) (exp_words e ++ closing_words) (refl, tt) (λ text ends. refl)
      (and_then (exp_items (full_names unit) e) closing (exp_words e) closing_words (exp_is_spelled unit e well.2) (λ text ends. refl)
      (λ text ends. ap (λ found. codes ")" ∷ found)
      (in_braces depth (stms_items (full_names unit) (deeper depth) body) (stms_words (full_names unit) body) (stms_are_spelled unit helper can (deeper depth) body well.3) text ends)))) text ends)) text ends))
  stm_is_spelled unit helper can depth (Finally body last) well =
      let tail = word (codes "finally") ∷ Space ∷ braced depth (stms_items (full_names unit) (deeper depth) last) in
      keyword_then (codes "try") (braced depth (stms_items (full_names unit) (deeper depth) body) ++ Space ∷ tail) (braced_words (stms_words (full_names unit) body) ++ codes "finally" ∷ braced_words (stms_words (full_names unit) last)) (refl, (refl, (refl, tt)))
      (and_then (braced depth (stms_items (full_names unit) (deeper depth) body)) (Space ∷ tail) (braced_words (stms_words (full_names unit) body)) (codes "finally" ∷ braced_words (stms_words (full_names unit) last))
      (in_braces depth (stms_items (full_names unit) (deeper depth) body) (stms_words (full_names unit) body) (stms_are_spelled unit helper can (deeper depth) body well.0)) (λ text ends. refl)
      (keyword_then (codes "finally") (braced depth (stms_items (full_names unit) (deeper depth) last)) (braced_words (stms_words (full_names unit) last)) (refl, (refl, (refl, (refl, (refl, (refl, (refl, tt)))))))
      (in_braces depth (stms_items (full_names unit) (deeper depth) last) (stms_words (full_names unit) last) (stms_are_spelled unit helper can (deeper depth) last well.1))))

  -- statements, each on a line of its own, are spelled as their words
  pub stms_are_spelled : (unit : CompilationUnit) (helper : Bool) → AreSpelled unit helper → (depth : ℕ) (list : Stms) → AreWellFormedStms helper list → Piece (stms_items (full_names unit) depth list) (stms_words (full_names unit) list)
  stms_are_spelled unit helper can depth Empty well = λ text ends. refl
  stms_are_spelled unit helper can depth (And first rest) well =
      on_line depth (stm_items (full_names unit) depth first ++ stms_items (full_names unit) depth rest) (stm_words (full_names unit) first ++ stms_words (full_names unit) rest)
      (and_then (stm_items (full_names unit) depth first) (stms_items (full_names unit) depth rest) (stm_words (full_names unit) first) (stms_words (full_names unit) rest)
      (stm_is_spelled unit helper can depth first well.0) (stms_apart unit depth rest) (stms_are_spelled unit helper can depth rest well.1))

  groups_are_spelled : (unit : CompilationUnit) (helper : Bool) → AreSpelled unit helper → (depth : ℕ) (groups : Groups) → AreWellFormedGroups helper groups → Piece (groups_items (full_names unit) depth groups) (groups_words (full_names unit) groups)
  groups_are_spelled unit helper can depth NoGroups well = λ text ends. refl
  groups_are_spelled unit helper can depth (AndGroup labels body rest) well =
      let inside = stms_items (full_names unit) (deeper depth) body in
      let more = groups_items (full_names unit) depth rest in
      and_then (flat_map (case_items depth) labels) (inside ++ more) (flat_map case_words labels) (stms_words (full_names unit) body ++ groups_words (full_names unit) rest)
      (cases_piece depth labels) (stms_groups_apart unit depth (deeper depth) body rest (groups_apart unit depth rest))
      (and_then inside more (stms_words (full_names unit) body) (groups_words (full_names unit) rest) (stms_are_spelled unit helper can (deeper depth) body well.3) (groups_apart unit depth rest) (groups_are_spelled unit helper can depth rest well.4))

  catches_are_spelled : (unit : CompilationUnit) (helper : Bool) → AreSpelled unit helper → (depth : ℕ) (catches : Catches) → AreWellFormedCatches helper catches → Piece (catches_items (full_names unit) depth catches) (catches_words (full_names unit) catches)
  catches_are_spelled unit helper can depth NoCatches well = λ text ends. refl
  catches_are_spelled unit helper can depth (AndCatch class variable body rest) well =
      let inside = braced depth (stms_items (full_names unit) (deeper depth) body) in
      let more = catches_items (full_names unit) depth rest in
      let head = dotted class ++ Space ∷ word (variable_name variable) ∷ [] in
      let head_words = name_words class ++ variable_name variable ∷ [] in
      let inside_words = braced_words (stms_words (full_names unit) body) in
      let more_words = catches_words (full_names unit) rest in
      keyword_then (codes "catch") (parenthesised head ++ Space ∷ (inside ++ more)) (enclosed head_words ++ (inside_words ++ more_words)) (refl, (refl, (refl, (refl, (refl, tt)))))
      (and_then (parenthesised head) (Space ∷ (inside ++ more)) (enclosed head_words) (inside_words ++ more_words)
      (in_parentheses head head_words (and_then (dotted class) (Space ∷ word (variable_name variable) ∷ []) (name_words class) (variable_name variable ∷ []) (name_is_spelled class well.0) (λ text ends. refl) (name_alone (variable_name variable) (variable_run variable))))
      (λ text ends. refl)
      (and_then inside more inside_words more_words (in_braces depth (stms_items (full_names unit) (deeper depth) body) (stms_words (full_names unit) body) (stms_are_spelled unit helper can (deeper depth) body well.2)) (catches_apart unit depth rest) (catches_are_spelled unit helper can depth rest well.3)))
