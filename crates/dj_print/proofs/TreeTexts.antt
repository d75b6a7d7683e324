-- The texts of expressions and statements, part by part.
use Rattle.std.proofs.Common.{◌≡◌, ℕ, ℤ, List, [], ◌∷◌, ◌++◌, Option, refl, sym, ap, ◌∙◌, append_assoc, append-nil, rules}
use Rattle.std.specs.Prelude.{codes}
use Rattle.std.proofs.lemmas.Grind.{flat_map-append}
use Rattle.dj_names.specs.Types.{JType, Array, view_type}
use Rattle.dj_names.specs.declared.types.JType.{JType as code_type, the_lemmas as type_lemmas}
use Rattle.dj_names.specs.declared.types.JType.TheVariants as code
use Rattle.dj_syntax.specs.declared.operator.Op.{Op}
use Rattle.dj_syntax.specs.declared.variable.Var.{Var}
use Rattle.dj_syntax.specs.Items.{Item, Space, Line, item_text, render}
use Rattle.dj_syntax.specs.Trees.{Exp, Exps, Field, Element, Call, StaticCall, SuperCall, New, NewArray, Cast, InstanceOf, Binary, Choice, Assign, Stm, Stms, Groups, Catches, Labelled, If, While, Switch, Try, Synchronized, Do, For, Finally}
use Rattle.dj_syntax.specs.UnitText.{Spellings, sign, word, label_name, variable_name, type_items, shape, is_atom, is_receiver, parenthesised, operand, super_items, pairs_items, operator_text, exp_items, arguments_items, sizes_items, deeper, braced, headed, is_empty, else_items, stm_items, stms_items, groups_items, catches_items}

-- the text of items behind others
joined : (first second : List Item) → render (first ++ second) ≡ render first ++ render second
joined first second = flat_map-append item_text first second

-- ---- types and expressions

pub view_array : (element : code_type) → view_type (code.Array element) ≡ Array (view_type element)
view_array element = search (rules, type_lemmas)

pub array_text : (names : Spellings) (element : JType) → render (type_items names (Array element)) ≡ render (type_items names element) ++ codes "[]"
array_text names element = joined (type_items names element) (sign (codes "[") ∷ sign (codes "]") ∷ [])

pub parenthesised_text : (items : List Item) → render (parenthesised items) ≡ codes "(" ++ (render items ++ codes ")")
parenthesised_text items = ap (λ text. codes "(" ++ text) (joined items (sign (codes ")") ∷ []))

-- items in parentheses and a space, before others
spaced : (items rest : List Item) → render (parenthesised items ++ Space ∷ rest) ≡ render (parenthesised items ++ Space ∷ []) ++ render rest
spaced items rest = ap render (sym (append_assoc (parenthesised items) (Space ∷ []) rest)) ∙ joined (parenthesised items ++ Space ∷ []) rest

-- an operand, and one in front of a dot
abbrev bare : Spellings → Exp → List Item
bare names e = operand (is_atom (shape e)) (exp_items names e)

abbrev before_dot : Spellings → Exp → List Item
before_dot names e = operand (is_receiver (shape e)) (exp_items names e)

pub field_text : (names : Spellings) (object : Exp) (name : List ℕ) → render (exp_items names (Field object name)) ≡ render (before_dot names object) ++ 46 ∷ name
field_text names object name = joined (before_dot names object) (sign (codes ".") ∷ word name ∷ []) ∙ ap (λ text. render (before_dot names object) ++ 46 ∷ text) (append-nil name)

pub element_text : (names : Spellings) (array index : Exp) → render (exp_items names (Element array index)) ≡ render (bare names array) ++ (codes "[" ++ (render (exp_items names index) ++ codes "]"))
element_text names array index =
    joined (bare names array) (sign (codes "[") ∷ (exp_items names index ++ sign (codes "]") ∷ []))
    ∙ ap (λ text. render (bare names array) ++ (codes "[" ++ text)) (joined (exp_items names index) (sign (codes "]") ∷ []))

pub call_text : (names : Spellings) (object : Exp) (name : List ℕ) (list : Exps)
    → render (exp_items names (Call object name list)) ≡ render (before_dot names object) ++ ((46 ∷ name) ++ render (parenthesised (arguments_items names list)))
call_text names object name list = joined (before_dot names object) (sign (codes ".") ∷ word name ∷ parenthesised (arguments_items names list))

pub static_call_text : (names : Spellings) (class name : List ℕ) (list : Exps)
    → render (exp_items names (StaticCall class name list)) ≡ (render (names.class_name class) ++ 46 ∷ name) ++ render (parenthesised (arguments_items names list))
static_call_text names class name list =
    joined (names.class_name class) (sign (codes ".") ∷ word name ∷ parenthesised (arguments_items names list))
    ∙ sym (append_assoc (render (names.class_name class)) (46 ∷ name) (render (parenthesised (arguments_items names list))))

pub super_call_text : (names : Spellings) (above : Option (List ℕ)) (name : List ℕ) (list : Exps)
    → render (exp_items names (SuperCall above name list)) ≡ render (super_items names above) ++ ((46 ∷ name) ++ render (parenthesised (arguments_items names list)))
super_call_text names above name list = joined (super_items names above) (sign (codes ".") ∷ word name ∷ parenthesised (arguments_items names list))

pub new_text : (names : Spellings) (class : List ℕ) (list : Exps)
    → render (exp_items names (New class list)) ≡ (codes "new " ++ render (names.class_name class)) ++ render (parenthesised (arguments_items names list))
new_text names class list = ap (λ text. codes "new " ++ text) (joined (names.class_name class) (parenthesised (arguments_items names list)))

pub new_array_text : (names : Spellings) (kind : JType) (sizes : Exps) (more : ℕ)
    → render (exp_items names (NewArray kind sizes more)) ≡ (codes "new " ++ render (type_items names kind)) ++ (render (sizes_items names sizes) ++ render (pairs_items more))
new_array_text names kind sizes more =
    ap (λ text. codes "new " ++ text)
    (joined (type_items names kind) (sizes_items names sizes ++ pairs_items more)
    ∙ ap (λ text. render (type_items names kind) ++ text) (joined (sizes_items names sizes) (pairs_items more)))

pub cast_text : (names : Spellings) (kind : JType) (value : Exp)
    → render (exp_items names (Cast kind value)) ≡ render (parenthesised (type_items names kind) ++ Space ∷ []) ++ render (bare names value)
cast_text names kind value = spaced (type_items names kind) (bare names value)

pub instance_of_text : (names : Spellings) (value : Exp) (kind : JType)
    → render (exp_items names (InstanceOf value kind)) ≡ render (bare names value) ++ (codes " instanceof " ++ render (type_items names kind))
instance_of_text names value kind = joined (bare names value) (Space ∷ word (codes "instanceof") ∷ Space ∷ type_items names kind)

pub binary_text : (names : Spellings) (op : Op) (left right : Exp)
    → render (exp_items names (Binary op left right)) ≡ render (bare names left) ++ ((32 ∷ operator_text op ++ 32 ∷ []) ++ render (bare names right))
binary_text names op left right =
    joined (bare names left) (Space ∷ sign (operator_text op) ∷ Space ∷ bare names right)
    ∙ ap (λ text. render (bare names left) ++ 32 ∷ text) (sym (append_assoc (operator_text op) (32 ∷ []) (render (bare names right))))

pub choice_text : (names : Spellings) (test first second : Exp)
    → render (exp_items names (Choice test first second)) ≡ render (bare names test) ++ (codes " ? " ++ (render (bare names first) ++ (codes " : " ++ render (bare names second))))
choice_text names test first second =
    joined (bare names test) (Space ∷ sign (codes "?") ∷ Space ∷ (bare names first ++ Space ∷ sign (codes ":") ∷ Space ∷ bare names second))
    ∙ ap (λ text. render (bare names test) ++ (codes " ? " ++ text)) (joined (bare names first) (Space ∷ sign (codes ":") ∷ Space ∷ bare names second))

pub assign_text : (names : Spellings) (variable : Var) (value : Exp)
    → render (exp_items names (Assign variable value)) ≡ (variable_name variable ++ codes " = ") ++ render (exp_items names value)
assign_text names variable value = sym (append_assoc (variable_name variable) (codes " = ") (render (exp_items names value)))

-- ---- statements

-- a list one level deeper, in braces
abbrev block : Spellings → ℕ → Stms → List Item
block names depth list = braced depth (stms_items names (deeper depth) list)

pub braced_text : (depth : ℕ) (lines : List Item) → render (braced depth lines) ≡ codes "{" ++ (render lines ++ (item_text (Line depth) ++ codes "}"))
braced_text depth lines = ap (λ text. codes "{" ++ text) (joined lines (Line depth ∷ sign (codes "}") ∷ []))

-- a keyword, an expression in parentheses, and spaces behind both
abbrev head_text : Spellings → List ℕ → Exp → List ℕ
head_text names keyword value = keyword ++ 32 ∷ render (parenthesised (exp_items names value) ++ Space ∷ [])

headed_text : (names : Spellings) (keyword : List ℕ) (value : Exp) (depth : ℕ) (lines : List Item)
    → render (headed names keyword value depth lines) ≡ head_text names keyword value ++ render (braced depth lines)
headed_text names keyword value depth lines =
    ap (λ text. keyword ++ 32 ∷ text) (spaced (exp_items names value) (braced depth lines))
    ∙ sym (append_assoc keyword (32 ∷ render (parenthesised (exp_items names value) ++ Space ∷ [])) (render (braced depth lines)))

pub labelled_text : (names : Spellings) (depth : ℕ) (label : ℕ) (one : Stm)
    → render (stm_items names depth (Labelled label one)) ≡ (label_name label ++ codes ": ") ++ render (stm_items names depth one)
labelled_text names depth label one = sym (append_assoc (label_name label) (codes ": ") (render (stm_items names depth one)))

pub if_text : (names : Spellings) (depth : ℕ) (test : Exp) (first second : Stms)
    → render (stm_items names depth (If test first second))
    ≡ head_text names (codes "if") test ++ (render (block names depth first) ++ render (else_items (is_empty second) depth (stms_items names (deeper depth) second)))
if_text names depth test first second =
    let lines = stms_items names (deeper depth) first in
    let rest = else_items (is_empty second) depth (stms_items names (deeper depth) second) in
    joined (headed names (codes "if") test depth lines) rest ∙ ap (λ text. text ++ render rest) (headed_text names (codes "if") test depth lines)
    ∙ append_assoc (head_text names (codes "if") test) (render (braced depth lines)) (render rest)

pub while_text : (names : Spellings) (depth : ℕ) (test : Exp) (body : Stms)
    → render (stm_items names depth (While test body)) ≡ head_text names (codes "while") test ++ render (block names depth body)
while_text names depth test body = headed_text names (codes "while") test depth (stms_items names (deeper depth) body)

pub synchronized_text : (names : Spellings) (depth : ℕ) (monitor : Exp) (body : Stms)
    → render (stm_items names depth (Synchronized monitor body)) ≡ head_text names (codes "synchronized") monitor ++ render (block names depth body)
synchronized_text names depth monitor body = headed_text names (codes "synchronized") monitor depth (stms_items names (deeper depth) body)

pub switch_text : (names : Spellings) (depth : ℕ) (value : Exp) (groups : Groups)
    → render (stm_items names depth (Switch value groups))
    ≡ head_text names (codes "switch") value ++ (codes "{" ++ (render (groups_items names (deeper depth) groups) ++ (item_text (Line depth) ++ codes "}")))
switch_text names depth value groups =
    let lines = groups_items names (deeper depth) groups in
    headed_text names (codes "switch") value depth lines ∙ ap (λ text. head_text names (codes "switch") value ++ text) (braced_text depth lines)

pub try_text : (names : Spellings) (depth : ℕ) (body : Stms) (catches : Catches)
    → render (stm_items names depth (Try body catches)) ≡ codes "try " ++ (render (block names depth body) ++ render (catches_items names depth catches))
try_text names depth body catches = ap (λ text. codes "try " ++ text) (joined (block names depth body) (catches_items names depth catches))

pub finally_text : (names : Spellings) (depth : ℕ) (body last : Stms)
    → render (stm_items names depth (Finally body last)) ≡ codes "try " ++ (render (block names depth body) ++ (codes " finally " ++ render (block names depth last)))
finally_text names depth body last =
    ap (λ text. codes "try " ++ text) (joined (block names depth body) (Space ∷ word (codes "finally") ∷ Space ∷ block names depth last))

pub do_text : (names : Spellings) (depth : ℕ) (body : Stms) (test : Exp)
    → render (stm_items names depth (Do body test))
    ≡ codes "do " ++ (render (block names depth body) ++ (codes " while " ++ (render (parenthesised (exp_items names test)) ++ codes ";")))
do_text names depth body test =
    ap (λ text. codes "do " ++ text)
    (joined (block names depth body) (Space ∷ word (codes "while") ∷ Space ∷ (parenthesised (exp_items names test) ++ sign (codes ";") ∷ []))
    ∙ ap (λ text. render (block names depth body) ++ (codes " while " ++ text)) (joined (parenthesised (exp_items names test)) (sign (codes ";") ∷ [])))

for_lists : (test variable step body : List ℕ)
    → test ++ (codes "; " ++ (variable ++ (codes " = " ++ (step ++ (codes ") " ++ body))))) ≡ (test ++ (codes "; " ++ (variable ++ (codes " = " ++ (step ++ codes ") "))))) ++ body
for_lists test variable step body =
    ap (λ text. test ++ (codes "; " ++ text))
    (ap (λ text. variable ++ (codes " = " ++ text)) (sym (append_assoc step (codes ") ") body)) ∙ sym (append_assoc variable (codes " = " ++ (step ++ codes ") ")) body))
    ∙ sym (append_assoc test (codes "; " ++ (variable ++ (codes " = " ++ (step ++ codes ") ")))) body)

pub for_text : (names : Spellings) (depth : ℕ) (test : Exp) (variable : Var) (step : Exp) (body : Stms)
    → render (stm_items names depth (For test variable step body))
    ≡ (codes "for (; " ++ (render (exp_items names test) ++ (codes "; " ++ (variable_name variable ++ (codes " = " ++ (render (exp_items names step) ++ codes ") ")))))) ++ render (block names depth body)
for_text names depth test variable step body =
    let rest = sign (codes ")") ∷ Space ∷ block names depth body in
    ap (λ text. codes "for (; " ++ text)
    (joined (exp_items names test) (sign (codes ";") ∷ Space ∷ word (variable_name variable) ∷ Space ∷ sign (codes "=") ∷ Space ∷ (exp_items names step ++ rest))
    ∙ ap (λ text. render (exp_items names test) ++ (codes "; " ++ (variable_name variable ++ (codes " = " ++ text)))) (joined (exp_items names step) rest)
    ∙ for_lists (render (exp_items names test)) (variable_name variable) (render (exp_items names step)) (render (block names depth body)))

-- a catch clause
pub catch_text : (names : Spellings) (depth : ℕ) (class : List ℕ) (variable : Var) (body : Stms)
    → render (Space ∷ word (codes "catch") ∷ Space ∷ (parenthesised (names.class_name class ++ Space ∷ word (variable_name variable) ∷ []) ++ Space ∷ block names depth body))
    ≡ (codes " catch (" ++ (render (names.class_name class) ++ (32 ∷ variable_name variable ++ codes ") "))) ++ render (block names depth body)
catch_text names depth class variable body =
    let head = names.class_name class ++ Space ∷ word (variable_name variable) ∷ [] in
    ap (λ text. codes " catch " ++ text)
    (spaced head (block names depth body)
    ∙ ap (λ text. text ++ render (block names depth body))
    (ap (λ text. codes "(" ++ text)
    (ap render (append_assoc head (sign (codes ")") ∷ []) (Space ∷ [])) ∙ joined head (sign (codes ")") ∷ Space ∷ [])
    ∙ ap (λ text. text ++ codes ") ") (joined (names.class_name class) (Space ∷ word (variable_name variable) ∷ []))
    ∙ append_assoc (render (names.class_name class)) (32 ∷ variable_name variable ++ []) (codes ") ")
    ∙ ap (λ text. render (names.class_name class) ++ 32 ∷ (text ++ codes ") ")) (append-nil (variable_name variable)))))
