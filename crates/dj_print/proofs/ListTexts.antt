-- The texts of lists, item by item.
use Rattle.std.proofs.Common.{◌≡◌, ℕ, zero, suc, ◌+◌, ◌<◌, ◌≤◌, ◌==◌, List, [], ◌∷◌, ◌++◌, map, length, take, get_or, refl, sym, ap, ◌∙◌, arith, append_assoc, append-nil, length-take, ne_eqb}
use Rattle.std.specs.Prelude.{codes}
use Rattle.std.specs.List.{flat_map}
use Rattle.std.specs.Fmt.{decimal}
use Rattle.std.proofs.lemmas.List.{take_all, take_more}
use Rattle.std.proofs.lemmas.Grind.{flat_map-append}
use Rattle.dj_names.specs.Types.{JType, view_type, view_types}
use Rattle.dj_names.specs.declared.types.JType.{JType as code_type}
use Rattle.dj_syntax.specs.declared.expression.Exp.{Exp as code_exp}
use Rattle.dj_syntax.specs.declared.statement.Stm.{Stm as code_stm}
use Rattle.dj_syntax.specs.declared.statement.Group.{Group as code_group}
use Rattle.dj_syntax.specs.declared.statement.Catch.{Catch as code_catch}
use Rattle.dj_syntax.specs.Items.{Item, Line, Space, item_text, render}
use Rattle.dj_syntax.specs.Trees.{view_exp, view_exps, view_stm, view_stms, view_group, view_groups, view_catch, view_catches}
use Rattle.dj_syntax.specs.UnitText.{Spellings, sign, word, deeper, parenthesised, variable_name, type_items, more_parameters, exp_items, arguments_items, more_arguments, sizes_items, pairs_items, braced, case_items, is_empty, stm_items, stms_items, groups_items, catches_items}
use Rattle.dj_print.specs.Spelled.{comma_text}
use Rattle.dj_print.proofs.Composing.{Then, same, two}

-- ---- lists in general

-- one more element of a list
pub step : {S A : Type 0} (P : S → S → List ℕ → Type 0) → Then P → (F : List A → List ℕ) (g : A → List ℕ) → ((xs : List A) (x : A) → F (xs ++ x ∷ []) ≡ F xs ++ g x)
    → (xs : List A) (i : ℕ) (x : A) {a b c : S} → i < length xs → x ≡ get_or xs i x → P a b (F (take i xs)) → P b c (g x) → P a c (F (take (i + 1) xs))
step P join F g law xs i x within is done next =
    two P join done next (ap F (take_more xs i x within ∙ ap (λ y. take i xs ++ y ∷ []) (sym is)) ∙ law (take i xs) x)

-- one more element of a list whose elements have their texts one after another
pub flat_step : {A : Type 0} (f : A → List ℕ) (xs : List A) (x : A) → flat_map f (xs ++ x ∷ []) ≡ flat_map f xs ++ f x
flat_step f xs x = flat_map-append f xs (x ∷ []) ∙ ap (λ last. flat_map f xs ++ last) (append-nil (f x))

-- one more item of a list
pub one_more : {S A : Type 0} (P : S → S → List ℕ → Type 0) → Then P → (items : A → List Item) (xs : List A) (i : ℕ) (x : A) {a b c : S} → i < length xs → x ≡ get_or xs i x
    → P a b (render (flat_map items (take i xs))) → P b c (render (items x)) → P a c (render (flat_map items (take (i + 1) xs)))
one_more P join items xs i x within is done next =
    let taken : take (i + 1) xs ≡ take i xs ++ x ∷ [] = take_more xs i x within ∙ ap (λ y. take i xs ++ y ∷ []) (sym is) in
    two P join done next
    (ap (λ list. render (flat_map items list)) taken ∙ ap render (flat_map-append items (take i xs) (x ∷ [])) ∙ flat_map-append item_text (flat_map items (take i xs)) (items x ++ [])
    ∙ ap (λ list. render (flat_map items (take i xs)) ++ render list) (append-nil (items x)))

-- a list to its end
pub all_done : {S A : Type 0} (P : S → S → List ℕ → Type 0) (F : List A → List ℕ) (xs : List A) (i : ℕ) {a b : S} → length xs ≤ i → P a b (F (take i xs)) → P a b (F xs)
all_done P F xs i whole done = same P done (ap F (sym (take_all i xs whole)))

-- items of what each element is seen as
pub seen_flat : {A B : Type 0} (items : B → List Item) (view : A → B) (xs : List A) → flat_map items (map view xs) ≡ flat_map (λ x. items (view x)) xs
seen_flat items view [] = refl
seen_flat items view (x ∷ xs) = ap (λ rest. items (view x) ++ rest) (seen_flat items view xs)

-- ---- names and parameters

-- a class with the comma before it
abbrev pub later_class : Spellings → List ℕ → List Item
later_class names class = sign (codes ",") ∷ Space ∷ names.class_name class

-- a parameter with the comma before it
abbrev pub parameter_text : Spellings → JType → ℕ → List ℕ
parameter_text names kind number = codes ", " ++ (render (type_items names kind) ++ 32 ∷ 112 ∷ decimal number)

parameter_split : (names : Spellings) (kind : JType) (number : ℕ) (rest : List JType)
    → render (more_parameters names number (kind ∷ rest)) ≡ parameter_text names kind number ++ render (more_parameters names (number + 1) rest)
parameter_split names kind number rest =
    let behind = more_parameters names (number + 1) rest in
    ap (λ text. codes ", " ++ text)
    (flat_map-append item_text (type_items names kind) (Space ∷ word (112 ∷ decimal number) ∷ behind)
    ∙ sym (append_assoc (render (type_items names kind)) (32 ∷ 112 ∷ decimal number) (render behind)))

pub parameters_more : (names : Spellings) (number : ℕ) (xs : List code_type) (x : code_type)
    → render (more_parameters names number (view_types (xs ++ x ∷ []))) ≡ render (more_parameters names number (view_types xs)) ++ parameter_text names (view_type x) (number + length xs)
parameters_more names number [] x =
    let same : number ≡ number + 0 = omega arith in
    parameter_split names (view_type x) number [] ∙ append-nil (parameter_text names (view_type x) number) ∙ ap (parameter_text names (view_type x)) same
parameters_more names number (y ∷ ys) x =
    let first = parameter_text names (view_type y) number in
    let rest = render (more_parameters names (number + 1) (view_types ys)) in
    let same : number + 1 + length ys ≡ number + length (y ∷ ys) = omega arith in
    parameter_split names (view_type y) number (view_types (ys ++ x ∷ []))
    ∙ ap (λ text. first ++ text) (parameters_more names (number + 1) ys x ∙ ap (λ n. rest ++ parameter_text names (view_type x) n) same)
    ∙ sym (append_assoc first rest (parameter_text names (view_type x) (number + length (y ∷ ys))))
    ∙ ap (λ text. text ++ parameter_text names (view_type x) (number + length (y ∷ ys))) (sym (parameter_split names (view_type y) number (view_types ys)))

-- one more parameter
pub parameter_more : {S : Type 0} (P : S → S → List ℕ → Type 0) → Then P → (names : Spellings) (xs : List code_type) (i : ℕ) (x : code_type) {a b c : S} → i < length xs → x ≡ get_or xs i x
    → P a b (render (more_parameters names 1 (view_types (take i xs)))) → P b c (parameter_text names (view_type x) (i + 1))
    → P a c (render (more_parameters names 1 (view_types (take (i + 1) xs))))
parameter_more P join names xs i x within is done next =
    let taken : take (i + 1) xs ≡ take i xs ++ x ∷ [] = take_more xs i x within ∙ ap (λ y. take i xs ++ y ∷ []) (sym is) in
    let count : 1 + length (take i xs) ≡ i + 1 = omega (arith, length-take i xs) in
    two P join done next
    (ap (λ list. render (more_parameters names 1 (view_types list))) taken ∙ parameters_more names 1 (take i xs) x
    ∙ ap (λ n. render (more_parameters names 1 (view_types (take i xs))) ++ parameter_text names (view_type x) n) count)

-- ---- expressions

-- sizes of a new array
abbrev pub size_items : Spellings → code_exp → List Item
size_items names exp = sign (codes "[") ∷ (exp_items names (view_exp exp) ++ sign (codes "]") ∷ [])

pub sizes_flat : (names : Spellings) (list : List code_exp) → sizes_items names (view_exps list) ≡ flat_map (size_items names) list
sizes_flat names [] = refl
sizes_flat names (x ∷ xs) =
    ap (λ rest. sign (codes "[") ∷ (exp_items names (view_exp x) ++ sign (codes "]") ∷ rest)) (sizes_flat names xs)
    ∙ ap (λ rest. sign (codes "[") ∷ rest) (sym (append_assoc (exp_items names (view_exp x)) (sign (codes "]") ∷ []) (flat_map (size_items names) xs)))

abbrev later_items : Spellings → code_exp → List Item
later_items names exp = sign (codes ",") ∷ Space ∷ exp_items names (view_exp exp)

later_flat : (names : Spellings) (list : List code_exp) → more_arguments names (view_exps list) ≡ flat_map (later_items names) list
later_flat names [] = refl
later_flat names (x ∷ xs) = ap (λ rest. later_items names x ++ rest) (later_flat names xs)

comma_later : (n : ℕ) → 0 < n → comma_text n ≡ codes ", "
comma_later n some = let e = ne_eqb n 0 (λ is. omega (arith, some, is)) in rw e refl

arguments_more : (names : Spellings) (xs : List code_exp) (x : code_exp)
    → render (arguments_items names (view_exps (xs ++ x ∷ []))) ≡ render (arguments_items names (view_exps xs)) ++ (comma_text (length xs) ++ render (exp_items names (view_exp x)))
arguments_more names [] x = ap render (append-nil (exp_items names (view_exp x)))
arguments_more names (y ∷ ys) x =
    let first = exp_items names (view_exp y) in
    let later = flat_map (later_items names) ys in
    let last = later_items names x in
    let whole : arguments_items names (view_exps (y ∷ ys ++ x ∷ [])) ≡ (first ++ later) ++ last =
    ap (λ rest. first ++ rest) (later_flat names (ys ++ x ∷ []) ∙ flat_map-append (later_items names) ys (x ∷ []) ∙ ap (λ rest. later ++ rest) (append-nil last))
    ∙ sym (append_assoc first later last) in
    ap render whole ∙ flat_map-append item_text (first ++ later) last ∙ ap (λ rest. render (first ++ rest) ++ render last) (sym (later_flat names ys))
    ∙ ap (λ comma. render (arguments_items names (view_exps (y ∷ ys))) ++ (comma ++ render (exp_items names (view_exp x)))) (sym (comma_later (length (y ∷ ys)) (omega arith)))

-- one more argument
pub argument_more : {S : Type 0} (P : S → S → List ℕ → Type 0) → Then P → (names : Spellings) (xs : List code_exp) (i : ℕ) (x : code_exp) {a b c d : S} → i < length xs → x ≡ get_or xs i x
    → P a b (render (arguments_items names (view_exps (take i xs)))) → P b c (comma_text i) → P c d (render (exp_items names (view_exp x)))
    → P a d (render (arguments_items names (view_exps (take (i + 1) xs))))
argument_more P join names xs i x within is done comma next =
    let taken : take (i + 1) xs ≡ take i xs ++ x ∷ [] = take_more xs i x within ∙ ap (λ y. take i xs ++ y ∷ []) (sym is) in
    let count : length (take i xs) ≡ i = omega (arith, length-take i xs) in
    two P join done (join _ _ _ _ _ comma next)
    (ap (λ list. render (arguments_items names (view_exps list))) taken ∙ arguments_more names (take i xs) x
    ∙ ap (λ n. render (arguments_items names (view_exps (take i xs))) ++ (comma_text n ++ render (exp_items names (view_exp x)))) count)

-- one more pair of brackets
pub pairs_more : (n : ℕ) → render (pairs_items (n + 1)) ≡ render (pairs_items n) ++ codes "[]"
pairs_more n = let more : n + 1 ≡ suc n = omega arith in ap (λ m. render (pairs_items m)) more ∙ go n
  where
    go : (n : ℕ) → render (pairs_items (suc n)) ≡ render (pairs_items n) ++ codes "[]"
    go zero = refl
    go (suc n) = ap (λ text. codes "[]" ++ text) (go n)

-- ---- statements

-- a statement on its line
abbrev pub line_items : Spellings → ℕ → code_stm → List Item
line_items names depth one = Line depth ∷ stm_items names depth (view_stm one)

pub stms_flat : (names : Spellings) (depth : ℕ) (list : List code_stm) → stms_items names depth (view_stms list) ≡ flat_map (line_items names depth) list
stms_flat names depth [] = refl
stms_flat names depth (x ∷ xs) = ap (λ rest. line_items names depth x ++ rest) (stms_flat names depth xs)

-- a group with its labels
abbrev pub group_items : Spellings → ℕ → code_group → List Item
group_items names depth group = flat_map (case_items depth) (view_group group).0 ++ stms_items names (deeper depth) (view_group group).1

pub groups_flat : (names : Spellings) (depth : ℕ) (list : List code_group) → groups_items names depth (view_groups list) ≡ flat_map (group_items names depth) list
groups_flat names depth [] = refl
groups_flat names depth (x ∷ xs) =
    let labels = flat_map (case_items depth) (view_group x).0 in
    let body = stms_items names (deeper depth) (view_group x).1 in
    ap (λ rest. labels ++ (body ++ rest)) (groups_flat names depth xs) ∙ sym (append_assoc labels body (flat_map (group_items names depth) xs))

-- a catch clause
abbrev pub catch_items : Spellings → ℕ → code_catch → List Item
catch_items names depth catch =
    Space ∷ word (codes "catch") ∷ Space ∷ (parenthesised (names.class_name (view_catch catch).0 ++ Space ∷ word (variable_name (view_catch catch).1) ∷ [])
    ++ Space ∷ braced depth (stms_items names (deeper depth) (view_catch catch).2))

pub catches_flat : (names : Spellings) (depth : ℕ) (list : List code_catch) → catches_items names depth (view_catches list) ≡ flat_map (catch_items names depth) list
catches_flat names depth [] = refl
catches_flat names depth (x ∷ xs) =
    let head = parenthesised (names.class_name (view_catch x).0 ++ Space ∷ word (variable_name (view_catch x).1) ∷ []) in
    let body = braced depth (stms_items names (deeper depth) (view_catch x).2) in
    ap (λ rest. Space ∷ word (codes "catch") ∷ Space ∷ (head ++ Space ∷ (body ++ rest))) (catches_flat names depth xs)
    ∙ ap (λ rest. Space ∷ word (codes "catch") ∷ Space ∷ rest) (sym (append_assoc head (Space ∷ body) (flat_map (catch_items names depth) xs)))

-- a list is empty where it has no statement
pub no_stm : (list : List code_stm) → (length list == 0) ≡ is_empty (view_stms list)
no_stm [] = refl
no_stm (x ∷ xs) = ne_eqb (length (x ∷ xs)) 0 (λ is. omega (arith, is))
