-- Lists of the program, seen as plain data.
use Rattle.std.proofs.Common.{◌≡◌, ℕ, rules, List, [], ◌∷◌, ◌++◌, map, refl, sym, ap, ◌∙◌}
use Rattle.std.proofs.lemmas.List.{append_assoc, append-nil, map-append}
use Rattle.dj_syntax.specs.declared.variable.Var.{Var}
use Rattle.dj_syntax.specs.declared.expression.Exp.{Exp as code_exp}
use Rattle.dj_syntax.specs.declared.statement.Stm.{Stm as code_stm, the_lemmas as stm_lemmas}
use Rattle.dj_syntax.specs.declared.statement.Stm.TheVariants as stm
use Rattle.dj_syntax.specs.Trees.{Stms, And, Set, view_exp, view_stm, view_stms}
use Rattle.dj_meaning.specs.Declarations.{joined}
use Rattle.dj_rebuilding.specs.Pending.{Pending, Built, single}
use Rattle.dj_pending.specs.declared.entry.Entry.{Entry}
use Rattle.dj_pending.specs.Entries.{view_entry}

-- statements one behind another
pub stms_behind : (first second : List code_stm) → view_stms (first ++ second) ≡ joined (view_stms first) (view_stms second)
stms_behind [] second = refl
stms_behind (one ∷ first) second = ap (And (view_stm one)) (stms_behind first second)

-- one more statement
pub with_statement : (emitted behind : List code_stm) (one : code_stm) (stack : List Pending) (next : ℕ) → behind ≡ emitted ++ one ∷ []
    → let built : Stms → Built = λ list. record { emitted = list; stack = stack; next = next } in built (view_stms behind) ≡ built (joined (view_stms emitted) (single (view_stm one)))
with_statement emitted behind one stack next is =
    let built : Stms → Built = λ list. record { emitted = list; stack = stack; next = next } in ap built (ap view_stms is ∙ stms_behind emitted (one ∷ []))

-- one more entry
pub with_entry : (emitted : Stms) (below stack : List Pending) (entry : Pending) (next : ℕ) → stack ≡ entry ∷ below
    → let built : List Pending → Built = λ list. record { emitted = emitted; stack = list; next = next } in built stack ≡ built (entry ∷ below)
with_entry emitted below stack entry next is = let built : List Pending → Built = λ list. record { emitted = emitted; stack = list; next = next } in ap built is

-- one entry is turned over
pub turned-over : (turned after : List Entry) (left rest : List Pending) (entry : Entry) (whole : List Pending) → left ≡ view_entry entry ∷ rest → after ≡ turned ++ entry ∷ []
    → map view_entry turned ++ left ≡ whole → map view_entry after ++ rest ≡ whole
turned-over turned after left rest entry whole is pushed so_far =
    ap (λ (list : List Entry). map view_entry list ++ rest) pushed
    ∙ ap (λ (list : List Pending). list ++ rest) (map-append view_entry turned (entry ∷ []))
    ∙ append_assoc (map view_entry turned) (view_entry entry ∷ []) rest
    ∙ ap (λ (list : List Pending). map view_entry turned ++ list) (sym is) ∙ so_far

-- where none is left, all are
pub all-turned : (turned : List Entry) (left whole : List Pending) → left ≡ [] → map view_entry turned ++ left ≡ whole → map view_entry turned ≡ whole
all-turned turned left whole none so_far = sym (append-nil (map view_entry turned)) ∙ ap (λ (list : List Pending). map view_entry turned ++ list) (sym none) ∙ so_far

-- an assignment
pub view_set : (variable : Var) (exp : code_exp) → view_stm (stm.Set variable exp) ≡ Set variable (view_exp exp)
view_set variable exp = search (rules, stm_lemmas)
