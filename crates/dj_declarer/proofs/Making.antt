-- What the program makes is the statements of the body.
use Rattle.std.proofs.Common.{ℕ, Bool, true, false, List, [], ◌∷◌, ◌++◌, map, Option, Some, None, ◌≡◌, refl, sym, ap, ◌∙◌, subst, ◌&&◌}
use Rattle.std.specs.Prelude.{if◌then◌else◌, is_some}
use Rattle.std.proofs.lemmas.Bool.{false≢true}
use Rattle.dj_names.specs.Types.{JType}
use Rattle.dj_syntax.specs.declared.statement.Stm.{Stm as code_stm}
use Rattle.dj_syntax.specs.Trees.{Exps, Body, Truth, Stm, Block, Labelled, If, Construct, Stms, Empty, And, stms_of, view_stm, view_stms}
use Rattle.dj_places.specs.Constants.{Surroundings}
use Rattle.dj_reach.specs.Reach.{completes, list_completes}
use Rattle.dj_declare.specs.Lawful.{lawful, all_lawful}
use Rattle.dj_declare.specs.Heads.{Head, headed}
use Rattle.dj_declare.specs.Declared.{is_plain_return, but_last, without_last, left_out}
use Rattle.dj_declare.specs.Breaking.{all_breaking}
use Rattle.dj_declare.specs.Initialisers.{wrapped, under_label}
use Rattle.dj_declaring.specs.Passes.{Made, blocked, under, made_of}
use Rattle.dj_declaring.proofs.Leaving.{pass_breaks, lists_lawful}
use Rattle.dj_declarer.specs.Declarations.{declaration_of, declarations_of}
use Rattle.dj_declaring.specs.Returning.{opening_call, behind_call, list_has_return, not_returning}
use Rattle.dj_declaring.specs.Declaring.{statements_with}
use Rattle.dj_declarer.specs.Making.{wrapped_by, ended_by, first_of, in_front, constructor_list}
use Rattle.dj_declaring.proofs.DeclaredBodies.{with_call}

-- ---- the last return

and_if : (b : Bool) (first : Stm) (one other : Stms) → And first (if b then one else other) ≡ (if b then And first one else And first other)
and_if true first one other = refl
and_if false first one other = refl

pure_last : (front : List Stm) (last : Stm) → without_last (stms_of (front ++ last ∷ [])) ≡ (if is_plain_return last then stms_of front else stms_of (front ++ last ∷ []))
pure_last [] last = refl
pure_last (first ∷ []) last = and_if (is_plain_return last) first Empty (And last Empty)
pure_last (first ∷ second ∷ rest) last =
    ap (And first) (pure_last (second ∷ rest) last) ∙ and_if (is_plain_return last) first (stms_of (second ∷ rest)) (stms_of (second ∷ rest ++ last ∷ []))

view_more : (front more : List code_stm) → map view_stm (front ++ more) ≡ map view_stm front ++ map view_stm more
view_more [] more = refl
view_more (first ∷ rest) more = ap (λ list. view_stm first ∷ list) (view_more rest more)

-- statements without the last one
pub last_out : (front : List code_stm) (last : code_stm) → without_last (view_stms (front ++ last ∷ [])) ≡ (if is_plain_return (view_stm last) then view_stms front else view_stms (front ++ last ∷ []))
last_out front last =
    ap (λ list. without_last (stms_of list)) (view_more front (last ∷ [])) ∙ pure_last (map view_stm front) (view_stm last)
    ∙ ap (λ list. if is_plain_return (view_stm last) then view_stms front else stms_of list) (sym (view_more front (last ∷ [])))

-- ---- lawful statements

abbrev labelled_so : Surroundings → ℕ → Stms → Stm
labelled_so known own list = lawful known (Labelled own (Block (all_breaking own list)))

-- under a label
pub labelled_made : (known : Surroundings) (own : ℕ) (list : Stms) (made : Made) → made ≡ under own (blocked (made_of known (Some own) list))
    → wrapped_by made.falls (And made.statement Empty) ≡ wrapped known (all_lawful known (under_label own list))
labelled_made known own list made is = subst (λ made. wrapped_by made.falls (And made.statement Empty) ≡ wrapped known (all_lawful known (under_label own list))) (sym is) here
  where
    nothing_more : (goes : Bool) → (if goes then all_lawful known Empty else Empty) ≡ Empty
    nothing_more true = refl
    nothing_more false = refl

    alone : all_lawful known (under_label own list) ≡ And (labelled_so known own list) Empty
    alone = ap (And (labelled_so known own list)) (nothing_more (completes known None (labelled_so known own list)))

    and_nothing : (goes : Bool) → goes ≡ (goes && true)
    and_nothing true = refl
    and_nothing false = refl

    here : wrapped_by (under own (blocked (made_of known (Some own) list))).falls (And (under own (blocked (made_of known (Some own) list))).statement Empty) ≡ wrapped known (all_lawful known (under_label own list))
    here =
        let makes = pass_breaks known own None (Labelled own (Block list)) in
        (λ i. wrapped_by (makes.falls i) (And (makes.statement i) Empty))
        ∙ ap (λ goes. wrapped_by goes (And (labelled_so known own list) Empty)) (and_nothing (completes known None (labelled_so known own list)))
        ∙ ap (wrapped known) (sym alone)

-- static initialisers
pub returning_made : (own : ℕ) (tree list : Stms) → list ≡ without_last tree → list_has_return list ≡ true → under_label own list ≡ not_returning own tree
returning_made own tree list is returns =
    ap (under_label own) is ∙ sym (ap (λ (b : Bool). if b then under_label own (without_last tree) else without_last tree) (sym (ap list_has_return is) ∙ returns))

-- by themselves
pub completing_made : (known : Surroundings) (list made : Stms) (falls : Bool) → made ≡ stms_of (made_of known None list).list → falls ≡ (made_of known None list).falls → wrapped_by falls made ≡ wrapped known (all_lawful known list)
completing_made known list made falls is goes =
    let makes = (lists_lawful known list).0 in
    λ i. wrapped_by ((goes ∙ makes.falls) i) ((is ∙ makes.list) i)

-- a list as it is
pub lawful_made : (known : Surroundings) (list : Stms) → stms_of (made_of known None list).list ≡ all_lawful known list
lawful_made known list = (lists_lawful known list).0.list

pub ended_made : (result : Option JType) (list : Stms) → ended_by (is_some result) list ≡ left_out result list
ended_made None list = refl
ended_made (Some type) list = refl

-- ---- heads

in_turn : (front : List Stm) (heads : List Head) (list : List Stm) → stms_of ((front ++ declarations_of heads) ++ list) ≡ in_front front (headed heads (stms_of list))
in_turn [] [] list = refl
in_turn [] (head ∷ heads) list = ap (And (declaration_of head)) (in_turn [] heads list)
in_turn (first ∷ front) heads list = ap (And first) (in_turn front heads list)

pub with_heads : (made front : List Stm) (heads : List Head) (list : List Stm) → made ≡ (front ++ declarations_of heads) ++ list → stms_of made ≡ in_front front (headed heads (stms_of list))
with_heads made front heads list is = ap stms_of is ∙ in_turn front heads list

-- ---- constructors

pub constructor_made : (known : Surroundings) (method : Body) (heads : List Head) (own : ℕ) (tree : Stms) → is_some (opening_call tree) ≡ true
    → constructor_list known heads tree ≡ statements_with known method heads own tree (opening_call tree)
constructor_made known method heads own tree some = go (opening_call tree) refl some
  where
    go : (call : Option (Bool × Exps)) → opening_call tree ≡ call → is_some call ≡ true → constructor_list known heads tree ≡ statements_with known method heads own tree call
    go None e some = absurd (false≢true some)
    go (Some call) e some =
        ap (λ (one : Stms). in_front (first_of one) (headed heads (without_last (all_lawful known (behind_call tree))))) (with_call tree call.0 call.1 e)

pub other_made : (known : Surroundings) (method : Body) (heads : List Head) (own : ℕ) (tree : Stms) → is_some (opening_call tree) ≡ false
    → statements_with known method heads own tree None ≡ statements_with known method heads own tree (opening_call tree)
other_made known method heads own tree none = go (opening_call tree) none
  where
    go : (call : Option (Bool × Exps)) → is_some call ≡ false → statements_with known method heads own tree None ≡ statements_with known method heads own tree call
    go None none = refl
    go (Some call) none = absurd (false≢true (sym none))
