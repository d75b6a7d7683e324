-- Numbers in the order of the text keep types and shows.
use Rattle.std.proofs.Common.{ℕ, suc, Bool, true, false, not, List, [], ◌∷◌, ◌≡◌, refl, sym, ap, ◌∙◌, subst, ◌||◌, ◌==◌}
use Rattle.std.specs.Prelude.{if◌then◌else◌}
use Rattle.std.proofs.Math.Dec.{eqb-suc-suc, eqb-suc-zero, eqb-zero-suc}
use Rattle.std.proofs.lemmas.Bool.{eq-eqb, eqb-true, false≢true}
use Rattle.dj_names.specs.declared.header.Header.{Header}
use Rattle.dj_names.specs.declared.members.ClassMembers.{ClassMembers}
use Rattle.dj_names.specs.MethodNames.{is_constructor}
use Rattle.dj_names.specs.Types.{parameters_of}
use Rattle.dj_syntax.specs.declared.variable.VarKind.{VarKind}
use Rattle.dj_syntax.specs.declared.variable.VarKind.TheVariants as kind
use Rattle.dj_syntax.specs.declared.variable.Var.{Var}
use Rattle.dj_syntax.specs.Trees.{Stm, Block, Labelled, Declare, Set, SetField, SetStatic, SetElement, Run, If, While, Switch, Break, Continue, Return, Throw, Rethrow, Try, Synchronized, Construct, Do, For, Finally, Stms, Empty, And, Body}
use Rattle.dj_syntax.specs.Weight.{weight_of}
use Rattle.dj_values.specs.Fits.{is_static, behind_this}
use Rattle.dj_meaning.specs.StaticTypes.{is_same_variable}
use Rattle.dj_meaning.specs.Statements.{First}
use Rattle.dj_meaning.specs.Meaning.{of_parameter, entered, context_of}
use Rattle.dj_meaning.specs.Declarations.{declared, within}
use Rattle.dj_places.specs.Rules.{Rule, ◌and◌, Holds}
use Rattle.dj_places.specs.declared.kind.TypeKind.TheVariants as kinds
use Rattle.dj_places.specs.Surroundings.{around_body}
use Rattle.dj_variables.specs.Sets.{everything}
use Rattle.dj_reach.specs.Bodies.{ends_well, site_of, body_reach}
use Rattle.dj_assigned.specs.Bodies.{body_reads}
use Rattle.dj_thrown.specs.Settings.{setting_in}
use Rattle.dj_thrown.specs.Catching.{escaping}
use Rattle.dj_thrown.specs.Bodies.{scope_in, body_thrown}
use Rattle.dj_typing.specs.Sites.{may_name}
use Rattle.dj_typed.specs.Statements.{Around, all_types}
use Rattle.dj_typed.specs.Bodies.{Writing, site_in, around_in, is_construct, begins_with_construct, body_types, body_rules}
use Rattle.dj_renaming.specs.Renaming.{Names, AreApart, renamed, all_renamed, AreScopesAlike}
use Rattle.dj_renaming.proofs.Types.{weighs_stm, within_alike, stm_alike, list_alike}
use Rattle.dj_renaming.proofs.Reach.{list_completes_alike, renamed_reach}
use Rattle.dj_numbered.specs.Throws.{AreHeldAlike}
use Rattle.dj_numbered.specs.Numbering.{Used, nothing_used, stms_used, place_of, variable_named, names_for, numbered, NumbersAreApart, NumberedIsTyped, NumberedShows}
use Rattle.dj_numbered.proofs.Assigning.{renamed_reads}
use Rattle.dj_numbered.proofs.Throwing.{renamed_throws, renamed_catching}
use Rattle.dj_numbered.proofs.Showing.{renamed_shows}

-- ---- no two numbers get one

-- two tests that are one where both numbers are the first
both_first : (first a b : ℕ) → (a == first) ≡ true → (b == first) ≡ true → true ≡ (a == b)
both_first first a b e f = sym (eq-eqb a b (eqb-true a first e ∙ sym (eqb-true b first f)))

one_first : (first a b : ℕ) → (a == first) ≡ true → (b == first) ≡ false → false ≡ (a == b)
one_first first a b e f = go (a == b) refl
  where
    go : (same : Bool) → (a == b) ≡ same → false ≡ same
    go false g = refl
    go true g = absurd (false≢true (sym f ∙ ap (λ one. one == first) (sym (eqb-true a b g)) ∙ e))

other_first : (first a b : ℕ) → (a == first) ≡ false → (b == first) ≡ true → false ≡ (a == b)
other_first first a b e f = go (a == b) refl
  where
    go : (same : Bool) → (a == b) ≡ same → false ≡ same
    go false g = refl
    go true g = absurd (false≢true (sym e ∙ ap (λ one. one == first) (eqb-true a b g) ∙ f))

pub places_apart : (list : List ℕ) (a b : ℕ) → (place_of list a == place_of list b) ≡ (a == b)
places_apart [] a b = refl
places_apart (first ∷ rest) a b = go (a == first) refl (b == first) refl (places_apart rest a b)
  where
    go : (x : Bool) → (a == first) ≡ x → (y : Bool) → (b == first) ≡ y → (place_of rest a == place_of rest b) ≡ (a == b)
        → ((if x then 0 else suc (place_of rest a)) == (if y then 0 else suc (place_of rest b))) ≡ (a == b)
    go true e true f on = both_first first a b e f
    go true e false f on = eqb-zero-suc (place_of rest b) ∙ one_first first a b e f
    go false e true f on = eqb-suc-zero (place_of rest a) ∙ other_first first a b e f
    go false e false f on = eqb-suc-suc (place_of rest a) (place_of rest b) ∙ on

abbrev a_variable : VarKind → ℕ → Var
a_variable of_kind number = record { kind = of_kind; number = number }

variables_apart : (used : Used) (first second : Var) → is_same_variable (variable_named used first) (variable_named used second) ≡ is_same_variable first second
variables_apart used first second = go first.kind first.number second.kind second.number
  where
    go : (one : VarKind) (a : ℕ) (other : VarKind) (b : ℕ) → is_same_variable (variable_named used (a_variable one a)) (variable_named used (a_variable other b)) ≡ is_same_variable (a_variable one a) (a_variable other b)
    go kind.Param a kind.Param b = refl
    go kind.Param a kind.Local b = refl
    go kind.Param a kind.Caught b = refl
    go kind.Param a kind.State b = refl
    go kind.Local a kind.Param b = refl
    go kind.Local a kind.Local b = places_apart used.locals a b
    go kind.Local a kind.Caught b = refl
    go kind.Local a kind.State b = refl
    go kind.Caught a kind.Param b = refl
    go kind.Caught a kind.Local b = refl
    go kind.Caught a kind.Caught b = places_apart used.caught a b
    go kind.Caught a kind.State b = refl
    go kind.State a kind.Param b = refl
    go kind.State a kind.Local b = refl
    go kind.State a kind.Caught b = refl
    go kind.State a kind.State b = places_apart used.states a b

pub numbers_are_apart : NumbersAreApart
numbers_are_apart used = record { variables = variables_apart used; labels = places_apart used.labels }

-- ---- parameters stay

kept : {A : Type 0} (used : Used) (items : List A) (variable : Var) → of_parameter items variable ≡ of_parameter items (variable_named used variable)
kept {A = A} used items variable = go variable.kind variable.number
  where
    go : (one : VarKind) (number : ℕ) → of_parameter items (a_variable one number) ≡ of_parameter items (variable_named used (a_variable one number))
    go kind.Param number = refl
    go kind.Local number = refl
    go kind.Caught number = refl
    go kind.State number = refl

-- ---- rules

construct_alike : (names : Names) (statement : Stm) → is_construct statement ≡ is_construct (renamed names statement)
construct_alike names (Block list) = refl
construct_alike names (Labelled label statement) = refl
construct_alike names (Declare variable type initial) = refl
construct_alike names (Set variable new) = refl
construct_alike names (SetField object name new) = refl
construct_alike names (SetStatic class name new) = refl
construct_alike names (SetElement array index new) = refl
construct_alike names (Run call) = refl
construct_alike names (If test first second) = refl
construct_alike names (While test body) = refl
construct_alike names (Switch on arms) = refl
construct_alike names (Break label) = refl
construct_alike names (Continue label) = refl
construct_alike names (Return result) = refl
construct_alike names (Throw exception) = refl
construct_alike names (Rethrow variable) = refl
construct_alike names (Try body clauses) = refl
construct_alike names (Synchronized monitor body) = refl
construct_alike names (Construct own arguments) = refl
construct_alike names (Do body test) = refl
construct_alike names (For test variable step body) = refl
construct_alike names (Finally body last) = refl

begins_alike : (names : Names) (list : Stms) → begins_with_construct list ≡ begins_with_construct (all_renamed names list)
begins_alike names Empty = refl
begins_alike names (And first rest) = construct_alike names first

module _ (headers : List Header) (members : List ClassMembers) (writing : Writing) (body : Body) where
  abbrev used : Used
  used = stms_used body.statements nothing_used

  abbrev names : Names
  names = names_for used

  apart : AreApart names
  apart = numbers_are_apart used

  scopes : AreScopesAlike names (scope_in body) (scope_in body)
  scopes variable = kept used _ variable

  all_alike : (list : Stms) → all_types (around_in writing headers members body) (scope_in body) list ≡ all_types (around_in writing headers members body) (scope_in body) (all_renamed names list)
  all_alike Empty = refl
  all_alike (And first rest) =
      let around : Around = around_in writing headers members body in
      λ i. stm_alike names apart around First [] (λ jump. refl) (scope_in body) (scope_in body) scopes 0 0 refl first i
      and list_alike names apart around [] (λ jump. refl) (within (declared first) (scope_in body)) (within (declared (renamed names first)) (scope_in body)) (within_alike names apart first (scope_in body) (scope_in body) scopes)
      (weight_of first) (weight_of (renamed names first)) (weighs_stm names first) rest i

  types_kept : body_types writing headers members body ≡ body_types writing headers members (numbered body)
  types_kept =
      λ i. Rule 0 kinds.Name (may_name (site_in writing headers members body) body.class)
      and Rule 0 kinds.Call (not (is_constructor body.name) || begins_alike names body.statements i) and all_alike body.statements i

  reach_kept : body_reach headers members body ≡ body_reach headers members (numbered body)
  reach_kept =
      λ i. Rule 0 kinds.Reach (ends_well body (list_completes_alike names apart (around_body headers members body) body.statements i))
      and renamed_reach names apart (site_of headers members body) true 0 body.statements i

  reads_kept : body_reads headers members body ≡ body_reads headers members (numbered body)
  reads_kept = renamed_reads names apart (around_body headers members body) everything everything (record { same = λ variable. refl }) 0 body.statements

  none_held : AreHeldAlike names [] []
  none_held = record { same = λ variable. refl }

  thrown_kept : body_thrown headers members body ≡ body_thrown headers members (numbered body)
  thrown_kept =
      λ i. renamed_catching names apart (setting_in headers members body) [] [] none_held (scope_in body) (scope_in body) scopes 0 body.statements i
      and escaping headers body.thrown (renamed_throws names apart (setting_in headers members body) [] [] none_held (scope_in body) (scope_in body) scopes 0 body.statements i)

  rules_kept : body_rules writing headers members body ≡ body_rules writing headers members (numbered body)
  rules_kept = λ i. types_kept i and reach_kept i and reads_kept i and thrown_kept i

pub numbered_is_typed : NumberedIsTyped
numbered_is_typed headers members body typed = record {
  writing = typed.writing;
  right = typed.right;
  holds = subst Holds (rules_kept headers members typed.writing body) typed.holds;
}

pub numbered_shows : NumberedShows
numbered_shows headers members body arguments answers bound =
    let used : Used = stms_used body.statements nothing_used in
    sym (renamed_shows (names_for used) (numbers_are_apart used) (context_of headers members body arguments) (of_parameter (parameters_of body.descriptor)) (of_parameter (parameters_of body.descriptor))
    (kept used (parameters_of body.descriptor)) bound body.statements (entered (behind_this (is_static body.flags) arguments) answers) (entered (behind_this (is_static body.flags) arguments) answers)
    (record { variables = kept used (behind_this (is_static body.flags) arguments); held = refl; world = refl }))
