-- The body that is printed is typed, and shows what the tree shows.
use Rattle.std.proofs.Common.{ℕ, List, [], ◌≡◌, refl, sym, ◌∙◌, subst}
use Rattle.dj_names.specs.declared.header.Header.{Header}
use Rattle.dj_names.specs.declared.members.ClassMembers.{ClassMembers}
use Rattle.dj_names.specs.Types.{JType, parameters_of}
use Rattle.dj_syntax.specs.declared.variable.VarKind.{VarKind}
use Rattle.dj_syntax.specs.declared.variable.VarKind.TheVariants as kind
use Rattle.dj_syntax.specs.declared.variable.Var.{Var}
use Rattle.dj_syntax.specs.Trees.{Stms, Body}
use Rattle.dj_meaning.specs.Meaning.{of_parameter}
use Rattle.dj_places.specs.Rules.{◌and◌, Holds}
use Rattle.dj_places.specs.Surroundings.{around_body}
use Rattle.dj_thrown.specs.Settings.{setting_in}
use Rattle.dj_thrown.specs.Catching.{escaping}
use Rattle.dj_thrown.specs.Bodies.{scope_in, body_thrown}
use Rattle.dj_renaming.specs.Renaming.{Names, AreApart, AreScopesAlike}
use Rattle.dj_numbered.specs.Throws.{AreHeldAlike}
use Rattle.dj_numbered.specs.Numbering.{Used, nothing_used, stms_used, variable_named, names_for, numbered}
use Rattle.dj_numbered.proofs.Numbering.{numbers_are_apart, numbered_is_typed, numbered_shows}
use Rattle.dj_numbered.proofs.Throwing.{renamed_throws, renamed_catching}
use Rattle.dj_declaring.specs.declared.entry.Entry.{Entry}
use Rattle.dj_declaring.specs.Declaring.{declared_body}
use Rattle.dj_declaring.proofs.DeclaredBodies.{declare_typed, declare_shows}
use Rattle.dj_parameters.specs.Parameters.{with_parameters}
use Rattle.dj_parameters.specs.Laws.{PrintedIsTyped, PrintedShows}
use Rattle.dj_parameters.proofs.Ready.{ready_with_parameters}
use Rattle.dj_parameters.proofs.Showing.{shows_with_parameters}

-- ---- what numbered bodies throw

kept : {A : Type 0} (used : Used) (items : List A) (variable : Var) → of_parameter items variable ≡ of_parameter items (variable_named used variable)
kept {A = A} used items variable = go variable.kind variable.number
  where
    go : (one : VarKind) (number : ℕ) → of_parameter items (record { kind = one; number = number }) ≡ of_parameter items (variable_named used (record { kind = one; number = number }))
    go kind.Param number = refl
    go kind.Local number = refl
    go kind.Caught number = refl
    go kind.State number = refl

pub numbered_throws : (headers : List Header) (members : List ClassMembers) (body : Body) → body_thrown headers members body ≡ body_thrown headers members (numbered body)
numbered_throws headers members body =
    let used : Used = stms_used body.statements nothing_used in
    let names : Names = names_for used in
    let apart : AreApart names = numbers_are_apart used in
    let scopes : AreScopesAlike names (scope_in body) (scope_in body) = (λ variable. kept used _ variable) in
    let none : AreHeldAlike names [] [] = record { same = λ variable. refl } in
    λ i. renamed_catching names apart (setting_in headers members body) [] [] none (scope_in body) (scope_in body) scopes 0 body.statements i
    and escaping headers body.thrown (renamed_throws names apart (setting_in headers members body) [] [] none (scope_in body) (scope_in body) scopes 0 body.statements i)

-- ---- the laws

-- the body before its numbers are put in order
abbrev pub declared_with : List Header → List ClassMembers → Body → List JType → Entry → ℕ → Stms → Body
declared_with headers members method kinds entry own tree =
    declared_body (around_body headers members method) method kinds entry own (with_parameters (parameters_of method.descriptor) kinds entry tree)

pub printed_is_typed : PrintedIsTyped
printed_is_typed headers members writing method kinds entry own tree ready thrown =
    let body : Body = declared_with headers members method kinds entry own tree in
    numbered_is_typed headers members body
    (declare_typed headers members writing method kinds entry own (with_parameters (parameters_of method.descriptor) kinds entry tree)
    (ready_with_parameters headers members writing method kinds entry own tree ready) (subst Holds (sym (numbered_throws headers members body)) thrown))

pub printed_shows : PrintedShows
printed_shows headers wider members writing method kinds entry own tree arguments answers bound ready order given =
    numbered_shows wider members (declared_with headers members method kinds entry own tree) arguments answers bound
    ∙ declare_shows headers wider members writing method kinds entry own (with_parameters (parameters_of method.descriptor) kinds entry tree) arguments answers bound
    (ready_with_parameters headers members writing method kinds entry own tree ready) order given
    ∙ shows_with_parameters headers wider members writing method kinds entry own tree arguments answers bound ready given
