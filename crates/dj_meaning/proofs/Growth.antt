-- A run of a tree at a bound is below its run at a greater one, and what it has shown stays shown.
use Rattle.std.proofs.Common.{ℕ, ◌≤◌, List, Option, Some, None}
use Rattle.dj_names.specs.declared.header.Header.{Header}
use Rattle.dj_names.specs.declared.members.ClassMembers.{ClassMembers}
use Rattle.dj_names.specs.Types.{JType, parameters_of}
use Rattle.dj_syntax.specs.Trees.{Stm, Stms, Body}
use Rattle.dj_values.specs.Values.{Value, Answer, IsBelow}
use Rattle.dj_values.specs.Fits.{is_static, behind_this}
use Rattle.dj_values.specs.Outcomes.{Stuck}
use Rattle.dj_values.proofs.Growth.{shown-below}
use Rattle.dj_meaning.specs.StaticTypes.{Context, Scope}
use Rattle.dj_meaning.specs.Runs.{pure}
use Rattle.dj_meaning.specs.Completions.{Completion, Normal, Break, Continue, Return, Misfit}
use Rattle.dj_meaning.specs.Statements.{Place}
use Rattle.dj_meaning.specs.Meaning.{run, run_all, run_statements, ended, of_parameter, context_of, entered, source_show}
use Rattle.dj_meaning.proofs.EachVariable.{each-stm, each-stms}
use Rattle.dj_meaning.proofs.KeptExpressions.{IsKept}
use Rattle.dj_meaning.proofs.KeptStatements.{kept-run, kept-all, kept-statements}
use Rattle.dj_meaning.proofs.Growing.{Grows, grows-pure, grows-stop, grows-outside, grows-bind, grows-look, grows-put, grows-local, grows-turns, grows-do_turns, grows-handled, grows-finished}
use Rattle.dj_meaning.proofs.GrowingMonitors.{grows-holding}

grows-kept : (bound longer : ℕ) → bound ≤ longer → IsKept (λ A first second. Grows {A = A} first second) (λ variable. Unit {0}) bound longer
grows-kept bound longer less = record {
  pures = grows-pure;
  stops = grows-stop;
  asks = grows-outside;
  binds = grows-bind;
  looks = λ scope variable n. grows-look scope variable;
  puts = λ variable found n. grows-put variable found;
  locals = λ variable n h. grows-local variable h;
  loops = λ own tests steps bodies. grows-turns own tests steps bodies bound longer less;
  do_loops = λ own tests bodies. grows-do_turns {step = pure tt} own tests (grows-pure tt) bodies bound longer less;
  handles = λ h k. grows-handled h k;
  finishes = λ h k. grows-finished h k;
  holds = λ headers monitor h. grows-holding headers monitor h;
}

-- a run of statements is below one with a greater bound
pub grows-all : (context : Context) (scope : Scope) (bound longer : ℕ) → bound ≤ longer → (list : Stms) → Grows (run_all context scope bound list) (run_all context scope longer list)
grows-all context scope bound longer less list = kept-all (grows-kept bound longer less) context scope list (each-stms (λ variable. tt) list)

-- and so is one of the statements of a body
pub grows-statements : (context : Context) (scope : Scope) (bound longer : ℕ) → bound ≤ longer → (list : Stms) → Grows (run_statements context scope bound list) (run_statements context scope longer list)
grows-statements context scope bound longer less list = kept-statements (grows-kept bound longer less) context scope list (each-stms (λ variable. tt) list)

-- ---- bodies

grows-ended : (result : Option JType) (completion : Completion) → Grows (ended result completion) (ended result completion)
grows-ended None Normal = grows-pure None
grows-ended (Some type) Normal = grows-stop Stuck
grows-ended None (Break label) = grows-stop Stuck
grows-ended (Some type) (Break label) = grows-stop Stuck
grows-ended None (Continue label) = grows-stop Stuck
grows-ended (Some type) (Continue label) = grows-stop Stuck
grows-ended None (Return value) = grows-pure value
grows-ended (Some type) (Return value) = grows-pure value
grows-ended None Misfit = grows-stop Stuck
grows-ended (Some type) Misfit = grows-stop Stuck

pub longer_shows_more : (headers : List Header) (members : List ClassMembers) (body : Body) (arguments : List Value) (answers : List Answer) (bound longer : ℕ) → bound ≤ longer
    → IsBelow (source_show headers members body arguments answers bound) (source_show headers members body arguments answers longer)
longer_shows_more headers members body arguments answers bound longer less =
    let context = context_of headers members body arguments in
    let scope : Scope = of_parameter (parameters_of body.descriptor) in
    let runs = grows-bind (grows-statements context scope bound longer less body.statements) (grows-ended context.result) in
    shown-below _ _ (runs.below (entered (behind_this (is_static body.flags) arguments) answers))
