-- Of a body's flags what it shows and the rules on it look at whether it is static alone.
use Rattle.std.proofs.Common.{◌≡◌, ℕ, Bool, true, false, List, ap, sym, subst, refl, ◌∙◌}
use Rattle.std.specs.Prelude.{not, ◌||◌, map, []}
use Rattle.dj_names.specs.declared.header.Header.{Header}
use Rattle.dj_names.specs.declared.members.ClassMembers.{ClassMembers}
use Rattle.dj_names.specs.MethodNames.{is_constructor}
use Rattle.dj_names.specs.Types.{parameters_of, result_of}
use Rattle.dj_syntax.specs.Trees.{Body}
use Rattle.dj_values.specs.Values.{Value, Answer}
use Rattle.dj_values.specs.Fits.{is_static, this_of, behind_this}
use Rattle.dj_values.specs.Outcomes.{shown}
use Rattle.dj_meaning.specs.Members.{view_members}
use Rattle.dj_meaning.specs.StaticTypes.{Context}
use Rattle.dj_meaning.specs.Meaning.{run_body, entered, source_show}
use Rattle.dj_typing.specs.Sites.{Site, may_name}
use Rattle.dj_typed.specs.Statements.{Around, all_types}
use Rattle.dj_typed.specs.Bodies.{IsTyped, begins_with_construct}
use Rattle.dj_reach.specs.Bodies.{body_reach}
use Rattle.dj_assigned.specs.Bodies.{body_reads}
use Rattle.dj_thrown.specs.Bodies.{body_thrown, scope_in}
use Rattle.dj_places.specs.Rules.{Rules, Rule, ◌and◌, Holds}
use Rattle.dj_places.specs.declared.kind.TypeKind.TheVariants as kinds
use Rattle.dj_code.specs.MethodCode.{Code}
use Rattle.dj_bytecode.specs.Machine.{bytecode_show}
use Rattle.dj_values.specs.Values.{IsBelow}
use Rattle.dj_bytecode.specs.SameShows.{SameShows}

-- a body with other flags
abbrev pub flagged : Body → ℕ → Body
flagged body flags = record body { flags = flags }

module _ (headers : List Header) (members : List ClassMembers) (body : Body) (flags : ℕ) (same : is_static flags ≡ is_static body.flags) where
  -- what its run knows, given whether it is static
  abbrev context_by : List Value → Bool → Context
  context_by arguments static = record {
    headers = headers;
    members = map view_members members;
    class = body.class;
    result = result_of body.descriptor;
    this = this_of static arguments;
    constructs = is_constructor body.name;
  }

  pub shows_alike : (arguments : List Value) (answers : List Answer) (bound : ℕ) → source_show headers members (flagged body flags) arguments answers bound ≡ source_show headers members body arguments answers bound
  shows_alike arguments answers bound = ap (λ (static : Bool). shown (run_body (context_by arguments static) body bound (entered (behind_this static arguments) answers))) same

  module _ (typed : IsTyped headers members body) where
    abbrev site_by : Bool → Site
    site_by static = record { headers = headers; members = map view_members members; class = body.class; has_this = not static; can_say = typed.writing.can_say; can_name = typed.writing.can_name }

    abbrev around_by : Bool → Around
    around_by static = record { site = site_by static; result = result_of body.descriptor; constructs = is_constructor body.name; targets = [] }

    abbrev rules_by : Bool → Rules
    rules_by static =
        (Rule 0 kinds.Name (may_name (site_by static) body.class)
        and Rule 0 kinds.Call (not (is_constructor body.name) || begins_with_construct body.statements)
        and all_types (around_by static) (scope_in body) body.statements)
        and body_reach headers members body and body_reads headers members body and body_thrown headers members body

    pub typed_alike : IsTyped headers members (flagged body flags)
    typed_alike = record {
      writing = typed.writing;
      right = typed.right;
      holds = subst (λ (static : Bool). Holds (rules_by static)) (sym same) typed.holds;
    }

-- where whatever classes run a body shows what another shows, it shows what the other's code does
pub same_alike : (world : List Header) (members : List ClassMembers) (code : Code) (body : Body) (flags : ℕ) → is_static flags ≡ is_static body.flags → SameShows world members code body → SameShows world members code (flagged body flags)
same_alike world members code body flags same shows = record {
  forth = λ headers may arguments fit answers steps.
      let below = shows.forth headers may arguments fit answers steps in
      (below.0, subst (λ show. IsBelow (bytecode_show headers code arguments answers steps) show) (sym (shows_alike headers members body flags same arguments answers below.0)) below.1);
  back = λ headers may arguments fit answers turns.
      let below = shows.back headers may arguments fit answers turns in
      (below.0, subst (λ show. IsBelow show (bytecode_show headers code arguments answers below.0)) (sym (shows_alike headers members body flags same arguments answers turns)) below.1);
}
