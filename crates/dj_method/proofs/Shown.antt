-- A method's body shows what its code shows, and is typed.
use Rattle.std.proofs.Common.{◌≡◌, ℕ, zero, suc, false, List, [], ◌∷◌, Some, inl, refl, sym, ap, ◌∙◌, subst, arith}
use Rattle.std.specs.Prelude.{slice_get}
use Rattle.std.proofs.lemmas.Option.{slice_get_within, get_or_from_slice_get}
use Rattle.std.specs.List.{Contains}
use Rattle.dj_names.specs.declared.header.Header.{Header}
use Rattle.dj_names.specs.declared.members.ClassMembers.{ClassMembers}
use Rattle.dj_names.specs.Types.{JType, parameters_of}
use Rattle.dj_syntax.specs.Trees.{Body, Stms}
use Rattle.dj_values.specs.Values.{Value, Answer, IsBelow}
use Rattle.dj_values.specs.Fits.{is_static, this_of, behind_this}
use Rattle.dj_values.specs.Outcomes.{State, opening, shown}
use Rattle.dj_class.specs.Described.{MethodOf, ClassOf}
use Rattle.dj_code.specs.declared.method_code.Handler.{Handler}
use Rattle.dj_meaning.specs.StaticTypes.{Context}
use Rattle.dj_meaning.specs.Runs.{Store, Meaning, ◌>>=◌}
use Rattle.dj_meaning.specs.Completions.{Completion}
use Rattle.dj_meaning.specs.Statements.{First}
use Rattle.dj_meaning.specs.Meaning.{run_statements, ended, context_of, source_show}
use Rattle.dj_places.specs.Constants.{Surroundings}
use Rattle.dj_places.specs.Surroundings.{around_body}
use Rattle.dj_declaring.specs.Bodies.{Writing}
use Rattle.dj_graph.specs.Graphs.{Node, Graph, node_at}
use Rattle.dj_graph.specs.GraphRuns.{run_tree, Limits, graph_show, Suits}
use Rattle.dj_graph.specs.Keeping.{seldom}
use Rattle.dj_graph.proofs.Rising.{at-first}
use Rattle.dj_bytecode.specs.SameShows.{MayRun, AreArgumentsOf}
use Rattle.dj_declaring.specs.Formed.{local_type}
use Rattle.dj_declaring.specs.declared.entry.Entry.{Entry}
use Rattle.dj_declaring.specs.Entries.{first_store}
use Rattle.dj_declaring.specs.Starting.{IsGiven}
use Rattle.dj_declaring.specs.Declaring.{declared_body}
use Rattle.dj_declaring.proofs.DeclaredBodies.{declare_typed, declare_shows}
use Rattle.dj_blocks_shown.specs.Leaving.{Parts}
use Rattle.dj_blocks_shown.specs.Catching.{as_covered, none_left, Catches}
use Rattle.dj_blocks_shown.specs.Keeping.{ShowsNoMore, KeepsTurns}
use Rattle.dj_blocks_shown.specs.Composing.{IsBlockNode, IsMadeOf, NeedsFewTurns}
use Rattle.dj_blocks_shown.proofs.Even.{blocks_even}
use Rattle.dj_blocks_shown.proofs.Parting.{read_code_parted}
use Rattle.dj_blocks_shown.proofs.Starting.{arguments_begin}
use Rattle.dj_blocks_shown.proofs.Making.{few_turns, body_shows}
use Rattle.dj_method.specs.Parts.{IsCut, method_scope, IsNodeOf, IsGraphOf, IsLeft, entry_of, method_runs, method_body, IsDeclared}
use Rattle.dj_method.specs.Shown.{MethodsAreShown, alone, alone_in, IsOnlyTree, OneBlockIsShown}
use Rattle.dj_method.proofs.Ordering.{runs-in-order}
use Rattle.dj_method.proofs.Entering.{some-is, none-some, entry-given, arguments-held}

-- ---- the head of a body

-- bodies of one method's head
record SameHead (one other : Body) : Type 0 where
  class : one.class ≡ other.class
  flags : one.flags ≡ other.flags
  name : one.name ≡ other.name
  descriptor : one.descriptor ≡ other.descriptor
  thrown : one.thrown ≡ other.thrown

body-head : (known : Surroundings) (method : Body) (kinds : List JType) (entry : Entry) (own : ℕ) (tree : Stms) → SameHead (declared_body known method kinds entry own tree) method
body-head known method kinds entry own tree = record { class = refl; flags = refl; name = refl; descriptor = refl; thrown = refl }

same-context : (headers : List Header) (members : List ClassMembers) (one other : Body) (arguments : List Value) → SameHead one other → context_of headers members one arguments ≡ context_of headers members other arguments
same-context headers members one other arguments same =
    ap (λ (class : List ℕ). context_of headers members (record one { class = class }) arguments) same.class
    ∙ ap (λ (flags : ℕ). context_of headers members (record other { flags = flags; name = one.name; descriptor = one.descriptor }) arguments) same.flags
    ∙ ap (λ (name : List ℕ). context_of headers members (record other { name = name; descriptor = one.descriptor }) arguments) same.name
    ∙ ap (λ descriptor. context_of headers members (record other { descriptor = descriptor }) arguments) same.descriptor

-- the state as the run of the graph begins
abbrev state_of : Parts → List Value → List Answer → ℕ → State Store
state_of parts arguments answers flags = record { store = first_store parts.vars.kinds (this_of (is_static flags) arguments) (behind_this (is_static flags) arguments) (entry_of parts); world = opening answers }

-- ---- the graph

listed-in : (starts : List ℕ) (number start : ℕ) → slice_get starts number ≡ Some start → Contains starts start
listed-in starts number start e = (number, slice_get_within starts number start e, get_or_from_slice_get starts number start start e)

suits-method : (method : Body) (parts : Parts) (graph : Graph) → graph.kinds ≡ parts.vars.kinds → ((number : ℕ) (node : Node) → node_at graph number ≡ Some node → node.monitors ≡ []) → Suits graph (method_scope method parts)
suits-method method parts graph kinds free = record {
  kinds = λ number type e. ap (λ found. local_type found false) (ap (λ list. slice_get list number) (sym kinds) ∙ e);
  monitors = λ number node monitor there has. absurd (none monitor (subst (λ (list : List ℕ). Contains list monitor) (free number node there) has));
  states = λ number. refl;
  caught = λ number. refl;
}
  where
    none : (monitor : ℕ) → Contains {X = ℕ} [] monitor → ⊥
    none monitor has = let less = has.1 in omega arith

module _ (world : List Header) (members : List ClassMembers) (class : ClassOf) (found : MethodOf) (writing : Writing) (method : Body) (parts : Parts) (before after : Graph) (own : ℕ) (tree : Stms)
    (cut : IsCut world class found parts) (graphed : IsGraphOf world members method parts before) (left : IsLeft (method_runs world members method parts) before after tree) (declared : IsDeclared world members writing method parts own tree) where
  abbrev body : Body
  body = method_body world members method parts own tree

  head : SameHead body method
  head = body-head (around_body world members method) method parts.vars.kinds (entry_of parts) own tree

  block-node : (headers : List Header) → MayRun world headers → (arguments : List Value) → AreArgumentsOf headers parts.typed.code arguments → (number start : ℕ) → slice_get parts.starts number ≡ Some start
      → IsBlockNode (context_of headers members body arguments) (method_scope method parts) parts before number start
  block-node headers may arguments fit number start listed =
      let node = graphed.nodes number start listed in
      subst (λ (context : Context). IsBlockNode context (method_scope method parts) parts before number start) (sym (same-context headers members body method arguments head)) (record {
        node = node.node;
        there = node.there;
        free = graphed.free number node.node node.there;
        shows = node.shows headers may arguments fit;
        even = blocks_even headers parts cut.starts cut.strict.rising graphed.ranges start (listed-in parts.starts number start listed);
        catchers = node.catchers headers may;
      })

  -- what the runs of the method show, those of its body do
  no-more : (graph : Graph) (limits : Limits) (other : Graph) (more : Limits) → ShowsNoMore (method_runs world members method parts) graph limits other more → ShowsNoMore (record (method_runs world members method parts) { body = body }) graph limits other more
  no-more graph limits other more h headers may arguments fit answers =
      let state : State Store = record { store = (method_runs world members method parts).start arguments; world = opening answers } in
      subst (λ (context : Context). IsBelow (graph_show context (method_scope method parts) graph limits state) (graph_show context (method_scope method parts) other more state)) (sym (same-context headers members body method arguments head))
      (h headers may arguments fit answers)

  pub method-made : IsMadeOf world members parts body
  method-made = record {
    parted = read_code_parted world class found parts cut.spells cut.verified cut.strict.rising cut.some cut.starts cut.rise cut.vars;
    of_code = record {
      class = head.class ∙ declared.of_code.class;
      name = head.name ∙ declared.of_code.name;
      flags = head.flags ∙ declared.of_code.flags;
      descriptor = head.descriptor ∙ declared.of_code.descriptor;
      thrown = head.thrown ∙ declared.of_code.thrown;
    };
    scope = method_scope method parts;
    before = before;
    after = after;
    suits = suits-method method parts before graphed.kinds graphed.free;
    rebuilt = λ headers may arguments fit. record { nodes = block-node headers may arguments fit };
    keeps = record {
      forth = λ limits. let kept = left.keeps.forth limits in (kept.0, no-more before limits after kept.0 kept.1);
      back = λ limits. let kept = left.keeps.back limits in (kept.0, no-more after limits before kept.0 kept.1);
    };
    node = left.node;
    tree = left.alone;
    start = λ arguments. first_store parts.vars.kinds (this_of (is_static parts.typed.code.flags) arguments) (behind_this (is_static parts.typed.code.flags) arguments) (entry_of parts);
    begins = λ headers may arguments fit.
        arguments_begin world headers parts cut.some cut.verified (read_code_parted world class found parts cut.spells cut.verified cut.strict.rising cut.some cut.starts cut.rise cut.vars) arguments fit
        (first_store parts.vars.kinds (this_of (is_static parts.typed.code.flags) arguments) (behind_this (is_static parts.typed.code.flags) arguments) (entry_of parts))
        (arguments-held parts cut.vars headers arguments fit);
    declared = λ headers may arguments fit answers turns. shows headers may arguments fit answers turns;
  }
    where
      shows : (headers : List Header) → MayRun world headers → (arguments : List Value) → AreArgumentsOf headers parts.typed.code arguments → (answers : List Answer) (turns : ℕ)
          → source_show headers members body arguments answers turns
          ≡ shown ((run_tree (context_of headers members body arguments) (method_scope method parts) turns First left.node.tree >>= ended (context_of headers members body arguments).result)
          (record { store = first_store parts.vars.kinds (this_of (is_static parts.typed.code.flags) arguments) (behind_this (is_static parts.typed.code.flags) arguments) (entry_of parts); world = opening answers }))
      shows headers may arguments fit answers turns =
          let context = context_of headers members method arguments in
          let scope = method_scope method parts in
          let given = entry-given parts cut.vars headers arguments fit in
          declare_shows world headers members writing method parts.vars.kinds (entry_of parts) own tree arguments answers turns declared.ready (runs-in-order world headers members writing method parts.typed.code declared.of_code declared.core may declared.ready.named declared.lawful declared.constructor arguments fit)
          (subst (λ (class : List ℕ). IsGiven headers class (parameters_of method.descriptor) (entry_of parts) (this_of (is_static method.flags) arguments) (behind_this (is_static method.flags) arguments)) (sym declared.of_code.class)
          (subst (λ descriptor. IsGiven headers parts.typed.code.class (parameters_of descriptor) (entry_of parts) (this_of (is_static method.flags) arguments) (behind_this (is_static method.flags) arguments)) (sym declared.of_code.descriptor)
          (subst (λ (flags : ℕ). IsGiven headers parts.typed.code.class (parameters_of parts.typed.code.descriptor) (entry_of parts) (this_of (is_static flags) arguments) (behind_this (is_static flags) arguments)) (sym declared.of_code.flags) given)))
          ∙ ap (λ (flags : ℕ). shown ((run_statements context scope turns tree >>= ended context.result) (state_of parts arguments answers flags))) declared.of_code.flags
          ∙ ap (λ (part : Meaning Completion). shown ((part >>= ended context.result) (state_of parts arguments answers parts.typed.code.flags))) (sym (at-first context scope turns tree))
          ∙ ap (λ (list : Stms). shown ((run_tree context scope turns First list >>= ended context.result) (state_of parts arguments answers parts.typed.code.flags))) (sym left.is)
          ∙ ap (λ (context : Context). shown ((run_tree context scope turns First left.node.tree >>= ended context.result) (state_of parts arguments answers parts.typed.code.flags))) (sym (same-context headers members body method arguments head))

  pub method-few : KeepsTurns (method_runs world members method parts) before after → NeedsFewTurns world members parts body
  unfolding method-made
  method-few sharp =
      few_turns world members parts body cut.some cut.strict method-made (record {
        forth = λ times entrances. no-more before (seldom times entrances) after (seldom times entrances) (sharp.forth times entrances);
        back = λ limits. let kept = sharp.back limits in (kept.0, no-more after limits before kept.0 kept.1);
      })

-- ---- the laws

pub methods_are_shown : MethodsAreShown
methods_are_shown world members class found writing method parts before after own tree cut graphed left declared =
    let made = method-made world members class found writing method parts before after own tree cut graphed left declared in
    record {
      made = made;
      typed = λ thrown. declare_typed world members writing method parts.vars.kinds (entry_of parts) own tree declared.ready thrown;
      same = body_shows world members parts (method_body world members method parts own tree) cut.some cut.strict made;
      turns = method-few world members class found writing method parts before after own tree cut graphed left declared;
    }

-- ---- one block

nothing-in : {A P : Type 0} (list : List A) (one : A) → list ≡ [] → Contains list one → P
nothing-in {A} list one empty has = absurd (none (subst (λ (list : List A). Contains list one) empty has))
  where
    none : Contains {X = A} [] one → ⊥
    none has = let less = has.1 in omega arith

module _ (world : List Header) (members : List ClassMembers) (method : Body) (parts : Parts) (tree : Stms) (only : IsOnlyTree world members method parts tree) where
  only-node : (number start : ℕ) → slice_get (0 ∷ []) number ≡ Some start → IsNodeOf world members method parts (alone_in parts tree) number start
  only-node zero start listed = record {
    node = alone tree;
    there = refl;
    shows = only.shows;
    catchers = λ headers may. as_covered (subst (λ (handlers : List Handler). Catches parts [] start handlers []) (sym only.uncaught) none_left);
  }
  only-node (suc number) start listed = none-some start listed

  only-free : (number : ℕ) (node : Node) → node_at (alone_in parts tree) number ≡ Some node → node.monitors ≡ []
  only-free zero node e = ap (λ (one : Node). one.monitors) (sym (some-is (alone tree) node e))
  only-free (suc number) node e = none-some node e

  only-graph : IsGraphOf world members method parts (alone_in parts tree)
  only-graph = record {
    nodes = λ number start listed. only-node number start (ap (λ (starts : List ℕ). slice_get starts number) (sym only.one) ∙ listed);
    free = only-free;
    kinds = refl;
    ranges = record {
      starts = λ handler has. nothing-in parts.typed.code.handlers handler only.uncaught has;
      ends = λ handler has. nothing-in parts.typed.code.handlers handler only.uncaught has;
    };
  }

  only-left : IsLeft (method_runs world members method parts) (alone_in parts tree) (alone_in parts tree) tree
  only-left = record {
    keeps = record { forth = λ limits. (limits, λ headers may arguments fit answers. inl refl); back = λ limits. (limits, λ headers may arguments fit answers. inl refl) };
    node = alone tree;
    alone = record { alone = refl; only = λ number. refl; uncaught = refl; free = refl; closed = only.closed };
    is = refl;
  }

pub one_block_is_shown : OneBlockIsShown
one_block_is_shown world members class found writing method parts own tree cut only declared =
    methods_are_shown world members class found writing method parts (alone_in parts tree) (alone_in parts tree) own tree cut
    (only-graph world members method parts tree only) (only-left world members method parts tree only) declared
