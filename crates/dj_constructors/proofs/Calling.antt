-- The call of another constructor on `this` does what the machine does, with which a body begins.
use Rattle.std.proofs.Common.{◌≡◌, ℕ, zero, suc, true, if◌then◌else◌, List, [], ◌∷◌, map, Option, Some, None, inl, inr, refl, sym, ap, subst, ◌∙◌, codes}
use Rattle.dj_names.specs.declared.header.Header.{Header}
use Rattle.dj_names.specs.Headers.{Name}
use Rattle.dj_names.specs.Types.{JType, Class, StaticType, Of, parameters_of, result_of}
use Rattle.dj_syntax.specs.Trees.{Exp, This, Stm, Construct}
use Rattle.dj_instructions.specs.Instructions.{MethodRef}
use Rattle.dj_values.specs.Values.{Value, Special}
use Rattle.dj_values.specs.Outcomes.{Stop, Reply, Gives, then_on, World, State, Outcome, Is, Stops, bind, outside}
use Rattle.dj_bytecode.specs.Objects.{special_owner, object_called}
use Rattle.dj_bytecode.specs.Machine.{taken, pushed, strict}
use Rattle.dj_meaning.specs.StaticTypes.{Context, Scope}
use Rattle.dj_meaning.specs.Runs.{Store, Meaning, pure, ◌>>=◌}
use Rattle.dj_meaning.specs.Completions.{Completion, Normal, sequence}
use Rattle.dj_meaning.specs.Expressions.{value}
use Rattle.dj_meaning.specs.Statements.{First}
use Rattle.dj_meaning.specs.Meaning.{run}
use Rattle.dj_loaded.specs.Loaded.{MayRun}
use Rattle.dj_places.specs.Constants.{Surroundings}
use Rattle.dj_widened.specs.Meant.{AreAllWhole}
use Rattle.dj_rebuilding.specs.Shows.{at, Shows, gives, throws, cut, stuck, Equal, Refines}
use Rattle.dj_rebuilding.specs.Pending.{Number, Wide, Units, Nothing, Own, Named, exp_of, Pending, Kept, Whole, Born, Again, Typed, entry, push, pend, operands}
use Rattle.dj_rebuilding.specs.Agreeing.{AreEntries}
use Rattle.dj_rebuilding.specs.Rest.{ShowsRest}
use Rattle.dj_rebuilding.proofs.Outcomes.{bind-assoc, bind-same, outside-then, shows-bind, shows-outside, shows-refines, refines-is}
use Rattle.dj_rebuilding.proofs.Ways.{Stays}
use Rattle.dj_rebuilt.specs.Standing.{AreOperands}
use Rattle.dj_members_shown.specs.Sorts as raw
use Rattle.dj_members_shown.specs.Sorts.{OnIs}
use Rattle.dj_members_shown.specs.Laws.{Runs}
use Rattle.dj_members_shown.specs.Meant.{constructed_class, IsOfConstruct}
use Rattle.dj_members_shown.specs.Operands as operand
use Rattle.dj_members_shown.specs.Operands.{IsOperand}
use Rattle.dj_members_shown.proofs.Binding.{bind-bind, on-weaker}
use Rattle.dj_members_shown.proofs.Built.{construct-built}
use Rattle.dj_members_shown.proofs.Owners.{of-construct}
use Rattle.dj_blocks_formed.proofs.Spilled.{declared-goes}
use Rattle.dj_member_nodes.specs.Going.{may_be_given}
use Rattle.dj_member_nodes.specs.Nodes.{given_to}
use Rattle.dj_member_nodes.proofs.Alone.{call-nothing}
use Rattle.dj_member_nodes.proofs.Standing.{nothing-again, stuck-refines}
use Rattle.dj_strict_entries.specs.Entries as strict_entries
use Rattle.dj_strict_entries.specs.Entries.{AllGo, EntriesAreOperands}
use Rattle.dj_strict_entries.proofs.Replying.{entries-are}
use Rattle.dj_member_ways.proofs.Given.{given-same, AreGiven, are-given}
use Rattle.dj_constructors.specs.Opening.{is_own_alone, own_operands}

-- ---- what the call means

module _ (known : Surroundings) (context : Context) (runs : Runs known.headers context) (members : known.members ≡ context.members) (may : MayRun known.headers context.headers) (constructs : context.constructs ≡ true)
    (n : ℕ) (scope : Scope) (method : MethodRef) (is : IsOfConstruct known.headers context.members context.class method) (wanted : AreAllWhole known.headers (map Of (parameters_of method.descriptor))) where
  abbrev world : List Header
  world = known.headers

  abbrev tos : List JType
  tos = parameters_of method.descriptor

  -- what the instruction does
  abbrev pub operation : List Value → Reply (Option Value)
  operation all = object_called Special (special_owner context.headers context.class method) method all

  -- `this` as an operand
  abbrev pub itself : Typed
  itself = (Of (Class context.class), This)

  abbrev searched : Option Name
  searched = constructed_class world context.class is.own

  -- the statement
  abbrev pub statement : List Typed → Stm
  statement are = Construct is.own (given_to known method (codes "<init>") searched are)

  module _ (are : List Typed) (fit : may_be_given world are tos ≡ true) (typed : AreOperands context n scope are) (bound : ℕ) where
    given : AreGiven known context members n scope method (codes "<init>") searched are
    given = are-given known context members n scope method (codes "<init>") searched are wanted fit typed

    all-goes : AllGo world (itself ∷ are) (Class context.class ∷ tos)
    all-goes = (record { kind = tt; goes = λ reference. declared-goes world (Of (Class context.class)) }, given.go)

    does : (state : State Store) → operand.AreOperands context scope (strict_entries.exps_of (itself ∷ are)) (strict_entries.types_of (itself ∷ are)) (Class context.class ∷ tos) state
        → run context scope bound First (statement are) state ≡ bind (raw.operands context scope (strict_entries.exps_of (itself ∷ are)) state) (λ all after. bind (outside context.headers (operation all) after) (λ nothing. Is Normal))
    does state ops =
        ap (λ exps. run context scope bound First (Construct is.own exps) state) (given-same known context members n scope method (codes "<init>") searched are)
        ∙ construct-built world context scope runs.wide runs.paired runs.whole bound method is (strict_entries.exps_of are) (strict_entries.types_of are) state constructs given.whole wanted given.as_many given.types
        (on-weaker (λ one after. IsOperand context.headers (Of (Class context.class)) (Class context.class) one × operand.AreOperands context scope (strict_entries.exps_of are) (strict_entries.types_of are) tos after)
        (λ one after. operand.AreOperands context scope (strict_entries.exps_of are) (strict_entries.types_of are) tos after) (value context scope This state) ops.1 (λ one after holds. holds.1))
        ∙ ap (λ owner. bind (raw.operands context scope (strict_entries.exps_of (itself ∷ are)) state) (λ all after. bind (outside context.headers (object_called Special owner method all) after) (λ nothing. Is Normal)))
        (sym (of-construct world context.headers runs.wide context.members runs.paired context.class runs.whole method is))

    -- as operands are tested by their static types
    pub construct-done : (state : State Store) → Refines (bind (bind (operands context scope (itself ∷ are) state) (λ all. outside context.headers (operation all))) (λ given. pure Normal)) (run context scope bound First (statement are) state)
    construct-done state = by (entries-are world context scope may (itself ∷ are) (Class context.class ∷ tos) all-goes state)
      where
        by : EntriesAreOperands context scope (itself ∷ are) (Class context.class ∷ tos) state → Refines (bind (bind (operands context scope (itself ∷ are) state) (λ all. outside context.headers (operation all))) (λ given. pure Normal)) (run context scope bound First (statement are) state)
        by (inl is_stuck) =
            subst (λ first. Refines first (run context scope bound First (statement are) state)) (sym (bind-bind (operands context scope (itself ∷ are) state) (λ all. outside context.headers (operation all)) (λ given. pure Normal)))
            (stuck-refines (operands context scope (itself ∷ are) state) (λ all after. bind (outside context.headers (operation all) after) (λ given. pure Normal)) (run context scope bound First (statement are) state) is_stuck)
        by (inr found) =
            refines-is (bind-bind (operands context scope (itself ∷ are) state) (λ all. outside context.headers (operation all)) (λ given. pure Normal)
            ∙ ap (λ first. bind first (λ all after. bind (outside context.headers (operation all) after) (λ dropped. Is Normal))) found.1 ∙ sym (does state found.0))

  pub construct-nothing : result_of method.descriptor ≡ None → (all : List Value) (state : State Store) → outside context.headers (operation all) state ≡ bind (outside context.headers (operation all) state) (λ given. pure None)
  construct-nothing nothing all state = nothing-again context scope (operation all) (call-nothing context.headers Special (special_owner context.headers context.class method) method nothing all) state

-- ---- its operands

one-more : {B : Type 0} (context : Context) (scope : Scope) (type : StaticType) (exp : Exp) (before : List Typed) (under : Outcome Store (List Value)) (count : ℕ) (operation : List Value → List Value → Reply B)
    → bind (bind under (push (entry context scope type exp))) (λ values after. bind (operands context scope before after) (λ all. outside context.headers (taken (suc count) all values operation)))
    ≡ bind under (λ values after. bind (operands context scope ((type, exp) ∷ before) after) (λ all. outside context.headers (taken count all values operation)))
one-more context scope type exp before under count operation =
    bind-assoc under (push (entry context scope type exp)) _
    ∙ bind-same under _ _ (λ values state.
    bind-assoc (entry context scope type exp state) (λ top. pure (top ∷ values)) _
    ∙ bind-same (entry context scope type exp state) _ _ (λ one after. sym (bind-assoc (operands context scope before after) (λ more. pure (one ∷ more)) (λ all. outside context.headers (taken count all values operation))))
    ∙ sym (bind-assoc (entry context scope type exp state) (λ one. operands context scope before >>= λ more. pure (one ∷ more)) (λ all. outside context.headers (taken count all values operation))))

-- the arguments of the call, where `this` lies below them alone
pub record OwnOperands (context : Context) (n count : ℕ) (scope : Scope) (before : List Typed) (stack : List Pending) (are : List Typed) : Type 1 where
  pub typed : AreOperands context n scope are
  pub same : {B : Type 0} (operation : List Value → List Value → Reply B) (state : State Store)
      → bind (pend context scope stack state) (λ values after. bind (operands context scope before after) (λ all. outside context.headers (taken (suc count) all values operation)))
      ≡ bind (operands context scope ((Of (Class context.class), This) ∷ are) state) (λ all. outside context.headers (operation all []))

same-type : (one other : StaticType) → Some one ≡ Some other → one ≡ other
same-type one other e = cc

own-alone : (context : Context) (n : ℕ) (scope : Scope) (before : List Typed) (stack : List Pending) (are : List Typed) → AreOperands context n scope before → AreEntries context n scope stack
    → (if is_own_alone stack then Some before else None) ≡ Some are → OwnOperands context n 0 scope before stack are
own-alone context n scope before [] are typed entries e = absurd (cc)
own-alone context n scope before (Kept type (Number number) ∷ below) are typed entries e = absurd (cc)
own-alone context n scope before (Kept type (Wide number) ∷ below) are typed entries e = absurd (cc)
own-alone context n scope before (Kept type (Units units) ∷ below) are typed entries e = absurd (cc)
own-alone context n scope before (Kept type Nothing ∷ below) are typed entries e = absurd (cc)
own-alone context n scope before (Kept type Own ∷ []) are typed entries e =
    let same : before ≡ are = cc in
    let own : Of (Class context.class) ≡ type = same-type (Of (Class context.class)) type entries.0.typed in
    subst (λ type. OwnOperands context n 0 scope before (Kept type Own ∷ []) are) own
    (subst (OwnOperands context n 0 scope before (Kept (Of (Class context.class)) Own ∷ [])) same (record { typed = typed; same = λ operation state. one-more context scope (Of (Class context.class)) This before (pure {A = List Value} [] state) 0 operation }))
own-alone context n scope before (Kept type Own ∷ second ∷ below) are typed entries e = absurd (cc)
own-alone context n scope before (Kept type (Named variable) ∷ below) are typed entries e = absurd (cc)
own-alone context n scope before (Whole type exp ∷ below) are typed entries e = absurd (cc)
own-alone context n scope before (Born class ∷ below) are typed entries e = absurd (cc)
own-alone context n scope before (Again ∷ below) are typed entries e = absurd (cc)

pub own-are : (context : Context) (n count : ℕ) (scope : Scope) (before : List Typed) (stack : List Pending) (are : List Typed) → AreOperands context n scope before → AreEntries context n scope stack → own_operands count before stack ≡ Some are
    → OwnOperands context n count scope before stack are
own-are context n zero scope before stack are typed entries e = own-alone context n scope before stack are typed entries e
own-are context n (suc count) scope before [] are typed entries e = absurd (cc)
own-are context n (suc count) scope before (Kept type atom ∷ below) are typed entries e =
    let h = own-are context n count scope ((type, exp_of atom) ∷ before) below are (entries.0, typed) entries.1 e in
    record { typed = h.typed; same = λ operation state. one-more context scope type (exp_of atom) before (pend context scope below state) (suc count) operation ∙ h.same operation state }
own-are context n (suc count) scope before (Whole type exp ∷ below) are typed entries e =
    let h = own-are context n count scope ((type, exp) ∷ before) below are (entries.0, typed) entries.1 e in
    record { typed = h.typed; same = λ operation state. one-more context scope type exp before (pend context scope below state) (suc count) operation ∙ h.same operation state }
own-are context n (suc count) scope before (Born class ∷ below) are typed entries e = absurd (cc)
own-are context n (suc count) scope before (Again ∷ below) are typed entries e = absurd (cc)

-- ---- what it shows

-- what was done, and nothing is on the stack
abbrev Ended : {S : Type 0} → (S → Store → Type 0) → List Value → S → Completion → Store → Type 0
Ended R values own done other = (values ≡ []) × (done ≡ Normal) × R own other

ended-normal : {S : Type 0} {R E : S → Store → Type 0} {store : Store} {world : World} {mine : Outcome S (List Value)} → Shows (Equal R) E mine (Is [] (at store world)) → Shows (Ended R) E mine (Is Normal (at store world))
ended-normal (gives r) = gives (r.0, refl, r.1)
ended-normal stuck = stuck

ended-stops : {S : Type 0} {R E : S → Store → Type 0} {why : Stop} {state : State Store} {mine : Outcome S (List Value)} → Shows (Equal R) E mine (Stops why state) → Shows (Ended R) E mine (Stops why state)
ended-stops (throws e) = throws e
ended-stops cut = cut
ended-stops stuck = stuck

ended : {S B : Type 0} {R E : S → Store → Type 0} (part : Outcome Store B) (mine : Outcome S (List Value)) → Shows (Equal R) E mine (bind part (λ given. pure [])) → Shows (Ended R) E mine (bind part (λ given. pure Normal))
ended (Is result state) mine h = ended-normal h
ended (Stops why state) mine h = ended-stops h

module _ (context : Context) (scope : Scope) (n count : ℕ) (operation : List Value → Reply (Option Value)) (stack : List Pending) (are : List Typed) (own : OwnOperands context n count scope [] stack are)
    (nothing : (all : List Value) (state : State Store) → outside context.headers (operation all) state ≡ bind (outside context.headers (operation all) state) (λ given. pure None)) where
  abbrev act : {T : Type 0} → List Value → State T → Outcome T (List Value)
  act values = outside context.headers (strict (suc count) operation values)

  abbrev part : State Store → Outcome Store (Option Value)
  part state = bind (operands context scope ((Of (Class context.class), This) ∷ are) state) (λ all. outside context.headers (operation all))

  acted : (state : State Store) → bind (pend context scope stack state) act ≡ bind (part state) (λ given. pure {A = List Value} [])
  acted state =
      own.same (λ all below. then_on (operation all) (λ given. Gives (pushed below given))) state
      ∙ bind-same (operands context scope ((Of (Class context.class), This) ∷ are) state) _ _ (λ all past.
      outside-then context.headers (operation all) (λ given. Gives (pushed [] given)) past
      ∙ ap (λ run. bind run (λ given. pure (pushed [] given))) (nothing all past)
      ∙ bind-assoc (outside context.headers (operation all) past) (λ given. pure None) (λ given. pure (pushed [] given)))
      ∙ sym (bind-assoc (operands context scope ((Of (Class context.class), This) ∷ are) state) (λ all. outside context.headers (operation all)) (λ given. pure []))

  pub own-shows : {S A : Type 0} {R E : S → Store → Type 0} {Q : A → S → Completion → Store → Type 0} (base : ℕ) (stays : Stays base R E) (first : Meaning Completion) (done : (state : State Store) → Refines (bind (part state) (λ given. pure Normal)) (first state))
      → (next : List Value → State S → Outcome S A) (k : Meaning Completion) → ShowsRest context E Q R scope [] next k → ShowsRest context E Q R scope stack (λ values state. bind (act values state) next) (first >>= sequence k)
  own-shows {R} {E} {Q} base stays first done next k further = record {
    rest = λ so_far store world start.
        let moved = shows-bind act act start (λ values mine vs other there r.
        subst (λ vs. Shows (Equal R) E (act values (at mine there)) (act vs (at other there))) r.0 (shows-outside context.headers mine other there (strict (suc count) operation values) (λ one. (refl, r.1)) (stays.enough mine other r.1))) in
        let reached = shows-refines (ended (part (at store world)) (bind so_far act) (subst (Shows (Equal R) E (bind so_far act)) (acted (at store world)) moved)) (done (at store world)) in
        subst (λ run. Shows Q E run (bind (first (at store world)) (sequence k))) (bind-assoc so_far act next)
        (shows-bind next (sequence k) reached (λ values mine completion other there r.
        subst (λ vs. Shows Q E (next vs (at mine there)) (sequence k completion (at other there))) (sym r.0)
        (subst (λ c. Shows Q E (next [] (at mine there)) (sequence k c (at other there))) (sym r.1)
        (further.rest (Is [] (at mine there)) other there (gives (refl, r.2))))));
  }
