-- What a method of one block returns and throws means what the machine does with it.
use Rattle.std.proofs.Common.{◌≡◌, ℕ, Bool, true, false, List, [], ◌∷◌, Option, Some, None, ◌⊎◌, inl, inr, refl, sym, ap, ◌∙◌, subst}
use Rattle.std.specs.Prelude.{if◌then◌else◌}
use Rattle.std.proofs.lemmas.Bool.{cases_Bool, false≢true}
use Rattle.dj_names.specs.declared.header.Header.{Header}
use Rattle.dj_names.specs.Types as types
use Rattle.dj_names.specs.Types.{JType, Boolean, Byte, Char, Short, Float, Double, Class, Array, StaticType, Of}
use Rattle.dj_names.specs.Assignable.{object_name}
use Rattle.dj_syntax.specs.Trees as trees
use Rattle.dj_syntax.specs.Trees.{Exp, NoExps, AndExp}
use Rattle.dj_instructions.specs.declared.kinds.Kind.{Kind}
use Rattle.dj_instructions.specs.declared.kinds.Kind.TheVariants as kinds
use Rattle.dj_values.specs.Values.{RefValue, Value, Int, Long, Null, Ref}
use Rattle.dj_values.specs.Outcomes.{Reply, Gives, Halts, Stuck, More, Throws, then_on, State, Outcome, Is, Stops, bind, outside}
use Rattle.dj_meaning.specs.Conversions.{converted}
use Rattle.dj_meaning.specs.StaticTypes.{Context, Scope, type_of}
use Rattle.dj_meaning.specs.Runs as runs
use Rattle.dj_meaning.specs.Runs.{Store, pure, stuck, ◌>>=◌}
use Rattle.dj_meaning.specs.Completions.{Completion, Normal, thrown}
use Rattle.dj_meaning.specs.Expressions.{value}
use Rattle.dj_meaning.specs.Statements.{Elsewhere}
use Rattle.dj_meaning.specs.Meaning.{run}
use Rattle.dj_bytecode.specs.Operands.{of_kind, fitted}
use Rattle.dj_bytecode.specs.Objects.{thrown_out}
use Rattle.dj_loaded.specs.Loaded.{MayRun, HasCore}
use Rattle.dj_members_shown.specs.Casts.{stays, recast, dressed}
use Rattle.dj_members_shown.specs.Operands as members
use Rattle.dj_members_shown.specs.Sorts.{operands, OnIs}
use Rattle.dj_members_shown.specs.Strict.{GoesAs}
use Rattle.dj_members_shown.specs.Testing.{IsStuck}
use Rattle.dj_members_shown.proofs.Binding.{bind-bind, on-weaker, outside-then}
use Rattle.dj_members_shown.proofs.Casting.{reference-recast}
use Rattle.dj_members_shown.proofs.Dressing.{dressed-fitted}
use Rattle.dj_members_shown.proofs.Reading.{throw-run}
use Rattle.dj_rebuilding.specs.Shows.{Refines, lost}
use Rattle.dj_rebuilding.specs.Pending.{is_kept, is_kept_by, checked, entry, operands as pending_operands}
use Rattle.dj_rebuilding.specs.Agreeing.{IsBelow}
use Rattle.dj_rebuilding.proofs.Outcomes.{refines-is, refines-join}
use Rattle.dj_rebuilt.specs.Standing.{Within, same, wrong, IsEffect}
use Rattle.dj_rebuilt.proofs.Fitting.{fitted-within, within-refines}
use Rattle.dj_member_nodes.specs.Going.{fits_in}
use Rattle.dj_member_nodes.proofs.Dressed.{dressed-small}
use Rattle.dj_member_nodes.proofs.Operands.{goes-where}
use Rattle.dj_member_nodes.proofs.Suited.{suited-fits}
use Rattle.dj_strict_entries.specs.Entries.{GoesWhere, EntryIsThrown}
use Rattle.dj_strict_entries.proofs.Keeping.{carried, operand-of}
use Rattle.dj_strict_entries.proofs.Throwing.{entry-thrown}
use Rattle.dj_exits.specs.Exits.{throwable}
use Rattle.dj_exits.specs.Meaning.{Returns}
use Rattle.dj_exits.proofs.Shown.{value-never}
use Rattle.dj_lone_exits.specs.Lone.{LoneExitsMean, LoneEdgesServe}

-- ---- replies

-- a value of a kind is itself, or none of the kind
of-kind : (of : Kind) (one : Value) → (of_kind of one ≡ Gives one) ⊎ (of_kind of one ≡ Halts Stuck)
of-kind kinds.Int (Int number) = inl refl
of-kind kinds.Int (Long number) = inr refl
of-kind kinds.Int Null = inr refl
of-kind kinds.Int (Ref reference) = inr refl
of-kind kinds.Long (Int number) = inr refl
of-kind kinds.Long (Long number) = inl refl
of-kind kinds.Long Null = inr refl
of-kind kinds.Long (Ref reference) = inr refl
of-kind kinds.Float one = inr refl
of-kind kinds.Double one = inr refl
of-kind kinds.Ref (Int number) = inr refl
of-kind kinds.Ref (Long number) = inr refl
of-kind kinds.Ref Null = inl refl
of-kind kinds.Ref (Ref reference) = inl refl

within-then : {A B : Type 0} (next : A → Reply B) {reply other : Reply A} → Within reply other → Within (then_on reply next) (then_on other next)
within-then next same = same
within-then next wrong = wrong

-- ---- what is returned

module _ (world : List Header) (context : Context) (may : MayRun world context.headers) (scope : Scope) where
  -- as a value of the kind and the type
  abbrev machine : Kind → JType → Value → Reply (Option Value)
  machine of type one = then_on (of_kind of one) (λ value. then_on (fitted type value) (λ kept. Gives (Some kept)))

  converts : (of : Kind) (type : JType) (one : Value) (after : State Store) → Refines (outside context.headers (machine of type one) after) (bind (outside context.headers (converted type one) after) (λ kept. pure (Some kept)))
  converts of type one after = by (of-kind of one)
    where
      by : (of_kind of one ≡ Gives one) ⊎ (of_kind of one ≡ Halts Stuck) → Refines (outside context.headers (machine of type one) after) (bind (outside context.headers (converted type one) after) (λ kept. pure (Some kept)))
      by (inl e) =
          refines-join (refines-is (ap (λ reply. outside context.headers (then_on reply (λ value. then_on (fitted type value) (λ kept. Gives (Some kept)))) after) e))
          (refines-join (within-refines context.headers (within-then (λ kept. Gives (Some kept)) (fitted-within type one)) after) (refines-is (outside-then context.headers (converted type one) (λ kept. Gives (Some kept)) after)))
      by (inr e) = subst (λ reply. Refines (outside context.headers (then_on reply (λ value. then_on (fitted type value) (λ kept. Gives (Some kept)))) after) (bind (outside context.headers (converted type one) after) (λ kept. pure (Some kept)))) (sym e) lost

  -- what source does with the operand as it is dressed, it does with the operand
  abbrev source : JType → Outcome Store Value → Outcome Store (Option Value)
  source type found = bind found (λ one after. bind (outside context.headers (converted type one) after) (λ kept. pure (Some kept)))

  undressed : (type : JType) (static : StaticType) (exp : Exp) → type_of context scope exp ≡ Some static → GoesWhere world static type → (state : State Store) → OnIs (λ found after. members.IsOperand context.headers static type found) (value context scope exp state)
      → source type (value context scope (dressed world true static type exp) state) ≡ source type (value context scope exp state)
  undressed type static exp typed goes state is =
      sym (bind-bind (value context scope (dressed world true static type exp) state) (runs.fitted context.headers type) (λ kept. pure (Some kept)))
      ∙ ap (λ found. bind found (λ kept. pure (Some kept))) (dressed-fitted world true context scope static type exp state typed goes.kind is)
      ∙ bind-bind (value context scope exp state) (runs.fitted context.headers type) (λ kept. pure (Some kept))

  -- where the value passes the test, both sides do the same with it
  returns-run : (of : Kind) (type : JType) (static : StaticType) (exp : Exp) → type_of context scope exp ≡ Some static → GoesWhere world static type → (state : State Store) (found : Outcome Store Value) → value context scope exp state ≡ found
      → Refines (bind (bind found (checked context.headers static)) (λ one. outside context.headers (machine of type one))) (source type (value context scope (dressed world true static type exp) state))
  returns-run of type static exp typed goes state (Stops why after) e =
      refines-is (sym (undressed type static exp typed goes state (subst (OnIs (λ found after. members.IsOperand context.headers static type found)) (sym e) tt) ∙ ap (source type) e))
  returns-run of type static exp typed goes state (Is one after) e = by (cases_Bool (is_kept context.headers static one))
    where
      Wanted : Outcome Store Value → Type 0
      Wanted tested = Refines (bind tested (λ one. outside context.headers (machine of type one))) (source type (value context scope (dressed world true static type exp) state))

      by : (is_kept context.headers static one ≡ true) ⊎ (is_kept context.headers static one ≡ false) → Wanted ((if is_kept context.headers static one then pure one else stuck) after)
      by (inl kept) =
          subst (λ (test : Bool). Wanted ((if test then pure one else stuck) after)) (sym kept)
          (refines-join (converts of type one after)
          (refines-is (sym (undressed type static exp typed goes state (subst (OnIs (λ found after. members.IsOperand context.headers static type found)) (sym e) (operand-of world context.headers may static type one goes kept)) ∙ ap (source type) e))))
      by (inr not_so) = subst (λ (test : Bool). Wanted ((if test then pure one else stuck) after)) (sym not_so) lost

  pub returned-so : (of : Kind) (type : JType) (static : StaticType) (exp : Exp) → fits_in world static type ≡ true → type_of context scope exp ≡ Some static → Returns context scope of type static exp (dressed world true static type exp)
  returned-so of type static exp fits typed state = returns-run of type static exp typed (goes-where world static type fits) state (value context scope exp state) refl

  -- ---- what is thrown

  -- a reference, cast or not, is what it is
  cast-nothing : (static : StaticType) (exp : Exp) → members.AreOneKind static throwable → (state : State Store) → OnIs (λ found after. members.IsOperand context.headers static throwable found) (value context scope exp state)
      → value context scope (recast static throwable exp) state ≡ value context scope exp state
  cast-nothing types.Null exp kind state is =
      reference-recast context scope throwable exp state tt (on-weaker (λ found after. found ≡ Null) (λ found after. GoesAs context.headers throwable found) (value context scope exp state) is (λ found after null. subst (GoesAs context.headers throwable) (sym null) tt))
  cast-nothing (Of Boolean) exp kind state is = absurd (false≢true kind)
  cast-nothing (Of Byte) exp kind state is = absurd (false≢true kind)
  cast-nothing (Of Char) exp kind state is = absurd (false≢true kind)
  cast-nothing (Of Short) exp kind state is = absurd (false≢true kind)
  cast-nothing (Of types.Int) exp kind state is = absurd (false≢true kind)
  cast-nothing (Of types.Long) exp kind state is = absurd (cc)
  cast-nothing (Of Float) exp kind state is = absurd kind
  cast-nothing (Of Double) exp kind state is = absurd kind
  cast-nothing (Of (Class name)) exp kind state is = reference-recast context scope throwable exp state tt is
  cast-nothing (Of (Array element)) exp kind state is = reference-recast context scope throwable exp state tt is

  dressed-nothing : (static : StaticType) (exp : Exp) → members.AreOneKind static throwable → (state : State Store) → OnIs (λ found after. members.IsOperand context.headers static throwable found) (value context scope exp state)
      → value context scope (dressed world true static throwable exp) state ≡ value context scope exp state
  dressed-nothing static exp kind state is = by (stays world true static throwable)
    where
      by : (test : Bool) → value context scope (if test then exp else recast static throwable exp) state ≡ value context scope exp state
      by true = refl
      by false = cast-nothing static exp kind state is

  -- a value that the test changes nothing of passes it
  passed : (static : StaticType) → GoesWhere world static throwable → (found : Outcome Store Value) → bind found (checked context.headers static) ≡ found → OnIs (λ one after. members.IsOperand context.headers static throwable one) found
  passed static goes (Stops why after) e = tt
  passed static goes (Is one after) e = by (cases_Bool (is_kept context.headers static one))
    where
      by : (is_kept context.headers static one ≡ true) ⊎ (is_kept context.headers static one ≡ false) → members.IsOperand context.headers static throwable one
      by (inl kept) = operand-of world context.headers may static throwable one goes kept
      by (inr not_so) = absurd (let stops : (if false then pure one else stuck) after ≡ Is one after = subst (λ (test : Bool). (if test then pure one else stuck) after ≡ Is one after) not_so e in cc)

  stuck-left : {A B : Type 0} (found : Outcome Store A) (next : A → State Store → Outcome Store B) (other : Outcome Store B) → IsStuck found → Refines (bind found next) other
  stuck-left (Stops Stuck after) next other is = lost
  stuck-left (Stops More after) next other is = absurd (cc)
  stuck-left (Stops (Throws reference) after) next other is = absurd (cc)
  stuck-left (Is one after) next other is = absurd is

  -- nothing is given by what throws
  never-given : (all : List Value) (state : State Store) → outside context.headers (thrown_out all) state ≡ bind (outside context.headers (thrown_out all) state) (λ given. pure None)
  never-given [] state = refl
  never-given (one ∷ []) state = by (outside context.headers (thrown_out (one ∷ [])) state) (λ given after e. value-never context.headers one state given after e)
    where
      by : (found : Outcome Store (Option Value)) → ((given : Option Value) (after : State Store) → found ≡ Is given after → ⊥) → found ≡ bind found (λ given. pure None)
      by (Is given after) none = absurd (none given after refl)
      by (Stops why after) none = refl
  never-given (one ∷ second ∷ rest) state = refl

  pub thrown-so : HasCore world → (bound : ℕ) (static : StaticType) (exp : Exp) → fits_in world static throwable ≡ true → IsEffect context bound scope thrown_out ((static, exp) ∷ []) (trees.Throw (dressed world true static throwable exp))
  thrown-so core bound static exp fits = record { nothing = never-given; means = means }
    where
      goes : GoesWhere world static throwable
      goes = goes-where world static throwable fits

      ends : Outcome Store (List Value) → Outcome Store Completion
      ends found = bind (bind found (λ all. outside context.headers (thrown_out all))) (λ given. pure Normal)

      means : (state : State Store) → Refines (ends (pending_operands context scope ((static, exp) ∷ []) state)) (run context scope bound Elsewhere (trees.Throw (dressed world true static throwable exp)) state)
      means state = by (entry-thrown world context scope core may (static, exp) goes state)
        where
          by : EntryIsThrown context scope (static, exp) state → Refines (ends (pending_operands context scope ((static, exp) ∷ []) state)) (run context scope bound Elsewhere (trees.Throw (dressed world true static throwable exp)) state)
          by (inl is) =
              refines-join (refines-is (ap (λ found. bind found (λ given. pure Normal)) (bind-bind (entry context scope static exp state) (λ one after. bind (pure [] after) (λ more. pure (one ∷ more))) (λ all. outside context.headers (thrown_out all)))
              ∙ bind-bind (entry context scope static exp state) (λ one after. bind (bind (pure [] after) (λ more. pure (one ∷ more))) (λ all. outside context.headers (thrown_out all))) (λ given. pure Normal)))
              (stuck-left (entry context scope static exp state) _ _ is)
          by (inr both) =
              refines-is (
              ap (λ found. ends (bind found (λ one after. bind (pure [] after) (λ more. pure (one ∷ more))))) both.1
              ∙ bind-bind (operands context scope (AndExp exp NoExps) state) (λ all. outside context.headers (thrown_out all)) (λ given. pure Normal)
              ∙ sym (throw-run context scope bound Elsewhere exp state both.0)
              ∙ sym (ap (λ found. bind found (thrown context)) (dressed-nothing static exp goes.kind state (passed static goes (value context scope exp state) both.1)))
              )

-- ---- a reference as an Object

objects : (world headers : List Header) → MayRun world headers → (static : StaticType) → fits_in world static (Class object_name) ≡ true → (reference : RefValue) → is_kept headers static (Ref reference) ≡ true → is_kept_by headers (Class object_name) (Ref reference) ≡ true
objects world headers may types.Null fits reference kept = absurd (false≢true kept)
objects world headers may (Of Boolean) fits reference kept = absurd (false≢true fits)
objects world headers may (Of Byte) fits reference kept = absurd (false≢true fits)
objects world headers may (Of Char) fits reference kept = absurd (false≢true fits)
objects world headers may (Of Short) fits reference kept = absurd (false≢true fits)
objects world headers may (Of types.Int) fits reference kept = absurd (false≢true fits)
objects world headers may (Of types.Long) fits reference kept = absurd (false≢true fits)
objects world headers may (Of Float) fits reference kept = absurd (false≢true fits)
objects world headers may (Of Double) fits reference kept = absurd (false≢true fits)
objects world headers may (Of (Class name)) fits reference kept = carried world headers may (Of (Class name)) (Class object_name) fits reference kept
objects world headers may (Of (Array element)) fits reference kept = carried world headers may (Of (Array element)) (Class object_name) fits reference kept

-- ---- the law

pub lone-exits-mean : LoneExitsMean
lone-exits-mean world context core may code result bound base most scope owner entries = record {
  result = result;
  returns = λ n inner of type static exp fits is. (returned-so world context may inner of type static exp fits is.typed, dressed-small (IsBelow n) world true static type exp is.small);
  throws = λ n inner static exp fits is. (thrown-so world context may inner core bound static exp fits, dressed-small (IsBelow n) world true static throwable exp is.small);
  objects = objects world context.headers may;
  old = λ names stack target k less. refl;
  bare = λ names stack target last e. absurd (cc);
  jumps = λ names lawful n inner below ready assigned so_far spilled target puts last e. absurd (cc);
}

-- ---- their answers

pub lone-edges-serve : LoneEdgesServe
lone-edges-serve world roots typed starts nowhere = record {
  jumps = λ just_made atoms pc instruction rest frame may target leads names stack at all. absurd (nowhere just_made atoms pc instruction rest frame may target leads);
  fits = λ static held to well goes. suited-fits world roots static held to well.rooted well.suits goes;
}
