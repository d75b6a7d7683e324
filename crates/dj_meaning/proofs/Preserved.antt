-- Each statement preserves itself, and rewrites one after another preserve.
use Rattle.std.proofs.Common.{◌≡◌, refl, sym, ap, ◌∙◌, subst}
use Rattle.dj_syntax.specs.Trees.{Stm, Block, Stms}
use Rattle.dj_values.specs.Outcomes.{Throws, More, Stuck, State, Outcome, Is, Stops, IsFront, actions_of, Below}
use Rattle.dj_values.proofs.Growth.{front-refl, front-join, below-refl}
use Rattle.dj_meaning.specs.StaticTypes.{Context, Scope}
use Rattle.dj_meaning.specs.Runs.{Store}
use Rattle.dj_meaning.specs.Completions.{Completion}
use Rattle.dj_meaning.specs.Statements.{Place, First, Behind, Elsewhere}
use Rattle.dj_meaning.specs.Meaning.{run, run_statements}
use Rattle.dj_meaning.specs.Preserving.{IsFree, at_label, IsStart, Preserves, IsBodyStart, PreservesBody, Keeps}

front-below : {A : Type 0} (first second : Outcome Store A) → Below first second → IsFront (actions_of first) (actions_of second)
front-below (Is result state) second e = subst (λ other. IsFront state.world.actions (actions_of other)) (sym e) (front-refl state.world.actions)
front-below (Stops (Throws reference) state) second e = subst (λ other. IsFront state.world.actions (actions_of other)) (sym e) (front-refl state.world.actions)
front-below (Stops More state) second front = front
front-below (Stops Stuck state) second e = subst (λ other. IsFront state.world.actions (actions_of other)) (sym e) (front-refl state.world.actions)

below-join : {A : Type 0} (first second third : Outcome Store A) → Below first second → Below second third → Below first third
below-join (Is result state) second third e f = subst (λ other. Below other third) e f
below-join (Stops (Throws reference) state) second third e f = subst (λ other. Below other third) e f
below-join (Stops More state) second third front f = front-join state.world.actions (actions_of second) (actions_of third) front (front-below second third f)
below-join (Stops Stuck state) second third e f = subst (λ other. Below other third) e f

-- what is below a run that isn't stuck, with the label right before it taken, isn't stuck so
free-below : (place : Place) (first second : Outcome Store Completion) → Below second first → IsFree (at_label place first) → IsFree (at_label place second)
free-below place first (Is result state) e free = subst (λ other. IsFree (at_label place other)) e free
free-below First first (Stops (Throws reference) state) e free = tt
free-below (Behind label) first (Stops (Throws reference) state) e free = tt
free-below Elsewhere first (Stops (Throws reference) state) e free = tt
free-below First first (Stops More state) e free = tt
free-below (Behind label) first (Stops More state) e free = tt
free-below Elsewhere first (Stops More state) e free = tt
free-below place first (Stops Stuck state) e free = subst (λ other. IsFree (at_label place other)) e free

pub preserves-self : (stm : Stm) → Preserves stm stm
preserves-self stm = record {
  declares = refl;
  forth = λ context scope place state start bound. below-refl (run context scope bound place stm state);
  back = λ context scope place state start bound. (bound, below-refl (run context scope bound place stm state));
}

-- a start of the first is one of the second
start-on : (first second : Stm) → Preserves first second → (context : Context) (scope : Scope) (place : Place) (state : State Store) → IsStart context scope place first state → IsStart context scope place second state
start-on first second p context scope place state start = record {
  typed = start.typed;
  free = λ bound.
      let behind = p.back context scope place state start bound in
      free-below place (run context scope behind.0 place first state) (run context scope bound place second state) behind.1 (start.free behind.0);
}

pub preserves-on : (first second third : Stm) → Preserves first second → Preserves second third → Preserves first third
preserves-on first second third p q = record {
  declares = q.declares ∙ p.declares;
  forth = λ context scope place state start bound.
      below-join (run context scope bound place first state) (run context scope bound place second state) (run context scope bound place third state) (p.forth context scope place state start bound)
      (q.forth context scope place state (start-on first second p context scope place state start) bound);
  back = λ context scope place state start bound.
      let one = q.back context scope place state (start-on first second p context scope place state start) bound in
      let two = p.back context scope place state start one.0 in
      (two.0, below-join (run context scope bound place third state) (run context scope one.0 place second state) (run context scope two.0 place first state) one.1 two.1);
}

-- ---- the whole lists of bodies

pub body-preserves-self : (list : Stms) → PreservesBody list list
body-preserves-self list = record {
  forth = λ context scope state start bound. below-refl (run_statements context scope bound list state);
  back = λ context scope state start bound. (bound, below-refl (run_statements context scope bound list state));
}

-- a start of the first is one of the second
body-start-on : (first second : Stms) → PreservesBody first second → (context : Context) (scope : Scope) (state : State Store) → IsBodyStart context scope first state → IsBodyStart context scope second state
body-start-on first second p context scope state start = record {
  typed = start.typed;
  free = λ bound.
      let behind = p.back context scope state start bound in
      free-below First (run_statements context scope behind.0 first state) (run_statements context scope bound second state) behind.1 (start.free behind.0);
}

pub body-preserves-on : (first second third : Stms) → PreservesBody first second → PreservesBody second third → PreservesBody first third
body-preserves-on first second third p q = record {
  forth = λ context scope state start bound.
      below-join (run_statements context scope bound first state) (run_statements context scope bound second state) (run_statements context scope bound third state) (p.forth context scope state start bound)
      (q.forth context scope state (body-start-on first second p context scope state start) bound);
  back = λ context scope state start bound.
      let one = q.back context scope state (body-start-on first second p context scope state start) bound in
      let two = p.back context scope state start one.0 in
      (two.0, below-join (run_statements context scope bound third state) (run_statements context scope one.0 second state) (run_statements context scope two.0 first state) one.1 two.1);
}

-- ---- statements, and Blocks as the whole lists of bodies

block-list : (list other : Stms) → Block list ≡ Block other → list ≡ other
block-list list other e = ap (λ stm. list_of stm list) e
  where
    list_of : Stm → Stms → Stms
    list_of (Block inner) outer = inner
    list_of stm outer = outer

pub keeps-self : (statement : Stm) → Keeps statement statement
keeps-self statement = record {
  statement = preserves-self statement;
  body = λ list other is also. subst (PreservesBody list) (block-list list other (sym is ∙ also)) (body-preserves-self list);
}

pub keeps-on : (first second third : Stms) → Keeps (Block first) (Block second) → Keeps (Block second) (Block third) → Keeps (Block first) (Block third)
keeps-on first second third p q = record {
  statement = preserves-on (Block first) (Block second) (Block third) p.statement q.statement;
  body = λ list other is also. body-preserves-on list second other (p.body list second is refl) (q.body second other refl also);
}
