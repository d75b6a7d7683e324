-- Copies put their values, and so enter a block.
use Rattle.std.proofs.Common.{◌≡◌, ℕ, Bool, false, List, [], ◌∷◌, Option, Some, refl, ap, ◌∙◌, subst}
use Rattle.std.specs.Prelude.{if◌then◌else◌}
use Rattle.dj_names.specs.Types.{JType}
use Rattle.dj_syntax.specs.declared.variable.Var.{Var}
use Rattle.dj_syntax.specs.Trees.{Exp, Stms, Set, Break, Empty, And}
use Rattle.dj_values.specs.Values.{Value}
use Rattle.dj_values.specs.Outcomes.{Reply, Gives, State, Is, bind, outside}
use Rattle.dj_meaning.specs.Conversions.{converted}
use Rattle.dj_meaning.specs.StaticTypes.{Context, Scope, is_same_variable}
use Rattle.dj_meaning.specs.Runs.{Store, Meaning, pure, ◌>>=◌, with, fitted, put, with_value, with_store}
use Rattle.dj_meaning.specs.Completions.{Completion, Normal, sequence}
use Rattle.dj_meaning.specs.Expressions.{value}
use Rattle.dj_meaning.specs.Statements.{Elsewhere}
use Rattle.dj_meaning.specs.Meaning.{run, run_then}
use Rattle.dj_code.specs.MethodCode.{Code}
use Rattle.dj_bytecode.specs.Machine.{Locals, code_from}
use Rattle.dj_typed_states.specs.Held.{AllAre, none, more}
use Rattle.dj_typed_states.specs.Facts.{shapes}
use Rattle.dj_sound.specs.States.{table_of, Stands}
use Rattle.dj_vars.specs.Slots.{slot_value}
use Rattle.dj_vars.specs.Agreeing.{local_variable, parameter_variable, IsThisSlot, IsKept, HasParameters}
use Rattle.dj_vars.proofs.Holding.{named-holds}
use Rattle.dj_blocks_shown.specs.Copies.{Put, put_all, after_puts, IsNoneOf, SameBut, Copy, copied, IsCopyOf, CopiesPut, EdgesEnter}

-- ---- one copy

module _ (context : Context) (scope : Scope) (bound : ℕ) where
  -- a value that is there, and of the variable's type, is put
  set-runs : (variable : Var) (exp : Exp) (type : JType) (found : Value) (state : State Store) → scope variable ≡ Some type → value context scope exp state ≡ Is found state → converted type found ≡ Gives found
      → run context scope bound Elsewhere (Set variable exp) state ≡ Is Normal (with_store (with_value variable (Some found)) state)
  set-runs variable exp type found state typed reads fits =
      ap (λ (here : Option JType). bind (with here (λ type. value context scope exp >>= fitted context.headers type >>= λ kept. put variable (Some kept) >>= λ done. pure kept) state) (λ kept. pure Normal)) typed
      ∙ ap (λ run. bind (bind (bind run (fitted context.headers type)) (λ kept. put variable (Some kept) >>= λ done. pure kept)) (λ kept. pure Normal)) reads
      ∙ ap (λ (reply : Reply Value). bind (bind (outside context.headers reply state) (λ kept. put variable (Some kept) >>= λ done. pure kept)) (λ kept. pure Normal)) fits

  same-but-put : (puts : List Put) (one other : Store) (new : Put) → SameBut puts one other → ((variable : Var) → IsNoneOf puts variable → is_same_variable variable (local_variable new.0) ≡ false)
      → SameBut puts (with_value (local_variable new.0) (Some new.1) one) other
  same-but-put puts one other new same apart = record {
    variables = λ variable none. ap (λ (test : Bool). if test then Some new.1 else one.variables variable) (apart variable none) ∙ same.variables variable none;
    held = same.held;
  }

  copying : (all : List Put) (start : Store) (rest : Stms) (next : Meaning Completion) (copies : List Copy) (puts : List Put) → AllAre (IsCopyOf context scope all start) copies puts
      → ((variable : Var) → IsNoneOf all variable → IsNoneOf puts variable) → (state : State Store) → SameBut all state.store start
      → run_then context scope bound (copied copies rest) next state ≡ run_then context scope bound rest next (with_store (put_all puts) state)
  copying all start rest next [] [] none within state same = refl
  copying all start rest next [] (one ∷ puts) are within state same = elim are [ ]
  copying all start rest next (copy ∷ copies) [] are within state same = elim are [ ]
  copying all start rest next (copy ∷ copies) (one ∷ puts) (more first others) within state same =
      ap (λ run. bind run (sequence (run_then context scope bound (copied copies rest) next)))
      (ap (λ number. run context scope bound Elsewhere (Set (local_variable number) copy.from) state) first.to
      ∙ set-runs (local_variable one.0) copy.from first.type one.1 state (subst (λ number. scope (local_variable number) ≡ Some first.type) first.to first.typed) (first.atom.reads state same) first.fits)
      ∙ copying all start rest next copies puts others (λ variable none. (within variable none).1) (with_store (with_value (local_variable one.0) (Some one.1)) state)
      (same-but-put all state.store start one same (λ variable none. (within variable none).0))

same-as-itself : (puts : List Put) (store : Store) → SameBut puts store store
same-as-itself puts store = record { variables = λ variable none. refl; held = refl }

pub copies_put : CopiesPut
copies_put context scope bound copies puts state are rest next = copying context scope bound puts state.store rest next copies puts are (λ variable none. none) state (same-as-itself puts state.store)

-- ---- edges

put-found : (puts : List Put) (store : Store) (number : ℕ) → (put_all puts store).variables (local_variable number) ≡ after_puts puts number (store.variables (local_variable number))
put-found [] store number = refl
put-found (first ∷ rest) store number = put-found rest (with_value (local_variable first.0) (Some first.1) store) number

-- no copy puts a parameter
parameter-found : (puts : List Put) (store : Store) (number : ℕ) → (put_all puts store).variables (parameter_variable number) ≡ store.variables (parameter_variable number)
parameter-found [] store number = refl
parameter-found (first ∷ rest) store number = parameter-found rest (with_value (local_variable first.0) (Some first.1) store) number

pub put-parameters : (code : Code) (locals : Locals) (puts : List Put) (store : Store) → HasParameters code locals store → HasParameters code locals (put_all puts store)
put-parameters code locals puts store given = record { has = λ number slot at. parameter-found puts store number ∙ given.has number slot at }

pub edges_enter : EdgesEnter
edges_enter context scope parts are says number start some stack from state copies edge bound =
    record {
      number = number;
      comes = record {
        after = with_store (put_all edge.puts) state;
        is = copies_put context scope bound copies edge.puts state edge.copied (And (Break number) Empty) (pure Normal);
        world = edge.world;
      };
      start = start;
      listed = edge.listed;
      there = refl;
      agrees = λ stands. record {
        slots = λ slot variable named other. kept stands slot variable named other;
        itself = edge.itself;
        unborn = edge.unborn stands;
        parameters = λ instance unborn. put-parameters parts.typed.code from.store edge.puts state.store (edge.parameters stands instance unborn);
      };
    }
  where
    kept : (stands : Stands shapes parts.typed.code (table_of parts.typed) (code_from start parts.typed.code.instructions) stack from.store) → (slot variable : ℕ) → parts.vars.of number slot ≡ Some variable → ¬ IsThisSlot parts.typed.code slot
        → IsKept parts.vars.kinds (put_all edge.puts state.store) variable (slot_value parts.typed.code stack from.store slot)
    kept stands slot variable named other = record {
      holds = named-holds parts.typed parts.starts parts.vars are says number start edge.listed some stack from.store stands slot variable named;
      has = put-found edge.puts state.store variable ∙ edge.agree slot variable named other;
    }
