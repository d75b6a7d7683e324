-- A jump behind its copies enters the next block.
use Rattle.std.proofs.Common.{◌≡◌, ◌≢◌, ℕ, zero, suc, ◌+◌, ◌-◌, ◌<◌, ◌≤◌, ◌==◌, eqb, Bool, true, false, List, [], ◌∷◌, ◌++◌, length, Option, Some, None, ⊎_elim, refl, sym, ap, ◌∙◌, subst, arith}
use Rattle.std.proofs.lemmas.Bool.Decides.{eqb_tells}
use Rattle.std.proofs.lemmas.Bool.{eqb-true, ltb-true}
use Rattle.std.specs.Prelude.{if◌then◌else◌, slice_get, slice_index_or, nat_lt, not, ◌&&◌}
use Rattle.dj_names.specs.Types.{JType}
use Rattle.dj_syntax.specs.declared.variable.Var.{Var}
use Rattle.dj_syntax.specs.Trees.{Exp, Break, Empty, And}
use Rattle.dj_values.specs.Values.{Value, Null}
use Rattle.dj_values.specs.Outcomes.{State, Is}
use Rattle.dj_meaning.specs.StaticTypes.{Context, Scope, is_same_variable}
use Rattle.dj_meaning.specs.Runs.{Store, pure, present, with_value, with_store}
use Rattle.dj_meaning.specs.Completions.{Normal}
use Rattle.dj_meaning.specs.Completions as completions
use Rattle.dj_meaning.specs.Expressions.{value}
use Rattle.dj_meaning.specs.Meaning.{run_then}
use Rattle.dj_instructions.specs.Instructions.{Instructions}
use Rattle.dj_code.specs.MethodCode.{Code}
use Rattle.dj_values.specs.Fits.{is_static}
use Rattle.dj_bytecode.specs.Meanings.{meaning_of}
use Rattle.dj_bytecode.specs.Machine.{Locals, code_from}
use Rattle.dj_typed_states.specs.Held.{AllAre, none, more}
use Rattle.dj_rebuilding.specs.Pending.{Atom, Number, Wide, Units, Nothing, Own, Named, exp_of, Pending, and_then}
use Rattle.dj_rebuilding.specs.Agreeing.{atom_value}
use Rattle.dj_rebuilding.proofs.Names.{one-variable}
use Rattle.dj_rebuilding.proofs.Spills.{atom-reads}
use Rattle.dj_rebuilt.specs.Rebuilding.{Names}
use Rattle.dj_blocks_shown.specs.Slots.{from_bottom, slot_value}
use Rattle.dj_blocks_shown.specs.Naming.{written_slot, Typing, AreVars}
use Rattle.dj_blocks_shown.specs.Agreeing.{local_variable, NeverWrites, KeepsThis, IsThisSlot}
use Rattle.dj_blocks_shown.proofs.Holding.{named-holds}
use Rattle.dj_blocks_shown.specs.Copies.{Put, put_all, after_puts, IsNoneOf, Copy, copied, IsCopyOf}
use Rattle.dj_blocks_shown.specs.Leaving.{Parts, Enters}
use Rattle.dj_blocks_shown.proofs.Catching.{first_fails, second_fails}
use Rattle.dj_blocks_shown.proofs.Copying.{copies_put, put-parameters}
use Rattle.dj_edges.specs.Edges.{is_slot, writes_slot, keeps_this, Source, source_at, is_own_atom, is_own, wanted, slots_at_end, Dress, one_copy, copy_into, copy_slot, copies}
use Rattle.dj_edges.specs.Entering.{Dresses, IsSourced, MayJump, EdgesEnterBlocks}

-- ---- plain facts

never : true ≡ false → ⊥
never e = cc

some-is : {A : Type 0} (one other : A) → Some one ≡ Some other → one ≡ other
some-is one other e = cc

none-some : {A P : Type 0} (one : A) → None ≡ Some one → P
none-some one e = absurd (no one e)
  where
    no : {A : Type 0} (one : A) → None ≡ Some one → ⊥
    no one e = cc

all-append : {A B : Type 0} {Is : A → B → Type 0} {ones tail : List A} {others rest : List B} → AllAre Is ones others → AllAre Is tail rest → AllAre Is (ones ++ tail) (others ++ rest)
all-append none second = second
all-append (more first others) second = more first (all-append others second)

after-append : (puts others : List Put) (number : ℕ) (found : Option Value) → after_puts (puts ++ others) number found ≡ after_puts others number (after_puts puts number found)
after-append [] others number found = refl
after-append (first ∷ rest) others number found = after-append rest others number (if number == first.0 then Some first.1 else found)

put-found : (puts : List Put) (store : Store) (number : ℕ) → (put_all puts store).variables (local_variable number) ≡ after_puts puts number (store.variables (local_variable number))
put-found [] store number = refl
put-found (first ∷ rest) store number = put-found rest (with_value (local_variable first.0) (Some first.1) store) number

apart-test : (one other : ℕ) → one ≢ other → eqb one other ≡ false
apart-test one other differ = ⊎_elim (λ both. absurd (differ both.1)) (λ both. both.0) (eqb_tells one other)

pub eqb-same : (one other : ℕ) → one ≡ other → eqb one other ≡ true
eqb-same one other same = ⊎_elim (λ both. both.0) (λ both. absurd (both.1 same)) (eqb_tells one other)

-- an atom has the same value where the variable that it reads has
atom-same : (context : Context) (atom : Atom) (one other : Store) → ((variable : Var) → atom ≡ Named variable → one.variables variable ≡ other.variables variable) → atom_value context atom one ≡ atom_value context atom other
atom-same context (Number number) one other same = refl
atom-same context (Wide number) one other same = refl
atom-same context (Units units) one other same = refl
atom-same context Nothing one other same = refl
atom-same context Own one other same = refl
atom-same context (Named variable) one other same = same variable refl

-- what is a variable has its value
own-value : (context : Context) (variable : ℕ) (atom : Atom) (store : Store) → is_own_atom variable atom ≡ true → atom_value context atom store ≡ store.variables (local_variable variable)
own-value context variable (Number number) store e = absurd (never (sym e))
own-value context variable (Wide number) store e = absurd (never (sym e))
own-value context variable (Units units) store e = absurd (never (sym e))
own-value context variable Nothing store e = absurd (never (sym e))
own-value context variable Own store e = absurd (never (sym e))
own-value context variable (Named other) store e = ap store.variables (one-variable other (local_variable variable) e)

-- ---- the copies of an edge

module _ (context : Context) (scope : Scope) (dress : Dress) (kinds : List JType) (want : ℕ → Option ℕ) (sources : ℕ → Option Source) (slots : ℕ → Option Value) (assigned : Var → Bool) (store : Store)
    (sourced : (slot : ℕ) (source : Source) → sources slot ≡ Some source → IsSourced context scope store source (slots slot))
    (spared : (slot : ℕ) (source : Source) (variable : Var) → sources slot ≡ Some source → source.1 ≡ Named variable → assigned variable ≡ false)
    (room : ℕ) (covers : (slot variable : ℕ) → slot < room → want slot ≡ Some variable → is_own variable (sources slot) ≡ false → assigned (local_variable variable) ≡ true)
    (typed : (variable : ℕ) (type : JType) → slice_get kinds variable ≡ Some type → scope (local_variable variable) ≡ Some type)
    (dresses : Dresses context scope dress) where
  abbrev value_of : Option Value → Value
  value_of None = Null
  value_of (Some value) = value

  -- the values that are put
  abbrev put_from : ℕ → Option Source → Option Value → List Put
  put_from variable None found = []
  put_from variable (Some source) found = if is_own_atom variable source.1 then [] else (variable, value_of found) ∷ []

  abbrev put_slot : Option ℕ → Option Source → Option Value → List Put
  put_slot None source found = []
  put_slot (Some variable) source found = put_from variable source found

  abbrev puts : ℕ → ℕ → List Put
  puts slot zero = []
  puts slot (suc left) = put_slot (want slot) (sources slot) (slots slot) ++ puts (suc slot) left

  -- each is put into a variable that may be assigned
  abbrev AreAssigned : List Put → Type 0
  AreAssigned [] = Unit {0}
  AreAssigned (first ∷ rest) = (assigned (local_variable first.0) ≡ true) × AreAssigned rest

  assigned-append : (one other : List Put) → AreAssigned one → AreAssigned other → AreAssigned (one ++ other)
  assigned-append [] other h k = k
  assigned-append (first ∷ rest) other h k = (h.0, assigned-append rest other h.1 k)

  assigned-slot : (slot : ℕ) → slot < room → (own : Option ℕ) (source : Option Source) (found : Option Value) → want slot ≡ own → sources slot ≡ source → AreAssigned (put_slot own source found)
  assigned-slot slot within None source found is from = tt
  assigned-slot slot within (Some variable) None found is from = tt
  assigned-slot slot within (Some variable) (Some source) found is from = by (is_own_atom variable source.1) refl
    where
      by : (test : Bool) → is_own_atom variable source.1 ≡ test → AreAssigned (if test then [] else (variable, value_of found) ∷ [])
      by true e = tt
      by false e = (covers slot variable within is (ap (is_own variable) from ∙ e), tt)

  all-assigned : (slot left : ℕ) → slot + left ≤ room → AreAssigned (puts slot left)
  all-assigned slot zero within = tt
  all-assigned slot (suc left) within = assigned-append (put_slot (want slot) (sources slot) (slots slot)) (puts (suc slot) left) (assigned-slot slot (omega (arith, within)) (want slot) (sources slot) (slots slot) refl refl) (all-assigned (suc slot) left (omega (arith, within)))

  -- what isn't assigned isn't put
  none-put : (list : List Put) → AreAssigned list → (variable : Var) → assigned variable ≡ false → IsNoneOf list variable
  none-put [] h variable free = tt
  none-put (first ∷ rest) h variable free = (by (is_same_variable variable (local_variable first.0)) refl, none-put rest h.1 variable free)
    where
      by : (test : Bool) → is_same_variable variable (local_variable first.0) ≡ test → test ≡ false
      by true e = absurd (never (sym h.0 ∙ sym (ap assigned (one-variable variable (local_variable first.0) e)) ∙ free))
      by false e = refl

  -- ---- each copy puts its value

  module _ (all : List Put) (are : AreAssigned all) where
    one-copied : (slot variable : ℕ) (source : Source) → sources slot ≡ Some source → (type : JType) → slice_get kinds variable ≡ Some type → (exp : Exp) → dress source.0 type (exp_of source.1) ≡ Some exp
        → IsCopyOf context scope all store (record { to = variable; from = exp }) (variable, value_of (slots slot))
    one-copied slot variable source is type known exp dressed =
        let s = sourced slot source is in
        subst (λ (one : Value). IsCopyOf context scope all store (record { to = variable; from = exp }) (variable, one)) (sym (ap value_of s.there)) (record {
          to = refl;
          type = type;
          typed = typed variable type known;
          fits = dresses.fits source.0 type (exp_of source.1) exp dressed s.value s.kept;
          atom = record {
            reads = λ state same. dresses.keeps source.0 type (exp_of source.1) exp dressed s.typed s.value s.kept state
                (atom-reads context scope source.0 source.1 state.store state.world s.typed
                ∙ ap (λ found. present found state) (atom-same context source.1 state.store store (λ variable e. same.variables variable (none-put all are variable (spared slot source variable is e))) ∙ s.has));
          };
        })

    slot-copied : (slot : ℕ) (own : Option ℕ) (source : Option Source) → want slot ≡ own → sources slot ≡ source → (list : List Copy) → copy_slot dress kinds own source ≡ Some list
        → AllAre (IsCopyOf context scope all store) list (put_slot own source (slots slot))
    slot-copied slot None source is from list e = subst (λ list. AllAre (IsCopyOf context scope all store) list []) (some-is [] list e) none
    slot-copied slot (Some variable) None is from list e = none-some list e
    slot-copied slot (Some variable) (Some source) is from list e = by (is_own_atom variable source.1) e
      where
        dressed : (type : JType) → slice_get kinds variable ≡ Some type → (exp : Option Exp) → dress source.0 type (exp_of source.1) ≡ exp → and_then exp (λ exp. Some (one_copy variable exp)) ≡ Some list
            → AllAre (IsCopyOf context scope all store) list ((variable, value_of (slots slot)) ∷ [])
        dressed type known None d e = none-some list e
        dressed type known (Some exp) d e = subst (λ list. AllAre (IsCopyOf context scope all store) list ((variable, value_of (slots slot)) ∷ [])) (some-is (one_copy variable exp) list e) (more (one-copied slot variable source from type known exp d) none)

        into : (type : Option JType) → slice_get kinds variable ≡ type → copy_into dress variable source type ≡ Some list → AllAre (IsCopyOf context scope all store) list ((variable, value_of (slots slot)) ∷ [])
        into None known e = none-some list e
        into (Some type) known e = dressed type known (dress source.0 type (exp_of source.1)) refl e

        by : (test : Bool) → (if test then Some [] else copy_into dress variable source (slice_get kinds variable)) ≡ Some list
            → AllAre (IsCopyOf context scope all store) list (if test then [] else (variable, value_of (slots slot)) ∷ [])
        by true e = subst (λ list. AllAre (IsCopyOf context scope all store) list []) (some-is [] list e) none
        by false e = into (slice_get kinds variable) refl e

    all-copied : (slot left : ℕ) (list : List Copy) → copies dress kinds want sources slot left ≡ Some list → AllAre (IsCopyOf context scope all store) list (puts slot left)
    all-copied slot zero list e = subst (λ list. AllAre (IsCopyOf context scope all store) list []) (some-is [] list e) none
    all-copied slot (suc left) list e = by (λ rest r. all-copied (suc slot) left rest r) (copy_slot dress kinds (want slot) (sources slot)) refl (copies dress kinds want sources (suc slot) left) refl e
      where
        by : ((rest : List Copy) → copies dress kinds want sources (suc slot) left ≡ Some rest → AllAre (IsCopyOf context scope all store) rest (puts (suc slot) left)) → (first : Option (List Copy)) → copy_slot dress kinds (want slot) (sources slot) ≡ first → (rest : Option (List Copy)) → copies dress kinds want sources (suc slot) left ≡ rest
            → and_then first (λ first. and_then rest (λ rest. Some (first ++ rest))) ≡ Some list → AllAre (IsCopyOf context scope all store) list (put_slot (want slot) (sources slot) (slots slot) ++ puts (suc slot) left)
        by others None f rest r e = none-some list e
        by others (Some first) f None r e = none-some list e
        by others (Some first) f (Some rest) r e = subst (λ list. AllAre (IsCopyOf context scope all store) list (put_slot (want slot) (sources slot) (slots slot) ++ puts (suc slot) left)) (some-is (first ++ rest) list e)
            (all-append (slot-copied slot (want slot) (sources slot) refl refl first f) (others rest r))

  -- ---- what the variables have then

  module _ (apart : (one other variable : ℕ) → want one ≡ Some variable → want other ≡ Some variable → one ≡ other) where
    one-absent : (variable : ℕ) (own : Option ℕ) (source : Option Source) (found before : Option Value) → own ≢ Some variable → after_puts (put_slot own source found) variable before ≡ before
    one-absent variable None source found before other = refl
    one-absent variable (Some own) None found before other = refl
    one-absent variable (Some own) (Some source) found before other = by (is_own_atom own source.1)
      where
        by : (test : Bool) → after_puts (if test then [] else (own, value_of found) ∷ []) variable before ≡ before
        by true = refl
        by false = ap (λ (test : Bool). if test then Some (value_of found) else before) (apart-test variable own (λ same. other (ap Some (sym same))))

    all-absent : (slot left variable : ℕ) (before : Option Value) → ((other : ℕ) → slot ≤ other → want other ≢ Some variable) → after_puts (puts slot left) variable before ≡ before
    all-absent slot zero variable before other = refl
    all-absent slot (suc left) variable before differ =
        after-append (put_slot (want slot) (sources slot) (slots slot)) (puts (suc slot) left) variable before
        ∙ ap (λ before. after_puts (puts (suc slot) left) variable before) (one-absent variable (want slot) (sources slot) (slots slot) before (differ slot (omega arith)))
        ∙ all-absent (suc slot) left variable before (λ other least. differ other (omega (arith, least)))

    -- what a slot's variable has behind its copy, where its source is known
    one-after : (variable : ℕ) (own : Option ℕ) (source : Source) (found : Option Value) (before : Option Value) → own ≡ Some variable → IsSourced context scope store source found → before ≡ store.variables (local_variable variable)
        → after_puts (put_slot own (Some source) found) variable before ≡ found
    one-after variable None source found before is s from = none-some variable is
    one-after variable (Some own) source found before is s from = by (is_own_atom own source.1) refl
      where
        same : own ≡ variable
        same = some-is own variable is

        by : (test : Bool) → is_own_atom own source.1 ≡ test → after_puts (if test then [] else (own, value_of found) ∷ []) variable before ≡ found
        by true e = from ∙ sym (own-value context variable source.1 store (subst (λ (one : ℕ). is_own_atom one source.1 ≡ true) same e)) ∙ s.has ∙ sym s.there
        by false e = ap (λ (test : Bool). if test then Some (value_of found) else before) (eqb-same variable own (sym same)) ∙ ap (λ found. Some (value_of found)) s.there ∙ sym s.there

    slot-known : (own : Option ℕ) (source : Option Source) (variable : ℕ) → own ≡ Some variable → (list : List Copy) → copy_slot dress kinds own source ≡ Some list → (known : Source) × (source ≡ Some known)
    slot-known None source variable is list e = none-some variable is
    slot-known (Some own) None variable is list e = none-some list e
    slot-known (Some own) (Some source) variable is list e = (source, refl)

    all-after : (slot left : ℕ) (list : List Copy) → copies dress kinds want sources slot left ≡ Some list → (here variable : ℕ) → slot ≤ here → here < slot + left → want here ≡ Some variable
        → (before : Option Value) → before ≡ store.variables (local_variable variable) → after_puts (puts slot left) variable before ≡ slots here
    all-after slot zero list e here variable least most is before from = absurd (omega (arith, least, most))
    all-after slot (suc left) list e here variable least most is before from =
        by (λ rest r least most. all-after (suc slot) left rest r here variable least most is before from) (copy_slot dress kinds (want slot) (sources slot)) refl (copies dress kinds want sources (suc slot) left) refl e
      where
        first-known : (one : List Copy) → copy_slot dress kinds (want slot) (sources slot) ≡ Some one → slot ≡ here → after_puts (put_slot (want slot) (sources slot) (slots slot)) variable before ≡ slots here
        first-known one f same =
            let wants : want slot ≡ Some variable = ap want same ∙ is in
            let known = slot-known (want slot) (sources slot) variable wants one f in
            ap (λ source. after_puts (put_slot (want slot) source (slots slot)) variable before) known.1
            ∙ one-after variable (want slot) known.0 (slots slot) before wants (sourced slot known.0 known.1) from
            ∙ ap slots same

        here-or-later : ((rest : List Copy) → copies dress kinds want sources (suc slot) left ≡ Some rest → suc slot ≤ here → here < suc slot + left → after_puts (puts (suc slot) left) variable before ≡ slots here)
            → (one : List Copy) → copy_slot dress kinds (want slot) (sources slot) ≡ Some one → (rest : List Copy) → copies dress kinds want sources (suc slot) left ≡ Some rest → (test : Bool) → eqb slot here ≡ test
            → after_puts (puts (suc slot) left) variable (after_puts (put_slot (want slot) (sources slot) (slots slot)) variable before) ≡ slots here
        here-or-later others one f rest r true e =
            let same : slot ≡ here = eqb-true slot here e in
            all-absent (suc slot) left variable (after_puts (put_slot (want slot) (sources slot) (slots slot)) variable before) (λ other later wants. absurd (let equal = apart here other variable is wants in omega (arith, later, equal, same)))
            ∙ first-known one f same
        here-or-later others one f rest r false e =
            let differ : slot ≢ here = λ same. never (sym (eqb-same slot here same) ∙ e) in
            ap (λ before. after_puts (puts (suc slot) left) variable before) (one-absent variable (want slot) (sources slot) (slots slot) before (λ wants. differ (apart slot here variable wants is)))
            ∙ others rest r (omega (arith, least, differ)) (omega (arith, most))

        by : ((rest : List Copy) → copies dress kinds want sources (suc slot) left ≡ Some rest → suc slot ≤ here → here < suc slot + left → after_puts (puts (suc slot) left) variable before ≡ slots here)
            → (one : Option (List Copy)) → copy_slot dress kinds (want slot) (sources slot) ≡ one → (rest : Option (List Copy)) → copies dress kinds want sources (suc slot) left ≡ rest
            → and_then one (λ first. and_then rest (λ rest. Some (first ++ rest))) ≡ Some list → after_puts (put_slot (want slot) (sources slot) (slots slot) ++ puts (suc slot) left) variable before ≡ slots here
        by others None f rest r e = none-some list e
        by others (Some one) f None r e = none-some list e
        by others (Some one) f (Some rest) r e =
            after-append (put_slot (want slot) (sources slot) (slots slot)) (puts (suc slot) left) variable before ∙ here-or-later others one f rest r (eqb slot here) refl

-- ---- slots that hold something

bottom-within : {A : Type 0} (list : List A) (place : ℕ) (one : A) → from_bottom list place ≡ Some one → place < length list
bottom-within [] place one e = none-some one e
bottom-within (top ∷ below) place one e = by (λ found. bottom-within below place one found) (eqb place (length below)) refl e
  where
    by : (from_bottom below place ≡ Some one → place < length below) → (test : Bool) → eqb place (length below) ≡ test → (if test then Some top else from_bottom below place) ≡ Some one → place < suc (length below)
    by within true same found = let equal = eqb-true place (length below) same in omega arith
    by within false same found = let less = within found in omega arith

slot-within : (code : Code) (values : List Value) (locals : Locals) (slot : ℕ) (one : Value) → slot_value code values locals slot ≡ Some one → slot < code.max_locals + length values
slot-within code values locals slot one e = by (nat_lt slot code.max_locals) refl e
  where
    by : (test : Bool) → nat_lt slot code.max_locals ≡ test → (if test then slice_index_or locals slot None else from_bottom values (slot - code.max_locals)) ≡ Some one → slot < code.max_locals + length values
    by true same found = let less = ltb-true slot code.max_locals same in omega arith
    by false same found = let less = bottom-within values (slot - code.max_locals) one found in omega arith

-- ---- `this`

never-writes : (slot : ℕ) (list : Instructions) → writes_slot slot list ≡ false → NeverWrites slot list
never-writes slot [] e = tt
never-writes slot (first ∷ rest) e = (λ writes. never (sym (ap (is_slot slot) writes ∙ eqb-same slot slot refl) ∙ first_fails (is_slot slot (written_slot (meaning_of [] [] first.1))) (writes_slot slot rest) e), never-writes slot rest (second_fails (is_slot slot (written_slot (meaning_of [] [] first.1))) (writes_slot slot rest) e))

not-true : (test : Bool) → not test ≡ true → test ≡ false
not-true true e = absurd (never (sym e))
not-true false e = refl

both-true : (one other : Bool) → (one && other) ≡ true → (one ≡ true) × (other ≡ true)
both-true true true e = (refl, refl)
both-true true false e = absurd (never (sym e))
both-true false other e = absurd (never (sym e))

pub kept-this : (code : Code) → keeps_this code ≡ true → KeepsThis code
kept-this code e =
    let both = both-true (not (is_static code.flags)) (not (writes_slot 0 code.instructions)) e in
    record { instance = not-true (is_static code.flags) both.0; never = never-writes 0 code.instructions (not-true (writes_slot 0 code.instructions) both.1) }

-- a slot that isn't looked at as `this` is wanted as its block has it, and the other way round
pub wanted-of : (parts : Parts) (number slot variable : ℕ) → wanted parts number slot ≡ Some variable → parts.vars.of number slot ≡ Some variable
wanted-of parts number slot variable e = by (keeps_this parts.typed.code && slot == 0) e
  where
    by : (test : Bool) → (if test then None else parts.vars.of number slot) ≡ Some variable → parts.vars.of number slot ≡ Some variable
    by true e = none-some variable e
    by false e = e

pub of-wanted : (parts : Parts) (number slot variable : ℕ) → parts.vars.of number slot ≡ Some variable → ¬ IsThisSlot parts.typed.code slot → wanted parts number slot ≡ Some variable
of-wanted parts number slot variable e other = by (keeps_this parts.typed.code && slot == 0) refl
  where
    by : (test : Bool) → (keeps_this parts.typed.code && slot == 0) ≡ test → (if test then None else parts.vars.of number slot) ≡ Some variable
    by true is = let both = both-true (keeps_this parts.typed.code) (slot == 0) is in absurd (other (kept-this parts.typed.code both.0, eqb-true slot 0 both.1))
    by false is = e

pub wanted-apart : (parts : Parts) → AreVars parts.typed parts.starts parts.vars → (number one other variable : ℕ) → wanted parts number one ≡ Some variable → wanted parts number other ≡ Some variable → one ≡ other
wanted-apart parts are number one other variable first second =
    let mine = are.of_type number one variable (wanted-of parts number one variable first) in
    let its = are.of_type number other variable (wanted-of parts number other variable second) in
    ap (λ (typing : Typing). typing.slot) (are.apart (record { slot = one; type = mine.0 }) (record { slot = other; type = its.0 }) mine.1 its.1 (mine.2 ∙ sym its.2))

-- ---- the law

module _ (context : Context) (scope : Scope) (bound : ℕ) (dress : Dress) (parts : Parts) (are : AreVars parts.typed parts.starts parts.vars) (number : ℕ) (assigned : Var → Bool) (names : Names) (stack : List Pending) (values : List Value) (from : State Locals) (state : State Store)
    (may : MayJump context scope dress parts number assigned names stack state.store values from.store) where
  abbrev end_sources : ℕ → Option Source
  end_sources = source_at parts.typed.code.max_locals names stack

  abbrev end_slots : ℕ → Option Value
  end_slots = slot_value parts.typed.code values from.store

  abbrev all_puts : List Put
  all_puts = puts context scope dress parts.vars.kinds (wanted parts number) end_sources end_slots assigned state.store may.sources may.spared (slots_at_end parts stack) may.covers may.typed may.dresses 0 (slots_at_end parts stack)

  has-then : (list : List Copy) → copies dress parts.vars.kinds (wanted parts number) end_sources 0 (slots_at_end parts stack) ≡ Some list → (slot variable : ℕ) → parts.vars.of number slot ≡ Some variable → ¬ IsThisSlot parts.typed.code slot
      → (one : Value) → end_slots slot ≡ Some one → (put_all all_puts state.store).variables (local_variable variable) ≡ end_slots slot
  has-then list are_copies slot variable named other one there =
      let less = slot-within parts.typed.code values from.store slot one there in
      put-found all_puts state.store variable
      ∙ all-after context scope dress parts.vars.kinds (wanted parts number) end_sources end_slots assigned state.store may.sources may.spared (slots_at_end parts stack) may.covers may.typed may.dresses (wanted-apart parts are number)
      0 (slots_at_end parts stack) list are_copies slot variable (omega arith) (omega (arith, less, may.height)) (of-wanted parts number slot variable named other)
      (state.store.variables (local_variable variable)) refl

  jump-runs : (list : List Copy) → copies dress parts.vars.kinds (wanted parts number) end_sources 0 (slots_at_end parts stack) ≡ Some list
      → run_then context scope bound (copied list (And (Break number) Empty)) (pure Normal) state ≡ Is (completions.Break number) (with_store (put_all all_puts) state)
  jump-runs list found =
      copies_put context scope bound list all_puts state
      (all-copied context scope dress parts.vars.kinds (wanted parts number) end_sources end_slots assigned state.store may.sources may.spared (slots_at_end parts stack) may.covers may.typed may.dresses all_puts
      (all-assigned context scope dress parts.vars.kinds (wanted parts number) end_sources end_slots assigned state.store may.sources may.spared (slots_at_end parts stack) may.covers may.typed may.dresses 0 (slots_at_end parts stack) (omega arith)) 0 (slots_at_end parts stack) list found)
      (And (Break number) Empty) (pure Normal)

pub edges_enter_blocks : EdgesEnterBlocks
edges_enter_blocks context scope bound dress parts are says number start listed some assigned names stack values from state world may itself unborn given statements e =
    by (copies dress parts.vars.kinds (wanted parts number) (source_at parts.typed.code.max_locals names stack) 0 (slots_at_end parts stack)) refl e
  where
    by : (list : Option (List Copy)) → copies dress parts.vars.kinds (wanted parts number) (source_at parts.typed.code.max_locals names stack) 0 (slots_at_end parts stack) ≡ list → and_then list (λ list. Some (copied list (And (Break number) Empty))) ≡ Some statements
        → Enters parts context.this (code_from start parts.typed.code.instructions) values from (run_then context scope bound statements (pure Normal) state)
    by None found e = none-some statements e
    by (Some list) found e = subst (λ last. Enters parts context.this (code_from start parts.typed.code.instructions) values from (run_then context scope bound last (pure Normal) state)) (some-is (copied list (And (Break number) Empty)) statements e) (record {
      number = number;
      comes = record {
        after = with_store (put_all (all_puts context scope bound dress parts are number assigned names stack values from state may)) state;
        is = jump-runs context scope bound dress parts are number assigned names stack values from state may list found;
        world = world;
      };
      start = start;
      listed = listed;
      there = refl;
      agrees = λ stands. record {
        slots = λ slot variable named other.
            let holds = named-holds parts.typed parts.starts parts.vars are says number start listed some values from.store stands slot variable named in
            record { holds = holds; has = has-then context scope bound dress parts are number assigned names stack values from state may list found slot variable named other holds.value holds.there };
        itself = itself;
        unborn = unborn stands;
        parameters = λ instance is_unborn.
            put-parameters parts.typed.code from.store (all_puts context scope bound dress parts are number assigned names stack values from state may) state.store (given stands instance is_unborn);
      };
    })
