-- What is spilled before an edge leaves what the edge needs: entries that are the next block's variables stay, and no other reads one that is put.
use Rattle.std.proofs.Common.{◌≡◌, ◌≢◌, ℕ, zero, suc, ◌+◌, ◌-◌, ◌<◌, ◌≤◌, eqb, Bool, true, false, List, [], ◌∷◌, length, Option, Some, None, refl, sym, ap, ◌∙◌, subst, arith}
use Rattle.std.proofs.lemmas.Bool.{eqb-true, lt-ltb}
use Rattle.std.specs.Prelude.{if◌then◌else◌, nat_lt, not, ◌&&◌, ◌||◌}
use Rattle.dj_names.specs.Types.{StaticType}
use Rattle.dj_syntax.specs.declared.variable.Var.{Var}
use Rattle.dj_meaning.specs.StaticTypes.{is_same_variable}
use Rattle.dj_rebuilding.specs.Pending.{Atom, Number, Wide, Units, Nothing, Own, Named, exp_of, Pending, Kept, Whole, Born, Again, Built, also, stays, keep, save, spill, and_then}
use Rattle.dj_rebuilding.proofs.Names.{one-variable, same-itself}
use Rattle.dj_rebuilding.proofs.Spills.{AreKept}
use Rattle.dj_blocks_shown.specs.Slots.{from_bottom}
use Rattle.dj_blocks_shown.specs.Agreeing.{local_variable}
use Rattle.dj_edges.specs.Edges.{Source, source_of_name, source_of_entry, source_at, is_own, puts_one, puts_any, slots_at_end, edge_puts, wanted}
use Rattle.dj_edges.specs.Entering.{AssignNothing, EdgesAreCovered, EdgesSpareNames}
use Rattle.dj_edges.proofs.Entering.{eqb-same}

-- ---- plain facts

never : true ≡ false → ⊥
never e = cc

some-is : {A : Type 0} (one other : A) → Some one ≡ Some other → one ≡ other
some-is one other e = cc

none-some : {A P : Type 0} (one : A) → None ≡ Some one → P
none-some one e = absurd (no one e)
  where
    no : {A : Type 0} (one : A) → None ≡ Some one → ⊥
    no one e = cc

or-left : (one other : Bool) → one ≡ true → (one || other) ≡ true
or-left true other e = refl
or-left false other e = absurd (never (sym e))

or-right : (one other : Bool) → other ≡ true → (one || other) ≡ true
or-right true other e = refl
or-right false other e = e

-- ---- entries that stay

-- an entry was put on others
record IsOn (below built : List Pending) : Type 0 where
  top : Pending
  is : built ≡ top ∷ below

kept-on : (type : StaticType) (atom : Atom) (so_far : Built) (test : Bool) → IsOn so_far.stack (if test then keep type atom so_far else save type (exp_of atom) so_far).stack
kept-on type atom so_far true = record { top = _; is = refl }
kept-on type atom so_far false = record { top = _; is = refl }

stays-more : (assigned now : Var → Bool) → ((variable : Var) → now variable ≡ true → assigned variable ≡ true) → (atom : Atom) → stays assigned atom ≡ true → stays now atom ≡ true
stays-more assigned now within (Number number) e = refl
stays-more assigned now within (Wide number) e = refl
stays-more assigned now within (Units units) e = refl
stays-more assigned now within Nothing e = refl
stays-more assigned now within Own e = refl
stays-more assigned now within (Named variable) e = by (now variable) refl
  where
    by : (test : Bool) → now variable ≡ test → not test ≡ true
    by true is = absurd (never (sym e ∙ ap not (within variable is)))
    by false is = refl

-- what stands at a place below a new top
below-top : {A : Type 0} (top : A) (below : List A) (place : ℕ) (one : A) → eqb place (length below) ≡ false → from_bottom below place ≡ Some one → from_bottom (top ∷ below) place ≡ Some one
below-top top below place one other e = ap (λ (test : Bool). if test then Some top else from_bottom below place) other ∙ e

on-top : {A : Type 0} (top : A) (below : List A) (place : ℕ) → eqb place (length below) ≡ true → from_bottom (top ∷ below) place ≡ Some top
on-top top below place same = ap (λ (test : Bool). if test then Some top else from_bottom below place) same

spilled-length : (now : Var → Bool) (n : ℕ) (stack : List Pending) (built : Built) → spill now n stack ≡ Some built → length built.stack ≡ length stack
spilled-length now n [] built e = sym (ap (λ (one : Built). length one.stack) (some-is _ built e))
spilled-length now n (Kept type atom ∷ below) built e = by (λ so_far f. spilled-length now n below so_far f) (spill now n below) refl e
  where
    by : ((so_far : Built) → spill now n below ≡ Some so_far → length so_far.stack ≡ length below) → (so_far : Option Built) → spill now n below ≡ so_far
        → and_then so_far (λ so_far. Some (if stays now atom then keep type atom so_far else save type (exp_of atom) so_far)) ≡ Some built → length built.stack ≡ suc (length below)
    by others None f e = none-some built e
    by others (Some so_far) f e =
        let on = kept-on type atom so_far (stays now atom) in
        sym (ap (λ (one : Built). length one.stack) (some-is _ built e)) ∙ ap length on.is ∙ ap suc (others so_far f)
spilled-length now n (Whole type exp ∷ below) built e = by (λ so_far f. spilled-length (also exp now) n below so_far f) (spill (also exp now) n below) refl e
  where
    by : ((so_far : Built) → spill (also exp now) n below ≡ Some so_far → length so_far.stack ≡ length below) → (so_far : Option Built) → spill (also exp now) n below ≡ so_far
        → and_then so_far (λ so_far. Some (save type exp so_far)) ≡ Some built → length built.stack ≡ suc (length below)
    by others None f e = none-some built e
    by others (Some so_far) f e = sym (ap (λ (one : Built). length one.stack) (some-is _ built e)) ∙ ap suc (others so_far f)
spilled-length now n (Born class ∷ below) built e = none-some built e
spilled-length now n (Again ∷ below) built e = none-some built e

module _ (assigned : Var → Bool) where
  -- an atom that reads nothing that is assigned stays at its place
  spilled-keeps : (now : Var → Bool) → ((variable : Var) → now variable ≡ true → assigned variable ≡ true) → (n : ℕ) (stack : List Pending) → AssignNothing stack → (built : Built) → spill now n stack ≡ Some built
      → (place : ℕ) (type : StaticType) (atom : Atom) → from_bottom stack place ≡ Some (Kept type atom) → stays assigned atom ≡ true → from_bottom built.stack place ≡ Some (Kept type atom)
  spilled-keeps now within n [] assigns built e place type atom there free = none-some (Kept type atom) there
  spilled-keeps now within n (Kept own_type own ∷ below) assigns built e place type atom there free =
      by (λ so_far f there. spilled-keeps now within n below assigns so_far f place type atom there free) (spill now n below) refl e (eqb place (length below)) refl there
    where
      here : (so_far : Built) → Some (if stays now own then keep own_type own so_far else save own_type (exp_of own) so_far) ≡ Some built → Kept own_type own ≡ Kept type atom → eqb place (length so_far.stack) ≡ true → from_bottom built.stack place ≡ Some (Kept type atom)
      here so_far e same top =
          let atoms : own ≡ atom = cc in
          let stay : stays now own ≡ true = ap (stays now) atoms ∙ stays-more assigned now within atom free in
          subst (λ (one : Built). from_bottom one.stack place ≡ Some (Kept type atom)) (ap (λ (test : Bool). if test then keep own_type own so_far else save own_type (exp_of own) so_far) (sym stay) ∙ some-is _ built e)
          (on-top (Kept own_type own) so_far.stack place top ∙ ap Some same)

      by : ((so_far : Built) → spill now n below ≡ Some so_far → from_bottom below place ≡ Some (Kept type atom) → from_bottom so_far.stack place ≡ Some (Kept type atom)) → (so_far : Option Built) → spill now n below ≡ so_far
          → and_then so_far (λ so_far. Some (if stays now own then keep own_type own so_far else save own_type (exp_of own) so_far)) ≡ Some built
          → (test : Bool) → eqb place (length below) ≡ test → (if test then Some (Kept own_type own) else from_bottom below place) ≡ Some (Kept type atom) → from_bottom built.stack place ≡ Some (Kept type atom)
      by others None f e test top there = none-some built e
      by others (Some so_far) f e true top there = here so_far e (some-is _ _ there) (ap (eqb place) (spilled-length now n below so_far f) ∙ top)
      by others (Some so_far) f e false top there =
          let on = kept-on own_type own so_far (stays now own) in
          subst (λ (one : Built). from_bottom one.stack place ≡ Some (Kept type atom)) (some-is _ built e)
          (ap (λ list. from_bottom list place) on.is ∙ below-top on.top so_far.stack place (Kept type atom) (ap (eqb place) (spilled-length now n below so_far f) ∙ top) (others so_far f there))
  spilled-keeps now within n (Whole own_type exp ∷ below) assigns built e place type atom there free =
      by (λ so_far f there. spilled-keeps (also exp now) still n below assigns.1 so_far f place type atom there free) (spill (also exp now) n below) refl e (eqb place (length below)) refl there
    where
      still : (variable : Var) → also exp now variable ≡ true → assigned variable ≡ true
      still variable e = within variable (ap (λ (test : Bool). test || now variable) (sym (assigns.0 variable)) ∙ e)

      by : ((so_far : Built) → spill (also exp now) n below ≡ Some so_far → from_bottom below place ≡ Some (Kept type atom) → from_bottom so_far.stack place ≡ Some (Kept type atom)) → (so_far : Option Built) → spill (also exp now) n below ≡ so_far
          → and_then so_far (λ so_far. Some (save own_type exp so_far)) ≡ Some built
          → (test : Bool) → eqb place (length below) ≡ test → (if test then Some (Whole own_type exp) else from_bottom below place) ≡ Some (Kept type atom) → from_bottom built.stack place ≡ Some (Kept type atom)
      by others None f e test top there = none-some built e
      by others (Some so_far) f e true top there = absurd (other (some-is _ _ there))
        where
          other : Whole own_type exp ≡ Kept type atom → ⊥
          other e = cc
      by others (Some so_far) f e false top there =
          subst (λ (one : Built). from_bottom one.stack place ≡ Some (Kept type atom)) (some-is _ built e)
          (below-top _ so_far.stack place (Kept type atom) (ap (eqb place) (spilled-length (also exp now) n below so_far f) ∙ top) (others so_far f there))
  spilled-keeps now within n (Born class ∷ below) assigns built e place type atom there free = none-some built e
  spilled-keeps now within n (Again ∷ below) assigns built e place type atom there free = none-some built e

-- ---- what is put

-- the variable that is wanted for a slot which is something else is put
puts-found : (want : ℕ → Option ℕ) (sources : ℕ → Option Source) (start count slot variable : ℕ) → start ≤ slot → slot < start + count → want slot ≡ Some variable → is_own variable (sources slot) ≡ false
    → puts_any want sources start count (local_variable variable) ≡ true
puts-found want sources start zero slot variable least most is other = absurd (omega (arith, least, most))
puts-found want sources start (suc count) slot variable least most is other = by (λ least most. puts-found want sources (suc start) count slot variable least most is other) (eqb start slot) refl
  where
    first : (own : Option ℕ) → own ≡ Some variable → (source : Option Source) → is_own variable source ≡ false → puts_one own source (local_variable variable) ≡ true
    first None e source other = none-some variable e
    first (Some own) e source other =
        ap (λ (n : ℕ). not (is_own n source) && is_same_variable (local_variable variable) (local_variable n)) (some-is own variable e)
        ∙ ap (λ (test : Bool). not test && is_same_variable (local_variable variable) (local_variable variable)) other ∙ same-itself (local_variable variable)

    by : (suc start ≤ slot → slot < suc start + count → puts_any want sources (suc start) count (local_variable variable) ≡ true) → (test : Bool) → eqb start slot ≡ test
        → (puts_one (want start) (sources start) (local_variable variable) || puts_any want sources (suc start) count (local_variable variable)) ≡ true
    by others true e =
        let same : start ≡ slot = eqb-true start slot e in
        or-left (puts_one (want start) (sources start) (local_variable variable)) (puts_any want sources (suc start) count (local_variable variable))
        (first (want start) (ap want same ∙ is) (sources start) (ap (λ n. is_own variable (sources n)) same ∙ other))
    by others false e =
        let differ : start ≢ slot = λ same. never (sym (eqb-same start slot same) ∙ e) in
        or-right (puts_one (want start) (sources start) (local_variable variable)) (puts_any want sources (suc start) count (local_variable variable)) (others (omega (arith, least, differ)) (omega (arith, most)))

-- what is put is wanted for a slot that is something else
record IsPut (want : ℕ → Option ℕ) (sources : ℕ → Option Source) (variable : Var) : Type 0 where
  pub slot : ℕ
  pub own : ℕ
  pub wants : want slot ≡ Some own
  pub other : is_own own (sources slot) ≡ false
  pub is : variable ≡ local_variable own

found-put : (want : ℕ → Option ℕ) (sources : ℕ → Option Source) (start count : ℕ) (variable : Var) → puts_any want sources start count variable ≡ true → IsPut want sources variable
found-put want sources start zero variable e = absurd (never (sym e))
found-put want sources start (suc count) variable e = by (λ e. found-put want sources (suc start) count variable e) (puts_one (want start) (sources start) variable) refl e
  where
    first : (own : Option ℕ) → want start ≡ own → puts_one own (sources start) variable ≡ true → IsPut want sources variable
    first None w e = absurd (never (sym e))
    first (Some own) w e = on (is_own own (sources start)) refl (is_same_variable variable (local_variable own)) refl e
      where
        on : (mine : Bool) → is_own own (sources start) ≡ mine → (same : Bool) → is_same_variable variable (local_variable own) ≡ same → (not mine && same) ≡ true → IsPut want sources variable
        on true m same s e = absurd (never (sym e))
        on false m true s e = record { slot = start; own = own; wants = w; other = m; is = one-variable variable (local_variable own) s }
        on false m false s e = absurd (never (sym e))

    by : (puts_any want sources (suc start) count variable ≡ true → IsPut want sources variable) → (test : Bool) → puts_one (want start) (sources start) variable ≡ test → (test || puts_any want sources (suc start) count variable) ≡ true → IsPut want sources variable
    by others true t e = first (want start) refl t
    by others false t e = others e

-- ---- what an edge needs behind what was spilled

-- an entry that is a variable
owned-entry : (variable : ℕ) (found : Option Pending) → is_own variable (source_of_entry found) ≡ true → (type : StaticType) × (found ≡ Some (Kept type (Named (local_variable variable))))
owned-entry variable None e = absurd (never (sym e))
owned-entry variable (Some (Kept type (Number number))) e = absurd (never (sym e))
owned-entry variable (Some (Kept type (Wide number))) e = absurd (never (sym e))
owned-entry variable (Some (Kept type (Units units))) e = absurd (never (sym e))
owned-entry variable (Some (Kept type Nothing)) e = absurd (never (sym e))
owned-entry variable (Some (Kept type Own)) e = absurd (never (sym e))
owned-entry variable (Some (Kept type (Named other))) e = (type, ap (λ one. Some (Kept type (Named one))) (one-variable other (local_variable variable) e))
owned-entry variable (Some (Whole type exp)) e = absurd (never (sym e))
owned-entry variable (Some (Born class)) e = absurd (never (sym e))
owned-entry variable (Some Again) e = absurd (never (sym e))

-- each variable that is put was assigned as the stack was spilled
pub covered : EdgesAreCovered
covered parts number names n stack nothing assigned covers built e slot variable within wants other = by (is_own variable (source_at parts.typed.code.max_locals names stack slot)) refl
  where
    room : slot < slots_at_end parts stack
    room = let same = spilled-length assigned n stack built e in omega (arith, within, same)

    entry : (test : Bool) → nat_lt slot parts.typed.code.max_locals ≡ test
        → is_own variable (if test then source_of_name (names slot) else source_of_entry (from_bottom stack (slot - parts.typed.code.max_locals))) ≡ true
        → is_own variable (if test then source_of_name (names slot) else source_of_entry (from_bottom built.stack (slot - parts.typed.code.max_locals))) ≡ false → assigned (local_variable variable) ≡ true
    entry true t before after = absurd (never (sym before ∙ after))
    entry false t before after = at (assigned (local_variable variable)) refl
      where
        at : (test : Bool) → assigned (local_variable variable) ≡ test → test ≡ true
        at true a = refl
        at false a =
            let found = owned-entry variable (from_bottom stack (slot - parts.typed.code.max_locals)) before in
            let kept = spilled-keeps assigned assigned (λ variable e. e) n stack nothing built e (slot - parts.typed.code.max_locals) found.0 (Named (local_variable variable)) found.1 (ap not a) in
            absurd (never (sym (same-itself (local_variable variable)) ∙ sym (ap (λ one. is_own variable (source_of_entry one)) kept) ∙ after))

    by : (test : Bool) → is_own variable (source_at parts.typed.code.max_locals names stack slot) ≡ test → assigned (local_variable variable) ≡ true
    by true before = entry (nat_lt slot parts.typed.code.max_locals) refl before other
    by false before = covers (local_variable variable) (puts-found (wanted parts number) (source_at parts.typed.code.max_locals names stack) 0 (slots_at_end parts stack) slot variable (omega arith) (omega (arith, room)) wants before)

-- an entry of what was spilled reads nothing that was assigned
pub spared-entry : (assigned : Var → Bool) (stack : List Pending) → AreKept assigned stack → (place : ℕ) (source : Source) (variable : Var) → source_of_entry (from_bottom stack place) ≡ Some source → source.1 ≡ Named variable → assigned variable ≡ false
spared-entry assigned [] kept place source variable there e = none-some source there
spared-entry assigned (Kept type atom ∷ below) kept place source variable there e = by (λ there. spared-entry assigned below kept.1 place source variable there e) (eqb place (length below)) there
  where
    by : (source_of_entry (from_bottom below place) ≡ Some source → assigned variable ≡ false) → (test : Bool) → source_of_entry (if test then Some (Kept type atom) else from_bottom below place) ≡ Some source → assigned variable ≡ false
    by others true there = free (assigned variable) (ap (stays assigned) (sym (ap (λ (one : Source). one.1) (some-is (type, atom) source there) ∙ e)) ∙ kept.0)
      where
        free : (test : Bool) → not test ≡ true → test ≡ false
        free true e = absurd (never (sym e))
        free false e = refl
    by others false there = others there
spared-entry assigned (Whole type exp ∷ below) kept place source variable there e = absurd kept
spared-entry assigned (Born class ∷ below) kept place source variable there e = absurd kept
spared-entry assigned (Again ∷ below) kept place source variable there e = absurd kept

-- a variable by which a slot is named isn't put, where it is wanted for that slot alone
pub spared-name : EdgesSpareNames
spared-name parts number names stack slot type variable within named mine = by (edge_puts parts number names stack variable) refl
  where
    own-then : (put : IsPut (wanted parts number) (source_at parts.typed.code.max_locals names stack) variable) → ⊥
    own-then put =
        let same : put.slot ≡ slot = mine put.slot put.own put.wants put.is in
        let below : nat_lt slot parts.typed.code.max_locals ≡ true = lt-ltb slot parts.typed.code.max_locals within in
        let source : source_at parts.typed.code.max_locals names stack slot ≡ source_of_name (names slot) = ap (λ (test : Bool). if test then source_of_name (names slot) else source_of_entry (from_bottom stack (slot - parts.typed.code.max_locals))) below in
        let is : is_own put.own (source_at parts.typed.code.max_locals names stack put.slot) ≡ true =
        ap (λ n. is_own put.own (source_at parts.typed.code.max_locals names stack n)) same ∙ ap (is_own put.own) (source ∙ ap source_of_name named) ∙ ap (λ one. is_same_variable one (local_variable put.own)) put.is ∙ same-itself (local_variable put.own) in
        never (sym is ∙ put.other)

    by : (test : Bool) → edge_puts parts number names stack variable ≡ test → test ≡ false
    by true e = absurd (own-then (found-put (wanted parts number) (source_at parts.typed.code.max_locals names stack) 0 (slots_at_end parts stack) variable e))
    by false e = refl
