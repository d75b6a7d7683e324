-- The instructions of a block may stand where they do.
use Rattle.std.proofs.Common.{◌≡◌, ◌≢◌, ℕ, suc, ◌<◌, ◌≤◌, ◌==◌, Bool, true, false, List, [], ◌∷◌, drop, Contains, Option, Some, None, IsSome, IsSomeAnd, ◌⊎◌, inl, inr, refl, sym, ap, ◌∙◌, subst, arith, IfSome}
use Rattle.std.specs.Prelude.{if◌then◌else◌, slice_get, ◌||◌}
use Rattle.std.proofs.lemmas.Bool.{cases_order, eqb-true}
use Rattle.dj_names.specs.declared.header.Header.{Header}
use Rattle.dj_names.specs.Headers.{Name}
use Rattle.dj_instructions.specs.declared.kinds.Kind.{Kind}
use Rattle.dj_instructions.specs.Instructions.{Instruction, Instructions}
use Rattle.dj_instructions.specs.Instructions as op
use Rattle.dj_frames.specs.Frames.{UnbornThis}
use Rattle.dj_code.specs.MethodCode.{Code, Typed}
use Rattle.dj_tags.specs.Goes.{Working}
use Rattle.dj_tags.specs.Laxly.{Strictly}
use Rattle.dj_effects.specs.Rows.{work}
use Rattle.dj_effects.specs.Effects.{or_top, effect}
use Rattle.dj_starts.specs.declared.roles.Role.TheVariants as role
use Rattle.dj_starts.specs.Births.{role_of, IsAllowed}
use Rattle.dj_starts.specs.Control.{control_of, falls_through, ends_block}
use Rattle.dj_starts.specs.Edges.{Reaches}
use Rattle.dj_starts.specs.Starts as begins
use Rattle.dj_verify.specs.Rules as rules_of
use Rattle.dj_verify.specs.Rules.{entry, falls, given, FrameKeeps}
use Rattle.dj_verify.specs.declared.rule.Rule.TheVariants as rule
use Rattle.dj_bytecode.specs.Machine.{pc_of}
use Rattle.dj_bytecode.specs.Meanings.{meaning_of, arguments_of}
use Rattle.dj_sound.specs.States.{table_of}
use Rattle.dj_rebuilt.specs.Sorts.{Sort, Loading, Storing, Counting, Moving, Doubling, Dropping, Making, Calling, Throwing, Idle, Other, sort_of}
use Rattle.dj_rebuilt.specs.Rebuilding.{continues}
use Rattle.dj_rebuilt.proofs.Behind.{goes-behind}
use Rattle.dj_rebuilt.specs.Located.{IsBehind, AllStandIn}
use Rattle.dj_rebuildable.specs.Beside.{is_open}
use Rattle.dj_rebuildable.specs.Walking.{pushes_atom, makes, atoms_kept, atoms_behind, IsReachedAt, MayStandInBirth, MayStand, AllMayStand}
use Rattle.dj_blocks_shown.specs.Leaving.{is_start}
use Rattle.dj_blocks_shown.specs.Walks.{AreStarts, LeadsToBlocks}
use Rattle.dj_blocks_shown.proofs.Walking.{drop-next, starts-here, rising-from, listed-at, falls-to, leads-at}
use Rattle.dj_blocks_shown.proofs.Even.{any-start}
use Rattle.dj_standing.specs.Standing.{IsPlain, BlocksMayStand, StartsAreBorn, RestsAreOwn}
use Rattle.dj_standing.proofs.Tags.{Fine, Nowhere, IsFine, fine-wider, fine-get, all-wider, all-both, closed-fine, open-one, opens, none-open, fine-effect}
use Rattle.dj_standing.proofs.Exits.{never, goes-on, new-makes, makes-new, stores-never}
use Rattle.dj_standing.proofs.Places.{code-here, frame-at, frame-there, role_at, role-next, pushed_at, pushed-next, pushed-is, between-at, bearing-is}
use Rattle.dj_standing.proofs.Open.{same-falls, IsOpenAt, At, known, flows-on, met-here, ends-here, ends-silent, may-stand, falls-open, open-here, given-is, no-start}

-- nothing is asked of an object of a `new`
abbrev Any : ℕ → Type 0
Any start = Unit {0}

-- an offset that passes the test for starts is one
started : (starts : List ℕ) (pc : ℕ) → is_start starts pc ≡ true → Contains starts pc
started [] pc e = never e
started (first ∷ rest) pc e = by (first == pc) refl e (started rest pc)
  where
    later : Contains rest pc → Contains (first ∷ rest) pc
    later has = (suc has.0, omega (arith, has.1), has.2)

    by : (test : Bool) → first == pc ≡ test → (test || is_start rest pc) ≡ true → (is_start rest pc ≡ true → Contains rest pc) → Contains (first ∷ rest) pc
    by true same e more = (0, omega arith, eqb-true first pc same)
    by false same e more = later (more e)

-- more atoms stay more
kept-more : (sort : Sort) (few many : ℕ) → few ≤ many → atoms_kept sort few ≤ atoms_kept sort many
kept-more (Loading of slot) few many less = omega arith
kept-more (Storing of slot) few many less = omega arith
kept-more (Counting slot amount) few many less = omega arith
kept-more (Moving forms) few many less = omega arith
kept-more Doubling few many less = omega arith
kept-more (Dropping two) few many less = omega arith
kept-more (Making class) few many less = omega arith
kept-more (Calling arguments) few many less = omega arith
kept-more Throwing few many less = omega arith
kept-more Idle few many less = less
kept-more Other few many less = omega arith

more-behind : (instruction : Instruction) (few many : ℕ) → few ≤ many → atoms_behind instruction few ≤ atoms_behind instruction many
more-behind instruction few many less = by (pushes_atom instruction)
  where
    by : (test : Bool) → (if test then suc few else atoms_kept (sort_of instruction) few) ≤ (if test then suc many else atoms_kept (sort_of instruction) many)
    by true = omega (arith, less)
    by false = kept-more (sort_of instruction) few many less

module _ (world : List Header) (typed : Typed) (plain : IsPlain world typed) (starts : List ℕ) (are : AreStarts typed starts) where
  abbrev code : Code
  code = typed.code

  abbrev list : Instructions
  list = typed.code.instructions

  abbrev Open : ℕ → ℕ → Type 0
  Open pc start = IsOpenAt world typed plain pc start

  abbrev Placed : ℕ → ℕ × Instruction → Instructions → Working → Type 0
  Placed place first rest frame = At world typed plain place first rest frame

  -- where the walk stands: control reaches it, `this` isn't unborn, and where a birth has begun it is known what stands before
  record Walks (place : ℕ) (first : ℕ × Instruction) (rest : Instructions) (frame : Working) (just_made : Bool) (atoms : ℕ) : Type 0 where
    at : Placed place first rest frame
    reached : Reaches code first.0
    fine : IsFine ⊥ Any frame
    made : is_open frame.stack ≡ true → role_at role.Plain list place ≡ role.New → just_made ≡ true
    pushed : is_open frame.stack ≡ true → pushed_at 0 list place ≤ atoms

  leads : (place : ℕ) (first : ℕ × Instruction) (rest : Instructions) → drop place list ≡ first ∷ rest → Reaches code first.0 → LeadsToBlocks typed starts first rest
  leads place first rest at reached = leads-at typed starts are plain.strict.rising plain.jumps place first rest at reached

  module _ (place : ℕ) (first : ℕ × Instruction) (rest : Instructions) (frame : Working) (just_made : Bool) (atoms : ℕ) (walks : Walks place first rest frame just_made atoms) where
    abbrev after : Working
    after = effect code first.0 (work code first.1) frame

    abbrev goes : Bool
    goes = continues (sort_of first.1) (meaning_of world code.class first.1)

    open-all : IsFine (Unit {0}) (Open first.0) frame
    open-all = open-here world typed plain (Unit {0}) (λ own. tt) place first rest frame walks.at walks.reached

    -- some object is unborn where a birth has begun
    some-open : is_open frame.stack ≡ true → (start : ℕ) × Open first.0 start
    some-open begun =
        let one = open-one (λ start. Open first.0 start × Any start) frame.stack (all-both (Unit {0}) ⊥ (Open first.0) Any frame.stack open-all.stack walks.fine.stack) begun in (one.0, one.1.0)

    never-not : is_open frame.stack ≡ true → role_of first.1 ≢ role.Never
    never-not begun = let one = some-open begun in may-stand world typed plain place first rest frame walks.at one.0 one.1

    falls-on : falls_through (control_of first.1) ≡ true → rest ≡ [] → ⊥
    falls-on on = (known world typed plain place first rest frame walks.at).past (same-falls first.1 on)

    -- an instruction leaves an object unborn that was so, or it is a `new`
    abbrev Left : ℕ → Type 0
    Left start = (is_open frame.stack ≡ true) ⊎ ((class : Name) × (first.1 ≡ op.New class))

    left-fine : IsFine ⊥ Left after
    left-fine =
        fine-effect ⊥ (λ start. is_open frame.stack ≡ true) Left code first.0 frame (record { locals = walks.fine.locals; stack = opens Any frame.stack walks.fine.stack }) first.1
        (λ start begun no. inl begun) (λ e. inr (makes-new code first.1 e))
        (λ kind slot e. fine-wider ⊥ ⊥ (λ start. is_open frame.stack ≡ true) Nowhere (λ none. none) (λ start begun. never-not begun (stores-never code first.1 kind slot e)) (or_top (slice_get frame.stack 0))
        (fine-get ⊥ (λ start. is_open frame.stack ≡ true) frame.stack 0 (opens Any frame.stack walks.fine.stack)))

    left-open : is_open after.stack ≡ true → Left 0
    left-open begun = (open-one Left after.stack left-fine.stack begun).1

    -- in a birth
    in-birth : is_open frame.stack ≡ true → MayStandInBirth world code just_made atoms first.1 rest frame
    in-birth begun = by (cases_order first.0 birth.end)
      where
        start : ℕ
        start = (some-open begun).0

        birth : Open first.0 start
        birth = (some-open begun).1

        not_never : role_of first.1 ≢ role.Never
        not_never = never-not begun

        no-dup : role.Silent ≡ role.Dup → ⊥
        no-dup e = cc

        no-new : role.Silent ≡ role.New → ⊥
        no-new e = cc

        no-comparison : (method : op.MethodRef) (kind : Kind) (greater : Bool) → op.InvokeSpecial method ≡ op.Compare kind greater → ⊥
        no-comparison method kind greater e = cc

        by : (first.0 ≡ birth.end) ⊎ ((first.0 < birth.end) ⊎ (birth.end < first.0)) → MayStandInBirth world code just_made atoms first.1 rest frame
        by (inl last) =
            let ends = ends-here world typed plain place first rest frame walks.at start birth last in
            let silent = ends-silent world typed plain first frame start ends in
            record {
              goes = goes-on world code.class first.1 not_never;
              never = not_never;
              dup = λ is. absurd (no-dup (sym silent ∙ is));
              new = λ is. absurd (no-new (sym silent ∙ is));
              silent = λ is. record { method = ends.method; is = ends.is; constructs = (bearing-is ends.method ends.found start ends.of).constructs };
              compares = λ c. absurd (no-comparison ends.method c.0 c.1 (sym ends.is ∙ c.2));
            }
        by (inr (inl inside)) =
            let allowed = between-at (IsAllowed typed start) start birth.end role.Plain list place first rest birth.is.written.between walks.at.0 birth.above inside in
            record {
              goes = goes-on world code.class first.1 not_never;
              never = not_never;
              dup = λ is. walks.made begun (allowed.dup is);
              new = allowed.new;
              silent = λ is.
                  let inner = allowed.call is in
                  let ends = met-here world typed plain place first rest frame walks.at inner.inner first.0 inner.ends.meets refl in
                  record { method = ends.method; is = ends.is; constructs = (bearing-is ends.method ends.found inner.inner ends.of).constructs };
              compares = λ c.
                  let most = walks.pushed begun in
                  let many = birth.is.compares first.0 first.1 (listed-at first rest list place walks.at.0) birth.above inside c in
                  let same = pushed-is list place first rest plain.strict.rising walks.at.0 in
                  omega (arith, most, many, same);
            }
        by (inr (inr past)) = absurd (let below = birth.below in omega (arith, below, past))

    -- where a block starts behind it no birth has begun
    closed-behind : is_start starts (pc_of rest) ≡ true → is_open after.stack ≡ false
    closed-behind at_start = by (is_open after.stack) refl
      where
        through : is_open after.stack ≡ true → falls_through (control_of first.1) ≡ true
        through begun = by_left (left-open begun)
          where
            by_left : Left 0 → falls_through (control_of first.1) ≡ true
            by_left (inl open_before) = goes-behind world code.class first.1 (in-birth open_before).goes
            by_left (inr made) = ap (λ instruction. falls_through (control_of instruction)) made.1

        contradicts : (some : Instructions) → rest ≡ some → is_open after.stack ≡ true → is_start starts (pc_of some) ≡ true → ⊥
        contradicts [] same begun is = falls-on (through begun) same
        contradicts (next ∷ more) same begun is =
            let at : drop place list ≡ first ∷ next ∷ more = walks.at.0 ∙ ap (λ (list : Instructions). first ∷ list) same in
            let all = subst (λ (list : Instructions). Placed place first list frame) same walks.at in
            let fine = falls-open world typed plain (Unit {0}) (λ own. tt) place first next more frame all walks.reached open-all in
            let one = open-one (λ start. Open next.0 start × Left start) after.stack (all-both (Unit {0}) ⊥ (Open next.0) Left after.stack fine.stack left-fine.stack) begun in
            no-start world typed plain (suc place) next more (drop-next list place first (next ∷ more) at) one.0 one.1.0 ((are.exact next.0).0 (started starts next.0 is)).begins

        by : (test : Bool) → is_open after.stack ≡ test → is_open after.stack ≡ false
        by true begun = absurd (contradicts rest refl begun at_start)
        by false none = none

    stands : MayStand world code (IsReachedAt typed) (is_start starts) just_made atoms first.0 first.1 rest frame
    stands = record {
      listed = code-here first rest list place plain.strict.rising walks.at.0;
      lawful = record { at = record { place = place; rest = rest; here = walks.at.0; there = walks.at.1 }; reached = walks.reached };
      operands = (known world typed plain place first rest frame walks.at).operands;
      kind = plain.kinds first.0 first.1 (listed-at first rest list place walks.at.0);
      run = plain.run first.0 first.1 (listed-at first rest list place walks.at.0);
      in_birth = in-birth;
      other = λ c. own-born c.method c.of_this;
      closed = closed-behind;
      targets = λ target to. any-start starts target ((leads place first rest walks.at.0 walks.reached).targets target to);
      behind = λ ends on. behind_it rest refl ends on;
    }
      where
        own-born : (method : op.MethodRef) → slice_get frame.stack (arguments_of method.descriptor) ≡ Some UnbornThis → ⊥
        own-born method e = subst (λ found. Fine ⊥ Any (or_top found)) e (fine-get ⊥ Any frame.stack (arguments_of method.descriptor) walks.fine.stack)

        behind_it : (some : Instructions) → rest ≡ some → ends_block (control_of first.1) ≡ true → falls_through (control_of first.1) ≡ true → is_start starts (pc_of rest) ≡ true
        behind_it [] same ends on = absurd (falls-on on same)
        behind_it (next ∷ more) same ends on = subst (λ (list : Instructions). is_start starts (pc_of list) ≡ true) (sym same) (any-start starts next.0 ((leads place first rest walks.at.0 walks.reached).behind next more same on ends))

  -- ---- the next instruction

  module _ (place : ℕ) (first next : ℕ × Instruction) (more : Instructions) (frame : Working) (just_made : Bool) (atoms : ℕ) (walks : Walks place first (next ∷ more) frame just_made atoms) where
    abbrev next_frame : Working
    next_frame = effect code first.0 (work code first.1) frame

    behind-first : drop (suc place) list ≡ next ∷ more
    behind-first = drop-next list place first (next ∷ more) walks.at.0

    reached-next : falls_through (control_of first.1) ≡ true → Reaches code next.0
    reached-next on = falls-to typed starts are plain.strict.rising place first next more walks.at.0 on walks.reached

    -- no frame is given where no block starts
    none-given : falls_through (control_of first.1) ≡ true → is_start starts next.0 ≡ false → given code next.0 ≡ None
    none-given on off = by (given code next.0) refl
      where
        by : (found : Option Working) → given code next.0 ≡ found → given code next.0 ≡ None
        by None e = e
        by (Some other) e =
            let listed = given-is world typed plain next.0 (λ frame. Unit {0}) (subst (λ (found : Option Working). IsSomeAnd found (λ frame. Unit {0})) (sym e) tt) in
            let start = (are.exact next.0).1 (record {
              at = subst IsSome (sym (starts-here next more list 0 (suc place) (rising-from list plain.strict.rising) behind-first)) refl;
              reached = reached-next on;
              begins = begins.given listed;
            }) in
            never (sym off ∙ any-start starts next.0 start)

    walks-on : falls_through (control_of first.1) ≡ true → is_start starts next.0 ≡ false → Walks (suc place) next more next_frame (makes first.1) (atoms_behind first.1 atoms)
    walks-on on off = record {
      at = (behind-first, other.1 ∙ ap (λ frame. Some frame) (sym (flows-on world typed plain place first next more frame other.0 (known world typed plain place first (next ∷ more) frame walks.at) other.1 (same-falls first.1 on) (none-given on off))));
      reached = reached-next on;
      fine = record { locals = left.locals; stack = all-wider ⊥ ⊥ (Left place first (next ∷ more) frame just_made atoms walks) Any (λ none. none) (λ start is. tt) next_frame.stack left.stack };
      made = λ begun is. new-makes first.1 (sym (role-next role.Plain list place first (next ∷ more) walks.at.0) ∙ is);
      pushed = λ begun. most (left-open place first (next ∷ more) frame just_made atoms walks begun) (pushed-next 0 list place first (next ∷ more) walks.at.0);
    }
      where
        other : (frame : Working) × (slice_get (table_of typed) (suc place) ≡ Some frame)
        other = frame-there list (table_of typed) (suc place) next more plain.strict.table.number behind-first

        left : IsFine ⊥ (Left place first (next ∷ more) frame just_made atoms walks) next_frame
        left = left-fine place first (next ∷ more) frame just_made atoms walks

        most : Left place first (next ∷ more) frame just_made atoms walks 0 → pushed_at 0 list (suc place) ≡ atoms_behind first.1 (pushed_at 0 list place) → pushed_at 0 list (suc place) ≤ atoms_behind first.1 atoms
        most (inl begun) e = let few = more-behind first.1 (pushed_at 0 list place) atoms (walks.pushed begun) in omega (arith, few, e)
        most (inr made) e = let none = e ∙ ap (λ instruction. atoms_behind instruction (pushed_at 0 list place)) made.1 in omega (arith, none)

  walk : (rest : Instructions) (place : ℕ) (first : ℕ × Instruction) (frame : Working) (just_made : Bool) (atoms : ℕ) → Walks place first rest frame just_made atoms → AllMayStand world code (IsReachedAt typed) (is_start starts) just_made atoms frame (first ∷ rest)
  walk [] place first frame just_made atoms walks =
      (stands place first [] frame just_made atoms walks, λ on inside. falls-on place first [] frame just_made atoms walks (goes-behind world code.class first.1 on) refl)
  walk (next ∷ more) place first frame just_made atoms walks = (
    stands place first (next ∷ more) frame just_made atoms walks,
    λ on inside. walk more (suc place) next (effect code first.0 (work code first.1) frame) (makes first.1) (atoms_behind first.1 atoms)
        (walks-on place first next more frame just_made atoms walks (goes-behind world code.class first.1 on) inside),
  )

pub blocks-may-stand : BlocksMayStand
blocks-may-stand world typed plain starts are place first rest frame at there reached born =
    walk world typed plain starts are rest place first frame false 0 (record {
      at = (at, there);
      reached = reached;
      fine = record { locals = closed-fine Nowhere frame.locals born.locals; stack = closed-fine Any frame.stack born.stack };
      made = λ begun is. never (sym born.stack ∙ begun);
      pushed = λ begun. never (sym born.stack ∙ begun);
    })

pub starts-are-born : StartsAreBorn
starts-are-born world typed plain ordinary starts are place first rest frame at there has =
    let start = (are.exact first.0).0 has in
    let fine = open-here world typed plain ⊥ (λ own. never (sym ordinary ∙ own)) place first rest frame (at, there) start.reached in
    record {
      locals = none-open frame.locals fine.locals;
      stack = none-open frame.stack (all-wider ⊥ ⊥ (IsOpenAt world typed plain first.0) Nowhere (λ none. none) (λ one begun. no-start world typed plain place first rest at one begun start.begins) frame.stack fine.stack);
    }

-- ---- rests

pub rests-are-own : RestsAreOwn
rests-are-own world typed strict place = all (drop place list) place refl
  where
    list : Instructions
    list = typed.code.instructions

    falls-past : (place : ℕ) (first : ℕ × Instruction) (rest : Instructions) → drop place typed.code.instructions ≡ first ∷ rest → falls first.1 ≡ true → rest ≡ [] → ⊥
    falls-past place first rest e =
        let frame = frame-there typed.code.instructions (table_of typed) place first rest strict.table.number e in
        let found = frame-at (Strictly world) world typed.code (Some (entry typed.code)) typed.code.instructions (table_of typed) strict.table.are place first rest frame.0 e frame.1 in
        let here : rules_of.Place = record { flow = found.flow; pc = first.0; instruction = first.1; rest = rest } in
        subst (λ (held : Option Working). IfSome held (λ f. FrameKeeps (Strictly world) world typed.code here f rule.Past)) found.are.0 found.are.1.1.1.1.1.1.1.0

    behind : (place : ℕ) (first : ℕ × Instruction) (rest : Instructions) → drop place typed.code.instructions ≡ first ∷ rest → IsBehind typed.code first.1 rest
    behind place first [] e on = absurd (falls-past place first [] e (same-falls first.1 on) refl)
    behind place first (next ∷ more) e on = code-here next more typed.code.instructions (suc place) strict.rising (drop-next typed.code.instructions place first (next ∷ more) e)

    all : (part : Instructions) (place : ℕ) → drop place typed.code.instructions ≡ part → AllStandIn typed.code part
    all [] place e = tt
    all (first ∷ rest) place e = (listed-at first rest typed.code.instructions place e, behind place first rest e, all rest (suc place) (drop-next typed.code.instructions place first rest e))
