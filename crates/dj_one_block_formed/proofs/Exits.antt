-- The statements by which control leaves a method of one block keep the rules: it returns or throws, and no edge leads anywhere.
use Rattle.std.proofs.Common.{ℕ, zero, suc, ◌≤◌, ◌≡◌, Bool, true, false, List, [], ◌∷◌, ◌++◌, Option, Some, None, refl, sym, ap, ◌∙◌, subst}
use Rattle.std.specs.Prelude.{if◌then◌else◌, IfSome}
use Rattle.dj_names.specs.declared.header.Header.{Header}
use Rattle.dj_names.specs.Types.{JType, StaticType}
use Rattle.dj_syntax.specs.declared.variable.Var.{Var}
use Rattle.dj_syntax.specs.Trees.{Exp, Stm, Stms, Empty, And, Throw, Switch, Groups}
use Rattle.dj_syntax.specs.Trees as trees
use Rattle.dj_values.specs.Fits.{throwable_name}
use Rattle.dj_instructions.specs.Instructions.{Instruction, Instructions}
use Rattle.dj_instructions.specs.Instructions as op
use Rattle.dj_meaning.specs.StaticTypes.{Scope}
use Rattle.dj_meaning.specs.Declarations.{behind, joined}
use Rattle.dj_typing.specs.Sites.{may_name, may_name_type}
use Rattle.dj_rebuilding.specs.Pending.{Pending, Kept, Whole, Born, Again, Built, Typed, exp_of, assigns, single, none, and_then, spill, emit, with_operands}
use Rattle.dj_rebuilding.specs.Agreeing.{IsClear, SameTypes}
use Rattle.dj_rebuilt.specs.Rebuilding.{Names}
use Rattle.dj_rebuilt.specs.Nodes.{is_whole, as_int}
use Rattle.dj_members_shown.specs.Casts.{dressed, dressed_type}
use Rattle.dj_blocks_formed.specs.Statements.{Around}
use Rattle.dj_blocks_formed.specs.Exits.{GoesInto}
use Rattle.dj_blocks_formed.specs.Ruled.{IsRuled, AreRuled, IsEnded}
use Rattle.dj_blocks_formed.proofs.Exits.{nothing-ended, return-ended, throw-ended}
use Rattle.dj_blocks_formed.proofs.Joined.{joined-ended}
use Rattle.dj_blocks_formed.proofs.Later.{ruled-later}
use Rattle.dj_blocks_formed.proofs.Spilled.{spilled-ruled}
use Rattle.dj_member_nodes.specs.Going.{fits_in}
use Rattle.dj_member_nodes.proofs.Dressed.{dressed-ruled}
use Rattle.dj_exits.specs.Exits.{Edges, Case, emitted_by, closing, on_one, on_two, returned, returned_as, throwable, thrown, goes_to, puts_any, branches_by, zero_test, ints_test, refs_test, null_test, table_cases, listed_cases, targets_in, groups_of, switches, left_by}
use Rattle.dj_exits.proofs.Ending.{IsExit, by_goto, by_return, by_value, by_throw, by_zero, by_ints, by_refs, by_null, by_table, by_lookup}
use Rattle.dj_lone_exits.specs.Lone.{lone_edges}

-- ---- what leads nowhere

nowhere : {A B : Type 0} (found : Option A) → and_then {A = A} {B = B} found (λ one. None) ≡ None
nowhere None = refl
nowhere (Some one) = refl

-- what has no answer for any operands has none
unanswered : (count : ℕ) (before : List Typed) (stack : List Pending) (next : List Typed → List Pending → Option Built) → ((are : List Typed) (below : List Pending) → next are below ≡ None) → with_operands count before stack next ≡ None
unanswered zero before stack next lacks = lacks before stack
unanswered (suc count) before [] next lacks = refl
unanswered (suc count) before (Kept type atom ∷ below) next lacks = unanswered count _ below next lacks
unanswered (suc count) before (Whole type exp ∷ below) next lacks = unanswered count _ below next lacks
unanswered (suc count) before (Born class ∷ below) next lacks = refl
unanswered (suc count) before (Again ∷ below) next lacks = refl

on-one-none : (next : Typed → List Pending → Option Built) → ((one : Typed) (below : List Pending) → next one below ≡ None) → (are : List Typed) (below : List Pending) → on_one next are below ≡ None
on-one-none next lacks [] below = refl
on-one-none next lacks (first ∷ []) below = lacks first below
on-one-none next lacks (first ∷ second ∷ rest) below = refl

on-two-none : (next : Typed → Typed → List Pending → Option Built) → ((one other : Typed) (below : List Pending) → next one other below ≡ None) → (are : List Typed) (below : List Pending) → on_two next are below ≡ None
on-two-none next lacks [] below = refl
on-two-none next lacks (first ∷ []) below = refl
on-two-none next lacks (first ∷ second ∷ []) below = lacks first second below
on-two-none next lacks (first ∷ second ∷ third ∷ rest) below = refl

unbuilt : (found : Option Built) → found ≡ None → emitted_by found ≡ None
unbuilt found e = ap emitted_by e

pub some-none : {A : Type 0} {found : Option A} {one : A} → found ≡ None → found ≡ Some one → ⊥
some-none none some = let both : None ≡ Some _ = sym none ∙ some in cc

module _ (world : List Header) (names : Names) (n : ℕ) where
  branches-none : (below : List Pending) (target other : ℕ) (test : Option Exp) → branches_by (lone_edges world) names n below target other test ≡ None
  branches-none below target other None = refl
  branches-none below target other (Some test) = nowhere (spill (puts_any (lone_edges world) names below (target ∷ other ∷ []) test) n below)

  -- a switch has a group at least
  groups-none : (stack : List Pending) (cases : List Case) (last : Case) → groups_of (lone_edges world) names stack (cases ++ last ∷ []) ≡ None
  groups-none stack [] last = refl
  groups-none stack (first ∷ rest) last = refl

  switches-none : (cases : List Case) (last : Case) (one : Typed) (below : List Pending) → switches (lone_edges world) names n (cases ++ last ∷ []) one below ≡ None
  switches-none cases last one below = whole (is_whole one.0)
    where
      spilled : (found : Option Built) → and_then found (λ so_far. and_then (groups_of (lone_edges world) names so_far.stack (cases ++ last ∷ [])) (λ groups. Some (closing so_far (Switch (as_int one.0 one.1) groups)))) ≡ None
      spilled None = refl
      spilled (Some so_far) = ap (λ (found : Option Groups). and_then found (λ groups. Some (closing so_far (Switch (as_int one.0 one.1) groups)))) (groups-none so_far.stack cases last)

      whole : (test : Bool)
          → (if test then and_then (spill (puts_any (lone_edges world) names below (targets_in (cases ++ last ∷ [])) (as_int one.0 one.1)) n below) (λ so_far.
          and_then (groups_of (lone_edges world) names so_far.stack (cases ++ last ∷ [])) (λ groups. Some (closing so_far (Switch (as_int one.0 one.1) groups)))) else None) ≡ None
      whole true = spilled (spill (puts_any (lone_edges world) names below (targets_in (cases ++ last ∷ [])) (as_int one.0 one.1)) n below)
      whole false = refl

  pub goes-none : (stack : List Pending) (target : ℕ) → goes_to (lone_edges world) names n stack target ≡ None
  goes-none stack target = nowhere (spill ((lone_edges world).puts names stack target) n stack)

-- ---- what is returned or thrown

module _ (around : Around) (n : ℕ) (scope : Scope) (clear : IsClear n scope) where
  -- a statement behind what is spilled
  emitted-ended : (assigned : Var → Bool) (below : List Pending) → AreRuled around.site n scope below → (statement : Stm) → ((k : ℕ) (inner : Scope) → n ≤ k → SameTypes n scope inner → IsEnded around inner (single statement))
      → (statements : Stms) → emitted_by (emit assigned n below statement) ≡ Some statements → IsEnded around scope statements
  emitted-ended assigned below entries statement ended statements e = by (spill assigned n below) refl e
    where
      by : (found : Option Built) → spill assigned n below ≡ found → emitted_by (and_then found (λ so_far. Some (record { emitted = joined so_far.emitted (single statement); stack = so_far.stack; next = so_far.next }))) ≡ Some statements → IsEnded around scope statements
      by None is e = absurd (cc)
      by (Some so_far) is e =
          let spilled = spilled-ruled around assigned n scope clear below entries so_far is in
          let same : joined so_far.emitted (single statement) ≡ statements = cc in
          subst (IsEnded around scope) same (joined-ended around scope so_far.emitted (single statement) spilled.emitted (ended so_far.next (behind so_far.emitted scope) spilled.later spilled.same))

  -- an operand where its type is wanted
  value-goes : (k : ℕ) (inner : Scope) → n ≤ k → SameTypes n scope inner → (from : StaticType) (to : JType) (exp : Exp) → IsRuled around.site n scope from exp → fits_in around.site.headers from to ≡ true → may_name_type around.site to ≡ true
      → GoesInto around.site inner to (dressed around.site.headers true from to exp)
  value-goes k inner less same from to exp is fit named =
      let h = dressed-ruled around.site k inner true from to exp (ruled-later around.site n k scope inner from exp less same is) fit named in
      record { static = dressed_type around.site.headers true from to; typed = h.typed; goes = h.goes; keeps = h.keeps }

  -- one operand
  one-taken : (statements : Stms) (next : Typed → List Pending → Option Built)
      → ((one : Typed) (below : List Pending) → IsRuled around.site n scope one.0 one.1 → AreRuled around.site n scope below → emitted_by (next one below) ≡ Some statements → IsEnded around scope statements)
      → (stack : List Pending) → AreRuled around.site n scope stack → emitted_by (with_operands 1 [] stack (on_one next)) ≡ Some statements → IsEnded around scope statements
  one-taken statements next ended [] entries e = absurd (cc)
  one-taken statements next ended (Kept type atom ∷ below) entries e = ended (type, exp_of atom) below entries.0 entries.1 e
  one-taken statements next ended (Whole type exp ∷ below) entries e = ended (type, exp) below entries.0 entries.1 e
  one-taken statements next ended (Born class ∷ below) entries e = absurd (cc)
  one-taken statements next ended (Again ∷ below) entries e = absurd (cc)

  abbrev edges : Edges
  edges = lone_edges around.site.headers

  returned-ended : (result : JType) → around.result ≡ Some result → may_name_type around.site result ≡ true → (one : Typed) (below : List Pending) → IsRuled around.site n scope one.0 one.1 → AreRuled around.site n scope below
      → (statements : Stms) → emitted_by (returned around.site.headers edges result n one below) ≡ Some statements → IsEnded around scope statements
  returned-ended result is named one below ruled entries statements e = by (fits_in around.site.headers one.0 result) refl e
    where
      by : (test : Bool) → fits_in around.site.headers one.0 result ≡ test
          → emitted_by (if test then emit (assigns (dressed around.site.headers true one.0 result one.1)) n below (trees.Return (Some (dressed around.site.headers true one.0 result one.1))) else None) ≡ Some statements → IsEnded around scope statements
      by true fit e = emitted-ended (assigns (dressed around.site.headers true one.0 result one.1)) below entries (trees.Return (Some (dressed around.site.headers true one.0 result one.1)))
          (λ k inner less same. return-ended around inner result (dressed around.site.headers true one.0 result one.1) is (value-goes k inner less same one.0 result one.1 ruled fit named)) statements e
      by false fit e = absurd (cc)

  thrown-ended : may_name around.site throwable_name ≡ true → (one : Typed) (below : List Pending) → IsRuled around.site n scope one.0 one.1 → AreRuled around.site n scope below
      → (statements : Stms) → emitted_by (thrown around.site.headers edges n one below) ≡ Some statements → IsEnded around scope statements
  thrown-ended named one below ruled entries statements e = by (fits_in around.site.headers one.0 throwable) refl e
    where
      by : (test : Bool) → fits_in around.site.headers one.0 throwable ≡ test
          → emitted_by (if test then emit (assigns (dressed around.site.headers true one.0 throwable one.1)) n below (Throw (dressed around.site.headers true one.0 throwable one.1)) else None) ≡ Some statements → IsEnded around scope statements
      by true fit e = emitted-ended (assigns (dressed around.site.headers true one.0 throwable one.1)) below entries (Throw (dressed around.site.headers true one.0 throwable one.1))
          (λ k inner less same. throw-ended around inner (dressed around.site.headers true one.0 throwable one.1) (value-goes k inner less same one.0 throwable one.1 ruled fit named)) statements e
      by false fit e = absurd (cc)

  -- ---- the ways out

  -- by the last instruction
  pub left-ended : IfSome around.result (λ type. may_name_type around.site type ≡ true) → may_name around.site throwable_name ≡ true → (names : Names) (stack : List Pending) → AreRuled around.site n scope stack
      → (behind : ℕ) (instruction : Instruction) → IsExit instruction → (instruction ≡ op.Return None → around.result ≡ None)
      → (statements : Stms) → left_by around.site.headers around.result edges names n stack behind instruction ≡ Some statements → IsEnded around scope statements
  left-ended result named names stack entries behind instruction (by_goto {target}) gives statements e = absurd (some-none (goes-none around.site.headers names n stack target) e)
  left-ended result named names stack entries behind instruction by_return gives statements e =
      emitted-ended none stack entries (trees.Return None) (λ k inner less same. nothing-ended around inner (gives refl)) statements e
  left-ended result named names stack entries behind instruction (by_value {kind}) gives statements e = by around.result refl result e
    where
      by : (type : Option JType) → around.result ≡ type → IfSome type (λ type. may_name_type around.site type ≡ true) → emitted_by (returned_as around.site.headers edges type n stack) ≡ Some statements → IsEnded around scope statements
      by None is named e = absurd (cc)
      by (Some type) is named e =
          one-taken statements (returned around.site.headers edges type n) (λ one below ruled under e. returned-ended type is named one below ruled under statements e) stack entries e
  left-ended result named names stack entries behind instruction by_throw gives statements e =
      one-taken statements (thrown around.site.headers edges n) (λ one below ruled under e. thrown-ended named one below ruled under statements e) stack entries e
  left-ended result named names stack entries behind instruction (by_zero {test} {target}) gives statements e =
      absurd (some-none (unbuilt _ (unanswered 1 [] stack (on_one (λ one below. branches_by edges names n below target behind (zero_test test one)))
      (on-one-none _ (λ one below. branches-none around.site.headers names n below target behind (zero_test test one))))) e)
  left-ended result named names stack entries behind instruction (by_ints {test} {target}) gives statements e =
      absurd (some-none (unbuilt _ (unanswered 2 [] stack (on_two (λ first second below. branches_by edges names n below target behind (ints_test test first second)))
      (on-two-none _ (λ first second below. branches-none around.site.headers names n below target behind (ints_test test first second))))) e)
  left-ended result named names stack entries behind instruction (by_refs {equal} {target}) gives statements e =
      absurd (some-none (unbuilt _ (unanswered 2 [] stack (on_two (λ first second below. branches_by edges names n below target behind (refs_test edges equal first second)))
      (on-two-none _ (λ first second below. branches-none around.site.headers names n below target behind (refs_test edges equal first second))))) e)
  left-ended result named names stack entries behind instruction (by_null {null} {target}) gives statements e =
      absurd (some-none (unbuilt _ (unanswered 1 [] stack (on_one (λ one below. branches_by edges names n below target behind (null_test null one)))
      (on-one-none _ (λ one below. branches-none around.site.headers names n below target behind (null_test null one))))) e)
  left-ended result named names stack entries behind instruction (by_table {low} {targets} {other}) gives statements e =
      absurd (some-none (unbuilt _ (unanswered 1 [] stack (on_one (switches edges names n (table_cases low targets ++ (None, other) ∷ [])))
      (on-one-none _ (λ one below. switches-none around.site.headers names n (table_cases low targets) (None, other) one below)))) e)
  left-ended result named names stack entries behind instruction (by_lookup {cases} {other}) gives statements e =
      absurd (some-none (unbuilt _ (unanswered 1 [] stack (on_one (switches edges names n (listed_cases cases ++ (None, other) ∷ [])))
      (on-one-none _ (λ one below. switches-none around.site.headers names n (listed_cases cases) (None, other) one below)))) e)
