-- Births that have begun: at each instruction that control reaches an object that is unborn stands in its own birth, which ends there or behind it.
use Rattle.std.proofs.Common.{◌≡◌, ◌≢◌, ℕ, zero, suc, ◌+◌, ◌<◌, ◌≤◌, ◌==◌, Bool, true, false, List, [], ◌∷◌, ◌++◌, map, drop, All, Contains, Option, Some, None, IsSome, IsSomeAnd, IfSome, ◌⊎◌, inl, inr, refl, sym, ap, ◌∙◌, subst, arith}
use Rattle.std.specs.Prelude.{if◌then◌else◌, slice_get, is_none, option_map}
use Rattle.std.proofs.lemmas.Bool.{cases_order, eqb-true}
use Rattle.std.proofs.lemmas.Bool.Decides.{nat_tests}
use Rattle.std.proofs.lemmas.List.Elements.{All-contains, Contains-append_cases, Contains-append_right}
use Rattle.dj_names.specs.declared.header.Header.{Header}
use Rattle.dj_names.specs.Headers.{Name}
use Rattle.dj_names.specs.Types.{JType}
use Rattle.dj_instructions.specs.Instructions.{Instruction, Instructions, IsRising, MethodRef, instruction_at}
use Rattle.dj_instructions.specs.Instructions as op
use Rattle.dj_frames.specs.Frames.{Frame, has_unborn_this}
use Rattle.dj_stack_map.specs.StackMap.{IsNewAt}
use Rattle.dj_code.specs.declared.method_code.Handler.{Handler}
use Rattle.dj_code.specs.MethodCode.{Code, Typed}
use Rattle.dj_code.specs.Targets.{targets_of}
use Rattle.dj_tags.specs.Goes.{Working, top_down, FrameGoes}
use Rattle.dj_tags.specs.Laxly.{Strictly}
use Rattle.dj_effects.specs.Rows.{work}
use Rattle.dj_effects.specs.Operands.{HasOperands}
use Rattle.dj_effects.specs.Effects.{or_top, effect}
use Rattle.dj_starts.specs.declared.ways.Edge.{Edge}
use Rattle.dj_starts.specs.declared.roles.Role.TheVariants as role
use Rattle.dj_starts.specs.Births.{role_of, first_role, constructed_by, ConstructsFirst, Meets, IsAllowed, IsFree, IsBound}
use Rattle.dj_starts.specs.Control.{control_of, falls_through, can_throw}
use Rattle.dj_starts.specs.Edges as ways
use Rattle.dj_starts.specs.Edges.{from_pc, first_pc, fallen_to, plain, thrown, covers, caught_edges, thrown_edges, first_edges, edges, Reaches, along}
use Rattle.dj_starts.specs.Starts.{IsGiven, TableAsks, EndsBlock, BeginsBehind, BeginsBlock, entry as entry_block, given as given_block, table as table_block, code as code_block}
use Rattle.dj_verify.specs.Rules as rules_of
use Rattle.dj_verify.specs.Rules.{padded, frame_in, entry, given, falls, effect_at, HandlerTakes, Covers, caught_class, thrown_frame, FrameKeeps}
use Rattle.dj_verify.specs.declared.rule.Rule.TheVariants as rule
use Rattle.dj_verify.specs.Table.{or_else, frame_at, Keeps, KeepsAll, rules, AreFrames}
use Rattle.dj_sound.specs.States.{table_of}
use Rattle.dj_blocks_shown.proofs.Walking.{drop-next, starts-here, rising-from}
use Rattle.dj_standing.specs.Standing.{IsPlainly, IsPlain}
use Rattle.dj_standing.proofs.Tags.{Nowhere, IsFine, fine-wider, fine-get, Constructs, fine-effect, frame-goes, entry-fine}
use Rattle.dj_standing.proofs.Exits.{never, ends-never, jumps-never, makes-new, stores-never}
use Rattle.dj_standing.proofs.Places.{some-same, head-is, place-before, pc-before, one-place, first-place, placed, role_at, between-at, FrameAt, frame-at, get-next, frame-there, asked-at, bearing-is, works-so, met-at}

-- the instruction behind falls through by either of two words
pub same-falls : (instruction : Instruction) → falls_through (control_of instruction) ≡ true → falls instruction ≡ true
same-falls (op.Goto target) e = never e
same-falls (op.TableSwitch low targets other) e = never e
same-falls (op.LookupSwitch cases other) e = never e
same-falls (op.Return kind) e = never e
same-falls op.Throw e = never e
same-falls instruction e = refl

module _ (world : List Header) (typed : Typed) (is_plain : IsPlain world typed) where
  abbrev pub code : Code
  code = typed.code

  abbrev pub list : Instructions
  list = typed.code.instructions

  rising : IsRising typed.code.instructions
  rising = is_plain.strict.rising

  -- an object whose `new` is at `start` is in its birth before the instruction at an offset
  pub record IsOpenAt (pc start : ℕ) : Type 0 where
    pub new : IsNewAt typed.code.instructions start
    pub end : ℕ
    pub is : IsPlainly typed start end
    pub above : start < pc
    pub below : pc ≤ end

  abbrev pub At : ℕ → ℕ × Instruction → Instructions → Working → Type 0
  At place first rest frame = (drop place list ≡ first ∷ rest) × (slice_get (table_of typed) place ≡ Some frame)

  -- what is known of a place
  pub record Known (place : ℕ) (first : ℕ × Instruction) (rest : Instructions) (frame : Working) : Type 0 where
    pub at : FrameAt (Strictly world) world code (Some (entry code)) (table_of typed) place first rest frame
    pub is : or_else (given code first.0) at.flow ≡ Some frame
    pub into : IfSome (given code first.0) (λ other. IfSome at.flow (λ flow. FrameGoes (Strictly world) flow other))
    pub operands : HasOperands (Strictly world) world code first.0 (work code first.1) frame
    pub targets : All (rules_of.Reaches (Strictly world) code (effect code first.0 (work code first.1) frame)) (targets_of first.1)
    pub handlers : All (λ handler. Covers handler first.0 → HandlerTakes (Strictly world) code frame handler) code.handlers
    pub past : falls first.1 ≡ true → rest ≡ [] → ⊥

  kept : (found : Option Working) (frame : Working) (P : Working → Type 0) → found ≡ Some frame → IfSome found P → P frame
  kept found frame P is h = subst (λ o. IfSome o P) is h

  pub known : (place : ℕ) (first : ℕ × Instruction) (rest : Instructions) (frame : Working) → At place first rest frame → Known place first rest frame
  known place first rest frame at =
      let found = frame-at (Strictly world) world code (Some (entry code)) list (table_of typed) is_plain.strict.table.are place first rest frame at.0 at.1 in
      let here : rules_of.Place = record { flow = found.flow; pc = first.0; instruction = first.1; rest = rest } in
      let is : frame_at code here ≡ Some frame = found.are.0 in
      let all : KeepsAll (Keeps (Strictly world) world code here) rules = found.are.1 in
      record {
        at = found;
        is = is;
        into = all.1.0;
        operands = kept (frame_at code here) frame (λ f. FrameKeeps (Strictly world) world code here f rule.Operands) is all.1.1.0;
        targets = kept (frame_at code here) frame (λ f. FrameKeeps (Strictly world) world code here f rule.Target) is all.1.1.1.1.0;
        handlers = kept (frame_at code here) frame (λ f. FrameKeeps (Strictly world) world code here f rule.Handler) is all.1.1.1.1.1.0;
        past = kept (frame_at code here) frame (λ f. FrameKeeps (Strictly world) world code here f rule.Past) is all.1.1.1.1.1.1.0;
      }

  -- where a frame goes that is fine, what is there is
  flown : {U : Type 0} {Q : ℕ → Type 0} (found : Option Working) (flow frame : Working) → or_else found (Some flow) ≡ Some frame → IfSome found (λ other. FrameGoes (Strictly world) flow other) → IsFine U Q flow → IsFine U Q frame
  flown {U} {Q} None flow frame is goes fine = subst (IsFine U Q) (some-same flow frame is) fine
  flown {U} {Q} (Some other) flow frame is goes fine = subst (IsFine U Q) (some-same other frame is) (frame-goes U Q (Strictly world) flow other goes fine)

  arrives : {U : Type 0} {Q : ℕ → Type 0} (found flow : Option Working) (reaching frame : Working) → or_else found flow ≡ Some frame → IsSomeAnd found (FrameGoes (Strictly world) reaching) → IsFine U Q reaching → IsFine U Q frame
  arrives None flow reaching frame is goes fine = absurd goes
  arrives {U} {Q} (Some other) flow reaching frame is goes fine = subst (IsFine U Q) (some-same other frame is) (frame-goes U Q (Strictly world) reaching other goes fine)

  -- the frame behind an instruction that falls through
  pub behind : {U : Type 0} {Q : ℕ → Type 0} (place : ℕ) (first next : ℕ × Instruction) (more : Instructions) (frame other : Working) → Known place first (next ∷ more) frame → slice_get (table_of typed) (suc place) ≡ Some other → falls first.1 ≡ true
      → IsFine U Q (effect code first.0 (work code first.1) frame) → IsFine U Q other
  behind {U} {Q} place first next more frame other k there on fine = by k.at.others k.at.are.2 (sym (get-next (table_of typed) place frame k.at.others k.at.behind) ∙ there)
    where
      after : Working
      after = effect code first.0 (work code first.1) frame

      flowing : Option Working
      flowing = if falls first.1 then Some (effect code first.0 (work code first.1) frame) else None

      by : (others : List Working) → AreFrames (Strictly world) world code (if falls first.1 then Some (effect code first.0 (work code first.1) frame) else None) (next ∷ more) others → slice_get others 0 ≡ Some other → IsFine U Q other
      by [] are e = absurd (cc)
      by (one ∷ others) are e = subst (IsFine U Q) (some-same one other e) (through (falls first.1) on are.0 are.1.1.0)
        where
          through : (test : Bool) → test ≡ true → or_else (given code next.0) (if test then Some (effect code first.0 (work code first.1) frame) else None) ≡ Some one
              → IfSome (given code next.0) (λ g. IfSome (if test then Some (effect code first.0 (work code first.1) frame) else None) (λ flow. FrameGoes (Strictly world) flow g)) → IsFine U Q one
          through true e is goes = flown (given code next.0) (effect code first.0 (work code first.1) frame) one is goes fine
          through false e is goes = never e

  -- where none is given the frame behind an instruction is what it leaves
  pub flows-on : (place : ℕ) (first next : ℕ × Instruction) (more : Instructions) (frame other : Working) → Known place first (next ∷ more) frame → slice_get (table_of typed) (suc place) ≡ Some other → falls first.1 ≡ true → given code next.0 ≡ None
      → effect code first.0 (work code first.1) frame ≡ other
  flows-on place first next more frame other k there on none = by k.at.others k.at.are.2 (sym (get-next (table_of typed) place frame k.at.others k.at.behind) ∙ there)
    where
      by : (others : List Working) → AreFrames (Strictly world) world code (if falls first.1 then Some (effect code first.0 (work code first.1) frame) else None) (next ∷ more) others → slice_get others 0 ≡ Some other
          → effect code first.0 (work code first.1) frame ≡ other
      by [] are e = absurd (cc)
      by (one ∷ others) are e = through (falls first.1) on (given code next.0) none are.0 ∙ some-same one other e
        where
          through : (test : Bool) → test ≡ true → (found : Option Working) → found ≡ None → or_else found (if test then Some (effect code first.0 (work code first.1) frame) else None) ≡ Some one → effect code first.0 (work code first.1) frame ≡ one
          through true e None f is = some-same (effect code first.0 (work code first.1) frame) one is
          through true e (Some other) f is = absurd (cc)
          through false e found f is = never e

  -- ---- the end of a birth

  -- the frame of code at a place, from the bottom of its stack up
  framed : (frames : List Frame) (place : ℕ) (frame : Working) → slice_get (map top_down frames) place ≡ Some frame → (found : Frame) × (more : List Frame) × (drop place frames ≡ found ∷ more) × (frame ≡ top_down found)
  framed [] zero frame e = absurd (cc)
  framed [] (suc place) frame e = absurd (cc)
  framed (first ∷ rest) zero frame e = (first, rest, refl, sym (some-same (top_down first) frame e))
  framed (first ∷ rest) (suc place) frame e = framed rest place frame e

  -- the call that ends it
  pub record Ends (first : ℕ × Instruction) (frame : Working) (start : ℕ) : Type 0 where
    pub method : MethodRef
    pub is : first.1 ≡ op.InvokeSpecial method
    pub found : Frame
    pub same : frame ≡ top_down found
    pub of : constructed_by method found ≡ Some start

  pub met-here : (place : ℕ) (first : ℕ × Instruction) (rest : Instructions) (frame : Working) → At place first rest frame → (start call : ℕ) → Meets list typed.frames start call → first.0 ≡ call → Ends first frame start
  met-here place first rest frame at start call meets last =
      let met = met-at list typed.frames start call meets in
      let one = one-place met.1 met.2 first rest list met.0 place rising met.3 at.0 (met.4 ∙ sym last) in
      let same : met.1 ≡ first = head-is met.1 first met.2 rest (sym met.3 ∙ ap (λ found. drop found list) one ∙ at.0) in
      let f = framed typed.frames place frame at.1 in
      by f.0 f.1 f.3 (subst (λ (some : List Frame). ConstructsFirst first.1 some start) (ap (λ found. drop found typed.frames) one ∙ f.2) (subst (λ (at : ℕ × Instruction). ConstructsFirst at.1 (drop met.0 typed.frames) start) same met.5))
    where
      by : (found : Frame) (more : List Frame) → frame ≡ top_down found → ConstructsFirst first.1 (found ∷ more) start → Ends first frame start
      by found more same constructs = record { method = constructs.method; is = constructs.is; found = found; same = same; of = constructs.of }

  pub ends-here : (place : ℕ) (first : ℕ × Instruction) (rest : Instructions) (frame : Working) → At place first rest frame → (start : ℕ) (begun : IsOpenAt first.0 start) → first.0 ≡ begun.end → Ends first frame start
  ends-here place first rest frame at start begun last = met-here place first rest frame at start begun.end begun.is.written.call.meets last

  pub ends-silent : (first : ℕ × Instruction) (frame : Working) (start : ℕ) → Ends first frame start → role_of first.1 ≡ role.Silent
  ends-silent first frame start ends = ap role_of ends.is ∙ ap (λ (result : Option JType). if is_none result then role.Silent else role.Plain) (bearing-is ends.method ends.found start ends.of).nothing

  -- an instruction in a birth may stand there
  pub may-stand : (place : ℕ) (first : ℕ × Instruction) (rest : Instructions) (frame : Working) → At place first rest frame → (start : ℕ) → IsOpenAt first.0 start → role_of first.1 ≢ role.Never
  may-stand place first rest frame at start begun = by (cases_order first.0 begun.end)
    where
      by : (first.0 ≡ begun.end) ⊎ ((first.0 < begun.end) ⊎ (begun.end < first.0)) → role_of first.1 ≢ role.Never
      by (inl last) never_so = let silent : role.Silent ≡ role.Never = sym (ends-silent first frame start (ends-here place first rest frame at start begun last)) ∙ never_so in absurd (cc)
      by (inr (inl inside)) never_so = (between-at (IsAllowed typed start) start begun.end role.Plain list place first rest begun.is.written.between at.0 begun.above inside).never never_so
      by (inr (inr past)) never_so = let below = begun.below in omega (arith, below, past)

  -- ---- one instruction

  module _ (U : Type 0) (own : has_unborn_this typed.code.class typed.code.name ≡ true → U) where
    -- what an instruction leaves, where control reaches it
    pub leaves : (place : ℕ) (first : ℕ × Instruction) (rest : Instructions) (frame : Working) → At place first rest frame → IsFine U (IsOpenAt first.0) frame
        → {R : ℕ → Type 0} → ((start : ℕ) (begun : IsOpenAt first.0 start) → first.0 < begun.end → R start) → ((class : Name) → first.1 ≡ op.New class → R first.0) → IsFine U R (effect code first.0 (work code first.1) frame)
    leaves place first rest frame at fine {R} keep made =
        fine-effect U (IsOpenAt first.0) R code first.0 frame fine first.1 keeps (λ e. let new = makes-new code first.1 e in made new.0 new.1)
        (λ kind slot e. fine-wider (U) U (IsOpenAt first.0) Nowhere (λ u. u) (λ start begun. may-stand place first rest frame at start begun (stores-never code first.1 kind slot e)) (or_top (slice_get frame.stack 0)) (fine-get U (IsOpenAt first.0) frame.stack 0 fine.stack))
      where
        keeps : (start : ℕ) → IsOpenAt first.0 start → (Constructs (work code first.1) frame start → ⊥) → R start
        keeps start begun not_it = by (cases_order first.0 begun.end)
          where
            constructs : Ends first frame start → Constructs (work code first.1) frame start
            constructs ends =
                subst (λ (instruction : Instruction). Constructs (work code instruction) frame start) (sym ends.is)
                (subst (λ (held : Working). Constructs (work code (op.InvokeSpecial ends.method)) held start) (sym ends.same)
                (works-so (Strictly world) world code first.0 ends.method ends.found start ends.of
                (subst (λ (held : Working). HasOperands (Strictly world) world code first.0 (work code (op.InvokeSpecial ends.method)) held) ends.same
                (subst (λ (instruction : Instruction). HasOperands (Strictly world) world code first.0 (work code instruction) frame) ends.is (known place first rest frame at).operands))))

            by : (first.0 ≡ begun.end) ⊎ ((first.0 < begun.end) ⊎ (begun.end < first.0)) → R start
            by (inl last) = absurd (not_it (constructs (ends-here place first rest frame at start begun last)))
            by (inr (inl inside)) = keep start begun inside
            by (inr (inr past)) = absurd (let below = begun.below in omega (arith, below, past))

    -- the offset behind an instruction is no greater than that of a later one
    next-below : (place : ℕ) (first next : ℕ × Instruction) (more : Instructions) → drop place list ≡ first ∷ next ∷ more → (after : ℕ) (last : ℕ × Instruction) (rest : Instructions) → drop after list ≡ last ∷ rest → first.0 < last.0 → next.0 ≤ last.0
    next-below place first next more e after last rest f less =
        let before = place-before first (next ∷ more) last rest list place after rising e f less in by (cases_order (suc place) after) before
      where
        behind_it : drop (suc place) list ≡ next ∷ more
        behind_it = drop-next list place first (next ∷ more) e

        by : (suc place ≡ after) ⊎ ((suc place < after) ⊎ (after < suc place)) → place < after → next.0 ≤ last.0
        by (inl same) before = let at : next.0 ≡ last.0 = ap (λ (at : ℕ × Instruction). at.0) (head-is next last more rest (sym behind_it ∙ ap (λ found. drop found list) same ∙ f)) in omega (arith, at)
        by (inr (inl less)) before = let so = pc-before next more last rest list (suc place) after rising behind_it f less in omega (arith, so)
        by (inr (inr over)) before = absurd (omega (arith, over, before))

    -- a birth goes on behind an instruction that isn't its last
    birth-goes-on : (place : ℕ) (first next : ℕ × Instruction) (more : Instructions) → drop place list ≡ first ∷ next ∷ more → (start : ℕ) (begun : IsOpenAt first.0 start) → first.0 < begun.end → IsOpenAt next.0 start
    birth-goes-on place first next more e start begun inside =
        let met = met-at list typed.frames start begun.end begun.is.written.call.meets in
        let last = met.4 in
        let later = pc-before first (next ∷ more) next more list place (suc place) rising e (drop-next list place first (next ∷ more) e) (omega arith) in
        let below = next-below place first next more e met.0 met.1 met.2 met.3 (omega (arith, inside, last)) in
        let above = begun.above in
        record { new = begun.new; end = begun.end; is = begun.is; above = omega (arith, above, later); below = omega (arith, below, last) }

    -- and one begins behind its `new`
    birth-begins : (place : ℕ) (first next : ℕ × Instruction) (more : Instructions) → drop place list ≡ first ∷ next ∷ more → Reaches code first.0 → (class : Name) → first.1 ≡ op.New class → IsOpenAt next.0 first.0
    birth-begins place first next more e reached class is =
        let new : IsNewAt list first.0 = record { class = class; here = starts-here first (next ∷ more) list 0 place (rising-from list rising) e ∙ ap (λ one. Some one) is } in
        let birth = is_plain.births first.0 reached new in
        let call = birth.1.written.call in
        let met = met-at list typed.frames first.0 birth.0 call.meets in
        let last = met.4 in
        let inside = call.behind in
        let later = pc-before first (next ∷ more) next more list place (suc place) rising e (drop-next list place first (next ∷ more) e) (omega arith) in
        let below = next-below place first next more e met.0 met.1 met.2 met.3 (omega (arith, inside, last)) in
        record { new = new; end = birth.0; is = birth.1; above = later; below = omega (arith, below, last) }

    -- what falls to the next
    pub falls-open : (place : ℕ) (first next : ℕ × Instruction) (more : Instructions) (frame : Working) → At place first (next ∷ more) frame → Reaches code first.0 → IsFine U (IsOpenAt first.0) frame
        → IsFine U (IsOpenAt next.0) (effect code first.0 (work code first.1) frame)
    falls-open place first next more frame at reached fine =
        leaves place first (next ∷ more) frame at fine (λ start begun inside. birth-goes-on place first next more at.0 start begun inside) (λ class is. birth-begins place first next more at.0 reached class is)

    -- ---- wherever control reaches

    abbrev OpenAt : ℕ → Type 0
    OpenAt pc = (place : ℕ) (first : ℕ × Instruction) (rest : Instructions) (frame : Working) → At place first rest frame → first.0 ≡ pc → IsFine U (IsOpenAt pc) frame

    at-start : OpenAt 0
    at-start place first rest frame at here =
        let k = known place first rest frame at in
        let enters = k.at.enters (first-place first rest list place rising at.0 here) in
        flown (given code first.0) (entry code) frame (subst (λ (flow : Option Working). or_else (given code first.0) flow ≡ Some frame) enters k.is)
        (subst (λ (flow : Option Working). IfSome (given code first.0) (λ other. IfSome flow (λ flow. FrameGoes (Strictly world) flow other))) enters k.into) (entry-fine U (IsOpenAt 0) code own)

    -- the place of an offset
    place-of : (some : Instructions) (pc : ℕ) (first : ℕ × Instruction) (rest : Instructions) → from_pc pc some ≡ first ∷ rest → (place : ℕ) × (drop place some ≡ first ∷ rest) × (first.0 ≡ pc)
    place-of [] pc first rest e = absurd (cc)
    place-of (one ∷ more) pc first rest e = by (one.0 == pc) refl e (place-of more pc first rest)
      where
        by : (test : Bool) → one.0 == pc ≡ test → (if test then one ∷ more else from_pc pc more) ≡ first ∷ rest → (from_pc pc more ≡ first ∷ rest → (place : ℕ) × (drop place more ≡ first ∷ rest) × (first.0 ≡ pc))
            → (place : ℕ) × (drop place (one ∷ more) ≡ first ∷ rest) × (first.0 ≡ pc)
        by true same e later = (0, e, sym (ap (λ (at : ℕ × Instruction). at.0) (head-is one first more rest e)) ∙ eqb-true one.0 pc same)
        by false same e later = let found = later e in (suc found.0, found.1, found.2)

    nothing-in : {A P : Type 0} (one : A) → Contains {X = A} [] one → P
    nothing-in one has = let less = has.1 in absurd (omega arith)

    only-one : {A : Type 0} (one other : A) → Contains (one ∷ []) other → one ≡ other
    only-one one other (zero, less, is) = is
    only-one one other (suc place, less, is) = absurd (omega (arith, less))

    -- where control falls
    fallen : (first : ℕ × Instruction) (rest : Instructions) (edge : Edge) → Contains (map plain (fallen_to first.1 rest)) edge → (falls_through (control_of first.1) ≡ true) × (next : ℕ × Instruction) × (more : Instructions) × (rest ≡ next ∷ more) × (edge.target ≡ next.0)
    fallen first rest edge has = by (falls_through (control_of first.1)) refl rest refl has
      where
        by : (test : Bool) → falls_through (control_of first.1) ≡ test → (some : Instructions) → rest ≡ some → Contains (map plain (if test then first_pc some else [])) edge
            → (falls_through (control_of first.1) ≡ true) × (next : ℕ × Instruction) × (more : Instructions) × (rest ≡ next ∷ more) × (edge.target ≡ next.0)
        by true on [] e has = nothing-in edge has
        by true on (next ∷ more) e has = (on, next, more, e, ap (λ (one : Edge). one.target) (sym (only-one (plain next.0) edge has)))
        by false on some e has = nothing-in edge has

    -- where it jumps
    jumped : (targets : List ℕ) (edge : Edge) → Contains (map plain targets) edge → Contains targets edge.target
    jumped [] edge has = nothing-in edge has
    jumped (first ∷ rest) edge (zero, less, is) = (0, omega arith, ap (λ (one : Edge). one.target) is)
    jumped (first ∷ rest) edge (suc place, less, is) = let later = jumped rest edge (place, omega (arith, less), is) in (suc later.0, omega (arith, later.1), later.2)

    -- which handler takes what is thrown
    caught : (handlers : List Handler) (pc : ℕ) (edge : Edge) → Contains (caught_edges handlers pc) edge → (handler : Handler) × Contains handlers handler × (covers handler pc ≡ true) × (edge.target ≡ handler.target)
    caught [] pc edge has = nothing-in edge has
    caught (first ∷ handlers) pc edge has = by (covers first pc) refl has (λ later. caught handlers pc edge later)
      where
        Takes : List Handler → Type 0
        Takes some = (handler : Handler) × Contains some handler × (covers handler pc ≡ true) × (edge.target ≡ handler.target)

        wider : Takes handlers → Takes (first ∷ handlers)
        wider found = (found.0, Contains-append_right (first ∷ []) handlers found.0 found.1, found.2, found.3)

        more : (test : Bool) → Contains (thrown first.target ∷ (if test then [] else caught_edges handlers pc)) edge → covers first pc ≡ true → (Contains (caught_edges handlers pc) edge → Takes handlers) → Takes (first ∷ handlers)
        more test (zero, less, is) on later = (first, (0, omega arith, refl), on, ap (λ (one : Edge). one.target) (sym is))
        more true (suc place, less, is) on later = absurd (omega (arith, less))
        more false (suc place, less, is) on later = wider (later (place, omega (arith, less), is))

        by : (test : Bool) → covers first pc ≡ test → Contains (if test then thrown first.target ∷ (if is_none first.class then [] else caught_edges handlers pc) else caught_edges handlers pc) edge → (Contains (caught_edges handlers pc) edge → Takes handlers) → Takes (first ∷ handlers)
        by true on has later = more (is_none first.class) has on later
        by false off has later = wider (later has)

    covers-so : (handler : Handler) (pc : ℕ) → covers handler pc ≡ true → Covers handler pc
    covers-so handler pc e = record { from = grind (arith, nat_tests); to = grind (arith, nat_tests) }

    module _ (place : ℕ) (first : ℕ × Instruction) (rest : Instructions) (frame : Working) (at : At place first rest frame) (reached : Reaches code first.0) (fine : IsFine U (IsOpenAt first.0) frame) where
      by-falling : falls_through (control_of first.1) ≡ true → (next : ℕ × Instruction) (more : Instructions) → rest ≡ next ∷ more → OpenAt next.0
      by-falling on next more is after other some held there same =
          behind place first next more frame held (known place first (next ∷ more) frame here)
          (subst (λ (found : ℕ). slice_get (table_of typed) found ≡ Some held) (one-place other some next more list after (suc place) rising there.0 (drop-next list place first (next ∷ more) here.0) same) there.1)
          (same-falls first.1 on) (falls-open place first next more frame here reached fine)
        where
          here : At place first (next ∷ more) frame
          here = (at.0 ∙ ap (λ (list : Instructions). first ∷ list) is, at.1)

      by-jumping : (target : ℕ) → Contains (targets_of first.1) target → OpenAt target
      by-jumping target to after other some held there same =
          let k = known after other some held there in
          arrives (given code other.0) k.at.flow (effect code first.0 (work code first.1) frame) held k.is
          (subst (λ (pc : ℕ). IsSomeAnd (given code pc) (FrameGoes (Strictly world) (effect code first.0 (work code first.1) frame))) (sym same)
          (All-contains (rules_of.Reaches (Strictly world) code (effect code first.0 (work code first.1) frame)) (targets_of first.1) target (known place first rest frame at).targets to).given)
          (leaves place first rest frame at fine (λ start begun inside. absurd (may-stand place first rest frame at start begun (jumps-never first.1 target to)))
          (λ class is. absurd (new-jumps (sym (ap role_of is) ∙ jumps-never first.1 target to))))
        where
          new-jumps : role.New ≡ role.Never → ⊥
          new-jumps e = cc

      by-throwing : (handler : Handler) → Contains code.handlers handler → covers handler first.0 ≡ true → OpenAt handler.target
      by-throwing handler has on after other some held there same =
          let k = known after other some held there in
          let takes = All-contains (λ handler. Covers handler first.0 → HandlerTakes (Strictly world) code frame handler) code.handlers handler (known place first rest frame at).handlers has (covers-so handler first.0 on) in
          arrives (given code other.0) k.at.flow (thrown_frame handler.class frame) held k.is
          (subst (λ (pc : ℕ). IsSomeAnd (given code pc) (FrameGoes (Strictly world) (thrown_frame handler.class frame))) (sym same) takes.reaches.given)
          (record { locals = fine.locals; stack = (tt, tt) })

      by-edge : (edge : Edge) → Contains (first_edges code.handlers (first ∷ rest)) edge → OpenAt edge.target
      by-edge edge has = one (Contains-append_cases (map plain (fallen_to first.1 rest) ++ map plain (targets_of first.1)) (thrown_edges code.handlers first.0 first.1) edge has)
        where
          throws : (test : Bool) → Contains (if test then caught_edges code.handlers first.0 else []) edge → OpenAt edge.target
          throws true has = let found = caught code.handlers first.0 edge has in subst OpenAt (sym found.3) (by-throwing found.0 found.1 found.2)
          throws false has = nothing-in edge has

          two : Contains (map plain (fallen_to first.1 rest)) edge ⊎ Contains (map plain (targets_of first.1)) edge → OpenAt edge.target
          two (inl falls) = let found = fallen first rest edge falls in subst OpenAt (sym found.4) (by-falling found.0 found.1 found.2 found.3)
          two (inr jumps) = by-jumping edge.target (jumped (targets_of first.1) edge jumps)

          one : Contains (map plain (fallen_to first.1 rest) ++ map plain (targets_of first.1)) edge ⊎ Contains (thrown_edges code.handlers first.0 first.1) edge → OpenAt edge.target
          one (inl plainly) = two (Contains-append_cases (map plain (fallen_to first.1 rest)) (map plain (targets_of first.1)) edge plainly)
          one (inr thrown) = throws (can_throw first.1) thrown

    along-one : (pc : ℕ) → Reaches code pc → OpenAt pc → (edge : Edge) → Contains (edges code pc) edge → OpenAt edge.target
    along-one pc reached begun edge has = by (from_pc pc list) refl has
      where
        by : (found : Instructions) → from_pc pc list ≡ found → Contains (first_edges code.handlers found) edge → OpenAt edge.target
        by [] e has = nothing-in edge has
        by (first ∷ rest) e has =
            let at = place-of list pc first rest e in
            let frame = frame-there list (table_of typed) at.0 first rest is_plain.strict.table.number at.1 in
            by-edge at.0 first rest frame.0 (at.1, frame.1) (subst (Reaches code) (sym at.2) reached)
            (subst (λ (pc : ℕ). IsFine U (IsOpenAt pc) frame.0) (sym at.2) (begun at.0 first rest frame.0 (at.1, frame.1) at.2)) edge has

    -- at an instruction that control reaches each object that is unborn is in its birth
    pub open-at : {pc : ℕ} → Reaches code pc → OpenAt pc
    open-at ways.start = at-start
    open-at (along {pc} {edge} reached has) = along-one pc reached (open-at reached) edge has

    pub open-here : (place : ℕ) (first : ℕ × Instruction) (rest : Instructions) (frame : Working) → At place first rest frame → Reaches code first.0 → IsFine U (IsOpenAt first.0) frame
    open-here place first rest frame at reached = open-at reached place first rest frame at refl

  -- ---- where blocks start

  given-listed : (frames : List (ℕ × Frame)) (pc : ℕ) (frame : Frame) → frame_in pc frames ≡ Some frame → IsGiven frames pc
  given-listed [] pc frame e = absurd (cc)
  given-listed (first ∷ rest) pc frame e = by (first.0 == pc) refl e (given-listed rest pc frame)
    where
      by : (test : Bool) → first.0 == pc ≡ test → (if test then Some first.1 else frame_in pc rest) ≡ Some frame → (frame_in pc rest ≡ Some frame → IsGiven rest pc) → IsGiven (first ∷ rest) pc
      by true same e later = inl (sym (eqb-true first.0 pc same))
      by false same e later = inr (later e)

  pub given-is : (pc : ℕ) (P : Working → Type 0) → IsSomeAnd (given code pc) P → IsGiven code.frames pc
  given-is pc P has = by (frame_in pc code.frames) refl has
    where
      by : (found : Option Frame) → frame_in pc code.frames ≡ found → IsSomeAnd (option_map (λ frame. padded code.max_locals (top_down frame)) found) P → IsGiven code.frames pc
      by None e has = absurd has
      by (Some frame) e has = given-listed code.frames pc frame e

  -- what a table asks: a bound of a range, or a handler
  table-asks : (handlers : List Handler) (pc : ℕ) → TableAsks handlers pc → IsBound handlers pc ⊎ (handler : Handler) × Contains handlers handler × (pc ≡ handler.target)
  table-asks [] pc asks = absurd asks
  table-asks (first ∷ rest) pc (inl start) = inl (inl start)
  table-asks (first ∷ rest) pc (inr (inl end)) = inl (inr (inl end))
  table-asks (first ∷ rest) pc (inr (inr (inl target))) = inr (first, (0, omega arith, refl), target)
  table-asks (first ∷ rest) pc (inr (inr (inr later))) = by (table-asks rest pc later)
    where
      by : IsBound rest pc ⊎ (handler : Handler) × Contains rest handler × (pc ≡ handler.target) → IsBound (first ∷ rest) pc ⊎ (handler : Handler) × Contains (first ∷ rest) handler × (pc ≡ handler.target)
      by (inl bound) = inl (inr (inr bound))
      by (inr found) = inr (found.0, Contains-append_right (first ∷ []) rest found.0 found.1, found.2)

  -- a handler has a frame
  handler-given : (handler : Handler) → Contains code.handlers handler → IsGiven code.frames handler.target
  handler-given handler has =
      let range = is_plain.ranges handler has in
      let there = there-is (instruction_at list handler.start) range.0 in
      let at = placed list handler.start there.0 there.1 in
      let frame = frame-there list (table_of typed) at.0 (handler.start, there.0) at.1 is_plain.strict.table.number at.2 in
      let k = known at.0 (handler.start, there.0) at.1 frame.0 (at.2, frame.1) in
      let less = range.1 in
      let takes = All-contains (λ handler'. Covers handler' handler.start → HandlerTakes (Strictly world) code frame.0 handler') code.handlers handler k.handlers has (record { from = omega arith; to = less }) in
      given-is handler.target (FrameGoes (Strictly world) (thrown_frame handler.class frame.0)) takes.reaches.given
    where
      there-is : (found : Option Instruction) → IsSome found → (one : Instruction) × (found ≡ Some one)
      there-is None some = absurd (never some)
      there-is (Some one) some = (one, refl)

  -- no block starts in a birth
  pub no-start : (place : ℕ) (first : ℕ × Instruction) (rest : Instructions) → drop place list ≡ first ∷ rest → (start : ℕ) → IsOpenAt first.0 start → BeginsBlock typed first.0 → ⊥
  no-start place first rest at start begun begins = by begins
    where
      free : IsFree typed.code first.0 (role_at role.Plain list place) (role_of first.1) (first_role rest)
      free = between-at (IsFree typed.code) start (begun.end + 1) role.Plain list place first rest begun.is.written.free at begun.above (let below = begun.below in omega (arith, below))

      asked-never : (found : ℕ × Instruction) (frames : List Frame) (behind : ℕ) → EndsBlock code.handlers found.0 found.1 frames behind → role_of found.1 ≡ role.Never
      asked-never found frames behind (inl ends) = ends-never found.1 ends
      asked-never found [] behind (inr changes) = absurd changes.0
      asked-never found (frame ∷ frames) behind (inr changes) = ap role_of changes.0.is

      new-never : role.New ≡ role.Never → ⊥
      new-never e = cc

      -- the instruction before the block
      before : (earlier : ℕ) (found : ℕ × Instruction) (more : Instructions) → drop earlier list ≡ found ∷ first ∷ more → role_of found.1 ≡ role.Never → ⊥
      before earlier found more e never_so =
          let new = placed list start (op.New begun.new.class) begun.new.here in
          let behind_it = drop-next list earlier found (first ∷ more) e in
          let less = place-before (start, op.New begun.new.class) new.1 first more list new.0 (suc earlier) rising new.2 behind_it begun.above in
          order new.0 new.1 new.2 less (cases_order new.0 earlier)
        where
          order : (at_new : ℕ) (some : Instructions) → drop at_new list ≡ (start, op.New begun.new.class) ∷ some → at_new < suc earlier → (at_new ≡ earlier) ⊎ ((at_new < earlier) ⊎ (earlier < at_new)) → ⊥
          order at_new some f less (inl same) =
              let one = head-is (start, op.New begun.new.class) found some (first ∷ more) (sym f ∙ ap (λ place. drop place list) same ∙ e) in
              new-never (ap (λ (at : ℕ × Instruction). role_of at.1) one ∙ never_so)
          order at_new some f less (inr (inl inside)) =
              let above = pc-before (start, op.New begun.new.class) some found (first ∷ more) list at_new earlier rising f e inside in
              let later = pc-before found (first ∷ more) first more list earlier (suc earlier) rising e (drop-next list earlier found (first ∷ more) e) (omega arith) in
              let below = begun.below in
              (between-at (IsAllowed typed start) start begun.end role.Plain list earlier found (first ∷ more) begun.is.written.between e above (omega (arith, later, below))).never never_so
          order at_new some f less (inr (inr over)) = omega (arith, less, over)

      asks : (earlier : ℕ) (found : ℕ × Instruction) (others : Instructions) (frames : List Frame) → drop earlier list ≡ found ∷ others → Contains (targets_of found.1) first.0 ⊎ BeginsBehind code.handlers found.0 found.1 frames (first_pc others) first.0 → ⊥
      asks earlier found others frames e (inl to) =
          let frame = frame-there list (table_of typed) earlier found others is_plain.strict.table.number e in
          let k = known earlier found others frame.0 (e, frame.1) in
          free.frames (given-is first.0 (FrameGoes (Strictly world) (effect code found.0 (work code found.1) frame.0))
          (All-contains (rules_of.Reaches (Strictly world) code (effect code found.0 (work code found.1) frame.0)) (targets_of found.1) first.0 k.targets to).given)
      asks earlier found [] frames e (inr behind) = behind
      asks earlier found (next ∷ more) frames e (inr behind) =
          let one = one-place next more first rest list (suc earlier) place rising (drop-next list earlier found (next ∷ more) e) at (sym behind.0) in
          let same : next ∷ more ≡ first ∷ rest = sym (drop-next list earlier found (next ∷ more) e) ∙ ap (λ at. drop at list) one ∙ at in
          before earlier found rest (e ∙ ap (λ (list : Instructions). found ∷ list) same) (asked-never found frames next.0 behind.1)

      table : IsBound code.handlers first.0 ⊎ (handler : Handler) × Contains code.handlers handler × (first.0 ≡ handler.target) → ⊥
      table (inl bound) = free.ranges bound
      table (inr found) = free.frames (subst (IsGiven code.frames) (sym found.2) (handler-given found.0 found.1))

      by : BeginsBlock typed first.0 → ⊥
      by (entry_block is) = let above = begun.above in omega (arith, above, is)
      by (given_block is) = free.frames is
      by (table_block is) = table (table-asks code.handlers first.0 is)
      by (code_block is) = let found = asked-at code.handlers list typed.frames first.0 is in asks found.0 found.1 found.2 found.3 found.4 found.5
