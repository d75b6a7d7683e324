-- Which code is straight, and at which instruction other code breaks.
use Rattle.std.proofs.Common.{◌≡◌, ℕ, suc, ◌+◌, ◌<◌, List, [], ◌∷◌, ◌++◌, ◌⊎◌, inl, inr, length, map, true, false, Option, Some, None, refl, sym, ap, ◌∙◌, arith, append_assoc, add-one, get_or, take, drop, drop-cons, length-append}
use Rattle.std.proofs.Math.Seq.{take-suc}
use Rattle.std.proofs.lemmas.List.{take-append-drop}
use Rattle.std.specs.List.{All}
use Rattle.std.proofs.lemmas.List.{map-append}
use Rattle.std.proofs.lemmas.List.Elements.{All-nil, All-head, All-tail, All-push}
use Rattle.std.specs.Option.{option_and_then}
use Rattle.dj_syntax.specs.WellFormed.{IsWellFormedExp}
use Rattle.dj_instructions.specs.declared.instruction.Instruction as declared
use Rattle.dj_instructions.specs.Instructions.{Instruction, Instructions, view_instruction, view_instructions}
use Rattle.dj_instructions.specs.declared.kinds.Kind.TheVariants as kind
use Rattle.dj_instructions.specs.Instructions as instruction
use Rattle.dj_straight.specs.declared.straight.Node.{Node}
use Rattle.dj_straight.specs.declared.straight.Rebuilt.{Rebuilt}
use Rattle.dj_straight.specs.declared.straight.Rebuilt.TheVariants.{Tree, Breaks}
use Rattle.dj_straight.specs.Straight.{Formula, postfix, HasStraightOpcode, IsStraightCode, IsBegun, BreaksAt, breaks, ends, IsRebuilt, IfTree}
use Rattle.dj_straight.specs.Rebuilding.{AreNodes, advanced, built, WentOn, IsClosed, IsReturn, Builds, Blocks, IsBlockedAt, viewed}
use Rattle.dj_straight.proofs.StraightBuilt.{built-append, built_formula, built_stack, built_within}

-- the instructions without their offsets
abbrev listing : Instructions → List Instruction
listing code = map (λ i. i.1) code

listing-append : (front back : Instructions) → listing (front ++ back) ≡ listing front ++ listing back
listing-append front back = map-append (λ (i : ℕ × Instruction). i.1) front back

-- the last item of a list, seen from an earlier place
split_last : {A : Type 0} (front : List A) (next : A) (more list : List A) (last : A) → front ++ next ∷ more ≡ list ++ last ∷ [] → ((front ≡ list) × (next ≡ last) × (more ≡ [])) ⊎ ((behind : List A) × (list ≡ front ++ next ∷ behind))
split_last [] next more [] last is = inl (refl, cc, cc)
split_last [] next more (first ∷ list) last is = let e : next ≡ first = cc in inr (list, rw e)
split_last (first ∷ front) next more [] last is =
    let e : front ++ next ∷ more ≡ [] = cc in
    absurd (omega (arith, ap length e, length-append front (next ∷ more)))
split_last (first ∷ front) next more (first' ∷ list) last is =
    let same : first ≡ first' = cc in
    let e : front ++ next ∷ more ≡ list ++ last ∷ [] = cc in
    elim (split_last front next more list last e) [
      | inl r ↦ let f = r.0 in inl (cc, r.1, r.2)
      | inr r ↦ let f = r.1 in inr (r.0, cc)
    ]

-- one item of a list of which all have a property
one_of_all : {X : Type 0} (P : X → Type 0) (front : List X) (x : X) (back : List X) → All P (front ++ x ∷ back) → P x
one_of_all P [] x back all = All-head P x back all
one_of_all P (y ∷ front) x back all = one_of_all P front x back (All-tail P y (front ++ x ∷ back) all)

none_listed : (code : Instructions) → listing code ≡ [] → code ≡ []
none_listed [] none = refl
none_listed (first ∷ code) none = absurd (cc)

module _ (parameters max_stack : ℕ) (bytes : List ℕ) where
  -- what builds a stack begins a straight method
  pub begun_of : (code : Instructions) (stack : List Formula) → Builds parameters max_stack bytes code stack → IsBegun parameters max_stack bytes code
  begun_of code stack builds =
      let all = built_within parameters max_stack (listing code) [] stack builds.ran tt (omega arith) in
      record { opcodes = builds.opcodes; stack = stack; form = sym all.form; formulas = all.formulas; room = all.room }

  -- one instruction more
  ran_more : (before : Instructions) (first : ℕ × Instruction) (stack : List Formula) → built parameters max_stack (listing before) [] ≡ Some stack → built parameters max_stack (listing (before ++ first ∷ [])) [] ≡ option_and_then (built parameters max_stack []) (advanced parameters max_stack first.1 stack)
  ran_more before first stack ran =
      ap (λ list. built parameters max_stack list []) (listing-append before (first ∷ [])) ∙ built-append parameters max_stack (listing before) (first.1 ∷ []) [] ∙ ap (λ next. option_and_then (built parameters max_stack (first.1 ∷ [])) next) ran

  pub builds_more : (before : Instructions) (first : ℕ × Instruction) (stack next : List Formula) → Builds parameters max_stack bytes before stack → HasStraightOpcode bytes first.0 → advanced parameters max_stack first.1 stack ≡ Some next → Builds parameters max_stack bytes (before ++ first ∷ []) next
  builds_more before first stack next builds straight goes = record {
    opcodes = All-push (λ (at : ℕ × Instruction). HasStraightOpcode bytes at.0) before first builds.opcodes straight;
    ran = ran_more before first stack builds.ran ∙ ap (λ n. option_and_then (built parameters max_stack []) n) goes;
  }

  -- an instruction that the stack doesn't go on with begins no straight method
  not_begun : (before : Instructions) (first : ℕ × Instruction) (stack : List Formula) → Builds parameters max_stack bytes before stack → Blocks parameters max_stack bytes stack first → ¬ IsBegun parameters max_stack bytes (before ++ first ∷ [])
  not_begun before first stack builds (inl other) begun =
      other (one_of_all (λ (at : ℕ × Instruction). HasStraightOpcode bytes at.0) before first [] begun.opcodes)
  not_begun before first stack builds (inr none) begun =
      let ran : built parameters max_stack (listing (before ++ first ∷ [])) [] ≡ Some begun.stack = rw begun.form (built_stack parameters max_stack begun.stack begun.formulas begun.room) in
      let stopped : built parameters max_stack (listing (before ++ first ∷ [])) [] ≡ None = ran_more before first stack builds.ran ∙ ap (λ n. option_and_then (built parameters max_stack []) n) none in
      absurd (cc)

  -- nor is the whole straight, unless it is an `ireturn` at the end that finds one formula
  not_straight : (before : Instructions) (first : ℕ × Instruction) (behind : Instructions) (stack : List Formula) → Builds parameters max_stack bytes before stack → Blocks parameters max_stack bytes stack first
      → ((formula : Formula) → stack ≡ formula ∷ [] → HasStraightOpcode bytes first.0 → IsReturn first.1 → behind ≡ [] → ⊥) → (formula : Formula) → ¬ IsStraightCode parameters max_stack bytes (before ++ first ∷ behind) formula
  not_straight before first behind stack builds (inl other) unclosed formula straight =
      other (one_of_all (λ (at : ℕ × Instruction). HasStraightOpcode bytes at.0) before first behind straight.opcodes)
  not_straight before first behind stack builds (inr none) unclosed formula straight =
      elim (split_last (listing before) first.1 (listing behind) (postfix formula) _ parts) [
        | inl r ↦
            let f = r.0 in
            let one : stack ≡ formula ∷ [] = let e : built parameters max_stack (listing before) [] ≡ Some (formula ∷ []) = ap (λ list. built parameters max_stack list []) f ∙ ran in let g = builds.ran in cc in
            unclosed formula one (one_of_all (λ (at : ℕ × Instruction). HasStraightOpcode bytes at.0) before first behind straight.opcodes) r.1 (none_listed behind r.2)
        | inr r ↦
            let e : built parameters max_stack (postfix formula) [] ≡ None = ap (λ list. built parameters max_stack list []) r.1 ∙ built-append parameters max_stack (listing before) (first.1 ∷ r.0) [] ∙ ap (λ o. option_and_then (built parameters max_stack (first.1 ∷ r.0)) o) builds.ran ∙ ap (λ o. option_and_then (built parameters max_stack r.0) o) none in
            absurd (cc ran)
      ]
    where
      ran : built parameters max_stack (postfix formula) [] ≡ Some (formula ∷ [])
      ran = built_formula parameters max_stack formula [] straight.straight.slots straight.straight.levels (omega (arith, straight.straight.stack))

      parts : listing before ++ first.1 ∷ listing behind ≡ postfix formula ++ instruction.Return (Some kind.Int) ∷ []
      parts = sym (listing-append before (first ∷ behind)) ∙ straight.straight.form

  pub breaks_at : (before : Instructions) (first : ℕ × Instruction) (behind : Instructions) (stack : List Formula) → Builds parameters max_stack bytes before stack → Blocks parameters max_stack bytes stack first
      → ((formula : Formula) → stack ≡ formula ∷ [] → HasStraightOpcode bytes first.0 → IsReturn first.1 → behind ≡ [] → ⊥) → BreaksAt parameters max_stack bytes (before ++ first ∷ behind) first.0
  breaks_at before first behind stack builds blocks unclosed =
      breaks before first behind refl (begun_of before stack builds) (not_begun before first stack builds blocks) (not_straight before first behind stack builds blocks unclosed)

  -- instructions with one more behind them break where they break by themselves
  pub breaks_before : (code : Instructions) (last : ℕ × Instruction) (pc : ℕ) → IsBlockedAt parameters max_stack bytes code pc → BreaksAt parameters max_stack bytes (code ++ last ∷ []) pc
  breaks_before code last pc blocked =
      let all : code ++ last ∷ [] ≡ blocked.before ++ blocked.first ∷ (blocked.behind ++ last ∷ []) = ap (λ list. list ++ last ∷ []) blocked.is ∙ append_assoc blocked.before (blocked.first ∷ blocked.behind) (last ∷ []) in
      rw (all, blocked.at) (breaks_at blocked.before blocked.first (blocked.behind ++ last ∷ []) blocked.stack blocked.builds blocked.blocks (λ formula one opcode return none. absurd (omega (arith, ap length none, length-append blocked.behind (last ∷ [])))))

  -- what `ireturn` at the end makes of the stack
  pub close_rebuilt : (before : Instructions) (last : ℕ × Instruction) (stack : List Formula) (rebuilt : Rebuilt) → Builds parameters max_stack bytes before stack → HasStraightOpcode bytes last.0 → IsReturn last.1 → IsClosed rebuilt stack last.0 → IsRebuilt parameters max_stack bytes (before ++ last ∷ []) rebuilt
  close_rebuilt before last stack (Tree exp) builds straight return (formula, one, tree, fits) =
      let all = built_within parameters max_stack (listing before) [] (formula ∷ []) (builds.ran ∙ ap (λ list. Some list) one) tt (omega arith) in
      record {
        formula = formula;
        straight = record {
          opcodes = All-push (λ (at : ℕ × Instruction). HasStraightOpcode bytes at.0) before last builds.opcodes straight;
          straight = record {
            form = listing-append before (last ∷ []) ∙ ap (λ list. list ++ last.1 ∷ []) (sym all.form) ∙ ap (λ i. postfix formula ++ i ∷ []) return;
            slots = all.formulas.0;
            levels = all.formulas.1;
            stack = omega (arith, all.room);
          };
        };
        tree = tree;
      }
  close_rebuilt before last stack (Breaks at) builds straight return (here, several) =
      rw here (breaks_at before last [] stack builds (inr (rw return refl)) (λ formula one opcode is none. several formula one))

  -- the last instruction breaks the code where it isn't `ireturn` and the stack doesn't go on with it
  pub last_breaks : (before : Instructions) (last : ℕ × Instruction) (stack : List Formula) → Builds parameters max_stack bytes before stack → Blocks parameters max_stack bytes stack last → (HasStraightOpcode bytes last.0 → IsReturn last.1 → ⊥) → BreaksAt parameters max_stack bytes (before ++ last ∷ []) last.0
  last_breaks before last stack builds blocks other = breaks_at before last [] stack builds blocks (λ formula one opcode return empty. other opcode return)

-- ---- what the code's steps tell

pub went_on : (next : Option (List Formula)) (nodes : List Node) → WentOn true next nodes → (stack : List Formula) × (next ≡ Some stack) × AreNodes nodes stack
went_on None nodes went = absurd went
went_on (Some stack) nodes went = (stack, refl, went)

pub went_nowhere : (next : Option (List Formula)) (nodes : List Node) → WentOn false next nodes → next ≡ None
went_nowhere None nodes went = refl
went_nowhere (Some stack) nodes went = absurd went

-- what was closed is a well formed expression
pub closed_fits : (rebuilt : Rebuilt) (stack : List Formula) (pc : ℕ) → IsClosed rebuilt stack pc → IfTree rebuilt IsWellFormedExp
closed_fits (Tree exp) stack pc (formula, one, tree, fits) = fits
closed_fits (Breaks at) stack pc closed = tt

-- ---- one instruction of the code

-- a list at one of its places
split_at : {A : Type 0} (list : List A) (place : ℕ) (item : A) → place < length list → item ≡ get_or list place item → list ≡ take place list ++ item ∷ drop (place + 1) list
split_at list place item inside is =
    sym (take-append-drop place list) ∙ ap (λ rest. take place list ++ rest) (rw (add-one, drop-cons list place item) (ap (λ x. x ∷ drop (suc place) list) (sym is)))

-- one item more of a list
take_more : {A : Type 0} (list : List A) (place : ℕ) (item : A) → place < length list → item ≡ get_or list place item → take (place + 1) list ≡ take place list ++ item ∷ []
take_more list place item inside is = rw add-one (take-suc list place item inside) ∙ ap (λ x. take place list ++ x ∷ []) (sym is)

viewed-append : (front back : List (ℕ × declared.Instruction)) → view_instructions (front ++ back) ≡ view_instructions front ++ view_instructions back
viewed-append front back = map-append viewed front back

module _ (parameters max_stack : ℕ) (bytes : List ℕ) (code : List (ℕ × declared.Instruction)) (place : ℕ) (item : ℕ × declared.Instruction) (stack : List Formula) (inside : place < length code) (is : item ≡ get_or code place item) (builds : Builds parameters max_stack bytes (view_instructions (take place code)) stack) where
  -- an instruction that the stack doesn't go on with
  pub blocked_here : Blocks parameters max_stack bytes stack (viewed item) → IsBlockedAt parameters max_stack bytes (view_instructions code) item.0
  blocked_here blocks = record {
    before = view_instructions (take place code);
    first = viewed item;
    behind = view_instructions (drop (place + 1) code);
    is = ap view_instructions (split_at code place item inside is) ∙ viewed-append (take place code) (item ∷ drop (place + 1) code);
    at = refl;
    stack = stack;
    builds = builds;
    blocks = blocks;
  }

  -- an instruction that it goes on with
  pub built_here : (nodes : List Node) → HasStraightOpcode bytes item.0 → WentOn true (advanced parameters max_stack (view_instruction item.1) stack) nodes
      → (next : List Formula) × Builds parameters max_stack bytes (view_instructions (take (place + 1) code)) next × AreNodes nodes next
  built_here nodes straight went =
      let step = went_on (advanced parameters max_stack (view_instruction item.1) stack) nodes went in
      let more : view_instructions (take (place + 1) code) ≡ view_instructions (take place code) ++ viewed item ∷ [] = ap view_instructions (take_more code place item inside is) ∙ viewed-append (take place code) (item ∷ []) in
      (step.0, rw more (builds_more parameters max_stack bytes (view_instructions (take place code)) (viewed item) stack step.0 builds straight step.1), step.2)

-- no instruction is only begun
pub empty_breaks : (parameters max_stack : ℕ) (bytes : List ℕ) (code : List (ℕ × declared.Instruction)) → length code ≡ 0 → BreaksAt parameters max_stack bytes (view_instructions code) (length bytes)
empty_breaks parameters max_stack bytes [] none =
    ends (begun_of parameters max_stack bytes [] [] (record { opcodes = All-nil (λ (at : ℕ × Instruction). HasStraightOpcode bytes at.0); ran = refl }))
empty_breaks parameters max_stack bytes (first ∷ code) none = absurd (omega arith)

-- instructions before a last one
pub viewed_last : (code before : List (ℕ × declared.Instruction)) (last : ℕ × declared.Instruction) → code ≡ before ++ last ∷ [] → view_instructions code ≡ view_instructions before ++ viewed last ∷ []
viewed_last code before last is = ap view_instructions is ∙ viewed-append before (last ∷ [])
