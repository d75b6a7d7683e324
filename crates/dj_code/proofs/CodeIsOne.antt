-- A method has one code, or one first fault, and never both.
use Rattle.std.proofs.Common.{◌≡◌, ◌↔◌, ℕ, Bool, true, false, List, map, length, Some, IsTrue, refl, sym, ap, subst, ◌∙◌, arith}
use Rattle.std.specs.List.{All, Any}
use Rattle.std.proofs.lemmas.Bool.{false≢true}
use Rattle.dj_layout.specs.declared.fault.Fault.{Fault}
use Rattle.dj_layout.specs.Whole.{IsWhole}
use Rattle.dj_layout.proofs.Laws.{whole_unique}
use Rattle.dj_names.specs.Headers.{Name}
use Rattle.dj_names.specs.Types.{Descriptor}
use Rattle.dj_pool.specs.declared.entry.Entry.{Entry}
use Rattle.dj_class.specs.Described.{MethodOf, ClassOf}
use Rattle.dj_instructions.specs.declared.kinds.BadKind.{BadKind}
use Rattle.dj_instructions.specs.Instructions.{Instruction, Instructions}
use Rattle.dj_instructions.specs.Listing.{IsListing, HasBadInstruction}
use Rattle.dj_instructions.proofs.ListingIsOne.{one_listing, listing_has_no_fault, one_bad}
use Rattle.dj_frames.specs.Frames.{Frame, entry_values}
use Rattle.dj_stack_map.specs.StackMap.{AreFrames, BreaksFrames}
use Rattle.dj_stack_map.proofs.TableIsExact.{one_frames, frames_dont_break, one_fault}
use Rattle.dj_code.specs.declared.content.CodeContent.{CodeContent}
use Rattle.dj_code.specs.declared.content.RawHandler.{RawHandler}
use Rattle.dj_code.specs.declared.method_code.Handler.{Handler}
use Rattle.dj_code.specs.CodeContent as layouts
use Rattle.dj_code.specs.MethodCode.{Code}
use Rattle.dj_code.specs.Targets.{IsLeast, JumpsRight, AllJumpRight, JumpsWrong, StartsWrong, LeadsRight, RangesRight, handler_of}
use Rattle.dj_code.specs.ReadCode.{HasContent, PassesChecks, BreaksCheck, jump, handler, range, tables_of, SpellsCode, FirstCodeFault, layout, instruction, check, frame}
use Rattle.dj_code.proofs.ContentIsExact.{exact-content}

one_content : (method : MethodOf) (a b : CodeContent) → HasContent method a → HasContent method b → a ≡ b
one_content method a b p q =
    let bodies : Some p.bytes ≡ Some q.bytes = sym p.body ∙ q.body in
    let bytes : q.bytes ≡ p.bytes = cc in
    whole_unique layouts.content exact-content p.bytes a b p.laid_out (subst (λ (t : List ℕ). IsWhole layouts.content t b) bytes q.laid_out)

-- ---- checks

-- what holds of all doesn't fail of any
none_wrong : {X : Type 0} (start : X → ℕ) (Right : X → Type 0) (xs : List X) (pc : ℕ) → All Right xs → Any (λ x. (start x ≡ pc) × (Right x → ⊥)) xs → ⊥
none_wrong start Right xs pc all (k, x, lt, at, both) = both.1 (subst Right at (all k x lt))

one_least : (P : ℕ → Type 0) (a b : ℕ) → IsLeast P a → IsLeast P b → a ≡ b
one_least P a b p q = omega (arith, p.least b q.here, q.least a p.here)

module _ (pool : List Entry) (content : CodeContent) (instructions : Instructions) where
  jumps_fail : (pc : ℕ) → AllJumpRight instructions → IsLeast (JumpsWrong instructions) pc → ⊥
  jumps_fail pc all least = none_wrong (λ (at : ℕ × Instruction). at.0) (λ (at : ℕ × Instruction). JumpsRight instructions at.1) instructions pc all least.here

  leads_fail : (pc : ℕ) → All (LeadsRight instructions) content.handlers → IsLeast (StartsWrong (LeadsRight instructions) content.handlers) pc → ⊥
  leads_fail pc all least = none_wrong (λ (h : RawHandler). h.start) (LeadsRight instructions) content.handlers pc all least.here

  ranges_fail : (pc : ℕ) → All (RangesRight pool instructions (length content.code)) content.handlers → IsLeast (StartsWrong (RangesRight pool instructions (length content.code)) content.handlers) pc → ⊥
  ranges_fail pc all least = none_wrong (λ (h : RawHandler). h.start) (RangesRight pool instructions (length content.code)) content.handlers pc all least.here

  passes_break : (bad : BadKind) (pc : ℕ) → PassesChecks pool content instructions → BreaksCheck pool content instructions bad pc → ⊥
  passes_break bad pc passes (jump least) = jumps_fail pc passes.jumps least
  passes_break bad pc passes (handler jumps least) = leads_fail pc passes.leads least
  passes_break bad pc passes (range jumps leads least) = ranges_fail pc passes.ranges least

  one_check : (a b : BadKind) (p q : ℕ) → BreaksCheck pool content instructions a p → BreaksCheck pool content instructions b q → (a ≡ b) × (p ≡ q)
  one_check a b p q (jump x) (jump y) = (refl, one_least (JumpsWrong instructions) p q x y)
  one_check a b p q (jump x) (handler jumps y) = absurd (jumps_fail p jumps x)
  one_check a b p q (jump x) (range jumps leads y) = absurd (jumps_fail p jumps x)
  one_check a b p q (handler jumps x) (jump y) = absurd (jumps_fail q jumps y)
  one_check a b p q (handler jumps x) (handler others y) = (refl, one_least (StartsWrong (LeadsRight instructions) content.handlers) p q x y)
  one_check a b p q (handler jumps x) (range others leads y) = absurd (leads_fail p leads x)
  one_check a b p q (range jumps leads x) (jump y) = absurd (jumps_fail q jumps y)
  one_check a b p q (range jumps leads x) (handler others y) = absurd (leads_fail q leads y)
  one_check a b p q (range jumps leads x) (range others those y) = (refl, one_least (StartsWrong (RangesRight pool instructions (length content.code)) content.handlers) p q x y)

-- ---- the code

abbrev code_with : Name → List ℕ → ℕ → Bool → Descriptor → List Name → ℕ → ℕ → Instructions → List Handler → List (ℕ × Frame) → Code
code_with class name flags interface descriptor thrown max_stack max_locals instructions handlers frames = record {
  class = class;
  name = name;
  flags = flags;
  interface = interface;
  descriptor = descriptor;
  thrown = thrown;
  max_stack = max_stack;
  max_locals = max_locals;
  instructions = instructions;
  handlers = handlers;
  frames = frames;
}

same_flag : {P : Type 0} (a b : Bool) → IsTrue a ↔ P → IsTrue b ↔ P → a ≡ b
same_flag true true p q = refl
same_flag false false p q = refl
same_flag true false p q = absurd (false≢true (q.1 (p.0 refl)))
same_flag false true p q = absurd (false≢true (p.1 (q.0 refl)))

pub one_code : (class : ClassOf) (method : MethodOf) (a b : Code) → SpellsCode class method a → SpellsCode class method b → a ≡ b
one_code class method a b p q =
    let content = one_content method q.content p.content q.has p.has in
    let listed : IsListing class.pool p.content.code b.instructions = subst (λ (c : CodeContent). IsListing class.pool c.code b.instructions) content q.listed in
    let instructions = one_listing class.pool p.content.code a.instructions b.instructions p.listed listed in
    let given : AreFrames class.pool a.instructions (entry_values class.this_class method) (tables_of class.pool p.content) b.frames =
    subst (λ (i : Instructions). AreFrames class.pool i (entry_values class.this_class method) (tables_of class.pool p.content) b.frames) (sym instructions)
    (subst (λ (c : CodeContent). AreFrames class.pool b.instructions (entry_values class.this_class method) (tables_of class.pool c) b.frames) content q.frames) in
    let frames = one_frames class.pool a.instructions (entry_values class.this_class method) (tables_of class.pool p.content) a.frames b.frames p.frames given in
    let handlers : a.handlers ≡ b.handlers = p.handlers ∙ ap (λ (c : CodeContent). map (handler_of class.pool) c.handlers) (sym content) ∙ sym q.handlers in
    let name : a.class ≡ b.class = p.head.class_is ∙ sym q.head.class_is in
    let its_name : a.name ≡ b.name = p.head.name ∙ sym q.head.name in
    let flags : a.flags ≡ b.flags = p.head.flags ∙ sym q.head.flags in
    let interface = same_flag a.interface b.interface p.head.interface q.head.interface in
    let descriptor : a.descriptor ≡ b.descriptor = p.head.descriptor ∙ sym q.head.descriptor in
    let thrown : a.thrown ≡ b.thrown = p.head.thrown ∙ sym q.head.thrown in
    let max_stack : a.max_stack ≡ b.max_stack = p.head.max_stack ∙ ap (λ (c : CodeContent). c.max_stack) (sym content) ∙ sym q.head.max_stack in
    let max_locals : a.max_locals ≡ b.max_locals = p.head.max_locals ∙ ap (λ (c : CodeContent). c.max_locals) (sym content) ∙ sym q.head.max_locals in
    let same : code_with a.class a.name a.flags a.interface a.descriptor a.thrown a.max_stack a.max_locals a.instructions a.handlers a.frames ≡ code_with b.class b.name b.flags b.interface b.descriptor b.thrown b.max_stack b.max_locals b.instructions b.handlers b.frames =
    rw (name, its_name, flags, interface, descriptor, thrown, max_stack, max_locals, instructions, handlers, frames) refl in
    same

-- ---- faults

module _ (class : ClassOf) (method : MethodOf) where
  -- the same parts, of one content and one listing
  here_listed : (a b : CodeContent) (i : Instructions) → HasContent method a → HasContent method b → IsListing class.pool b.code i → IsListing class.pool a.code i
  here_listed a b i has also listed = subst (λ (c : CodeContent). IsListing class.pool c.code i) (one_content method b a also has) listed

  same_instructions : (a b : CodeContent) (i j : Instructions) → HasContent method a → HasContent method b → IsListing class.pool a.code i → IsListing class.pool b.code j → j ≡ i
  same_instructions a b i j has also listed others = one_listing class.pool a.code j i (here_listed a b j has also others) listed

  here_broken : (a b : CodeContent) (found : Fault BadKind) → HasContent method a → HasContent method b → HasBadInstruction class.pool b.code found → HasBadInstruction class.pool a.code found
  here_broken a b found has also broken = subst (λ (c : CodeContent). HasBadInstruction class.pool c.code found) (one_content method b a also has) broken

  listing_broken : (a b : CodeContent) (i : Instructions) (found : Fault BadKind) → HasContent method a → HasContent method b → IsListing class.pool a.code i → HasBadInstruction class.pool b.code found → ⊥
  listing_broken a b i found has also listed broken = listing_has_no_fault class.pool a.code i found listed (here_broken a b found has also broken)

  here_checked : (a b : CodeContent) (i j : Instructions) (bad : BadKind) (pc : ℕ) → HasContent method a → HasContent method b → IsListing class.pool a.code i → IsListing class.pool b.code j
      → BreaksCheck class.pool b j bad pc → BreaksCheck class.pool a i bad pc
  here_checked a b i j bad pc has also listed others breaks =
      subst (λ (c : CodeContent). BreaksCheck class.pool c i bad pc) (one_content method b a also has) (subst (λ (k : Instructions). BreaksCheck class.pool b k bad pc) (same_instructions a b i j has also listed others) breaks)

  here_given : (a b : CodeContent) (i j : Instructions) (pc : ℕ) → HasContent method a → HasContent method b → IsListing class.pool a.code i → IsListing class.pool b.code j
      → BreaksFrames class.pool j (entry_values class.this_class method) (tables_of class.pool b) pc → BreaksFrames class.pool i (entry_values class.this_class method) (tables_of class.pool a) pc
  here_given a b i j pc has also listed others breaks =
      subst (λ (c : CodeContent). BreaksFrames class.pool i (entry_values class.this_class method) (tables_of class.pool c) pc) (one_content method b a also has)
      (subst (λ (k : Instructions). BreaksFrames class.pool k (entry_values class.this_class method) (tables_of class.pool b) pc) (same_instructions a b i j has also listed others) breaks)

  -- code has no fault
  pub code_has_no_fault : (code : Code) (bad : BadKind) (pc : ℕ) → SpellsCode class method code → FirstCodeFault class method bad pc → ⊥
  code_has_no_fault code bad pc p (layout none) = none p.content p.has
  code_has_no_fault code bad pc p (instruction content has broken) = listing_broken p.content content code.instructions _ p.has has p.listed broken
  code_has_no_fault code bad pc p (check content i has listed breaks) =
      passes_break class.pool p.content code.instructions bad pc p.checks (here_checked p.content content code.instructions i bad pc p.has has p.listed listed breaks)
  code_has_no_fault code bad pc p (frame content i has listed passes breaks) =
      frames_dont_break class.pool code.instructions (entry_values class.this_class method) (tables_of class.pool p.content) code.frames pc p.frames (here_given p.content content code.instructions i pc p.has has p.listed listed breaks)

  -- a check that passes isn't broken
  checks_broken : (a b : CodeContent) (i j : Instructions) (bad : BadKind) (pc : ℕ) → HasContent method a → HasContent method b → IsListing class.pool a.code i → IsListing class.pool b.code j
      → PassesChecks class.pool a i → BreaksCheck class.pool b j bad pc → ⊥
  checks_broken a b i j bad pc has also listed others passes breaks = passes_break class.pool a i bad pc passes (here_checked a b i j bad pc has also listed others breaks)

  -- and there is one first fault
  pub one_code_fault : (a b : BadKind) (p q : ℕ) → FirstCodeFault class method a p → FirstCodeFault class method b q → (a ≡ b) × (p ≡ q)
  one_code_fault a b p q (layout none) (layout neither) = (refl, refl)
  one_code_fault a b p q (layout none) (instruction content has broken) = absurd (none content has)
  one_code_fault a b p q (layout none) (check content i has listed breaks) = absurd (none content has)
  one_code_fault a b p q (layout none) (frame content i has listed passes breaks) = absurd (none content has)
  one_code_fault a b p q (instruction content has broken) (layout none) = absurd (none content has)
  one_code_fault a b p q (instruction {found = f} content has broken) (instruction {found = g} other also wrong) =
      let same = one_bad class.pool content.code f g broken (here_broken content other g has also wrong) in (ap (λ (x : Fault BadKind). x.kind) same, ap (λ (x : Fault BadKind). x.offset) same)
  one_code_fault a b p q (instruction {found = f} content has broken) (check other i also listed breaks) = absurd (listing_broken other content i f also has listed broken)
  one_code_fault a b p q (instruction {found = f} content has broken) (frame other i also listed passes breaks) = absurd (listing_broken other content i f also has listed broken)
  one_code_fault a b p q (check content i has listed breaks) (layout none) = absurd (none content has)
  one_code_fault a b p q (check content i has listed breaks) (instruction {found = g} other also broken) = absurd (listing_broken content other i g has also listed broken)
  one_code_fault a b p q (check content i has listed breaks) (check other j also others wrong) = one_check class.pool content i a b p q breaks (here_checked content other i j b q has also listed others wrong)
  one_code_fault a b p q (check content i has listed breaks) (frame other j also others passes wrong) = absurd (checks_broken other content j i a p also has others listed passes breaks)
  one_code_fault a b p q (frame content i has listed passes breaks) (layout none) = absurd (none content has)
  one_code_fault a b p q (frame content i has listed passes breaks) (instruction {found = g} other also broken) = absurd (listing_broken content other i g has also listed broken)
  one_code_fault a b p q (frame content i has listed passes breaks) (check other j also others wrong) = absurd (checks_broken content other i j b q has also listed others passes wrong)
  one_code_fault a b p q (frame content i has listed passes breaks) (frame other j also others passes_too wrong) =
      (refl, one_fault class.pool i (entry_values class.this_class method) (tables_of class.pool content) p q breaks (here_given content other i j q has also listed others wrong))
