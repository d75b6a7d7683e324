-- Why the code of a method isn't read, and what is answered.
use Rattle.std.proofs.Common.{◌≡◌, ℕ, List, Some, Result, Ok, Err, sym, subst, ◌∙◌, inl, inr}
use Rattle.dj_layout.specs.Whole.{IsWhole}
use Rattle.dj_pool.specs.declared.entry.Entry.{Entry}
use Rattle.dj_class.specs.Described.{MethodOf, ClassOf}
use Rattle.dj_instructions.specs.declared.kinds.BadKind.{BadKind}
use Rattle.dj_instructions.specs.Instructions.{Instructions}
use Rattle.dj_instructions.specs.Listing.{IsListing}
use Rattle.dj_frames.specs.Frames.{entry_values}
use Rattle.dj_code.specs.declared.content.CodeContent.{CodeContent}
use Rattle.dj_code.specs.declared.fault.CodeFault.{CodeFault}
use Rattle.dj_code.specs.declared.fault.CodeFault.TheVariants as fault
use Rattle.dj_code.specs.declared.method_code.Code as code_code
use Rattle.dj_code.specs.CodeContent as layouts
use Rattle.dj_code.specs.MethodCode.{Code, view_code}
use Rattle.dj_code.specs.ReadCode.{HasContent, PassesChecks, tables_of, SpellsCode, FirstCodeFault, layout, instruction, check, frame, IsCodeFault, GivesCode, GivesCodeFault}
use Rattle.dj_code.specs.Checks.{ReadsContent, ReadsListing, ReadsChecked, ReadsGiven, ReadsCode}
use Rattle.dj_code.proofs.CodeIsOne.{one_code, code_has_no_fault, one_code_fault}

-- instructions that aren't listed aren't checked
pub listing_stops : (pool : List Entry) (content : CodeContent) (why : CodeFault) → ReadsListing pool content.code (Err why) → ReadsChecked pool content (Err why)
listing_stops pool content (fault.BadCode pc bad) reads = inl reads
listing_stops pool content (fault.Memory error) reads = tt

module _ (class : ClassOf) (method : MethodOf) where
  -- there is no content
  pub content_stops : (bytes : List ℕ) (why : CodeFault) → method.code ≡ Some bytes → ReadsContent bytes (Err why) → IsCodeFault class method why
  content_stops bytes (fault.Memory error) body reads = tt
  content_stops bytes (fault.BadCode pc bad) body (is, at, none) =
      rw (is, at) (layout (λ content has.
      let bodies : Some has.bytes ≡ Some bytes = sym has.body ∙ body in
      let same : has.bytes ≡ bytes = cc in
      none content (subst (λ (t : List ℕ). IsWhole layouts.content t content) same has.laid_out)))

  -- the instructions aren't right
  pub checked_stops : (content : CodeContent) (why : CodeFault) → HasContent method content → ReadsChecked class.pool content (Err why) → IsCodeFault class method why
  checked_stops content (fault.Memory error) has reads = tt
  checked_stops content (fault.BadCode pc bad) has (inl (found, halts, is, at)) = rw (is, at) (instruction content has halts)
  checked_stops content (fault.BadCode pc bad) has (inr (instructions, listed, breaks)) = check content instructions has listed breaks

  -- the frames aren't
  pub frames_stop : (content : CodeContent) (instructions : Instructions) (why : CodeFault) → HasContent method content → IsListing class.pool content.code instructions → PassesChecks class.pool content instructions
      → ReadsGiven class.pool instructions (entry_values class.this_class method) (tables_of class.pool content) (Err why) → IsCodeFault class method why
  frames_stop content instructions (fault.Memory error) has listed passes reads = tt
  frames_stop content instructions (fault.BadCode pc bad) has listed passes (is, breaks) = rw is (frame content instructions has listed passes breaks)

  -- the code that there is is answered
  pub gives_code : (result : Result code_code.Code CodeFault) → ReadsCode class method result → (code : Code) → SpellsCode class method code → GivesCode result code
  gives_code (Ok read) reads code spells = one_code class method code (view_code read) spells reads
  gives_code (Err (fault.BadCode pc bad)) reads code spells = code_has_no_fault class method code bad pc spells reads
  gives_code (Err (fault.Memory error)) reads code spells = tt

  -- and the fault that there is
  pub gives_fault : (result : Result code_code.Code CodeFault) → ReadsCode class method result → (bad : BadKind) (pc : ℕ) → FirstCodeFault class method bad pc → GivesCodeFault result bad pc
  gives_fault (Ok read) reads bad pc first = code_has_no_fault class method (view_code read) bad pc reads first
  gives_fault (Err (fault.BadCode at found)) reads bad pc first = one_code_fault class method found bad at pc reads first
  gives_fault (Err (fault.Memory error)) reads bad pc first = tt
