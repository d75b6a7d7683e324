-- A run over instructions, one after another.
use Rattle.std.proofs.Common.{◌≡◌, ℕ, Bool, true, false, List, ◌∷◌, Option, Some, None, refl, sym, ap, ◌∙◌}
use Rattle.std.specs.Prelude.{if◌then◌else◌}
use Rattle.std.proofs.lemmas.Option.{same_Some}
use Rattle.dj_names.specs.declared.header.Header.{Header}
use Rattle.dj_names.specs.Headers.{Name}
use Rattle.dj_names.specs.Types.{JType}
use Rattle.dj_syntax.specs.declared.variable.Var.{Var}
use Rattle.dj_syntax.specs.Trees.{Stms}
use Rattle.dj_instructions.specs.Instructions.{Instruction, Instructions}
use Rattle.dj_bytecode.specs.Meanings.{meaning_of}
use Rattle.dj_bytecode.specs.Machine.{pc_of}
use Rattle.dj_meaning.specs.Declarations.{joined}
use Rattle.dj_places.specs.Constants.{Surroundings}
use Rattle.dj_vars.specs.Naming.{Vars}
use Rattle.dj_rebuilding.specs.Pending.{Pending, Built, and_then}
use Rattle.dj_rebuilt.specs.Sorts.{sort_of}
use Rattle.dj_rebuilt.specs.Rebuilding.{Names, Step, Ways, first_spilled, then_spilled, advance, advance_one, continues, rebuilt}
use Rattle.dj_exits.specs.Ways.{before}
use Rattle.dj_one_block.specs.OneBlock.{variable_of}
use Rattle.dj_pending.proofs.Spills.{joined-thrice}
use mathlib.Core.Path.{fun_ext}
use Rattle.dj_rebuild.specs.Stores.{behind_step}
use Rattle.dj_rebuild.specs.Advancing.{advanced, advanced_one}
use Rattle.dj_rebuild.specs.Walking.{IsServed, behind_stms}
use Rattle.dj_rebuild.proofs.Linking.{advance-is}
use Rattle.dj_rebuild.proofs.Spilled.{shifted_step}

module _ (headers : List Header) (class : Name) (known : Surroundings) (vars : Vars) (ways : Ways) (served : IsServed known vars ways) where
  -- one instruction
  one-is : (names : Names) (pc : ℕ) (instruction : Instruction) (n : ℕ) (stack : List Pending)
      → advance_one headers class ways names pc instruction n stack ≡ advanced_one known names (variable_of vars.kinds (vars.after pc)) instruction n stack
  one-is names pc instruction n stack =
      ap (λ (test : Bool). and_then (first_spilled test n stack (λ from entries. advance headers class ways names pc instruction from entries (sort_of instruction))) (λ step. then_spilled (ways.after step.0.stack) step)) (served.before instruction stack)
      ∙ ap (λ (step : ℕ → List Pending → Option Step). and_then (first_spilled (before instruction stack) n stack step) (λ step. then_spilled (ways.after step.0.stack) step))
      (fun_ext (λ from. fun_ext (λ entries. advance-is headers class known ways served.members names pc instruction from entries
      ∙ ap (λ (target : Option (Var × JType)). advanced known names target instruction from entries) (served.target pc))))
      ∙ ap (and_then (first_spilled (before instruction stack) n stack (λ from entries. advanced known names (variable_of vars.kinds (vars.after pc)) instruction from entries)))
      (fun_ext (λ step. ap (λ (test : Bool). then_spilled test step) (served.after step.0.stack)))

  module _ (starts : ℕ → Bool) where
    -- the statements of instructions from a state on
    abbrev from_here : Names → Built → Instructions → Option Stms
    from_here names built rest = rebuilt headers class ways starts names built.next built.stack rest

    -- those behind one instruction on which control goes on
    abbrev behind_one : Instructions → Step → Option Stms
    behind_one rest step = if starts (pc_of rest) then ways.fall step.1 step.0.next step.0.stack rest else from_here step.1 step.0 rest

    goes-on : (names : Names) (n : ℕ) (stack : List Pending) (pc : ℕ) (instruction : Instruction) (rest : Instructions) → true ≡ continues (sort_of instruction) (meaning_of headers class instruction)
        → rebuilt headers class ways starts names n stack ((pc, instruction) ∷ rest)
        ≡ and_then (advanced_one known names (variable_of vars.kinds (vars.after pc)) instruction n stack) (λ step. and_then (behind_one rest step) (λ more. Some (joined step.0.emitted more)))
    goes-on names n stack pc instruction rest goes =
        ap (λ (test : Bool). if test then and_then (advance_one headers class ways names pc instruction n stack) (λ step. and_then (behind_one rest step) (λ more. Some (joined step.0.emitted more))) else ways.leave names n stack ((pc, instruction) ∷ rest)) (sym goes)
        ∙ ap (λ (found : Option Step). and_then found (λ step. and_then (behind_one rest step) (λ more. Some (joined step.0.emitted more)))) (one-is names pc instruction n stack)

    -- control leaves by an instruction
    pub leaves-by : (names : Names) (n : ℕ) (stack : List Pending) (pc : ℕ) (instruction : Instruction) (rest : Instructions) → false ≡ continues (sort_of instruction) (meaning_of headers class instruction)
        → rebuilt headers class ways starts names n stack ((pc, instruction) ∷ rest) ≡ ways.leave names n stack ((pc, instruction) ∷ rest)
    leaves-by names n stack pc instruction rest goes =
        ap (λ (test : Bool). if test then and_then (advance_one headers class ways names pc instruction n stack) (λ step. and_then (behind_one rest step) (λ more. Some (joined step.0.emitted more))) else ways.leave names n stack ((pc, instruction) ∷ rest)) (sym goes)

    joined-more : (first second : Stms) (found : Option Stms) → behind_stms (joined first second) found ≡ behind_stms first (and_then found (λ more. Some (joined second more)))
    joined-more first second None = refl
    joined-more first second (Some more) = ap Some (joined-thrice first second more)

    stepped : (first : Stms) (found : Option Step) (so_far : Built) (new : Names) (rest : Instructions) → Some (so_far, new) ≡ behind_step first found
        → behind_stms so_far.emitted (behind_one rest (so_far, new)) ≡ behind_stms first (and_then found (λ step. and_then (behind_one rest step) (λ more. Some (joined step.0.emitted more))))
    stepped first None so_far new rest e = absurd (cc)
    stepped first (Some step) so_far new rest e =
        ap (λ (one : Step). behind_stms one.0.emitted (behind_one rest one)) (same_Some (so_far, new) (shifted_step first step) e)
        ∙ joined-more first step.0.emitted (behind_one rest step)

    stopped : (first : Stms) (found : Option Step) (next : Step → Option Stms) → None ≡ behind_step first found → None ≡ behind_stms first (and_then found next)
    stopped first None next e = refl
    stopped first (Some step) next e = absurd (cc)

    -- one more instruction
    pub one-more : (first : Stms) (names : Names) (n : ℕ) (stack : List Pending) (pc : ℕ) (instruction : Instruction) (rest : Instructions) (so_far : Built) (new : Names)
        → true ≡ continues (sort_of instruction) (meaning_of headers class instruction) → Some (so_far, new) ≡ behind_step first (advanced_one known names (variable_of vars.kinds (vars.after pc)) instruction n stack)
        → behind_stms so_far.emitted (behind_one rest (so_far, new)) ≡ behind_stms first (rebuilt headers class ways starts names n stack ((pc, instruction) ∷ rest))
    one-more first names n stack pc instruction rest so_far new goes e =
        stepped first _ so_far new rest e ∙ ap (behind_stms first) (sym (goes-on names n stack pc instruction rest goes))

    -- none more
    pub none-more : (first : Stms) (names : Names) (n : ℕ) (stack : List Pending) (pc : ℕ) (instruction : Instruction) (rest : Instructions)
        → true ≡ continues (sort_of instruction) (meaning_of headers class instruction) → None ≡ behind_step first (advanced_one known names (variable_of vars.kinds (vars.after pc)) instruction n stack)
        → None ≡ behind_stms first (rebuilt headers class ways starts names n stack ((pc, instruction) ∷ rest))
    none-more first names n stack pc instruction rest goes e =
        stopped first _ (λ step. and_then (behind_one rest step) (λ more. Some (joined step.0.emitted more))) e ∙ ap (behind_stms first) (sym (goes-on names n stack pc instruction rest goes))

    -- it is of a list
    abbrev listed : Stms → Names → ℕ → List Pending → Instructions → Option Stms
    listed first names n stack list = behind_stms first (rebuilt headers class ways starts names n stack list)

    pub leaves-here : (names : Names) (n : ℕ) (stack : List Pending) (list : Instructions) (pc : ℕ) (instruction : Instruction) (rest : Instructions) (first : Stms) (whole : Option Stms) → list ≡ (pc, instruction) ∷ rest
        → false ≡ continues (sort_of instruction) (meaning_of headers class instruction) → listed first names n stack list ≡ whole → behind_stms first (ways.leave names n stack list) ≡ whole
    leaves-here names n stack list pc instruction rest first whole is goes so_far =
        ap (λ (all : Instructions). behind_stms first (ways.leave names n stack all)) is ∙ ap (behind_stms first) (sym (leaves-by names n stack pc instruction rest goes)) ∙ ap (listed first names n stack) (sym is) ∙ so_far

    pub stops-here : (names : Names) (n : ℕ) (stack : List Pending) (list : Instructions) (pc : ℕ) (instruction : Instruction) (rest : Instructions) (first : Stms) (whole : Option Stms) → list ≡ (pc, instruction) ∷ rest
        → true ≡ continues (sort_of instruction) (meaning_of headers class instruction) → None ≡ behind_step first (advanced_one known names (variable_of vars.kinds (vars.after pc)) instruction n stack)
        → listed first names n stack list ≡ whole → None ≡ whole
    stops-here names n stack list pc instruction rest first whole is goes e so_far =
        none-more first names n stack pc instruction rest goes e ∙ ap (listed first names n stack) (sym is) ∙ so_far

    pub falls-here : (names : Names) (n : ℕ) (stack : List Pending) (list : Instructions) (pc : ℕ) (instruction : Instruction) (rest : Instructions) (first : Stms) (whole : Option Stms) (so_far : Built) (new : Names) → list ≡ (pc, instruction) ∷ rest
        → true ≡ continues (sort_of instruction) (meaning_of headers class instruction) → Some (so_far, new) ≡ behind_step first (advanced_one known names (variable_of vars.kinds (vars.after pc)) instruction n stack)
        → starts (pc_of rest) ≡ true → listed first names n stack list ≡ whole → behind_stms so_far.emitted (ways.fall new so_far.next so_far.stack rest) ≡ whole
    falls-here names n stack list pc instruction rest first whole so_far new is goes e start before =
        ap (λ (test : Bool). behind_stms so_far.emitted (if test then ways.fall new so_far.next so_far.stack rest else from_here new so_far rest)) (sym start)
        ∙ one-more first names n stack pc instruction rest so_far new goes e ∙ ap (listed first names n stack) (sym is) ∙ before

    pub goes-here : (names : Names) (n : ℕ) (stack : List Pending) (list : Instructions) (pc : ℕ) (instruction : Instruction) (rest : Instructions) (first : Stms) (whole : Option Stms) (so_far : Built) (new : Names) → list ≡ (pc, instruction) ∷ rest
        → true ≡ continues (sort_of instruction) (meaning_of headers class instruction) → Some (so_far, new) ≡ behind_step first (advanced_one known names (variable_of vars.kinds (vars.after pc)) instruction n stack)
        → starts (pc_of rest) ≡ false → listed first names n stack list ≡ whole → listed so_far.emitted new so_far.next so_far.stack rest ≡ whole
    goes-here names n stack list pc instruction rest first whole so_far new is goes e start before =
        ap (λ (test : Bool). behind_stms so_far.emitted (if test then ways.fall new so_far.next so_far.stack rest else from_here new so_far rest)) (sym start)
        ∙ one-more first names n stack pc instruction rest so_far new goes e ∙ ap (listed first names n stack) (sym is) ∙ before
