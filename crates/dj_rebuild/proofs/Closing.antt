-- From a run over all instructions to the statements of code that is one block.
use Rattle.std.proofs.Common.{◌≡◌, ℕ, List, [], drop, length, Option, Some, None, refl, sym, ap, ◌∙◌}
use mathlib.Core.Path.{fun_ext}
use Rattle.dj_names.specs.declared.header.Header.{Header}
use Rattle.dj_names.specs.Types.{JType, result_of}
use Rattle.dj_syntax.specs.Trees.{Stms, Empty}
use Rattle.dj_instructions.specs.Instructions.{Instructions}
use Rattle.dj_bytecode.specs.Machine.{pc_of}
use Rattle.dj_places.specs.Constants.{Surroundings}
use Rattle.dj_blocks_shown.specs.Leaving.{Parts, is_start}
use Rattle.dj_rebuilding.specs.Pending.{Built}
use Rattle.dj_rebuilt.specs.Rebuilding.{Names, Ways, rebuilt}
use Rattle.dj_exits.specs.Exits.{leave}
use Rattle.dj_lone_exits.specs.Lone.{lone_edges}
use Rattle.dj_one_block.specs.OneBlock.{lone_ways, lone_tree, first_name}
use Rattle.dj_rebuild.specs.Walking.{IsServed, behind_stms, exit_built}
use Rattle.dj_rebuild.specs.declared.walking.Exit.{Exit}
use Rattle.dj_rebuild.specs.declared.walking.Exit.TheVariants as exits
use Rattle.dj_rebuild.specs.Leaving.{IsLoneWay}
use Rattle.dj_rebuild.proofs.Leaves.{jump-none}

-- the ways of code that is one block
pub lone-served : (known : Surroundings) (parts : Parts) → IsServed known parts.vars (lone_ways known parts)
lone-served known parts = record {
  members = record { constant = λ instruction. refl; node = λ instruction are. refl; effect = λ instruction are. refl; birth = λ instruction class are. refl; goes = λ from to. refl };
  target = λ pc. refl;
  before = λ instruction stack. refl;
  after = λ stack. refl;
}

pub lone-way : (known : Surroundings) (parts : Parts) → IsLoneWay known.headers (result_of parts.typed.code.descriptor) (lone_ways known parts)
lone-way known parts = record { leave = λ names n stack list. refl; fall = λ names n stack list. refl }

-- behind no statement
behind-empty : (found : Option Stms) → behind_stms Empty found ≡ found
behind-empty None = refl
behind-empty (Some statements) = refl

-- a run from nothing on
pub run-is : (known : Surroundings) (parts : Parts) (all : Instructions) (built : Built) (names : Names) (exit : Exit) (last : Built) (last_names : Names) (count : ℕ) (found : Option Stms)
    → all ≡ parts.typed.code.instructions → built ≡ record { emitted = Empty; stack = []; next = count } → count ≡ length parts.vars.kinds → ((slot : ℕ) → names slot ≡ first_name parts slot)
    → exit_built (lone_ways known parts) all exit last last_names
    ≡ behind_stms built.emitted (rebuilt known.headers parts.typed.code.class (lone_ways known parts) (is_start parts.starts) names built.next built.stack all)
    → found ≡ exit_built (lone_ways known parts) all exit last last_names → found ≡ lone_tree known parts
run-is known parts all built names exit last last_names count found whole begun counted named ran closed =
    let from : Built → Names → Instructions → Option Stms = λ one first list. behind_stms one.emitted (rebuilt known.headers parts.typed.code.class (lone_ways known parts) (is_start parts.starts) first one.next one.stack list) in
    let nothing : ℕ → Built = λ n. record { emitted = Empty; stack = []; next = n } in
    closed ∙ ran ∙ ap (λ (one : Built). from one names all) begun ∙ ap (λ (n : ℕ). from (nothing n) names all) counted
    ∙ ap (λ (first : Names). from (nothing (length parts.vars.kinds)) first all) (fun_ext named)
    ∙ ap (from (nothing (length parts.vars.kinds)) (first_name parts)) whole
    ∙ behind-empty (lone_tree known parts)

-- ---- how a run ends

pub falls-nowhere : (world : List Header) (result : Option JType) (ways : Ways) → IsLoneWay world result ways → (all : Instructions) (at : ℕ) (built : Built) (names : Names) → None ≡ exit_built ways all (exits.Falls at) built names
falls-nowhere world result ways lone all at built names =
    ap (behind_stms built.emitted) (sym (lone.fall names built.next built.stack (drop at all) ∙ jump-none world names built.next built.stack (pc_of (drop at all))))

pub leaves-there : (world : List Header) (result : Option JType) (ways : Ways) → IsLoneWay world result ways → (all : Instructions) (at : ℕ) (built : Built) (names : Names) (found : Option Stms)
    → found ≡ behind_stms built.emitted (leave world result (lone_edges world) names built.next built.stack (drop at all)) → found ≡ exit_built ways all (exits.Leaves at) built names
leaves-there world result ways lone all at built names found e = e ∙ ap (behind_stms built.emitted) (sym (lone.leave names built.next built.stack (drop at all)))
