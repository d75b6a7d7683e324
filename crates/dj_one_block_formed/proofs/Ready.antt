-- The tree of a method's one block may be declared as the method's body.
use Rattle.std.proofs.Common.{ℕ, ◌≡◌, List, [], length, Some, refl, sym, ◌∙◌, subst, true≢false}
use Rattle.dj_names.specs.declared.header.Header.{Header}
use Rattle.dj_names.specs.declared.members.ClassMembers.{ClassMembers}
use Rattle.dj_names.specs.Types.{parameters_of}
use Rattle.dj_syntax.specs.Trees.{Stms}
use Rattle.dj_bytecode.specs.Machine.{pc_of}
use Rattle.dj_meaning.specs.StaticTypes.{Scope}
use Rattle.dj_blocks_formed.specs.Statements.{Around}
use Rattle.dj_blocks_formed.specs.Formed.{constants_of, IsFormed}
use Rattle.dj_blocks_shown.specs.Leaving.{Parts, is_start}
use Rattle.dj_members_shown.specs.Meant.{Receiver}
use Rattle.dj_member_nodes.specs.Together.{AreMemberWays, ExitsRule}
use Rattle.dj_member_nodes.proofs.Together.{methods-are-formed}
use Rattle.dj_exits.proofs.Ending.{ends}
use Rattle.dj_declaring.specs.Bodies.{Writing, around_in}
use Rattle.dj_declaring.specs.Starting.{tree_scope, MayEnter}
use Rattle.dj_declaring.specs.Declaring.{IsFormedBehind, IsReady}
use Rattle.dj_method.specs.Parts.{entry_of}
use Rattle.dj_one_block.specs.OneBlock.{head_of, known_in, lone_ways, first_name, lone_tree}
use Rattle.dj_one_block.specs.Flat.{IsFlatTree}
use Rattle.dj_one_block.proofs.Flat.{lone-flat}
use Rattle.dj_one_block_formed.specs.Ready.{site_of, IsSpokenFor, LoneTreesAreReady}
use Rattle.dj_one_block_formed.proofs.Exits.{left-ended, goes-none, some-none}
use Rattle.dj_one_block_formed.proofs.Returning.{gives-nothing}
use Rattle.dj_one_block_formed.proofs.Starting.{all-stand, begins, target-ruled, names-ruled}

module _ (world : List Header) (members : List ClassMembers) (writing : Writing) (receivers : ℕ → Receiver) (parts : Parts) (spoken : IsSpokenFor world members writing receivers parts)
    (enters : MayEnter (site_of writing world members parts.typed.code) (parameters_of parts.typed.code.descriptor) parts.vars.kinds (entry_of parts)) where
  abbrev around : Around
  around = around_in writing world members (head_of parts.typed.code)

  abbrev scope : Scope
  scope = tree_scope (parameters_of parts.typed.code.descriptor) parts.vars.kinds

  ways-are : AreMemberWays (constants_of around.site) (lone_ways (known_in world members parts.typed.code) parts)
  ways-are = record { constant = λ instruction. refl; node = λ instruction are. refl; effect = λ instruction are. refl; birth = λ instruction class are. refl; goes = λ from to. refl }

  exits-rule : ExitsRule around world parts.typed.code.class (length parts.vars.kinds) scope (is_start parts.starts) (lone_ways (known_in world members parts.typed.code) parts) parts.typed.code.instructions
  exits-rule = record {
    targets = λ pc instruction there slot writes target type e. target-ruled around.site (parameters_of parts.typed.code.descriptor) parts.vars.kinds enters.written (parts.vars.after pc) (target, type) e;
    falls = λ names lawful n inner stack ready rest start statements e. absurd (some-none (goes-none world names n stack (pc_of rest)) e);
    leaves = λ names lawful n inner stack ready pc instruction rest there stops statements e.
        left-ended around n inner ready.clear spoken.result spoken.roots.throwable names stack ready.entries (pc_of rest) instruction (ends world parts.typed.code.class instruction stops) (gives-nothing world parts.typed spoken.strict pc instruction there) statements e;
  }

  formed : (tree : Stms) → lone_tree (known_in world members parts.typed.code) parts ≡ Some tree → IsFormed around scope tree
  formed tree e =
      methods-are-formed around spoken.roots receivers parts.typed.code.instructions spoken.allowed world parts.typed.code.class (length parts.vars.kinds) scope (is_start parts.starts) (lone_ways (known_in world members parts.typed.code) parts) ways-are exits-rule
      parts.typed.code.instructions (all-stand parts.typed.code.instructions parts.typed.code.instructions (λ one h. h))
      (first_name parts) (names-ruled around.site parts (parameters_of parts.typed.code.descriptor) refl refl spoken.named enters.written) (length parts.vars.kinds) scope []
      (begins around.site (parameters_of parts.typed.code.descriptor) parts.vars.kinds enters.written) tree e

  pub made-ready : (tree : Stms) → lone_tree (known_in world members parts.typed.code) parts ≡ Some tree → IsFlatTree tree → IsReady world members writing (head_of parts.typed.code) parts.vars.kinds (entry_of parts) 0 tree
  made-ready tree e flat = record {
    right = spoken.right;
    named = spoken.named;
    few = spoken.few;
    initialises = spoken.initialises;
    constructs = λ is. absurd (true≢false (sym is ∙ spoken.plain));
    enters = enters;
    formed = subst (IsFormedBehind world members writing (head_of parts.typed.code) parts.vars.kinds tree) (sym flat.plain) (spoken.plain, formed tree e);
    quiet = flat.quiet;
    lacks = flat.lacks 0;
  }

pub lone-trees-are-ready : LoneTreesAreReady
lone-trees-are-ready world members writing receivers parts spoken enters tree e = made-ready world members writing receivers parts spoken enters tree e (lone-flat (known_in world members parts.typed.code) parts tree e)
