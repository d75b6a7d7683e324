-- A constructor of one block shows what its code shows, and is typed.
use Rattle.std.proofs.Common.{◌≡◌, ℕ, true, false, List, Option, Some}
use Rattle.std.proofs.lemmas.Bool.{and_parts}
use Rattle.dj_names.specs.declared.header.Header.{Header}
use Rattle.dj_names.specs.declared.members.ClassMembers.{ClassMembers}
use Rattle.dj_syntax.specs.Trees.{Stms}
use Rattle.dj_class.specs.Described.{MethodOf, ClassOf}
use Rattle.dj_code.specs.MethodCode.{Code}
use Rattle.dj_typing.specs.Sites.{is_whole}
use Rattle.dj_members_shown.specs.Meant.{Receiver}
use Rattle.dj_blocks_shown.specs.Leaving.{Parts}
use Rattle.dj_blocks_shown.specs.Composing.{AreParts}
use Rattle.dj_blocks_shown.proofs.Parting.{read_code_parted}
use Rattle.dj_declaring.specs.Bodies.{Writing}
use Rattle.dj_declaring.specs.Declaring.{IsReady}
use Rattle.dj_method.specs.Parts.{entry_of}
use Rattle.dj_method.specs.Shown.{IsOnlyTree}
use Rattle.dj_one_block.specs.OneBlock.{head_of, known_in}
use Rattle.dj_one_block_shown.specs.Shown.{IsKnown}
use Rattle.dj_one_block_shown.proofs.Printing.{printed-shown, any-shown}
use Rattle.dj_constructors.specs.Opening.{constructor_tree}
use Rattle.dj_constructors.specs.Shown.{ConstructorTreesShow}
use Rattle.dj_constructors.proofs.Trees.{constructor-trees-show}
use Rattle.dj_constructors_formed.specs.Ready.{ConstructorTreesAreReady}
use Rattle.dj_constructors_formed.specs.Entering.{ConstructorsMayEnter}
use Rattle.dj_constructors_formed.proofs.Ready.{constructor-trees-are-ready}
use Rattle.dj_constructors_formed.proofs.Entering.{constructors-may-enter}
use Rattle.dj_constructors_shown.specs.Shown.{IsBegunMethod, ConstructorsAreShown}

module _ (shows : ConstructorTreesShow) (are-ready : ConstructorTreesAreReady) (may-enter : ConstructorsMayEnter) where
  module _ (world : List Header) (members : List ClassMembers) (known : IsKnown world members) (writing : Writing) (receivers : ℕ → Receiver) (class : ClassOf) (found : MethodOf) (parts : Parts) (own : ℕ)
      (given : IsBegunMethod world members writing receivers class found parts own) where
    abbrev code : Code
    code = parts.typed.code

    parted : AreParts parts
    parted = read_code_parted world class found parts given.cut.spells given.cut.verified given.cut.strict.rising given.cut.some given.cut.starts given.cut.rise given.cut.vars

    module _ (tree : Stms) (is : constructor_tree (known_in world members code) parts own ≡ Some tree) where
      pub ready : IsReady world members writing (head_of code) parts.vars.kinds (entry_of parts) 0 tree
      ready =
          are-ready world members writing receivers parts own given.begun
          (may-enter world members writing receivers parts own given.begun given.said parted.says given.cut.vars given.lone.one given.cut.some) tree is

      pub only : IsOnlyTree world members (head_of code) parts tree
      only =
          shows world members parts own known given.begun.strict (and_parts (writing.can_say code.class) (is_whole world code.class) given.begun.named).1 given.lone given.cut.some given.cut.vars parted.says
          given.begun.constructor given.others given.begun.calls tree is

  constructors-shown : ConstructorsAreShown
  constructors-shown world members known writing receivers class found parts own given =
      any-shown world members parts (constructor_tree (known_in world members parts.typed.code) parts own)
      (λ tree is.
      printed-shown world members parts known writing class found given.cut (λ named. given.begun.constructor.instance) tree
      (ready world members known writing receivers class found parts own given tree is) (only world members known writing receivers class found parts own given tree is))

pub constructors-are-shown : ConstructorsAreShown
constructors-are-shown = constructors-shown constructor-trees-show constructor-trees-are-ready constructors-may-enter
