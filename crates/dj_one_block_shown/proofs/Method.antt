-- A method of one block shows what its code shows, and is typed.
use Rattle.std.proofs.Common.{◌≡◌, ℕ, true, false, List, Some, refl, sym, ◌∙◌}
use Rattle.std.proofs.lemmas.Bool.{and_parts, false≢true}
use Rattle.dj_names.specs.declared.header.Header.{Header}
use Rattle.dj_names.specs.declared.members.ClassMembers.{ClassMembers}
use Rattle.dj_names.specs.MethodNames.{is_constructor}
use Rattle.dj_syntax.specs.Trees.{Stms}
use Rattle.dj_values.specs.Fits.{is_static}
use Rattle.dj_class.specs.Described.{MethodOf, ClassOf}
use Rattle.dj_code.specs.MethodCode.{Code}
use Rattle.dj_meaning.specs.Meaning.{context_of}
use Rattle.dj_typing.specs.Sites.{is_whole}
use Rattle.dj_members_shown.specs.Meant.{Receiver}
use Rattle.dj_blocks_shown.specs.Leaving.{Parts}
use Rattle.dj_blocks_shown.specs.Composing.{AreParts}
use Rattle.dj_blocks_shown.proofs.Parting.{read_code_parted}
use Rattle.dj_member_ways.proofs.Holding.{member-ways-hold}
use Rattle.dj_declaring.specs.Bodies.{Writing}
use Rattle.dj_declaring.specs.Declaring.{IsReady}
use Rattle.dj_method.specs.Parts.{entry_of}
use Rattle.dj_method.specs.Shown.{IsOnlyTree}
use Rattle.dj_one_block.specs.OneBlock.{lone_tree, head_of, known_in}
use Rattle.dj_one_block_formed.specs.Ready.{site_of}
use Rattle.dj_one_block_formed.proofs.Entering.{variables-may-enter}
use Rattle.dj_one_block_formed.proofs.Ready.{lone-trees-are-ready}
use Rattle.dj_one_block_shown.specs.Shown.{MembersDo, IsKnown, IsLoneMethod, OneBlockMethodsAreShown}
use Rattle.dj_one_block_shown.proofs.Trees.{lone-trees-show}
use Rattle.dj_one_block_shown.proofs.Printing.{printed-shown, any-shown}

module _ (world : List Header) (members : List ClassMembers) (known : IsKnown world members) (writing : Writing) (receivers : ℕ → Receiver) (class : ClassOf) (found : MethodOf) (parts : Parts)
    (given : IsLoneMethod world members writing receivers class found parts) where
  abbrev code : Code
  code = parts.typed.code

  members-do : MembersDo world members parts
  members-do headers may arguments fit bound =
      member-ways-hold (site_of writing world members code) given.spoken.roots receivers code refl given.spoken.allowed (context_of headers members (head_of code) arguments)
      (record { core = known.core; may = may; members = refl; class = refl; lawful = known.lawful; whole = (and_parts (writing.can_say code.class) (is_whole world code.class) given.spoken.named).1 }) bound _
      (record { constant = λ instruction. refl; node = λ instruction are. refl; effect = λ instruction are. refl; birth = λ instruction class are. refl; goes = λ from to. refl })

  parted : AreParts parts
  parted = read_code_parted world class found parts given.cut.spells given.cut.verified given.cut.strict.rising given.cut.some given.cut.starts given.cut.rise given.cut.vars

  pub constructs : is_constructor code.name ≡ true → is_static code.flags ≡ false
  constructs own = absurd (false≢true (sym given.spoken.plain ∙ own))

  module _ (tree : Stms) (is : lone_tree (known_in world members code) parts ≡ Some tree) where
    pub ready : IsReady world members writing (head_of code) parts.vars.kinds (entry_of parts) 0 tree
    ready =
        lone-trees-are-ready world members writing receivers parts given.spoken
        (variables-may-enter world members writing receivers parts given.spoken given.said parted.says given.cut.vars given.lone.one given.cut.some) tree is

    pub only : IsOnlyTree world members (head_of code) parts tree
    only = lone-trees-show world members parts known.core given.spoken.strict given.lone given.cut.some given.cut.vars parted.says members-do tree is

pub methods-shown : OneBlockMethodsAreShown
methods-shown world members known writing receivers class found parts given =
    any-shown world members parts (lone_tree (known_in world members parts.typed.code) parts)
    (λ tree is.
    printed-shown world members parts known writing class found given.cut (constructs world members known writing receivers class found parts given) tree
    (ready world members known writing receivers class found parts given tree is) (only world members known writing receivers class found parts given tree is))
