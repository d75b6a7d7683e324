-- A method's blocks are rebuilt to formed trees.
use Rattle.std.proofs.Common.{ℕ, ◌≡◌, List, Contains, Some, sym, ◌∙◌}
use Rattle.dj_instructions.specs.Instructions.{Instruction}
use Rattle.dj_blocks_formed.specs.Formed.{constants_of}
use Rattle.dj_blocks_formed.proofs.Formed.{blocks-are-formed}
use Rattle.dj_member_nodes.specs.Together.{MethodsAreFormed}
use Rattle.dj_member_nodes.proofs.Rules.{constants-keep-rules, nodes-keep-rules, effects-keep-rules, births-keep-rules}

pub methods-are-formed : MethodsAreFormed
methods-are-formed around roots receivers code allowed headers class base scope starts ways are exits code_left stand names lawful n inner stack ready statements e =
    blocks-are-formed around headers class base scope starts ways code (record {
      object = roots.object;
      goes = λ from to goes. sym (are.goes from to) ∙ goes;
      targets = exits.targets;
      constants = λ pc instruction there found is. constants-keep-rules around.site roots instruction found (sym (are.constant instruction) ∙ is);
      nodes = λ pc instruction there operands found is n inner h. nodes-keep-rules around.site roots receivers pc instruction (allowed pc instruction there) operands found (sym (are.node instruction operands) ∙ is) n inner h;
      effects = λ pc instruction there operands found is n inner h place. effects-keep-rules around roots receivers pc instruction (allowed pc instruction there) operands found (sym (are.effect instruction operands) ∙ is) n inner h place;
      births = λ pc instruction there made operands exp is n inner h. births-keep-rules around.site roots receivers pc instruction (allowed pc instruction there) made operands exp (sym (are.birth instruction made operands) ∙ is) n inner h;
      falls = exits.falls;
      leaves = exits.leaves;
    }) code_left stand names lawful n inner stack ready statements e
