use Rattle.std.proofs.Common.{◌≡◌, [], ◌∷◌, refl, ap, ◌∙◌}
use Rattle.std.specs.Prelude.{codes}
use Rattle.dj_syntax.specs.Trees.{stms_of}
use Rattle.dj_syntax.specs.UnitText.{full_names}
use Rattle.dj_grammar.specs.Statements.{no_blocks, read_statements}
use Rattle.dj_grammar.proofs.Spelled.{helper_run}
use Rattle.dj_grammar.proofs.IdentifiersAreWords.{token_of-helper}
use Rattle.dj_grammar.proofs.StatementLists.{stms_of-list_of}
use Rattle.dj_grammar.proofs.StatementsAreSpelled.{stms_are_spelled}
use Rattle.dj_grammar.proofs.StatementsAreRead.{body_read}
use Rattle.dj_grammar.proofs.law.statements_are_read.Goals as goal

pub returns : goal.returns
returns c = record {
  read = λ unit helper depth list class named well.
      ap (λ words. stms_of (read_statements no_blocks words).0)
      (stms_are_spelled unit helper (record { class = class; called = λ is. helper_run (full_names unit).helper (named is) }) depth list well (codes "}") refl)
      ∙ ap (λ read. stms_of read.0) (body_read (full_names unit) helper (record { class = class; called = λ is. token_of-helper (full_names unit).helper (named is) }) list [] well)
      ∙ stms_of-list_of list;
}
