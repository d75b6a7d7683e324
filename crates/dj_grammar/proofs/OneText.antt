-- No two well formed units have one text.
use Rattle.std.proofs.Common.{◌≡◌, length, sym, ap, ◌∙◌}
use Rattle.dj_syntax.specs.Trees.{CompilationUnit}
use Rattle.dj_syntax.specs.UnitText.{unit_text}
use Rattle.dj_syntax.specs.WellFormed.{IsWellFormed}
use Rattle.dj_tokens.specs.Words.{words}
use Rattle.dj_grammar.specs.Units.{read_unit}
use Rattle.dj_grammar.proofs.UnitsAreRead.{text_is_read}

-- well formed units with one text are equal
pub units_have_one_text : (first second : CompilationUnit) → IsWellFormed first → IsWellFormed second → unit_text first ≡ unit_text second → first ≡ second
units_have_one_text first second first_formed second_formed same =
    sym (text_is_read first first_formed) ∙ ap (λ text. read_unit (length text) (words text)) same ∙ text_is_read second second_formed
