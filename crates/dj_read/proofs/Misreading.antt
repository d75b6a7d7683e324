-- Bytes that aren't the text of the unit that is parsed from them are the text of no well formed unit.
use Rattle.std.proofs.Common.{◌≡◌, ℕ, List, sym, subst}
use Rattle.dj_syntax.specs.Trees.{CompilationUnit}
use Rattle.dj_syntax.specs.UnitText.{unit_text}
use Rattle.dj_syntax.specs.WellFormed.{IsWellFormed}
use Rattle.dj_grammar.specs.Parsing.{IsParsed}
use Rattle.dj_read.specs.Faults.{IsNoText}

-- where the unit that is parsed isn't well formed with this text, none is
pub no_text : (bytes : List ℕ) (parsed : CompilationUnit) → IsParsed bytes parsed → ¬ (IsWellFormed parsed × (unit_text parsed ≡ bytes)) → IsNoText bytes
no_text bytes parsed is other unit formed text =
    other (subst (λ unit. IsWellFormed unit × (unit_text unit ≡ bytes)) (sym (is unit formed text)) (formed, text))
