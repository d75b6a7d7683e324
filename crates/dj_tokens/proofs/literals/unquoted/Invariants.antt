use Rattle.std.proofs.Common.{◌≡◌, drop}
use Rattle.dj_tokens.specs.Literals.{read_quotation}
use Rattle.dj_tokens.specs.LiteralViews.{view_quotation}
use Rattle.dj_tokens.proofs.literals.unquoted.Given as goal

abbrev pub invariant-loop-character : goal.invariant-loop-character
invariant-loop-character l = read_quotation (view_quotation l.quotation) (drop l.character-index l.word) ≡ read_quotation (view_quotation l.initial.quotation) l.word
