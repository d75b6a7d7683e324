-- How the code's string literals, as far as they are read, are seen plainly.
use Rattle.dj_tokens.specs.declared.literals.Quotation as code_quotation
use Rattle.dj_tokens.specs.Literals.{Quotation}

-- how far a string literal is read
abbrev pub view_quotation : code_quotation.Quotation → Quotation
view_quotation quotation = record { units = quotation.units.items; spot = quotation.spot }
