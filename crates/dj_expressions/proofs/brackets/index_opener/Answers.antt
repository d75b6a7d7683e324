use Rattle.dj_expressions.proofs.brackets.index_opener.Goals as goal

pub returns-in-Bracket : goal.returns-in-Bracket
returns-in-Bracket c = record { closed = rw c.in-Bracket.is c.element_of.ensures.element }

pub returns-in-NameBracket : goal.returns-in-NameBracket
returns-in-NameBracket c = record { closed = rw c.in-NameBracket.is c.element_of_named.ensures.element }

pub returns-in-Size : goal.returns-in-Size
returns-in-Size c = record { closed = rw c.in-Size.is c.sized_with.ensures.sized }
