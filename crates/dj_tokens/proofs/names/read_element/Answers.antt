use Rattle.std.proofs.Common.{sym, ◌∙◌, ap}
use Rattle.dj_names.specs.Types.{Class}
use Rattle.dj_tokens.specs.Names.{more_type, type_of}
use Rattle.dj_tokens.proofs.TypeViews.{view-class}
use Rattle.dj_tokens.proofs.TypesLemmas.{no_dot_behind, read_type-class}
use Rattle.dj_tokens.proofs.names.read_element.Goals as goal

pub returns-in_ok-read_name-in-None-clause-read : goal.returns-in_ok-read_name-in-None-clause-read
returns-in_ok-read_name-in-None-clause-read c =
    let name = c.in_ok-read_name-in-None.field-0 in
    let class = ap type_of (sym c.first.ensures.first) ∙ c.in-None.ensures.kind ∙ ap Class c.first.ensures.first in
    ap (λ kind. more_type kind c.read_name.new.reader) (view-class name)
    ∙ read_type-class name c.args.reader.now c.read_name.new.reader class c.in_ok-read_name-in-None.ensures.read

pub returns-in_ok-read_name-in-None-clause-whole : goal.returns-in_ok-read_name-in-None-clause-whole
returns-in_ok-read_name-in-None-clause-whole c =
    λ at. absurd (no_dot_behind c.in_ok-read_name-in-None.field-0 c.args.reader.now c.read_name.new.reader c.in_ok-read_name-in-None.ensures.read at)
