use Rattle.std.proofs.Common.{length, ap, ◌∙◌}
use Rattle.dj_syntax.specs.Trees.{view_unit}
use Rattle.dj_grammar.specs.Units.{read_unit}
use Rattle.dj_grammar.proofs.UnitsAreRead.{text_is_parsed}
use Rattle.dj_parse.proofs.parse.parse_unit.Goals as goal

pub returns : goal.returns
returns c = record {
  parsed = text_is_parsed c.args.text.now (view_unit c.in_ok-unit.unit) (c.in_ok-unit.ensures.read ∙ ap (read_unit (length c.args.text.now)) c.new-reader.ensures.words);
}
