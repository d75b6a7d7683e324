use Rattle.std.proofs.Common.{length, map, sym, ◌∙◌, arith}
use Rattle.std.specs.Prelude.{option_map}
use Rattle.std.proofs.lemmas.List.{length-map}
use Rattle.dj_class.specs.Views.{view_class, view_method}
use Rattle.dj_syntax.specs.Trees.{view_body, view_unit}
use Rattle.dj_cli.specs.Lines.{lines_bytes}
use Rattle.dj_cli.proofs.MethodsLemmas.{few_refused, judged_number}
use Rattle.dj_cli.proofs.PiecesLemmas.{ascii_name, well_formed, prints_class}
use Rattle.dj_cli.proofs.pieces.printed_piece.Goals as goal

pub class_text-requires-clause-paired : goal.class_text-requires-clause-paired
class_text-requires-clause-paired c =
    let class = view_class c.args.class.now in
    let bodies = c.in_ok-bodies.field-0.bodies in
    let number = judged_number c.args.basis.now.world.now class class.methods (map (option_map view_body) bodies) _ _ c.in_ok-bodies.ensures.judged in
    sym (length-map bodies (option_map view_body)) ∙ sym number ∙ length-map c.args.class.now.methods view_method

pub piece_of_unit-requires-clause-ascii : goal.piece_of_unit-requires-clause-ascii
piece_of_unit-requires-clause-ascii c = ascii_name c.args.basis.now.world.now (view_class c.args.class.now) c.requires.none

pub piece_of_unit-requires-clause-well_formed : goal.piece_of_unit-requires-clause-well_formed
piece_of_unit-requires-clause-well_formed c =
    let class = view_class c.args.class.now in
    well_formed c.args.basis.now.world.now class c.requires.none c.requires.of_file (map (option_map view_body) c.in_ok-bodies.field-0.bodies) (lines_bytes class.this_class c.in_ok-fields.fields.items) (lines_bytes class.this_class c.in_ok-bodies.field-0.lines.items) (length c.in_ok-bodies.field-0.lines.items) (view_unit c.in_ok-unit.unit) c.in_ok-fields.ensures.lines c.in_ok-bodies.ensures.judged c.in_ok-unit.ensures.text

pub overflow_sub-printed : goal.overflow_sub-printed
overflow_sub-printed c =
    let class = view_class c.args.class.now in
    let few = few_refused c.args.basis.now.world.now class class.methods (map (option_map view_body) c.in_ok-bodies.field-0.bodies) _ _ c.in_ok-bodies.ensures.judged in
    omega (arith, few, length-map c.args.class.now.methods view_method)

pub returns : goal.returns
returns c =
    let class = view_class c.args.class.now in
    let bodies = map (option_map view_body) c.in_ok-bodies.field-0.bodies in
    let lines = lines_bytes class.this_class c.in_ok-bodies.field-0.lines.items in
    let refused = length c.in_ok-bodies.field-0.lines.items in
    let few = few_refused c.args.basis.now.world.now class class.methods bodies lines refused c.in_ok-bodies.ensures.judged in
    record {
      printed = rw c.in_ok-piece.ensures.piece
          (prints_class c.args.basis.now.world.now class c.requires.none c.requires.of_file bodies (lines_bytes class.this_class c.in_ok-fields.fields.items) lines refused (view_unit c.in_ok-unit.unit) c.in_ok-fields.ensures.lines c.in_ok-bodies.ensures.judged c.in_ok-unit.ensures.text _ (omega (arith, few, length-map c.args.class.now.methods view_method)));
    }
