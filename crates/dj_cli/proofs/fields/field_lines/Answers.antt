use Rattle.std.proofs.Common.{◌<◌, length, arith}
use Rattle.std.proofs.lemmas.List.{length-map}
use Rattle.dj_class.specs.Views.{view_class, view_field}
use Rattle.dj_cli.specs.Lines.{lines_bytes}
use Rattle.dj_cli.proofs.FieldsLemmas.{have_its_line, have_no_line}
use Rattle.dj_cli.proofs.TellingLemmas.{lines_bytes-push}
use Rattle.dj_cli.proofs.fields.field_lines.Goals as goal
use Rattle.dj_cli.proofs.fields.field_lines.Goals.{in-Some+in_ok-push-in-Some, in-None}

pub loop-at-preserved : goal.loop-at-preserved
loop-at-preserved c =
    let world = c.args.world.now in
    let class = view_class c.args.class.now in
    let at = c.loop-at.at in
    let inside : at < length c.args.class.now.fields = omega arith in
    let within : at < length class.fields = omega (arith, inside, length-map c.args.class.now.fields view_field) in
    let lines = lines_bytes class.this_class c.loop-at.lines.items in
    elim c.match-branch-2.branch [
      | in-Some+in_ok-push-in-Some w ↦
          rw (w.lines-is, w.in_ok-push-in-Some.ensures.items, lines_bytes-push)
          (have_its_line world class at within lines c.loop-at.invariant w.in-Some.line (rw w.in-Some.is at c.in_ok-line.ensures.line))
      | in-None w ↦ rw w.lines-is (have_no_line world class at within lines c.loop-at.invariant (rw w.in-None.is at c.in_ok-line.ensures.line))
    ]
