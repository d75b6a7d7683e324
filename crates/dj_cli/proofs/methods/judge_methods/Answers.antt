use Rattle.std.proofs.Common.{◌≡◌, ◌<◌, Some, None, length, map, take, arith}
use Rattle.std.specs.Prelude.{option_map}
use Rattle.std.proofs.lemmas.List.{length-map, length-take-le, length_push, map_push}
use Rattle.dj_class.specs.Views.{view_class, view_method}
use Rattle.dj_syntax.specs.Trees.{view_body}
use Rattle.dj_cli.specs.Lines.{ending_bytes, lines_bytes}
use Rattle.dj_cli.specs.Methods.{IsToldOf}
use Rattle.dj_load.proofs.LoadingLemmas.{take_map_more}
use Rattle.dj_cli.proofs.FindingLemmas.{seen_at}
use Rattle.dj_cli.proofs.MethodsLemmas.{judged_bare, judged_body, judged_line}
use Rattle.dj_cli.proofs.TellingLemmas.{lines_bytes-push}
use Rattle.dj_cli.proofs.methods.judge_methods.Goals as goal
use Rattle.dj_cli.proofs.methods.judge_methods.Goals.{in-Body+in_ok-push-in-Body, in-Bare+in_ok-push-in-Bare, in-Line+in_ok-push-in-Line+in_ok-push-in-Line-2}

pub judge_method-requires : goal.judge_method-requires
judge_method-requires c =
    let items = c.args.class.now.methods in
    let inside : c.loop-at.at < length c.as_slice-methods.result.now = omega arith in
    let within : c.loop-at.at < length items = rw c.as_slice-methods.ensures at inside in
    record {
      made = c.requires.made;
      coded = c.in_ok-coded.ensures.made;
      within = within;
      here = seen_at view_method items c.loop-at.at c.index-methods-at.result within (rw c.as_slice-methods.ensures at c.index-methods-at.is);
    }

pub loop-at-preserved : goal.loop-at-preserved
loop-at-preserved c =
    let world = c.args.basis.now.world.now in
    let class = view_class c.args.class.now in
    let items = c.args.class.now.methods in
    let at = c.loop-at.at in
    let item = c.index-methods-at.result in
    let method = view_method item in
    let before = c.loop-at.invariant in
    let inside : at < length c.as_slice-methods.result.now = omega arith in
    let within : at < length items = rw c.as_slice-methods.ensures at inside in
    let more = take_map_more view_method items at item within (rw c.as_slice-methods.ensures at c.index-methods-at.is) in
    let front = take at class.methods in
    let here : length front ≡ at = length-take-le at class.methods (omega (arith, within, length-map items view_method)) in
    let told : IsToldOf world class front method c.in_ok-body.field-0 = c.in_ok-body.ensures.told front here before.holds in
    let bodies = map (option_map view_body) c.loop-at.bodies in
    let lines = lines_bytes class.this_class c.loop-at.lines.items in
    record {
      holds = rw more (c.in_ok-body.ensures.declared front before.holds);
      judged = elim c.match-branch-3.branch [
        | in-Body+in_ok-push-in-Body w ↦
            rw (more, w.bodies-is, w.in_ok-push-in-Body.ensures.ok, map_push (option_map view_body) c.loop-at.bodies (Some w.in-Body.body), w.lines-is)
            (judged_body world class front method bodies lines (length c.loop-at.lines.items) before.judged (view_body w.in-Body.body) (rw w.in-Body.is at told))
        | in-Bare+in_ok-push-in-Bare w ↦
            rw (more, w.bodies-is, w.in_ok-push-in-Bare.ensures.ok, map_push (option_map view_body) c.loop-at.bodies None, w.lines-is)
            (judged_bare world class front method bodies lines (length c.loop-at.lines.items) before.judged (rw w.in-Bare.is at told))
        | in-Line+in_ok-push-in-Line+in_ok-push-in-Line-2 w ↦
            rw (more, w.bodies-is, w.in_ok-push-in-Line-2.ensures.ok, map_push (option_map view_body) c.loop-at.bodies None, w.lines-is, w.in_ok-push-in-Line.ensures.items, lines_bytes-push, length_push)
            (judged_line world class front method bodies lines (length c.loop-at.lines.items) before.judged (ending_bytes w.in-Line.ending) (rw w.in-Line.is at told))
      ];
    }
