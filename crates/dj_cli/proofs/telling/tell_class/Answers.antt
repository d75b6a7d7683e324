use Rattle.std.proofs.Common.{◌≡◌, ◌∙◌, length, sym}
use Rattle.std.proofs.lemmas.Result.{IfOk-weaker, IfErr-weaker}
use Rattle.std.proofs.lemmas.List.{length-map}
use Rattle.dj_class.specs.Views.{view_class, view_method}
use Rattle.dj_cli.specs.Output.{IsClassPiece}
use Rattle.dj_cli.specs.Pieces.{piece_of, refused_piece}
use Rattle.dj_cli.proofs.TellingLemmas.{tells-as, stops-as, is_printed, is_refused}
use Rattle.dj_cli.proofs.telling.tell_class.Goals as goal

pub returns-in-Printed-clause-told : goal.returns-in-Printed-clause-told
returns-in-Printed-clause-told g c =
    let world = c.args.basis.now.world.now in
    let class = view_class c.args.class.now in
    let piece = piece_of class.this_class c.in-Printed.piece in
    let prints = rw c.in-Printed.is at c.in_ok-piece.ensures.told in
    IfOk-weaker c.tell_printed.result _ _ (tells-as (λ told. told ≡ piece) (IsClassPiece world class) (is_printed world class piece prints) _ _ _ _) c.tell_printed.ensures.told

pub returns-in-Printed-clause-stopped : goal.returns-in-Printed-clause-stopped
returns-in-Printed-clause-stopped g c =
    let world = c.args.basis.now.world.now in
    let class = view_class c.args.class.now in
    let piece = piece_of class.this_class c.in-Printed.piece in
    let prints = rw c.in-Printed.is at c.in_ok-piece.ensures.told in
    IfErr-weaker c.tell_printed.result _ _ (stops-as (λ told. told ≡ piece) (IsClassPiece world class) (is_printed world class piece prints) _ _ _ _) c.tell_printed.ensures.stopped

pub returns-in-Refused-clause-told : goal.returns-in-Refused-clause-told
returns-in-Refused-clause-told g c =
    let world = c.args.basis.now.world.now in
    let class = view_class c.args.class.now in
    let cause = c.in-Refused.cause in
    let first = rw c.in-Refused.is at c.in_ok-piece.ensures.told in
    let methods = c.len-methods.result in
    let number : methods ≡ length class.methods = c.len-methods.ensures ∙ sym (length-map c.args.class.now.methods view_method) in
    IfOk-weaker c.tell_refused.result _ _ (tells-as (λ told. told ≡ refused_piece class.this_class cause methods) (IsClassPiece world class) (is_refused world class cause methods first number) _ _ _ _) (c.tell_refused.ensures.told (g.T.Sink.taken c.args.text.now))

pub returns-in-Refused-clause-stopped : goal.returns-in-Refused-clause-stopped
returns-in-Refused-clause-stopped g c =
    let world = c.args.basis.now.world.now in
    let class = view_class c.args.class.now in
    let cause = c.in-Refused.cause in
    let first = rw c.in-Refused.is at c.in_ok-piece.ensures.told in
    let methods = c.len-methods.result in
    let number : methods ≡ length class.methods = c.len-methods.ensures ∙ sym (length-map c.args.class.now.methods view_method) in
    IfErr-weaker c.tell_refused.result _ _ (stops-as (λ told. told ≡ refused_piece class.this_class cause methods) (IsClassPiece world class) (is_refused world class cause methods first number) _ _ _ _) (c.tell_refused.ensures.stopped (g.T.Sink.taken c.args.text.now))

pub returns-in-Printed-clause-calm : goal.returns-in-Printed-clause-calm
returns-in-Printed-clause-calm g c = c.tell_printed.ensures.calm

pub returns-in-Refused-clause-calm : goal.returns-in-Refused-clause-calm
returns-in-Refused-clause-calm g c = c.tell_refused.ensures.calm (g.T.Sink.faults c.args.text.now)
