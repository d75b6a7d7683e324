use Rattle.std.proofs.Common.{◌++◌, length, map, ap, ◌∙◌}
use Rattle.dj_edges.specs.Split.{catchers_of}
use Rattle.dj_split.specs.Ranges.{parts_of, ranges_of, numbers_at, handlers_of}
use Rattle.dj_split.proofs.Ranging.{handlers-are, blocks-caught}
use Rattle.dj_split.proofs.whole.split.Goals as goal

pub returns-clause-catchers : goal.returns-clause-catchers
returns-clause-catchers c =
    let parts = parts_of c.args.typed.now c.args.starts.now c.args.vars.now in
    c.in_ok-add_handlers.ensures.catchers ∙ ap (λ list. list ++ catchers_of parts c.args.typed.now.code.handlers) c.new-catchers.ensures.items

pub returns-clause-handlers : goal.returns-clause-handlers
returns-clause-handlers c =
    let parts = parts_of c.args.typed.now c.args.starts.now c.args.vars.now in
    let all = c.args.typed.now.code.handlers in
    let ranges =
    c.in_ok-add_handlers.ensures.ranges
    ∙ ap (λ list. list ++ ranges_of parts all (length c.new-catchers.result.items)) c.new-ranges.ensures
    ∙ ap (λ list. ranges_of parts all (length list)) c.new-catchers.ensures.items in
    c.in_ok-contexts.ensures.handlers
    ∙ ap (λ list. map (numbers_at list) c.args.starts.now) c.as_slice.ensures
    ∙ handlers-are parts c.add_handlers.new.ranges c.args.starts.now ranges

pub returns-clause-caught : goal.returns-clause-caught
returns-clause-caught c =
    let parts = parts_of c.args.typed.now c.args.starts.now c.args.vars.now in
    blocks-caught parts c.add_handlers.new.catchers.items (handlers_of c.in_ok-contexts.contexts.items) (returns-clause-catchers c) (returns-clause-handlers c)
