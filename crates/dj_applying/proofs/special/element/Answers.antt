use Rattle.std.proofs.Common.{ap, sym, ◌∙◌}
use Rattle.std.specs.Option.{option_map}
use Rattle.std.proofs.lemmas.Bool.{both_ways}
use Rattle.dj_frames.specs.Frames.{view_tag, view_tags}
use Rattle.dj_code.specs.MethodCode.{view_code}
use Rattle.dj_effects.specs.Doing.{view_working}
use Rattle.dj_applying.proofs.Reading.{has_index, none_array, no_element, not_done}
use Rattle.dj_applying.proofs.special.element.Goals as goal

pub returns-then-not-has_wanted : goal.returns-then-not-has_wanted
returns-then-not-has_wanted g c =
    let Goes = g.G.Goes.relation c.args.goes.now in
    record { did = not_done Goes (g.G.Goes.known c.args.goes.now) (view_code c.args.code.now) c.args._pc (view_working c.args.frame.now) (view_working _) (λ has. both_ways c.has_wanted.result c.if-not-has_wanted.true (c.has_wanted.ensures.wanted.1 (has_index Goes (view_tags c.args.frame.now.stack) has))) }

pub returns-in-None : goal.returns-in-None
returns-in-None g c =
    record { did = not_done (g.G.Goes.relation c.args.goes.now) (g.G.Goes.known c.args.goes.now) (view_code c.args.code.now) c.args._pc (view_working c.args.frame.now) (view_working _) (none_array c.args.frame.now.stack c.in-None.ensures.entry) }

pub returns-in-None-tag : goal.returns-in-None-tag
returns-in-None-tag g c =
    let none = sym (ap (option_map view_tag) c.in-None-tag.is) ∙ c.in_ok-tag-in-Some.ensures.element in
    record { did = not_done (g.G.Goes.relation c.args.goes.now) (g.G.Goes.known c.args.goes.now) (view_code c.args.code.now) c.args._pc (view_working c.args.frame.now) (view_working _) (no_element c.args.frame.now.stack c.in-Some.array.now c.in-Some.ensures.entry none) }
