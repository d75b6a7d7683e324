use Rattle.std.proofs.lemmas.Bool.{both_ways}
use Rattle.dj_world.proofs.ClashLemmas.{least_twice, least_cycle, least_final, least_kind, may_be_added}
use Rattle.dj_world.proofs.clash.clash_of.Goals as goal

pub has_final_super-requires : goal.has_final_super-requires
has_final_super-requires c = record { lawful = c.requires.lawful; wanted = c.requires.wanted; no_circle = λ wrong. both_ways c.closes_circle.result c.if-closes_circle.false (c.closes_circle.ensures.exact.1 wrong) }

pub has_wrong_kind-requires : goal.has_wrong_kind-requires
has_wrong_kind-requires c = record {
  lawful = c.requires.lawful;
  wanted = c.requires.wanted;
  fresh = λ there. both_ways c.is_there.result c.if-is_there.false (c.is_there.ensures.exact.1 there);
  no_circle = λ wrong. both_ways c.closes_circle.result c.if-closes_circle.false (c.closes_circle.ensures.exact.1 wrong);
}

pub returns-then-is_there : goal.returns-then-is_there
returns-then-is_there c = record { clash = least_twice c.args.headers.now c.args.header.now (c.is_there.ensures.exact.0 c.if-is_there.true) }

pub returns-then-closes_circle : goal.returns-then-closes_circle
returns-then-closes_circle c = record {
  clash = least_cycle c.args.headers.now c.args.header.now
      (λ there. both_ways c.is_there.result c.if-is_there.false (c.is_there.ensures.exact.1 there))
      (c.closes_circle.ensures.exact.0 c.if-closes_circle.true);
}

pub returns-then-has_final_super : goal.returns-then-has_final_super
returns-then-has_final_super c = record {
  clash = least_final c.args.headers.now c.args.header.now
      (λ there. both_ways c.is_there.result c.if-is_there.false (c.is_there.ensures.exact.1 there))
      (λ wrong. both_ways c.closes_circle.result c.if-closes_circle.false (c.closes_circle.ensures.exact.1 wrong))
      (c.has_final_super.ensures.exact.0 c.if-has_final_super.true);
}

pub returns-then-has_wrong_kind : goal.returns-then-has_wrong_kind
returns-then-has_wrong_kind c = record {
  clash = least_kind c.args.headers.now c.args.header.now
      (λ there. both_ways c.is_there.result c.if-is_there.false (c.is_there.ensures.exact.1 there))
      (λ wrong. both_ways c.closes_circle.result c.if-closes_circle.false (c.closes_circle.ensures.exact.1 wrong))
      (λ wrong. both_ways c.has_final_super.result c.if-has_final_super.false (c.has_final_super.ensures.exact.1 wrong))
      (c.has_wrong_kind.ensures.exact.0 c.if-has_wrong_kind.true);
}

pub returns-else-has_wrong_kind : goal.returns-else-has_wrong_kind
returns-else-has_wrong_kind c = record {
  clash = may_be_added c.args.headers.now c.args.header.now
      (λ there. both_ways c.is_there.result c.if-is_there.false (c.is_there.ensures.exact.1 there))
      (λ wrong. both_ways c.closes_circle.result c.if-closes_circle.false (c.closes_circle.ensures.exact.1 wrong))
      (λ wrong. both_ways c.has_final_super.result c.if-has_final_super.false (c.has_final_super.ensures.exact.1 wrong))
      (λ wrong. both_ways c.has_wrong_kind.result c.if-has_wrong_kind.false (c.has_wrong_kind.ensures.exact.1 wrong));
}
