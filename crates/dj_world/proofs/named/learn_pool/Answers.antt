use Rattle.std.proofs.Common.{arith}
use Rattle.dj_pool.specs.declared.entry.Entry.{Entry}
use Rattle.dj_world.specs.Named.{IsInEntry}
use Rattle.dj_names.specs.Headers.{Name}
use Rattle.dj_world.proofs.LearningLemmas.{learned_none, learned_more, learned_all}
use Rattle.dj_world.proofs.named.learn_pool.Goals as goal

pub loop-entry-init : goal.loop-entry-init
loop-entry-init c = learned_none (λ (name : Name) (entry : Entry). IsInEntry c.args.pool.now entry name) c.as_slice-entry-items.result.now c.args.names.now

pub loop-entry-preserved : goal.loop-entry-preserved
loop-entry-preserved c =
    learned_more (λ (name : Name) (entry : Entry). IsInEntry c.args.pool.now entry name) c.as_slice-entry-items.result.now c.loop-entry.entry-index c.entry-item.result c.args.names.now c.loop-entry.names c.learn_entry.new.names (omega arith) c.entry-item.is
    c.loop-entry.invariant c.in_ok-learn_entry.ensures.learns

pub returns : goal.returns
returns c = record { learns = rw c.as_slice-entry-items.ensures.entries at (learned_all (λ (name : Name) (entry : Entry). IsInEntry c.args.pool.now entry name) c.as_slice-entry-items.result.now c.loop-entry.entry-index c.args.names.now c.loop-entry.names (omega arith) c.loop-entry.invariant) }
