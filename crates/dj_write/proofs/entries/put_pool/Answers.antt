use Rattle.std.proofs.Common.{◌++◌, ◌∙◌, ap, arith, length}
use Rattle.dj_pool.specs.SharedParts.{u2}
use Rattle.dj_write.specs.Files.{slot_bytes}
use Rattle.dj_write.proofs.Spelled.{all_items, slots_spell}
use Rattle.dj_write.proofs.entries.put_pool.Goals as goal

pub returns : goal.returns
returns c =
    let entries = c.args.entries.now in
    let number = u2.spell (length entries) in
    record {
      put = all_items slot_bytes entries c.loop-entry.entry-index c.args.out.now.items number c.put_u16.new.out.items c.loop-entry.out.items (omega arith) c.in_ok-put_u16.ensures.put c.loop-entry.invariant
          ∙ ap (λ bytes. c.args.out.now.items ++ (number ++ bytes)) (slots_spell entries);
    }
