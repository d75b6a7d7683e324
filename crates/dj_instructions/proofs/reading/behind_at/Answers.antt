use Rattle.std.proofs.Common.{List, ℕ, Option, Bor, refl, sym}
use Rattle.std.specs.Option.{option_map}
use Rattle.dj_instructions.specs.Instructions.{view_instruction}
use Rattle.dj_instructions.specs.declared.instruction.Instruction as declared
use Rattle.dj_instructions.specs.RawInstructions.{TableSwitch, LookupSwitch, Wide, table, lookup, widened, table_of, lookup_of, widened_of}
use Rattle.dj_instructions.specs.Jumps.{table_switch, lookup_switch}
use Rattle.dj_instructions.specs.Meanings.{wide}
use Rattle.dj_instructions.proofs.Meant.{known}
use Rattle.dj_instructions.proofs.OpcodeReading.{unknown_read, alone_read, own_form}
use Rattle.dj_instructions.proofs.reading.behind_at.Goals as goal

pub returns-in-Unknown : goal.returns-in-Unknown
returns-in-Unknown c = record { reads = unknown_read c.args.pool.now c.args.pc c.args.opcode c.args.bytes.now (sym c.in-Unknown.ensures.form) }

pub returns-in-Alone : goal.returns-in-Alone
returns-in-Alone c = record { reads = alone_read c.args.pool.now c.args.pc c.args.opcode c.args.bytes.now (option_map view_instruction c.alone.result) (sym c.in-Alone.ensures.form) c.alone.ensures.alone }

pub returns-in-Table : goal.returns-in-Table
returns-in-Table c =
    record {
      reads = rw (← c.in-Table.ensures.form) (own_form c.args.pool.now c.args.pc (table c.args.pc) table_of (TableSwitch c.args.opcode) (table_switch c.args.pc) (λ (x : Option declared.Instruction × Bor (List ℕ)). (option_map view_instruction x.0, x.1.now)) c.args.end c.args.bytes.now c.table_at.result
          (λ t. refl) (λ t. known c.args.pool.now (table_switch c.args.pc t)) c.table_at.ensures.reads);
    }

pub returns-in-Lookup : goal.returns-in-Lookup
returns-in-Lookup c =
    record {
      reads = rw (← c.in-Lookup.ensures.form) (own_form c.args.pool.now c.args.pc (lookup c.args.pc) lookup_of (LookupSwitch c.args.opcode) (lookup_switch c.args.pc) (λ (x : Option declared.Instruction × Bor (List ℕ)). (option_map view_instruction x.0, x.1.now)) c.args.end c.args.bytes.now c.lookup_at.result
          (λ l. refl) (λ l. known c.args.pool.now (lookup_switch c.args.pc l)) c.lookup_at.ensures.reads);
    }

pub returns-in-Wide : goal.returns-in-Wide
returns-in-Wide c =
    record {
      reads = rw (← c.in-Wide.ensures.form) (own_form c.args.pool.now c.args.pc widened widened_of (Wide c.args.opcode) wide (λ (x : Option declared.Instruction × Bor (List ℕ)). (option_map view_instruction x.0, x.1.now)) c.args.end c.args.bytes.now c.widened_at.result
          (λ w. refl) (λ w. known c.args.pool.now (wide w)) c.widened_at.ensures.reads);
    }

pub returns-in-Byte : goal.returns-in-Byte
returns-in-Byte c = record { reads = rw (← c.in-Byte.ensures.form) (c.byte_at.ensures.reads c.args.pc) }

pub returns-in-Word : goal.returns-in-Word
returns-in-Word c = record { reads = rw (← c.in-Word.ensures.form) (c.word_at.ensures.reads c.args.pool.now c.args.opcode (sym c.in-Word.ensures.form)) }

pub returns-in-Step : goal.returns-in-Step
returns-in-Step c = record { reads = rw (← c.in-Step.ensures.form) (c.step_at.ensures.reads c.args.pool.now c.args.pc c.args.opcode (sym c.in-Step.ensures.form)) }

pub returns-in-Counted : goal.returns-in-Counted
returns-in-Counted c = record { reads = rw (← c.in-Counted.ensures.form) (c.counted_at.ensures.reads c.args.pc) }

pub returns-in-Sizes : goal.returns-in-Sizes
returns-in-Sizes c = record { reads = rw (← c.in-Sizes.ensures.form) (c.sizes_at.ensures.reads c.args.pc c.args.opcode (sym c.in-Sizes.ensures.form)) }
