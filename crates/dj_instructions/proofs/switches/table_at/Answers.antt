use Rattle.std.proofs.Common.{inl, inr}
use Rattle.std.specs.Option.{option_map}
use Rattle.std.proofs.lemmas.Result.{err_from_is_err_and}
use Rattle.dj_layout.specs.Parts.{times}
use Rattle.dj_layout.proofs.Steps.{stops_in}
use Rattle.dj_instructions.specs.Instructions.{view_instruction}
use Rattle.dj_instructions.specs.RawInstructions.{u4, table}
use Rattle.dj_instructions.proofs.SwitchReading.{count_is, table_read}
use Rattle.dj_instructions.proofs.switches.table_at.Goals as goal

pub returns-in_err-high : goal.returns-in_err-high
returns-in_err-high c =
    let p = err_from_is_err_and c.from_residual-in_err-high.result c.from_residual-in_err-high.ensures.1 in
    rw (p.1, p.2) record {
      reads = stops_in u4.Halts (table c.args.pc).Halts _ _ c.in_ok-low.rest.now _ c.in_err-high.ensures.reads (λ f h.
          inr (_, _, c.in_ok-_padding.ensures.reads, inr (_, _, c.in_ok-other.ensures.reads, inr (_, _, c.in_ok-low.ensures.reads, inl h))));
    }

pub returns-in_err-targets : goal.returns-in_err-targets
returns-in_err-targets c =
    let p = err_from_is_err_and c.from_residual-in_err-targets.result c.from_residual-in_err-targets.ensures.1 in
    let n = count_is c.in_ok-other.rest.now c.in_ok-low.rest.now c.in_ok-high.rest.now c.in_ok-low.low c.in_ok-high.high c.count_keys-count.result c.cast_signed.result c.cast_signed-2.result c.in_ok-low.ensures.reads c.in_ok-high.ensures.reads c.cast_signed.ensures c.cast_signed-2.ensures c.count_keys-count.ensures.count in
    rw (p.1, p.2) record {
      reads = stops_in (times c.count_keys-count.result u4).Halts (table c.args.pc).Halts _ _ c.in_ok-high.rest.now _ c.in_err-targets.ensures.reads (λ f h.
          inr (_, _, c.in_ok-_padding.ensures.reads, inr (_, _, c.in_ok-other.ensures.reads, inr (_, _, c.in_ok-low.ensures.reads, inr (_, _, c.in_ok-high.ensures.reads, inl (rw (← n) h))))));
    }

pub returns : goal.returns
returns c =
    let n = count_is c.in_ok-other.rest.now c.in_ok-low.rest.now c.in_ok-high.rest.now c.in_ok-low.low c.in_ok-high.high c.count_keys-count.result c.cast_signed.result c.cast_signed-2.result c.in_ok-low.ensures.reads c.in_ok-high.ensures.reads c.cast_signed.ensures c.cast_signed-2.ensures c.count_keys-count.ensures.count in
    record {
      reads = table_read c.args.pc c.args.bytes.now c.in_ok-_padding.rest.now c.in_ok-other.rest.now c.in_ok-low.rest.now c.in_ok-high.rest.now c.in_ok-targets.rest.now c.in_ok-_padding._padding.now c.in_ok-other.other c.in_ok-low.low c.in_ok-high.high c.count_keys-count.result c.in_ok-targets.targets (option_map view_instruction c.table_switch.result)
          c.in_ok-_padding.ensures.reads c.in_ok-other.ensures.reads c.in_ok-low.ensures.reads c.in_ok-high.ensures.reads n c.in_ok-targets.ensures.reads c.table_switch.ensures.switch;
    }
