use Rattle.std.proofs.Common.{inl, inr}
use Rattle.std.specs.Option.{option_map}
use Rattle.std.proofs.lemmas.Result.{err_from_is_err_and}
use Rattle.dj_layout.specs.Parts.{times}
use Rattle.dj_layout.proofs.Steps.{stops_in}
use Rattle.dj_instructions.specs.Instructions.{view_instruction}
use Rattle.dj_instructions.specs.RawInstructions.{pair, lookup}
use Rattle.dj_instructions.proofs.SwitchReading.{lookup_read}
use Rattle.dj_instructions.proofs.switches.lookup_at.Goals as goal

pub returns-in_err-cases : goal.returns-in_err-cases
returns-in_err-cases c =
    let p = err_from_is_err_and c.from_residual-in_err-cases.result c.from_residual-in_err-cases.ensures.1 in
    rw (p.1, p.2) record {
      reads = stops_in (times c.in_ok-count.count pair).Halts (lookup c.args.pc).Halts _ _ c.in_ok-count.rest.now _ c.in_err-cases.ensures.reads (λ f h.
          inr (_, _, c.in_ok-_padding.ensures.reads, inr (_, _, c.in_ok-other.ensures.reads, inl (inr (_, _, c.in_ok-count.ensures.reads, h)))));
    }

pub returns : goal.returns
returns c =
    record {
      reads = lookup_read c.args.pc c.args.bytes.now c.in_ok-_padding.rest.now c.in_ok-other.rest.now c.in_ok-count.rest.now c.in_ok-cases.rest.now c.in_ok-_padding._padding.now c.in_ok-other.other c.in_ok-count.count c.in_ok-cases.cases (option_map view_instruction c.lookup_switch.result)
          c.in_ok-_padding.ensures.reads c.in_ok-other.ensures.reads c.in_ok-count.ensures.reads c.in_ok-cases.ensures.reads c.lookup_switch.ensures.switch;
    }
