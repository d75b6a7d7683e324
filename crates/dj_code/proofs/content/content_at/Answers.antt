use Rattle.std.proofs.Common.{inl, inr}
use Rattle.std.proofs.lemmas.Result.{err_from_is_err_and}
use Rattle.dj_layout.proofs.Steps.{stops_in}
use Rattle.dj_pool.specs.SharedParts.{counted, attribute}
use Rattle.dj_code.specs.CodeContent.{code, handler, content}
use Rattle.dj_code.proofs.ContentLayout.{spells_content}
use Rattle.dj_code.proofs.content.content_at.Goals as goal

pub returns-in_err-code : goal.returns-in_err-code
returns-in_err-code c =
    let p = err_from_is_err_and c.from_residual-in_err-code.result c.from_residual-in_err-code.ensures.1 in
    rw (p.1, p.2) record { reads = stops_in code.Halts content.Halts _ _ c.in_ok-max_locals.rest.now _ c.in_err-code.ensures.reads (λ f h. inr (_, _, c.in_ok-max_stack.ensures.reads, inr (_, _, c.in_ok-max_locals.ensures.reads, inl h))) }

pub returns-in_err-handlers : goal.returns-in_err-handlers
returns-in_err-handlers c =
    let p = err_from_is_err_and c.from_residual-in_err-handlers.result c.from_residual-in_err-handlers.ensures.1 in
    rw (p.1, p.2) record { reads = stops_in (counted handler).Halts content.Halts _ _ c.in_ok-code.rest.now _ c.in_err-handlers.ensures.reads (λ f h. inr (_, _, c.in_ok-max_stack.ensures.reads, inr (_, _, c.in_ok-max_locals.ensures.reads, inr (_, _, c.in_ok-code.ensures.reads, inl h)))) }

pub returns-in_err-attributes : goal.returns-in_err-attributes
returns-in_err-attributes c =
    let p = err_from_is_err_and c.from_residual-in_err-attributes.result c.from_residual-in_err-attributes.ensures.1 in
    rw (p.1, p.2) record { reads = stops_in (counted attribute).Halts content.Halts _ _ c.in_ok-handlers.rest.now _ c.in_err-attributes.ensures.reads (λ f h. inr (_, _, c.in_ok-max_stack.ensures.reads, inr (_, _, c.in_ok-max_locals.ensures.reads, inr (_, _, c.in_ok-code.ensures.reads, inr (_, _, c.in_ok-handlers.ensures.reads, inl h))))) }

pub returns : goal.returns
returns c =
    record {
      reads = spells_content c.args.bytes.now c.in_ok-max_stack.rest.now c.in_ok-max_locals.rest.now c.in_ok-code.rest.now c.in_ok-handlers.rest.now c.in_ok-attributes.rest.now (record { max_stack = c.in_ok-max_stack.max_stack; max_locals = c.in_ok-max_locals.max_locals; code = c.in_ok-code.code; handlers = c.in_ok-handlers.handlers; attributes = c.in_ok-attributes.attributes }) c.in_ok-max_stack.ensures.reads c.in_ok-max_locals.ensures.reads c.in_ok-code.ensures.reads c.in_ok-handlers.ensures.reads c.in_ok-attributes.ensures.reads;
    }
