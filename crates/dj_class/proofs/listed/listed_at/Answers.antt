use Rattle.std.proofs.Common.{map, inl, inr}
use Rattle.std.proofs.lemmas.Result.{err_from_is_err_and}
use Rattle.dj_layout.proofs.Steps.{stops_in}
use Rattle.dj_pool.specs.SharedParts.{counted}
use Rattle.dj_class.specs.Views.{view_field, view_method}
use Rattle.dj_class.specs.FileFormat.{named, method, lawful_listed}
use Rattle.dj_class.proofs.ListedParts.{listed_read}
use Rattle.dj_class.proofs.listed.listed_at.Goals as goal

pub returns-in_err-methods : goal.returns-in_err-methods
returns-in_err-methods c =
    let p = err_from_is_err_and c.from_residual-in_err-methods.result c.from_residual-in_err-methods.ensures.1 in
    rw (p.1, p.2) record { reads = stops_in (counted (method c.args.pool.now)).Halts (lawful_listed c.args.pool.now).Halts _ _ c.in_ok-fields.rest.now _ c.in_err-methods.ensures.reads (λ f h. inr (_, _, c.in_ok-interfaces.ensures.reads.spells, inr (_, _, c.in_ok-fields.ensures.reads.spells, inl h))) }

pub returns-in_err-rest : goal.returns-in_err-rest
returns-in_err-rest c =
    let p = err_from_is_err_and c.from_residual-in_err-rest.result c.from_residual-in_err-rest.ensures.1 in
    rw (p.1, p.2) record { reads = stops_in (counted (named c.args.pool.now)).Halts (lawful_listed c.args.pool.now).Halts _ _ c.in_ok-methods.rest.now _ c.in_err-rest.ensures.reads (λ f h. inr (_, _, c.in_ok-interfaces.ensures.reads.spells, inr (_, _, c.in_ok-fields.ensures.reads.spells, inr (_, _, c.in_ok-methods.ensures.reads.spells, inl h)))) }

pub returns : goal.returns
returns c =
    record {
      reads = listed_read c.args.pool.now c.args.bytes.now c.in_ok-interfaces.rest.now c.in_ok-fields.rest.now c.in_ok-methods.rest.now c.in_ok-rest.rest.now c.in_ok-interfaces.interfaces (map view_field c.in_ok-fields.fields) (map view_method c.in_ok-methods.methods)
          c.in_ok-interfaces.ensures.reads c.in_ok-fields.ensures.reads c.in_ok-methods.ensures.reads c.in_ok-rest.ensures.reads;
    }
