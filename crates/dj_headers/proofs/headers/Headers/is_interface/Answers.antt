use Rattle.std.proofs.Common.{Contains, List, get_or, ap, ◌∙◌}
use Rattle.std.proofs.lemmas.Bool.{false≢true}
use Rattle.dj_names.specs.declared.header.Header.{Header}
use Rattle.dj_names.specs.Headers.{names}
use Rattle.dj_headers.proofs.HeaderLemmas.{bit_set, interface_listed, interface_at}
use Rattle.dj_headers.proofs.headers.Headers.is_interface.Goals as goal

pub returns-in-Some : goal.returns-in-Some
returns-in-Some c =
    let headers = c.self.inside.headers in
    let at = c.in-Some.at in
    let header = c.index-as_slice-at.result in
    let here = c.index-as_slice-at.is ∙ ap (λ (hs : List Header). get_or hs at header) (c.as_slice-in-Some.ensures) in
    rw (← c.self.view_is) (rw (← c.index-as_slice-at.is)
    (let bit = bit_set _ in
    let told = interface_at headers c.args.class.now at header c.self.invariant.distinct (rw (← c.as_slice.ensures) c.in-Some.ensures.place) (rw (← c.as_slice.ensures) c.in-Some.ensures.within) here in
    record { interface = (λ yes. told.1 (bit.0 yes), λ interface. bit.1 (told.0 interface)) }))

pub returns-in-None : goal.returns-in-None
returns-in-None c =
    let headers = c.self.inside.headers in
    let unlisted : ¬ Contains (names headers) c.args.class.now = rw (← c.as_slice.ensures) c.in-None.ensures.place in
    rw (← c.self.view_is) (record { interface = (λ no. absurd (false≢true no), λ interface. absurd (unlisted (interface_listed headers c.args.class.now interface))) })
