use Rattle.std.proofs.Common.{◌≡◌, false, true, length, Option, ℕ, ◌<◌, refl, sym, subst, arith}
use Rattle.std.proofs.lemmas.Option.{slice_get_read}
use Rattle.dj_names.specs.Types.{view_type}
use Rattle.dj_numbers.specs.Numbers.{IsSought, counted}
use Rattle.dj_numbers.proofs.Numbering.{sought-next, sought-none, sought-found, before-less}
use Rattle.dj_numbers.proofs.numbers.find.Goals as goal

pub returns-then-same_type : goal.returns-then-same_type
returns-then-same_type c =
    let xs = c.args.variables.now in
    let h = subst (IsSought xs c.args.slot (view_type c.args.kind.now)) c.in-Some.is c.loop-next.invariant in
    let within : c.in-Some.number < length xs = (let less = h.last.within in let few = h.within in omega (arith, less, few)) in
    record {
      number = sym (sought-found xs c.args.lasts.now c.args.slot (view_type c.args.kind.now) c.in-Some.number c.index-variables-number.result c.requires.chained
          (slice_get_read xs (length xs) c.in-Some.number c.index-variables-number.result refl within c.index-variables-number.is) (c.if-same_type.ensures.same.0 refl) h);
    }

pub loop-next-smaller : goal.loop-next-smaller
loop-next-smaller c =
    let xs = c.args.variables.now in
    let h = subst (IsSought xs c.args.slot (view_type c.args.kind.now)) c.in-Some.is c.loop-next.invariant in
    let within : c.in-Some.number < length xs = (let less = h.last.within in let few = h.within in omega (arith, less, few)) in
    let there = slice_get_read xs (length xs) c.in-Some.number c.index-variables-number.result refl within c.index-variables-number.is in
    subst (λ (next : Option ℕ). counted c.index-variables-number.result.before < counted next) (sym c.in-Some.is)
    (before-less xs c.in-Some.number c.index-variables-number.result.slot c.index-variables-number.result.before (c.requires.chained.befores c.in-Some.number c.index-variables-number.result there))

pub loop-next-preserved : goal.loop-next-preserved
loop-next-preserved c =
    let xs = c.args.variables.now in
    let h = subst (IsSought xs c.args.slot (view_type c.args.kind.now)) c.in-Some.is c.loop-next.invariant in
    let within : c.in-Some.number < length xs = (let less = h.last.within in let few = h.within in omega (arith, less, few)) in
    sought-next xs c.args.lasts.now c.args.slot (view_type c.args.kind.now) c.in-Some.number c.index-variables-number.result c.requires.chained
    (slice_get_read xs (length xs) c.in-Some.number c.index-variables-number.result refl within c.index-variables-number.is) (λ e. no (c.if-same_type.ensures.same.1 e)) h
  where
    no : false ≡ true → ⊥
    no e = cc

pub returns : goal.returns
returns c = record { number = sym (sought-none c.args.variables.now c.args.slot (view_type c.args.kind.now) (subst (IsSought c.args.variables.now c.args.slot (view_type c.args.kind.now)) c.in_default.is c.loop-next.invariant)) }
