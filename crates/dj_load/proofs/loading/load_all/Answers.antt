use Rattle.std.proofs.Common.{◌≡◌, ◌+◌, ◌<◌, ◌++◌, [], ◌∷◌, length, map, drop, take-append-drop, sym, ap, ◌∙◌, arith}
use Rattle.std.specs.String.{string_bytes}
use Rattle.std.proofs.lemmas.List.{map_push}
use Rattle.std.proofs.lemmas.Result.{err_from_is_err_and}
use Rattle.dj_load.specs.Loading.{contents_of}
use Rattle.dj_load.proofs.LoadingLemmas.{take_map_more, loads_then, stops_then, stops_between, stops_more}
use Rattle.dj_load.proofs.loading.load_all.Goals as goal

pub returns-in_err-bytes-clause-stopped : goal.returns-in_err-bytes-clause-stopped
returns-in_err-bytes-clause-stopped g c =
    let named = c.args.named.now in
    let names = map string_bytes named in
    let i = c.loop-name.name-index in
    let inside : i < length named = omega arith in
    let more = take_map_more string_bytes named i c.name-item.result inside c.name-item.is in
    let whole = ap (λ front. front ++ drop (i + 1) names) (sym more) ∙ take-append-drop (i + 1) names in
    let p = err_from_is_err_and c.from_residual.result c.from_residual.ensures.1 in
    let stops = stops_more (drop (i + 1) names) (stops_then c.loop-name.invariant.loaded (rw (c.as_str.ensures.value, c.loop-name.invariant.kept) at c.in_err-bytes.ensures.stopped)) in
    rw (p.1, p.2) (rw whole at stops)

pub returns-in_err-push-clause-stopped : goal.returns-in_err-push-clause-stopped
returns-in_err-push-clause-stopped g c =
    let named = c.args.named.now in
    let names = map string_bytes named in
    let i = c.loop-name.name-index in
    let inside : i < length named = omega arith in
    let more = take_map_more string_bytes named i c.name-item.result inside c.name-item.is in
    let whole = ap (λ front. front ++ drop (i + 1) names) (sym more) ∙ take-append-drop (i + 1) names in
    let p = err_from_is_err_and c.from_residual-in_err-push.result c.from_residual-in_err-push.ensures.1 in
    let loaded = loads_then c.loop-name.invariant.loaded (rw (c.as_str.ensures.value, c.loop-name.invariant.kept) at c.in_ok-bytes.ensures.loaded) in
    rw (p.1, p.2, sym whole) (stops_more (drop (i + 1) names) (stops_between tt loaded))

pub loop-name-preserved : goal.loop-name-preserved
loop-name-preserved g c =
    let named = c.args.named.now in
    let i = c.loop-name.name-index in
    let inside : i < length named = omega arith in
    let more = take_map_more string_bytes named i c.name-item.result inside c.name-item.is in
    let before = c.loop-name.invariant in
    let pushed : contents_of c.push.new.self.items ≡ contents_of c.loop-name.contents.items ++ c.in_ok-bytes.bytes.items ∷ [] = rw c.in_ok-push.ensures.items (map_push (λ bytes. bytes.items) c.loop-name.contents.items c.in_ok-bytes.bytes) in
    let loaded = loads_then before.loaded (rw (c.as_str.ensures.value, before.kept) at c.in_ok-bytes.ensures.loaded) in
    record {
      number = grind arith;
      counted = omega (arith, c.in_ok-bytes.ensures.counted, before.counted);
      within = c.in_ok-bytes.ensures.within;
      kept = c.in_ok-bytes.ensures.kept ∙ before.kept;
      falls = omega arith;
      calm = c.in_ok-bytes.ensures.calm ∙ before.calm;
      loaded = rw (pushed, more) loaded;
    }
