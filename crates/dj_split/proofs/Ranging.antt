-- The ranges of entries, and the handlers of blocks by them.
use Rattle.std.proofs.Common.{◌≡◌, ℕ, suc, ◌+◌, ◌<◌, Bool, true, false, List, [], ◌∷◌, ◌++◌, length, map, Option, Some, None, refl, sym, ap, ◌∙◌, subst, arith, append_assoc, drop, get_or}
use Rattle.std.specs.Prelude.{if◌then◌else◌, is_none, slice_get, option_map}
use Rattle.std.proofs.lemmas.List.{length_push, append-nil}
use Rattle.std.proofs.Math.Seq.{drop-cons}
use Rattle.std.proofs.lemmas.Option.{slice_get-map}
use Rattle.dj_names.specs.declared.header.Header.{Header}
use Rattle.dj_code.specs.declared.method_code.Handler.{Handler}
use Rattle.dj_starts.specs.Edges.{covers}
use Rattle.dj_graph.specs.declared.graph.Catcher.{Catcher}
use Rattle.dj_blocks_shown.specs.Leaving.{Parts}
use Rattle.dj_blocks_shown.specs.Catching.{AreCatchers, as_covered}
use Rattle.dj_edges.specs.Split.{catcher_of, with_catcher, catchers_of, numbered, handlers_from, HaveCatchers}
use Rattle.dj_edges.proofs.Split.{blocks_have_catchers}
use Rattle.dj_split.specs.declared.catchers.Range.{Range}
use Rattle.dj_split.specs.Ranges.{with_range, number_behind, ranges_of, numbers_at}
use Rattle.dj_split.specs.Caught.{IsCaught, BlocksAreCaught}

-- ---- handlers

pub numbers-are : (parts : Parts) (pc : ℕ) (handlers : List Handler) (next : ℕ) → numbers_at (ranges_of parts handlers next) pc ≡ handlers_from parts pc handlers next
numbers-are parts pc [] next = refl
numbers-are parts pc (first ∷ rest) next = by (catcher_of parts first) (numbers-are parts pc rest)
  where
    chosen : (catcher : Catcher) (covering all : Bool) → numbers_at (ranges_of parts rest (suc next)) pc ≡ handlers_from parts pc rest (suc next)
        → (if covering then next ∷ (if all then [] else numbers_at (ranges_of parts rest (suc next)) pc) else numbers_at (ranges_of parts rest (suc next)) pc) ≡ numbered (Some catcher) covering all next (handlers_from parts pc rest)
    chosen catcher false all later = later
    chosen catcher true true later = refl
    chosen catcher true false later = ap (λ (numbers : List ℕ). next ∷ numbers) later

    by : (found : Option Catcher) → ((number : ℕ) → numbers_at (ranges_of parts rest number) pc ≡ handlers_from parts pc rest number)
        → numbers_at (with_range found first next (ranges_of parts rest (number_behind found next))) pc ≡ numbered found (covers first pc) (is_none first.class) next (handlers_from parts pc rest)
    by None later = later next
    by (Some catcher) later = chosen catcher (covers first pc) (is_none first.class) (later (suc next))

-- ---- entries, one after another

pub next-catchers : (found : Option Catcher) (before rest : List Catcher) → (before ++ with_catcher found []) ++ rest ≡ before ++ with_catcher found rest
next-catchers None before rest = ap (λ (list : List Catcher). list ++ rest) (append-nil before)
next-catchers (Some catcher) before rest = append_assoc before (catcher ∷ []) rest

pub next-ranges : (found : Option Catcher) (handler : Handler) (number : ℕ) (before rest : List Range) → (before ++ with_range found handler number []) ++ rest ≡ before ++ with_range found handler number rest
next-ranges None handler number before rest = ap (λ (list : List Range). list ++ rest) (append-nil before)
next-ranges (Some catcher) handler number before rest = append_assoc before (record { start = handler.start; end = handler.end; all = is_none handler.class; catcher = number } ∷ []) rest

pub next-number : (found : Option Catcher) (before : List Catcher) → length (before ++ with_catcher found []) ≡ number_behind found (length before)
next-number None before = ap length (append-nil before)
next-number (Some catcher) before = let more = length_push before catcher in omega (arith, more)

-- ---- the loop over entries

drop-item : (all : List Handler) (index : ℕ) (item : Handler) → item ≡ get_or all index item → index < length all → drop index all ≡ item ∷ drop (index + 1) all
drop-item all index item is within = drop-cons all index item within ∙ ap (λ (first : Handler). first ∷ drop (suc index) all) (sym is) ∙ ap (λ (n : ℕ). item ∷ drop n all) next
  where
    next : suc index ≡ index + 1
    next = omega arith

pub step-catchers : (parts : Parts) (all : List Handler) (index : ℕ) (item : Handler) → item ≡ get_or all index item → index < length all → (old new whole : List Catcher) → new ≡ old ++ with_catcher (catcher_of parts item) []
    → old ++ catchers_of parts (drop index all) ≡ whole → new ++ catchers_of parts (drop (index + 1) all) ≡ whole
step-catchers parts all index item is within old new whole e f =
    ap (λ (list : List Catcher). list ++ catchers_of parts (drop (index + 1) all)) e
    ∙ next-catchers (catcher_of parts item) old (catchers_of parts (drop (index + 1) all))
    ∙ ap (λ (list : List Handler). old ++ catchers_of parts list) (sym (drop-item all index item is within))
    ∙ f

pub step-ranges : (parts : Parts) (all : List Handler) (index : ℕ) (item : Handler) → item ≡ get_or all index item → index < length all → (before behind : List Catcher) → behind ≡ before ++ with_catcher (catcher_of parts item) []
    → (old new whole : List Range) → new ≡ old ++ with_range (catcher_of parts item) item (length before) [] → old ++ ranges_of parts (drop index all) (length before) ≡ whole
    → new ++ ranges_of parts (drop (index + 1) all) (length behind) ≡ whole
step-ranges parts all index item is within before behind more old new whole e f =
    ap (λ (n : ℕ). new ++ ranges_of parts (drop (index + 1) all) n) (ap length more ∙ next-number (catcher_of parts item) before)
    ∙ ap (λ (list : List Range). list ++ ranges_of parts (drop (index + 1) all) (number_behind (catcher_of parts item) (length before))) e
    ∙ next-ranges (catcher_of parts item) item (length before) old (ranges_of parts (drop (index + 1) all) (number_behind (catcher_of parts item) (length before)))
    ∙ ap (λ (list : List Handler). old ++ ranges_of parts list (length before)) (sym (drop-item all index item is within))
    ∙ f

-- ---- blocks

pub blocks-caught : (parts : Parts) (catchers : List Catcher) (handlers : List (List ℕ)) → catchers ≡ catchers_of parts parts.typed.code.handlers
    → handlers ≡ map (λ start. handlers_from parts start parts.typed.code.handlers 0) parts.starts → BlocksAreCaught parts catchers handlers
blocks-caught parts catchers handlers are is = record {
  blocks = caught;
  alone = λ none headers number start listed. caught headers number start listed (subst (HaveCatchers parts start) (sym none) tt);
}
  where
    caught : (headers : List Header) (number start : ℕ) → slice_get parts.starts number ≡ Some start → HaveCatchers parts start parts.typed.code.handlers → IsCaught headers parts catchers handlers number start
    caught headers number start listed have = record {
      own = handlers_from parts start parts.typed.code.handlers 0;
      there = ap (λ (list : List (List ℕ)). slice_get list number) is ∙ slice_get-map (λ start. handlers_from parts start parts.typed.code.handlers 0) parts.starts number
          ∙ ap (option_map (λ start. handlers_from parts start parts.typed.code.handlers 0)) listed;
      are = subst (λ (list : List Catcher). AreCatchers headers parts list start (handlers_from parts start parts.typed.code.handlers 0)) (sym are) (as_covered (blocks_have_catchers parts start have));
    }

pub handlers-are : (parts : Parts) (ranges : List Range) (starts : List ℕ) → ranges ≡ ranges_of parts parts.typed.code.handlers 0
    → map (numbers_at ranges) starts ≡ map (λ start. handlers_from parts start parts.typed.code.handlers 0) starts
handlers-are parts ranges [] are = refl
handlers-are parts ranges (first ∷ rest) are =
    ap (λ (list : List Range). numbers_at list first ∷ map (numbers_at ranges) rest) are
    ∙ ap (λ (own : List ℕ). own ∷ map (numbers_at ranges) rest) (numbers-are parts first parts.typed.code.handlers 0)
    ∙ ap (λ (more : List (List ℕ)). handlers_from parts first parts.typed.code.handlers 0 ∷ more) (handlers-are parts ranges rest are)
