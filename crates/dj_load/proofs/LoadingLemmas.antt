-- What loading one more file adds to the names asked and to the files loaded, and how loads follow one another.
use Rattle.std.proofs.Common.{◌≡◌, ℕ, ◌+◌, ◌<◌, ◌≤◌, ◌⊎◌, List, [], ◌∷◌, ◌++◌, length, get_or, take, drop, take-append-drop, map, Option, Some, None, refl, sym, ap, ◌∙◌, arith, append_assoc, append-nil, inl, inr}
use Rattle.std.specs.Prelude.{unwrap_or, Bool, false, true, filter, IfSome, IsSomeAnd, nat_lt, slice_get, sum_by, if◌then◌else◌}
use Rattle.std.specs.Option.{option_map, option_map_or, option_to_list}
use Rattle.std.specs.Str.{is_utf8, IsUtf8}
use Rattle.std.specs.Str.Lines.{lines}
use Rattle.std.proofs.lemmas.Str.{IsUtf8-from_is_utf8, is_utf8-from_IsUtf8}
use Rattle.std.proofs.lemmas.List.{length-append, length-map, length-take, take_more, take-map, take_all, take-append-le, map_push}
use Rattle.std.proofs.lemmas.List.Elements.{All-nil, All-push, filter-append}
use Rattle.std.proofs.lemmas.List.Sums.{fold-append}
use Rattle.std.proofs.lemmas.Option.{slice_get-get_or}
use lib.ListN.{get_or-append}
use lib.Seq.{get_or-append_seam, take-append_seam}
use Rattle.dj_outer.specs.Count.{Rose}
use Rattle.dj_outer.specs.Files.{file_named, HasFile, with_asked}
use Rattle.dj_outer.proofs.PutsLemmas.{rose-from}
use Rattle.dj_load.specs.declared.loads.Loads.{Loads}
use Rattle.dj_load.specs.declared.loads.LoadStop.{LoadStop}
use Rattle.dj_load.specs.declared.loads.LoadStop.TheVariants.{Fault, Over, Memory}
use Rattle.dj_load.specs.HeldFiles.{Files, AreContents, AreListed, IsDue, IsList, OfDue, listed_by, most_bytes, most_files, most_together, paths_in}
use Rattle.dj_load.specs.Loads.{AsksFront, CanLoad, Exceeds, one, together, many, IsTooMuch, ReadFails, asked_with}
use Rattle.std.specs.Prelude.{Result, Ok, Err, IfOk, IfErr}
use Rattle.std.specs.String.{string_bytes}
use Rattle.dj_load.specs.declared.loading.Library.{Library}
use Rattle.dj_load.specs.declared.loading.OrderFiles.{OrderFiles}
use Rattle.dj_load.specs.Loading.{AreLoaded, HasLoaded, IsWithin, LoadsLibrary, LoadsMore, Stopped, StoppedAt, StopsAfter, StopsLibrary, StopsLoading, contents_of, paths_of}

-- the items in front of one place and that one, seen by a function
pub map_take_more : {X Y : Type 0} (f : X → Y) (xs : List X) (i : ℕ) (x : X) → i < length xs → x ≡ get_or xs i x → map f (take (i + 1) xs) ≡ map f (take i xs) ++ f x ∷ []
map_take_more f xs i x lt is = ap (map f) (take_more xs i x lt ∙ ap (λ y. take i xs ++ y ∷ []) (sym is)) ∙ map_push f (take i xs) x

-- the same of what is seen
pub take_map_more : {X Y : Type 0} (f : X → Y) (xs : List X) (i : ℕ) (x : X) → i < length xs → x ≡ get_or xs i x → take (i + 1) (map f xs) ≡ take i (map f xs) ++ f x ∷ []
take_map_more f xs i x lt is =
    take-map f (i + 1) xs ∙ map_take_more f xs i x lt is ∙ ap (λ ys. ys ++ f x ∷ []) (sym (take-map f i xs))

-- the last of names
last_name : (names : List (List ℕ)) (name : List ℕ) → slice_get (names ++ name ∷ []) (length names) ≡ Some name
last_name names name =
    slice_get-get_or (names ++ name ∷ []) (length names) name (omega (arith, length-append names (name ∷ []))) ∙ ap Some (get_or-append_seam names name [] name)

-- all names up to the last
all_names : (names : List (List ℕ)) (name : List ℕ) → take (length names + 1) (names ++ name ∷ []) ≡ names ++ name ∷ []
all_names names name = take_all (length names + 1) (names ++ name ∷ []) (omega (arith, length-append names (name ∷ [])))

-- ---- names asked

-- one more name is asked
asked_more : (old before new : Option (List (List ℕ))) (names : List (List ℕ)) (name : List ℕ) → before ≡ asked_with old names → new ≡ with_asked before name → new ≡ asked_with old (names ++ name ∷ [])
asked_more None before new names name was is = is ∙ ap (λ asked. with_asked asked name) was
asked_more (Some asked) before new names name was is = is ∙ ap (λ asked. with_asked asked name) was ∙ ap Some (append_assoc asked names (name ∷ []))

-- no name is asked
asked_none : (old : Option (List (List ℕ))) → old ≡ asked_with old []
asked_none None = refl
asked_none (Some asked) = ap Some (sym (append-nil asked))

-- some first names are some first of these and others
pub asks_of_more : (old new : Option (List (List ℕ))) (names more : List (List ℕ)) → AsksFront old new names → AsksFront old new (names ++ more)
asks_of_more old new names more front =
    let asked = take front.0 names in
    let whole : names ++ more ≡ asked ++ (drop front.0 names ++ more) = ap (λ all. all ++ more) (sym (take-append-drop front.0 names)) ∙ append_assoc asked (drop front.0 names) more in
    (length asked, front.1 ∙ ap (asked_with old) (sym (ap (take (length asked)) whole ∙ take-append_seam asked (drop front.0 names ++ more))))

-- ---- files loaded

-- the bytes of one more file
bytes_more : (contents : List (List ℕ)) (bytes : List ℕ) → sum_by length (contents ++ bytes ∷ []) ≡ sum_by length contents + length bytes
bytes_more contents bytes = fold-append (λ (a : ℕ) (these : List ℕ). a + length these) 0 contents (bytes ∷ [])

-- one more file is held
held_more : (files : Files) (names contents : List (List ℕ)) (name bytes : List ℕ) → map (file_named files) names ≡ map Some contents → file_named files name ≡ Some bytes
    → map (file_named files) (names ++ name ∷ []) ≡ map Some (contents ++ bytes ∷ [])
held_more files names contents name bytes was has =
    map_push (file_named files) names name ∙ ap (λ front. front ++ file_named files name ∷ []) was ∙ ap (λ file. map Some contents ++ file ∷ []) has ∙ sym (map_push Some contents bytes)

-- a file that is there, with these bytes
named_so : (found : Option (List ℕ)) (bytes : List ℕ) → IsSomeAnd found (λ file. file ≡ bytes) → found ≡ Some bytes
named_so None bytes has = absurd has
named_so (Some file) bytes has = ap Some has

-- a file is loaded besides, where there is room for it
loaded_more : (held : Option Files) (names contents : List (List ℕ)) (name bytes : List ℕ) → IfSome held (λ files. AreContents files names contents)
    → HasFile held name (λ file. file ≡ bytes) → length bytes ≤ most_bytes → sum_by length contents + length bytes ≤ most_together
    → IfSome held (λ files. AreContents files (names ++ name ∷ []) (contents ++ bytes ∷ []))
loaded_more None names contents name bytes was has small room = was
loaded_more (Some files) names contents name bytes was has small room = record {
  loaded = held_more files names contents name bytes was.loaded (named_so (file_named files name) bytes has);
  small = All-push (λ these. length these ≤ most_bytes) contents bytes was.small small;
  together = rw (bytes_more contents bytes) room;
}

-- files that were loaded can be
can_load : (held : Option Files) (names contents : List (List ℕ)) → IfSome held (λ files. AreContents files names contents) → CanLoad held names
can_load None names contents are = are
can_load (Some files) names contents are = (contents, are)

-- ---- one load

-- the names asked where a load stopped
one_asked : (asked asked_old asked_new : Option (List (List ℕ))) (before : List (List ℕ)) (name : List ℕ) → asked_old ≡ asked_with asked before → asked_new ≡ with_asked asked_old name → asked_new ≡ asked_with asked (take (length before + 1) (before ++ name ∷ []))
one_asked asked asked_old asked_new before name was asks = asked_more asked asked_old asked_new before name was asks ∙ ap (asked_with asked) (sym (all_names before name))

one_unasked : (asked asked_old asked_new : Option (List (List ℕ))) (before : List (List ℕ)) (name : List ℕ) → asked_old ≡ asked_with asked before → asked_new ≡ asked_old → asked_new ≡ asked_with asked (take (length before) (before ++ name ∷ []))
one_unasked asked asked_old asked_new before name was asks = asks ∙ was ∙ ap (asked_with asked) (sym (take-append_seam before (name ∷ [])))

-- the file is too large, by itself or with those before it
exceeds : (held : Option Files) (before done : List (List ℕ)) (name : List ℕ) → length before < most_files → IfSome held (λ files. AreContents files before done)
    → HasFile held name (λ file. (most_bytes < length file) ⊎ (most_together < sum_by length done + length file)) → Exceeds held (before ++ name ∷ []) (length before) (length before + 1)
exceeds None before done name few loaded has = one few tt
exceeds (Some files) before done name few loaded has = of_file (file_named files name) refl has
  where
    of_file : (found : Option (List ℕ)) → file_named files name ≡ found → IsSomeAnd found (λ file. (most_bytes < length file) ⊎ (most_together < sum_by length done + length file)) → Exceeds (Some files) (before ++ name ∷ []) (length before) (length before + 1)
    of_file None is has = absurd has
    of_file (Some file) is (inl large) = one few (rw (last_name before name, is) large)
    of_file (Some file) is (inr much) = together few (done ++ file ∷ [], rw (all_names before name) (held_more files before done name file loaded.loaded is), rw (bytes_more done file) much)

module _ {held : Option Files} {loads_old : Loads} {asked_old asked_new : Option (List (List ℕ))} {faults_old faults_new : ℕ} {name : List ℕ} where
  -- a file was loaded
  pub loads_one : {loads_new : Loads} {bytes : List ℕ} → HasFile held name (λ file. file ≡ bytes) → length bytes ≤ most_bytes → loads_old.used + length bytes ≤ most_together
      → loads_new.place ≡ loads_old.place + 1 → loads_new.used ≡ loads_old.used + length bytes → asked_new ≡ with_asked asked_old name → faults_old ≤ faults_new
      → LoadsMore held loads_old loads_new asked_old asked_new faults_old faults_new (name ∷ []) (bytes ∷ [])
  loads_one {bytes = bytes} has small room place used asks falls = record {
    more = λ asked faults before done so_far. record {
      loaded = loaded_more held before done name bytes so_far.loaded has small (omega (arith, so_far.used, room));
      number = omega (arith, so_far.number, length-append before (name ∷ []), length-append done (bytes ∷ []));
      place = omega (arith, so_far.place, place, length-append done (bytes ∷ []));
      used = omega (arith, so_far.used, used, bytes_more done bytes);
      asked = asked_more asked asked_old asked_new before name so_far.asked asks;
      falls = omega (arith, so_far.falls, falls);
    };
  }

  -- a load stopped
  pub stops_one : {stop : LoadStop} → IsWithin loads_old → loads_old.place < most_files → faults_old ≤ faults_new
      → StoppedAt loads_old.place stop (Rose faults_old faults_new) (HasFile held name (λ file. (most_bytes < length file) ⊎ (most_together < loads_old.used + length file))) (asked_new ≡ with_asked asked_old name) (asked_new ≡ asked_old)
      → StopsAfter held loads_old asked_old asked_new faults_old faults_new (name ∷ []) stop
  stops_one {stop = Fault place} within few falls at = record {
    stops = λ asked faults before done so_far.
        let here : place ≡ length before = at.0 ∙ so_far.place ∙ so_far.number in
        let asks = one_asked asked asked_old asked_new before name so_far.asked at.2 in
        record {
          stopped = rw here (record {
            due = omega (arith, length-append before (name ∷ []));
            few = omega (arith, so_far.place, so_far.number, few);
            rose = rose-from faults faults_old faults_new so_far.falls at.1;
            before = rw (take-append_seam before (name ∷ [])) (can_load held before done so_far.loaded);
            asked = asks;
          });
          asked = (length before + 1, asks);
        };
  }
  stops_one {stop = Over place} within few falls at = record {
    stops = λ asked faults before done so_far.
        let here : place ≡ length before = at.0 ∙ so_far.place ∙ so_far.number in
        let asks = one_asked asked asked_old asked_new before name so_far.asked at.2 in
        record {
          stopped = rw here (record {
            due = omega (arith, length-append before (name ∷ []));
            before = rw (take-append_seam before (name ∷ [])) (can_load held before done so_far.loaded);
            count = length before + 1;
            exceeds = exceeds held before done name (omega (arith, so_far.place, so_far.number, few)) so_far.loaded (rw so_far.used at at.1);
            asked = asks;
          });
          asked = (length before + 1, asks);
        };
  }
  stops_one {stop = Memory error} within few falls (inl unasked) = record {
    stops = λ asked faults before done so_far. record { stopped = tt; asked = (length before, one_unasked asked asked_old asked_new before name so_far.asked unasked) };
  }
  stops_one {stop = Memory error} within few falls (inr asks) = record {
    stops = λ asked faults before done so_far. record { stopped = tt; asked = (length before + 1, one_asked asked asked_old asked_new before name so_far.asked asks) };
  }

  -- so many files were loaded as may be, and there is one more
  pub stops_at_most : loads_old.place ≡ most_files → asked_new ≡ asked_old → StopsAfter held loads_old asked_old asked_new faults_old faults_new (name ∷ []) (Over loads_old.place)
  stops_at_most full unasked = record {
    stops = λ asked faults before done so_far.
        let here : loads_old.place ≡ length before = so_far.place ∙ so_far.number in
        let asks = one_unasked asked asked_old asked_new before name so_far.asked unasked in
        record {
          stopped = rw here (record {
            due = omega (arith, length-append before (name ∷ []));
            before = rw (take-append_seam before (name ∷ [])) (can_load held before done so_far.loaded);
            count = length before;
            exceeds = many (sym here ∙ full);
            asked = asks;
          });
          asked = (length before, asks);
        };
  }

-- ---- loads one after another

-- nothing was loaded
pub loads_none : {held : Option Files} {loads : Loads} {asked_old : Option (List (List ℕ))} {faults_old : ℕ} → LoadsMore held loads loads asked_old asked_old faults_old faults_old [] []
loads_none {held = held} {loads = loads} {asked_old = asked_old} {faults_old = faults_old} = record {
  more = λ asked faults before done so_far. rw (append-nil before, append-nil done) so_far;
}

-- files, and then others
pub loads_then : {held : Option Files} {loads between loads_new : Loads} {asked_old asked asked_new : Option (List (List ℕ))} {faults_old faults faults_new : ℕ} {names others contents rest : List (List ℕ)}
    → LoadsMore held loads between asked_old asked faults_old faults names contents → LoadsMore held between loads_new asked asked_new faults faults_new others rest
    → LoadsMore held loads loads_new asked_old asked_new faults_old faults_new (names ++ others) (contents ++ rest)
loads_then {names = names} {others = others} {contents = contents} {rest = rest} first second = record {
  more = λ asked faults before done so_far.
      rw (sym (append_assoc before names others), sym (append_assoc done contents rest)) (second.more asked faults (before ++ names) (done ++ contents) (first.more asked faults before done so_far));
}

-- files, and then the loading of others stopped
pub stops_then : {held : Option Files} {loads between : Loads} {asked_old asked asked_new : Option (List (List ℕ))} {faults_old faults faults_new : ℕ} {names others contents : List (List ℕ)} {stop : LoadStop}
    → LoadsMore held loads between asked_old asked faults_old faults names contents → StopsAfter held between asked asked_new faults faults_new others stop
    → StopsAfter held loads asked_old asked_new faults_old faults_new (names ++ others) stop
stops_then {names = names} {others = others} {contents = contents} first second = record {
  stops = λ asked faults before done so_far.
      rw (sym (append_assoc before names others)) (second.stops asked faults (before ++ names) (done ++ contents) (first.more asked faults before done so_far));
}

-- memory was wanting behind files
pub stops_between : {held : Option Files} {loads between : Loads} {asked_old asked_new : Option (List (List ℕ))} {faults_old faults_new : ℕ} {names contents : List (List ℕ)} {stop : LoadStop}
    → Stopped stop (λ place. ⊥) (λ place. ⊥) → LoadsMore held loads between asked_old asked_new faults_old faults_new names contents
    → StopsAfter held loads asked_old asked_new faults_old faults_new names stop
stops_between {stop = Fault place} is first = absurd is
stops_between {stop = Over place} is first = absurd is
stops_between {names = names} {contents = contents} {stop = Memory error} is first = record {
  stops = λ asked faults before done so_far.
      let after = first.more asked faults before done so_far in
      record { stopped = tt; asked = (length (before ++ names), after.asked ∙ ap (asked_with asked) (sym (take_all (length (before ++ names)) (before ++ names) (omega arith)))) };
}

-- ---- others behind the names where loading stopped

-- the place stands before the others
same_place : (names more : List (List ℕ)) (place : ℕ) → place < length names → slice_get (names ++ more) place ≡ slice_get names place
same_place names more place within =
    slice_get-get_or (names ++ more) place [] (omega (arith, length-append names more, within)) ∙ ap Some (get_or-append names more [] place within) ∙ sym (slice_get-get_or names place [] within)

exceeds_more : (held : Option Files) (names more : List (List ℕ)) (place count : ℕ) → place < length names → Exceeds held names place count → Exceeds held (names ++ more) place count × (count ≤ length names)
exceeds_more held names more place count within (one few large) = (one few (too_large held large), omega (arith, within))
  where
    too_large : (held : Option Files) → IfSome held (λ files. IsSomeAnd (slice_get names place) (λ name. IsSomeAnd (file_named files name) (λ bytes. most_bytes < length bytes)))
        → IfSome held (λ files. IsSomeAnd (slice_get (names ++ more) place) (λ name. IsSomeAnd (file_named files name) (λ bytes. most_bytes < length bytes)))
    too_large None large = large
    too_large (Some files) large = rw (same_place names more place within) large
exceeds_more held names more place count within (together few large) = (together few (too_large held large), omega (arith, within))
  where
    too_large : (held : Option Files) → IfSome held (λ files. (contents : List (List ℕ)) × (map (file_named files) (take (place + 1) names) ≡ map Some contents) × (most_together < sum_by length contents))
        → IfSome held (λ files. (contents : List (List ℕ)) × (map (file_named files) (take (place + 1) (names ++ more)) ≡ map Some contents) × (most_together < sum_by length contents))
    too_large None large = large
    too_large (Some files) large = rw (take-append-le (place + 1) names more (omega (arith, within))) large
exceeds_more held names more place count within (many full) = (many full, omega (arith, within))

pub stops_of_more : {held : Option Files} {asked_old asked_new : Option (List (List ℕ))} {faults_old faults_new : ℕ} {names : List (List ℕ)} {stop : LoadStop} (more : List (List ℕ))
    → StopsLoading held asked_old asked_new faults_old faults_new names stop → StopsLoading held asked_old asked_new faults_old faults_new (names ++ more) stop
stops_of_more {asked_old = asked_old} {asked_new = asked_new} {names = names} {stop = Fault place} more at =
    let within = at.stopped.due in
    record {
      stopped = record {
        due = omega (arith, within, length-append names more);
        few = at.stopped.few;
        rose = at.stopped.rose;
        before = rw (take-append-le place names more (omega (arith, within))) at.stopped.before;
        asked = rw (take-append-le (place + 1) names more (omega (arith, within))) at.stopped.asked;
      };
      asked = asks_of_more asked_old asked_new names more at.asked;
    }
stops_of_more {held = held} {asked_old = asked_old} {asked_new = asked_new} {names = names} {stop = Over place} more at =
    let within = at.stopped.due in
    let exceeds = exceeds_more held names more place at.stopped.count within at.stopped.exceeds in
    record {
      stopped = record {
        due = omega (arith, within, length-append names more);
        before = rw (take-append-le place names more (omega (arith, within))) at.stopped.before;
        count = at.stopped.count;
        exceeds = exceeds.0;
        asked = rw (take-append-le at.stopped.count names more exceeds.1) at.stopped.asked;
      };
      asked = asks_of_more asked_old asked_new names more at.asked;
    }
stops_of_more {asked_old = asked_old} {asked_new = asked_new} {names = names} {stop = Memory error} more at =
    record { stopped = tt; asked = asks_of_more asked_old asked_new names more at.asked }

pub stops_more : {held : Option Files} {loads : Loads} {asked_old asked_new : Option (List (List ℕ))} {faults_old faults_new : ℕ} {names : List (List ℕ)} {stop : LoadStop} (more : List (List ℕ))
    → StopsAfter held loads asked_old asked_new faults_old faults_new names stop → StopsAfter held loads asked_old asked_new faults_old faults_new (names ++ more) stop
stops_more {names = names} more at = record {
  stops = λ asked faults before done so_far. rw (sym (append_assoc before names more)) (stops_of_more more (at.stops asked faults before done so_far));
}

-- ---- the list of library files

-- as many paths as may be taken are the first ones
pub paths_full : (text : List ℕ) (n most : ℕ) (paths : List (List ℕ)) → paths ≡ filter (λ (line : List ℕ). nat_lt 0 (length line)) (take n (lines text)) → length paths ≡ most → paths ≡ take most (paths_in text)
paths_full text n most paths are full =
    let test : List ℕ → Bool = λ line. nat_lt 0 (length line) in
    let rest = filter test (drop n (lines text)) in
    let whole : paths_in text ≡ paths ++ rest = ap (filter test) (sym (take-append-drop n (lines text))) ∙ filter-append test (take n (lines text)) (drop n (lines text)) ∙ ap (λ front. front ++ rest) (sym are) in
    sym (ap (take most) whole ∙ ap (λ count. take count (paths ++ rest)) (sym full) ∙ take-append_seam paths rest)

-- all paths are the first ones
pub paths_all : (text : List ℕ) (most : ℕ) (paths : List (List ℕ)) → paths ≡ paths_in text → length paths ≤ most → paths ≡ take most (paths_in text)
paths_all text most paths are few = are ∙ sym (take_all most (paths_in text) (omega (arith, ap length are, few)))

-- where not all that may be taken are there, these are all
pub few_taken : (most : ℕ) (paths : List (List ℕ)) → length (take (most + 1) paths) ≤ most → take (most + 1) paths ≡ paths
few_taken most paths few = take_all (most + 1) paths (omega (arith, length-take (most + 1) paths, few))

-- the paths of a list, where the files tell them
abbrev pub paths_by : Option Files → Option (List ℕ) → List (List ℕ)
paths_by held None = []
paths_by None (Some list) = []
paths_by (Some files) (Some list) = option_map_or listed_by (file_named files list) []

pub are_listed : (held : Option Files) (list : Option (List ℕ)) → AreListed held list (paths_by held list)
are_listed held None = refl
are_listed None (Some list) = tt
are_listed (Some files) (Some list) = refl

-- the paths of a list that was loaded
pub are_loaded : (held : Option Files) (list bytes : List ℕ) → HasFile held list (λ file. file ≡ bytes) → AreListed held (Some list) (listed_by bytes)
are_loaded None list bytes has = tt
are_loaded (Some files) list bytes has = ap (λ found. option_map_or listed_by found []) (sym (named_so (file_named files list) bytes has))

-- what a text lists, and what is no text
pub listed_text : (bytes : List ℕ) → IsUtf8 bytes → listed_by bytes ≡ paths_in bytes
listed_text bytes is = ap (λ text. if text then paths_in bytes else []) (is_utf8-from_IsUtf8 bytes is)

isnt_text : (text : Bool) (bytes : List ℕ) → is_utf8 bytes ≡ text → ¬ IsUtf8 bytes → text ≡ false
isnt_text true bytes is isnt = absurd (isnt (IsUtf8-from_is_utf8 bytes is))
isnt_text false bytes is isnt = refl

pub is_list_text : (list bytes : List ℕ) → IsUtf8 bytes → IsList (Some list) (Some bytes) None (paths_in bytes)
is_list_text list bytes is = (ap (λ text. if text then None else Some list) (sym (is_utf8-from_IsUtf8 bytes is)), sym (listed_text bytes is))

pub listed_none : (bytes : List ℕ) → ¬ IsUtf8 bytes → listed_by bytes ≡ []
listed_none bytes isnt = ap (λ text. if text then paths_in bytes else []) (isnt_text (is_utf8 bytes) bytes refl isnt)

pub is_list_other : (list bytes : List ℕ) → ¬ IsUtf8 bytes → IsList (Some list) (Some bytes) (Some list) []
is_list_other list bytes isnt = (ap (λ text. if text then None else Some list) (sym (isnt_text (is_utf8 bytes) bytes refl isnt)), sym (listed_none bytes isnt))

-- ---- an order

-- nothing is loaded, of no names
none_contents : (held : Option Files) → IfSome held (λ files. AreContents files [] [])
none_contents None = tt
none_contents (Some files) = record { loaded = refl; small = All-nil (λ bytes. length bytes ≤ most_bytes); together = omega arith }

pub at_start : {held : Option Files} {loads : Loads} {asked : Option (List (List ℕ))} {faults : ℕ} → loads.place ≡ 0 → loads.used ≡ 0 → HasLoaded held loads asked asked faults faults [] []
at_start {held = held} {asked = asked} place used = record {
  loaded = none_contents held;
  number = refl;
  place = place;
  used = used;
  asked = asked_none asked;
  falls = omega arith;
}

-- loading stopped at some due names
pub stops_due : {held : Option Files} {named : List (List ℕ)} {list : Option (List ℕ)} {asked_old asked_new : Option (List (List ℕ))} {faults_old faults_new : ℕ} {due : List (List ℕ)} {stop : LoadStop}
    → IsDue held named list due → StopsLoading held asked_old asked_new faults_old faults_new due stop
    → Stopped stop (λ place. OfDue held named list (λ due. ReadFails held due asked_old asked_new faults_old faults_new place)) (λ place. OfDue held named list (λ due. IsTooMuch held due asked_old asked_new place))
stops_due {due = due} {stop = Fault place} is at = record { due = due; is_due = is; holds = at.stopped }
stops_due {due = due} {stop = Over place} is at = record { due = due; is_due = is; holds = at.stopped }
stops_due {stop = Memory error} is at = tt

-- the loading of the named files stopped
pub due_behind : (held : Option Files) (named : List (List ℕ)) (list : Option (List ℕ)) (paths : List (List ℕ)) → AreListed held list paths → IsDue held named list (named ++ (option_to_list list ++ paths))
due_behind held named list paths listed = record { paths = paths; listed = listed; due_is = refl }

-- ---- the list, and what it has

-- a list was loaded, which is a text, and then the files that it has
pub library_loads : {held : Option Files} {loads between : Loads} {asked_old asked : Option (List (List ℕ))} {faults_old faults : ℕ} {list bytes text : List ℕ} (loads_new : Loads) (asked_new : Option (List (List ℕ))) (faults_new : ℕ) (result : Result Library LoadStop) → LoadsMore held loads between asked_old asked faults_old faults (list ∷ []) (bytes ∷ []) → text ≡ bytes → IsUtf8 bytes
    → IfOk result (λ library. library.unread ≡ None) → IfOk result (λ library. paths_of library ≡ paths_in text)
    → IfOk result (λ library. LoadsMore held between loads_new asked asked_new faults faults_new (paths_in text) (contents_of library.contents.items))
    → IfOk result (LoadsLibrary held loads loads_new asked_old asked_new faults_old faults_new (Some list))
library_loads {list = list} {bytes = bytes} loads_new asked_new faults_new (Ok library) first same is read paths more = record {
  listed = Some bytes;
  lists = rw (ap (option_map string_bytes) read, paths, same) (is_list_text list bytes is);
  loads = rw paths (loads_then first more);
}
library_loads loads_new asked_new faults_new (Err stop) first same is read paths more = tt

-- a list was loaded, which is a text, and the loading of the files that it has stopped
pub library_stops : {held : Option Files} {loads between : Loads} {asked_old asked : Option (List (List ℕ))} {faults_old faults : ℕ} {list bytes text : List ℕ} (asked_new : Option (List (List ℕ))) (faults_new : ℕ) (result : Result Library LoadStop) → LoadsMore held loads between asked_old asked faults_old faults (list ∷ []) (bytes ∷ []) → text ≡ bytes → IsUtf8 bytes → HasFile held list (λ file. file ≡ bytes)
    → IfErr result (StopsAfter held between asked asked_new faults faults_new (paths_in text))
    → IfErr result (StopsLibrary held loads asked_old asked_new faults_old faults_new (Some list))
library_stops asked_new faults_new (Ok library) first same is has stops = tt
library_stops {held = held} {list = list} {bytes = bytes} {text = text} asked_new faults_new (Err stop) first same is has stops = record {
  paths = paths_in text;
  listed = rw (ap paths_in same ∙ sym (listed_text bytes is)) (are_loaded held list bytes has);
  stops = stops_then first stops;
}

-- ---- the files of an order

-- the loading of the named files stopped
pub named_stops : {held : Option Files} {start : Loads} {asked_old asked_new : Option (List (List ℕ))} {faults_old faults_new : ℕ} {named : List (List ℕ)} {stop : LoadStop} (list : Option (List ℕ)) → start.place ≡ 0 → start.used ≡ 0 → StopsAfter held start asked_old asked_new faults_old faults_new named stop
    → StopsLoading held asked_old asked_new faults_old faults_new (named ++ (option_to_list list ++ paths_by held list)) stop
named_stops {held = held} {asked_old = asked_old} {faults_old = faults_old} list place used stops = stops_of_more (option_to_list list ++ paths_by held list) (stops.stops asked_old faults_old [] [] (at_start place used))

-- they were loaded, and what stands behind them wasn't
pub behind_stops : {held : Option Files} {start between : Loads} {asked_old asked asked_new : Option (List (List ℕ))} {faults_old faults faults_new : ℕ} {named contents : List (List ℕ)} {list : Option (List ℕ)} {stop : LoadStop} → start.place ≡ 0 → start.used ≡ 0 → LoadsMore held start between asked_old asked faults_old faults named contents
    → (stops : StopsLibrary held between asked asked_new faults faults_new list stop) → StopsLoading held asked_old asked_new faults_old faults_new (named ++ (option_to_list list ++ stops.paths)) stop
behind_stops {asked_old = asked_old} {faults_old = faults_old} place used first stops = (stops_then first stops.stops).stops asked_old faults_old [] [] (at_start place used)

-- the files of an order were loaded
pub order_loads : {held : Option Files} {start between loads : Loads} {asked_old asked asked_new : Option (List (List ℕ))} {faults_old faults faults_new : ℕ} {named : List (List ℕ)} {list : Option (List ℕ)} (files : OrderFiles) → start.place ≡ 0 → start.used ≡ 0 → IsWithin loads → LoadsMore held start between asked_old asked faults_old faults named (contents_of files.named.items)
    → LoadsLibrary held between loads asked asked_new faults faults_new list files.library → AreLoaded held named list asked_old asked_new files
order_loads {asked_old = asked_old} {faults_old = faults_old} files place used within first more =
    let all = (loads_then first more.loads).more asked_old faults_old [] [] (at_start place used) in
    record {
      few = omega (arith, all.number, all.place, within.few);
      listed = more.listed;
      are = all.loaded;
      lists = more.lists;
      asked = all.asked;
    }

-- the named files and the library files are no more than may be loaded
pub few_files : {held : Option Files} {named : List (List ℕ)} {list : Option (List ℕ)} {asked_old asked_new : Option (List (List ℕ))} {files : OrderFiles} → AreLoaded held named list asked_old asked_new files
    → length files.named.items ≡ length named → length files.library.contents.items ≡ length files.library.paths.items → length files.named.items + length files.library.contents.items ≤ most_files
few_files {named = named} {list = list} {files = files} loaded as_many as_many_library =
    omega (arith, loaded.few, as_many, as_many_library, length-append named (option_to_list list ++ paths_of files.library), length-append (option_to_list list) (paths_of files.library), length-map files.library.paths.items (string_bytes))

-- the names asked are all that are due, where the files of an order were loaded
list_loaded : (files : Files) (named : List (List ℕ)) (list : List ℕ) (paths contents library : List (List ℕ)) (bytes : List ℕ) → length contents ≡ length named
    → map (file_named files) (named ++ (list ∷ paths)) ≡ map Some (contents ++ (bytes ∷ library)) → file_named files list ≡ Some bytes
list_loaded files [] list paths [] library bytes as_many are = ap (λ all. unwrap_or (slice_get all 0) None) are
list_loaded files [] list paths (other ∷ contents) library bytes as_many are = absurd (omega (arith, as_many))
list_loaded files (name ∷ named) list paths [] library bytes as_many are = absurd (omega (arith, as_many))
list_loaded files (name ∷ named) list paths (other ∷ contents) library bytes as_many are = list_loaded files named list paths contents library bytes (omega (arith, as_many)) (ap (drop 1) are)

pub listed_so : (held : Option Files) (named : List (List ℕ)) (list listed unread : Option (List ℕ)) (paths contents library : List (List ℕ)) → length contents ≡ length named → IsList list listed unread paths
    → IfSome held (λ files. AreContents files (named ++ (option_to_list list ++ paths)) (contents ++ (option_to_list listed ++ library))) → AreListed held list paths
listed_so held named None None unread paths contents library as_many is are = is.1
listed_so held named None (Some bytes) unread paths contents library as_many is are = absurd is
listed_so held named (Some list) None unread paths contents library as_many is are = absurd is
listed_so None named (Some list) (Some bytes) unread paths contents library as_many is are = tt
listed_so (Some files) named (Some list) (Some bytes) unread paths contents library as_many is are =
    rw (list_loaded files named list paths contents library bytes as_many are.loaded) is.1

pub order_due : {held : Option Files} {named : List (List ℕ)} {list : Option (List ℕ)} {asked_old asked_new : Option (List (List ℕ))} {files : OrderFiles} → AreLoaded held named list asked_old asked_new files
    → length files.named.items ≡ length named → OfDue held named list (λ due. asked_new ≡ asked_with asked_old due)
order_due {held = held} {named = named} {list = list} {files = files} loaded as_many =
    let paths = paths_of files.library in
    let contents = contents_of files.named.items in
    record {
      due = named ++ (option_to_list list ++ paths);
      is_due = due_behind held named list paths (listed_so held named list loaded.listed _ paths contents (contents_of files.library.contents.items) (omega (arith, as_many, length-map files.named.items (λ bytes. bytes.items))) loaded.lists loaded.are);
      holds = loaded.asked;
    }

-- all that are due are some first of these
pub order_asks : {held : Option Files} {named : List (List ℕ)} {list : Option (List ℕ)} (asked_old asked_new : Option (List (List ℕ))) → OfDue held named list (λ due. asked_new ≡ asked_with asked_old due)
    → OfDue held named list (AsksFront asked_old asked_new)
order_asks asked_old asked_new all = record {
  due = all.due;
  is_due = all.is_due;
  holds = (length all.due, all.holds ∙ ap (asked_with asked_old) (sym (take_all (length all.due) all.due (omega arith))));
}
