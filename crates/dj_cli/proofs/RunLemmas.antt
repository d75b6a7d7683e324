-- How a run ends: with a last line, or with what was told of files.
use Rattle.std.proofs.Common.{refl, ◌++◌, [], append-nil, Some, None, ◌≡◌, ◌∙◌, ap, ℕ, List, length, map, Option, Result, Ok, Err, OnErr, String, sym, subst, inl, inr}
use Rattle.std.specs.declared.alloc.Global.{Global}
use Rattle.std.proofs.lemmas.List.{length-map}
use Rattle.std.specs.Prelude.{true, ⊤, Vec}
use Rattle.std.specs.declared.alloc.AllocError.{AllocError}
use Rattle.dj_words.specs.declared.order.UsageKind.{UsageKind}
use Rattle.dj_report.specs.declared.status.Status.{Status}
use Rattle.dj_report.specs.declared.status.Status.TheVariants.{Clean, Refused, Usage, ReadFault, TextFault, ReportFault, TooMuch}
use Rattle.dj_report.specs.Status.{MatchEnd, OnClean, OnRefused, OnTextFault, OnReportFault, UnlessReadFault, UnlessReportFault, UnlessTextFault}
use Rattle.dj_world.specs.Worlds.{WorldOf}
use Rattle.std.specs.String.{string_bytes}
use Rattle.std.specs.Option.{option_map}
use Rattle.dj_load.specs.declared.loading.OrderFiles.{OrderFiles}
use Rattle.dj_load.specs.declared.reading.FoundFiles.{FoundFiles}
use Rattle.std.specs.Option.{option_to_list}
use Rattle.dj_load.specs.Loads.{AsksFront, asked_with}
use Rattle.dj_load.proofs.LoadingLemmas.{are_listed, due_behind, paths_by}
use Rattle.dj_load.specs.HeldFiles.{Files, Finds, MakesWorld, OfDue}
use Rattle.dj_load.specs.Loading.{AreLoaded, contents_of, finds_of, paths_of}
use Rattle.dj_making.specs.MadeFiles.{MadeSetting, made_contents, made_names}
use Rattle.dj_cli.specs.Output.{OfFiles, OfMade, Source, loaded_source}
use Rattle.dj_cli.specs.Run.{EndsSo}

-- a run that ends with a last line ends with a fault of the report only where the line was cut off
pub ends-report : (ended status : Status) (put cut R : Type 0) → OnReportFault (Ok status) R → (cut → R) → EndsSo ended status put cut → OnReportFault (Ok ended) R
ends-report ended status put cut R at_status of_cut (inl ends) = subst (λ s. OnReportFault (Ok s) R) (sym ends.0) at_status
ends-report ended status put cut R at_status of_cut (inr ends) = subst (λ s. OnReportFault (Ok s) R) (sym ends.0) (of_cut ends.1)

-- it counts a fault of the report only so
pub ends-calm : (ended status : Status) (P : Type 0) → (P → UnlessReportFault (Ok status) P) → EndsSo ended status P ⊤ → UnlessReportFault (Ok ended) P
ends-calm ended status P calm (inl ends) = subst (λ s. UnlessReportFault (Ok s) P) (sym ends.0) (calm ends.1)
ends-calm ended status P calm (inr ends) = subst (λ s. UnlessReportFault (Ok s) P) (sym ends.0) (tt, tt)

-- of one that ends so, or with a fault of the report, a fact of other ends holds
pub ends-read : (ended status : Status) (put cut P : Type 0) → UnlessReadFault (Ok status) P → EndsSo ended status put cut → UnlessReadFault (Ok ended) P
ends-read ended status put cut P at_status (inl ends) = subst (λ s. UnlessReadFault (Ok s) P) (sym ends.0) at_status
ends-read ended status put cut P at_status (inr ends) = subst (λ s. UnlessReadFault (Ok s) P) (sym ends.0) tt

-- what holds anyway holds of each end
ends-any : {P text report : Type 0} {Reads : ℕ → Type 0} (result : Result Status AllocError) → P → ((place : ℕ) → Reads place) → text → report → MatchEnd result P P (λ kind. P) Reads text report (λ place. P)
ends-any (Ok Clean) holds reads text report = holds
ends-any (Ok Refused) holds reads text report = holds
ends-any (Ok (Usage kind)) holds reads text report = holds
ends-any (Ok (ReadFault place)) holds reads text report = reads place
ends-any (Ok TextFault) holds reads text report = text
ends-any (Ok ReportFault) holds reads text report = report
ends-any (Ok (TooMuch place)) holds reads text report = holds
ends-any (Err error) holds reads text report = tt

stops-any : {P : Type 0} (result : Result Status AllocError) → P → OnErr result P
stops-any (Ok status) holds = tt
stops-any (Err error) holds = holds

pub read-calm : {P : Type 0} (result : Result Status AllocError) → P → UnlessReadFault result P
read-calm result holds = ends-any result holds (λ place. tt) holds tt

pub text-calm : {P : Type 0} (result : Result Status AllocError) → P → UnlessTextFault result P
text-calm result holds = (ends-any result holds (λ place. holds) tt holds, stops-any result holds)

pub report-calm : {P : Type 0} (result : Result Status AllocError) → P → UnlessReportFault result P
report-calm result holds = (ends-any result holds (λ place. holds) holds tt, stops-any result holds)

-- as many contents were loaded as there are names
as_many_contents : (contents : List (Vec ℕ Global)) (names : List (String Global)) → length contents ≡ length names → length (contents_of contents) ≡ length (map string_bytes names)
as_many_contents contents names same = length-map contents (λ (bytes : Vec ℕ Global). bytes.items) ∙ same ∙ sym (length-map names string_bytes)

-- so much was told of the files of an order, which were loaded and read
pub of_files : {held : Option Files} {list : Option (List ℕ)} {asked_old asked_new : Option (List (List ℕ))} (names : List (String Global)) (order : OrderFiles) (found : FoundFiles) (world : WorldOf) (Told : Source → Finds → WorldOf → Type 0)
    → AreLoaded held (map string_bytes names) list asked_old asked_new order → length order.named.items ≡ length names → length order.library.contents.items ≡ length order.library.paths.items → option_map string_bytes found.unread ≡ option_map string_bytes order.library.unread → map string_bytes found.paths.items ≡ paths_of order.library
    → MakesWorld (contents_of order.named.items) (contents_of order.library.contents.items) (finds_of found) world → Told (loaded_source (map string_bytes names)) (finds_of found) world → OfFiles held (map string_bytes names) list Told
of_files names order found world Told loaded number library unread paths makes told = record {
  found = finds_of found;
  world = world;
  setting = record {
    few = rw paths loaded.few;
    contents = contents_of order.named.items;
    listed = loaded.listed;
    library = contents_of order.library.contents.items;
    each_named = as_many_contents order.named.items names number;
    each_listed = as_many_contents order.library.contents.items order.library.paths.items library ∙ ap length (sym paths);
    are = rw paths loaded.are;
    lists = rw (unread, paths) loaded.lists;
    makes = makes;
  };
  told = told;
}

-- so many files were made, and each is what was found
pub made_setting : {number : ℕ} (files : OrderFiles) (found : FoundFiles) (world : WorldOf) → contents_of files.named.items ≡ made_contents number → files.library.unread ≡ None → paths_of files.library ≡ [] → files.library.contents.items ≡ []
    → option_map string_bytes found.unread ≡ option_map string_bytes files.library.unread → map string_bytes found.paths.items ≡ paths_of files.library → MakesWorld (contents_of files.named.items) (contents_of files.library.contents.items) (finds_of found) world
    → MadeSetting number (finds_of found) world
made_setting files found world named unread paths library same_unread same_paths makes = record {
  unread = same_unread ∙ ap (option_map string_bytes) unread;
  paths = same_paths ∙ paths;
  makes = rw (named, library) at makes;
}

-- so much was told of them, under their names
pub of_made : {number : ℕ} {found : Finds} {world : WorldOf} (names : List (List ℕ)) (Told : Source → Finds → WorldOf → Type 0) → names ≡ made_names number → MadeSetting number found world → Told (record { names = names; made = true }) found world → OfMade number Told
of_made names Told same setting told = record { found = _; world = _; setting = setting; told = rw same at told }

-- as many paths are found as the list has
pub as_many_paths : (found paths : List (String Global)) → map string_bytes found ≡ map string_bytes paths → length paths ≡ length found
as_many_paths found paths same = sym (length-map paths string_bytes) ∙ ap length (sym same) ∙ length-map found string_bytes

-- no name was asked: the first none of those that are due
asked_zero : (asked : Option (List (List ℕ))) → asked ≡ asked_with asked []
asked_zero None = refl
asked_zero (Some names) = ap Some (sym (append-nil names))

pub asks_none : (held : Option Files) (named : List (List ℕ)) (list : Option (List ℕ)) (asked : Option (List (List ℕ))) → OfDue held named list (AsksFront asked asked)
asks_none held named list asked = record {
  due = named ++ (option_to_list list ++ paths_by held list);
  is_due = due_behind held named list (paths_by held list) (are_listed held list);
  holds = (0, asked_zero asked);
}

-- what an answer says, in other words
module _ {P Q : Type 0} (then : P → Q) where
  pub clean-then : (result : Result Status AllocError) → OnClean result P → OnClean result Q
  clean-then (Ok Clean) told = then told
  clean-then (Ok Refused) told = told
  clean-then (Ok (Usage kind)) told = told
  clean-then (Ok (ReadFault place)) told = told
  clean-then (Ok TextFault) told = told
  clean-then (Ok ReportFault) told = told
  clean-then (Ok (TooMuch place)) told = told
  clean-then (Err error) told = told

  pub refused-then : (result : Result Status AllocError) → OnRefused result P → OnRefused result Q
  refused-then (Ok Clean) told = told
  refused-then (Ok Refused) told = then told
  refused-then (Ok (Usage kind)) told = told
  refused-then (Ok (ReadFault place)) told = told
  refused-then (Ok TextFault) told = told
  refused-then (Ok ReportFault) told = told
  refused-then (Ok (TooMuch place)) told = told
  refused-then (Err error) told = told

  pub text-then : (result : Result Status AllocError) → OnTextFault result P → OnTextFault result Q
  text-then (Ok Clean) told = told
  text-then (Ok Refused) told = told
  text-then (Ok (Usage kind)) told = told
  text-then (Ok (ReadFault place)) told = told
  text-then (Ok TextFault) told = then told
  text-then (Ok ReportFault) told = told
  text-then (Ok (TooMuch place)) told = told
  text-then (Err error) told = told

  pub report-then : (result : Result Status AllocError) → OnReportFault result P → OnReportFault result Q
  report-then (Ok Clean) told = told
  report-then (Ok Refused) told = told
  report-then (Ok (Usage kind)) told = told
  report-then (Ok (ReadFault place)) told = told
  report-then (Ok TextFault) told = told
  report-then (Ok ReportFault) told = then told
  report-then (Ok (TooMuch place)) told = told
  report-then (Err error) told = told

  pub err-then : (result : Result Status AllocError) → OnErr result P → OnErr result Q
  err-then (Ok status) told = told
  err-then (Err error) told = then told

-- an answer that doesn't come says anything
pub no-other : (result : Result Status AllocError) (Usages : UsageKind → Type 0) (Reads Much : ℕ → Type 0) → MatchEnd result ⊤ ⊤ (λ _. ⊥) (λ _. ⊥) ⊤ ⊤ (λ _. ⊥) → MatchEnd result ⊤ ⊤ Usages Reads ⊤ ⊤ Much
no-other (Ok Clean) Usages Reads Much none = none
no-other (Ok Refused) Usages Reads Much none = none
no-other (Ok (Usage kind)) Usages Reads Much none = absurd none
no-other (Ok (ReadFault place)) Usages Reads Much none = absurd none
no-other (Ok TextFault) Usages Reads Much none = none
no-other (Ok ReportFault) Usages Reads Much none = none
no-other (Ok (TooMuch place)) Usages Reads Much none = absurd none
no-other (Err error) Usages Reads Much none = none
