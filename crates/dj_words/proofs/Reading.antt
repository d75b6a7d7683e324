-- From what `clap` answers to the order of the words.
use Rattle.std.proofs.Common.{◌≡◌, ◌≢◌, None, length, map, arith, ◌∙◌, ◌⊎◌, ℕ, Bool, true, false, List, [], ◌∷◌, Result, Ok, Err, refl, sym, ap, subst, inl, inr, ⊎_elim, alloc_error, if◌then◌else◌}
use Rattle.std.specs.Borrow.{Bor}
use Rattle.clap.specs.Kinds.{IsAmong, Kinds}
use Rattle.clap.specs.Walk.{Row, is_empty}
use Rattle.clap.specs.Simple.{is_simple}
use Rattle.clap.specs.Faults.{fault_of, is_simple_and_free}
use Rattle.clap.specs.declared.error.kind.ErrorKind.{ErrorKind}
use Rattle.clap.specs.declared.error.kind.ErrorKind.TheVariants.{OutOfMemory}
use Rattle.clap.proofs.SimpleLemmas.{is_nil}
use Rattle.std.proofs.lemmas.Bool.{ne_eqb}
use Rattle.clap.proofs.WalkLemmas.{first_value-rows, raw_values-rows}
use Rattle.dj_words.specs.declared.order.UsageKind.TheVariants.{Words}
use Rattle.dj_words.specs.declared.order.Order.{Order}
use Rattle.dj_words.specs.declared.order.WordsFault.{WordsFault}
use Rattle.dj_words.specs.declared.order.WordsFault.TheVariants.{Usage, Memory}
use Rattle.dj_words.specs.Command.{command, found, is_taken}
use Rattle.dj_words.specs.Orders.{Answers, asks_for_files, classes, order_in, order_of, raw, world}
use Rattle.dj_words.specs.Grammar.{TookWords}

-- what the getters answer, by the rows that were found
pub ruleset by_rows = (first_value-rows, raw_values-rows)

-- the command is one of which `clap` says exactly when it fails
pub its_free : is_simple_and_free command ≡ true
its_free = refl

-- .. and what it finds
pub its_simple : is_simple command ≡ true
its_simple = refl

-- words without a fault have the order of what was found
pub taken_order : (words : List (List ℕ)) (rows : List Row) (result : Result Order WordsFault) → fault_of command words ≡ [] → rows ≡ found words
    → Answers result (order_in rows) → Answers result (order_of words)
taken_order words rows result passes same h =
    let taken : is_taken words ≡ true = ap is_empty passes in
    let order : order_of words ≡ order_in rows = rw (taken, same) refl in
    subst (Answers result) (sym order) h

some_kind : (kinds : Kinds) (k : ErrorKind) → IsAmong k kinds → is_empty kinds ≡ false
some_kind [] k among = absurd among
some_kind (x ∷ xs) k among = ne_eqb (length (x ∷ xs)) 0 (λ e. absurd (omega arith))

-- words with a fault have none
pub refused_order : (words : List (List ℕ)) (k : ErrorKind) (why : WordsFault) → (k ≡ OutOfMemory) ⊎ IsAmong k (fault_of command words)
    → (k ≡ OutOfMemory → why ≡ Memory alloc_error) → (k ≢ OutOfMemory → why ≡ Usage Words) → Answers (Err why) (order_of words)
refused_order words k (Memory error) kinds memory refused = tt
refused_order words k (Usage kind) kinds memory refused =
    let differs : k ≢ OutOfMemory = λ e. let bad : Usage kind ≡ Memory alloc_error = memory e in cc in
    let among : IsAmong k (fault_of command words) = ⊎_elim (λ m. absurd (differs m)) (λ a. a) kinds in
    let isnt_taken : is_taken words ≡ false = some_kind (fault_of command words) k among in
    let same : Usage kind ≡ Usage Words = refused differs in
    let is_words : Words ≡ kind = cc in
    let order : order_of words ≡ Err Words = rw isnt_taken refl in
    order ∙ ap (λ found. Err found) is_words

-- words that are taken have no fault but want of memory
pub refused_taken : (words : List (List ℕ)) (k : ErrorKind) (why : WordsFault) → (k ≡ OutOfMemory) ⊎ IsAmong k (fault_of command words)
    → (k ≡ OutOfMemory → why ≡ Memory alloc_error) → is_taken words ≡ true → TookWords (Err why)
refused_taken words k why kinds memory taken =
    let none : fault_of command words ≡ [] = is_nil (fault_of command words) taken in
    let wants : k ≡ OutOfMemory = ⊎_elim (λ m. m) (λ among. absurd (subst (IsAmong k) none among)) kinds in
    subst (λ (w : WordsFault). TookWords (Err w)) (sym (memory wants)) tt

-- without CLASS words and `--world`, what asks for files is `--raw`
pub only_raw : (rows : List Row) (named : List (Bor (List ℕ))) (given : Bool) → map (λ word. word.now) named ≡ classes rows → length named ≡ 0 → world rows ≡ None
    → given ≡ raw rows → given ≡ asks_for_files rows
only_raw rows [] given named none no_world is_raw =
    let no_classes : classes rows ≡ [] = sym named in
    let same : asks_for_files rows ≡ raw rows = rw (no_classes, no_world) refl in
    is_raw ∙ sym same
only_raw rows (word ∷ rest) given named none no_world is_raw = absurd (omega arith)
