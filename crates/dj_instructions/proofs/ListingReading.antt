-- Reading a listing, instruction by instruction.
use Rattle.std.proofs.Common.{◌≡◌, ◌≢◌, ℕ, ◌+◌, ◌-◌, ◌<◌, ◌≤◌, ◌==◌, Result, Ok, Err, IfOk, Bool, true, false, List, [], ◌∷◌, ◌++◌, length, refl, sym, ap, ◌∙◌, arith, length-append, ne_eqb}
use Rattle.std.specs.List.{flat_map}
use Rattle.std.proofs.lemmas.List.{append-nil, map_push}
use Rattle.std.proofs.lemmas.List.Sums.{sum_by-cons}
use Rattle.std.proofs.lemmas.Bool.{false≢true}
use Rattle.std.proofs.lemmas.Bool.Decides.{nat_tests}
use Rattle.dj_layout.specs.declared.fault.Fault.{Fault}
use Rattle.dj_layout.specs.declared.fault.Stop.{Stop}
use Rattle.dj_layout.specs.declared.fault.Stop.TheVariants as stop
use Rattle.dj_layout.specs.Layout.{Layout, Spells, SpellsSome, Stops}
use Rattle.dj_layout.specs.Parts.{number}
use Rattle.dj_layout.specs.Whole.{Gives}
use Rattle.dj_layout.proofs.Sequences.{IsRead, read_none, read_more, read_stop, read_all}
use Rattle.dj_pool.specs.declared.entry.Entry.{Entry}
use Rattle.dj_instructions.specs.declared.kinds.BadKind.{BadKind}
use Rattle.dj_instructions.specs.declared.instruction.Instruction as declared
use Rattle.dj_instructions.specs.Instructions.{Instruction, Instructions, IsRising, IsRisingFrom, view_instruction, view_instructions}
use Rattle.dj_instructions.specs.RawInstructions.{Raw, spell_raw, size, opcode_of, form_of, behind, u1}
use Rattle.dj_instructions.specs.Listing.{Means, size_of, lawful_instruction, AreMeant, IsListing, HasBadInstruction, IsBad}
use Rattle.dj_instructions.specs.Listing.{IsRead as IsAnswered}
use Rattle.dj_instructions.proofs.RawIsExact.{spelled_alike}
use Rattle.dj_instructions.proofs.ListingIsOne.{one_listing, listing_has_no_fault, one_bad}

abbrev enough : ℕ → List Raw → Bool
enough n raws = size_of raws == n

abbrev next : List Entry → List Raw → Layout BadKind Raw
next pool before = lawful_instruction pool (size_of before)

-- ---- sizes

-- an opcode is one byte
one_byte : (op : ℕ) → length (u1.spell op) ≡ 1
unfolding number
one_byte op = refl

-- an instruction has a byte at least
pub size-some : (raw : Raw) → 1 ≤ size raw
size-some raw = omega (arith, length-append (u1.spell (opcode_of raw)) ((behind 0 (opcode_of raw) (form_of (opcode_of raw))).spell raw), one_byte (opcode_of raw))

-- instructions have as many bytes as their spelling
length-spelled : (raws : List Raw) → length (flat_map spell_raw raws) ≡ size_of raws
length-spelled [] = refl
length-spelled (raw ∷ raws) = omega (arith, length-append (spell_raw raw) (flat_map spell_raw raws), length-spelled raws, sum_by-cons size raw raws)

-- ---- whether anything is left

pub some_left : (rest : List ℕ) → false ≡ (length rest == 0) → 0 < length rest
some_left [] none = absurd cc
some_left (byte ∷ rest) none = omega arith

pub none_left : (rest : List ℕ) → true ≡ (length rest == 0) → rest ≡ []
none_left [] all = refl
none_left (byte ∷ rest) all = let some : (length (byte ∷ rest) == 0) ≡ false = ne_eqb (length (byte ∷ rest)) 0 (λ e. omega (arith, e)) in absurd (false≢true (sym some ∙ sym all))

-- ---- what is read

-- these instructions are read, and this rest is left
pub record IsFront (pool : List Entry) (n : ℕ) (bytes : List ℕ) (found : Instructions) (rest : List ℕ) : Type 0 where
  pub raws : List Raw
  pub read : IsRead spell_raw (enough n) (next pool) bytes raws rest
  pub meant : AreMeant pool 0 raws found

pub front_none : (pool : List Entry) (n : ℕ) (bytes : List ℕ) → IsFront pool n bytes [] bytes
front_none pool n bytes = record { raws = []; read = read_none spell_raw (enough n) (next pool) bytes; meant = tt }

-- how much is read and how much is left
parts : (pool : List Entry) (n : ℕ) (bytes : List ℕ) (found : Instructions) (rest : List ℕ) (front : IsFront pool n bytes found rest) → size_of front.raws + length rest ≡ length bytes
parts pool n bytes found rest front =
    let text = ap (λ (t : List ℕ). length t) front.read.text in
    omega (arith, text, length-append (flat_map spell_raw front.raws) rest, length-spelled front.raws)

-- one more instruction is meant
meant_more : (pool : List Entry) (pc at : ℕ) (raws : List Raw) (raw : Raw) (found : Instructions) (instruction : Instruction) → at ≡ pc + size_of raws → AreMeant pool pc raws found → Means pool at raw instruction
    → AreMeant pool pc (raws ++ raw ∷ []) (found ++ (at, instruction) ∷ [])
meant_more pool pc at [] raw [] instruction is are means = let here : at ≡ pc = omega arith in (here, rw here at means, tt)
meant_more pool pc at [] raw (x ∷ found) instruction is are means = absurd are
meant_more pool pc at (y ∷ raws) raw [] instruction is are means = absurd are
meant_more pool pc at (y ∷ raws) raw (x ∷ found) instruction is are means =
    (are.0, are.1, meant_more pool (pc + size y) at raws raw found instruction (omega (arith, sum_by-cons size y raws)) are.2 means)

-- one more instruction is read
pub front_more : (pool : List Entry) (n : ℕ) (bytes rest after : List ℕ) (found pushed : List (ℕ × declared.Instruction)) (pc : ℕ) (instruction : declared.Instruction) → length bytes ≡ n → 0 < length rest → pc ≡ n - length rest
    → IsFront pool n bytes (view_instructions found) rest → SpellsSome (lawful_instruction pool pc) (Means pool pc) rest (view_instruction instruction) after → pushed ≡ found ++ (pc, instruction) ∷ [] → IsFront pool n bytes (view_instructions pushed) after
front_more pool n bytes rest after found pushed pc instruction all some at front next_one is =
    let sizes = parts pool n bytes (view_instructions found) rest front in
    let here : pc ≡ size_of front.raws = omega arith in
    let few : (size_of front.raws == n) ≡ false = ne_eqb (size_of front.raws) n (λ e. omega (arith, e)) in
    let spells : Spells (next pool front.raws) rest next_one.value after = rw here at next_one.spells in
    let shown : view_instructions pushed ≡ view_instructions found ++ (pc, view_instruction instruction) ∷ [] = rw is (map_push (λ (x : ℕ × declared.Instruction). (x.0, view_instruction x.1)) found (pc, instruction)) in
    record {
      raws = front.raws ++ next_one.value ∷ [];
      read = read_more spell_raw (enough n) (next pool) bytes rest after front.raws next_one.value (spelled_alike (size_of front.raws) next_one.value) front.read few spells;
      meant = rw shown (meant_more pool 0 pc front.raws next_one.value (view_instructions found) (view_instruction instruction) (omega arith) front.meant next_one.means);
    }

-- the next instruction isn't there
pub front_stop : (pool : List Entry) (bytes rest : List ℕ) (found : Instructions) (pc : ℕ) (why : Stop BadKind) → 0 < length rest → pc ≡ length bytes - length rest → IsFront pool (length bytes) bytes found rest
    → Stops (lawful_instruction pool pc).Halts (length bytes) rest why → IsBad pool bytes why
front_stop pool bytes rest found pc stop.Memory some at front halts = tt
front_stop pool bytes rest found pc (stop.Fault fault) some at front halts =
    let sizes = parts pool (length bytes) bytes found rest front in
    let here : pc ≡ size_of front.raws = omega arith in
    let few : (size_of front.raws == length bytes) ≡ false = ne_eqb (size_of front.raws) (length bytes) (λ e. omega (arith, e)) in
    read_stop spell_raw (enough (length bytes)) (next pool) (length bytes) bytes rest front.raws (stop.Fault fault) front.read few (rw here at halts)

-- nothing is left
pub front_all : (pool : List Entry) (bytes rest : List ℕ) (found : Instructions) → IsFront pool (length bytes) bytes found rest → rest ≡ [] → IsListing pool bytes found
front_all pool bytes rest found front none =
    let sizes = parts pool (length bytes) bytes found rest front in
    let all : (size_of front.raws == length bytes) ≡ true = grind (arith, nat_tests, ap (λ (t : List ℕ). length t) none) in
    let spells = read_all spell_raw (enough (length bytes)) (next pool) bytes rest front.raws front.read all in
    record { raws = front.raws; spelled = record { fits = spells.fits; text = spells.text ∙ ap (λ (t : List ℕ). flat_map spell_raw front.raws ++ t) none ∙ append-nil (flat_map spell_raw front.raws) }; meant = front.meant }

-- less is left behind an instruction
pub shorter : (pool : List Entry) (pc : ℕ) (rest after : List ℕ) (instruction : Instruction) → SpellsSome (lawful_instruction pool pc) (Means pool pc) rest instruction after → length after < length rest
shorter pool pc rest after instruction one =
    let text = ap (λ (t : List ℕ). length t) (one.spells.text ∙ ap (λ (t : List ℕ). t ++ after) (spelled_alike pc one.value)) in
    omega (arith, text, length-append (spell_raw one.value) after, size-some one.value)

-- ---- the pcs rise

rises_from : (pool : List Entry) (least pc : ℕ) (raws : List Raw) (found : Instructions) → least ≤ pc → AreMeant pool pc raws found → IsRisingFrom least found
rises_from pool least pc [] [] le are = tt
rises_from pool least pc [] (x ∷ found) le are = absurd are
rises_from pool least pc (raw ∷ raws) [] le are = absurd are
rises_from pool least pc (raw ∷ raws) (x ∷ found) le are =
    (omega (arith, are.0), rises_from pool (x.0 + 1) (pc + size raw) raws found (omega (arith, are.0, size-some raw)) are.2)

-- the first instruction stands at 0, and each other one behind the one before it
pub listing_rises : (pool : List Entry) (code : List ℕ) (instructions : Instructions) → IsListing pool code instructions → IsRising instructions
listing_rises pool code instructions is = rises is.raws instructions is.meant
  where
    rises : (raws : List Raw) (found : Instructions) → AreMeant pool 0 raws found → IsRising found
    rises [] [] are = tt
    rises [] (x ∷ found) are = absurd are
    rises (raw ∷ raws) [] are = absurd are
    rises (raw ∷ raws) (x ∷ found) are = (are.0, rises_from pool 1 (0 + size raw) raws found (omega (arith, size-some raw)) are.2)

-- code without an instruction is empty
pub no_listing : (pool : List Entry) (code : List ℕ) (instructions : Instructions) → IsListing pool code instructions → instructions ≡ [] → length code ≡ 0
no_listing pool code instructions is none = ap (λ (t : List ℕ). length t) (is.spelled.text ∙ ap (flat_map spell_raw) (no_raws is.raws instructions is.meant none))
  where
    no_raws : (raws : List Raw) (found : Instructions) → AreMeant pool 0 raws found → found ≡ [] → raws ≡ []
    no_raws [] found are none = refl
    no_raws (raw ∷ raws) [] are none = absurd are
    no_raws (raw ∷ raws) (x ∷ found) are none = absurd cc

-- ---- what the answer of the reader says

pub value_given : (pool : List Entry) (code : List ℕ) (result : Result (List (ℕ × declared.Instruction)) (Stop BadKind)) → IsAnswered pool code result
    → (instructions : Instructions) → IsListing pool code instructions → Gives view_instructions result (Ok instructions)
value_given pool code (Ok found) reads instructions is = ap Ok (one_listing pool code instructions (view_instructions found) is reads)
value_given pool code (Err stop.Memory) reads instructions is = tt
value_given pool code (Err (stop.Fault fault)) reads instructions is = absurd (listing_has_no_fault pool code instructions fault is reads)

pub fault_given : (pool : List Entry) (code : List ℕ) (result : Result (List (ℕ × declared.Instruction)) (Stop BadKind)) → IsAnswered pool code result
    → (fault : Fault BadKind) → HasBadInstruction pool code fault → Gives view_instructions result (Err fault)
fault_given pool code (Ok found) reads fault has = absurd (listing_has_no_fault pool code (view_instructions found) fault reads has)
fault_given pool code (Err stop.Memory) reads fault has = tt
fault_given pool code (Err (stop.Fault other)) reads fault has = ap Err (one_bad pool code fault other has reads)

pub rising_given : (pool : List Entry) (code : List ℕ) (result : Result (List (ℕ × declared.Instruction)) (Stop BadKind)) → IsAnswered pool code result → IfOk result (λ found. IsRising (view_instructions found))
rising_given pool code (Ok found) reads = listing_rises pool code (view_instructions found) reads
rising_given pool code (Err why) reads = tt

pub some_given : (pool : List Entry) (code : List ℕ) (result : Result (List (ℕ × declared.Instruction)) (Stop BadKind)) → IsAnswered pool code result → IfOk result (λ found. length code ≢ 0 → found ≢ [])
some_given pool code (Ok found) reads = λ some none. some (no_listing pool code (view_instructions found) reads (ap view_instructions none))
some_given pool code (Err why) reads = tt
