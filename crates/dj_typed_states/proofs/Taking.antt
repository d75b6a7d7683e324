-- What a strict instruction takes is there, and what it gives is such as its row says.
use Rattle.std.proofs.Common.{◌≡◌, ℕ, ◌+◌, List, [], ◌∷◌, ◌++◌, length, map, Option, Some, None, refl, sym, ap, ◌∙◌, subst, arith}
use Rattle.std.proofs.lemmas.List.{length-append, length-map}
use Rattle.dj_names.specs.declared.header.Header.{Header}
use Rattle.dj_values.specs.Values.{Value}
use Rattle.dj_values.specs.Outcomes.{Reply, Gives, then_on}
use Rattle.dj_frames.specs.Frames.{Tag}
use Rattle.dj_tags.specs.Goes.{Assignability, reversed}
use Rattle.dj_tags.proofs.SlotLemmas.{length_reversed}
use Rattle.dj_code.specs.MethodCode.{Code}
use Rattle.dj_effects.specs.Works.{Want}
use Rattle.dj_effects.specs.Operands.{AreWanted, enough, there, under}
use Rattle.dj_effects.specs.Effects as effects
use Rattle.dj_bytecode.specs.Machine.{taken, pushed, strict, jumped}
use Rattle.dj_typed_states.specs.Facts.{Facts, AreKept}
use Rattle.dj_typed_states.specs.Held.{IsHeld, AllAre, none, more}
use Rattle.dj_typed_states.specs.Wanted.{IsMeant, Meets, met, top}
use Rattle.dj_typed_states.proofs.Replies.{Replies, replies-then}
use Rattle.dj_typed_states.proofs.Holding.{wanted_meant}

-- ---- what is taken

pub meets : {Goes : Assignability} {headers : List Header} {code : Code} {facts : Facts} (kept : AreKept Goes headers code facts) {wants : List Want} {tags : List Tag} {stack : List Value} → AreWanted Goes wants tags → AllAre (IsHeld facts) tags stack → Meets facts wants (under wants tags) stack
meets kept enough are = met are
meets kept (there {first} {top = found} is wanted) (more held are) = top (wanted_meant kept first found is held) (meets kept wanted are)

-- one more, where what lies below begins with a value that is wanted
pub meets_more : {facts : Facts} {wants : List Want} {found : Tag} {tags : List Tag} {stack : List Value} (want : Want) → ((value : Value) → IsHeld facts found value → IsMeant facts want value) → Meets facts wants (found ∷ tags) stack → Meets facts (wants ++ want ∷ []) tags stack
meets_more want f (met (more held are)) = top (f _ held) (met are)
meets_more want f (top is rest) = top is (meets_more want f rest)

-- wants in front of others, the last one first
abbrev pub onto : {A : Type 0} → List A → List A → List A
onto [] done = done
onto (first ∷ rest) done = onto rest (first ∷ done)

module _ {A : Type 0} (facts : Facts) (headers : List Header) (P : A → Type 0) (next : List Value → List Value → Reply A) where
  pub taken_replies : {wants : List Want} {tags : List Tag} {stack : List Value} (done : List Want) (values : List Value) → Meets facts wants tags stack → AllAre (IsMeant facts) done values
      → ((operands below : List Value) → AllAre (IsMeant facts) (onto wants done) operands → AllAre (IsHeld facts) tags below → Replies facts headers P (next operands below)) → Replies facts headers P (taken (length wants) values stack next)
  taken_replies done values (met are) all h = h values _ all are
  taken_replies done values (top {want} {value = value} is rest) all h = taken_replies (want ∷ done) (value ∷ values) rest (more is all) h

-- what was given is such
abbrev pub IsGiven : Facts → Option Tag → Option Value → Type 0
IsGiven facts None None = Unit {0}
IsGiven facts None (Some value) = ⊥
IsGiven facts (Some tag) None = ⊥
IsGiven facts (Some tag) (Some value) = IsHeld facts tag value

pub given_pushed : {facts : Facts} (gives : Option Tag) (given : Option Value) {tags : List Tag} {stack : List Value} → IsGiven facts gives given → AllAre (IsHeld facts) tags stack → AllAre (IsHeld facts) (effects.pushed gives tags) (pushed stack given)
given_pushed None None is are = are
given_pushed None (Some value) is are = absurd is
given_pushed (Some tag) None is are = absurd is
given_pushed (Some tag) (Some value) is are = more is are

-- a strict instruction, by what its operation gives
pub strict_replies : (facts : Facts) (headers : List Header) (wants : List Want) (gives : Option Tag) {tags : List Tag} {stack : List Value} (count : ℕ) (operation : List Value → Reply (Option Value)) → count ≡ length wants → Meets facts wants tags stack
    → ((operands : List Value) → AllAre (IsMeant facts) (onto wants []) operands → Replies facts headers (IsGiven facts gives) (operation operands)) → Replies facts headers (AllAre (IsHeld facts) (effects.pushed gives tags)) (strict count operation stack)
strict_replies facts headers wants gives {tags} {stack} count operation many meet h =
    subst (λ n. Replies facts headers (AllAre (IsHeld facts) (effects.pushed gives tags)) (strict n operation stack)) (sym many)
    (taken_replies facts headers (AllAre (IsHeld facts) (effects.pushed gives tags)) (λ operands below. then_on (operation operands) (λ given. Gives (pushed below given))) [] [] meet none
    (λ operands below all are. replies-then facts headers (IsGiven facts gives) (AllAre (IsHeld facts) (effects.pushed gives tags)) (operation operands) (λ given. Gives (pushed below given)) (h operands all) (λ given is. given_pushed gives given is are)))

-- a jump, by where its choice leads
pub jumped_replies : (facts : Facts) (headers : List Header) (wants : List Want) (Leads : Option ℕ → Type 0) {tags : List Tag} {stack : List Value} (count : ℕ) (choice : List Value → Reply (Option ℕ)) → count ≡ length wants → Meets facts wants tags stack
    → ((operands : List Value) → AllAre (IsMeant facts) (onto wants []) operands → Replies facts headers Leads (choice operands)) → Replies facts headers (λ led. Leads led.0 × AllAre (IsHeld facts) tags led.1) (jumped count choice stack)
jumped_replies facts headers wants Leads {tags} {stack} count choice many meet h =
    subst (λ n. Replies facts headers (λ led. Leads led.0 × AllAre (IsHeld facts) tags led.1) (jumped n choice stack)) (sym many)
    (taken_replies facts headers (λ led. Leads led.0 × AllAre (IsHeld facts) tags led.1) (λ operands below. then_on (choice operands) (λ target. Gives (target, below))) [] [] meet none
    (λ operands below all are. replies-then facts headers Leads (λ led. Leads led.0 × AllAre (IsHeld facts) tags led.1) (choice operands) (λ target. Gives (target, below)) (h operands all) (λ target leads. (leads, are))))

-- ---- arguments, of which the last is on top

onto_append : {A : Type 0} (front back done : List A) → onto (front ++ back) done ≡ onto back (onto front done)
onto_append [] back done = refl
onto_append (first ∷ front) back done = onto_append front back (first ∷ done)

onto_reversed : {A : Type 0} (list done : List A) → onto (reversed list) done ≡ list ++ done
onto_reversed [] done = refl
onto_reversed (first ∷ list) done = onto_append (reversed list) (first ∷ []) done ∙ ap (λ l. first ∷ l) (onto_reversed list done)

-- arguments with a receiver below them, in the order in which they were pushed
pub onto_call : {A : Type 0} (list : List A) (receiver : A) → onto (reversed list ++ receiver ∷ []) [] ≡ receiver ∷ (list ++ [])
onto_call list receiver = onto_append (reversed list) (receiver ∷ []) [] ∙ ap (λ l. receiver ∷ l) (onto_reversed list [])

pub onto_arguments : {A : Type 0} (list : List A) → onto (reversed list ++ []) [] ≡ list ++ []
onto_arguments list = onto_append (reversed list) [] [] ∙ onto_reversed list []

pub arguments_many : {A B : Type 0} (f : A → B) (list : List A) (below : List B) → length list + length below ≡ length (reversed (map f list) ++ below)
arguments_many f list below =
    let all = length-append (reversed (map f list)) below in
    let turned = length_reversed (map f list) in
    let many = length-map list f in omega arith
