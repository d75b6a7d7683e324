-- Units shown one after another, and put so.
use Rattle.std.proofs.Common.{◌≡◌, ℕ, zero, suc, ◌+◌, ◌<◌, List, [], ◌∷◌, ◌++◌, Option, Result, Ok, Err, length, get_or, replicate, take, drop, take-append-drop, refl, sym, ap, ◌∙◌, append_assoc, codes}
use Rattle.std.specs.List.{flat_map}
use Rattle.std.proofs.lemmas.List.{drop_more}
use Rattle.std.proofs.lemmas.List.Concat.{flat_map-append}
use Rattle.dj_outer.specs.declared.files.Failed.{Failed}
use Rattle.dj_outer.specs.Sink.{Puts}
use Rattle.dj_outer.proofs.PutsLemmas.{puts-as, puts-stop, puts-then}
use Rattle.dj_names.specs.declared.types.JType.{JType}
use Rattle.dj_names.specs.declared.types.JType.TheFolds.{fold-roll-JType}
use Rattle.dj_names.specs.declared.types.JType.TheOpen as layer
use Rattle.dj_names.specs.declared.types.JType.TheVariants as variants
use Rattle.dj_names.specs.Types as types
use Rattle.dj_names.specs.Types.{type_layer, view_type, view_types}
use Rattle.dj_names.specs.Descriptors.{spell_type}
use Rattle.dj_names.specs.Shown.{show_unit, show_units}

-- units and then others
pub show-then : (first second : List ℕ) → show_units (first ++ second) ≡ show_units first ++ show_units second
show-then first second = flat_map-append show_unit first second

-- brackets are shown as they are
show-brackets : (count : ℕ) → show_units (replicate count 91) ≡ replicate count 91
show-brackets zero = refl
show-brackets (suc count) = ap (λ rest. 91 ∷ rest) (show-brackets count)

-- and then others
pub show-behind : (count : ℕ) (units rest : List ℕ) → units ≡ replicate count 91 ++ rest → replicate count 91 ++ show_units rest ≡ show_units units
show-behind count units rest is =
    ap (λ front. front ++ show_units rest) (sym (show-brackets count)) ∙ sym (show-then (replicate count 91) rest) ∙ ap show_units (sym is)

-- a class's descriptor is shown by its name
pub show-class : (name : List ℕ) → codes "L" ++ show_units name ++ codes ";" ≡ show_units (codes "L" ++ name ++ codes ";")
show-class name = sym (show-then (codes "L" ++ name) (codes ";") ∙ ap (λ front. front ++ codes ";") (show-then (codes "L") name))

-- an array's descriptor is shown by its element's
pub show-array : (element : JType) → show_units (spell_type (types.Array (view_type element))) ≡ show_units (spell_type (view_type (variants.Array element)))
show-array element =
    sym (ap (λ kind. show_units (spell_type kind)) (ap view_type (sym (variants.rolls-Array element)) ∙ fold-roll-JType types.JType type_layer (layer.Array element)))

-- types are shown one by one
show-types : (kinds : List JType) → show_units (flat_map spell_type (view_types kinds)) ≡ flat_map (λ kind. show_units (spell_type (view_type kind))) kinds
show-types [] = refl
show-types (kind ∷ kinds) =
    show-then (spell_type (view_type kind)) (flat_map spell_type (view_types kinds)) ∙ ap (λ rest. show_units (spell_type (view_type kind)) ++ rest) (show-types kinds)

-- a method's descriptor is shown by its parts
pub show-method : (parameters result : List ℕ) → codes "(" ++ show_units parameters ++ codes ")" ++ show_units result ≡ show_units (codes "(" ++ parameters ++ codes ")" ++ result)
show-method parameters result =
    sym (show-then (codes "(" ++ parameters ++ codes ")") result ∙ ap (λ front. front ++ show_units result) (show-then (codes "(" ++ parameters) (codes ")") ∙ ap (λ front. front ++ codes ")") (show-then (codes "(") parameters)))

-- ---- items put one by one

-- what items come to: those in front of a place, the one there, and those behind it
pub parts-at : {X : Type 0} (f : X → List ℕ) (items : List X) (i : ℕ) (item : X) → i < length items → item ≡ get_or items i item → flat_map f (take i items) ++ f item ++ flat_map f (drop (i + 1) items) ≡ flat_map f items
parts-at f items i item inside is =
    let rest : drop i items ≡ item ∷ drop (i + 1) items = drop_more items i item inside ∙ ap (λ one. one ∷ drop (i + 1) items) (sym is) in
    append_assoc (flat_map f (take i items)) (f item) (flat_map f (drop (i + 1) items)) ∙ ap (λ back. flat_map f (take i items) ++ flat_map f back) (sym rest) ∙ sym (flat_map-append f (take i items) (drop i items)) ∙ ap (flat_map f) (take-append-drop i items)

-- the same of types
pub types-at : (kinds : List JType) (i : ℕ) (kind : JType) → i < length kinds → kind ≡ get_or kinds i kind
    → show_units (flat_map spell_type (view_types (take i kinds))) ++ show_units (spell_type (view_type kind)) ++ flat_map (λ kind. show_units (spell_type (view_type kind))) (drop (i + 1) kinds) ≡ show_units (flat_map spell_type (view_types kinds))
types-at kinds i kind inside is =
    ap (λ front. front ++ show_units (spell_type (view_type kind)) ++ flat_map (λ kind. show_units (spell_type (view_type kind))) (drop (i + 1) kinds)) (show-types (take i kinds))
    ∙ parts-at (λ kind. show_units (spell_type (view_type kind))) kinds i kind inside is ∙ sym (show-types kinds)

-- ---- units put a few at a time

-- the units in front of the rest were put
pub record PutBefore (units rest : List ℕ) (taken_old taken_new : Option (List ℕ)) (faults_old faults_new : ℕ) : Type 0 where
  pub done : List ℕ
  pub split : units ≡ done ++ rest
  pub puts : Puts (Ok tt) taken_old taken_new faults_old faults_new (show_units done)

-- units are those in front, a few of the rest, and those behind them
split-few : (units done rest : List ℕ) (few : ℕ) → units ≡ done ++ rest → units ≡ done ++ take few rest ++ drop few rest
split-few units done rest few split =
    split ∙ ap (λ back. done ++ back) (sym (take-append-drop few rest)) ∙ sym (append_assoc done (take few rest) (drop few rest))

module _ {units rest : List ℕ} {old between new : Option (List ℕ)} {before amid after : ℕ} (put : PutBefore units rest old between before amid) (few : ℕ) where
  -- and a few more
  pub put-more : {done : Unit {0}} → Puts (Ok done) between new amid after (show_units (take few rest)) → PutBefore units (drop few rest) old new before after
  put-more puts = record {
    done = put.done ++ take few rest;
    split = split-few units put.done rest few put.split;
    puts = puts-as (sym (show-then put.done (take few rest))) (puts-then put.puts puts);
  }

  -- a few more could not be put
  pub put-stop : {result : Result (Unit {0}) Failed} {fault other : Failed} → result ≡ Err other → Puts (Err fault) between new amid after (show_units (take few rest)) → Puts result old new before after (show_units units)
  put-stop is puts =
      puts-as (sym (ap show_units (split-few units put.done rest few put.split) ∙ show-then (put.done ++ take few rest) (drop few rest) ∙ ap (λ front. front ++ show_units (drop few rest)) (show-then put.done (take few rest))))
      (puts-stop is (show_units (drop few rest)) (puts-then put.puts puts))
