-- Tables of the members of classes, as classes come and go.
use Rattle.std.proofs.Common.{◌≡◌, ℕ, ◌+◌, ◌<◌, ◌^◌, Bool, true, false, List, [], ◌∷◌, ◌++◌, map, Option, Some, None, MatchOption, slice_get, get_or, take, length, refl, sym, ap, subst, inl, inr, ◌∙◌, arith}
use Rattle.std.proofs.lemmas.List.{take_more, length_push}
use Rattle.std.proofs.lemmas.Option.{slice_get_within}
use Rattle.dj_names.specs.declared.members.ClassMembers.{ClassMembers}
use Rattle.dj_names.specs.declared.members.Member.{Member}
use Rattle.dj_names.specs.Headers.{Name}
use Rattle.dj_members.specs.declared.member_table.ClassTable.{ClassTable}
use Rattle.dj_members.specs.Tables.{field_names, method_names, member_names, names_in, IsListed, Lists, Grows, Covers, KeepsTables}
use Rattle.dj_members.proofs.ChainLemmas.{get-before, get-cases}

push_front : {A : Type 0} (xs ys : List A) (x y : A) → xs ++ x ∷ [] ≡ ys ++ y ∷ [] → xs ≡ ys
push_front [] [] x y is = refl
push_front [] (b ∷ []) x y is = absurd cc
push_front [] (b ∷ c ∷ ys) x y is = absurd cc
push_front (a ∷ []) [] x y is = absurd cc
push_front (a ∷ c ∷ xs) [] x y is = absurd cc
push_front (a ∷ xs) (b ∷ ys) x y is =
    let head : a ≡ b = cc in
    let rest : xs ++ x ∷ [] ≡ ys ++ y ∷ [] = cc in
    ap (λ z. z ∷ xs) head ∙ ap (λ zs. b ∷ zs) (push_front xs ys x y rest)

map-push : {A B : Type 0} (f : A → B) (xs : List A) (y : A) → map f (xs ++ y ∷ []) ≡ map f xs ++ f y ∷ []
map-push f [] y = refl
map-push f (x ∷ xs) y = ap (λ zs. f x ∷ zs) (map-push f xs y)

-- ---- a class that comes

module _ (classes : List ClassMembers) (tables : List ClassTable) (names more_names : List Name) (members more_members : List Member) (keeps : KeepsTables classes tables names members)
    (grows : Grows names members more_names more_members) where
  pub KeepsTables-grows : KeepsTables classes tables more_names more_members
  KeepsTables-grows = record {
    named = keeps.named;
    room = keeps.room;
    fits = keeps.fits;
    covers = λ member name is. grows.kept member name (keeps.covers member name is);
    size = grows.size;
  }

  module _ (class : ClassMembers) (table : ClassTable) (at : ℕ) (table_is : table ≡ names_in class) (at_is : at ≡ length classes)
      (fields : Lists at false (field_names class.fields) more_names more_members) (methods : Lists at true (method_names class.methods) more_names more_members)
      (room : length classes + 1 < 2 ^ 32) (fields_fit : length class.fields < 2 ^ 32) (methods_fit : length class.methods < 2 ^ 32) where
    lists : (method : Bool) → Lists at method (member_names method class) more_names more_members
    lists true = methods
    lists false = fields

    covers : Covers (classes ++ class ∷ []) more_names more_members
    covers member name is = elim (get-cases classes class member.class is.own is.class) [
      | inl before ↦ grows.kept member name (keeps.covers member name (record { own = is.own; class = before; named = is.named }))
      | inr last ↦
          subst (λ k. IsListed more_names more_members (record { class = k; method = member.method; number = member.number }) name) (at_is ∙ sym last.0)
          (lists member.method member.number name (ap (λ (o : ClassMembers). slice_get (member_names member.method o) member.number) last.1 ∙ is.named))
    ]

    fits : (k : ℕ) (own : ClassMembers) → slice_get (classes ++ class ∷ []) k ≡ Some own → (length own.fields < 2 ^ 32) × (length own.methods < 2 ^ 32)
    fits k own is = elim (get-cases classes class k own is) [
      | inl before ↦ keeps.fits k own before
      | inr last ↦ subst (λ (o : ClassMembers). (length o.fields < 2 ^ 32) × (length o.methods < 2 ^ 32)) last.1 (fields_fit, methods_fit)
    ]

    pub KeepsTables-push : KeepsTables (classes ++ class ∷ []) (tables ++ table ∷ []) more_names more_members
    KeepsTables-push = record {
      named = ap (λ ts. ts ++ table ∷ []) keeps.named ∙ ap (λ t. map names_in classes ++ t ∷ []) table_is ∙ sym (map-push names_in classes class);
      room = omega (arith, room, length_push classes class);
      fits = fits;
      covers = covers;
      size = grows.size;
    }

-- ---- a class that goes

abbrev pub IsPopped : {A : Type 0} → List A → List A → Option A → Type 0
IsPopped {A} old new last = MatchOption last ((old ≡ []) × (new ≡ [])) (λ (x : A). old ≡ new ++ x ∷ [])

tables_popped : (classes fewer : List ClassMembers) (tables less : List ClassTable) (last : Option ClassMembers) (last_table : Option ClassTable) → tables ≡ map names_in classes → IsPopped classes fewer last → IsPopped tables less last_table → less ≡ map names_in fewer
tables_popped classes fewer tables less None None named popped gone = gone.1 ∙ ap (map names_in) (sym popped.1)
tables_popped classes fewer tables less None (Some table) named popped gone =
    absurd (let e : length (less ++ table ∷ []) ≡ 0 = ap length (sym gone ∙ named ∙ ap (map names_in) popped.0) in omega (arith, e, length_push less table))
tables_popped classes fewer tables less (Some class) None named popped gone =
    absurd (let e : length (map names_in fewer ++ names_in class ∷ []) ≡ 0 = ap length (sym (map-push names_in fewer class) ∙ ap (map names_in) (sym popped) ∙ sym named ∙ gone.0) in omega (arith, e, length_push (map names_in fewer) (names_in class)))
tables_popped classes fewer tables less (Some class) (Some table) named popped gone =
    push_front less (map names_in fewer) table (names_in class) (sym gone ∙ named ∙ ap (map names_in) popped ∙ map-push names_in fewer class)

fewer_get : {A : Type 0} (old new : List A) (last : Option A) (k : ℕ) (x : A) → IsPopped old new last → slice_get new k ≡ Some x → slice_get old k ≡ Some x
fewer_get old new None k x popped is = ap (λ xs. slice_get xs k) (popped.0 ∙ sym popped.1) ∙ is
fewer_get old new (Some last) k x popped is = ap (λ xs. slice_get xs k) popped ∙ get-before new last k (slice_get_within new k x is) ∙ is

fewer_length : {A : Type 0} (old new : List A) (last : Option A) (most : ℕ) → IsPopped old new last → length old < most → length new < most
fewer_length old new None most popped within = omega (arith, within, ap length popped.0, ap length popped.1)
fewer_length old new (Some last) most popped within = omega (arith, within, ap length popped, length_push new last)

pub KeepsTables-pop : (classes fewer : List ClassMembers) (tables less : List ClassTable) (names : List Name) (members : List Member) (last : Option ClassMembers) (last_table : Option ClassTable)
    → KeepsTables classes tables names members → IsPopped classes fewer last → IsPopped tables less last_table → KeepsTables fewer less names members
KeepsTables-pop classes fewer tables less names members last last_table keeps popped gone = record {
  named = tables_popped classes fewer tables less last last_table keeps.named popped gone;
  room = fewer_length classes fewer last (2 ^ 32) popped keeps.room;
  fits = λ k own is. keeps.fits k own (fewer_get classes fewer last k own popped is);
  covers = λ member name is. keeps.covers member name (record { own = is.own; class = fewer_get classes fewer last member.class is.own popped is.class; named = is.named });
  size = keeps.size;
}

-- ---- loops over members

pub names_more : {A B : Type 0} (f : A → B) (xs : List A) (k : ℕ) (x : A) → k < length xs → x ≡ get_or xs k x → map f (take k xs) ++ f x ∷ [] ≡ map f (take (k + 1) xs)
names_more f xs k x within is =
    sym (map-push f (take k xs) x) ∙ ap (map f) (ap (λ z. take k xs ++ z ∷ []) is ∙ sym (take_more xs k x within))

-- what was pushed and popped is as before
pub popped_same : {A : Type 0} (old pushed popped : List A) (x : A) (last : Option A) → pushed ≡ old ++ x ∷ [] → IsPopped pushed popped last → old ≡ popped
popped_same old pushed popped x None push pop = absurd (let e : length (old ++ x ∷ []) ≡ 0 = ap length (sym push ∙ pop.0) in omega (arith, e, length_push old x))
popped_same old pushed popped x (Some last) push pop = push_front old popped x last (sym push ∙ pop)
