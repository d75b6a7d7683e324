-- What headers want, as they are read one by one and as one comes.
use Rattle.std.proofs.Common.{◌≡◌, ◌↔◌, ℕ, ◌+◌, ◌<◌, ◌≤◌, List, [], ◌∷◌, ◌++◌, Any, Contains, length, take, drop, get_or, IsTrue, refl, sym, ap, subst, inl, inr, ◌∙◌, arith}
use Rattle.std.specs.List.{list_any}
use Rattle.std.specs.Ordering.{nat_cmp}
use Rattle.std.specs.Cmp.Lexicographic.{slice_cmp}
use Rattle.std.specs.BTreeMap.{is_at}
use Rattle.std.specs.BTreeSet.{BTreeSet}
use Rattle.std.proofs.lemmas.Bool.{false≢true}
use Rattle.std.proofs.lemmas.List.{take-append-le, take-append-drop, take_all, length_push}
use Rattle.std.proofs.lemmas.List.Elements.{Contains-append_left}
use Rattle.dj_names.specs.declared.header.Header.{Header}
use Rattle.dj_names.specs.Headers.{Name}
use Rattle.dj_headers.proofs.PathLemmas.{Any-before}
use Rattle.dj_world.specs.Learning.{Has, Learns, LearnsSome}
use Rattle.dj_world.specs.Wanting.{WantsAsSuperclass, WantsAsInterface, KnowsSome, KeepsWanted, KnowsAll}
use Rattle.dj_world.specs.declared.wanted.Wanted.{Wanted}
use Rattle.dj_world.proofs.LearningLemmas.{one_more}

-- ---- lists of names

pub contains_any : (names : List Name) (name : Name) → Any (λ other. other ≡ name) names ↔ Contains names name
contains_any names name = (λ some. subst (Contains names) some.4 (some.0, some.2, some.3), λ there. (there.0, name, there.1, there.2, refl))

-- ---- one header more

module _ (Wants : Name → Header → Type 0) where
  pub knows_none : (known : BTreeSet Name) → known.keys ≡ [] → KnowsSome Wants [] 0 known
  knows_none known none = record {
    sound = λ name has. absurd (false≢true (subst (λ (ks : List Name). IsTrue (list_any (is_at (slice_cmp nat_cmp name)) ks)) none has));
    whole = λ name some. (let within = some.2 in absurd (omega arith));
  }

  module _ (headers : List Header) (read : ℕ) (known : BTreeSet Name) (knows : KnowsSome Wants headers read known) where
    -- a header that comes behind those that were read
    pub knows_more : (header : Header) → read ≤ length headers → KnowsSome Wants (headers ++ header ∷ []) read known
    knows_more header within = record {
      sound = λ name has. Any-before (Wants name) headers header (knows.sound name has);
      whole = λ name some. knows.whole name (subst (Any (Wants name)) (take-append-le read headers (header ∷ []) within) some);
    }

    -- the next header told some of what it wants
    pub knows_some : (header : Header) (more : BTreeSet Name) → read < length headers → header ≡ get_or headers read header → LearnsSome known more (λ name. Wants name header) → KnowsSome Wants headers read more
    knows_some header more within is some = record {
      sound = λ name has. elim (some.only name has) [ inl had ↦ knows.sound name had | inr wants ↦ (read, header, within, sym is, wants) ];
      whole = λ name before. some.kept name (knows.whole name before);
    }

    -- the next header told all that it wants
    pub knows_next : (header : Header) (more : BTreeSet Name) → read < length headers → header ≡ get_or headers read header → Learns known more (λ name. Wants name header) → KnowsSome Wants headers (read + 1) more
    knows_next header more within is learns = record {
      sound = λ name has. elim ((learns.each name).0 has) [ inl had ↦ knows.sound name had | inr wants ↦ (read, header, within, sym is, wants) ];
      whole = λ name some. (learns.each name).1 (elim ((one_more Wants headers read header name within is).1 some) [ inl before ↦ inl (knows.whole name before) | inr here ↦ inr here ]);
    }

    -- all were read
    pub knows_all : length headers ≤ read → (name : Name) → Has known name ↔ Any (Wants name) headers
    knows_all past name = (knows.sound name, λ some. knows.whole name (subst (Any (Wants name)) (sym (take_all read headers past)) some))

-- ---- both sets

module _ (headers : List Header) (wanted : Wanted) (keeps : KeepsWanted headers wanted) where
  pub keeps_more : (header : Header) → KeepsWanted (headers ++ header ∷ []) wanted
  keeps_more header = record {
    superclasses = knows_more WantsAsSuperclass headers wanted.read wanted.superclasses keeps.superclasses header keeps.within;
    interfaces = knows_more WantsAsInterface headers wanted.read wanted.interfaces keeps.interfaces header keeps.within;
    within = omega (arith, keeps.within, length_push headers header);
  }

  pub keeps_all : length headers ≤ wanted.read → KnowsAll headers wanted
  keeps_all past = record {
    superclasses = knows_all WantsAsSuperclass headers wanted.read wanted.superclasses keeps.superclasses past;
    interfaces = knows_all WantsAsInterface headers wanted.read wanted.interfaces keeps.interfaces past;
  }

  -- the header that is read
  module _ (at : ℕ) (header : Header) (superclasses interfaces : BTreeSet Name) (next : wanted.read ≡ at) (within : at < length headers) (is : header ≡ get_or headers at header) where
    there : header ≡ get_or headers wanted.read header
    there = is ∙ ap (λ k. get_or headers k header) (sym next)

    pub keeps_some : LearnsSome wanted.superclasses superclasses (λ name. WantsAsSuperclass name header) → LearnsSome wanted.interfaces interfaces (λ name. WantsAsInterface name header)
        → KeepsWanted headers (record { superclasses = superclasses; interfaces = interfaces; read = wanted.read })
    keeps_some some_super some_listed = record {
      superclasses = knows_some WantsAsSuperclass headers wanted.read wanted.superclasses keeps.superclasses header superclasses (omega (arith, next, within)) there some_super;
      interfaces = knows_some WantsAsInterface headers wanted.read wanted.interfaces keeps.interfaces header interfaces (omega (arith, next, within)) there some_listed;
      within = keeps.within;
    }

    pub keeps_next : Learns wanted.superclasses superclasses (λ name. WantsAsSuperclass name header) → Learns wanted.interfaces interfaces (λ name. WantsAsInterface name header)
        → KeepsWanted headers (record { superclasses = superclasses; interfaces = interfaces; read = at + 1 })
    keeps_next all_super all_listed = subst (λ n. KeepsWanted headers (record { superclasses = superclasses; interfaces = interfaces; read = n + 1 })) next (record {
      superclasses = knows_next WantsAsSuperclass headers wanted.read wanted.superclasses keeps.superclasses header superclasses (omega (arith, next, within)) there all_super;
      interfaces = knows_next WantsAsInterface headers wanted.read wanted.interfaces keeps.interfaces header interfaces (omega (arith, next, within)) there all_listed;
      within = (let e : wanted.read + 1 ≤ length headers = omega (arith, next, within) in e);
    })

-- ---- a loop over interfaces

module _ (names : List Name) (at : ℕ) where
  pub taken_in : (name : Name) → Any (λ other. other ≡ name) (take at names) → Contains names name
  taken_in name some = subst (λ (ns : List Name). Contains ns name) (take-append-drop at names) (Contains-append_left (take at names) (drop at names) name ((contains_any (take at names) name).0 some))

  pub item_in : (item name : Name) → at < length names → item ≡ get_or names at item → item ≡ name → Contains names name
  item_in item name within is same = subst (Contains names) same (at, within, sym is)
