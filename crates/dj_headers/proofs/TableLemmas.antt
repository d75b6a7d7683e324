-- Tables, as places and headers come.
use Rattle.std.proofs.Common.{◌≡◌, ◌≢◌, ◌↔◌, ◌⊎◌, ℕ, List, [], ◌∷◌, ◌++◌, map, Some, None, refl, sym, ap, subst, inl, inr, ◌∙◌, arith}
use Rattle.std.proofs.lemmas.Option.{same_Some}
use Rattle.std.proofs.lemmas.List.{map-append}
use Rattle.dj_names.specs.declared.header.Header.{Header}
use Rattle.dj_names.specs.Headers.{Name, Implements}
use Rattle.dj_headers.specs.Rows.{IsSet, row_at, Opens}
use Rattle.dj_headers.specs.declared.places.Places.{Places}
use Rattle.dj_headers.specs.Table.{place_of, IsIndex, Extends, IsTable, IsParent, IsUp, AreTables, IsReady, bare}
use Rattle.dj_headers.proofs.RowLemmas.{none_empty, none_behind}
use Rattle.dj_headers.proofs.PathLemmas.{Implements-own, Implements-none, Implements-before, Implements-through, Implements-cases}

-- a table stays one as names gain places
pub IsTable-extends : (headers : List Header) (old new : Places) (rows : List (List ℕ)) → Extends old new → IsTable headers old rows → IsTable headers new rows
IsTable-extends headers old new rows extends table = record {
  sound = λ from to is_set. let r = table.sound from to is_set in
      record { lower = r.lower; upper = r.upper; lower_at = extends r.lower from r.lower_at; upper_at = extends r.upper to r.upper_at; reached = r.reached };
  whole = λ lower upper above. elim (table.whole lower upper above) [
    | inl same ↦ inl same
    | inr m ↦ inr (record { from = m.from; to = m.to; lower_at = extends lower m.from m.lower_at; upper_at = extends upper m.to m.upper_at; is_set = m.is_set })
  ];
}

-- and as a name's own bit is set
pub IsTable-opens : (headers : List Header) (places : Places) (name : Name) (at : ℕ) (old new : List (List ℕ)) → place_of places name ≡ Some at → Opens at old new → IsTable headers places old → IsTable headers places new
IsTable-opens headers places name at old new here opens table = record {
  sound = λ from to is_set. elim (opens.only from to is_set) [
    | inl before ↦ table.sound from to before
    | inr own ↦ record { lower = name; upper = name; lower_at = here ∙ ap Some (sym own.0); upper_at = here ∙ ap Some (sym own.1); reached = Implements-own headers name }
  ];
  whole = λ lower upper above. elim (table.whole lower upper above) [
    | inl same ↦ inl same
    | inr m ↦ inr (record { from = m.from; to = m.to; lower_at = m.lower_at; upper_at = m.upper_at; is_set = opens.kept m.from m.to m.is_set })
  ];
}

-- what the bit of two names says
pub marked : (headers : List Header) (places : Places) (rows : List (List ℕ)) (lower upper : Name) (from to : ℕ) → IsIndex places → IsTable headers places rows → lower ≢ upper
    → place_of places lower ≡ Some from → place_of places upper ≡ Some to → IsSet (row_at rows from) to ↔ Implements headers lower upper
marked headers places rows lower upper from to index table apart lower_at upper_at = (
  λ is_set.
      let r = table.sound from to is_set in
      let below : r.lower ≡ lower = index.one_name r.lower lower from r.lower_at lower_at in
      let above : r.upper ≡ upper = index.one_name r.upper upper to r.upper_at upper_at in
      subst (λ x. Implements headers x upper) below (subst (λ x. Implements headers r.lower x) above r.reached),
  λ reached. elim (table.whole lower upper reached) [
    | inl same ↦ absurd (apart same)
    | inr m ↦
        let one : m.from ≡ from = same_Some m.from from (sym m.lower_at ∙ lower_at) in
        let other : m.to ≡ to = same_Some m.to to (sym m.upper_at ∙ upper_at) in
        subst (λ i. IsSet (row_at rows i) to) one (subst (λ j. IsSet (row_at rows m.from) j) other m.is_set)
  ],
)

-- names without a place stand above no other, and below none
pub no_place_below : (headers : List Header) (places : Places) (rows : List (List ℕ)) (lower upper : Name) → IsTable headers places rows → lower ≢ upper → place_of places lower ≡ None → ¬ Implements headers lower upper
no_place_below headers places rows lower upper table apart none reached =
    elim (table.whole lower upper reached) [ inl same ↦ apart same | inr m ↦ (let e : None ≡ Some m.from = sym none ∙ m.lower_at in cc) ]

pub no_place_above : (headers : List Header) (places : Places) (rows : List (List ℕ)) (lower upper : Name) → IsTable headers places rows → lower ≢ upper → place_of places upper ≡ None → ¬ Implements headers lower upper
no_place_above headers places rows lower upper table apart none reached =
    elim (table.whole lower upper reached) [ inl same ↦ apart same | inr m ↦ (let e : None ≡ Some m.to = sym none ∙ m.upper_at in cc) ]

-- ---- what is above the parents of a header

-- nothing is above no names
pub IsUp-none : (headers : List Header) (P : Name → Type 0) (places : Places) → ((x : Name) → ¬ P x) → IsUp headers P places []
IsUp-none headers P places none = record {
  sound = λ at is_set. absurd (none_empty at is_set);
  whole = λ upper above. absurd (none above.parent above.is_parent);
}

pub IsUp-like : (headers : List Header) (P Q : Name → Type 0) (places : Places) (row : List ℕ) → ((x : Name) → P x ↔ Q x) → IsUp headers P places row → IsUp headers Q places row
IsUp-like headers P Q places row like up = record {
  sound = λ at is_set. let p = up.sound at is_set in
      record { upper = p.upper; upper_at = p.upper_at; reached = record { parent = p.reached.parent; is_parent = (like p.reached.parent).0 p.reached.is_parent; reached = p.reached.reached } };
  whole = λ upper above. up.whole upper (record { parent = above.parent; is_parent = (like above.parent).1 above.is_parent; reached = above.reached });
}

-- one more name: its row and its own bit
pub IsUp-join : (headers : List Header) (P : Name → Type 0) (places : Places) (rows : List (List ℕ)) (name : Name) (at : ℕ) (old new : List ℕ) → IsIndex places → IsTable headers places rows → place_of places name ≡ Some at
    → ((j : ℕ) → IsSet new j ↔ ((IsSet old j ⊎ IsSet (row_at rows at) j) ⊎ (j ≡ at))) → IsUp headers P places old → IsUp headers (λ x. P x ⊎ (x ≡ name)) places new
IsUp-join headers P places rows name at old new index table here bits up = record {
  sound = λ j is_set. elim ((bits j).0 is_set) [
    | inl either ↦ elim either [
      | inl before ↦ let p = up.sound j before in
          record { upper = p.upper; upper_at = p.upper_at; reached = record { parent = p.reached.parent; is_parent = inl p.reached.is_parent; reached = p.reached.reached } }
      | inr more ↦ let r = table.sound at j more in
          record { upper = r.upper; upper_at = r.upper_at; reached = record { parent = r.lower; is_parent = inr (index.one_name r.lower name at r.lower_at here); reached = r.reached } }
    ]
    | inr own ↦ record { upper = name; upper_at = here ∙ ap Some (sym own); reached = record { parent = name; is_parent = inr refl; reached = Implements-own headers name } }
  ];
  whole = λ upper above. elim above.is_parent [
    | inl before ↦ let i = up.whole upper (record { parent = above.parent; is_parent = before; reached = above.reached }) in
        record { at = i.at; upper_at = i.upper_at; is_set = (bits i.at).1 (inl (inl i.is_set)) }
    | inr same ↦ elim (table.whole name upper (subst (λ x. Implements headers x upper) same above.reached)) [
      | inl own ↦ record { at = at; upper_at = ap (place_of places) (sym own) ∙ here; is_set = (bits at).1 (inr refl) }
      | inr m ↦
          let one : m.from ≡ at = same_Some m.from at (sym m.lower_at ∙ here) in
          record { at = m.to; upper_at = m.upper_at; is_set = (bits m.to).1 (inl (inr (subst (λ i. IsSet (row_at rows i) m.to) one m.is_set))) }
    ]
  ];
}

-- ---- one more header

pub IsTable-raised : (headers : List Header) (header : Header) (places : Places) (at : ℕ) (old new : List (List ℕ)) (row : List ℕ) → IsIndex places → IsTable headers places old → place_of places header.name ≡ Some at
    → IsSet (row_at old at) at → IsUp headers (IsParent header.superclass header.interfaces) places row
    → ((i j : ℕ) → IsSet (row_at new i) j ↔ (IsSet (row_at old i) j ⊎ (IsSet (row_at old i) at × IsSet row j))) → IsTable (headers ++ header ∷ []) places new
IsTable-raised headers header places at old new row index table here own up bits = record {
  sound = λ from to is_set. elim ((bits from to).0 is_set) [
    | inl before ↦ let r = table.sound from to before in
        record { lower = r.lower; upper = r.upper; lower_at = r.lower_at; upper_at = r.upper_at; reached = Implements-before headers header r.lower r.upper r.reached }
    | inr through ↦
        let r = table.sound from at through.0 in
        let p = up.sound to through.1 in
        let named : r.upper ≡ header.name = index.one_name r.upper header.name at r.upper_at here in
        record {
          lower = r.lower;
          upper = p.upper;
          lower_at = r.lower_at;
          upper_at = p.upper_at;
          reached = Implements-through headers header r.lower p.upper (subst (λ x. Implements headers r.lower x) named r.reached) p.reached;
        }
  ];
  whole = λ lower upper above. elim (Implements-cases headers header lower upper above) [
    | inl before ↦ elim (table.whole lower upper before) [
      | inl same ↦ inl same
      | inr m ↦ inr (record { from = m.from; to = m.to; lower_at = m.lower_at; upper_at = m.upper_at; is_set = (bits m.from m.to).1 (inl m.is_set) })
    ]
    | inr through ↦
        let i = up.whole upper through.1 in
        elim (table.whole lower header.name through.0) [
          | inl same ↦ inr (record { from = at; to = i.at; lower_at = ap (place_of places) same ∙ here; upper_at = i.upper_at; is_set = (bits at i.at).1 (inr (own, i.is_set)) })
          | inr m ↦
              let one : m.to ≡ at = same_Some m.to at (sym m.upper_at ∙ here) in
              inr (record {
                from = m.from;
                to = i.at;
                lower_at = m.lower_at;
                upper_at = i.upper_at;
                is_set = (bits m.from i.at).1 (inr (subst (λ j. IsSet (row_at old m.from) j) one m.is_set, i.is_set));
              })
        ]
  ];
}

-- ---- both tables

pub IsTable-none : (places : Places) (rows : List (List ℕ)) → rows ≡ [] → IsTable [] places rows
IsTable-none places rows none = record {
  sound = λ from to is_set. absurd (none_behind [] from to (omega arith) (subst (λ (all : List (List ℕ)). IsSet (row_at all from) to) none is_set));
  whole = λ lower upper above. inl (Implements-none lower upper above);
}

pub AreTables-extends : (headers : List Header) (old new : Places) (above lines : List (List ℕ)) → Extends old new → (IsIndex old → IsIndex new) → AreTables headers old above lines → AreTables headers new above lines
AreTables-extends headers old new above lines extends index tables = record {
  index = index tables.index;
  above = IsTable-extends headers old new above extends tables.above;
  lines = IsTable-extends (map bare headers) old new lines extends tables.lines;
}

pub AreTables-open_above : (headers : List Header) (places : Places) (name : Name) (at : ℕ) (old new lines : List (List ℕ)) → place_of places name ≡ Some at → Opens at old new → AreTables headers places old lines → AreTables headers places new lines
AreTables-open_above headers places name at old new lines here opens tables =
    record { index = tables.index; above = IsTable-opens headers places name at old new here opens tables.above; lines = tables.lines }

pub AreTables-open_lines : (headers : List Header) (places : Places) (name : Name) (at : ℕ) (above old new : List (List ℕ)) → place_of places name ≡ Some at → Opens at old new → AreTables headers places above old → AreTables headers places above new
AreTables-open_lines headers places name at above old new here opens tables =
    record { index = tables.index; above = tables.above; lines = IsTable-opens (map bare headers) places name at old new here opens tables.lines }

-- a row's bits after a row was raised by what is above a place
abbrev pub IsRaised : ℕ → List ℕ → List (List ℕ) → List (List ℕ) → Type 0
IsRaised at row old new = (i j : ℕ) → IsSet (row_at new i) j ↔ (IsSet (row_at old i) j ⊎ (IsSet (row_at old i) at × IsSet row j))

pub AreTables-raised : (headers : List Header) (header : Header) (places : Places) (at : ℕ) (above above' lines lines' : List (List ℕ)) (all line : List ℕ) → IsReady headers header places at above lines all line
    → IsSet (row_at above at) at → IsSet (row_at lines at) at → IsRaised at all above above' → IsRaised at line lines lines' → AreTables (headers ++ header ∷ []) places above' lines'
AreTables-raised headers header places at above above' lines lines' all line ready own_above own_line raised raised_lines = record {
  index = ready.tables.index;
  above = IsTable-raised headers header places at above above' all ready.tables.index ready.tables.above ready.named own_above ready.all raised;
  lines = subst (λ (hs : List Header). IsTable hs places lines') (sym (map-append bare headers (header ∷ [])))
      (IsTable-raised (map bare headers) (bare header) places at lines lines' line ready.tables.index ready.tables.lines ready.named own_line ready.line raised_lines);
}
