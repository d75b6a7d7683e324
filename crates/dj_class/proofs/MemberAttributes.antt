-- One more attribute of a member.
use Rattle.std.proofs.Common.{◌≡◌, ℕ, List, [], ◌∷◌, ◌++◌, Option, Some, None, false, is_some, codes, ap, ◌∙◌}
use Rattle.dj_layout.specs.Layout.{Spells, SpellsSome}
use Rattle.dj_names.specs.declared.members.Constant.{Constant}
use Rattle.dj_pool.specs.declared.raw.Attribute.{Attribute}
use Rattle.dj_pool.specs.declared.entry.Entry.{Entry}
use Rattle.dj_pool.specs.PoolFormat.{text_at}
use Rattle.dj_class.specs.FileFormat.{named, index_of, IsConstantValue, lawful_in_field}
use Rattle.dj_pool.specs.Attributes.{contents}
use Rattle.dj_class.specs.Described.{IsConstant}
use Rattle.dj_class.specs.FileParts.{HasConstantIndex, constant_at}
use Rattle.dj_pool.proofs.AttributeContents.{contents_named, contents_other}

-- the same contents, the same constant
same_contents : (pool : List Entry) (before after : List Attribute) (found : Option ℕ) → contents pool (codes "ConstantValue") after ≡ contents pool (codes "ConstantValue") before
    → HasConstantIndex pool before found → HasConstantIndex pool after found
same_contents pool before after None same has = same ∙ has
same_contents pool before after (Some index) same (content, one, is) = (content, same ∙ one, is)

-- an attribute that is no ConstantValue
pub field_other : (pool : List Entry) (descriptor : ℕ) (bytes rest : List ℕ) (this : Attribute) (found : Option ℕ) (before : List Attribute) → Spells (named pool) bytes this rest
    → (text_at pool this.name ≡ Some (codes "ConstantValue") → ⊥) → HasConstantIndex pool before found → SpellsSome (lawful_in_field pool descriptor before) (λ a now. HasConstantIndex pool (before ++ a ∷ []) now) bytes found rest
field_other pool descriptor bytes rest this found before spells other has = record {
  value = this;
  spells = record { fits = (spells.fits, record { first = λ is. absurd (other is); right = λ is. absurd (other is) }); text = spells.text };
  means = same_contents pool before (before ++ this ∷ []) found (contents_other pool (codes "ConstantValue") before this other) has;
}

none_before : (pool : List Entry) (before : List Attribute) (found : Option ℕ) → false ≡ is_some found → HasConstantIndex pool before found → contents pool (codes "ConstantValue") before ≡ []
none_before pool before None none has = has
none_before pool before (Some index) none has = absurd cc

-- the first ConstantValue
pub field_first : (pool : List Entry) (descriptor : ℕ) (bytes rest : List ℕ) (this : Attribute) (found : Option ℕ) (index : ℕ) (before : List Attribute) → Spells (named pool) bytes this rest
    → text_at pool this.name ≡ Some (codes "ConstantValue") → false ≡ is_some found → index ≡ index_of this.content → IsConstantValue pool descriptor this.content → HasConstantIndex pool before found
    → SpellsSome (lawful_in_field pool descriptor before) (λ a now. HasConstantIndex pool (before ++ a ∷ []) now) bytes (Some index) rest
field_first pool descriptor bytes rest this found index before spells is none index_is right has =
    let nothing = none_before pool before found none has in
    record {
      value = this;
      spells = record { fits = (spells.fits, record { first = λ _. nothing; right = λ _. right }); text = spells.text };
      means = (this.content, contents_named pool (codes "ConstantValue") before this is ∙ ap (λ (t : List (List ℕ)). t ++ this.content ∷ []) nothing, index_is);
    }

-- the constant that is found
pub constant_found : (pool : List Entry) (attributes : List Attribute) (found : Option ℕ) (constant : Option Constant) → HasConstantIndex pool attributes found → constant ≡ constant_at pool found
    → IsConstant pool (contents pool (codes "ConstantValue") attributes) constant
constant_found pool attributes None constant has is = rw has is
constant_found pool attributes (Some index) constant (content, one, index_is) is = rw one (is ∙ ap (λ (k : ℕ). constant_at pool (Some k)) index_is)
