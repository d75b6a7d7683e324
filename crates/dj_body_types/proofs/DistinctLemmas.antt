-- The labels of groups, of which so many are done.
use Rattle.std.proofs.Common.{◌≡◌, ◌&&◌, ◌||◌, ℕ, ◌+◌, ◌<◌, ℤ, Bool, List, length, drop, get_or, Option, sym, ap, ◌∙◌}
use Rattle.dj_syntax.specs.declared.statement.Group as code_group
use Rattle.dj_syntax.specs.Trees.{view_groups}
use Rattle.dj_meaning.specs.Statements.{has_label}
use Rattle.dj_typed.specs.Switches.{labels_of, are_distinct}
use Rattle.dj_body_types.specs.Seen.{nothing, all_fresh}
use Rattle.dj_body_types.proofs.SeenLemmas.{and_assoc, fresh_alike, fresh_behind, distinct_is}
use Rattle.dj_body_types.proofs.GroupLemmas.{groups_more}

-- as the walk begins
pub distinct_begins : (seen : Option ℤ → Bool) (groups : List code_group.Group) → ((label : Option ℤ) → seen label ≡ nothing label)
    → all_fresh seen (labels_of (view_groups groups)) ≡ are_distinct (labels_of (view_groups groups))
distinct_begins seen groups none = fresh_alike seen nothing (labels_of (view_groups groups)) none ∙ distinct_is (labels_of (view_groups groups))

-- one group more
pub distinct_more : (before after : Option ℤ → Bool) (groups : List code_group.Group) (k : ℕ) (group : code_group.Group) (so_far fresh now whole : Bool) → k < length groups → group ≡ get_or groups k group
    → fresh ≡ all_fresh before group.labels → ((other : Option ℤ) → after other ≡ (has_label other group.labels || before other)) → now ≡ (so_far && fresh)
    → (so_far && all_fresh before (labels_of (view_groups (drop k groups)))) ≡ whole → (now && all_fresh after (labels_of (view_groups (drop (k + 1) groups)))) ≡ whole
distinct_more before after groups k group so_far fresh now whole inside is told seen both kept =
    ap (λ b. b && all_fresh after (labels_of (view_groups (drop (k + 1) groups)))) both
    ∙ ap (λ b. (so_far && b) && all_fresh after (labels_of (view_groups (drop (k + 1) groups)))) told
    ∙ ap (λ b. (so_far && all_fresh before group.labels) && b) (fresh_alike after (λ other. has_label other group.labels || before other) (labels_of (view_groups (drop (k + 1) groups))) seen)
    ∙ sym (and_assoc so_far (all_fresh before group.labels) (all_fresh (λ other. has_label other group.labels || before other) (labels_of (view_groups (drop (k + 1) groups)))))
    ∙ ap (λ b. so_far && b) (sym (fresh_behind before group.labels (labels_of (view_groups (drop (k + 1) groups)))))
    ∙ ap (λ some. so_far && all_fresh before (labels_of some)) (sym (groups_more groups k group inside is)) ∙ kept
