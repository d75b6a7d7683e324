use Rattle.std.proofs.Common.{◌≢◌, [], sym, ◌∙◌}
use Rattle.std.proofs.lemmas.Bool.{both_ways}
use Rattle.dj_statements.proofs.StatementSteps.{ends_in_no_brace}
use Rattle.dj_statements.proofs.statements.Body.is_ended_by.Goals as goal

pub returns-else-is_empty : goal.returns-else-is_empty
returns-else-is_empty c =
    let outer = c.args.self.now.lists.outer in
    let some : outer ≢ [] = λ none. both_ways c.is_empty.result c.if-is_empty.false (c.is_empty.ensures.1 none) in
    record { ends = c.if-is_empty.false ∙ sym (ends_in_no_brace outer c.args.word.now some) }
