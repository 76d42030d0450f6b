use Rattle.marked_json.proofs.Grammar.{IsNumber-from_test, test_from_IsNumber}
use Rattle.marked_json.proofs.laws.numbers_are_those_of_the_grammar.Goals as goal

pub returns : goal.returns
returns c = λ token. (IsNumber-from_test token, test_from_IsNumber token)
