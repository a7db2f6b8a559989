use Rattle.std.proofs.Common.{ℕ, Option, unwrap_or, length, rules, tests, ap, ◌∙◌}
use Rattle.std.proofs.lemmas.Iterator.{YieldsList-from_slice}
use Rattle.std.proofs.lemmas.Iterator.Search.{position_from_yields_List}
use Rattle.std.proofs.lemmas.Iterator.Adapters.{position_from-zero}
use Rattle.assembly.proofs.Listings.{Undefined, front_found}
use Rattle.assembly.proofs.lister.defined_front.Goals as goal

pub returns : goal.returns
returns c =
    let ws = c.args.words.now in
    let found = position_from_yields_List Undefined _ _ c.position.result c.position.ensures.ran (YieldsList-from_slice ws cc) (λ x b q k. search (rules, tests)) ∙ position_from-zero Undefined ws in
    c.unwrap_or.ensures ∙ ap (λ (r : Option ℕ). unwrap_or r (length ws)) found ∙ front_found ws
