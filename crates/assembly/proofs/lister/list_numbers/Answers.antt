use Rattle.std.proofs.Common.{◌≡◌, arith, length}
use Rattle.assembly.specs.Listing.{defined_front}
use Rattle.assembly.proofs.Answers.{answer_refused, answer_text_lem, lendable, listed_defined, listed_undefined}
use Rattle.assembly.proofs.Listings.{front_within}
use Rattle.assembly.proofs.PutListings.{listing_room}
use Rattle.assembly.proofs.lister.list_numbers.Goals as goal

pub returns-then-defined-words-clause-out_after : goal.returns-then-defined-words-clause-out_after
returns-then-defined-words-clause-out_after c =
    let a = c.args in
    answer_refused _ _ _ (listed_undefined a.s.now a.front.now a.words.now _ _ c.defined_front-defined.ensures c.if-defined-words.true c.behind_lines.ensures)

pub put_listing-requires-clause-words_value : goal.put_listing-requires-clause-words_value
put_listing-requires-clause-words_value c =
    omega (arith, front_within c.args.words.now, c.defined_front-defined.ensures)

pub returns-clause-lendable_text : goal.returns-clause-lendable_text
returns-clause-lendable_text c =
    let a = c.args in
    lendable _ _ (omega (arith, c.put_listing.ensures.value, listing_room a.front.now a.words.now c.told-front c.requires.words_len_bound, c.put_listing.auto.out))

pub returns-clause-out_after : goal.returns-clause-out_after
returns-clause-out_after c =
    let a = c.args in
    let all : defined_front a.words.now ≡ length a.words.now = omega (arith, front_within a.words.now, c.defined_front-defined.ensures) in
    answer_text_lem _ _ _ _ _ (listed_defined a.s.now a.front.now a.words.now all) c.put_listing.ensures.value c.put_listing.ensures.out_after
