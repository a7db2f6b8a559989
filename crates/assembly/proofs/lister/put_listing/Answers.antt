use Rattle.std.proofs.Common.{◌≡◌, ◌∙◌, arith}
use Rattle.session_lines.proofs.Lengths.{front_long}
use Rattle.assembly.proofs.PutListings.{listing_long, listing_put, listing_room}
use Rattle.assembly.proofs.lister.put_listing.Goals as goal

pub put_lines-at-requires : goal.put_lines-at-requires
put_lines-at-requires c =
    omega (arith, front_long c.args.front.now c.told-front)

pub slice_bounds-list_words-count : goal.slice_bounds-list_words-count
slice_bounds-list_words-count c =
    let at : c.put_lines-at.result ≡ 148 = c.put_lines-at.ensures.value ∙ front_long c.args.front.now c.told-front in
    omega (arith, c.put_lines-at.auto.out)

pub slice_bounds-list_words-start : goal.slice_bounds-list_words-start
slice_bounds-list_words-start c =
    let at : c.put_lines-at.result ≡ 148 = c.put_lines-at.ensures.value ∙ front_long c.args.front.now c.told-front in
    omega (arith, c.put_lines-at.auto.out)

pub overflow_add-result : goal.overflow_add-result
overflow_add-result c =
    let a = c.args in
    omega (arith, listing_long a.front.now a.words.now c.told-front c.requires.words_len_bound c.requires.words_value a.out.now c.put_lines-at.new.out c.requires.in_bounds _ c.put_lines-at.ensures.value c.put_lines-at.ensures.out_after _ _ _ c.list_words-listed.ensures, listing_room a.front.now a.words.now c.told-front c.requires.words_len_bound)

pub returns-clause-value : goal.returns-clause-value
returns-clause-value c =
    let a = c.args in
    listing_long a.front.now a.words.now c.told-front c.requires.words_len_bound c.requires.words_value a.out.now c.put_lines-at.new.out c.requires.in_bounds _ c.put_lines-at.ensures.value c.put_lines-at.ensures.out_after _ _ _ c.list_words-listed.ensures

pub returns-clause-out_after : goal.returns-clause-out_after
returns-clause-out_after c =
    let a = c.args in
    listing_put a.front.now a.words.now c.told-front c.requires.words_len_bound c.requires.words_value a.out.now c.put_lines-at.new.out c.requires.in_bounds _ c.put_lines-at.ensures.value c.put_lines-at.ensures.out_after _ _ _ c.list_words-listed.ensures
