use Rattle.std.proofs.Common.{◌≡◌}
use Rattle.listing.specs.Writing.{written, so_far}
use Rattle.listing.proofs.Words.{leaves}
use Rattle.listing.proofs.list_words.Given as goal

abbrev pub invariant-loop-word : goal.invariant-loop-word
invariant-loop-word l =
    record {
      same_borrow : l.listing.out.ghost_name ≡ l.initial.listing.out.ghost_name;
      listed : so_far l.listing ≡ leaves (written l.fn.out 0 0) l.words l.word-index;
    }
