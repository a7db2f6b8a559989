use Rattle.std.proofs.Common.{sym, ap, ◌∙◌, refl, get_or}
use Rattle.listing.specs.Codes.{list_code}
use Rattle.listing.specs.Writing.{Written, written, listed_at}
use Rattle.listing.proofs.Words.{leaves_none, leaves_one}
use Rattle.listing.proofs.list_words.Goals as goal

pub loop-word-init : goal.loop-word-init
loop-word-init c =
    let e = c.new-listing.ensures in
    record {
      same_borrow = refl;
      listed = (λ i. written (e.0 i).now (e.1 i) (list_code (e.2 i))) ∙ sym (leaves_none (written c.args.out.now 0 0) c.args.words.now);
    }

pub loop-word-preserved : goal.loop-word-preserved
loop-word-preserved c =
    let e = c.list.ensures in
    let words = c.args.words.now in
    let i = c.loop-word.word-index in
    record {
      same_borrow = e.same_borrow ∙ c.loop-word.invariant.same_borrow;
      listed = e.listed ∙ ap (λ (v : Written). listed_at v.bytes v.at (get_or words i 0)) c.loop-word.invariant.listed
          ∙ leaves_one (written c.args.out.now 0 0) words i c.loop-word-test.true;
    }
