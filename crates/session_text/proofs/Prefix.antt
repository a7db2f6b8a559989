-- An input is judged by as many bytes as the longest good session has, and one more. Assumes nothing.
use Rattle.std.proofs.Common.{ℕ, List, ◌≤◌, ◌<◌, ◌≡◌, refl, sym, ap, ◌∙◌, take, arith}
use lib.Seq.{take_all}
use Rattle.session_lines.specs.Laws.{PrefixSays}
use Rattle.session_lines.proofs.Prefix.{prefix_says}
use Rattle.session_text.specs.Laws.{PrefixDecides, WhatWasReadIsAnInput}
use Rattle.session_text.specs.Session.{ReadOf, answer_text, text_for}

pub prefix_decides : PrefixDecides
unfolding PrefixDecides PrefixSays answer_text
prefix_decides s = ap text_for (prefix_says s)

-- what was read of an input is answered as the input
module _ (room : List ℕ) (n : ℕ) (input : List ℕ) (read : ReadOf room n input) where
  pub whole_read : n < 3733 → answer_text (take n room) ≡ answer_text input
  whole_read h = ap answer_text (sym (read.whole h))

  pub front_read : 3733 ≤ n → answer_text (take 3733 room) ≡ answer_text input
  unfolding PrefixDecides
  front_read h = prefix_decides room ∙ ap answer_text (sym (read.begun h)) ∙ prefix_decides input

pub what_was_read_is_an_input : WhatWasReadIsAnInput
unfolding WhatWasReadIsAnInput
what_was_read_is_an_input room n long =
    record {
      whole = λ h. refl;
      begun = λ h. rw (take_all n room (omega arith)) (take_all 3733 room (omega arith));
    }
