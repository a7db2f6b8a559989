-- `session_text::answer` meets its contract: of what was read, so much is looked at that it decides. Assumes nothing.
use Rattle.std.proofs.Common.{ℕ, List, ◌≤◌, ◌<◌, ◌≡◌, ap, ◌∙◌, arith, length, take}
use mathlib.Core.Logic.{⊎_elim}
use lib.Seq.{sets}
use Rattle.std.proofs.lemmas.Bool.{cases_lt}
use Rattle.session_text.specs.Session.{ReadOf, answer_text}
use Rattle.session_text.proofs.Prefix.{front_read, whole_read}
use Rattle.session_text.proofs.answer.Goals as goal

-- so many bytes decide
same : (n read : ℕ) (room input : List ℕ) → (read < 3733 → n ≡ read) → (3733 ≤ read → n ≡ 3733) → ReadOf room read input
    → answer_text (take n room) ≡ answer_text input
same n read room input few many reads =
    ⊎_elim
    (λ h. rw (few h) (whole_read room read input reads h))
    (λ h. rw (many h) (front_read room read input reads h))
    (cases_lt read 3733)

pub returns-clause-by_index : goal.returns-clause-by_index
returns-clause-by_index c input read =
    c.answer_whole.ensures.count ∙ ap length (same _ _ _ input (λ h. omega arith) (λ h. omega arith) read)

pub returns-clause-by_index_2 : goal.returns-clause-by_index_2
returns-clause-by_index_2 c input read =
    c.answer_whole.ensures.put ∙ ap (sets c.args.out.now 0) (same _ _ _ input (λ h. omega arith) (λ h. omega arith) read)
