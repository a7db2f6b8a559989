-- What is printed, by what the input says. Assumes nothing.
use Prim.Native.Nat.{ℕ, ◌+◌, ◌-◌, ◌≤◌, ◌<◌}
use mathlib.Core.List.{List, ◌++◌}
use mathlib.Core.Path.{◌≡◌, sym, ap, ◌∙◌}
use native.Mathlib.Omega.{arith}
use lib.ListN.{length, get_or, take, drop, get_or-append}
use lib.Seq.{drop_at, take-append-add}
use Rattle.execution.specs.Steps.{run_of}
use Rattle.session_text.specs.Inside.Buffers.{Fits}
use Rattle.session_lines.specs.LineFormats.{front_formats, format_of}
use Rattle.session_lines.specs.Laws.{OnlyGoodIsRead}
use Rattle.session_lines.specs.Parsing.{good, bad, parsed}
use Rattle.session_text.specs.Printing.{bad_text}
use Rattle.session_text.specs.declared.runner.Start.{Start}
use Rattle.session_text.specs.Run.{ran_of, simulation_of, start_of}
use Rattle.session_text.specs.Session.{answer_text, ran_text}
use Rattle.session_lines.proofs.OnlyGoodSessions.{only_good_is_read}

pub answer_bad : (s : List ℕ) (number : ℕ) → bad number ≡ parsed s → answer_text s ≡ bad_text number
unfolding answer_text
answer_bad s number e = rw (← e)

-- the first n numbers are those of the nine lines, and words
cut : (front words : List ℕ) (n : ℕ) → length front ≡ 9 → 9 ≤ n → take n (front ++ words) ≡ front ++ take (n - 9) words
cut front words n long h =
    let e : n ≡ length front + (n - 9) = omega arith in
    ap (λ (k : ℕ). take k (front ++ words)) e ∙ take-append-add front words (n - 9)

module _ (s front words : List ℕ) (n : ℕ) (long : length front ≡ 9) (enough : 9 ≤ n) (e : good (take n (front ++ words)) ≡ parsed s) where
  says : parsed s ≡ good (front ++ take (n - 9) words)
  says = sym e ∙ ap good (cut front words n long enough)

  at : (k : ℕ) → k < 9 → get_or (front ++ take (n - 9) words) k 0 ≡ get_or front k 0
  at k h = get_or-append front (take (n - 9) words) 0 k (omega arith)

  small : (k : ℕ) → k < 9 → get_or front k 0 ≤ (format_of (0 + k)).most
  unfolding OnlyGoodIsRead
  small k h = rw (at k h) at ((only_good_is_read s (front ++ take (n - 9) words) says).0.range k)

  pub fits : Fits front
  unfolding format_of front_formats
  fits =
      record {
        granules = small 1 (omega arith);
        exclude = let h : get_or front 3 0 ≤ 0xffff = small 3 (omega arith) in omega arith;
        seed = let h : get_or front 4 0 ≤ 0xffff = small 4 (omega arith) in omega arith;
      }

  same_start : start_of (front ++ take (n - 9) words) ≡ start_of front
  same_start =
      rw (at 0 (omega arith), at 1 (omega arith), at 2 (omega arith), at 3 (omega arith), at 4 (omega arith), at 5 (omega arith), at 6 (omega arith), at 7 (omega arith), at 8 (omega arith))

  same_words : drop 9 (front ++ take (n - 9) words) ≡ take (n - 9) words
  same_words = drop_at front (take (n - 9) words) 9 long

  pub answer_good : answer_text s ≡ ran_text (run_of (simulation_of (start_of front)) (take (n - 9) words))
  unfolding answer_text ran_of
  answer_good = rw says (ap ran_text (ap (λ (start : Start). run_of (simulation_of start) (drop 9 (front ++ take (n - 9) words))) same_start ∙ ap (run_of (simulation_of (start_of front))) same_words))
