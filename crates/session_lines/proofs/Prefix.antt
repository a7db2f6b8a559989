-- A session is judged by as many bytes as the longest good one has, and one more. Assumes nothing.
use Prim.Native.Nat.{ℕ, zero, suc, ◌+◌, ◌<◌}
use mathlib.Core.Bool.{Bool, true, false, cond, ◌&&◌}
use mathlib.Core.List.{List, []}
use mathlib.Core.Path.{◌≡◌, refl, sym, ap, ◌∙◌}
use native.Mathlib.Omega.{arith}
use borrow.Author.Tests.{le-leb, lt-leb, leb-true, leb-false}
use lib.Dec.{leb}
use lib.ListN.{length, take, length-take}
use Rattle.std.proofs.Common.{Option, None, Some}
use Rattle.text.specs.declared.Line.{Line}
use Rattle.text.specs.Lines.{is_line}
use Rattle.text.proofs.Framing.{line_says}
use Rattle.text.proofs.Prefix.{line_take}
use Rattle.session_lines.specs.LineFormats.{format_of}
use Rattle.session_lines.specs.Laws.{PrefixSays}
use Rattle.session_lines.specs.Parsing.{good, bad, before, ended, line_of, parse_lines}
use Rattle.session_lines.proofs.Lengths.{longest, size, span}
use Rattle.session_lines.proofs.Parsing.{all_read, one_read, one_wrong}

end_by : (m : ℕ) (s : List ℕ) (at : ℕ) → at < m → (b : Bool) → leb (length s) at ≡ b → leb (length (take m s)) at ≡ b
end_by m s at h true e = le-leb (length (take m s)) at (omega (arith, length-take m s, leb-true (length s) at e))
end_by m s at h false e = lt-leb (length (take m s)) at (omega (arith, length-take m s, leb-false (length s) at e))

end_take : (m : ℕ) (s : List ℕ) (at : ℕ) → at < m → leb (length (take m s)) at ≡ leb (length s) at
end_take m s at h = end_by m s at h (leb (length s) at) refl

-- a turn, for the text and for its front
module _ (m allowed i : ℕ) (s : List ℕ) (at : ℕ) (h : at + span (suc allowed) i < m)
    (rest : (next : ℕ) → next + span allowed (i + 1) < m → parse_lines allowed (i + 1) (take m s) next ≡ parse_lines allowed (i + 1) s next) where
  same_end : leb 9 i && leb (length (take m s)) at ≡ leb 9 i && ended s at
  same_end = ap (λ (b : Bool). leb 9 i && b) (end_take m s at (omega arith))

  same_line : line_of (format_of i) (take m s) at ≡ line_of (format_of i) s at
  unfolding size span
  same_line = line_take (format_of i).key (format_of i).digits (format_of i).most s at m (omega arith)

  room_left : (v next : ℕ) → line_of (format_of i) s at ≡ is_line v next → next + span allowed (i + 1) < m
  unfolding size span
  room_left v next q = let p = line_says (format_of i).key (format_of i).digits (format_of i).most s at v next q in omega arith

  front_line : leb 9 i && ended s at ≡ false → (l : Option Line) → line_of (format_of i) s at ≡ l
      → parse_lines (suc allowed) i (take m s) at ≡ parse_lines (suc allowed) i s at
  front_line on (Some line) q =
      one_read allowed i (take m s) at (same_end ∙ on) line.value line.next (same_line ∙ q)
      ∙ ap (before line.value) (rest line.next (room_left line.value line.next q))
      ∙ sym (one_read allowed i s at on line.value line.next q)
  front_line on None q = one_wrong allowed i (take m s) at (same_end ∙ on) (same_line ∙ q) ∙ sym (one_wrong allowed i s at on q)

  front_turn : (b : Bool) → leb 9 i && ended s at ≡ b → parse_lines (suc allowed) i (take m s) at ≡ parse_lines (suc allowed) i s at
  front_turn true e = all_read allowed i (take m s) at (same_end ∙ e) ∙ sym (all_read allowed i s at e)
  front_turn false e = front_line e (line_of (format_of i) s at) refl

front_from : (m allowed i : ℕ) (s : List ℕ) (at : ℕ) → at + span allowed i < m → parse_lines allowed i (take m s) at ≡ parse_lines allowed i s at
unfolding parse_lines span
front_from m zero i s at h = ap (λ (b : Bool). cond b (good []) (bad (i + 1))) (end_take m s at (omega arith))
front_from m (suc allowed) i s at h =
    front_turn m allowed i s at h (λ next r. front_from m allowed (i + 1) s next r) (leb 9 i && ended s at) refl

pub prefix_says : PrefixSays
unfolding PrefixSays
prefix_says s = front_from 3733 265 0 s 0 (omega (arith, longest))
