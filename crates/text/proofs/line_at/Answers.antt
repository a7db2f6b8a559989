-- `text::line_at` meets its contract: once the frame stands, the line is what `capped` makes of the digits. Assumes nothing.
use Rattle.std.proofs.Common.{ℕ, List, ◌+◌, arith, ◌≡◌, ap, sym, ◌∙◌, true, length, drop, Option}
use Rattle.text.specs.Hex.{read_hex}
use Rattle.text.specs.Lines.{framed, capped, line_at}
use Rattle.text.proofs.Framing.{line_unframed, line_framed, capped_is, capped_over, capped_not}
use Rattle.text.proofs.line_at.Goals as goal

pub returns-then-not-frame : goal.returns-then-not-frame
returns-then-not-frame c =
    let a = c.args in
    sym (line_unframed a.key.now a.n a.most a.s.now a.at (sym c.frame.ensures ∙ c.if-not-frame.true))

whole :
    (key : List ℕ) (n most : ℕ) (s : List ℕ) (at : ℕ) (x : Option ℕ)
    → framed key n s at ≡ true → x ≡ read_hex n 0 (drop (at + length key) s)
    → line_at key n most s at ≡ capped most (at + (length key + n + 1)) x
whole key n most s at x f q = line_framed key n most s at f ∙ ap (capped most (at + (length key + n + 1))) (sym q)

pub returns-in_err-value : goal.returns-in_err-value
returns-in_err-value c =
    let a = c.args in
    c.from_residual.ensures
    ∙ sym (whole a.key.now a.n a.most a.s.now a.at _ (sym c.frame.ensures ∙ c.if-not-frame.false) (c.in_err-value.ensures) ∙ capped_not _ _)

pub returns-then-value-most : goal.returns-then-value-most
returns-then-value-most c =
    let a = c.args in
    let size : a.at + (length a.key.now + a.n + 1) ≡ a.at + length a.key.now + a.n + 1 = omega arith in
    rw (← size) (sym (whole a.key.now a.n a.most a.s.now a.at _ (sym c.frame.ensures ∙ c.if-not-frame.false) (c.in_ok-value.ensures) ∙ capped_is _ _ _ c.if-value-most.true))

pub returns-else-value-most : goal.returns-else-value-most
returns-else-value-most c =
    let a = c.args in
    sym (whole a.key.now a.n a.most a.s.now a.at _ (sym c.frame.ensures ∙ c.if-not-frame.false) (c.in_ok-value.ensures) ∙ capped_over _ _ _ c.if-value-most.false)
