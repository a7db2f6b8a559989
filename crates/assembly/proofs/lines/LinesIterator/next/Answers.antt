use Rattle.std.proofs.Common.{ℕ, ◌∷◌, rules, arith, ◌≡◌, ◌<◌, ◌∙◌, ap, sym, length, take, drop}
use Rattle.assembly.specs.SourceLines.{lines_of}
use Rattle.assembly.proofs.SourceLines.{first_front, first_within, no_lines, split_first}
use Rattle.assembly.proofs.lines.LinesIterator.next.Goals as goal

pub returns-then-is_empty-clause-steps : goal.returns-then-is_empty-clause-steps
returns-then-is_empty-clause-steps c =
    let none : length c.args.self.now.0.now ≡ 0 = search rules in
    (no_lines _ none, no_lines _ none)

pub split_at-requires : goal.split_at-requires
split_at-requires c = omega (arith, c.first_size.ensures, first_within c.args.self.now.0.now)

pub returns-clause-steps : goal.returns-clause-steps
returns-clause-steps c =
    let s = c.args.self.now.0.now in
    let some : 0 < length s = search rules in
    let line = c.split_at.ensures.front ∙ ap (λ (n : ℕ). take n s) c.first_size.ensures ∙ first_front s in
    let rest = c.split_at.ensures.back ∙ ap (λ (n : ℕ). drop n s) c.first_size.ensures in
    split_first s some ∙ (λ i. sym line i ∷ lines_of (sym rest i))

pub returns-clause-goes : goal.returns-clause-goes
returns-clause-goes c =
    let fewer : length (lines_of c.split_at.result.1.now) < length (lines_of c.args.self.now.0.now) = omega (arith, ap length (returns-clause-steps c)) in
    search rules
