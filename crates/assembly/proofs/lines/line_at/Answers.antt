use Rattle.std.proofs.Common.{ℕ, ◌≡◌, ◌∙◌, ap, sym, arith, take, drop}
use Rattle.std.proofs.lemmas.Grind.{common_steps}
use lib.Seq.{length-take-le}
use Rattle.assembly.specs.SourceLines.{first_line}
use Rattle.assembly.proofs.SourceLines.{first_front, first_within}
use Rattle.assembly.proofs.lines.line_at.Goals as goal

pub slice_bounds-result-end : goal.slice_bounds-result-end
slice_bounds-result-end c =
    let rest = c.unwrap_or-rest.result.now in
    sym (length-take-le c.first_size.result rest (omega (arith, c.first_size.ensures, first_within rest)))

pub returns : goal.returns
returns c =
    let rest = c.unwrap_or-rest.result.now in
    let behind : rest ≡ drop c.args.at c.args.s.now = grind (arith, common_steps) in
    ap (λ (n : ℕ). take n rest) c.first_size.ensures ∙ first_front rest ∙ ap first_line behind
