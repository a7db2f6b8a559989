use Rattle.std.proofs.Common.{rules, tests, of_calls, arith, ◌∙◌, length}
use Rattle.std.proofs.lemmas.Iterator.{YieldsList-from_take, YieldsList-from_map}
use Rattle.std.proofs.lemmas.Iterator.Consumers.{YieldsList-from_first, sum_from_yields_List, fits_from_yields_list}
use Rattle.assembly.specs.SourceLines.{lines_of}
use Rattle.assembly.specs.declared.lines.Lines.{Lines}
use Rattle.assembly.proofs.SourceLines.{bytes_short, sum_total}
use Rattle.assembly.proofs.lines.behind_lines.Goals as goal

pub sum-requires : goal.sum-requires
sum-requires c =
    let s = c.args.s.now in
    record {
      can = search of_calls;
      finite = search of_calls;
      fits = fits_from_yields_list c.map.result _ (YieldsList-from_map _ length (YieldsList-from_take c.args.count (YieldsList-from_first (λ x. x.now) (λ (l : Lines). lines_of l.0.now) (lines_of s) (cc)) (cc)) c.map.ensures.closure (λ x r q k. search (rules, tests)))
          (omega (arith, sum_total c.args.count (lines_of s), bytes_short c.args.count s));
    }

pub returns : goal.returns
returns c =
    let s = c.args.s.now in
    sum_from_yields_List c.map.result _ c.sum.ensures.ran (YieldsList-from_map _ length (YieldsList-from_take c.args.count (YieldsList-from_first (λ x. x.now) (λ (l : Lines). lines_of l.0.now) (lines_of s) (cc)) (cc)) c.map.ensures.closure (λ x r q k. search (rules, tests)))
    ∙ sum_total c.args.count (lines_of s)
