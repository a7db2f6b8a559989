use Rattle.std.proofs.Common.{◌≡◌, drop}
use Rattle.templates.specs.Inside.Matching.{row_from}
use Rattle.templates.specs.Templates.{templates}
use Rattle.templates.proofs.Table.{IsTable}
use Rattle.templates.proofs.reader.first_row.Given as goal

abbrev pub invariant-loop-row : goal.invariant-loop-row
invariant-loop-row l =
    record {
      table : IsTable l.template-items;
      on : row_from templates l.s 0 ≡ row_from (drop l.row templates) l.s l.row;
    }
