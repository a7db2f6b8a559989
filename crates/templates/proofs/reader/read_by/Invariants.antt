use Rattle.std.proofs.Common.{◌≡◌, drop}
use Rattle.templates.specs.Inside.Matching.{no_fields}
use Rattle.templates.specs.Inside.Reading.{read_by}
use Rattle.templates.proofs.reader.read_by.Given as goal

abbrev pub invariant-loop-l : goal.invariant-loop-l
invariant-loop-l l = read_by l.template l.s no_fields ≡ read_by (drop l.l-index l.template) l.rest l.fields
