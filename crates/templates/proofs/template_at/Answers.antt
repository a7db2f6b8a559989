use Rattle.templates.specs.Templates.{templates, template_at}
use Rattle.templates.proofs.Table.{now_at}
use Rattle.templates.proofs.template_at.Goals as goal

pub returns : goal.returns
unfolding templates template_at
returns c = let h = c.requires in rw now_at
