-- Assumes nothing.
use Rattle.std.proofs.Common.{length, sym, ◌∙◌}
use Rattle.instructions.proofs.Places.{load_inside}
use Rattle.execution.proofs.memory_words.loaded.Goals as goal

pub load-tag-requires : goal.load-tag-requires
load-tag-requires c =
    load_inside c.args.setup.now.machine.settings.base (length c.args.setup.now.tags.now) c.field-n.result c.x_or_sp-rn.result c.signed-amount.result
    c.in_ok-i.i c.requires (sym c.place_load.ensures ∙ c.in_ok-i.was)
