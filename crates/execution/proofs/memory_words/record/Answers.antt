-- Assumes nothing.
use Rattle.std.proofs.Common.{ap, arith}
use Rattle.history.specs.declared.Entry.{Entry}
use Rattle.history.specs.Records.{words_of}
use Rattle.history.specs.Recording.{entry_for}
use Rattle.execution.specs.Simulation.{standing}
use Rattle.execution.proofs.Taking.{bytes_len, cursor_placed, no_slots}
use Rattle.execution.proofs.memory_words.record.Goals as goal

pub entry_for-entry-requires-clause-bytes_len : goal.entry_for-entry-requires-clause-bytes_len
entry_for-entry-requires-clause-bytes_len c = bytes_len (standing c.args.setup.now c.args.history.now) c.requires.formed

pub push-requires : goal.push-requires
push-requires c = cursor_placed (standing c.args.setup.now c.args.history.now) c.requires.formed

pub words-requires-clause-register_bound : goal.words-requires-clause-register_bound
unfolding entry_for
words-requires-clause-register_bound c = omega (arith, ap (λ (e : Entry). e.register) c.entry_for-entry.ensures)

pub words-requires-clause-granules_bound : goal.words-requires-clause-granules_bound
unfolding entry_for
words-requires-clause-granules_bound c = omega (arith, ap (λ (e : Entry). e.granules) c.entry_for-entry.ensures)

pub returns-then-history-lt8-clause-taken : goal.returns-then-history-lt8-clause-taken
returns-then-history-lt8-clause-taken c =
    let s = standing c.args.setup.now c.args.history.now in
    λ i. record { state = s.state; history = no_slots (words_of (entry_for c.args.register c.args.granules c.args.first c.args.saves s.state)) s.history c.if-history-lt8.true i }

pub returns-clause-taken : goal.returns-clause-taken
returns-clause-taken c =
    let s = standing c.args.setup.now c.args.history.now in
    let history = rw (c.words.ensures, c.entry_for-entry.ensures) at c.push.ensures in
    λ i. record { state = s.state; history = history i }
