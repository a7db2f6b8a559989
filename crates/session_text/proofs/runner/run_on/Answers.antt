-- `session_text::runner::run_on` meets its contract: what is printed is what the run left. Assumes nothing.
use Rattle.std.proofs.Common.{rules, ℕ, List, [], ◌+◌, ◌≤◌, ◌≡◌, sym, ap, ◌∙◌, arith, length}
use Rattle.std.proofs.lemmas.List.Edits.{sets}
use Rattle.machine.specs.declared.Code.{Code}
use Rattle.machine.specs.declared.Machine.{Machine}
use Rattle.machine.specs.declared.Setup.{Setup}
use Rattle.execution.specs.Calls.{Returned, returned}
use Rattle.execution.specs.Simulation.{Simulation, simulation, standing}
use Rattle.execution.specs.Steps.{run_of}
use Rattle.session_text.specs.Inside.Buffers.{Printed}
use Rattle.session_text.specs.Printing.{report_text}
use Rattle.session_text.specs.Session.{ran_text}
use Rattle.session_text.proofs.Printed.{report_long}
use Rattle.session_text.proofs.runner.run_on.Goals as goal

told : (out after : List ℕ) (r count : ℕ) (code : Code) (tags : List ℕ) (setup : Setup) (words : List ℕ) (ran : Returned Simulation)
    → r ≡ 110 + length tags → after ≡ sets out 0 (report_text count code setup.machine.registers tags)
    → tags ≡ setup.tags.now → length tags ≤ 1024 → returned code count (standing setup words) ≡ ran
    → Printed r out after (ran_text ran)
told out after r count code tags setup words ran long put same few e =
    let text : report_text count code setup.machine.registers tags ≡ ran_text ran
    = ap (report_text count code setup.machine.registers) same ∙ ap ran_text e in
    record {
      count = long ∙ sym (report_long count code setup.machine.registers tags) ∙ ap length text;
      most = omega arith;
      put = put ∙ ap (sets out 0) text;
    }

pub returns : goal.returns
returns c =
    let a = c.args in
    told _ _ _ _ _ _ c.run-ran.new.setup _ _ c.put_report.ensures.value c.put_report.ensures.out_after (search rules) (omega arith)
    (c.run-ran.ensures.ran ∙ ap (λ (machine : Machine). run_of (simulation machine a.bytes.now a.tags.now []) a.words.now) c.machine-machine.ensures)
