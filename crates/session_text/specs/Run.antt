-- The run that a session asks for (document 01, "The session program").
use Rattle.std.specs.Prelude.{ℕ, ◌*◌, List, [], eqb, get_or, set, take, drop, replicate}
use Rattle.machine.specs.declared.Machine.{Machine}
use Rattle.machine.specs.State.{fresh_on, with_access, with_exclude, with_seed}
use Rattle.session_text.specs.declared.runner.Start.{Start}
use Rattle.execution.specs.Calls.{Returned}
use Rattle.execution.specs.Simulation.{Simulation, simulation}
use Rattle.execution.specs.Steps.{run_of}

-- what the numbers of the nine lines say
abbrev pub start_of : List ℕ → Start
start_of v =
    record {
      base = get_or v 0 0;
      granules = get_or v 1 0;
      access = eqb (get_or v 2 0) 1;
      exclude = get_or v 3 0;
      seed = get_or v 4 0;
      x0 = get_or v 5 0;
      x1 = get_or v 6 0;
      x2 = get_or v 7 0;
      sp = get_or v 8 0;
    }

-- all else is as in a fresh machine
unfoldable pub machine_for : Start → Machine
machine_for start =
    let fresh : Machine = fresh_on start.base in
    record {
      settings = with_exclude start.exclude (with_access start.access fresh.settings);
      registers =
          record {
            x = set (set (set (set fresh.registers.x 0 start.x0) 1 start.x1) 2 start.x2) 31 start.sp;
            status = with_seed start.seed fresh.registers.status;
          };
      cursor = fresh.cursor;
    }

-- the first G granules of a memory are used; no history
abbrev pub simulation_on : Start → List ℕ → List ℕ → Simulation
simulation_on start bytes tags = simulation (machine_for start) (take (16 * start.granules) bytes) (take start.granules tags) []

-- its 1,024 tag bytes and 16,384 data bytes start at zero
unfoldable pub simulation_of : Start → Simulation
simulation_of start = simulation_on start (replicate 16384 0) (replicate 1024 0)

-- the words of the lines behind the nine are run, all in one run
unfoldable pub ran_of : List ℕ → Returned Simulation
ran_of v = run_of (simulation_of (start_of v)) (drop 9 v)
