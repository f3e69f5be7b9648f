use Rattle.centre_run.proofs.ending.end_number.Goals as goal

pub returns : goal.returns
returns g c =
    let run = c.run.ensures in (
      c.run.result,
      c.number.ensures,
      record {
        done = run.done;
        words_refused = run.words;
        refused = run.refused;
        budget = run.budget;
        budget_is_short = run.budget_is_short;
        no = run.no;
        no_by_verify = run.no_by_verify;
        headline = run.headline;
        replayable_book = run.replayable_book;
        settled = run.settled;
        best_assignment = run.best_assignment;
        answers_then_settling = run.answers_then_settling;
        turns_in_order = run.turns_in_order;
        late_turns_are_few = run.late_turns_are_few;
        bound_below_plans = run.bound_below_plans;
        verifies = run.verifies;
        memory = λ is. (run.memory is, run.memory_kept is);
        read_fault = run.read_fault;
        read_fault_kept = λ is. (run.read_fault_told is, run.read_fault_kept is);
        write_fault = run.write_fault;
        write_fault_told = run.write_fault_told;
        complete = run.complete;
        words_decide = run.words_decide;
        kept = run.kept;
        read_only = run.read_only;
        calls = run.calls;
        in_order = run.in_order;
        uncalled = run.uncalled;
      },
    )
