-- From a reply, and how it was put, to all that is promised of a run.
use Rattle.std.proofs.Common.{◌≡◌, ◌≢◌, ◌⊎◌, ◌∙◌, ◌<◌, inl, inr, refl, sym, subst, ℕ, List, length, Ok, Err, string_bytes, arith}
use Rattle.std.specs.Prelude.{Result, IfOk, IsErrOf}
use Rattle.host_io.specs.Store.{Rose}
use Rattle.plan_law.specs.Plans.{IsSettled}
use Rattle.plan_law.specs.Solving.{AreLinesInOrder, AreLinesOfWorkers}
use Rattle.book_solve.specs.Solved.{log_budget, turns_for}
use Rattle.book_core.specs.HeldBooks.{IsBelowPlans}
use Rattle.book_cert.specs.Written.{IsReplayable, HasBestAssignment, AreAnswersThenSettling}
use Rattle.printed_lines.specs.Lines.{words_line}
use Rattle.centre_words.specs.declared.asked.Asked.{Asked}
use Rattle.centre_words.specs.Words.{Asks, IsUnasked}
use Rattle.centre_run.specs.declared.reply.Quiet.{Quiet}
use Rattle.centre_run.specs.declared.reply.Quiet.TheVariants as quiet
use Rattle.centre_run.specs.declared.reply.Reply.{Reply}
use Rattle.centre_run.specs.declared.status.Status.{Status}
use Rattle.centre_run.specs.declared.status.Status.TheVariants.{Done, Words, Refused, FlipBudget, Memory, ReadFault, WriteFault, No}
use Rattle.centre_run.specs.Calls.{CallsFor, CallsInOrder}
use Rattle.centre_run.specs.Runs.{Says, Does, Begins, BreaksOff, HasReadCause, CallsOnce, IsFaultless, Completes, KeepsOthers, IsReadOnly, IsProved, IsTold, IsCutOff, Tells, TellsPart}
use Rattle.centre_run.specs.Ends.{StoreSeen, SinkSeen, IsEnd, IsRefusal, IsPut}
use Rattle.centre_run.proofs.Budgets.{budget_is_short}
use Rattle.centre_run.proofs.Writes.{done_writes, done_verifies}
use Rattle.centre_run.proofs.Once.{says_once, read_fault_says}
use Rattle.centre_run.proofs.Others.{lines_in_order, lines_of_workers}
use Rattle.centre_run.proofs.Saying.{no_by_verify, same_keeps, begun_off_keeps, done_keeps, broken_off_keeps, cut_part}
use Rattle.centre_run.proofs.Calling.{said_calls}

-- what is known of a store once the reply to the words is made
pub record IsReplied (words : List (List ℕ)) (old new : StoreSeen) (reply : Result Reply Quiet) : Type 0 where
  pub does : IfOk reply (λ r. Does words old.held new.held r.status (string_bytes r.line))
  pub cause : IsErrOf reply quiet.ReadFault → HasReadCause words old.held old.read_faults new.read_faults
  pub unread : IsErrOf reply quiet.ReadFault → new.held ≡ old.held
  pub memory : IsErrOf reply quiet.Memory → Begins words old.held new.held
  pub unwritten : IsErrOf reply quiet.WriteFault → Rose old.write_faults new.write_faults
  pub broken : IsErrOf reply quiet.WriteFault → BreaksOff words old.held new.held
  pub asked : IsErrOf reply quiet.ReadFault → ¬ IsUnasked words
  pub asked_to_write : IsErrOf reply quiet.WriteFault → ¬ IsUnasked words
  pub read_only : IsReadOnly words → new.write_faults ≡ old.write_faults
  pub calls : CallsOnce words old.calls new.calls
  pub uncalled : IsUnasked words → new.calls ≡ old.calls
  pub called : IfOk reply (λ r. (c : Asked) → Asks words c → CallsFor c r.status old.calls new.calls)
  pub stopped : IsErrOf reply quiet.ReadFault → CallsInOrder words old.held (Rose old.read_faults new.read_faults) ReadFault old.calls new.calls
  pub broken_calls : IsErrOf reply quiet.WriteFault → CallsInOrder words old.held (Rose old.read_faults new.read_faults) WriteFault old.calls new.calls

module _ (words : List (List ℕ)) (old new : StoreSeen) (before now : SinkSeen) where
  -- no status that comes without a line is that of a reply
  said : (s t : Status) (line : List ℕ) → Does words old.held new.held s line → ((c : Asked) → Asks words c → CallsFor c s old.calls new.calls) → s ≡ t → (t ≢ Words) → ((c : Asked) → CallsFor c t old.calls new.calls → ⊥) → ⊥
  said s t line (files, inl (unasked, is, told, none), written) called same other never = other (sym same ∙ is)
  said s t line (files, inr (c, asks, says), written) called same other never = never c (subst (λ u. CallsFor c u old.calls new.calls) same (called c asks))

  unasked_says : (s : Status) (line : List ℕ) → Does words old.held new.held s line → IsUnasked words → s ≡ Words
  unasked_says s line (files, inl (unasked, is, told, none), written) none_asked = is
  unasked_says s line (files, inr (c, asks, says), written) none_asked = absurd (none_asked c asks)

  -- a reply whose line was told
  module _ (s : Status) (line : List ℕ) (does : Does words old.held new.held s line) (called : (c : Asked) → Asks words c → CallsFor c s old.calls new.calls) (told : IsTold before.told now.told line) where
    tells : (t : Status) → s ≡ t → Tells words old.held new.held t before.told now.told
    tells t is = (line, subst (λ u. Does words old.held new.held u line) is does, told)

    does_as : (t : Status) → s ≡ t → Does words old.held new.held t line
    does_as t is = subst (λ u. Does words old.held new.held u line) is does

    never_memory : s ≡ Memory → ⊥
    never_memory is = said s Memory line does called is (λ e. cc) (λ c calls. calls)

    never_read_fault : s ≡ ReadFault → ⊥
    never_read_fault is = said s ReadFault line does called is (λ e. cc) (λ c calls. calls)

    never_write_fault : s ≡ WriteFault → ⊥
    never_write_fault is = said s WriteFault line does called is (λ e. cc) (λ c calls. calls)

    told_end : (IsReadOnly words → new.write_faults ≡ old.write_faults) → CallsOnce words old.calls new.calls → (IsUnasked words → new.calls ≡ old.calls) → IsEnd words old new before now s
    told_end read_only calls uncalled = record {
      done = tells Done;
      words_refused = tells Words;
      refused = tells Refused;
      budget = tells FlipBudget;
      budget_is_short = λ is. budget_is_short words old.held new.held line (does_as FlipBudget is);
      no = tells No;
      no_by_verify = λ is. no_by_verify words old.held new.held line (does_as No is);
      headline = λ is. done_writes words old.held new.held line
          (λ instance order solution cert written. IsReplayable instance written.opening written.end solution cert × IsSettled instance.points written.end × HasBestAssignment instance (log_budget (length instance.inputs)) cert
          × AreAnswersThenSettling instance order written.opening written.end written.lines written.made cert
          × (0 < order.workers → AreLinesOfWorkers order.workers (turns_for instance order) instance.points instance.inputs written.opening written.lines) × IsBelowPlans instance cert.bound)
          (λ instance order solution cert found.
          let written = found.written in
          (written.replayable, written.settled, written.best, written.answers, lines_of_workers (turns_for instance order) instance.points instance.inputs written.opening written.lines order.workers written.others, written.below))
          (does_as Done is);
      replayable_book = λ is. done_writes words old.held new.held line (λ instance order solution cert written. IsReplayable instance written.opening written.end solution cert) (λ instance order solution cert found. found.written.replayable) (does_as Done is);
      settled = λ is. done_writes words old.held new.held line (λ instance order solution cert written. IsSettled instance.points written.end) (λ instance order solution cert found. found.written.settled) (does_as Done is);
      best_assignment = λ is. done_writes words old.held new.held line (λ instance order solution cert written. HasBestAssignment instance (log_budget (length instance.inputs)) cert) (λ instance order solution cert found. found.written.best) (does_as Done is);
      answers_then_settling = λ is. done_writes words old.held new.held line (λ instance order solution cert written. AreAnswersThenSettling instance order written.opening written.end written.lines written.made cert) (λ instance order solution cert found. found.written.answers) (does_as Done is);
      turns_in_order = λ is. done_writes words old.held new.held line (λ instance order solution cert written. order.workers ≡ 0 → AreLinesInOrder (turns_for instance order) instance.points instance.inputs written.opening written.lines)
          (λ instance order solution cert found. lines_in_order (turns_for instance order) instance.points instance.inputs found.written.opening found.written.lines order.workers found.written.others) (does_as Done is);
      late_turns_are_few = λ is. done_writes words old.held new.held line (λ instance order solution cert written. 0 < order.workers → AreLinesOfWorkers order.workers (turns_for instance order) instance.points instance.inputs written.opening written.lines)
          (λ instance order solution cert found. lines_of_workers (turns_for instance order) instance.points instance.inputs found.written.opening found.written.lines order.workers found.written.others) (does_as Done is);
      bound_below_plans = λ is. done_writes words old.held new.held line (λ instance order solution cert written. IsProved instance solution cert.total cert.bound) (λ instance order solution cert found. found.proved) (does_as Done is);
      verifies = λ is. done_verifies words old.held new.held line before.told now.told (does_as Done is) told;
      memory = λ is. absurd (never_memory is);
      read_fault = λ is. absurd (never_read_fault is);
      read_fault_kept = λ is. absurd (never_read_fault is);
      write_fault = λ is. absurd (never_write_fault is);
      write_fault_told = λ is. absurd (never_write_fault is);
      complete = λ held status k files is says faultless. inl (says_once words held s status line k does.0 files (subst (λ h. Says words h s line does.0) is does.1) says);
      words_decide = λ unasked faultless. inl (unasked_says s line does unasked);
      kept = done_keeps words old.held new.held s line does;
      read_only = read_only;
      calls = calls;
      in_order = λ c asks. said_calls old.held _ c s _ _ (called c asks);
      uncalled = uncalled;
    }

  -- a run that ends without its line
  abbrev IsQuiet : Status → Type 0
  IsQuiet s = (s ≢ Done) × (s ≢ Words) × (s ≢ Refused) × (s ≢ FlipBudget) × (s ≢ No)

  quiet_end : (s : Status) → IsQuiet s → (s ≡ Memory → (now.told ≡ before.told) × Begins words old.held new.held)
      → (s ≡ ReadFault → HasReadCause words old.held old.read_faults new.read_faults) → (s ≡ ReadFault → (now.told ≡ before.told) × (new.held ≡ old.held))
      → (s ≡ WriteFault → Rose old.write_faults new.write_faults ⊎ Rose before.faults now.faults) → (s ≡ WriteFault → TellsPart words old.held new.held before.told now.told)
      → Completes words old.held (IsFaultless old.read_faults new.read_faults old.write_faults new.write_faults before.faults now.faults) s
      → (IsUnasked words → ¬ Rose before.faults now.faults → (s ≡ Words) ⊎ (s ≡ Memory)) → KeepsOthers words old.held new.held → (IsReadOnly words → new.write_faults ≡ old.write_faults)
      → CallsOnce words old.calls new.calls → CallsInOrder words old.held (Rose old.read_faults new.read_faults) s old.calls new.calls → (IsUnasked words → new.calls ≡ old.calls) → IsEnd words old new before now s
  quiet_end s (d, w, r, b, n) memory read_fault read_fault_kept write_fault write_fault_told complete words_decide kept read_only calls in_order uncalled = record {
    done = λ is. absurd (d is);
    words_refused = λ is. absurd (w is);
    refused = λ is. absurd (r is);
    budget = λ is. absurd (b is);
    budget_is_short = λ is. absurd (b is);
    no = λ is. absurd (n is);
    no_by_verify = λ is. absurd (n is);
    headline = λ is. absurd (d is);
    replayable_book = λ is. absurd (d is);
    settled = λ is. absurd (d is);
    best_assignment = λ is. absurd (d is);
    answers_then_settling = λ is. absurd (d is);
    turns_in_order = λ is. absurd (d is);
    late_turns_are_few = λ is. absurd (d is);
    bound_below_plans = λ is. absurd (d is);
    verifies = λ is. absurd (d is);
    memory = memory;
    read_fault = read_fault;
    read_fault_kept = read_fault_kept;
    write_fault = write_fault;
    write_fault_told = write_fault_told;
    complete = complete;
    words_decide = words_decide;
    kept = kept;
    read_only = read_only;
    calls = calls;
    in_order = in_order;
    uncalled = uncalled;
  }

  memory_quiet : IsQuiet Memory
  memory_quiet = (λ e. cc, λ e. cc, λ e. cc, λ e. cc, λ e. cc)

  read_fault_quiet : IsQuiet ReadFault
  read_fault_quiet = (λ e. cc, λ e. cc, λ e. cc, λ e. cc, λ e. cc)

  write_fault_quiet : IsQuiet WriteFault
  write_fault_quiet = (λ e. cc, λ e. cc, λ e. cc, λ e. cc, λ e. cc)

  memory_end : now.told ≡ before.told → IsReplied words old new (Err quiet.Memory) → IsEnd words old new before now Memory
  memory_end untold h = quiet_end Memory memory_quiet (λ is. (untold, h.memory refl)) (λ is. cc) (λ is. cc) (λ is. cc) (λ is. cc)
      (λ held status k files is says faultless. inr refl)
      (λ unasked faultless. inr refl) (begun_off_keeps words old.held new.held (h.memory refl)) h.read_only h.calls h.calls h.uncalled

  read_fault_end : now.told ≡ before.told → IsReplied words old new (Err quiet.ReadFault) → IsEnd words old new before now ReadFault
  read_fault_end untold h = quiet_end ReadFault read_fault_quiet (λ is. cc) (λ is. h.cause refl) (λ is. (untold, h.unread refl)) (λ is. cc) (λ is. cc)
      (λ held status k files is says faultless. inl (read_fault_says words held status k files old.read_faults new.read_faults (subst (λ x. HasReadCause words x old.read_faults new.read_faults) is (h.cause refl)) faultless.reads says))
      (λ unasked faultless. absurd (h.asked refl unasked)) (same_keeps words old.held new.held (h.unread refl)) h.read_only h.calls (h.stopped refl) h.uncalled

  write_fault_end : now.told ≡ before.told → IsReplied words old new (Err quiet.WriteFault) → IsEnd words old new before now WriteFault
  write_fault_end untold h = quiet_end WriteFault write_fault_quiet (λ is. cc) (λ is. cc) (λ is. cc) (λ is. inl (h.unwritten refl)) (λ is. inr (h.broken refl, untold))
      (λ held status k files is says faultless. absurd (faultless.writes (h.unwritten refl)))
      (λ unasked faultless. absurd (h.asked_to_write refl unasked)) (broken_off_keeps words old.held new.held (h.broken refl)) h.read_only h.calls (h.broken_calls refl) h.uncalled

  -- a reply whose line was cut off
  cut_end : (r : Reply) → IsCutOff before.told now.told (string_bytes r.line) → Rose before.faults now.faults → IsReplied words old new (Ok r) → IsEnd words old new before now WriteFault
  cut_end r cut rose h = quiet_end WriteFault write_fault_quiet (λ is. cc) (λ is. cc) (λ is. cc) (λ is. inr rose) (λ is. cut_part words old.held new.held r.status (string_bytes r.line) before.told now.told h.does cut)
      (λ held status k files is says faultless. absurd (faultless.puts rose))
      (λ unasked faultless. absurd (faultless rose)) (done_keeps words old.held new.held r.status (string_bytes r.line) h.does) h.read_only h.calls (λ c asks. inl (r.status, h.called c asks)) h.uncalled

  -- so the run ends as is promised
  pub replied_end : (reply : Result Reply Quiet) (s : Status) → IsReplied words old new reply → IsPut before now reply s → IsEnd words old new before now s
  replied_end (Ok r) s h (inl (is, told)) = subst (IsEnd words old new before now) (sym is) (told_end r.status (string_bytes r.line) h.does h.called told h.read_only h.calls h.uncalled)
  replied_end (Ok r) s h (inr (is, cut, rose)) = subst (IsEnd words old new before now) (sym is) (cut_end r cut rose h)
  replied_end (Err quiet.Memory) s h (is, untold) = subst (IsEnd words old new before now) (sym is) (memory_end untold h)
  replied_end (Err quiet.ReadFault) s h (is, untold) = subst (IsEnd words old new before now) (sym is) (read_fault_end untold h)
  replied_end (Err quiet.WriteFault) s h (is, untold) = subst (IsEnd words old new before now) (sym is) (write_fault_end untold h)

-- want of memory, where nothing was done
pub nothing_done : (words : List (List ℕ)) (store : StoreSeen) (sink : SinkSeen) → IsEnd words store store sink sink Memory
nothing_done words store sink = replied_end words store store sink sink (Err quiet.Memory) Memory
    (record {
      does = tt;
      cause = λ is. cc;
      unread = λ is. cc;
      memory = λ is. inl refl;
      unwritten = λ is. cc;
      broken = λ is. cc;
      asked = λ is. cc;
      asked_to_write = λ is. cc;
      read_only = λ is. refl;
      calls = λ c asks. omega arith;
      uncalled = λ is. refl;
      called = tt;
      stopped = λ is. cc;
      broken_calls = λ is. cc;
    })
    (refl, refl)

-- words that were refused, and whose line was put
pub refusal : (store : StoreSeen) (before now : SinkSeen) (reply : Result Reply Quiet) (s : Status) → IfOk reply (λ r. (r.status ≡ Words) × (string_bytes r.line ≡ words_line)) → (IsErrOf reply quiet.ReadFault → ⊥) → (IsErrOf reply quiet.WriteFault → ⊥)
    → IsPut before now reply s → IsRefusal store store before now s
refusal store before now (Ok r) s says read write (inl (is, told)) =
    let same : s ≡ Words = is ∙ says.0 in
    record { unread = refl; words = λ _. subst (IsTold before.told now.told) says.1 told; memory = λ e. cc; write_fault = λ e. cc; no_other = inl same }
refusal store before now (Ok r) s says read write (inr (is, cut, rose)) =
    record { unread = refl; words = λ e. cc; memory = λ e. cc; write_fault = λ _. (rose, subst (IsCutOff before.told now.told) says.1 cut); no_other = inr (inr is) }
refusal store before now (Err quiet.Memory) s says read write (is, untold) =
    record { unread = refl; words = λ e. cc; memory = λ _. untold; write_fault = λ e. cc; no_other = inr (inl is) }
refusal store before now (Err quiet.ReadFault) s says read write (is, untold) = absurd (read refl)
refusal store before now (Err quiet.WriteFault) s says read write (is, untold) = absurd (write refl)

pub no_refusal : (store : StoreSeen) (sink : SinkSeen) → IsRefusal store store sink sink Memory
no_refusal store sink = record { unread = refl; words = λ e. cc; memory = λ _. refl; write_fault = λ e. cc; no_other = inr (inl refl) }
