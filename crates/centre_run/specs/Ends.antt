-- All that is promised of a run that ends with a status: the clauses of the top call in one.
use Rattle.std.specs.Prelude.{◌≡◌, ◌⊎◌, ℕ, List, Option, Result, Ok, Err, string_bytes}
use Rattle.host_io.specs.Store.{Held, Rose}
use Rattle.centre_run.specs.declared.reply.Quiet.{Quiet}
use Rattle.centre_run.specs.declared.reply.Quiet.TheVariants as quiet
use Rattle.centre_run.specs.declared.reply.Reply.{Reply}
use Rattle.centre_run.specs.declared.status.Status.{Status}
use Rattle.centre_run.specs.declared.status.Status.TheVariants.{Done, Words, Refused, FlipBudget, Memory, ReadFault, WriteFault, No}
use Rattle.centre_words.specs.Words.{IsUnasked}
use Rattle.centre_run.specs.Runs.{Begins, KeepsOthers, IsReadOnly, HasReadCause, CallsOnce, IsFaultless, Completes, Tells, TellsPart, AsksToVerify, AllowsFewFlips, WritesHeadline, WritesReplayableBook, WritesSettledPlan, WritesBestAssignment, WritesAnswersThenSettling, WritesTurnsInOrder, WritesFewLateTurns, WritesProvedBound, WritesWhatVerifies, IsTold, IsCutOff}
use Rattle.printed_lines.specs.Lines.{words_line}
use Rattle.centre_run.specs.Calls.{CallsInOrder}

-- what is known of a store at one time
pub record StoreSeen : Type 0 where
  pub held : Option Held
  pub read_faults : ℕ
  pub write_faults : ℕ
  pub calls : ℕ

-- what is known of a sink at one time
pub record SinkSeen : Type 0 where
  pub told : Option (List ℕ)
  pub faults : ℕ

-- from a store and a sink as they were to what they are now
pub record IsEnd (words : List (List ℕ)) (old new : StoreSeen) (before now : SinkSeen) (status : Status) : Type 0 where
  pub done : status ≡ Done → Tells words old.held new.held Done before.told now.told
  pub words_refused : status ≡ Words → Tells words old.held new.held Words before.told now.told
  pub refused : status ≡ Refused → Tells words old.held new.held Refused before.told now.told
  pub budget : status ≡ FlipBudget → Tells words old.held new.held FlipBudget before.told now.told
  pub budget_is_short : status ≡ FlipBudget → AllowsFewFlips words old.held
  pub no : status ≡ No → Tells words old.held new.held No before.told now.told
  pub no_by_verify : status ≡ No → AsksToVerify words
  pub headline : status ≡ Done → WritesHeadline words old.held new.held
  pub replayable_book : status ≡ Done → WritesReplayableBook words old.held new.held
  pub settled : status ≡ Done → WritesSettledPlan words old.held new.held
  pub best_assignment : status ≡ Done → WritesBestAssignment words old.held new.held
  pub answers_then_settling : status ≡ Done → WritesAnswersThenSettling words old.held new.held
  pub turns_in_order : status ≡ Done → WritesTurnsInOrder words old.held new.held
  pub late_turns_are_few : status ≡ Done → WritesFewLateTurns words old.held new.held
  pub bound_below_plans : status ≡ Done → WritesProvedBound words old.held new.held
  pub verifies : status ≡ Done → WritesWhatVerifies words new.held before.told now.told
  pub memory : status ≡ Memory → (now.told ≡ before.told) × Begins words old.held new.held
  pub read_fault : status ≡ ReadFault → HasReadCause words old.held old.read_faults new.read_faults
  pub read_fault_kept : status ≡ ReadFault → (now.told ≡ before.told) × (new.held ≡ old.held)
  pub write_fault : status ≡ WriteFault → Rose old.write_faults new.write_faults ⊎ Rose before.faults now.faults
  pub write_fault_told : status ≡ WriteFault → TellsPart words old.held new.held before.told now.told
  pub complete : Completes words old.held (IsFaultless old.read_faults new.read_faults old.write_faults new.write_faults before.faults now.faults) status
  pub words_decide : IsUnasked words → ¬ Rose before.faults now.faults → (status ≡ Words) ⊎ (status ≡ Memory)
  pub kept : KeepsOthers words old.held new.held
  pub read_only : IsReadOnly words → new.write_faults ≡ old.write_faults
  pub calls : CallsOnce words old.calls new.calls
  pub in_order : CallsInOrder words old.held (Rose old.read_faults new.read_faults) status old.calls new.calls
  pub uncalled : IsUnasked words → new.calls ≡ old.calls

-- words were refused: the store stays, and the line that says so was put, or a first part of it where the sink failed, or nothing where there was no memory
pub record IsRefusal (old new : StoreSeen) (before now : SinkSeen) (status : Status) : Type 0 where
  pub unread : new ≡ old
  pub words : status ≡ Words → IsTold before.told now.told words_line
  pub memory : status ≡ Memory → now.told ≡ before.told
  pub write_fault : status ≡ WriteFault → Rose before.faults now.faults × IsCutOff before.told now.told words_line
  pub no_other : (status ≡ Words) ⊎ ((status ≡ Memory) ⊎ (status ≡ WriteFault))

-- the status of a run that prints nothing
abbrev pub quiet_status : Quiet → Status
quiet_status quiet.Memory = Memory
quiet_status quiet.ReadFault = ReadFault
quiet_status quiet.WriteFault = WriteFault

-- a reply was put: its line was told and the run ends with its status, or the sink failed and a first part was told. Where there is no reply, nothing was told
abbrev pub IsPut : SinkSeen → SinkSeen → Result Reply Quiet → Status → Type 0
IsPut before now (Ok reply) status =
    ((status ≡ reply.status) × IsTold before.told now.told (string_bytes reply.line))
    ⊎ ((status ≡ WriteFault) × IsCutOff before.told now.told (string_bytes reply.line) × Rose before.faults now.faults)
IsPut before now (Err why) status = (status ≡ quiet_status why) × (now.told ≡ before.told)
