-- The press queue: its works, and the step that each is.
use Rattle.std.specs.Prelude.{◌≡◌, ℕ, ◌+◌, if◌then◌else◌, ◌&&◌, List, [], ◌∷◌, ◌++◌, length, Some, None, Option, ◌==◌, nat_lt}
use Rattle.machines.specs.declared.reason.Reason.TheVariants.{QueueFull, QueueEmpty}
use Rattle.machines.specs.declared.queue_work.QueueWork.{QueueWork}
use Rattle.machines.specs.declared.queue_work.QueueWork.TheVariants.{Put, Take}
use Rattle.machines.specs.Machines.{StateMachine}
use Rattle.machines.specs.Outcomes.{refuses, if_known}
use Rattle.machines.specs.Works.{field, placed}

-- how many jobs may wait at most
abbrev pub most_jobs : ℕ
most_jobs = 16

-- the operations
abbrev pub putting : ℕ
putting = 4

abbrev pub taking : ℕ
taking = 5

-- a work as a number; its bytes: operation (1), zero (3), job (4)
abbrev pub queue_written : QueueWork → ℕ
queue_written (Put job) = placed 0 1 putting + placed 4 4 job
queue_written Take = placed 0 1 taking

-- the work that a number is, if it is one; taking names no job
abbrev pub queue_read : ℕ → Option QueueWork
queue_read work =
    if field 0 1 work == putting && field 1 3 work == 0 then Some (Put (field 4 4 work))
    else if field 0 1 work == taking && field 1 7 work == 0 then Some Take
    else None

-- a work is written as its bytes, and reads back
pub record WritesQueueWork (work : QueueWork) (n : ℕ) : Type 0 where
  pub writes : n ≡ queue_written work
  pub reads_back : queue_read n ≡ Some work

-- the oldest job is taken
abbrev pub takes : List ℕ → List ℕ × ℕ
takes [] = refuses [] QueueEmpty
takes (oldest ∷ jobs) = (jobs, oldest)

-- what a work does to the waiting jobs, the oldest first
abbrev pub queue_does : List ℕ → QueueWork → List ℕ × ℕ
queue_does jobs (Put job) =
    if nat_lt (length jobs) most_jobs
    then (jobs ++ job ∷ [], length jobs + 1)
    else refuses jobs QueueFull
queue_does jobs Take = takes jobs

-- the press queue: the waiting jobs, none when fresh
abbrev pub press_queue : StateMachine
press_queue =
    record {
      State = List ℕ;
      fresh = [];
      step = λ jobs work. if_known queue_does jobs (queue_read work);
    }
