-- What a store whose results are true answers, and what its hill is then: every pair fought again.
use Rattle.std.specs.Prelude.{◌≡◌, ℕ, true, false, List}
use Rattle.koth_hill.specs.{Hill.{Hill, IsHill}, Table.table, Kept.{Kept, AreTrue, fought, hill_in, table_kept}}
use Rattle.hill_store.specs.{declared.reply.Reply.Reply, Earned.{reply_of, step_source, kept_reply, kept_next}, Holding.is_answer}

-- a submission to a hill whose results are true
pub record IsAnew (old : Kept) (source : List ℕ) (reply : Reply) (new : Kept) : Type 0 where
  pub due : is_answer reply ≡ true → reply ≡ reply_of (hill_in old) source
  pub hill : is_answer reply ≡ true → hill_in new ≡ step_source (hill_in old) source
  pub same : is_answer reply ≡ false → new ≡ old
  pub still_true : AreTrue new

pub record LawsOfKept : Type 0 where
  -- the reply that is due by what is kept is the one that is due if every pair is fought again
  pub reply : (h : Hill) (source : List ℕ) → IsHill h → kept_reply (fought h) source ≡ reply_of h source
  -- the hill after a source is that of every pair fought again, and the results that it keeps stay true
  pub next : (h : Hill) (source : List ℕ) → IsHill h → kept_next (fought h) source ≡ fought (step_source h source)
  -- and so is the table
  pub rows : (h : Hill) → IsHill h → table_kept (fought h) ≡ table h
