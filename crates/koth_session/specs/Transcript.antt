-- What a session answers, and the hill that it leaves.
use Rattle.std.specs.Prelude.{ℕ, List, [], ◌∷◌, ◌++◌, codes}
use Rattle.koth_hill.specs.{Hill.Hill, Table.table, Kept.{Kept, table_kept}}
use Rattle.hill_store.specs.Earned.{reply_of, step_source, kept_reply, kept_next}
use Rattle.{koth_protocol.specs.{Commands.Command, Table.show_text}, koth_session.specs.Reply.reply_line}

-- How a submission was answered: by its reply, and it is in the list. Or nothing was submitted, since memory ran out,
-- or since the device has taken as many headers as can be counted.
pub data Mark : Type 0 where
  Taken : Mark
  NoMemory : Mark
  Worn : Mark

-- a command that is answered
pub data Exchange : Type 0 where
  Submission : List ℕ → Mark → Exchange
  Table : Exchange
  BadLine : Exchange

abbrev pub command_in : Exchange → Command
command_in (Exchange.Submission source mark) = Command.Submit source
command_in Exchange.Table = Command.Show
command_in Exchange.BadLine = Command.Bad

abbrev pub commands_in : List Exchange → List Command
commands_in [] = []
commands_in (e ∷ es) = command_in e ∷ commands_in es

-- the answer on this hill, by the results that it keeps
abbrev pub answer : Kept → Exchange → List ℕ
answer hill (Exchange.Submission source Mark.Taken) = reply_line (kept_reply hill source)
answer hill (Exchange.Submission source Mark.NoMemory) = codes "MEMORY\n"
answer hill (Exchange.Submission source Mark.Worn) = codes "WORN\n"
answer hill Exchange.Table = show_text (table_kept hill)
answer hill Exchange.BadLine = codes "BAD\n"

-- the hill after it
abbrev pub hill_next : Kept → Exchange → Kept
hill_next hill (Exchange.Submission source Mark.Taken) = kept_next hill source
hill_next hill (Exchange.Submission source Mark.NoMemory) = hill
hill_next hill (Exchange.Submission source Mark.Worn) = hill
hill_next hill Exchange.Table = hill
hill_next hill Exchange.BadLine = hill

-- all answers, each on the hill that those before it left
abbrev pub transcript : Kept → List Exchange → List ℕ
transcript hill [] = []
transcript hill (e ∷ es) = answer hill e ++ transcript (hill_next hill e) es

abbrev pub hill_after : Kept → List Exchange → Kept
hill_after hill [] = hill
hill_after hill (e ∷ es) = hill_after (hill_next hill e) es

-- ---- every pair fought again

-- the answer on this hill
abbrev pub answer_anew : Hill → Exchange → List ℕ
answer_anew hill (Exchange.Submission source Mark.Taken) = reply_line (reply_of hill source)
answer_anew hill (Exchange.Submission source Mark.NoMemory) = codes "MEMORY\n"
answer_anew hill (Exchange.Submission source Mark.Worn) = codes "WORN\n"
answer_anew hill Exchange.Table = show_text (table hill)
answer_anew hill Exchange.BadLine = codes "BAD\n"

-- the hill after it
abbrev pub next_anew : Hill → Exchange → Hill
next_anew hill (Exchange.Submission source Mark.Taken) = step_source hill source
next_anew hill (Exchange.Submission source Mark.NoMemory) = hill
next_anew hill (Exchange.Submission source Mark.Worn) = hill
next_anew hill Exchange.Table = hill
next_anew hill Exchange.BadLine = hill

abbrev pub transcript_anew : Hill → List Exchange → List ℕ
transcript_anew hill [] = []
transcript_anew hill (e ∷ es) = answer_anew hill e ++ transcript_anew (next_anew hill e) es

abbrev pub after_anew : Hill → List Exchange → Hill
after_anew hill [] = hill
after_anew hill (e ∷ es) = after_anew (next_anew hill e) es

-- the sources of the submissions that are in the list
abbrev pub taken_of : Exchange → List (List ℕ) → List (List ℕ)
taken_of (Exchange.Submission source Mark.Taken) others = source ∷ others
taken_of (Exchange.Submission source Mark.NoMemory) others = others
taken_of (Exchange.Submission source Mark.Worn) others = others
taken_of Exchange.Table others = others
taken_of Exchange.BadLine others = others

abbrev pub submitted : List Exchange → List (List ℕ)
submitted [] = []
submitted (e ∷ es) = taken_of e (submitted es)
