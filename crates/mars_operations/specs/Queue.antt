-- Of the code alone: the queue that it keeps for a side, its steps on a list of addresses, and the parts that hold it.
-- No definition of turns and rounds names a word of this file but `is_empty`.
use Rattle.std.specs.Prelude.{◌≡◌, ℕ, ◌+◌, ◌-◌, ◌<◌, ◌≤◌, Bool, true, false, List, [], ◌∷◌, ◌++◌, length, take, drop, Some, None, Option}
use Rattle.circular_buffer.specs.Buffer.{Buffer}

-- a queue is its addresses, front first, and the number that it may hold
pub record Processes : Type 0 where
  pub limit : ℕ
  pub addresses : List ℕ

abbrev pub processes : ℕ → List ℕ → Processes
processes limit addresses = record { limit = limit; addresses = addresses }

-- first in, first out, and at most the limit
abbrev pub queued : Processes → List ℕ → Processes
queued q more = processes q.limit (take q.limit (q.addresses ++ more))

abbrev pub is_empty : List ℕ → Bool
is_empty [] = true
is_empty (x ∷ xs) = false

abbrev pub front : List ℕ → Option ℕ
front [] = None
front (x ∷ xs) = Some x

abbrev pub behind_front : List ℕ → List ℕ
behind_front [] = []
behind_front (x ∷ xs) = xs

-- the front process, if there is one, and a ring of those after it; the queue may hold one more than the ring
abbrev pub processes_in : Bool → ℕ → Buffer ℕ → Processes
processes_in false front rest = processes (rest.capacity + 1) []
processes_in true front rest = processes (rest.capacity + 1) (front ∷ rest.items)

-- what holds of the parts of a queue: without a front process the ring is empty
pub record AreQueueParts (has_front : Bool) (front : ℕ) (rest : Buffer ℕ) : Type 0 where
  pub none : has_front ≡ false → rest.items ≡ []
  pub address : front ≤ 65535
  pub room : length rest.items ≤ rest.capacity
  pub small : rest.capacity < 65535

-- the processes after the front one, if an array beside a queue holds some: the first ones, from the head on to the end
-- of the places, then those of the queue, then the last ones, from the beginning of the places on
unfoldable pub waiting : ℕ → ℕ → List ℕ → List ℕ → List ℕ
waiting head count places queue = take count (drop head places) ++ (queue ++ take (head + count - length places) places)
