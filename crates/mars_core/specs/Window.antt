-- Of the code alone: the processes of a side while many turns are made, those of next turns and the latest ones in an
-- array beside its queue.
use Rattle.std.specs.Prelude.{◌≡◌, ℕ, ◌+◌, ◌-◌, ◌<◌, ◌≤◌, min, Bool, true, false, List, ◌∷◌, length}
use Rattle.mars_core.specs.{declared.window.Window.Window, Queue.{Processes, processes, waiting, behind_front}, Round.is_empty}

-- the processes of a window before a queue, whose own front process has no meaning then
abbrev pub held : Window → List ℕ → Processes → Processes
held w places q = processes q.limit (w.front ∷ waiting w.head w.count places (behind_front q.addresses))

-- what a window keeps: if the queue has others, the window reaches to the end of its places
pub record IsWindow (w : Window) (places : List ℕ) (queue : Processes) : Type 0 where
  pub size : length places ≡ 1024
  pub head : w.head ≤ 1024
  pub front : w.front ≤ 65535
  pub room : w.room ≡ min 1023 (queue.limit - length queue.addresses)
  pub count : w.count ≤ w.room
  pub lives : is_empty queue.addresses ≡ false
  pub within : length queue.addresses ≤ queue.limit
  pub joined : 1 < length queue.addresses → 1024 ≤ w.head + w.count

-- the processes that a turn left, which were held: the last process of a side is kept until its window is closed
abbrev pub left_by : Bool → Processes → Processes
left_by false q = q
left_by true q = processes q.limit (behind_front q.addresses)
