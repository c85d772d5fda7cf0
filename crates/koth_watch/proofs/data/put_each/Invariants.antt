-- The events so far are put.
use Rattle.{std.proofs.Common.{◌≡◌, ◌++◌, take}, std.specs.List.{enumerate_from, flat_map}, koth_watch.specs.Data.event_at}
use Rattle.koth_watch.proofs.data.put_each.Given as goal

abbrev pub invariant-loop-place : goal.invariant-loop-place
invariant-loop-place g l = l.page.items ≡ l.fn.page.items ++ flat_map (λ (place, event). event_at l.core place event) (enumerate_from 0 (take l.place l.events))
