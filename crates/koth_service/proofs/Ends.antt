-- What has happened by the end of a service.
use Rattle.std.proofs.Common.{ℕ, ◌≤◌, arith, List, [], Option, None, Some, Result, Ok, Err, IfOk}
use Rattle.{war_types.specs.declared.settings.RawSettings.RawSettings, sector_disk.specs.Facts.DeviceFacts, hill_store.specs.{Holding.IsHolding, Seen.Seen}, koth_session.specs.declared.peers.Step.Step}
use Rattle.koth_service.specs.{Noted.Noted, Moment.{Happening, Start, ended_in, noted}, History.{IsHistory, Shows}, Held.AreHeld}
use Rattle.koth_service.specs.{Services.{EndsAsAsked, HaveEnded, IsServed}, Standing.{CameToBe, GoesOn, PeersNow, StandsAfter}}
use Rattle.{koth_service.specs.declared.connections.Stage.Stage, koth_service.proofs.Holdings.are_held}

-- as many have ended if more have
ended_on : (connections : Option ℕ) (few many : ℕ) → few ≤ many → HaveEnded connections few → HaveEnded connections many
ended_on None few many more done = done
ended_on (Some asked) few many more done =
    let least : asked ≤ few = done in
    let all : asked ≤ many = omega (arith, least, more) in all

module _ {S D A : Type 0} (happened : S → List Noted → Type 0) (facts : DeviceFacts D) (shows : Shows D) (start : Start D) (browsers : ℕ → Option (Stage A)) where
  so_far : {T F : Type 0} (connections : Option ℕ) (result : Result T F) (sockets : S) (peers : PeersNow A) (store : Seen D) (history : List (Happening D))
      → CameToBe happened facts shows start sockets peers browsers store history → IfOk result (λ nothing. HaveEnded connections (ended_in (noted history)))
      → IsServed happened facts shows start connections result sockets history
  so_far connections result sockets peers store history before done = record {
    logged = before.logged;
    follows = before.follows;
    held = λ s earlier holding. are_held facts s shows start earlier history holding before.follows;
    done = done;
  }

  -- the service ends when as many sessions have ended as were asked for
  pub so_far_done : {T F : Type 0} (connections : Option ℕ) (nothing : T) (sockets : S) (peers : PeersNow A) (store : Seen D) → HaveEnded connections peers.ended
      → GoesOn happened facts shows start sockets peers browsers store
      → (history : List (Happening D)) × IsServed {T = T} {F = F} happened facts shows start connections (Ok nothing) sockets history
  so_far_done connections nothing sockets peers store done on =
      (on.0, so_far connections (Ok nothing) sockets peers store on.0 on.1 (ended_on connections peers.ended (ended_in (noted on.0)) on.1.ended done))

  -- or with a fault
  pub so_far_failed : {T F : Type 0} (connections : Option ℕ) (fault : F) (sockets : S) (peers : PeersNow A) (store : Seen D) → GoesOn happened facts shows start sockets peers browsers store
      → (history : List (Happening D)) × IsServed {T = T} {F = F} happened facts shows start connections (Err fault) sockets history
  so_far_failed connections fault sockets peers store on = (on.0, so_far connections (Err fault) sockets peers store on.0 on.1 tt)

  pub so_far_after : {T F : Type 0} (connections : Option ℕ) (fault : F) (step : Step) (sockets : S) (peers : PeersNow A) (store : Seen D)
      → StandsAfter happened facts shows step start sockets peers browsers store
      → (history : List (Happening D)) × IsServed {T = T} {F = F} happened facts shows start connections (Err fault) sockets history
  so_far_after connections fault Step.Nobody sockets peers store on = so_far_failed connections fault sockets peers store on
  so_far_after connections fault (Step.Served n) sockets peers store on = so_far_failed connections fault sockets peers store on
  so_far_after connections fault (Step.Stepped n) sockets peers store on = so_far_failed connections fault sockets peers store on
  so_far_after connections fault (Step.PutOff n) sockets peers store on = so_far_failed connections fault sockets peers store on
  so_far_after connections fault (Step.Asked n) sockets peers store on = so_far_failed connections fault sockets peers store on
  so_far_after connections fault (Step.StoreFailed n) sockets peers store cut = (cut.0, so_far connections (Err fault) sockets peers store cut.0 cut.1 tt)

-- a service that ends with a fault before anything happened
pub at_once : {S D T F : Type 0} (happened : S → List Noted → Type 0) (facts : DeviceFacts D) (shows : Shows D) (start : Start D) (connections : Option ℕ) (fault : F) (sockets : S)
    → happened sockets [] → (history : List (Happening D)) × IsServed {T = T} {F = F} happened facts shows start connections (Err fault) sockets history
at_once happened facts shows start connections fault sockets none =
    ([], record { logged = none; follows = tt; held = λ s before holding. are_held facts s shows start before [] holding tt; done = tt })

-- ---- what is so of the history that has all

module _ {S D T F : Type 0} {happened : S → List Noted → Type 0} {facts : DeviceFacts D} {shows : Shows D} {start : Start D} {connections : Option ℕ} {result : Result T F} {sockets : S}
    (serves : (history : List (Happening D)) × IsServed happened facts shows start connections result sockets history) where
  pub durable_of : (history : List (Happening D)) × happened sockets (noted history)
      × ((s : RawSettings) (before : List (List ℕ)) → IsHolding facts s before start.store → AreHeld facts s before start history)
  durable_of = (serves.0, serves.1.logged, serves.1.held)

  pub history_of : (history : List (Happening D)) × happened sockets (noted history) × IsHistory facts shows start history
  history_of = (serves.0, serves.1.logged, serves.1.follows)

  pub end_of : (history : List (Happening D)) × happened sockets (noted history) × EndsAsAsked connections result history
  end_of = (serves.0, serves.1.logged, serves.1.done)
