-- The events of turn after turn, for `kept_turns` and `replay`.
use Rattle.std.proofs.Common.{◌≡◌, ℕ, zero, suc, ◌+◌, ◌*◌, ◌<◌, ◌≤◌, ◌⊎◌, ◌-◌, min, nat_lt, not, true, false, Bool, Option, Some, Result, Ok, Err, IfOk, Vec, slice_get, slice_index, List, [], ◌∷◌}
use Rattle.{std.proofs.Common.{◌++◌, length, get_or, replicate, inl, inr, refl, sym, ap, subst, ◌∙◌, append-nil, arith}, std.specs.List.flat_map, std.proofs.lemmas.Bool.cases_lt}
use Rattle.std.proofs.{lemmas.List.{length-map, map_push, take_all, take-append-le, get_or_append_left, get_or_push, length_push, length-replicate}, lemmas.List.Concat.flat_map-append}
use Rattle.{war_types.specs.{declared.settings.RawSettings.RawSettings, Warrior.WarriorParts}, mars_core.specs.{declared.round.Outcome.Outcome, declared.round.Side.Side, Cells.blank}}
use Rattle.{mars_core.specs.Round.{Round, opening, queue_of, is_over, after_turn, after_turns, outcome, IsRound}, koth_match.specs.{Match.{first_in, round_outcome}, Seeds.{position, seed_of_round}}}
use Rattle.koth_replay.specs.{declared.event.Event.Event, declared.opening.Opening.Opening, Picture.{picture, picture_of, drawn}, Turn.{core_events, process_events, turn_events}}
use Rattle.koth_replay.specs.{Replay.{ReplayParts, replay_parts, begun, blank_picture, first_picture, events_before, IsReplay}, Code.{turns_of, AreTurns, IsReplayOf}}
use Rattle.koth_replay.proofs.{Drawing.{core_draws, drawn-append, turn_draws}, Endings.{after_turns-next, front-found, plays-there, turns-counted}}

-- ---- what is told of a turn

-- the events that are put one after another are the turn's
pub turn_told : (r next : Round) (m : Side) (core waiting at : ℕ) (front : Option ℕ) (none begins changes all : List Event)
    → is_over r ≡ false → m ≡ r.to_move → core ≡ r.settings.core → front ≡ slice_get (queue_of m r) 0 → front ≡ Some at → waiting ≡ length (queue_of m r)
    → next ≡ after_turn r → none ≡ [] → begins ≡ none ++ Event.Turn m at ∷ [] → changes ≡ begins ++ core_events core r.core next.core
    → all ≡ changes ++ process_events (waiting - 1) (queue_of m next) → (is_over r ≡ false) × (all ≡ turn_events r)
unfolding turn_events
turn_told r next m core waiting at front none begins changes all o m_is core_is front_is found waiting_is next_is empty put_turn put_changes put_processes =
    let front_at : front ≡ Some (slice_index (queue_of m r) 0) = front-found m r front m_is o front_is in
    let same_at : at ≡ slice_index (queue_of m r) 0 = cc in
    let at_is : at ≡ slice_index (queue_of r.to_move r) 0 = same_at ∙ ap (λ side. slice_index (queue_of side r) 0) m_is in
    let many : waiting ≡ length (queue_of r.to_move r) = waiting_is ∙ ap (λ side. length (queue_of side r)) m_is in
    let cells_told : List Event = core_events core r.core next.core in
    let processes_told : List Event = process_events (waiting - 1) (queue_of m next) in
    let in_order : all ≡ Event.Turn m at ∷ (cells_told ++ processes_told) =
    put_processes ∙ ap (λ l. l ++ processes_told) (put_changes ∙ ap (λ l. l ++ cells_told) (put_turn ∙ ap (λ l. l ++ Event.Turn m at ∷ []) empty)) in
    (o, in_order ∙ (λ t. Event.Turn (m_is t) (at_is t) ∷ (core_events (core_is t) r.core (next_is t).core ++ process_events (many t - 1) (queue_of (m_is t) (next_is t)))))

-- ---- before the first turn

none-drawn : (start : Round) (n : ℕ) → n ≤ 0 → drawn (picture_of start) (events_before n []) ≡ picture_of (after_turns n start)
unfolding after_turns
none-drawn start zero within = refl
none-drawn start (suc n) within = absurd (omega (arith, within))

AreTurns-none : (start : Round) → AreTurns start []
AreTurns-none start = record { draw = λ n within. none-drawn start n within; tell = λ n below. absurd (omega (arith, below)) }

pub no-turns : {A : Type 0} (start : Round) (turns : List (Vec Event A)) → turns ≡ [] → AreTurns start (turns_of turns)
no-turns {A} start turns none = subst (λ (ts : List (Vec Event A)). AreTurns start (turns_of ts)) (sym none) (AreTurns-none start)

pub no-turns-yet : (r : Round) → r ≡ after_turns 0 r
unfolding after_turns
no-turns-yet r = refl

-- ---- one turn more

within_or_last : (n m : ℕ) → n ≤ m + 1 → (n ≤ m) ⊎ (n ≡ m + 1)
within_or_last n m h = elim (cases_lt m n) [ inl above ↦ inr (omega arith) | inr within ↦ inl within ]

-- the round after n turns and one more
pub one_more : (start now next : Round) (n : ℕ) → now ≡ after_turns n start → next ≡ after_turn now → next ≡ after_turns (n + 1) start
one_more start now next n is then =
    let same : suc n ≡ n + 1 = omega arith in
    then ∙ ap after_turn is ∙ sym (after_turns-next n start) ∙ ap (λ k. after_turns k start) same

module _ (start now next : Round) (turns : List (List Event)) (told : List Event) (are : AreTurns start turns) (now_is : now ≡ after_turns (length turns) start)
    (next_is : next ≡ after_turn now) (told_is : told ≡ turn_events now) (draws : drawn (picture_of now) told ≡ picture_of next) where
  -- as many turns as there were before
  before-drawn : (n : ℕ) → n ≤ length turns → drawn (picture_of start) (events_before n (turns ++ told ∷ [])) ≡ picture_of (after_turns n start)
  before-drawn n within =
      ap (λ (ts : List (List Event)). drawn (picture_of start) (flat_map (λ t. t) ts)) (take-append-le n turns (told ∷ []) within) ∙ are.draw n within

  all-events : events_before (length turns + 1) (turns ++ told ∷ []) ≡ events_before (length turns) turns ++ told
  all-events =
      let all : length (turns ++ told ∷ []) ≤ length turns + 1 = omega (arith, length_push turns told) in
      let those : length turns ≤ length turns = omega arith in
      ap (flat_map (λ t. t)) (take_all (length turns + 1) (turns ++ told ∷ []) all)
      ∙ flat_map-append (λ t. t) turns (told ∷ [])
      ∙ ap (λ l. flat_map (λ t. t) turns ++ l) (append-nil told)
      ∙ ap (λ ts. flat_map (λ t. t) ts ++ told) (sym (take_all (length turns) turns those))

  -- and with the new one
  last-drawn : (n : ℕ) → n ≡ length turns + 1 → drawn (picture_of start) (events_before n (turns ++ told ∷ [])) ≡ picture_of (after_turns n start)
  last-drawn n last =
      let those : length turns ≤ length turns = omega arith in
      let so_far : drawn (picture_of start) (events_before (length turns) turns) ≡ picture_of now = are.draw (length turns) those ∙ ap picture_of (sym now_is) in
      ap (λ k. drawn (picture_of start) (events_before k (turns ++ told ∷ []))) last
      ∙ ap (drawn (picture_of start)) all-events
      ∙ drawn-append (picture_of start) (events_before (length turns) turns) told
      ∙ ap (λ p. drawn p told) so_far
      ∙ draws
      ∙ ap picture_of (one_more start now next (length turns) now_is next_is ∙ ap (λ k. after_turns k start) (sym last))

  each-told : (n : ℕ) → n < length turns + 1 → get_or (turns ++ told ∷ []) n [] ≡ turn_events (after_turns n start)
  each-told n below = elim (cases_lt n (length turns)) [
    | inl before ↦ get_or_append_left turns (told ∷ []) [] n before ∙ are.tell n before
    | inr above ↦
        (let last : length turns ≡ n = omega arith in
        get_or_push turns told [] n last ∙ told_is ∙ ap turn_events (now_is ∙ ap (λ k. after_turns k start) last))
  ]

  AreTurns-more : AreTurns start (turns ++ told ∷ [])
  AreTurns-more = record {
    draw = λ n within.
        let most : n ≤ length turns + 1 = omega (arith, within, length_push turns told) in
        elim (within_or_last n (length turns) most) [ inl less ↦ before-drawn n less | inr last ↦ last-drawn n last ];
    tell = λ n below. let most : n < length turns + 1 = omega (arith, below, length_push turns told) in each-told n most;
  }

-- the events of one turn more, after the events so far
pub turns-more : {A : Type 0} (start now next : Round) (n : ℕ) (turns all : List (Vec Event A)) (told : Vec Event A) → AreTurns start (turns_of turns) → length turns ≡ n → now ≡ after_turns n start
    → IsRound now → next ≡ after_turn now → IsRound next → is_over now ≡ false → told.items ≡ turn_events now → all ≡ turns ++ told ∷ [] → AreTurns start (turns_of all)
turns-more {A} start now next n turns all told are many now_is round next_is next_round on told_is put =
    let items : Vec Event A → List Event = λ v. v.items in
    let so_many : n ≡ length (turns_of turns) = sym (length-map turns items ∙ many) in
    let next_here : IsRound (after_turn now) = subst IsRound next_is next_round in
    let draws : drawn (picture_of now) told.items ≡ picture_of next = ap (drawn (picture_of now)) told_is ∙ turn_draws now round next_here on ∙ ap picture_of (sym next_is) in
    subst (AreTurns start) (sym (ap turns_of put ∙ map_push items turns told))
    (AreTurns-more start now next (turns_of turns) told.items are (now_is ∙ ap (λ k. after_turns k start) so_many) next_is told_is draws)

-- ---- a replay

-- the turns that are kept, whether there are more, and how the round ended once these were played too
pub kept-of : {A : Type 0} (start now next last : Round) (o : Opening) (most m : ℕ) (none loaded : List Event) (turns : List (Vec Event A)) (end : Outcome) (more : Bool)
    → o.core ≡ start.settings.core → start.used ≡ 0 → none ≡ [] → loaded ≡ none ++ core_events o.core (replicate o.core blank) start.core
    → AreTurns start (turns_of turns) → now ≡ after_turns (length turns) start → now.used ≡ start.used + length turns → length turns ≤ most → (length turns < most → is_over now ≡ true)
    → more ≡ not (is_over now) → next ≡ after_turn now → last ≡ after_turns m next → is_over last ≡ true → end ≡ outcome last
    → IsReplayOf start o most (replay_parts o loaded (turns_of turns) end more)
kept-of {A} start now next last o most m none loaded turns end more core_is unused empty put are now_is now_used within over more_is next_is last_is ended end_is =
    let items : Vec Event A → List Event = λ v. v.items in
    let many : length (turns_of turns) ≡ length turns = length-map turns items in
    let counts = turns-counted start now next last most (length turns) m more unused now_is now_used within over more_is next_is last_is ended in
    record {
      opening = refl;
      loaded = put ∙ ap (λ l. l ++ core_events o.core (replicate o.core blank) start.core) empty ∙ ap (λ n. core_events n (replicate n blank) start.core) core_is;
      turns = are;
      count = many ∙ counts.count;
      cut = counts.cut;
      ends = end_is ∙ ap outcome (plays-there start now next last (length turns) m now_is next_is last_is ended);
    }

loaded-draws : (start : Round) (o : Opening) (loaded : List Event) → length start.core ≡ start.settings.core → blank_picture o ≡ picture (replicate start.settings.core blank) start.first start.second start.to_move
    → loaded ≡ core_events start.settings.core (replicate start.settings.core blank) start.core → drawn (blank_picture o) loaded ≡ picture_of start
loaded-draws start o loaded size blank_is loads =
    let blanks = replicate start.settings.core blank in
    ap (λ p. drawn p loaded) blank_is ∙ ap (drawn (picture blanks start.first start.second start.to_move)) loads
    ∙ core_draws start.settings.core blanks start.core start.first start.second start.to_move (length-replicate start.settings.core blank) size

-- what is kept of a round from its start on is its replay
pub is_replay : (s : RawSettings) (older younger : WarriorParts) (r most : ℕ) (start : Round) (o : Opening) (replay : ReplayParts) → start ≡ begun s older younger r → IsRound start
    → blank_picture o ≡ picture (replicate s.core blank) start.first start.second start.to_move → o.position ≡ position s (seed_of_round s r) → IsReplayOf start o most replay → IsReplay s older younger r most replay
unfolding round_outcome
is_replay s older younger r most start o replay is round blank_is position kept =
    let begins : first_picture replay ≡ picture_of start =
    ap (λ (x : Opening). drawn (blank_picture x) replay.loaded) kept.opening
    ∙ loaded-draws start o replay.loaded round.core.length (blank_is ∙ ap (λ (x : Round). picture (replicate x.settings.core blank) start.first start.second start.to_move) (sym is)) kept.loaded in
    record {
      begins = begins ∙ ap picture_of is;
      draws = λ n within.
          ap (λ p. drawn p (events_before n replay.turns)) begins ∙ kept.turns.draw n within ∙ ap (λ (x : Round). picture_of (after_turns n x)) is;
      count = kept.count ∙ ap (λ (x : Round). min most (after_turns (2 * x.settings.cycles) x).used) is;
      cut = kept.cut ∙ ap (λ (x : Round). nat_lt most (after_turns (2 * x.settings.cycles) x).used) is;
      ends = kept.ends ∙ ap (λ (x : Round). outcome (after_turns (2 * x.settings.cycles) x)) is;
      position = ap (λ (x : Opening). x.position) kept.opening ∙ position;
      loads = kept.loaded ∙ ap (λ (x : Round). core_events x.settings.core (replicate x.settings.core blank) x.core) is;
      tells = λ n below. kept.turns.tell n below ∙ ap (λ (x : Round). turn_events (after_turns n x)) is;
    }

-- ---- a round of a match

abbrev pub opening_at : ℕ → ℕ → ℕ → ℕ → Side → Opening
opening_at core at older younger mover = record { core = core; position = at; older = older; younger = younger; first = mover }

begun-here : (s settings : RawSettings) (older younger : WarriorParts) (r seed at : ℕ) (mover : Side) (start : Round) → settings ≡ s → seed ≡ seed_of_round s r → at ≡ position s seed → mover ≡ first_in r
    → start ≡ opening settings older younger at mover → start ≡ begun s older younger r
begun-here s settings older younger r seed at mover start settings_is seed_is at_is mover_is is =
    let there : at ≡ position s (seed_of_round s r) = at_is ∙ ap (position s) seed_is in
    is ∙ (λ t. opening (settings_is t) older younger (there t) (mover_is t))

blank-here : (s settings : RawSettings) (older younger : WarriorParts) (at core first_at second_at : ℕ) (mover : Side) (start : Round) → start ≡ opening settings older younger at mover → core ≡ s.core → first_at ≡ older.start
    → second_at ≡ at + younger.start → blank_picture (opening_at core at first_at second_at mover) ≡ picture (replicate s.core blank) start.first start.second start.to_move
blank-here s settings older younger at core first_at second_at mover start is core_is older_is younger_is =
    (λ t. picture (replicate (core_is t) blank) (older_is t ∷ []) (younger_is t ∷ []) mover)
    ∙ ap (λ (x : Round). picture (replicate s.core blank) x.first x.second x.to_move) (sym is)

-- what is kept of a round that begins as one of a match is its replay
pub replays : {E : Type 0} (s settings : RawSettings) (older younger : WarriorParts) (r most seed at core first_at second_at : ℕ) (mover : Side) (start : Round) (result : Result ReplayParts E)
    → settings ≡ s → seed ≡ seed_of_round s r → at ≡ position s seed → mover ≡ first_in r → start ≡ opening settings older younger at mover → IsRound start → core ≡ s.core → first_at ≡ older.start
    → second_at ≡ at + younger.start → IfOk result (IsReplayOf start (opening_at core at first_at second_at mover) most) → IfOk result (IsReplay s older younger r most)
replays s settings older younger r most seed at core first_at second_at mover start (Ok replay) settings_is seed_is at_is mover_is is round core_is older_is younger_is kept =
    is_replay s older younger r most start (opening_at core at first_at second_at mover) replay
    (begun-here s settings older younger r seed at mover start settings_is seed_is at_is mover_is is) round
    (blank-here s settings older younger at core first_at second_at mover start is core_is older_is younger_is)
    (at_is ∙ ap (position s) seed_is) kept
replays s settings older younger r most seed at core first_at second_at mover start (Err e) settings_is seed_is at_is mover_is is round core_is older_is younger_is kept = tt
