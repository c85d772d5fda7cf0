-- The round that was played is that of the match, from its beginning to its end.
use Rattle.std.proofs.Common.{◌≡◌, ◌∙◌, sym, ap, subst, MatchOption}
use Rattle.{mars_core.specs.Round.{Round, is_over, IsRound}, koth_replay.specs.{Replay.begun, Ending.IsMade, Story.{end_of, round_before}}}
use Rattle.koth_replay.proofs.Falls.{made-of, story-lost, story-tied}
use Rattle.koth_replay.proofs.ending.story_of.Goals as goal

pub last_turn-last-requires-clause-first : goal.last_turn-last-requires-clause-first
last_turn-last-requires-clause-first g c = c.first_in.ensures ∙ sym (ap (λ (r : Round). r.to_move) c.begin-place.ensures.begun)

pub last_turn-last-requires-clause-used : goal.last_turn-last-requires-clause-used
last_turn-last-requires-clause-used g c = ap (λ (r : Round). r.used) c.begin-place.ensures.begun

pub writer-writer-requires-clause-least : goal.writer-writer-requires-clause-least
writer-writer-requires-clause-least g c =
    (made-of _ _ c.is_lost.result c.last_turn-last.result c.only_if.result c.in-Some.made c.last_turn-last.ensures.last c.only_if.ensures c.in-Some.is).least

pub writer-writer-requires-clause-on : goal.writer-writer-requires-clause-on
writer-writer-requires-clause-on g c =
    ap (λ (r : Round). is_over (round_before c.in-Some.made.turn r)) (sym c.begin-place.ensures.begun)
    ∙ (made-of _ _ c.is_lost.result c.last_turn-last.result c.only_if.result c.in-Some.made c.last_turn-last.ensures.last c.only_if.ensures c.in-Some.is).on

pub returns-in-Some-clause-story : goal.returns-in-Some-clause-story
returns-in-Some-clause-story g c =
    let s = c.args.settings.now in
    let start : Round = begun s c.args.older.now c.args.younger.now c.args.round in
    let begins = c.begin-place.ensures.begun in
    let last = c.last_turn-last.new.arena in
    story-lost s c.args.older.now c.args.younger.now c.args.round last c.only_if.result c.last_turn-last.result c.in-Some.made c.is_lost.result
    c.processes-older_left.result c.processes-younger_left.result c.writer-writer.result c.fell.result
    (subst IsRound begins c.begin-place.ensures.round) (c.last_turn-last.ensures.end ∙ ap end_of begins)
    (subst (λ (r : Round). MatchOption c.last_turn-last.result (last ≡ r) (IsMade r last)) begins c.last_turn-last.ensures.last)
    c.processes-older_left.ensures.value c.processes-younger_left.ensures.value c.is_lost.ensures c.only_if.ensures c.in-Some.is
    c.writer-writer.ensures.writer c.fell.ensures

pub returns-in-None-clause-story : goal.returns-in-None-clause-story
returns-in-None-clause-story g c =
    let s = c.args.settings.now in
    let begins = c.begin-place.ensures.begun in
    let last = c.last_turn-last.new.arena in
    story-tied s c.args.older.now c.args.younger.now c.args.round last c.only_if.result c.last_turn-last.result c.is_lost.result
    c.processes-older_left.result c.processes-younger_left.result
    (c.last_turn-last.ensures.end ∙ ap end_of begins)
    (subst (λ (r : Round). MatchOption c.last_turn-last.result (last ≡ r) (IsMade r last)) begins c.last_turn-last.ensures.last)
    c.processes-older_left.ensures.value c.processes-younger_left.ensures.value c.is_lost.ensures c.only_if.ensures c.in-None.is
