-- The text has the turns of the round, all that it has or the last ones.
use Rattle.std.proofs.Common.{◌≡◌, ◌-◌, ◌*◌, ◌∙◌, ◌++◌, ℕ, List, length, ap, refl}
use Rattle.{mars_core.specs.Round.Round, koth_replay.specs.Replay.{IsReplay, begun}, koth_rounds.specs.{Trace.first_written, Turns.turns_text}, koth_rounds.proofs.Written.all_kept}
use Rattle.koth_rounds.proofs.traced.trace_text.Goals as goal

pub returns : goal.returns
returns g c =
    let s = c.args.settings.now in
    let older = c.args.older.now in
    let younger = c.args.younger.now in
    let replay = c.in_ok-replay.replay in
    let story = c.story_of-story.result in
    let start = begun s older younger (c.args.round - 1) in
    let plays : IsReplay s older younger (c.args.round - 1) (2 * s.cycles) replay =
    rw c.place_of-place.ensures.place at (rw c.cycles-most.ensures.value at c.in_ok-replay.ensures.replay) in
    let form = c.args.form in
    let from = c.first_written-from.result in
    record {
      replay = replay;
      story = story;
      plays = plays;
      whole = all_kept (2 * s.cycles) (length replay.turns) start refl plays.count;
      ends = rw c.place_of-place.ensures.place at c.story_of-story.ensures.story;
      tells = c.in_ok-put_turns.ensures
          ∙ ap (λ l. l ++ turns_text form c.core.result c.begin.new.arena replay.turns story from) c.new-text.ensures.items
          ∙ ap (λ n. turns_text form n c.begin.new.arena replay.turns story from) c.core.ensures.value
          ∙ ap (λ (r : Round). turns_text form s.core r replay.turns story from) (c.begin.ensures ∙ ap (begun s older younger) c.place_of-place.ensures.place)
          ∙ ap (turns_text form s.core start replay.turns story) (c.first_written-from.ensures.first ∙ ap (first_written c.args.last) c.turns.ensures);
    }
