-- One round more, and all of them at the end.
use Rattle.std.proofs.Common.{◌≡◌, ◌∙◌, ◌++◌, ap, arith, sym, append_assoc}
use Rattle.{std.specs.List.flat_map, koth_contests.specs.Rounds.{round_line, rounds_before, rounds_heading}, koth_contests.proofs.Due.{more_rounds}}
use Rattle.koth_contests.proofs.rounds.put_rounds.Goals as goal

pub loop-round-preserved : goal.loop-round-preserved
loop-round-preserved g c =
    let s = c.args.settings.now in
    let view = c.args.view in
    let before = c.args.text.now.items in
    let so_far = flat_map (round_line view) (rounds_before s c.args.older.now c.args.younger.now c.loop-round.round) in
    let played = round_line view c.round_of-played.result in
    record {
      text = c.in_ok-put_round.ensures ∙ ap (λ l. l ++ played) c.loop-round.invariant.text ∙ append_assoc before (rounds_heading view ++ so_far) played
          ∙ ap (λ l. before ++ l) (append_assoc (rounds_heading view) so_far played
          ∙ ap (λ p. rounds_heading view ++ (so_far ++ round_line view p)) c.round_of-played.ensures.played
          ∙ ap (λ l. rounds_heading view ++ l) (sym (more_rounds s c.args.older.now c.args.younger.now c.loop-round.round view)));
      settings = c.round_of-played.ensures.settings ∙ c.loop-round.invariant.settings;
    }

pub returns : goal.returns
returns g c =
    let all : c.loop-round.round ≡ c.args.settings.now.rounds = omega (arith, c.rounds-round-end.ensures.value) in
    rw all at c.loop-round.invariant.text
