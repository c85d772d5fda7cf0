-- The counts are those of one match more.
use Rattle.std.proofs.Common.{◌∙◌, ◌+◌, length, ap, ap₂, sym}
use Rattle.koth_standings.specs.Standings.{StandingsParts, with_match}
use Rattle.koth_standings.proofs.Added.{one_longer, one_match, room_left}
use Rattle.koth_standings.proofs.standings.Standings.add.Goals as goal

pub put_match-requires-clause-room : goal.put_match-requires-clause-room
put_match-requires-clause-room g c = room_left _ c.self.invariant

pub returns-clause-counts : goal.returns-clause-counts
returns-clause-counts g c match_of ps is are =
    let old = ap (λ (s : StandingsParts). s.counts) c.self.view_is in
    let new = c.put_match.ensures ∙ ap (λ counts. with_match counts c.args.pair c.args.tally) old in
    record {
      counts = new ∙ ap₂ (λ counts t. with_match counts c.args.pair t) are.counts (sym is) ∙ one_match match_of ps c.args.pair (length c.args.self.now.counts) c.requires.pair;
      matches = ap (λ (s : StandingsParts). s.matches + 1) c.self.view_is ∙ ap (λ n. n + 1) are.matches ∙ sym (one_longer ps c.args.pair);
    }
