-- One place more has the rounds of both.
use Rattle.std.proofs.Common.{◌≡◌, ◌≢◌, ℕ, ◌+◌, ◌*◌, ◌<◌, ◌≤◌, get_or, length, sym, ap, ap₂, ◌∙◌, subst, arith}
use Rattle.std.proofs.lemmas.{Bool.cases_eq, List.{get_or_default, get_or-set_same, get_or-set_other, length-set}, List.Elements.All-get_or}
use Rattle.{koth_text.specs.declared.tally.Tally.Tally, koth_standings.{specs.Standings.{at_place, both, most_matches, most_rounds, no_rounds, rounds_in}, proofs.Joined.{all_up, placed}}}
use Rattle.koth_standings.proofs.standings.put_part.Goals as goal

pub returns : goal.returns
returns g c = all_up c.args.counts.now.items c.args.part.now c.loop-place.counts.items c.loop-place.invariant.many
    (λ k below. c.loop-place.invariant.added k (omega (arith, below)))
