-- The counts are those of one part more.
use Rattle.std.proofs.Common.{◌≡◌, ◌∙◌, ◌+◌, ◌*◌, ◌≤◌, All, length, refl, sym, ap, subst, arith}
use Rattle.koth_standings.{specs.{Standings.{StandingsParts, most_rounds, rounds_in}, Parts.added_up}, proofs.{Added.room_left, Joined.{part_is_few, still_few_up, sums_with}}}
use Rattle.koth_standings.proofs.standings.Standings.add_part.Goals as goal

pub put_part-requires-clause-room : goal.put_part-requires-clause-room
put_part-requires-clause-room g c = room_left _ c.self.invariant

pub put_part-requires-clause-rounds : goal.put_part-requires-clause-rounds
put_part-requires-clause-rounds g c = part_is_few c.args.part.now c.args.matches (omega (arith, c.requires.few)) c.requires.rounds

pub returns-clause-sums : goal.returns-clause-sums
returns-clause-sums g c parts is =
    let old = ap (λ (s : StandingsParts). s.counts) c.self.view_is in
    let new = c.put_part.ensures ∙ ap (λ counts. added_up counts c.args.part.now) old in
    new ∙ sums_with (length c.args.self.now.counts) parts c.args.self.now.counts c.args.part.now refl is

pub invariant_of-self : goal.invariant_of-self
invariant_of-self g c =
    let counts = ap (λ (s : StandingsParts). s.counts) c.self.view_is in
    let matches = ap (λ (s : StandingsParts). s.matches) c.self.view_is in
    record {
      rounds = subst (λ l. All (λ t. rounds_in t ≤ most_rounds * (c.self.inside.matches + c.args.matches)) l) (sym c.put_part.ensures)
          (still_few_up c.self.inside.counts.items c.args.part.now c.self.inside.matches c.args.matches (c.requires.many ∙ ap length (sym counts)) c.self.invariant.rounds c.requires.rounds);
      few = omega (arith, c.requires.few, matches);
    }
