use Rattle.{std.proofs.Common.{◌+◌, ◌∙◌, List, ap, map, refl, sym}, koth_match.specs.declared.bout.Bout.Bout}
use Rattle.koth_hill.specs.{Kept.{Kept, fresh, kept_of, members_of, rows_of, verdict_kept}, Standings.standing_parts}
use Rattle.koth_hill.proofs.Hills.{judged-kept, last-judged, standings-judged}
use Rattle.koth_hill.proofs.hill.Hill.verdict_by.Goals as goal

pub judged-requires-clause-standings : goal.judged-requires-clause-standings
judged-requires-clause-standings g c =
    let es = c.self.inside.members.items in
    let seen = kept_of c.self.inside.settings c.self.inside.counter (members_of es) (rows_of es) in
    standings-judged seen c.as_slice.result.now c.as_slice-2.result.now _ c.requires.fought.0 c.self.invariant.0 (ap members_of c.as_slice.ensures.value) (ap rows_of c.as_slice.ensures.value)
    refl (c.requires.fought.1 ∙ ap (λ (k : Kept). fresh k c.requires.fought.0) (sym c.self.view_is))
    (ap (map standing_parts) c.as_slice-2.ensures.value ∙ c.with-standings.ensures)

pub judged-requires-clause-own : goal.judged-requires-clause-own
judged-requires-clause-own g c = last-judged c.as_slice-2.result.now _ _ (ap (map standing_parts) c.as_slice-2.ensures.value ∙ c.with-standings.ensures)

pub returns : goal.returns
returns g c = λ w. λ found.
    let es = c.self.inside.members.items in
    let seen = kept_of c.self.inside.settings c.self.inside.counter (members_of es) (rows_of es) in
    let same = c.as_slice.ensures.value in
    c.judged.ensures
    ∙ judged-kept seen c.as_slice.result.now c.as_slice-2.result.now _ w c.from.result (ap members_of same) (ap rows_of same)
    (ap (λ (bs : List Bout). record { entry = c.self.inside.counter + 1; bouts = bs }) (found ∙ ap (λ (k : Kept). fresh k w) (sym c.self.view_is)))
    (c.from.ensures ∙ c.capacity.ensures.value)
    (ap (map standing_parts) c.as_slice-2.ensures.value ∙ c.with-standings.ensures)
    ∙ ap (λ (k : Kept). verdict_kept k w) c.self.view_is
