use Rattle.{std.proofs.Common.{ℕ, ◌∙◌, ap, ap₂, List, None, Some, map, false}, koth_match.specs.declared.bout.Bout.Bout, koth_hill.specs.Standings.{entries_in, kept_in, left, points_among, standing_parts}}
use Rattle.koth_hill.proofs.judging.fallen.Goals as goal

pub returns : goal.returns
returns c =
    ap₂ (λ (n : ℕ) (bouts : List Bout). record { entry = c.args.own.entry; stays = false; falls = Some c.args.own.entry; score = n; rank = 0; bouts = bouts }) (c.points.ensures ∙ ap (points_among (kept_in (map standing_parts c.args.standings.now)) (left None (entries_in (map standing_parts c.args.standings.now)))) c.requires.own.is) c.of.ensures
