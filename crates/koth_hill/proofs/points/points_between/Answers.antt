use Rattle.{std.proofs.Common.{ℕ, ◌<◌, ◌≤◌, ◌∙◌, ap, map, subst₂}, koth_hill.specs.{Hill.{older_points, younger_points}, Standings.standing_parts}}
use Rattle.koth_hill.proofs.Places.{entry_standing, earned-older, earned-younger, earned-none}
use Rattle.koth_hill.proofs.points.points_between.Goals as goal

pub returns-then-standings-i-clause-value : goal.returns-then-standings-i-clause-value
returns-then-standings-i-clause-value c =
    let ss = c.args.standings.now in
    c.older_points.ensures.value ∙ ap older_points c.result_between.ensures.value
    ∙ earned-older (map standing_parts ss) _ _
    (subst₂ (λ (x y : ℕ). x < y) (entry_standing ss c.args.i _ c.requires.one) (entry_standing ss c.args.j _ c.requires.other) c.if-standings-i.true)

pub returns-then-standings-j-clause-value : goal.returns-then-standings-j-clause-value
returns-then-standings-j-clause-value c =
    let ss = c.args.standings.now in
    c.younger_points.ensures.value ∙ ap younger_points c.result_between-then-standings-j.ensures.value
    ∙ earned-younger (map standing_parts ss) _ _
    (subst₂ (λ (x y : ℕ). x < y) (entry_standing ss c.args.j _ c.requires.other) (entry_standing ss c.args.i _ c.requires.one) c.if-standings-j.true)

pub returns-else-standings-j-clause-value : goal.returns-else-standings-j-clause-value
returns-else-standings-j-clause-value c =
    let ss = c.args.standings.now in
    earned-none (map standing_parts ss) _ _
    (subst₂ (λ (x y : ℕ). x ≤ y) (entry_standing ss c.args.j _ c.requires.other) (entry_standing ss c.args.i _ c.requires.one) c.if-standings-i.false)
    (subst₂ (λ (x y : ℕ). x ≤ y) (entry_standing ss c.args.i _ c.requires.one) (entry_standing ss c.args.j _ c.requires.other) c.if-standings-j.false)
