use Rattle.{std.proofs.{Common.{◌∙◌, ◌++◌, ◌∷◌, [], List, ap, arith, map}, lemmas.List.map-append}, koth_hill.specs.Standings.{StandingParts, standing_parts}}
use Rattle.koth_hill.proofs.standings.Standings.with.Goals as goal

pub push-requires : goal.push-requires
push-requires g c = omega (arith, c.of-standings.ensures.each, c.requires)

pub returns : goal.returns
returns g c =
    ap (map standing_parts) c.push.ensures ∙ map-append standing_parts c.of-standings.result (c.args.challenger ∷ [])
    ∙ ap (λ (xs : List StandingParts). xs ++ standing_parts c.args.challenger ∷ []) c.of-standings.ensures.parts
