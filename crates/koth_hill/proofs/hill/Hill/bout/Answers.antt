use Rattle.{std.proofs.Common.{◌∙◌, ap, map}, koth_hill.specs.{Kept.{kept_of, members_of, rows_of}, Standings.standing_parts}, koth_hill.proofs.Hills.{bout-kept, few-entrants}}
use Rattle.koth_hill.proofs.hill.Hill.bout.Goals as goal

pub returns : goal.returns
returns g c =
    let es = c.self.inside.members.items in
    bout-kept (kept_of c.self.inside.settings c.self.inside.counter (members_of es) (rows_of es)) c.args.self.now c.as_slice.result.now c.as_slice-2.result.now
    c.args.older_entry c.args.younger_entry c.result_of.result c.self.view_is (ap members_of c.as_slice.ensures.value) (ap rows_of c.as_slice.ensures.value)
    (ap (map standing_parts) c.as_slice-2.ensures.value ∙ c.of-standings.ensures.parts) c.result_of.ensures

pub of-standings-requires : goal.of-standings-requires
of-standings-requires g c =
    let es = c.self.inside.members.items in
    few-entrants (kept_of c.self.inside.settings c.self.inside.counter (members_of es) (rows_of es)) c.as_slice.result.now (ap members_of c.as_slice.ensures.value) c.self.invariant.0
