-- The word is what messages call its source.
use Rattle.{std.proofs.Common.{OnOk, subst}, koth_contests.specs.Opponents.{PutsFiles, names_of}}
use Rattle.koth_contests.proofs.opponents.put_missed.Goals as goal

pub returns : goal.returns
returns g c = subst (λ w. OnOk c.put_alone.result (PutsFiles w (names_of c.args.opponents.now.items) (names_of c.put_alone.new.opponents.items)))
    c.source_name-name.ensures c.put_alone.ensures
