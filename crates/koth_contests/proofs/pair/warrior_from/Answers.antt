-- Of a file no bytes are known.
use Rattle.{std.proofs.{Common.{option_copied, subst, sym}, KnownBytes.Keeps-refl}, koth_commands.specs.Streams.{From, is_input}}
use Rattle.koth_contests.{specs.Pair.IsTaken, proofs.Taken.unknown}
use Rattle.koth_contests.proofs.pair.warrior_from.Goals as goal

pub returns-in-Ok-clause-taken : goal.returns-in-Ok-clause-taken
returns-in-Ok-clause-taken g c =
    let s = c.args.settings.now in
    let i = g.I.Read.remaining c.args.input.now in
    let found = c.warrior_of-in-Ok.result in
    subst (λ source. From (is_input source) (IsTaken (option_copied c.args.definition) s found) i i) (sym c.in-File.is)
    (unknown (option_copied c.args.definition) s found _ _ c.warrior_of-in-Ok.ensures.taken, Keeps-refl i)
