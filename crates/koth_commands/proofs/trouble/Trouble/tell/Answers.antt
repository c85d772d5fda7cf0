-- The fault's word is told with what it was about, and so with some text.
use Rattle.{std.proofs.Common.subst, koth_commands.specs.Trouble.TellsAbout, koth_commands.proofs.Told.about_word}
use Rattle.koth_commands.proofs.trouble.Trouble.tell.Goals as goal

pub returns : goal.returns
returns g c =
    let before = g.E.Write.contents c.args.errors.now in
    let after = g.E.Write.contents c.tell_about.new.errors in
    let told = subst (λ word. TellsAbout word c.args.self.about before after) c.word.ensures c.tell_about.ensures in
    record { ends = c.status.ensures; word = about_word _ c.args.self.about before after told; about = told }
