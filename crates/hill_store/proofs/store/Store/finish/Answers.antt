use Rattle.{std.proofs.Common.{◌∙◌, ap}, koth_hill.specs.declared.verdict.Verdict.Verdict, hill_images.proofs.Submitted.verdict_is}
use Rattle.hill_store.proofs.store.Store.finish.Goals as goal

pub pass-requires-clause-entry : goal.pass-requires-clause-entry
pass-requires-clause-entry g c = ap (λ (v : Verdict). v.entry) c.requires.verdict ∙ (verdict_is c.args.self.now.hill c.args.submission.warrior).2
