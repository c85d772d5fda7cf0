-- The turns are those of the round that is asked for.
use Rattle.{std.proofs.Common.{subst, sym, refl}, koth_rounds.specs.{Asked.HasNone, Ends.IsAnswer, Trace.{IsTraced, view_of}}}
use Rattle.koth_rounds.proofs.trace.answer_number.Goals as goal

pub returns : goal.returns
returns g c =
    let s = c.args.settings.now in
    let traced = c.args.traced in
    subst (IsAnswer s (view_of traced.form) (IsTraced s traced.round traced.last traced.form) (HasNone s traced.round)) (sym c.done.ensures) (record {
      older = c.args.pair.now.older;
      younger = c.args.pair.now.younger;
      older_comes = c.requires.pair.older;
      younger_comes = c.requires.pair.younger;
      number = c.args.number;
      asked = c.requires.shown;
      turns = c.in_ok-text.ensures;
      silent = refl;
    })
