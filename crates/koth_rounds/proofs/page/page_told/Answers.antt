-- The page has the events of the round and what is said of it.
use Rattle.{std.proofs.{Common.{◌≡◌, ◌-◌, ◌∙◌, ap}, lemmas.Result.IfOk-weaker}, koth_watch.specs.{Page.round_page, declared.sentence.Told.Told}}
use Rattle.koth_rounds.specs.Page.{IsRoundText}
use Rattle.koth_rounds.proofs.page.page_told.Goals as goal

pub returns : goal.returns
returns g c =
    let s = c.args.settings.now in
    let older = c.args.older.now in
    let younger = c.args.younger.now in
    let replay = c.in_ok-replay.replay in
    let told = c.requires.told in
    IfOk-weaker c.round_page.result (λ page. page.items ≡ round_page older younger c.args.told.now replay)
    (λ page. IsRoundText s older younger c.args.round page.items)
    (λ page tells. record {
      replay = replay;
      story = told.story;
      plays = rw c.place_of-place.ensures.place at c.in_ok-replay.ensures.replay;
      ends = told.ends;
      tells = tells ∙ ap (λ (t : Told). round_page older younger t replay) told.tells;
    }) c.round_page.ensures.page
