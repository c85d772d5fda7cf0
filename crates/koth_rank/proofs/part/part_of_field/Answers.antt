-- The head, the rows and the end.
use Rattle.{std.proofs.Common.{[], ◌∙◌, ◌++◌, List, ℕ, ap, ap₂, sym}, koth_rank.proofs.Parts.{put_three}}
use Rattle.{koth_field.specs.Field.entrants_of, koth_standings.specs.PartText.{end_text, head_text, rows_text}, koth_rank.specs.Part.rows_of}
use Rattle.{koth_rank.proofs.Fought.as_many}
use Rattle.koth_rank.proofs.part.part_of_field.Goals as goal

pub returns : goal.returns
returns g c =
    let head = λ (settings field : List ℕ). head_text (record { number = c.args.share.number; count = c.args.share.count; settings = settings; field = field }) in
    let entrants = entrants_of c.args.members.now in
    let first = c.in_ok-put_head.ensures ∙ ap₂ (λ a b. a ++ b) c.new-text.ensures.items (ap₂ head (c.as_str.ensures.value ∙ c.in_ok-options.ensures) (c.as_str-2.ensures.value ∙ c.in_ok-field.ensures)) in
    let rows = c.in_ok-put_members.ensures ∙ ap (λ n. c.put_head.new.text.items ++ rows_text (rows_of entrants c.args.standings.now.counts n)) (sym (as_many c.args.members.now)) in
    let end = c.in_ok-put_end.ensures ∙ ap (λ m. c.put_members.new.text.items ++ end_text m) c.matches.ensures in
    put_three [] c.put_head.new.text.items c.put_members.new.text.items c.put_end.new.text.items _ _ _ first rows end
