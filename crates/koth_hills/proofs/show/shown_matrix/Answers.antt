-- As programs get it where the columns have no room.
use Rattle.{std.proofs.Common.{◌≡◌, ◌∙◌, IfOk, ap, subst, sym}, koth_hills.{specs.Width.longest_line, proofs.Shown.{with_room, without_room}}}
use Rattle.koth_hills.proofs.show.shown_matrix.Goals as goal

pub returns-then-longest_line-gt-TERMINAL_WIDTH : goal.returns-then-longest_line-gt-TERMINAL_WIDTH
returns-then-longest_line-gt-TERMINAL_WIDTH g c =
    let width_is = c.longest_line.ensures ∙ ap longest_line c.as_slice.ensures.value in
    subst (λ m. IfOk c.matches_text.result (λ text. text.items ≡ m))
    (sym (without_room c.args.hill.now c.longest_line.result _ c.in_ok-columns.ensures width_is c.if-longest_line-gt-TERMINAL_WIDTH.true)) c.matches_text.ensures

pub returns : goal.returns
returns g c =
    let width_is = c.longest_line.ensures ∙ ap longest_line c.as_slice.ensures.value in
    with_room c.args.hill.now c.longest_line.result _ c.in_ok-columns.ensures width_is c.if-longest_line-gt-TERMINAL_WIDTH.false
