-- One character more, and all of them at the end.
use Rattle.{std.proofs.Common.{[], ◌∷◌, ◌++◌, sym, ap, ◌∙◌, append-nil, map-id}, std.specs.List.flat_map, std.proofs.lemmas.Iterator.YieldsList-from_chars}
use Rattle.{std.proofs.{lemmas.Iterator.Consumers.YieldsList-end, lemmas.List.Concat.flat_map-append}, koth_commands.specs.Name.{shown_in_lines, shown_lines}, koth_text.proofs.Steps.put_behind}
use Rattle.koth_commands.proofs.name.lines_text.Goals as goal

pub loop-character-preserved : goal.loop-character-preserved
loop-character-preserved g c =
    let loop = c.loop-character in
    let character = c.in-Some.character in
    let so_far = flat_map shown_in_lines loop.yielded in
    put_behind [] so_far (shown_in_lines character) (flat_map shown_in_lines (loop.yielded ++ character ∷ [])) loop.text.items c.put_in_lines.new.text.items loop.invariant c.in_ok-put_in_lines.ensures
    (flat_map-append shown_in_lines loop.yielded (character ∷ []) ∙ ap (λ l. so_far ++ l) (append-nil (shown_in_lines character)))

pub returns : goal.returns
unfolding shown_lines
returns g c =
    let loop = c.loop-character in
    let end = YieldsList-end (YieldsList-from_chars c.args.lines.now c.utf8.lines cc) loop.yielded _ loop.yielded_by _ _ c.in-None.is c.next.ensures.steps in
    loop.invariant ∙ ap (λ cs. flat_map shown_in_lines cs) (sym (map-id loop.yielded) ∙ end.0)
