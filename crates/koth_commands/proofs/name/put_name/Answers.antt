-- One character more, and all of them at the end.
use Rattle.{std.proofs.Common.{[], ◌∷◌, ◌++◌, sym, ap, ◌∙◌, append-nil, map-id}, std.specs.List.flat_map, std.proofs.lemmas.Iterator.YieldsList-from_chars}
use Rattle.{std.proofs.{lemmas.Iterator.Consumers.YieldsList-end, lemmas.List.Concat.flat_map-append}, koth_commands.specs.Name.{shown_character, shown_name}, koth_text.proofs.Steps.put_behind}
use Rattle.koth_commands.proofs.name.put_name.Goals as goal

pub loop-character-preserved : goal.loop-character-preserved
loop-character-preserved g c =
    let loop = c.loop-character in
    let character = c.in-Some.character in
    let so_far = flat_map shown_character loop.yielded in
    put_behind c.args.text.now.items so_far (shown_character character) (flat_map shown_character (loop.yielded ++ character ∷ [])) loop.text.items c.put_character.new.text.items loop.invariant c.in_ok-put_character.ensures
    (flat_map-append shown_character loop.yielded (character ∷ []) ∙ ap (λ l. so_far ++ l) (append-nil (shown_character character)))

pub returns : goal.returns
unfolding shown_name
returns g c =
    let loop = c.loop-character in
    let end = YieldsList-end (YieldsList-from_chars c.args.name.now c.utf8.name cc) loop.yielded _ loop.yielded_by _ _ c.in-None.is c.next.ensures.steps in
    loop.invariant ∙ ap (λ cs. c.args.text.now.items ++ flat_map shown_character cs) (sym (map-id loop.yielded) ∙ end.0)
