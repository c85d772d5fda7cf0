-- One character more, and all of them at the end.
use Rattle.{std.proofs.Common.{[], ◌∷◌, ◌++◌, sym, ap, ◌∙◌, append-nil, map-id}, std.specs.List.flat_map, std.proofs.lemmas.Iterator.YieldsList-from_chars}
use Rattle.{std.proofs.{lemmas.Iterator.Consumers.YieldsList-end, lemmas.List.Concat.flat_map-append}, koth_text.specs.Escape.character_text, koth_text.proofs.Steps.put_behind}
use Rattle.koth_text.proofs.escape.put_characters.Goals as goal

pub loop-character-preserved : goal.loop-character-preserved
loop-character-preserved g c =
    let loop = c.loop-character in
    let character = c.in-Some.character in
    let so_far = flat_map character_text loop.yielded in
    put_behind c.args.page.now.items so_far (character_text character) (flat_map character_text (loop.yielded ++ character ∷ [])) loop.page.items c.put_character.new.page.items loop.invariant c.in_ok-put_character.ensures
    (flat_map-append character_text loop.yielded (character ∷ []) ∙ ap (λ l. so_far ++ l) (append-nil (character_text character)))

pub returns : goal.returns
returns g c =
    let loop = c.loop-character in
    let end = YieldsList-end (YieldsList-from_chars c.args.text.now c.utf8.text cc) loop.yielded _ loop.yielded_by _ _ c.in-None.is c.next.ensures.steps in
    loop.invariant ∙ ap (λ cs. c.args.page.now.items ++ flat_map character_text cs) (sym (map-id loop.yielded) ∙ end.0)
