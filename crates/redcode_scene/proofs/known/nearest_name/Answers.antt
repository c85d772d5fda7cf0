-- What is suggested of the names that are known.
use Rattle.std.proofs.Common.{◌∙◌, ap, map, option_map, refl}
use Rattle.redcode_scene.{specs.Nearest.{known_names}, proofs.{Suggested.{suggests-of}, Texts.{names-of, text-of}}}
use Rattle.redcode_scene.proofs.known.nearest_name.Goals as goal

pub returns : goal.returns
returns g c =
    let expanded = c.args.scene.now.expanded in
    let known = names-of expanded c.new-names.result.items c.add_names.new.names.items c.add_predefined.new.names.items c.as_slice.result.now
    c.in_ok-add_predefined.ensures c.in_ok-add_names.ensures c.new-names.ensures.items in
    suggests-of (option_map text-of) c.args.name.now c.args.name.now (map text-of c.as_slice-2.result.now) (known_names expanded c.args.scene.now.lines.items)
    c.nearest_among.result refl
    (ap (map text-of) c.as_slice-2.ensures.value ∙ known ∙ ap (known_names expanded) c.as_slice.ensures.value)
    c.nearest_among.ensures
