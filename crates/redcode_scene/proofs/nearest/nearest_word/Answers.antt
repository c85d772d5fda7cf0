-- What is suggested of the reserved words for the text in upper case.
use Rattle.std.proofs.Common.{◌∙◌, map, option_map, refl}
use Rattle.std.specs.Char.{to_ascii_uppercase}
use Rattle.redcode_scene.{specs.Nearest.{reserved}, proofs.{Suggested.{suggests-of}, Texts.{text-of}}}
use Rattle.redcode_scene.proofs.nearest.nearest_word.Goals as goal

pub returns : goal.returns
returns g c =
    suggests-of (option_map text-of) c.as_slice.result.now (map to_ascii_uppercase c.args.text.now) reserved reserved c.nearest_among.result
    (c.as_slice.ensures.value ∙ c.in_ok-upper.ensures.ok) refl c.nearest_among.ensures
