-- Bytes are a text if they are UTF-8.
use Rattle.redcode_scene.proofs.Texts.{is_no_text, is_text}
use Rattle.redcode_scene.proofs.nearest.text_in.Goals as goal

pub returns-in-Ok : goal.returns-in-Ok
returns-in-Ok c = (c.in-Ok.ensures.cases.0, is_text _ c.in-Ok.ensures.cases.1)

pub returns-in-Err : goal.returns-in-Err
returns-in-Err c = is_no_text _ c.in-Err.ensures.cases.0
