-- What is read is what the text writes.
use Rattle.koth_words.proofs.Addresses.{writes_none, writes_one}
use Rattle.koth_words.proofs.serving.writes_address.Goals as goal

pub returns-in-Ok : goal.returns-in-Ok
returns-in-Ok c = writes_one c.args.text.now c.parse.result c.in-Ok.address c.is_of_many.result c.in-Ok.is c.parse.ensures.value c.is_of_many.ensures

pub returns-in-Err : goal.returns-in-Err
returns-in-Err c = writes_none c.args.text.now c.parse.result _ c.in-Err.is c.parse.ensures.value
