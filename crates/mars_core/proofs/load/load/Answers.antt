use Rattle.mars_core.proofs.Loads.{IsCore-blank, loaded-put}
use Rattle.mars_core.proofs.load.load.Goals as goal

pub put_code-requires-clause-core : goal.put_code-requires-clause-core
put_code-requires-clause-core g c = IsCore-blank c.args.size c.args.core.now c.clear.new.self c.requires.core c.clear.ensures

pub returns-clause-value : goal.returns-clause-value
returns-clause-value g c =
    loaded-put c.args.code0.now c.args.code1.now c.args.core.now c.clear.new.self c.put_code.new.core c.put_code-2.new.core c.args.size c.args.position c.requires.apart c.requires.inside c.requires.core.length
    c.clear.ensures c.put_code.ensures.value c.put_code-2.ensures.value
