use Rattle.mars_core.proofs.Loads.{paste-put}
use Rattle.mars_core.proofs.load.put_code.Goals as goal

pub loop-place-preserved : goal.loop-place-preserved
loop-place-preserved g c = record {
  value = paste-put c.args.core.now c.args.code.now c.loop-place.core c.put.new.self c.args.size c.args.position c.from.result c.loop-place.place c.of.result.instr _ c.requires.core c.requires.inside
      c.loop-place-test.true c.loop-place.invariant.value c.from.ensures c.of.ensures.instr c.put.ensures.value;
  core = c.put.ensures.core;
}
