-- What a write takes goes from what is left to what is written.
use Rattle.{std.proofs.{Common.{◌++◌, take}, KnownBytes.Appends-trans}, koth_text.proofs.Parts.moves_front}
use Rattle.koth_commands.proofs.stream.write_whole.Goals as goal

pub loop-rest-preserved : goal.loop-rest-preserved
loop-rest-preserved g c =
    let so_far = c.loop-rest.invariant in
    let rest = c.loop-rest.rest.now in
    let count = c.in-Ok.count in
    record {
      part = so_far.part ++ take count rest;
      split = moves_front _ so_far.part rest count so_far.split;
      written = Appends-trans _ _ _ _ _ so_far.written c.in-Ok.ensures.bytes;
    }
