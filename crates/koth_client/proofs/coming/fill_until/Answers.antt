-- What a read gives follows what came before.
use Rattle.{std.proofs.Common.{◌-◌, rules, length, sym, subst}, std.specs.Io.KnownBytes.Consumes, std.proofs.KnownBytes.{Consumes-trans}, koth_client.proofs.Buffers.{take-put_mid_more}}
use Rattle.koth_client.proofs.coming.fill_until.Goals as goal

pub loop-filled-preserved : goal.loop-filled-preserved
loop-filled-preserved g c =
    let from = c.loop-filled.filled in
    let room = length c.loop-filled.buffer - from in
    let more = take-put_mid_more from room c.in-Ok.count c.loop-filled.buffer c.read.new.to c.loop-filled.invariant.0 c.in-Ok.ensures.within in
    (search rules, subst (Consumes _ _) (sym more) (Consumes-trans _ _ _ _ _ c.loop-filled.invariant.1 c.in-Ok.ensures.bytes.0))

pub returns-then-is_whole-clause-taken : goal.returns-then-is_whole-clause-taken
returns-then-is_whole-clause-taken g c =
    let from = c.loop-filled.filled in
    let room = length c.loop-filled.buffer - from in
    let more = take-put_mid_more from room c.in-Ok.count c.loop-filled.buffer c.read.new.to c.loop-filled.invariant.0 c.in-Ok.ensures.within in
    subst (Consumes _ _) (sym more) (Consumes-trans _ _ _ _ _ c.loop-filled.invariant.1 c.in-Ok.ensures.bytes.0)
