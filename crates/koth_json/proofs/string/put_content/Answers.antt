-- A step puts the bytes up to one that is no UTF-8, and the end puts the rest.
use Rattle.{std.proofs.Common.{◌-◌, ◌++◌, length, take, drop, sym, ap, ◌∙◌}, std.proofs.lemmas.List.take_rest, std.specs.List.flat_map}
use Rattle.koth_json.{specs.Strings.{byte_text, mended}, proofs.Mended.{mended-text, put-spoilt}}
use Rattle.koth_json.proofs.string.put_content.Goals as goal

pub loop-fault-preserved : goal.loop-fault-preserved
loop-fault-preserved g c =
    let rest = c.loop-fault.rest.now in
    let others = c.split_at.result.1.now in
    let valid = c.valid_up_to.result in
    put-spoilt (c.args.line.now.items ++ flat_map byte_text (mended c.args.bytes.now)) c.loop-fault.line.items c.put_bytes.new.line.items c.extend_from_slice.new.self.items rest (take (length others - 1) (drop 1 others))
    valid (c.valid_up_to.ensures ∙ c.in-Err.ensures.valid_len) (rw c.valid_up_to.ensures (c.in-Err.ensures.cases.1.short))
    (c.in_ok-put_bytes.ensures ∙ ap (λ bs. c.loop-fault.line.items ++ flat_map byte_text bs) c.split_at.ensures.front)
    c.in_ok-extend_from_slice.ensures.items (take_rest others 1 ∙ ap (drop 1) c.split_at.ensures.back) c.loop-fault.invariant

pub returns : goal.returns
returns g c =
    c.in_ok-put_bytes-2.ensures ∙ ap (λ bs. c.loop-fault.line.items ++ flat_map byte_text bs) (sym (mended-text c.loop-fault.rest.now c.in_default.ensures.cases.1)) ∙ c.loop-fault.invariant
