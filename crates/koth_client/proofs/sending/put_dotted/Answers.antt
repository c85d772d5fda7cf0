-- One byte after the other.
use Rattle.std.proofs.Common.{◌≡◌, ◌∙◌, ℕ, ◌+◌, ◌<◌, ◌≤◌, ◌==◌, suc, Bool, true, List, [], ◌∷◌, ◌++◌, length, drop, get_or, ap, sym, arith, append_assoc, drop-cons}
use Rattle.koth_client.specs.Sending.{byte_sent, dotted_from, line_end}
use Rattle.koth_client.proofs.sending.put_dotted.Goals as goal

next_byte : (source : List ℕ) (i d : ℕ) → i < length source → drop i source ≡ get_or source i d ∷ drop (i + 1) source
next_byte source i d within =
    let next : suc i ≡ i + 1 = omega arith in
    drop-cons source i d within ∙ ap (λ n. get_or source i d ∷ drop n source) next

byte_more : (old new source whole : List ℕ) (starts : Bool) (i b : ℕ) → drop i source ≡ b ∷ drop (i + 1) source → new ≡ old ++ byte_sent starts b
    → old ++ dotted_from starts (drop i source) ≡ whole → new ++ dotted_from (b == 10) (drop (i + 1) source) ≡ whole
byte_more old new source whole starts i b next is so_far =
    ap (λ text. text ++ dotted_from (b == 10) (drop (i + 1) source)) is ∙ append_assoc old (byte_sent starts b) (dotted_from (b == 10) (drop (i + 1) source))
    ∙ ap (λ rest. old ++ dotted_from starts rest) (sym next) ∙ so_far

pub loop-byte-preserved : goal.loop-byte-preserved
loop-byte-preserved g c =
    let source = c.args.source.now in
    let place = c.loop-byte.byte-index in
    byte_more c.loop-byte.text.items c.put_byte.new.text.items source (c.args.text.now.items ++ dotted_from true source) c.loop-byte.starts place _
    (next_byte source place _ c.loop-byte-test.true) c.in_ok-put_byte.ensures c.loop-byte.invariant
