use Rattle.{std.proofs.Common.{◌≡◌, List, ◌++◌, map, false, refl, sym, ap, subst, ◌∙◌}, redcode_text.specs.{declared.token.Token.Token, Tokens.pieces}}
use Rattle.{redcode_lines.specs.{Line.SourceLine, Views.line_read}, redcode_copies.specs.{Plain.{has_number, number_by}, Views.with_tokens}}
use Rattle.redcode_copies.proofs.WrittenLines.{plain-unchanged, plain-written}
use Rattle.redcode_copies.proofs.plain.plain_copy.Goals as goal

pub returns-then-not-has_counter : goal.returns-then-not-has_counter
returns-then-not-has_counter g c =
    let cs = g.C.Counters.counters c.args.counters.now in
    sym (plain-unchanged cs (with_tokens (line_read c.args.line) c.args.copy) c.requires.front c.requires.tokens
    (subst (λ (l : SourceLine). has_number cs l.tokens ≡ false) c.reading_of-line.ensures (sym c.if-not-has_counter.ensures)))

pub returns : goal.returns
returns g c =
    let read = c.reading_of-line.result in
    let before = c.in_ok-extend_from_slice.ensures.items ∙ ap (λ (ts : List Token). ts ++ c.split_at.result.0.now) c.in_ok-tokens.ensures.items ∙ c.split_at.ensures.front in
    let behind = c.in_ok-append_numbered.ensures
    ∙ ap (λ (ts : List Token). pieces c.extend_from_slice.new.self.items ++ map (number_by (g.C.Counters.counters c.args.counters.now)) (pieces ts)) c.split_at.ensures.back in
    plain-written (g.C.Counters.counters c.args.counters.now) (line_read c.args.line) c.args.copy (line_read read) read.tokens.now c.kept_count.result (pieces c.in_ok-front.front.items)
    (pieces c.extend_from_slice.new.self.items) (pieces c.append_numbered.new.out.items) c.requires.front c.requires.tokens c.reading_of-line.ensures refl c.kept_count.ensures.count
    (ap (λ (ts : List Token). pieces ts) c.in_ok-front.ensures.items) (ap (λ (ts : List Token). pieces ts) before) behind
