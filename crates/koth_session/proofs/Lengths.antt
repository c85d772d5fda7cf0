-- The line of a reply is short, for `put_reply`.
use Rattle.{std.proofs.{Common.{ℕ, ◌^◌, ◌<◌, ◌≤◌, length, decimal, arith}, lemmas.Fmt.length-decimal-le, lemmas.List.length-append}, war_types.specs.declared.fault.AsmFault.AsmFault}
use Rattle.{hill_store.specs.declared.reply.Reply.Reply, koth_protocol.proofs.KindNames.kind_is_short, koth_session.specs.Reply.reply_line}

number : (n : ℕ) → n < 2 ^ 64 → length (decimal n) ≤ 20
number n small = length-decimal-le 20 n (omega arith) (omega (arith, small)) small

pub placed : (entry rank score : ℕ) → entry < 2 ^ 64 → rank < 2 ^ 32 → score < 2 ^ 32 → length (reply_line (Reply.Placed entry rank score)) ≤ 96
placed entry rank score e r s =
    let first = number entry e in
    let second = number rank (omega (arith, r)) in
    let third = number score (omega (arith, s)) in
    simp length-append (omega (arith, first, second, third))

pub fell : (entry score : ℕ) → entry < 2 ^ 64 → score < 2 ^ 32 → length (reply_line (Reply.Fell entry score)) ≤ 96
fell entry score e s =
    let first = number entry e in
    let second = number score (omega (arith, s)) in
    simp length-append (omega (arith, first, second))

pub refused : (fault : AsmFault) → fault.line < 2 ^ 32 → length (reply_line (Reply.Refused fault)) ≤ 96
refused fault small =
    let first = number fault.line (omega (arith, small)) in
    let second = kind_is_short fault.kind in
    simp length-append (omega (arith, first, second))
