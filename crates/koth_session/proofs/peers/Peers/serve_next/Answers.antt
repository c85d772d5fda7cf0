-- One peer is served, or a step of its submission is made, or its source is put off, or nobody is served.
use Rattle.{std.proofs.{Common.{◌≡◌, ◌∙◌, ◌+◌, None, Some, ap, false, get_or, set, subst, sym, true}, lemmas.List.get_or_read}, koth_session.specs.{Judge.fighting, Peers.{IsNext, IsOfIn, IsPutOff, IsServed, IsStepped, asks_at, asks_in, goes_first_at, is_sought_in, may_serve_in, turn_after}}}
use Rattle.koth_session.proofs.{FirstDue.sought_first, Fights.{of_in, put_off_of, served_of, stepped_of}, Slots.moves_written, Steps.serves_next}
use Rattle.koth_session.specs.declared.turns.Turn.{Turn}
use Rattle.koth_session.proofs.peers.Peers.serve_next.Goals as goal

pub serve_at-requires : goal.serve_at-requires
serve_at-requires g c =
    let slots = c.args.self.now.slots.items in
    let n = c.in-Some.number in
    let share = c.args.has_share in
    let busy = fighting c.args.judge.now.under_way in
    let first : IsNext share busy slots c.args.self.now.next n =
    subst (λ b. IsNext share b slots c.args.self.now.next n) c.busy-busy.ensures (subst (λ s. IsNext share c.busy-busy.result s c.args.self.now.next n) c.as_slice.ensures.value c.in-Some.ensures) in
    subst (λ s. may_serve_in busy n s ≡ true) (sym (get_or_read slots n c.index_mut.result.now first.within c.index_mut.ensures.value None)) first.due

pub returns-in-Ok-clause-serves : goal.returns-in-Ok-clause-serves
returns-in-Ok-clause-serves g c = λ of.
    let slots = c.args.self.now.slots.items in
    let n = c.in-Some.number in
    let judge = c.args.judge.now in
    let share = c.args.has_share in
    let start = c.args.self.now.next in
    let busy = fighting judge.under_way in
    let slot = c.serve_at.new.slot in
    let now = c.serve_at.new.judge in
    let first : IsNext share busy slots start n =
    subst (λ b. IsNext share b slots start n) c.busy-busy.ensures (subst (λ s. IsNext share c.busy-busy.result s start n) c.as_slice.ensures.value c.in-Some.ensures) in
    let its : IsOfIn n c.index_mut.result.now judge =
    subst (λ s. IsOfIn n s judge) (sym (get_or_read slots n c.index_mut.result.now first.within c.index_mut.ensures.value None)) (of_in n slots judge of) in
    let taken : asks_at slots n ≡ false =
    subst (λ s. asks_in s ≡ false) (get_or_read slots n c.index-slot.result.now first.within c.index-slot.ensures None) (sym c.asks.ensures ∙ c.if-asks.false) in
    let comes : c.may_serve-is_first.result ≡ goes_first_at share busy slots n =
    subst (λ b. c.may_serve-is_first.result ≡ is_sought_in (Some share) b n (get_or slots n None)) c.busy-busy.ensures
    (subst (λ s. c.may_serve-is_first.result ≡ is_sought_in (Some share) c.busy-busy.result n s) (get_or_read slots n c.index-slot.result.now first.within c.index-slot.ensures None) c.may_serve-is_first.ensures)
    ∙ sought_first share busy n (get_or slots n None) first.due in
    let after : c.after-self.result ≡ turn_after (goes_first_at share busy slots n) (n + 1) start.submission start =
    c.after-self.ensures ∙ ap (λ b. turn_after b (n + 1) start.submission start) comes in
    let moves = moves_written (λ p q. IsServed g.D.Device.facts (Some c.args.steps) c.in-Ok.outcome n p judge q now) n slots c.index_mut.result.now slot first.within c.index_mut.ensures.value (c.in-Ok.ensures.served its) in
    rw c.step_after.ensures (serves_next g.D.Device.facts (Some c.args.steps) c.args.turns share c.in-Ok.outcome n slots start judge (set slots n slot) c.after-self.result now
    (record { first = first; taken = taken; moves = moves; next_is = after }))

pub returns-in-Ok-clause-of_one : goal.returns-in-Ok-clause-of_one
returns-in-Ok-clause-of_one g c = λ of.
    let slots = c.args.self.now.slots.items in
    let n = c.in-Some.number in
    let judge = c.args.judge.now in
    let share = c.args.has_share in
    let start = c.args.self.now.next in
    let busy = fighting judge.under_way in
    let slot = c.serve_at.new.slot in
    let now = c.serve_at.new.judge in
    let first : IsNext share busy slots start n =
    subst (λ b. IsNext share b slots start n) c.busy-busy.ensures (subst (λ s. IsNext share c.busy-busy.result s start n) c.as_slice.ensures.value c.in-Some.ensures) in
    let its : IsOfIn n c.index_mut.result.now judge =
    subst (λ s. IsOfIn n s judge) (sym (get_or_read slots n c.index_mut.result.now first.within c.index_mut.ensures.value None)) (of_in n slots judge of) in
    let moves = moves_written (λ p q. IsServed g.D.Device.facts (Some c.args.steps) c.in-Ok.outcome n p judge q now) n slots c.index_mut.result.now slot first.within c.index_mut.ensures.value (c.in-Ok.ensures.served its) in
    served_of n slots judge (set slots n slot) now g.D.Device.facts (Some c.args.steps) c.in-Ok.outcome busy first.due moves of

pub returns-in-Err-UnderWay-clause-serves : goal.returns-in-Err-UnderWay-clause-serves
returns-in-Err-UnderWay-clause-serves g c = λ of.
    let slots = c.args.self.now.slots.items in
    let n = c.in-Some.number in
    let judge = c.args.judge.now in
    let share = c.args.has_share in
    let start = c.args.self.now.next in
    let busy = fighting judge.under_way in
    let slot = c.serve_at.new.slot in
    let now = c.serve_at.new.judge in
    let first : IsNext share busy slots start n =
    subst (λ b. IsNext share b slots start n) c.busy-busy.ensures (subst (λ s. IsNext share c.busy-busy.result s start n) c.as_slice.ensures.value c.in-Some.ensures) in
    let its : IsOfIn n c.index_mut.result.now judge =
    subst (λ s. IsOfIn n s judge) (sym (get_or_read slots n c.index_mut.result.now first.within c.index_mut.ensures.value None)) (of_in n slots judge of) in
    let taken : asks_at slots n ≡ false =
    subst (λ s. asks_in s ≡ false) (get_or_read slots n c.index-slot.result.now first.within c.index-slot.ensures None) (sym c.asks.ensures ∙ c.if-asks.false) in
    let comes : c.may_serve-is_first.result ≡ goes_first_at share busy slots n =
    subst (λ b. c.may_serve-is_first.result ≡ is_sought_in (Some share) b n (get_or slots n None)) c.busy-busy.ensures
    (subst (λ s. c.may_serve-is_first.result ≡ is_sought_in (Some share) c.busy-busy.result n s) (get_or_read slots n c.index-slot.result.now first.within c.index-slot.ensures None) c.may_serve-is_first.ensures)
    ∙ sought_first share busy n (get_or slots n None) first.due in
    let after : c.after-self.result ≡ turn_after (goes_first_at share busy slots n) (n + 1) start.submission start =
    c.after-self.ensures ∙ ap (λ b. turn_after b (n + 1) start.submission start) comes in
    let moves = moves_written (λ p q. IsStepped c.args.turns n p judge q now) n slots c.index_mut.result.now slot first.within c.index_mut.ensures.value (rw c.in-Err-UnderWay.field-0-is at (c.in-Err-UnderWay.ensures.unanswered its)) in
    record { first = first; taken = taken; moves = moves; next_is = ap (λ (t : Turn). record { command = t.command; submission = n + 1 }) after }

pub returns-in-Err-UnderWay-clause-of_one : goal.returns-in-Err-UnderWay-clause-of_one
returns-in-Err-UnderWay-clause-of_one g c = λ of.
    let slots = c.args.self.now.slots.items in
    let n = c.in-Some.number in
    let judge = c.args.judge.now in
    let share = c.args.has_share in
    let start = c.args.self.now.next in
    let busy = fighting judge.under_way in
    let slot = c.serve_at.new.slot in
    let now = c.serve_at.new.judge in
    let first : IsNext share busy slots start n =
    subst (λ b. IsNext share b slots start n) c.busy-busy.ensures (subst (λ s. IsNext share c.busy-busy.result s start n) c.as_slice.ensures.value c.in-Some.ensures) in
    let its : IsOfIn n c.index_mut.result.now judge =
    subst (λ s. IsOfIn n s judge) (sym (get_or_read slots n c.index_mut.result.now first.within c.index_mut.ensures.value None)) (of_in n slots judge of) in
    let moves = moves_written (λ p q. IsStepped c.args.turns n p judge q now) n slots c.index_mut.result.now slot first.within c.index_mut.ensures.value (rw c.in-Err-UnderWay.field-0-is at (c.in-Err-UnderWay.ensures.unanswered its)) in
    stepped_of n slots judge (set slots n slot) now c.args.turns busy first.due moves

pub returns-in-Err-PutOff-clause-serves : goal.returns-in-Err-PutOff-clause-serves
returns-in-Err-PutOff-clause-serves g c = λ of.
    let slots = c.args.self.now.slots.items in
    let n = c.in-Some.number in
    let judge = c.args.judge.now in
    let share = c.args.has_share in
    let start = c.args.self.now.next in
    let busy = fighting judge.under_way in
    let slot = c.serve_at.new.slot in
    let now = c.serve_at.new.judge in
    let first : IsNext share busy slots start n =
    subst (λ b. IsNext share b slots start n) c.busy-busy.ensures (subst (λ s. IsNext share c.busy-busy.result s start n) c.as_slice.ensures.value c.in-Some.ensures) in
    let its : IsOfIn n c.index_mut.result.now judge =
    subst (λ s. IsOfIn n s judge) (sym (get_or_read slots n c.index_mut.result.now first.within c.index_mut.ensures.value None)) (of_in n slots judge of) in
    let taken : asks_at slots n ≡ false =
    subst (λ s. asks_in s ≡ false) (get_or_read slots n c.index-slot.result.now first.within c.index-slot.ensures None) (sym c.asks.ensures ∙ c.if-asks.false) in
    let comes : c.may_serve-is_first.result ≡ goes_first_at share busy slots n =
    subst (λ b. c.may_serve-is_first.result ≡ is_sought_in (Some share) b n (get_or slots n None)) c.busy-busy.ensures
    (subst (λ s. c.may_serve-is_first.result ≡ is_sought_in (Some share) c.busy-busy.result n s) (get_or_read slots n c.index-slot.result.now first.within c.index-slot.ensures None) c.may_serve-is_first.ensures)
    ∙ sought_first share busy n (get_or slots n None) first.due in
    let after : c.after-self.result ≡ turn_after (goes_first_at share busy slots n) (n + 1) start.submission start =
    c.after-self.ensures ∙ ap (λ b. turn_after b (n + 1) start.submission start) comes in
    let moves = moves_written (λ p q. IsPutOff n p judge q now) n slots c.index_mut.result.now slot first.within c.index_mut.ensures.value (rw c.in-Err-PutOff.field-0-is at (c.in-Err-PutOff.ensures.unanswered its)) in
    record { first = first; taken = taken; moves = moves; next_is = after }

pub returns-in-Err-PutOff-clause-of_one : goal.returns-in-Err-PutOff-clause-of_one
returns-in-Err-PutOff-clause-of_one g c = λ of.
    let slots = c.args.self.now.slots.items in
    let n = c.in-Some.number in
    let judge = c.args.judge.now in
    let share = c.args.has_share in
    let start = c.args.self.now.next in
    let busy = fighting judge.under_way in
    let slot = c.serve_at.new.slot in
    let now = c.serve_at.new.judge in
    let first : IsNext share busy slots start n =
    subst (λ b. IsNext share b slots start n) c.busy-busy.ensures (subst (λ s. IsNext share c.busy-busy.result s start n) c.as_slice.ensures.value c.in-Some.ensures) in
    let its : IsOfIn n c.index_mut.result.now judge =
    subst (λ s. IsOfIn n s judge) (sym (get_or_read slots n c.index_mut.result.now first.within c.index_mut.ensures.value None)) (of_in n slots judge of) in
    let moves = moves_written (λ p q. IsPutOff n p judge q now) n slots c.index_mut.result.now slot first.within c.index_mut.ensures.value (rw c.in-Err-PutOff.field-0-is at (c.in-Err-PutOff.ensures.unanswered its)) in
    put_off_of n slots judge (set slots n slot) now busy first.due moves of
