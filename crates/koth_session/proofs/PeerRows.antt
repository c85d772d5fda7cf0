-- Rows of the definitions, worked by hand.
use Rattle.std.proofs.Common.{◌≡◌, true, false, inl, inr, arith, None, Some, refl}
use Rattle.koth_session.specs.{Peer.{is_due, may_come, settled}, Peers.ComesBefore, declared.end.PeerEnd.PeerEnd}

-- the turn begins at 2 of four: 2, 3, 0, 1
order : ComesBefore 2 2 3 × ComesBefore 2 3 0 × ComesBefore 2 2 1 × ComesBefore 2 0 1
order = (inl (omega arith, omega arith), inr (omega arith, inr (omega arith)), inr (omega arith, inr (omega arith)), inr (omega arith, inl (omega arith)))

-- a session is at its end once no command is due, and at the limit whether its bytes are at their end or not
stands : (settled None false 16777216 true ≡ Some PeerEnd.Limit) × (settled None false 16777215 true ≡ Some PeerEnd.EndOfInput) × (settled None false 16777215 false ≡ None)
    × (settled None true 16777216 true ≡ None) × (settled (Some PeerEnd.Quit) false 0 false ≡ Some PeerEnd.Quit)
stands = (refl, refl, refl, refl, refl)

comes : (may_come None false 7 ≡ 7) × (may_come None true 7 ≡ 0) × (may_come (Some PeerEnd.Unread) false 7 ≡ 0) × (is_due (Some PeerEnd.Unread) true ≡ false)
comes = (refl, refl, refl, refl)
