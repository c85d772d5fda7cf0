-- Rows of the definitions, computed.
use Rattle.{std.proofs.Common.{◌≡◌, true, [], codes, refl}, std.specs.Fmt.digits, hill_store.specs.declared.reply.Reply.Reply}
use Rattle.koth_client.specs.{Coming.IsReply, Sending.{dotted_from, lines_taken}}

-- a carriage return at the end of a line, two of them, a last line without its line feed, a line without bytes, and no line
lines : (lines_taken (codes "JMP 0\r\n.x") ≡ codes "JMP 0\n.x\n") × (lines_taken (codes "a\r\r\n") ≡ codes "a\r\n") × (lines_taken (codes "\n") ≡ codes "\n")
    × (lines_taken [] ≡ [])
lines = (refl, refl, refl, refl)

-- a dot, two of them, one that begins no line, and a last line without its line feed
dots : (dotted_from true (codes ".\n..\na.\n") ≡ codes "..\n...\na.\n") × (dotted_from true (codes ".") ≡ codes "..\n") × (dotted_from true [] ≡ [])
dots = (refl, refl, refl)

-- what comes behind the line of a reply is no part of it
replies : IsReply (codes "PLACED 3 2 14\nBAD\n") (Reply.Placed 3 2 14) × IsReply (codes "WORN\n") Reply.Worn
unfolding digits
replies = (refl, refl)
