use Rattle.{std.proofs.{Common.{◌≡◌, ◌∷◌, ◌++◌, drop, sym, ap, ◌∙◌}, lemmas.List.drop-drop}, std.specs.Int.bytes_high_first}
use Rattle.hill_bytes.proofs.header.read_entry.Goals as goal

pub returns : goal.returns
returns c = λ e rest entry_fits age_fits stands.
    let bytes = c.args.bytes.now in
    let entry : c.u64_at.result ≡ e.entry = c.u64_at.ensures e.entry (e.slot ∷ bytes_high_first 8 e.age ++ rest) entry_fits stands in
    let slot : c.u8_at.result ≡ e.slot = c.u8_at.ensures e.slot (bytes_high_first 8 e.age ++ rest) (sym (drop-drop 8 c.args.at bytes) ∙ ap (drop 8) stands) in
    let age : c.u64_at-2.result ≡ e.age = c.u64_at-2.ensures e.age rest age_fits (sym (drop-drop 9 c.args.at bytes) ∙ ap (drop 9) stands) in
    λ i. record { entry = entry i; slot = slot i; age = age i }
