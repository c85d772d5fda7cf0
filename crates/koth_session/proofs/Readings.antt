-- How what came is read, for the calls of `Inbox`.
use Rattle.std.proofs.Common.{◌≡◌, ◌⊎◌, inl, inr, ℕ, ◌+◌, ◌-◌, ◌≤◌, arith, true, false, true≢false, List, [], ◌∷◌, ◌++◌, length, Option, refl, sym, ap, ◌∙◌, append_assoc}
use Rattle.{std.proofs.lemmas.List.length-append, koth_protocol.specs.{Commands.{Command, Reader, commands_read, read_from}, Lines.lines_from, Reading.{IsReading, Reads}}}
use Rattle.{koth_protocol.specs.declared.script.Met.Met, koth_session.specs.{Inbox.{IsFollowed, IsNext, IsReadTo, is_met}, declared.inbox.Inbox.Inbox}}

pub unmet : (m : Met) → is_met m ≡ false → m ≡ Met.Nothing
unmet Met.Nothing is = refl
unmet Met.Submit is = absurd (true≢false is)
unmet Met.Show is = absurd (true≢false is)
unmet Met.Quit is = absurd (true≢false is)
unmet Met.Request is = absurd (true≢false is)
unmet Met.Bad is = absurd (true≢false is)

module _ {A : Type 0} where
  -- more bytes came
  pub more_came : (old new : Inbox A) (bytes : List ℕ) → new.script ≡ old.script → new.due ≡ old.due → new.waiting ≡ old.waiting ++ bytes
      → new.taken ≡ old.taken + length bytes → length bytes ≤ 16777216 - old.taken
      → (reader : Reader) (came : List ℕ) (done : List Command) → IsFollowed reader old came done → IsFollowed reader new (came ++ bytes) done
  more_came old new bytes same_script same_due waits counts room reader came done f = record {
    line = f.line;
    source = f.source;
    reading = rw same_script f.reading;
    upto = f.upto;
    split = ap (λ l. l ++ bytes) f.split ∙ append_assoc f.upto old.waiting bytes ∙ ap (λ l. f.upto ++ l) (sym waits);
    commands = λ more. rw (same_script, same_due) (f.commands more);
    taken = let both = length-append came bytes in let was : old.taken ≡ length came = f.taken in omega (arith, both, was, counts);
    few = let both = length-append came bytes in let was : old.taken ≡ length came = f.taken in let few : length came ≤ 16777216 = f.few in omega (arith, both, was, room, few);
  }

  -- a byte was read
  pub byte_read : (old new : Inbox A) (byte : ℕ) → old.due ≡ Met.Nothing → old.waiting ≡ byte ∷ new.waiting → new.taken ≡ old.taken
      → ((line : List ℕ) (source : Option (List ℕ)) → IsReading old.script line source → Reads line source byte new.due new.script)
      → (reader : Reader) (came : List ℕ) (done : List Command) → IsFollowed reader old came done → IsFollowed reader new came done
  byte_read old new byte due waits counts reads reader came done f =
      let r = reads f.line f.source f.reading in record {
        line = r.new_line;
        source = r.new_source;
        reading = r.reading;
        upto = f.upto ++ byte ∷ [];
        split = f.split ∙ ap (λ l. f.upto ++ l) waits ∙ sym (append_assoc f.upto (byte ∷ []) new.waiting);
        commands = λ more.
            let were : commands_read reader (f.upto ++ byte ∷ more) ≡ done ++ read_from reader f.source (lines_from f.line (byte ∷ more)) =
            rw due at (f.commands (byte ∷ more)) in
            ap (λ l. commands_read reader l) (append_assoc f.upto (byte ∷ []) more) ∙ were ∙ ap (λ l. done ++ l) (r.commands reader more);
        taken = counts ∙ f.taken;
        few = f.few;
      }

  -- the command that was due was carried out
  pub passed : (old new : Inbox A) → new.script ≡ old.script → new.due ≡ Met.Nothing → new.waiting ≡ old.waiting → new.taken ≡ old.taken
      → (reader : Reader) (came : List ℕ) (done : List Command) (command : Command) → IsFollowed reader old came done → IsNext reader old.due old.script.source command
      → IsFollowed reader new came (done ++ command ∷ [])
  passed old new same_script due same_waiting counts reader came done command f next = record {
    line = f.line;
    source = f.source;
    reading = rw same_script f.reading;
    upto = f.upto;
    split = f.split ∙ ap (λ l. f.upto ++ l) (sym same_waiting);
    commands = λ more. rw (same_script, due) (
        f.commands more ∙ ap (λ l. done ++ l) (next (read_from reader f.source (lines_from f.line more)))
        ∙ sym (append_assoc done (command ∷ []) (read_from reader f.source (lines_from f.line more))));
    taken = counts ∙ f.taken;
    few = f.few;
  }

  pub read_to : (inbox : Inbox A) → (is_met inbox.due ≡ true) ⊎ (inbox.waiting ≡ []) → (reader : Reader) (came : List ℕ) (done : List Command) → IsFollowed reader inbox came done → IsReadTo reader inbox came done
  read_to inbox (inl met_now) reader came done f = record { followed = f; read = λ unmet_now. absurd (true≢false (sym met_now ∙ unmet_now)) }
  read_to inbox (inr empty) reader came done f = record { followed = f; read = λ unmet_now. empty }

  -- no byte waits any more
  pub emptied : (old new : Inbox A) → new.script ≡ old.script → new.due ≡ old.due → new.taken ≡ old.taken → old.waiting ≡ [] → new.waiting ≡ []
      → (reader : Reader) (came : List ℕ) (done : List Command) → IsFollowed reader old came done → IsReadTo reader new came done
  emptied old new same_script same_due same_taken was_empty empty reader came done f = record {
    followed = record {
      line = f.line;
      source = f.source;
      reading = rw same_script f.reading;
      upto = f.upto;
      split = f.split ∙ ap (λ l. f.upto ++ l) (was_empty ∙ sym empty);
      commands = λ more. rw (same_script, same_due) (f.commands more);
      taken = same_taken ∙ f.taken;
      few = f.few;
    };
    read = λ unmet_now. empty;
  }
