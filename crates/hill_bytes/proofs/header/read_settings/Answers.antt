use Rattle.{std.proofs.{Common.{◌≡◌, ◌+◌, ◌++◌, ℕ, List, drop, arith, sym, ap, ◌∙◌}, lemmas.List.drop-drop}, std.specs.Result.result_ok}
use Rattle.{war_types.specs.{declared.settings.RawSettings.RawSettings, Settings.settings_of}, hill_bytes.specs.Layout.{settings_bytes, limit_bytes, stored_limit}}
use Rattle.hill_bytes.proofs.Writes.{settings_of-stored, stored-most, limits-most, with_stored_limits}
use Rattle.hill_bytes.proofs.header.read_settings.Goals as goal

pub returns : goal.returns
returns c = λ s rest are stands.
    let bytes = c.args.bytes.now in
    let all : List ℕ = settings_bytes s ++ limit_bytes s ++ rest in
    let at : (k : ℕ) → drop (16 + k) bytes ≡ drop k all = λ k. sym (drop-drop k 16 bytes) ∙ ap (drop k) stands in
    let core : c.u16_at.result ≡ s.core = c.u16_at.ensures s.core (drop 2 all) (omega (arith, are.core_most)) stands in
    let cycles : c.u32_at.result ≡ s.cycles = c.u32_at.ensures s.cycles (drop 6 all) (omega (arith, are.cycles_most)) (at 2) in
    let processes : c.u16_at-2.result ≡ s.processes = c.u16_at-2.ensures s.processes (drop 8 all) (omega (arith, are.processes_most)) (at 6) in
    let length : c.u16_at-3.result ≡ s.length = c.u16_at-3.ensures s.length (drop 10 all) (omega (arith, are.length_most)) (at 8) in
    let distance : c.u16_at-4.result ≡ s.distance = c.u16_at-4.ensures s.distance (drop 12 all) (omega (arith, are.core_most, are.distance_most)) (at 10) in
    let rounds : c.u16_at-5.result ≡ s.rounds = c.u16_at-5.ensures s.rounds (drop 14 all) (omega (arith, are.rounds_most)) (at 12) in
    let seed : c.u32_at-2.result ≡ s.seed = c.u32_at-2.ensures s.seed (drop 18 all) (omega (arith, are.seed_most)) (at 14) in
    let capacity : c.u16_at-6.result ≡ s.capacity = c.u16_at-6.ensures s.capacity (drop 20 all) (omega (arith, are.capacity_most)) (at 18) in
    let read : c.u16_at-7.result ≡ stored_limit s.core s.read_limit = c.u16_at-7.ensures (stored_limit s.core s.read_limit) (drop 22 all) (omega (arith, stored-most s.core s.read_limit (limits-most s are).0, are.core_most)) (at 20) in
    let write : c.u16_at-8.result ≡ stored_limit s.core s.write_limit = c.u16_at-8.ensures (stored_limit s.core s.write_limit) (drop 24 all) (omega (arith, stored-most s.core s.write_limit (limits-most s are).1, are.core_most)) (at 22) in
    let raw : RawSettings = record { core = c.from.result; cycles = c.u32_at.result; processes = c.from-2.result; length = c.from-3.result; distance = c.from-4.result; rounds = c.from-5.result; seed = c.u32_at-2.result; capacity = c.from-6.result; read_limit = c.from-7.result; write_limit = c.from-8.result } in
    let same : raw ≡ with_stored_limits s = λ i. record {
      core = (c.from.ensures ∙ core) i;
      cycles = cycles i;
      processes = (c.from-2.ensures ∙ processes) i;
      length = (c.from-3.ensures ∙ length) i;
      distance = (c.from-4.ensures ∙ distance) i;
      rounds = (c.from-5.ensures ∙ rounds) i;
      seed = seed i;
      capacity = (c.from-6.ensures ∙ capacity) i;
      read_limit = (c.from-7.ensures ∙ read) i;
      write_limit = (c.from-8.ensures ∙ write) i;
    } in
    c.ok.ensures.value ∙ ap result_ok (c.new.ensures ∙ ap settings_of same ∙ settings_of-stored s are)
