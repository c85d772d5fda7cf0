use Rattle.{std.proofs.Common.{◌≡◌, ◌++◌, Some, length, drop, replicate, arith, subst, All, sym}, war_types.specs.Warrior.HasNumbersBelow}
use Rattle.hill_bytes.specs.Layout.{new_layout, fields_bytes, filled, result_places, results_in}
use Rattle.hill_bytes.proofs.SlotBytes.{fields_rest, code-stands, len-at, start-at, name-at, author-at, warrior-made}
use Rattle.hill_bytes.proofs.slot.Slot.read.Goals as goal

pub returns-in_default-clause-every : goal.returns-in_default-clause-every
returns-in_default-clause-every g c = λ w is.
    let some : c.title_at.result ≡ Some w.name = c.title_at.ensures w.name (filled 48 w.author ++ (result_places (results_in new_layout c.args.self.now.sectors) ++ replicate 40 0)) is.titled.name (name-at new_layout c.args.self.now.sectors w (results_in new_layout c.args.self.now.sectors) is.sectors_are) in
    absurd (c.in_default.not-Some w.name some)

pub returns-in_default-title_at-clause-every : goal.returns-in_default-title_at-clause-every
returns-in_default-title_at-clause-every g c = λ w is.
    let some : c.title_at-2.result ≡ Some w.author = c.title_at-2.ensures w.author (result_places (results_in new_layout c.args.self.now.sectors) ++ replicate 40 0) is.titled.author (author-at new_layout c.args.self.now.sectors w (results_in new_layout c.args.self.now.sectors) is.sectors_are) in
    absurd (c.in_default-title_at.not-Some w.author some)

pub returns-then-len-clause-every : goal.returns-then-len-clause-every
returns-then-len-clause-every g c = λ w is.
    let few = is.fits.length in
    let most = c.core-core.ensures.settings.length_most in
    let len : c.u16_at.result ≡ length w.code = c.u16_at.ensures (length w.code) (drop 2 (fields_rest w (results_in new_layout c.args.self.now.sectors))) (omega (arith, few, most)) (len-at new_layout c.args.self.now.sectors w (results_in new_layout c.args.self.now.sectors) is.sectors_are) in
    absurd (omega (arith, few, most, len))

pub returns-clause-every : goal.returns-clause-every
returns-clause-every g c = λ w is.
    let sectors = c.args.self.now.sectors in
    let few = is.fits.length in
    let most = c.core-core.ensures.settings.length_most in
    let first = is.fits.start in
    let len : c.u16_at.result ≡ length w.code = c.u16_at.ensures (length w.code) (drop 2 (fields_rest w (results_in new_layout c.args.self.now.sectors))) (omega (arith, few, most)) (len-at new_layout sectors w (results_in new_layout sectors) is.sectors_are) in
    let start : c.u16_at-start.result ≡ w.start = c.u16_at-start.ensures w.start (drop 4 (fields_rest w (results_in new_layout c.args.self.now.sectors))) (omega (arith, few, most, first)) (start-at new_layout sectors w (results_in new_layout sectors) is.sectors_are) in
    let some_name : c.title_at.result ≡ Some w.name = c.title_at.ensures w.name (filled 48 w.author ++ (result_places (results_in new_layout c.args.self.now.sectors) ++ replicate 40 0)) is.titled.name (name-at new_layout sectors w (results_in new_layout sectors) is.sectors_are) in
    let some_author : c.title_at-2.result ≡ Some w.author = c.title_at-2.ensures w.author (result_places (results_in new_layout c.args.self.now.sectors) ++ replicate 40 0) is.titled.author (author-at new_layout sectors w (results_in new_layout sectors) is.sectors_are) in
    let was_name : c.title_at.result ≡ Some c.in-Some.name = c.in-Some.is in
    let was_author : c.title_at-2.result ≡ Some c.in-Some-title_at.author = c.in-Some-title_at.is in
    let name : c.in-Some.name ≡ w.name = cc in
    let author : c.in-Some-title_at.author ≡ w.author = cc in
    let below : All (HasNumbersBelow c.core-core.result) w.code = subst (λ core. All (HasNumbersBelow core) w.code) (sym c.core-core.ensures.value) is.fits.numbers in
    let code : c.in_ok-code.code.items ≡ w.code = c.in_ok-code.ensures w.code (replicate 224 0 ++ fields_bytes w (results_in new_layout sectors)) (omega (arith, len)) below (code-stands new_layout sectors w (results_in new_layout sectors) is.sectors_are) in
    warrior-made c.args.settings.now _ _ _ _ w c.new.result code start name author is.fits c.new.ensures
