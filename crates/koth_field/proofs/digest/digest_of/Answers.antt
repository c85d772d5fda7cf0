-- One member more was taken.
use Rattle.std.{specs.List.flat_map, proofs.{Common.{◌≡◌, ◌∙◌, ◌+◌, ◌<◌, ◌≤◌, ◌++◌, ◌∷◌, [], ℕ, List, All, length, map, take, get_or, ap, refl, sym, subst, arith, append-nil}, lemmas.List.{take_more, take_all, map_push, Concat.flat_map-append, Elements.All-get_or}}}
use Rattle.{war_types.specs.Warrior.Fits, sha2.specs.Hashers.Holds256, hex.specs.Hex.encode_lower, sha2.specs.Sha256.sha256}
use Rattle.koth_field.{specs.{Field.{entrant_of, entrants_of}, Digest.{entrant_text, field_text}, declared.field.Member.Member}, proofs.Members.{text_more, fits_at}}
use Rattle.koth_field.proofs.digest.digest_of.Goals as goal

pub entrant_text-requires : goal.entrant_text-requires
entrant_text-requires g c = fits_at c.args.settings.now c.args.members.now c.loop-place.place c.index-members-place.result c.loop-place-test.true c.index-members-place.is c.requires

pub loop-place-preserved : goal.loop-place-preserved
loop-place-preserved g c =
    let core = c.args.settings.now.core in
    let before = field_text core (entrants_of (take c.loop-place.place c.args.members.now)) in
    let more = text_more core c.args.members.now c.loop-place.place c.index-members-place.result c.loop-place-test.true c.index-members-place.is in
    let text = c.as_slice.ensures.value ∙ c.in_ok-text.ensures in
    subst (λ m. Holds256 c.update.new.self m) (ap (λ t. before ++ t) text ∙ sym more) (c.update.ensures before c.loop-place.invariant)
