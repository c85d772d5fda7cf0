use Rattle.{std.proofs.Common.{◌≡◌, ◌+◌, ◌<◌, ◌≤◌, ◌^◌, ◌++◌, ◌∷◌, [], ◌∙◌, List, All, length, map, ap, subst, sym, arith, vec_capacity}, std.specs.Vec.with_items}
use Rattle.{std.proofs.lemmas.List.{length-map, with_items_is}, koth_hill.specs.Kept.{Kept, Entrant, IsKept, fresh, hill_in, kept_of, known, members_of, rows_of, stayed, without_place}}
use Rattle.koth_hill.proofs.{Verdicts.judged-entry, Admitting.{few-fresh, place-shown, place-within, entry-seen, few-left, ages-left, IsTakenIn, taken-in}, Hills.pushed-entrant}
use Rattle.koth_hill.proofs.hill.Hill.admit.Given.{Over}
use Rattle.koth_hill.proofs.hill.Hill.admit.Goals as goal

pub of-bouts-requires : goal.of-bouts-requires
of-bouts-requires g c =
    let P : Kept → Type 0 = IsKept in
    few-fresh c.args.self.now c.args.warrior c.args.judged.now c.bouts.result.now (subst P c.self.view_is c.self.invariant.0) c.requires.verdict c.bouts.ensures

pub let_fall-requires : goal.let_fall-requires
let_fall-requires g c =
    place-within c.args.judged.now.falls c.place_of-place.result c.self.inside.members.items
    (place-shown c.args.judged.now.falls c.place_of-place.result c.self.inside.members.items c.as_slice.result.now c.place_of-place.ensures c.as_slice.ensures.value)

pub stay_on-requires : goal.stay_on-requires
stay_on-requires g c =
    let es : List Entrant = c.self.inside.members.items in
    let place = c.place_of-place.result in
    let found = place-shown c.args.judged.now.falls place es c.as_slice.result.now c.place_of-place.ensures c.as_slice.ensures.value in
    let entry : c.args.judged.now.entry ≡ c.self.inside.counter + 1 =
    entry-seen c.self.inside.settings c.self.inside.counter es c.args.self.now c.args.warrior c.args.judged.now place c.self.view_is c.self.invariant.0 c.requires.verdict c.requires.stays found in
    let fits : c.self.inside.counter + 1 < 2 ^ 64 = omega (arith, entry) in
    let P : List Entrant → Type 0 = λ xs. All (λ e. e.member.age + 1 < 2 ^ 64) xs in
    subst P (sym (c.as_mut_slice.ensures.value ∙ c.let_fall.ensures.items))
    (ages-left c.self.inside.settings c.self.inside.counter es c.args.self.now c.args.warrior c.args.judged.now place c.self.view_is c.self.invariant.0 c.requires.verdict c.requires.stays found (2 ^ 64) fits)

-- those on the hill after the push
taken : (g : Over) (c : goal.Joined-push g) →
    IsTakenIn (kept_of c.self.inside.settings c.args.judged.now.entry (members_of c.push.new.self.items) (rows_of c.push.new.self.items)) c.args.self.now c.args.warrior
taken g c =
    let es : List Entrant = c.self.inside.members.items in
    let place = c.place_of-place.result in
    let found = place-shown c.args.judged.now.falls place es c.as_slice.result.now c.place_of-place.ensures c.as_slice.ensures.value in
    let few : length (without_place place es) ≤ c.self.inside.settings.capacity =
    few-left c.self.inside.settings c.self.inside.counter es c.args.self.now c.args.warrior c.args.judged.now place c.self.view_is c.self.invariant.0 c.requires.verdict c.requires.stays found in
    let left : length c.let_fall.new.members.items ≡ length (without_place place es) = ap length c.let_fall.ensures.items in
    let room : c.let_fall.new.members.len < vec_capacity c.let_fall.new.members =
    omega (arith, left, few, c.let_fall.new.members.ok.0, c.let_fall.ensures.capacity, c.self.invariant.1) in
    let size : length c.stay_on.new.members ≡ c.let_fall.new.members.len = ap length c.stay_on.ensures ∙ length-map c.as_mut_slice.result.now (stayed place) ∙ c.as_mut_slice.ensures.len in
    let old : List Entrant = (with_items c.let_fall.new.members c.stay_on.new.members).items in
    let items = pushed-entrant c.push.result old (old ++ c.new.result ∷ []) c.push.new.self.items (c.push.ensures.succeeds room) c.push.ensures.items
    ∙ ap (λ (xs : List Entrant). xs ++ c.new.result ∷ [])
    (with_items_is c.let_fall.new.members c.stay_on.new.members size ∙ c.stay_on.ensures ∙ ap (λ (xs : List Entrant). map (stayed place) xs) (c.as_mut_slice.ensures.value ∙ c.let_fall.ensures.items)) in
    taken-in c.self.inside.settings c.self.inside.counter es c.args.self.now c.args.warrior c.args.judged.now place c.self.view_is c.self.invariant.0 c.requires.verdict c.requires.stays found
    c.push.new.self.items c.forget.new.self c.new.result c.new.ensures
    (c.forget.ensures ∙ ap (λ row. without_place place row) (c.of-bouts.ensures ∙ c.bouts.ensures)) items c.requires.fits

pub invariant_of-self : goal.invariant_of-self
invariant_of-self g c = ((taken g c).is, omega (arith, c.push.ensures.capacity, c.let_fall.ensures.capacity, c.self.invariant.1))

pub returns-clause-kept : goal.returns-clause-kept
returns-clause-kept g c = (taken g c).kept

pub returns-clause-step : goal.returns-clause-step
returns-clause-step g c = (taken g c).step

pub returns-clause-others : goal.returns-clause-others
returns-clause-others g c = (taken g c).others

pub returns-clause-counter : goal.returns-clause-counter
returns-clause-counter g c =
    judged-entry (known c.args.self.now c.args.warrior) (fresh c.args.self.now c.args.warrior) (hill_in c.args.self.now) c.args.warrior c.args.judged.now c.requires.verdict
